-- The call of counter mode from any byte, which document 01 leaves to its callers: the limits are this library's.
-- Assumes nothing.
use Rattle.std.specs.Prelude.{ℕ, zero, suc, ltb}
use Rattle.refusals.specs.Numbers.{refuse}
use Rattle.ctr.specs.Call.{ctr_refusal}

-- The first refusal, else what the rest says.
abbrev pub or_else : ℕ → ℕ → ℕ
or_else zero rest = rest
or_else (suc n) rest = suc n

-- The refusal from the lengths of key, IV, text and output as in counter mode, then 13 for a position above 2^40.
unfoldable pub from_refusal : (key iv text out position : ℕ) → ℕ
from_refusal key iv text out position = or_else (ctr_refusal key iv text out) (refuse (ltb 1099511627776 position) 13 0)
