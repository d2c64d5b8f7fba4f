-- The public call of counter mode (document 01, "The cipher's parts" and "Cipher calls: 3, 13, 15"). Assumes nothing.
use Rattle.std.specs.Prelude.{ℕ, not, eqb, ltb}
use Rattle.refusals.specs.Numbers.{refuse}

-- The refusal of a call, from the lengths of key, IV, text and output; 0 where there is none.
unfoldable pub ctr_refusal : (key iv text out : ℕ) → ℕ
ctr_refusal key iv text out =
    refuse (not (eqb key 32)) 3
    (refuse (not (eqb iv 16)) 13
    (refuse (ltb 4096 text) 13
    (refuse (not (eqb out text)) 13
    0)))
