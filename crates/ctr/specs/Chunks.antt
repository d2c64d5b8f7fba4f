-- What the loop over a chunk of a text leaves. Assumes nothing.
use Rattle.std.specs.Prelude.{ℕ, zero, suc, ◌+◌, List, get_or, set}
use Rattle.std.specs.Int.Bits.{bit_xor}

-- The list out, its k bytes from place at on being the sums of those of text and of the bytes of buf from place off on.
unfoldable pub add_stream : List ℕ → ℕ → ℕ → ℕ → List ℕ → List ℕ → List ℕ
add_stream buf off at zero text out = out
add_stream buf off at (suc k) text out =
    set (add_stream buf off at k text out) (at + k) (bit_xor (get_or text (at + k) 0) (get_or buf (off + k) 0))
