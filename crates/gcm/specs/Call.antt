-- The public calls of GCM (document 01, "The cipher's parts" and "Cipher calls: 3, 13, 15"). Assumes nothing.
use Rattle.std.specs.Prelude.{ℕ, not, List, eqb, ltb, length}
use Rattle.refusals.specs.Numbers.{refuse}
use Rattle.gcm_spec.specs.Gcm.{Opened, Text, WrongTag, gcm_open}

-- The refusal for the lengths of key, IV, associated data, text, tag and output, else what the rest says.
unfoldable pub gcm_refusal : (key iv aad text tag out rest : ℕ) → ℕ
gcm_refusal key iv aad text tag out rest =
    refuse (not (eqb key 32)) 3
    (refuse (not (eqb iv 12)) 13
    (refuse (ltb 16 aad) 13
    (refuse (ltb 256 text) 13
    (refuse (not (eqb tag 16)) 13
    (refuse (not (eqb out text)) 13
    rest)))))

-- The refusal of sealing, for a length; 0 where there is none.
abbrev pub seal_refusal : (key iv aad text tag out : List ℕ) → ℕ
seal_refusal key iv aad text tag out = gcm_refusal (length key) (length iv) (length aad) (length text) (length tag) (length out) 0

-- The number of what opening gives: 15 where the tag differs.
abbrev pub opened_number : Opened → ℕ
opened_number (Text text) = 0
opened_number WrongTag = 15

-- The refusal of opening: for a length, else 15 where the tag differs; 0 where there is none.
abbrev pub open_refusal : (key iv aad text tag out : List ℕ) → ℕ
open_refusal key iv aad text tag out =
    gcm_refusal (length key) (length iv) (length aad) (length text) (length tag) (length out) (opened_number (gcm_open key iv aad text tag))

-- A buffer after an opening: the text where the tag was right, else what it held.
abbrev pub opened_over : Opened → List ℕ → List ℕ
opened_over (Text text) old = text
opened_over WrongTag old = old
