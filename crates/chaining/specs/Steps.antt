-- What the steps of an opening leave, in the model's terms. Assumes nothing.
use Rattle.std.specs.Prelude.{ℕ, ◌≡◌, List}
use Rattle.gcm_spec.specs.Gcm.{Opened, Text, WrongTag}
use Rattle.model.specs.declared.Geometry.{Geometry}
use Rattle.model.specs.Parts.{choose}
use Rattle.model.specs.Opening.{Chain, Keys, Broken, bad_header, all_keys, all_counts}

-- A header opened: 7 where its tag is wrong; else its text, and 8 where its N or S is.
abbrev pub HeaderOpened : Geometry → Opened → (number : ℕ) → (text : List ℕ) → Type 0
HeaderOpened g WrongTag number text = number ≡ 7
HeaderOpened g (Text t) number text = (text ≡ t) × (number ≡ choose (bad_header g t) 8 0)

-- The chain of headers opened: the data keys and the counts, 0 above k; or 7 or 8.
abbrev pub ChainOpened : Chain → (k number : ℕ) → (keys counts : List ℕ) → Type 0
ChainOpened (Keys veks ns) k number keys counts = (number ≡ 0) × (keys ≡ all_keys veks k) × (counts ≡ all_counts ns k)
ChainOpened (Broken n) k number keys counts = (number ≡ n) × (number ≡ 0 → ⊥)
