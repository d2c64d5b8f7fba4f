-- What is proved of the field and the S-box beside the contracts. Assumes nothing.
use Rattle.std.specs.Prelude.{ℕ, ◌<◌, ◌≡◌, [], ◌∷◌}
use Rattle.field.specs.Field.{times, inverse}
use Rattle.field.specs.Sbox.{sbox}

pub record FieldLaws : Type 0 where
  -- The inverse is one: x • x⁻¹ is 1 for every byte but 0, whose inverse is 0 (4.4).
  pub inverts : (x : ℕ) → 0 < x → x < 256 → times x (inverse x) ≡ 1
  pub zero : inverse 0 ≡ 0
  -- Worked examples: 57 • 83 and 57 • 13 (4.2), SBOX of 53 (5.1.1) and of 00 and 01 (table 4).
  pub examples : (times 0x57 0x83 ∷ times 0x57 0x13 ∷ sbox 0x53 ∷ sbox 0x00 ∷ sbox 0x01 ∷ []) ≡ (0xc1 ∷ 0xfe ∷ 0xed ∷ 0x63 ∷ 0x7c ∷ [])
