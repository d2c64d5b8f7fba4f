-- Lines of lowercase hexadecimal (document 01, "The walk program"). Assumes nothing.
use Rattle.std.specs.Prelude.{ℕ, ◌+◌, ◌-◌, ◌*◌, ◌/◌, ◌%◌, List, [], ◌∷◌, ◌&&◌, ltb, leb}
use Rattle.model.specs.Parts.{choose}

-- The digit of a number below 16: 0 to 9 are the bytes 48 to 57, a to f the bytes 97 to 102.
abbrev pub digit : ℕ → ℕ
digit n = choose (ltb n 10) (48 + n) (87 + n)

-- The number that a digit stands for; 16 of a byte that is no digit.
unfoldable pub value : ℕ → ℕ
value c = choose (leb 48 c && leb c 57) (c - 48) (choose (leb 97 c && leb c 102) (c - 87) 16)

-- The digits of bytes, two for each.
unfoldable pub digits : List ℕ → List ℕ
digits [] = []
digits (b ∷ bytes) = digit (b / 16) ∷ digit (b % 16) ∷ digits bytes

-- The bytes that a line spells, unless it is not hexadecimal or has an odd number of digits.
pub data Spelt : Type 0 where
  Bytes : List ℕ → Spelt
  Neither : Spelt

-- A byte before those that the rest of a line spells.
abbrev pub before : ℕ → Spelt → Spelt
before b (Bytes bytes) = Bytes (b ∷ bytes)
before b Neither = Neither

-- What a line spells, two digits for each byte.
unfoldable pub decode : List ℕ → Spelt
decode [] = Bytes []
decode (h ∷ []) = Neither
decode (h ∷ l ∷ line) = choose (ltb (value h) 16 && ltb (value l) 16) (before (16 * value h + value l) (decode line)) Neither
