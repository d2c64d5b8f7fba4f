-- What is proved of the layout of the structs. Assumes nothing.
use Rattle.std.specs.Prelude.{ℕ, ◌+◌, ◌*◌, ◌^◌, ◌<◌, ◌≡◌, List, length}
use Rattle.model.specs.declared.Geometry.{Geometry}
use Rattle.model.specs.declared.Session.{Session}
use Rattle.model.specs.Parts.{part}
use Rattle.model.specs.Session.{count_of}
use Rattle.records.specs.Numbers.{eight_at, three_bytes}
use Rattle.records.specs.Structs.{bit_of, geometry_in, geometry_bytes, session_in, session_bytes, handed_back}

-- The numbers of a geometry are of 64 bits.
pub record Numbers64 (g : Geometry) : Type 0 where
  pub b_fits : g.b < 2 ^ 64
  pub s_fits : g.s < 2 ^ 64
  pub p_fits : g.p < 2 ^ 64

-- The numbers of a session are of 64 bits, its keys are 480 bytes, and its counts 15.
pub record Fits (s : Session) : Type 0 where
  pub geometry_fits : Numbers64 s.geometry
  pub k_fits : s.k < 2 ^ 64
  pub start_fits : s.start < 2 ^ 64
  pub keys_long : length s.keys ≡ 480
  pub counts_long : length s.counts ≡ 15
  pub counts_fit : (i : ℕ) → i < 15 → count_of s i < 2 ^ 64

-- What a C program finds in the fields of a session, each at its byte.
pub record SessionFields (s : Session) (r : List ℕ) : Type 0 where
  pub block_bytes_lem : eight_at 0 r ≡ s.geometry.b
  pub slice_blocks : eight_at 8 r ≡ s.geometry.s
  pub slices : eight_at 16 r ≡ s.geometry.p
  pub volume : eight_at 24 r ≡ s.k
  pub is_open : eight_at 32 r ≡ bit_of s.opened
  pub start_place_lem : eight_at 40 r ≡ s.start
  pub data_keys_lem : part 48 480 r ≡ s.keys
  pub slice_counts : (i : ℕ) → i < 15 → eight_at (528 + 8 * i) r ≡ count_of s i

-- And in a struct of three numbers.
pub record Fields (x y z : ℕ) (r : List ℕ) : Type 0 where
  pub first : eight_at 0 r ≡ x
  pub second : eight_at 8 r ≡ y
  pub third : eight_at 16 r ≡ z

-- What is written stands in the header's fields, reads back as it was, and is as long as its struct.
pub record RecordLaws : Type 0 where
  pub session_fields : (s : Session) → Fits s → SessionFields s (session_bytes s)
  pub session_again : (s : Session) → Fits s → session_in (session_bytes s) ≡ s
  pub session_long : (s : Session) → length s.keys ≡ 480 → length s.counts ≡ 15 → length (session_bytes s) ≡ 648
  pub session_served : (handed kept : List ℕ) → handed_back 0 handed kept ≡ handed
  pub session_full : (handed kept : List ℕ) → handed_back 22 handed kept ≡ handed
  pub session_kept : (number : ℕ) → (number ≡ 0 → ⊥) → (number ≡ 22 → ⊥) → (handed kept : List ℕ) → handed_back number handed kept ≡ kept
  pub geometry_fields : (g : Geometry) → Numbers64 g → Fields g.b g.s g.p (geometry_bytes g)
  pub geometry_again : (g : Geometry) → Numbers64 g → geometry_in (geometry_bytes g) ≡ g
  pub three_long : (x y z : ℕ) → length (three_bytes x y z) ≡ 24
