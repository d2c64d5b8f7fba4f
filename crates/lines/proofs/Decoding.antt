-- Laws of decoding a line, two digits a turn. Assumes nothing.
use Prim.Native.Nat.{ℕ, suc, ◌+◌, ◌*◌, ◌/◌, ◌≤◌, ◌<◌}
use mathlib.Core.Path.{◌≡◌, refl, sym, ap, ◌∙◌}
use mathlib.Core.Bool.{Bool, true, false, ◌&&◌}
use mathlib.Core.List.{List, [], ◌∷◌, ◌++◌, append_assoc, append-nil}
use native.Mathlib.Numerals.{add-one}
use native.Mathlib.Omega.{arith}
use borrow.Author.Tests.{lt-ltb, le-ltb}
use lib.ListN.{length, get_or, set, take, drop}
use lib.Seq.{drop-cons, drop-length, take-suc-set}
use lib.Dec.{ltb}
use Rattle.model.specs.Parts.{choose}
use Rattle.lines.specs.Hexadecimal.{Spelt, Bytes, Neither, value, before, decode}

choose_same : {A : Type 0} (b : Bool) (a : A) → choose b a a ≡ a
choose_same true a = refl
choose_same false a = refl

pub decode_odd : (line : List ℕ) → (2 * (length line / 2) ≡ length line → ⊥) → decode line ≡ Neither
unfolding decode
decode_odd [] odd = absurd (odd refl)
decode_odd (h ∷ []) odd = refl
decode_odd (h ∷ l ∷ line) odd = rw (decode_odd line (λ e. odd (omega arith))) (choose_same (ltb (value h) 16 && ltb (value l) 16) Neither)

-- Bytes before those that the rest of a line spells.
abbrev pub following : List ℕ → Spelt → Spelt
following bytes (Bytes rest) = Bytes (bytes ++ rest)
following bytes Neither = Neither

following_before : (bytes : List ℕ) (b : ℕ) (s : Spelt) → following bytes (before b s) ≡ following (bytes ++ (b ∷ [])) s
following_before bytes b (Bytes rest) = ap Bytes (sym (append_assoc bytes (b ∷ []) rest))
following_before bytes b Neither = refl

pub decode-start : (line frame : List ℕ) → decode line ≡ following (take 0 frame) (decode (drop (2 * 0) line))
decode-start line frame = go (decode line)
  where
    go : (s : Spelt) → s ≡ following [] s
    go (Bytes rest) = refl
    go Neither = refl

module _ (line : List ℕ) (i : ℕ) (inside : 2 * i + 1 < length line) where
  abbrev high : ℕ
  high = value (get_or line (2 * i) 0)

  abbrev low : ℕ
  low = value (get_or line (2 * i + 1) 0)

  decode_turn : decode (drop (2 * i) line)
      ≡ choose (ltb high 16 && ltb low 16) (before (16 * high + low) (decode (drop (2 * (i + 1)) line))) Neither
  unfolding decode
  decode_turn =
      let next : 2 * (i + 1) ≡ suc (suc (2 * i)) = omega arith in
      rw (next, add-one, drop-cons line (2 * i) 0 (omega arith), drop-cons line (suc (2 * i)) 0 (omega arith)) refl

  pub decode_pair : (frame : List ℕ) → i < length frame → high < 16 → low < 16
      → following (take i frame) (decode (drop (2 * i) line))
      ≡ following (take (i + 1) (set frame i (16 * high + low))) (decode (drop (2 * (i + 1)) line))
  decode_pair frame f h l =
      rw (decode_turn, lt-ltb high 16 h, lt-ltb low 16 l)
      (following_before (take i frame) (16 * high + low) (decode (drop (2 * (i + 1)) line))
      ∙ rw (add-one i, take-suc-set frame i (16 * high + low) f) refl)

  pub decode_high : (bytes : List ℕ) → 16 ≤ high → following bytes (decode (drop (2 * i) line)) ≡ Neither
  decode_high bytes h = rw (decode_turn, le-ltb high 16 h) refl

  pub decode_low : (bytes : List ℕ) → high < 16 → 16 ≤ low → following bytes (decode (drop (2 * i) line)) ≡ Neither
  decode_low bytes h l = rw (decode_turn, lt-ltb high 16 h, le-ltb low 16 l) refl

pub decode_done : (line frame : List ℕ) (i n : ℕ) → i ≡ n → 2 * n ≡ length line
    → following (take i frame) (decode (drop (2 * i) line)) ≡ Bytes (take n frame)
unfolding decode
decode_done line frame i n e all = rw (e, all, drop-length) (ap Bytes (append-nil (take n frame)))
