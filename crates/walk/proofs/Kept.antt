-- What is kept of a line is enough: its first 1,027 bytes get the answer of the whole. Assumes nothing.
use Prim.Native.Nat.{ℕ, zero, suc, ◌+◌, ◌*◌, ◌≤◌, ◌<◌}
use mathlib.Core.Path.{◌≡◌, refl, sym, ap, ◌∙◌}
use mathlib.Core.Bool.{Bool, true, false, ◌&&◌}
use mathlib.Core.Logic.{⊎_elim}
use mathlib.Core.List.{List, [], ◌∷◌, ◌++◌}
use native.Mathlib.Omega.{arith}
use lib.Dec.{ltb}
use lib.ListN.{length, take, length-take}
use lib.Seq.{take_all}
use borrow.Author.Tests.{lt-ltb}
use Rattle.model.specs.Parts.{choose}
use Rattle.model.proofs.Tests.{below}
use Rattle.lines.specs.Hexadecimal.{Spelt, Bytes, Neither, value, before, decode}
use Rattle.claims.specs.State.{State}
use Rattle.claims.specs.Claims.{refused_by}
use Rattle.frames.specs.Frames.{on_frame}
use Rattle.walk.specs.Lines.{step}

-- The digits of a line that spells bytes.
abbrev Spells : Spelt → ℕ → Type 0
Spells (Bytes bytes) n = n ≡ 2 * length bytes
Spells Neither n = Unit

decode_spells : (line : List ℕ) → Spells (decode line) (length line)
unfolding decode
decode_spells [] = refl
decode_spells (h ∷ []) = tt
decode_spells (h ∷ l ∷ line) = go (ltb (value h) 16 && ltb (value l) 16) (decode line) (decode_spells line)
  where
    go : (b : Bool) (s : Spelt) → Spells s (length line) → Spells (choose b (before (16 * value h + value l) s) Neither) (suc (suc (length line)))
    go true (Bytes bytes) e = omega arith
    go true Neither e = tt
    go false s e = tt

pub decode-length : (line bytes : List ℕ) → decode line ≡ Bytes bytes → length line ≡ 2 * length bytes
decode-length line bytes e = rw e at (decode_spells line)

-- A line with more digits than the longest frame is refused, whatever it holds.
pub step_long : (w : State) (line : List ℕ) → 1026 < length line → step w line ≡ refused_by w 14
unfolding step on_frame
step_long w line long = go (decode line) refl
  where
    go : (s : Spelt) → decode line ≡ s → on_frame w s ≡ refused_by w 14
    go Neither e = refl
    go (Bytes []) e = refl
    go (Bytes (kind ∷ fields)) e = rw (lt-ltb 513 (1 + length fields) (omega (arith, decode-length line (kind ∷ fields) e)))

pub step_kept : (w : State) (line : List ℕ) → step w (take 1027 line) ≡ step w line
step_kept w line = ⊎_elim long (λ (l : length line ≤ 1027). ap (step w) (take_all 1027 line l)) (below 1027 (length line))
  where
    long : 1027 < length line → step w (take 1027 line) ≡ step w line
    long l = step_long w (take 1027 line) (simp length-take (omega arith)) ∙ sym (step_long w line (omega arith))

-- Of a line that goes on, what was kept of it before is enough.
pub take-take-append : (n : ℕ) (s t : List ℕ) → take n (take n s ++ t) ≡ take n (s ++ t)
take-take-append zero s t = refl
take-take-append (suc n) [] t = refl
take-take-append (suc n) (c ∷ s) t = ap (λ (l : List ℕ). c ∷ l) (take-take-append n s t)
