-- Laws of the length of a line in a piece of input, and of what is kept of a line. Assumes nothing.
use Prim.Native.Nat.{ℕ, suc, ◌+◌, ◌≤◌, ◌<◌}
use mathlib.Core.Path.{◌≡◌, refl, sym, ap, ◌∙◌}
use mathlib.Core.Bool.{Bool, true, false}
use mathlib.Core.List.{List, [], ◌∷◌, ◌++◌, append-nil}
use native.Mathlib.Omega.{arith}
use borrow.Author.Tests.{lt-ltb, le-ltb}
use lib.Dec.{eqb, ltb}
use lib.ListN.{length, take}
use lib.Seq.{take_all, take-append-add, take_at, length-take-le}
use mathlib.Core.Bool.{cond}
use mathlib.Core.Logic.{⊎_elim}
use Prim.Native.Nat.{◌-◌}
use Rattle.std.specs.List.{position, position_or_len}
use Rattle.std.specs.Prelude.{Some, None}
use Rattle.std.specs.Option.{unwrap_or}
use Rattle.std.proofs.lemmas.Bool.{cases_lt}
use Rattle.std.proofs.lemmas.List.Sums.{prefix_len-le-length}
use Rattle.std.proofs.lemmas.List.Recursion.{is_position_or_len}
use Rattle.model.specs.Parts.{choose}
use Rattle.model.proofs.Tests.{below}
use Rattle.walk.specs.Lines.{step, output_line, last_line, outputs, line_length, Reader, kept, ended, goes_on, feed, finish}

-- ---- the length of a line

counted_step : (b : Bool) (n : ℕ) → choose b 0 (n + 1) ≡ cond b 0 (1 + n)
counted_step true n = refl
counted_step false n = omega arith

line_length_first : (piece : List ℕ) → line_length piece ≡ position_or_len (λ c. eqb c 10) piece
unfolding line_length
line_length_first piece = is_position_or_len line_length (λ c. eqb c 10) refl (λ c piece. counted_step (eqb c 10) (line_length piece)) piece

-- The length of a line, as std finds its end.
pub line_length_found : (piece : List ℕ) → unwrap_or (position (λ c. eqb c 10) piece) (length piece) ≡ line_length piece
line_length_found piece = rw (line_length_first piece) (or_len (position_or_len (λ c. eqb c 10) piece) (length piece) (prefix_len-le-length _ piece))
  where
    or_len : (n len : ℕ) → n ≤ len → unwrap_or (cond (ltb n len) (Some n) None) len ≡ n
    or_len n len l = ⊎_elim (λ less. rw (lt-ltb n len less) refl) (λ past. rw (le-ltb n len past) (omega arith)) (cases_lt n len)

pub line_length_le : (piece : List ℕ) → line_length piece ≤ length piece
unfolding line_length
line_length_le [] = omega arith
line_length_le (c ∷ piece) = go (eqb c 10) (line_length_le piece)
  where
    go : (b : Bool) → line_length piece ≤ length piece → choose b 0 (line_length piece + 1) ≤ suc (length piece)
    go true l = omega arith
    go false l = omega arith

-- ---- what a piece leads to

module _ (r : Reader) (piece : List ℕ) (n : ℕ) (e : n ≡ line_length piece) where
  pub feed_goes_on : n ≡ length piece → feed r piece ≡ goes_on r (kept r.line (take n piece)) n
  unfolding feed
  feed_goes_on l = rw (le-ltb (line_length piece) (length piece) (omega arith), l, take_all (length piece) piece (omega arith))

  pub feed_ended : (n ≡ length piece → ⊥) → feed r piece ≡ ended r (kept r.line (take n piece)) (n + 1)
  unfolding feed
  feed_ended l = rw (e, lt-ltb (line_length piece) (length piece) (omega (arith, line_length_le piece, l)))

-- ---- the end of the input

-- A last line that is not empty is answered.
pub finish_line : (r : Reader) → 0 < length r.line → finish r ≡ output_line (step r.state r.line)
unfolding finish outputs
finish_line r l = go r.line l
  where
    go : (line : List ℕ) → 0 < length line → outputs r.state (last_line line) ≡ output_line (step r.state line)
    go [] h = absurd (omega arith)
    go (c ∷ line) h = append-nil _

-- ---- what is kept of a line: 1,027 bytes at most

-- A part from the start is no longer than the list.
pub take_least : (s : List ℕ) (k m : ℕ) → m ≤ k → (m < k → length s ≤ m) → take k s ≡ take m s
take_least s k m l h =
    ⊎_elim (λ (x : m < k). take_all k s (omega (arith, h x)) ∙ sym (take_all m s (h x))) (λ (x : k ≤ m). ap (λ (j : ℕ). take j s) (omega arith))
    (below m k)

-- Of u bytes that are kept and n more, as many as there is room for.
pub kept_more : (line more rest : List ℕ) (used u n : ℕ) → length line ≡ 1027 → take used line ≡ take u line → u ≤ 1027
    → n ≤ length more → take (1027 - u) more ≡ take n more
    → take (u + n) (take u line ++ (take n more ++ rest)) ≡ take 1027 (take used line ++ more)
kept_more line more rest used u n long same room inside all =
    let begun = take u line in
    let lu : length begun ≡ u = length-take-le u line (omega arith) in
    let sum : length begun + (1027 - u) ≡ 1027 = omega (arith, lu) in
    rw same
    (rw lu at (take-append-add begun (take n more ++ rest) n)
    ∙ ap (λ (l : List ℕ). begun ++ l) (take_at (take n more) rest n (length-take-le n more inside) ∙ sym all)
    ∙ sym (rw sum at (take-append-add begun more (1027 - u))))
