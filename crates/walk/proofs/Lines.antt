-- Input in pieces: however it is cut, the output is that of its lines. Assumes nothing.
use Prim.Native.Nat.{ℕ, ◌+◌, ◌≤◌, ◌<◌}
use mathlib.Core.Path.{◌≡◌, refl, sym, ap, ◌∙◌}
use mathlib.Core.Logic.{⊎_elim}
use mathlib.Core.List.{List, [], ◌∷◌, ◌++◌, append-nil}
use native.Mathlib.Omega.{arith}
use native.Mathlib.Numerals.{add-one}
use lib.ListN.{length, take, drop}
use lib.Seq.{append_snoc, drop-append_seam}
use borrow.Author.Tests.{lt-ltb, le-ltb, eq-eqb, ne_eqb}
use Rattle.model.proofs.Tests.{below, equal}
use Rattle.claims.specs.State.{State, start}
use Rattle.walk.specs.Lines.{lines_from, outputs, walk, line_length, Reader, feed, finish, Reads, ends, piece}
use Rattle.walk.proofs.Kept.{step_kept, take-take-append}

-- ---- the lines of a piece and what follows it

-- A piece with no byte 0a lengthens the line.
lines_from_on : (line p rest : List ℕ) → length p ≤ line_length p → lines_from line (p ++ rest) ≡ lines_from (line ++ p) rest
unfolding lines_from line_length
lines_from_on line [] rest h = rw append-nil
lines_from_on line (c ∷ p) rest h =
    ⊎_elim (λ e. absurd (omega (arith, rw (eq-eqb c 10 e) at h)))
    (λ n. rw (ne_eqb c 10 n) (lines_from_on (line ++ (c ∷ [])) p rest (omega (arith, rw (ne_eqb c 10 n) at h)) ∙ rw append_snoc))
    (equal c 10)

-- The first byte 0a of a piece ends the line.
lines_from_ends : (line p rest : List ℕ) → line_length p < length p
    → lines_from line (p ++ rest) ≡ (line ++ take (line_length p) p) ∷ lines_from [] (drop (line_length p + 1) (p ++ rest))
unfolding lines_from line_length
lines_from_ends line [] rest h = absurd (omega arith)
lines_from_ends line (c ∷ p) rest h =
    ⊎_elim (λ e. rw (eq-eqb c 10 e, append-nil))
    (λ n. rw (ne_eqb c 10 n) (lines_from_ends (line ++ (c ∷ [])) p rest (omega (arith, rw (ne_eqb c 10 n) at h)) ∙ simp (add-one, append_snoc)))
    (equal c 10)

-- ---- what is kept of a line

outputs-kept : (w : State) (line input : List ℕ) → outputs w (lines_from (take 1027 line) input) ≡ outputs w (lines_from line input)
unfolding lines_from outputs
outputs-kept w [] [] = refl
outputs-kept w (c ∷ line) [] = rw (step_kept w (c ∷ line))
outputs-kept w line (c ∷ input) =
    ⊎_elim (λ e. rw (eq-eqb c 10 e, step_kept))
    (λ n.
    rw (ne_eqb c 10 n)
    (sym (outputs-kept w (take 1027 line ++ (c ∷ [])) input)
    ∙ rw (take-take-append 1027 line (c ∷ [])) (outputs-kept w (line ++ (c ∷ [])) input)))
    (equal c 10)

-- ---- a piece, and all of them

-- What is still to be written, with an input to come.
abbrev output_of : Reader → (input : List ℕ) → List ℕ
output_of r input = outputs r.state (lines_from r.line input)

-- The output of a piece, with that of what is left after it.
feed-outputs : (r : Reader) (p rest : List ℕ)
    → let f = feed r p in f.output ++ output_of f.reader (drop f.taken (p ++ rest)) ≡ output_of r (p ++ rest)
unfolding feed outputs
feed-outputs r p rest =
    ⊎_elim (λ l. rw (lt-ltb _ _ l, lines_from_ends r.line p rest l, step_kept))
    (λ l. rw (le-ltb _ _ l, lines_from_on r.line p rest l, drop-append_seam) (outputs-kept r.state (r.line ++ p) rest))
    (below (line_length p) (length p))

pub pieces : (r : Reader) (input output : List ℕ) → Reads r input output → output ≡ output_of r input
unfolding finish lines_from
pieces _ _ _ (ends r) = refl
pieces _ _ _ (piece r p rest later long reads) =
    ap (λ (o : List ℕ). (feed r p).output ++ o) (pieces _ _ _ reads) ∙ feed-outputs r p rest

-- ---- every input is read

pub feed_takes : (r : Reader) (p : List ℕ) → 0 < length p → (0 < (feed r p).taken) × ((feed r p).taken ≤ length p)
unfolding feed
feed_takes r p long =
    let n = line_length p in
    let m = length p in
    ⊎_elim (λ l. rw (lt-ltb n m l) (omega arith)) (λ l. rw (le-ltb n m l) (omega arith)) (below n m)

feed_byte : (r : Reader) (c : ℕ) → (feed r (c ∷ [])).taken ≡ 1
unfolding feed line_length
feed_byte r c = ⊎_elim (λ e. rw (eq-eqb c 10 e)) (λ n. rw (ne_eqb c 10 n)) (equal c 10)

-- The input is lent byte by byte.
reads_lines : (r : Reader) (input : List ℕ) → Reads r input (output_of r input)
unfolding finish lines_from
reads_lines r [] = ends r
reads_lines r (c ∷ input) =
    let f = feed r (c ∷ []) in
    rw (feed-outputs r (c ∷ []) input) at
    (piece r (c ∷ []) input (output_of f.reader (drop f.taken (c ∷ input))) (omega arith) (rw (feed_byte r c) (reads_lines f.reader input)))

pub reads : (input : List ℕ) → Reads (record { state = start; line = [] }) input (walk input)
reads input = reads_lines _ input
