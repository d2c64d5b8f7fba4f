-- What blocks decipher to: a mapped one, an unmapped one, and those of a claimed slice. Assumes nothing.
use Prim.Native.Nat.{ℕ, ◌+◌, ◌*◌, ◌≤◌, ◌<◌}
use mathlib.Core.Path.{◌≡◌, ap₂, ◌∙◌}
use mathlib.Core.List.{List}
use mathlib.Core.Bool.{Bool, true, false}
use native.Mathlib.Omega.{arith}
use lib.Dec.{eqb}
use lib.ListN.{length, replicate, length-replicate}
use borrow.Author.Tests.{lt-ltb, le-ltb}
use Rattle.ctr_spec.specs.CounterMode.{ctr}
use Rattle.ctr_spec.proofs.Stream.{ctr_twice, ctr_length}
use Rattle.model.specs.declared.Geometry.{Geometry}
use Rattle.model.specs.Parts.{choose, part, joined}
use Rattle.model.specs.Geometry.{iv_start, block_start}
use Rattle.model.specs.Read.{deciphered}
use Rattle.model.specs.Write.{claimed_bytes}
use Rattle.model.proofs.Parts.{part_left, part_right, part_first, joined_part}

module _ (g : Geometry) (key : List ℕ) (ψ j : ℕ) (device : List ℕ) where
  pub deciphered_mapped : ψ < g.p
      → deciphered g key ψ j device ≡ ctr key (part (iv_start g ψ j) 16 device) (part (block_start g ψ j) g.b device)
  unfolding deciphered
  deciphered_mapped l = rw (lt-ltb _ _ l)

  pub deciphered_unmapped : g.p ≤ ψ → deciphered g key ψ j device ≡ replicate g.b 0
  unfolding deciphered
  deciphered_unmapped l = rw (le-ltb _ _ l)

-- ---- the blocks of a claimed slice

-- Data block n.
abbrev pub claimed_block : (b : ℕ) → (key ivs : List ℕ) → (j : ℕ) → (text : List ℕ) → (n : ℕ) → List ℕ
claimed_block b key ivs j text n = ctr key (part (16 * n) 16 ivs) (choose (eqb n j) text (replicate b 0))

pub claimed_block_length : (b : ℕ) (key ivs : List ℕ) (j : ℕ) (text : List ℕ) → length text ≡ b → (n : ℕ)
    → length (claimed_block b key ivs j text n) ≡ b
claimed_block_length b key ivs j text e n = ctr_length _ _ _ ∙ go (eqb n j)
  where
    go : (x : Bool) → length (choose x text (replicate b 0)) ≡ b
    go true = e
    go false = length-replicate b 0

pub claimed_ivs : (b s : ℕ) (key ivs : List ℕ) (j : ℕ) (text : List ℕ) → length ivs ≡ b → part 0 b (claimed_bytes b s key ivs j text) ≡ ivs
unfolding claimed_bytes
claimed_ivs b s key ivs j text e = part_first ivs _ b e

module _ (b s : ℕ) (key ivs : List ℕ) (j : ℕ) (text : List ℕ) (ivsl : length ivs ≡ b) (fit : 16 * s ≤ b) (textl : length text ≡ b) where
  abbrev bytes : List ℕ
  bytes = claimed_bytes b s key ivs j text

  pub claimed_block_lem : (n : ℕ) → n < s → ctr key (part (16 * n) 16 bytes) (part (b + n * b) b bytes) ≡ choose (eqb n j) text (replicate b 0)
  unfolding claimed_bytes
  claimed_block_lem n h =
      let blocks = claimed_block b key ivs j text in
      ap₂ (ctr key) (part_left ivs (joined s blocks) (16 * n) 16 (omega arith))
      (part_right ivs (joined s blocks) b ivsl (n * b) b ∙ joined_part b s blocks (λ m l. claimed_block_length b key ivs j text textl m) n h)
      ∙ ctr_twice key (part (16 * n) 16 ivs) _
