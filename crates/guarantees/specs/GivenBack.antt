-- A slice that is given back (document 02, P5 and P7): what a served release leaves, and that a claim shows nothing of what its slice held
-- before. Both are said of any session, also one that no opening gave. Assumes nothing.
use Rattle.std.specs.Prelude.{ℕ, ◌+◌, ◌*◌, ◌<◌, ◌≡◌, List, [], ◌∷◌, get_or, replicate}
use Rattle.model.specs.declared.Change.TheVariants.{Claimed}
use Rattle.model.specs.Session.{geometry, slice_of}
use Rattle.model.specs.Read.{Filled}
use Rattle.model.specs.Write.{WriteResult}
use Rattle.model.specs.Release.{ReleaseResult}
use Rattle.guarantees.specs.Runs.{State, Reading, Writing, Releasing, Reads, Writes, Releases, outcome, next, map_range, Within}
use Rattle.guarantees.specs.Rules.{table_entry}

-- A read of block a of volume i is answered with B zeros.
abbrev pub ReadsZeros : State → (i a : ℕ) → Type 0
ReadsZeros st i a =
    (outcome st (Reading i a (geometry st.held).b)).answer
    ≡ Reads i a (geometry st.held).b (Filled (replicate (geometry st.held).b 0))

-- After a release of logical slice σ of volume i that freed slice ψ.
pub record GivenBack (st : State) (i σ : ℕ) (perm tape : List ℕ) (ψ : ℕ) : Type 0 where
  -- ψ is the slice that was mapped.
  pub was : table_entry st.held i σ ≡ ψ
  -- Every byte of the device but those of one map block stays, so that the slice's bytes do.
  pub stays : (p : ℕ) → (Within p (map_range (geometry st.held) i σ ∷ []) → ⊥)
      → get_or (next st (Releasing i σ perm tape)).device p 0 ≡ get_or st.device p 0
  -- Each block of the logical slice reads as zeros.
  pub zeros : (j : ℕ) → j < (geometry st.held).s → ReadsZeros (next st (Releasing i σ perm tape)) i (σ * (geometry st.held).s + j)
  -- The slice has no owner, and a write that comes next, handed the same permutation, finds room: it is not refused by 22.
  pub free : get_or (next st (Releasing i σ perm tape)).held.owners ψ 0 ≡ 0
  pub room : (v a : ℕ) (text tape' : List ℕ) (probes : ℕ)
      → (outcome (next st (Releasing i σ perm tape)) (Writing v a text perm tape')).answer ≡ Writes v a text perm tape' (WriteResult.Refused 22 probes)
      → ⊥

pub record SlicesGivenBack : Type 0 where
  pub released : (st : State) (i σ : ℕ) (perm tape : List ℕ) (ψ : ℕ)
      → (outcome st (Releasing i σ perm tape)).answer ≡ Releases i σ perm tape (ReleaseResult.Freed ψ) → GivenBack st i σ perm tape ψ
  -- After a claim for block a every other block of its logical slice reads as zeros, whatever the slice held.
  pub claimed : (st : State) (i a : ℕ) (text perm tape : List ℕ) (ψ probes : ℕ)
      → (outcome st (Writing i a text perm tape)).answer ≡ Writes i a text perm tape (WriteResult.Served (Claimed ψ) probes)
      → (b : ℕ) → slice_of (geometry st.held) b ≡ slice_of (geometry st.held) a → (b ≡ a → ⊥)
      → ReadsZeros (next st (Writing i a text perm tape)) i b
