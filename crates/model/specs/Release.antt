-- Release of one logical slice (document 02, P5 and P7). It looks at no byte of the device, only at its length. Assumes nothing.
use Rattle.std.specs.Prelude.{ℕ, ◌+◌, min, List, [], ◌∷◌, length, set, leb, eqb}
use Rattle.refusals.specs.Numbers.{refuse}
use Rattle.model.specs.Parts.{part}
use Rattle.model.specs.Permutation.{bad_permutation, place_of}
use Rattle.model.specs.Session.{Held, Outcome, geometry, starting_at, count_of, slot, entry, unmapped}
use Rattle.model.specs.Session.{standing, asked_volume, short, unless, idle}
use Rattle.model.specs.Maps.{map_patch, bad_in_block}

-- 20, 2, 4, 5 (the whole permutation), 11, 12 (a logical slice at or above N), 9 (a bad entry anywhere in its map block), 25 (it is
-- unmapped), 21 (16 tape bytes).
unfoldable pub release_refusal : (device : ℕ) → Held → (i σ : ℕ) → (perm : List ℕ) → (tape : ℕ) → ℕ
release_refusal device h i σ perm tape =
    standing device (length h.maps) (length h.owners) h.session
    (bad_permutation (geometry h).p perm
    (asked_volume h.session.k i
    (refuse (leb (count_of h.session i) σ) 12
    (refuse (bad_in_block h.maps h.session i σ) 9
    (refuse (eqb (entry h.maps (geometry h) i σ) unmapped) 25
    (refuse (short tape h.position 16) 21
    0))))))

-- The answer of a release: the slice freed, or the refusal.
pub data ReleaseResult : Type 0 where
  Freed : (slice : ℕ) → ReleaseResult
  Refused : ℕ → ReleaseResult

-- Slice ψ, which stands at a place of the permutation, is given back by logical slice σ of volume i: its entry becomes the mark, its
-- owner 0, and the start place the lower of itself and that place. The map block that has the entry is stored, with the mark, under an IV
-- from the tape (document 02, P7). The bytes of the slice stay on the device.
abbrev pub released : Held → (i σ ψ place : ℕ) → (tape : List ℕ) → Outcome ReleaseResult
released h i σ ψ place tape =
    record {
      answer = Freed ψ;
      patches = map_patch (set h.maps (slot (geometry h) i σ) unmapped) h.session i σ (part h.position 16 tape) ∷ [];
      held =
          record {
            maps = set h.maps (slot (geometry h) i σ) unmapped;
            owners = set h.owners ψ 0;
            position = h.position + 16;
            session = starting_at (min h.session.start place) h.session;
          };
    }

-- Release of logical slice σ of volume i, on a device of so many bytes.
unfoldable pub release_model : (device : ℕ) → Held → (i σ : ℕ) → (perm tape : List ℕ) → Outcome ReleaseResult
release_model device h i σ perm tape =
    unless (release_refusal device h i σ perm (length tape)) (λ n. idle h (Refused n))
    (released h i σ (entry h.maps (geometry h) i σ) (place_of (entry h.maps (geometry h) i σ) perm) tape)
