-- Write (document 01, "Write"; document 02, P2 and P7). A write looks at no byte of the device, only at its length. Assumes nothing.
use Rattle.std.specs.Prelude.{ℕ, ◌+◌, ◌-◌, ◌*◌, List, [], ◌∷◌, ◌++◌, not, length, set, replicate, ltb, eqb}
use Rattle.refusals.specs.Numbers.{refuse}
use Rattle.ctr_spec.specs.CounterMode.{ctr}
use Rattle.model.specs.declared.Geometry.{Geometry}
use Rattle.model.specs.declared.Session.{Session}
use Rattle.model.specs.declared.Change.{Change}
use Rattle.model.specs.declared.Change.TheVariants.{Claimed, Rewritten}
use Rattle.model.specs.declared.Search.{Search}
use Rattle.model.specs.declared.Search.TheVariants.{Free, Bad, Full}
use Rattle.model.specs.Parts.{choose, part, joined}
use Rattle.model.specs.Geometry.{slice_start, iv_start, block_start}
use Rattle.model.specs.Search.{first_free}
use Rattle.model.specs.Maps.{map_patch, bad_in_block}
use Rattle.model.specs.Session.{Held, Outcome, geometry, key_of, starting_at, slot, slice_of, offset_of, entry_of}
use Rattle.model.specs.Session.{standing, asked, short, unless, idle}

-- The number of places looked at, from the start place up to a place, that one included.
abbrev pub probes_to : Session → (place : ℕ) → ℕ
probes_to s place = place + 1 - s.start

-- ---- the outcomes

-- The answer of a write: claimed or rewritten with its slice, and the number of places looked at; or the refusal with it.
pub data WriteResult : Type 0 where
  Served : Change → (probes : ℕ) → WriteResult
  Refused : (number probes : ℕ) → WriteResult

-- Mapped: 16 tape bytes become the IV of block j of slice ψ, and the ciphertext is stored over the old block.
abbrev pub rewritten : Held → (i ψ j : ℕ) → (text tape : List ℕ) → Outcome WriteResult
rewritten h i ψ j text tape =
    record {
      answer = Served (Rewritten ψ) 0;
      patches =
          record { at = iv_start (geometry h) ψ j; bytes = part h.position 16 tape }
          ∷ record { at = block_start (geometry h) ψ j; bytes = ctr (key_of h.session i) (part h.position 16 tape) text }
          ∷ [];
      held = record { maps = h.maps; owners = h.owners; position = h.position + 16; session = h.session };
    }

-- A rewrite, or 21.
abbrev pub rewrite_outcome : Held → (i ψ j : ℕ) → (text tape : List ℕ) → Outcome WriteResult
rewrite_outcome h i ψ j text tape =
    choose (short (length tape) h.position 16) (idle h (Refused 21 0)) (rewritten h i ψ j text tape)

-- The bytes of a claimed slice: the IV block, then S data blocks under their IVs, zeros but for block j.
unfoldable pub claimed_bytes : (b s : ℕ) → (key ivs : List ℕ) → (j : ℕ) → (text : List ℕ) → List ℕ
claimed_bytes b s key ivs j text = ivs ++ joined s (λ n. ctr key (part (16 * n) 16 ivs) (choose (eqb n j) text (replicate b 0)))

-- The tape bytes of a claim: B for the IV block, then 16 for the IV of the map block (document 02, P7).
abbrev pub claim_need : Geometry → ℕ
claim_need g = g.b + 16

-- Unmapped: slice ψ, found at a place, is claimed for logical slice σ of volume i. Its owner is set in the same call that
-- found it free, so that no later claim can find it free. The start place becomes the claimed place plus one
-- (document 02, P2), and the map block that has the entry is stored, with it, under the IV drawn last (document 02, P7).
abbrev pub claimed : Held → (i σ j ψ place : ℕ) → (text tape : List ℕ) → Outcome WriteResult
claimed h i σ j ψ place text tape =
    record {
      answer = Served (Claimed ψ) (probes_to h.session place);
      patches =
          record {
            at = slice_start (geometry h) ψ;
            bytes = claimed_bytes (geometry h).b (geometry h).s (key_of h.session i) (part h.position (geometry h).b tape) j text;
          }
          ∷ map_patch (set h.maps (slot (geometry h) i σ) ψ) h.session i σ (part (h.position + (geometry h).b) 16 tape)
          ∷ [];
      held =
          record {
            maps = set h.maps (slot (geometry h) i σ) ψ;
            owners = set h.owners ψ (i + 1);
            position = h.position + claim_need (geometry h);
            session = starting_at (place + 1) h.session;
          };
    }

-- No place from the start place on is free: 22 with all of them looked at, and the start place becomes P (document 02, P2). No other
-- refusal changes anything.
abbrev pub full : Held → Outcome WriteResult
full h =
    record {
      answer = Refused 22 ((geometry h).p - h.session.start);
      patches = [];
      held = record { maps = h.maps; owners = h.owners; position = h.position; session = starting_at (geometry h).p h.session };
    }

-- A claim from what its search found: 5, 22, 21 with the places looked at, or the slice.
abbrev pub claim_outcome : Held → (i σ j : ℕ) → (text tape : List ℕ) → Search → Outcome WriteResult
claim_outcome h i σ j text tape (Bad place) = idle h (Refused 5 (probes_to h.session place))
claim_outcome h i σ j text tape Full = full h
claim_outcome h i σ j text tape (Free ψ place) =
    choose (short (length tape) h.position (claim_need (geometry h))) (idle h (Refused 21 (probes_to h.session place)))
    (claimed h i σ j ψ place text tape)

-- ---- the call

-- 20, 2, 4, 5 (length), 11, 12, 13, 9.
unfoldable pub write_refusal : (device : ℕ) → (maps owners : List ℕ) → Session → (i a len perm : ℕ) → ℕ
write_refusal device maps owners s i a len perm =
    standing device (length maps) (length owners) s (refuse (not (eqb perm s.geometry.p)) 5 (asked maps s i a len))

-- Write of block address a of volume i, on a device of so many bytes: a rewrite where the entry is a slice, else a claim, refused by 9 for a
-- bad entry anywhere in the map block (document 02, P7) before its search.
unfoldable pub write_model : (device : ℕ) → Held → (i a : ℕ) → (text perm tape : List ℕ) → Outcome WriteResult
write_model device h i a text perm tape =
    unless (write_refusal device h.maps h.owners h.session i a (length text) (length perm)) (λ n. idle h (Refused n 0))
    (choose (ltb (entry_of h.maps (geometry h) i a) (geometry h).p)
    (rewrite_outcome h i (entry_of h.maps (geometry h) i a) (offset_of (geometry h) a) text tape)
    (choose (bad_in_block h.maps h.session i (slice_of (geometry h) a)) (idle h (Refused 9 0))
    (claim_outcome h i (slice_of (geometry h) a) (offset_of (geometry h) a) text tape
    (first_free h.owners (geometry h).p h.session.start perm))))
