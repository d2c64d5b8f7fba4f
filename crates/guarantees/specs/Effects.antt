-- What each call stores on the device and what is held after it, from the request and its answer alone (document 01, "Write",
-- "Close" and "Two sticks compared": written places hold the bytes of the last call that wrote there; document 02, P2, P4, P5 and P7). The
-- words are the documents' and not the model's. Assumes nothing.
use Rattle.std.specs.Prelude.{ℕ, ◌+◌, ◌*◌, ◌/◌, min, ◌≡◌, List, [], ◌∷◌, ◌++◌, false, get_or, set, replicate, eqb}
use Rattle.ctr_spec.specs.CounterMode.{ctr}
use Rattle.model.specs.declared.Geometry.{Geometry}
use Rattle.model.specs.declared.Session.{Session}
use Rattle.model.specs.declared.Change.TheVariants.{Claimed, Rewritten}
use Rattle.model.specs.Parts.{choose, part, joined, Patch}
use Rattle.model.specs.Geometry.{per_block, four_bytes, map_block_start, slice_start, iv_start, block_start}
use Rattle.model.specs.Permutation.{place_of}
use Rattle.model.specs.Session.{Held, Outcome, geometry, key_of, slot, slice_of, offset_of, unmapped}
use Rattle.model.specs.Write.{WriteResult}
use Rattle.model.specs.Release.{ReleaseResult}
use Rattle.model.specs.Close.{CloseResult}
use Rattle.guarantees.specs.Runs.{Event, Reads, Finds, Writes, Releases, Closes}

-- ---- the tape

-- The next n bytes of a tape, and the n that follow on the next m.
abbrev pub drawn : Held → (tape : List ℕ) → (n : ℕ) → List ℕ
drawn h tape n = part h.position n tape

abbrev pub drawn_after : Held → (tape : List ℕ) → (m n : ℕ) → List ℕ
drawn_after h tape m n = part (h.position + m) n tape

-- ---- what is held

-- A session with another start place, one whose start place is moved on by so many places, and one in which it is the lower of itself
-- and a place.
abbrev pub with_start : Session → (start : ℕ) → Session
with_start s start = record { geometry = s.geometry; k = s.k; keys = s.keys; opened = s.opened; start = start; counts = s.counts }

abbrev pub moved_on : Session → (places : ℕ) → Session
moved_on s places = with_start s (s.start + places)

abbrev pub lowered : Session → (place : ℕ) → Session
lowered s place = with_start s (min s.start place)

-- A rewrite draws 16 tape bytes. A claim draws B + 16 (document 02, P7), sets its entry and its owner, and moves the start place past the
-- places that it looked at, to the claimed place plus one; a 22 moves it in the same way, to P (`Sets` in StartPlaces; document 02, P2).
-- No other refusal changes anything. A release draws 16: its entry becomes the mark, the owner of the slice freed 0, and the start place
-- the lower of itself and that slice's place in the permutation (`Lowers` in StartPlaces; document 02, P5 and P7). A close draws nothing
-- and leaves marks, owners and keys 0, and a closed session with its geometry, k, start place and counts (document 02, P4 and P7). Nothing
-- else changes what is held.
unfoldable pub held_after : Held → Event → Held
held_after h (Writes i a text perm tape (WriteResult.Served (Rewritten ψ) probes)) =
    record { maps = h.maps; owners = h.owners; position = h.position + 16; session = h.session }
held_after h (Writes i a text perm tape (WriteResult.Served (Claimed ψ) probes)) =
    record {
      maps = set h.maps (slot (geometry h) i (slice_of (geometry h) a)) ψ;
      owners = set h.owners ψ (i + 1);
      position = h.position + ((geometry h).b + 16);
      session = moved_on h.session probes;
    }
held_after h (Writes i a text perm tape (WriteResult.Refused n probes)) =
    choose (eqb n 22) (record { maps = h.maps; owners = h.owners; position = h.position; session = moved_on h.session probes }) h
held_after h (Releases i σ perm tape (ReleaseResult.Freed ψ)) =
    record {
      maps = set h.maps (slot (geometry h) i σ) unmapped;
      owners = set h.owners ψ 0;
      position = h.position + 16;
      session = lowered h.session (place_of ψ perm);
    }
held_after h (Releases i σ perm tape (ReleaseResult.Refused n)) = h
held_after h (Closes CloseResult.Closed) =
    record {
      maps = replicate (15 * (geometry h).p) unmapped;
      owners = replicate (geometry h).p 0;
      position = h.position;
      session =
          record {
            geometry = geometry h;
            k = h.session.k;
            keys = replicate 480 0;
            opened = false;
            start = h.session.start;
            counts = h.session.counts;
          };
    }
held_after h (Closes (CloseResult.Refused n)) = h
held_after h (Reads i a room r) = h
held_after h (Finds i a bytes) = h

-- After a list of events.
unfoldable pub held_after_all : Held → List Event → Held
held_after_all h [] = h
held_after_all h (e ∷ es) = held_after_all (held_after h e) es

-- ---- what is stored

-- Map block t of volume i: its IV, then the entries from t × (B - 16)/4 on in row i of the map table, in counter mode under the
-- VEK; past the last entry the mark.
abbrev pub map_stored : (maps : List ℕ) → Geometry → (vek iv : List ℕ) → (i t : ℕ) → List ℕ
map_stored maps g vek iv i t =
    iv ++ ctr vek iv (joined (per_block g) (λ e. four_bytes (get_or (part (i * g.p) g.p maps) (t * per_block g + e) unmapped)))

-- The map block that has the entry of logical slice σ of volume i, with that entry set to x, at its place.
abbrev pub entry_stored : Held → (i σ x : ℕ) → (iv : List ℕ) → Patch
entry_stored h i σ x iv =
    record {
      at = map_block_start (geometry h) i (σ / per_block (geometry h));
      bytes =
          map_stored (set h.maps (slot (geometry h) i σ) x) (geometry h) (key_of h.session i) iv i (σ / per_block (geometry h));
    }

-- A rewrite stores the 16 bytes drawn as the block's IV, and the ciphertext over the old block. A claim stores the first B bytes drawn as
-- the IV block, and S data blocks, each enciphered under its own IV: zeros but for the block asked for; then, under the last 16 bytes drawn,
-- the map block that has its entry, with the slice's number. A release stores the map block that has its entry, with the mark, under the 16
-- bytes drawn (document 02, P7). Nothing else stores anything, and neither does a close.
unfoldable pub stored_by : Held → Event → List Patch
stored_by h (Writes i a text perm tape (WriteResult.Served (Rewritten ψ) probes)) =
    record { at = iv_start (geometry h) ψ (offset_of (geometry h) a); bytes = drawn h tape 16 }
    ∷ record { at = block_start (geometry h) ψ (offset_of (geometry h) a); bytes = ctr (key_of h.session i) (drawn h tape 16) text }
    ∷ []
stored_by h (Writes i a text perm tape (WriteResult.Served (Claimed ψ) probes)) =
    record {
      at = slice_start (geometry h) ψ;
      bytes =
          drawn h tape (geometry h).b
          ++ joined (geometry h).s (λ n. ctr (key_of h.session i) (part (16 * n) 16 (drawn h tape (geometry h).b))
          (choose (eqb n (offset_of (geometry h) a)) text (replicate (geometry h).b 0)));
    }
    ∷ entry_stored h i (slice_of (geometry h) a) ψ (drawn_after h tape (geometry h).b 16)
    ∷ []
stored_by h (Writes i a text perm tape (WriteResult.Refused n probes)) = []
stored_by h (Releases i σ perm tape (ReleaseResult.Freed ψ)) = entry_stored h i σ unmapped (drawn h tape 16) ∷ []
stored_by h (Releases i σ perm tape (ReleaseResult.Refused n)) = []
stored_by h (Closes r) = []
stored_by h (Reads i a room r) = []
stored_by h (Finds i a bytes) = []

-- By a list of events, each storing by what is held when it comes.
unfoldable pub stored_by_all : Held → List Event → List Patch
stored_by_all h [] = []
stored_by_all h (e ∷ es) = stored_by h e ++ stored_by_all (held_after h e) es

-- What a call stores, and what is held after it, follow from its request and its answer.
pub record Follows (h : Held) (o : Outcome Event) : Type 0 where
  pub stored : o.patches ≡ stored_by h o.answer
  pub held : o.held ≡ held_after h o.answer
