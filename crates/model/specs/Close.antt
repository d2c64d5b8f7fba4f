-- Close (document 01, "Close"; document 02, P2, P4 and P7): everything held is wiped, and no byte of the device is written, since claims and
-- releases are on it already. Assumes nothing.
use Rattle.std.specs.Prelude.{ℕ, [], false, length}
use Rattle.model.specs.declared.Session.{Session}
use Rattle.model.specs.Session.{Held, Outcome, geometry, standing, unless, idle, no_keys}
use Rattle.model.specs.Opening.{no_maps, no_owners}

-- The answer of a close.
pub data CloseResult : Type 0 where
  Closed : CloseResult
  Refused : ℕ → CloseResult

-- The session after a close: its geometry, k and, by document 02 (P2 and P4), its start place and counts stay.
abbrev pub closed_session : Session → Session
closed_session s =
    record { geometry = s.geometry; k = s.k; keys = no_keys; opened = false; start = s.start; counts = s.counts }

-- Nothing held; device and tape position stay.
abbrev pub closed : Held → Outcome CloseResult
closed h =
    record {
      answer = Closed;
      patches = [];
      held =
          record {
            maps = no_maps (geometry h);
            owners = no_owners (geometry h);
            position = h.position;
            session = closed_session h.session;
          };
    }

-- Close, on a device of so many bytes: refused by 20, 2 and 4.
unfoldable pub close_model : (device : ℕ) → Held → Outcome CloseResult
close_model device h = unless (standing device (length h.maps) (length h.owners) h.session 0) (λ n. idle h (Refused n)) (closed h)
