-- `records::record_laws` meets its contract. Assumes nothing.
use mathlib.Core.Path.{refl}
use Rattle.records.proofs.Structs.{session_fields, session_again, session_bytes-length, geometry_fields, geometry_again}
use Rattle.records.proofs.Structs.{three_bytes-length, handed_back-kept}
use Rattle.records.proofs.record_laws.Goals as goal

pub returns : goal.returns
returns c =
    record {
      session_fields = session_fields;
      session_again = session_again;
      session_long = session_bytes-length;
      session_served = λ handed kept. refl;
      session_full = λ handed kept. refl;
      session_kept = handed_back-kept;
      geometry_fields = geometry_fields;
      geometry_again = geometry_again;
      three_long = three_bytes-length;
    }
