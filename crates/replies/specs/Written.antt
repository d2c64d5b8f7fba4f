-- The struct hiwalgam_written (include/hiwalgam.h), as bytes: 1 where a slice was claimed, the slice that was claimed or rewritten, the
-- places looked at. Assumes nothing.
use Rattle.std.specs.Prelude.{ℕ, Bool, true, false, List}
use Rattle.model.specs.declared.Change.{Change}
use Rattle.model.specs.declared.Change.TheVariants.{Claimed, Rewritten}
use Rattle.model.specs.Answers.{change_slice}
use Rattle.model.specs.Write.{WriteResult}
use Rattle.records.specs.Numbers.{three_bytes}
use Rattle.records.specs.Structs.{sized, bit_of}

abbrev pub written_sized : List ℕ → Bool
written_sized r = sized 24 r

abbrev pub change_claimed : Change → Bool
change_claimed (Claimed ψ) = true
change_claimed (Rewritten ψ) = false

abbrev pub written_bytes : WriteResult → List ℕ
written_bytes (WriteResult.Served change probes) = three_bytes (bit_of (change_claimed change)) (change_slice change) probes
written_bytes (WriteResult.Refused n probes) = three_bytes 0 0 probes
