-- The numbers that the C functions return, and the slice that a release sets. Assumes nothing.
use Rattle.std.specs.Prelude.{ℕ}
use Rattle.model.specs.Opening.{OpenResult, OpenTo, NotOpened}
use Rattle.model.specs.Write.{WriteResult}
use Rattle.model.specs.Release.{ReleaseResult}
use Rattle.model.specs.Close.{CloseResult}

-- The number of an answer: 0 where the call was served, else the refusal's.
abbrev pub open_number : OpenResult → ℕ
open_number (OpenTo k) = 0
open_number (NotOpened n) = n

abbrev pub write_number : WriteResult → ℕ
write_number (WriteResult.Served change probes) = 0
write_number (WriteResult.Refused n probes) = n

abbrev pub release_number : ReleaseResult → ℕ
release_number (ReleaseResult.Freed ψ) = 0
release_number (ReleaseResult.Refused n) = n

abbrev pub close_number : CloseResult → ℕ
close_number CloseResult.Closed = 0
close_number (CloseResult.Refused n) = n

-- The slice freed after a release: a refused one leaves what stood there.
abbrev pub freed_slice : ReleaseResult → (old : ℕ) → ℕ
freed_slice (ReleaseResult.Freed ψ) old = ψ
freed_slice (ReleaseResult.Refused n) old = old
