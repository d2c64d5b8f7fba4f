-- `making::seal_headers` meets its contract. After i turns the headers and maps of the first i volumes are stored. Assumes nothing.
use mathlib.Core.Path.{◌≡◌}
use Rattle.model.specs.Parts.{patched}
use Rattle.model.specs.Format.{header_patches}
use Rattle.making.proofs.seal_headers.Given as goal

abbrev pub invariant-loop-i : goal.invariant-loop-i
invariant-loop-i l = l.device ≡ patched (header_patches l.g l.n l.counts l.drawn l.i) l.initial.device
