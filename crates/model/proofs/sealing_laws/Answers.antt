-- `model::sealing_laws` meets its contract. Assumes nothing.
use mathlib.Core.Path.{ap₂, ◌∙◌}
use Rattle.ctr_spec.specs.CounterMode.{ctr}
use Rattle.ctr_spec.proofs.Stream.{ctr_twice}
use Rattle.model.proofs.Blocks.{deciphered_mapped}
use Rattle.model.proofs.Seals.{cell_opens, cell_sealed, header_opens, header_sealed, header_text, map-entry}
use Rattle.model.proofs.sealing_laws.Goals as goal

pub returns : goal.returns
returns c =
    record {
      cell = cell_opens;
      cell_alone = cell_sealed;
      header = header_opens;
      header_alone = header_sealed;
      header_text = header_text;
      entry = map-entry;
      block = λ g device vek iv text ψ j l p q. deciphered_mapped g vek ψ j device l ∙ ap₂ (ctr vek) p q ∙ ctr_twice vek iv text;
    }
