-- `mix::sum_row` meets its contract, word by word. Assumes nothing.
use Rattle.std.proofs.Common.{rules, ℕ, get_or}
use Rattle.std.specs.Int.Bits.{bit_xor}
use Rattle.circuit.proofs.Made.{made}
use Rattle.mix.specs.Mix.{sum_words}
use Rattle.mix.proofs.sum_row.Goals as goal

pub returns : goal.returns
unfolding sum_words
returns c =
    made _ (λ (i : ℕ). bit_xor (get_or c.args.a i 0) (get_or c.args.b i 0)) _ (λ x y q h. search rules) _ 8 c.from_fn.ensures.items
