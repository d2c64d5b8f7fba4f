-- `block::block_bytes` meets its contract: the halves make the number, and its bytes are those of the definition. Assumes nothing.
use Rattle.std.proofs.Common.{◌≡◌, ◌*◌, ◌+◌, ◌%◌, ◌^◌, bit_or, rules, ap, ◌∙◌, arith, div-one}
use Rattle.std.proofs.lemmas.Nat.{or_shifted, shl_whole}
use Rattle.std.specs.Int.{to_be_bytes}
use mir.Syntax.{w128}
use Rattle.block.specs.Bytes.{big_endian}
use Rattle.block.proofs.block_bytes.Goals as goal

pub returns : goal.returns
unfolding big_endian
returns c =
    let b = c.args.b in
    let e : bit_or (c.from.result * 2 ^ 64 % 2 ^ 128) c.from-2.result ≡ b.hi * 2 ^ 64 + b.lo =
    rw (c.from.ensures, c.from-2.ensures, shl_whole b.hi 64 64 128 (search rules) (omega arith)) (or_shifted b.hi 64 b.lo (search rules)) in
    c.to_be_bytes.ensures ∙ ap (to_be_bytes w128) e ∙ simp div-one
