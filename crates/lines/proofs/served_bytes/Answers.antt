-- `lines::served_bytes` meets its contract. Assumes nothing.
use mathlib.Core.Path.{sym}
use native.Mathlib.Nat.{div-one}
use Rattle.block.specs.Bytes.{big_endian}
use Rattle.lines.proofs.served_bytes.Goals as goal

pub returns : goal.returns
unfolding big_endian
returns c = rw (c.to_be_bytes-s.ensures, c.to_be_bytes-b.ensures, c.to_be_bytes-n.ensures, c.to_be_bytes-p.ensures) (sym (simp div-one))
