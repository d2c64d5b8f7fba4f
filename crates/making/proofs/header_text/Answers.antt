-- `making::header_text` meets its contract: its four parts are stored end to end. Assumes nothing.
use mathlib.Core.Path.{sym, ap, ap₂, ◌∙◌}
use mathlib.Core.List.{List}
use Prim.Native.Nat.{ℕ, ◌+◌}
use lib.ListN.{replicate, length-replicate}
use Rattle.block.proofs.Bytes.{big_endian-length}
use Rattle.model.specs.Parts.{overlay}
use Rattle.model.specs.Geometry.{count_in, four_bytes}
use Rattle.model.specs.Format.{drawn_vek, made_below}
use Rattle.model.proofs.Drawn.{drawn_vek_length, made_below_length}
use Rattle.making.proofs.Made.{four_pieces}
use Rattle.making.proofs.header_text.Goals as goal

pub returns : goal.returns
returns c =
    let a = c.args in
    let d = c.requires.0 in
    let vek = drawn_vek a.g a.drawn.now a.i in
    let under = made_below a.g a.drawn.now a.i in
    let count = count_in a.counts.now a.i in
    let p = four_bytes count in
    let s = four_bytes a.g.s in
    let zeros : List ℕ = replicate 72 0 in
    let first = c.store.ensures ∙ ap (overlay zeros 0) c.vek_in.ensures.0 in
    let second = c.store-2.ensures ∙ ap₂ (λ (t b : List ℕ). overlay t 32 b) first c.key_below-below.ensures in
    let third = c.put_number.ensures ∙ ap (λ (t : List ℕ). overlay t 64 p) second in
    let vekl = drawn_vek_length a.g a.n a.drawn.now d.long a.i d.below in
    let underl = made_below_length a.g a.n a.drawn.now d.long a.i d.below in
    c.put_number-2.ensures
    ∙ ap (λ (t : List ℕ). overlay t 68 s) third
    ∙ four_pieces zeros vek under p s 32 64 68 vekl (ap (λ (n : ℕ). 32 + n) underl) (ap (λ (n : ℕ). 64 + n) (big_endian-length 4 count))
    (ap (λ (n : ℕ). 68 + n) (big_endian-length 4 a.g.s) ∙ sym (length-replicate {A = ℕ} 72 0))
