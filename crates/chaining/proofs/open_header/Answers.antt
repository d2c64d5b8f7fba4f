-- `chaining::open_header` meets its contract. Assumes nothing.
use Rattle.chaining.proofs.Headers.{open_header_test, count_bad, blocks_differ, none_bad, header_wrong}
use Rattle.chaining.proofs.open_header.Goals as goal

pub returns-then-is_bad_count : goal.returns-then-is_bad_count
returns-then-is_bad_count c =
    let a = c.args in
    let o = c.open_into.ensures in
    count_bad a.g a.vmk.now a.header.now a.text.now _ a.i o.right c.if-open_into.true o.output c.number_at.ensures
    c.is_bad_count.ensures
    c.if-is_bad_count.true

pub returns-then-number_at-g : goal.returns-then-number_at-g
returns-then-number_at-g c =
    let a = c.args in
    let o = c.open_into.ensures in
    blocks_differ a.g a.vmk.now a.header.now a.text.now _ a.i o.right c.if-open_into.true o.output c.number_at.ensures
    c.is_bad_count.ensures
    c.if-is_bad_count.false
    c.number_at-then-open_into.ensures
    c.if-number_at-g.true

pub returns-then-open_into : goal.returns-then-open_into
returns-then-open_into c =
    let a = c.args in
    let o = c.open_into.ensures in
    none_bad a.g a.vmk.now a.header.now a.text.now _ a.i o.right c.if-open_into.true o.output c.number_at.ensures
    c.is_bad_count.ensures
    c.if-is_bad_count.false
    c.number_at-then-open_into.ensures
    c.if-number_at-g.false

pub returns : goal.returns
returns c =
    let a = c.args in
    header_wrong a.g _ (open_header_test a.vmk.now a.header.now a.i c.open_into.ensures.right c.if-open_into.false)
