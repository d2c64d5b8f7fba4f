-- `deciding::decide` meets its contract: what is refused first, and what is served, by their laws (`Outcomes.antt`). Assumes nothing.
use Prim.Native.Nat.{ℕ}
use mathlib.Core.Path.{◌≡◌, sym, ap, ◌∙◌}
use mathlib.Core.Bool.{false}
use lib.ListN.{length}
use Rattle.refusals.specs.Numbers.{answer_number}
use Rattle.model.specs.Session.{slice_of, short}
use Rattle.model.specs.Search.{first_free}
use Rattle.model.specs.Maps.{bad_in_block}
use Rattle.model.specs.Write.{claim_need}
use Rattle.model.proofs.Requests.{Writable, write_refusal_none}
use Rattle.deciding.proofs.Outcomes.{refused_first, rewrite_served, claim_served}
use Rattle.deciding.proofs.decide.Goals as goal

pub returns-in-Err : goal.returns-in-Err
returns-in-Err c = refused_first _ _ _ _ _ _ _ _ _ _ c.in-Err.refusal c.in-Err.ensures

pub returns-then-entry-g : goal.returns-then-entry-g
returns-then-entry-g c =
    let fit : let a = c.args in
    Writable a.device a.maps.now a.owners.now a.session a.volume a.address a.len (length a.perm.now) = write_refusal_none _ _ _ _ _ _ _ _ (sym c.write_refusal.ensures ∙ ap answer_number c.in_default.is) in
    rewrite_served _ _ _ _ _ _ _ _ _ _ fit _ c.entry_at-entry.ensures c.if-entry-g.true
    (sym c.is_short.ensures ∙ c.if-is_short.false)

pub returns-else-is_short-2 : goal.returns-else-is_short-2
returns-else-is_short-2 c =
    let a = c.args in
    let fit : Writable a.device a.maps.now a.owners.now a.session a.volume a.address a.len (length a.perm.now) =
    write_refusal_none _ _ _ _ _ _ _ _ (sym c.write_refusal.ensures ∙ ap answer_number c.in_default.is) in
    let fine : bad_in_block a.maps.now a.session a.volume (slice_of a.session.geometry a.address) ≡ false = sym c.is_block_bad.ensures ∙ c.if-is_block_bad.false in
    let found : first_free a.owners.now a.session.geometry.p a.session.start a.perm.now ≡ c.first_free.result =
    ap (λ (p : ℕ). first_free a.owners.now p a.session.start a.perm.now) (sym fit.stands.tables.1) ∙ sym c.first_free.ensures in
    let long : c.is_short-in-Free.result ≡ short a.tape a.position (claim_need a.session.geometry) =
    c.is_short-in-Free.ensures ∙ ap (short a.tape a.position) c.claim_need.ensures in
    claim_served _ _ _ _ _ _ _ _ _ _ fit _ c.entry_at-entry.ensures c.if-entry-g.false fine _ found _ _
    c.in-Free.is (sym long ∙ c.if-is_short-2.false)
