-- `freeing::carry_out` meets its contract. Assumes nothing.
use Rattle.std.proofs.Common.{◌≡◌, ◌*◌, refl, ap, ◌∙◌, length, arith, rules}
use lib.ListN.{length-set}
use Rattle.model.specs.Parts.{patched}
use Rattle.model.specs.Session.{unmapped, slot}
use Rattle.model.proofs.Requests.{slice_slot}
use Rattle.freeing.proofs.Outcomes.{fits, releasable, release_freed}
use Rattle.freeing.proofs.carry_out.Goals as goal

pub returns-in-Err : goal.returns-in-Err
unfolding patched
returns-in-Err c = rw c.in-Err.is (record { answered = refl; stored = refl; mapped = refl; owned = refl; moved = refl; handed = refl })

pub entry_at-slice-requires : goal.entry_at-slice-requires
entry_at-slice-requires c = let r = releasable (fits c.requires c.in_default.is) in slice_slot _ _ r.stands r.volume r.slice

pub unassign-requires : goal.unassign-requires
unassign-requires c =
    let r = releasable (fits c.requires c.in_default.is) in
    (slice_slot _ _ r.stands r.volume r.slice, omega (arith, c.entry_at-slice.ensures, r.stands.tables.1, r.mapped))

pub key_in-key-requires : goal.key_in-key-requires
key_in-key-requires c =
    let r = releasable (fits c.requires c.in_default.is) in
    let keys_long : length c.args.session.keys ≡ 480 = search rules in
    omega (arith, r.volume, r.stands.usable.top, keys_long)

pub store_block_of-requires : goal.store_block_of-requires
store_block_of-requires c =
    let a = c.args in
    let f = fits c.requires c.in_default.is in
    let r = releasable f in
    let count = r.stands.usable.counted a.volume (omega (arith, r.volume)) in
    let table : length c.unassign.new.maps ≡ 15 * a.session.geometry.p =
    ap length c.unassign.ensures.mapped ∙ length-set a.maps.now (slot a.session.geometry a.volume a.logical) unmapped ∙ r.stands.tables.0 in (
      r.stands.usable.allowed,
      table,
      c.key_in-key.ensures.1,
      f.drawn_all,
      omega (arith, r.volume, r.stands.usable.top),
      omega (arith, r.slice, count.1),
      r.stands.long,
    )

pub returns : goal.returns
returns c =
    let a = c.args in
    let f = fits c.requires c.in_default.is in
    release_freed _ _ _ _ _ _ a.volume a.logical _ c.in_default.is f.drawn_all _ c.entry_at-slice.ensures _ c.place_of-place.ensures _
    c.min-first.ensures c.unassign.ensures.mapped c.unassign.ensures.owned c.key_in-key.ensures.0 c.store_block_of.ensures
    c.starting_at.ensures
