-- `storing::carry_out` meets its contract: what was decided is carried out with the bytes drawn. Assumes nothing.
use Rattle.std.proofs.Common.{◌≡◌, refl, sym, ◌∙◌, length, arith, rules}
use native.Mathlib.Nat.{zero-add}
use lib.Seq.{take-length}
use Rattle.model.specs.Parts.{patched}
use Rattle.model.proofs.Bounds.{offset_of_lt}
use Rattle.model.proofs.Requests.{asked_slice}
use Rattle.storing.proofs.Claims.{claimed_stored}
use Rattle.storing.proofs.Decisions.{rewrites, claims, writable}
use Rattle.storing.proofs.carry_out.Goals as goal

-- ---- a rewrite
pub key_in-key-requires : goal.key_in-key-requires
key_in-key-requires c =
    let w = writable (rewrites c.requires c.in-Rewrite.is) in
    let keys_long : length c.args.session.keys ≡ 480 = search rules in
    omega (arith, w.asked.volume, w.stands.usable.top, keys_long)

pub nonzero_rem-address : goal.nonzero_rem-address
nonzero_rem-address c = (writable (rewrites c.requires c.in-Rewrite.is)).stands.usable.allowed.slice_least

pub rewrite-requires : goal.rewrite-requires
rewrite-requires c =
    let f = rewrites c.requires c.in-Rewrite.is in
    let w = writable f in
    let ok = w.stands.usable.allowed in
    (ok, w.stands.long, c.key_in-key.ensures.1, f.slice, offset_of_lt c.args.session.geometry ok c.args.address, f.drawn_all, w.asked.size)

-- ---- a claim
pub key_in-key-requires-in-Claim : goal.key_in-key-requires-in-Claim
key_in-key-requires-in-Claim c =
    let w = writable (claims c.requires c.in-Claim.is).0 in
    let keys_long : length c.args.session.keys ≡ 480 = search rules in
    omega (arith, w.asked.volume, w.stands.usable.top, keys_long)

pub nonzero_rem-address-in-Claim : goal.nonzero_rem-address-in-Claim
nonzero_rem-address-in-Claim c = (writable (claims c.requires c.in-Claim.is).0).stands.usable.allowed.slice_least

pub claim-requires : goal.claim-requires
claim-requires c =
    let f = (claims c.requires c.in-Claim.is).0 in
    let w = writable f in
    (w.stands.usable.allowed, w.stands.long, c.key_in-key-in-Claim.ensures.1, f.slice, c.split_at.ensures.front_len, w.asked.size)

pub nonzero_div-address : goal.nonzero_div-address
nonzero_div-address c = (writable (claims c.requires c.in-Claim.is).0).stands.usable.allowed.slice_least

pub enter-requires : goal.enter-requires
enter-requires c =
    let f = (claims c.requires c.in-Claim.is).0 in
    let w = writable f in
    let slice = asked_slice w.stands w.asked.volume w.asked.address in (
      w.stands.usable.allowed,
      c.claim.auto.device ∙ w.stands.long,
      w.stands.tables.0,
      w.stands.tables.1,
      c.key_in-key-in-Claim.ensures.1,
      omega (arith, c.split_at.ensures.back_len, f.drawn_all),
      omega (arith, w.asked.volume, w.stands.usable.top),
      omega (arith, slice),
      f.slice,
    )

-- ---- what is left
pub returns-in-Refused : goal.returns-in-Refused
unfolding patched
returns-in-Refused c = rw c.in-Refused.is (record { answered = refl; stored = refl; mapped = refl; owned = refl; moved = refl; handed = refl })

pub returns-in-Full : goal.returns-in-Full
unfolding patched
returns-in-Full c =
    rw c.in-Full.is (record { answered = refl; stored = refl; mapped = refl; owned = refl; moved = refl; handed = c.starting_at.ensures })

pub returns-in-Rewrite : goal.returns-in-Rewrite
unfolding patched
returns-in-Rewrite c =
    let f = rewrites c.requires c.in-Rewrite.is in
    rw (c.in-Rewrite.is, sym f.drawn_all, take-length c.args.drawn.now)
    (record {
      answered = refl;
      stored = rw c.key_in-key.ensures.0 at c.rewrite.ensures;
      mapped = refl;
      owned = refl;
      moved = refl;
      handed = refl;
    })

pub returns-in-Claim : goal.returns-in-Claim
unfolding patched
returns-in-Claim c =
    let a = c.args in
    let f = (claims c.requires c.in-Claim.is).0 in
    rw c.in-Claim.is
    (record {
      answered = rw c.probes_to.ensures refl;
      stored =
          claimed_stored a.device.now _ _ _ a.drawn.now _ _ _ _ a.session.geometry _ a.volume _ _ a.text.now f.drawn_all
          c.key_in-key-in-Claim.ensures.0 c.split_at.ensures.front c.split_at.ensures.back c.claim.ensures c.enter.ensures.stored;
      mapped = c.enter.ensures.mapped;
      owned = c.enter.ensures.owned;
      moved = sym (zero-add _);
      handed = c.starting_at-in-Claim.ensures;
    })
