-- `reading::read` meets its contract. Assumes nothing.
use Prim.Native.Nat.{ℕ}
use mathlib.Core.Path.{◌≡◌, refl, ap₂, ◌∙◌}
use mathlib.Core.List.{List}
use native.Mathlib.Omega.{arith}
use borrow.Author.Rules.{rules}
use lib.ListN.{length}
use Rattle.model.specs.Session.{offset_of}
use Rattle.model.specs.Read.{deciphered}
use Rattle.model.proofs.Requests.{asked-slot}
use Rattle.model.proofs.Bounds.{offset_of_lt}
use Rattle.reading.proofs.Outcomes.{served, ready, read_refused, read_served}
use Rattle.reading.proofs.read.Goals as goal

pub returns-in-Err : goal.returns-in-Err
returns-in-Err c =
    let a = c.args in
    rw (read_refused a.device.now a.maps.now a.owners.now a.session a.volume a.address (length a.buf.now) c.read_refusal-refused.ensures c.in-Err.is)
    (record { answer = refl; buffer = refl; session = refl })

pub key_in-key-requires : goal.key_in-key-requires
key_in-key-requires c =
    let keys_length : length c.args.session.keys ≡ 480 = search rules in
    let r = ready c.read_refusal-refused.ensures c.in_default.is in
    omega (arith, r.asked.volume, r.stands.usable.top, keys_length)

pub nonzero_div-address : goal.nonzero_div-address
nonzero_div-address c = (ready c.read_refusal-refused.ensures c.in_default.is).stands.usable.allowed.slice_least

pub entry_at-entry-requires : goal.entry_at-entry-requires
entry_at-entry-requires c = let r = ready c.read_refusal-refused.ensures c.in_default.is in asked-slot r.stands r.asked

pub nonzero_rem-address : goal.nonzero_rem-address
nonzero_rem-address c = (ready c.read_refusal-refused.ensures c.in_default.is).stands.usable.allowed.slice_least

pub decipher-requires : goal.decipher-requires
decipher-requires c =
    let r = ready c.read_refusal-refused.ensures c.in_default.is in
    let ok = r.stands.usable.allowed in
    (ok, r.stands.long, c.key_in-key.ensures.1, offset_of_lt c.args.session.geometry ok c.args.address, r.asked.size)

pub returns : goal.returns
returns c =
    let a = c.args in
    let g = a.session.geometry in
    rw (read_served a.device.now a.maps.now a.owners.now a.session a.volume a.address (length a.buf.now) (served c.read_refusal-refused.ensures c.in_default.is))
    (record {
      answer = refl;
      buffer =
          c.decipher.ensures
          ∙ ap₂ (λ (key : List ℕ) (entry : ℕ). deciphered g key entry (offset_of g a.address) a.device.now)
          c.key_in-key.ensures.0 c.entry_at-entry.ensures;
      session = refl;
    })
