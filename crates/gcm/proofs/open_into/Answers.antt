-- `gcm::open_into` meets its contract. Assumes nothing.
use mathlib.Core.Path.{◌≡◌, sym, ap, ◌∙◌}
use mathlib.Core.List.{List}
use Prim.Native.Nat.{ℕ}
use native.Mathlib.Omega.{arith}
use Rattle.gcm_spec.specs.Gcm.{gcm_tag, same}
use Rattle.gcm_spec.proofs.Gctr.{text_over, tag_key}
use Rattle.gcm_spec.proofs.Same.{open_test}
use Rattle.gcm.proofs.open_into.Goals as goal

pub apply_keystream-requires : goal.apply_keystream-requires
apply_keystream-requires c =
    let r = c.requires in
    record { sbox = c.sbox_table-t.ensures; out_len = r.out_len; text_bound = omega (arith, r.text_len_bound) }

pub returns-then-same_tag : goal.returns-then-same_tag
returns-then-same_tag c =
    let a = c.args in
    let right : c.same_tag.result ≡ same (gcm_tag a.key.now a.iv.now a.aad.now a.text.now) a.tag.now =
    c.same_tag.ensures
    ∙ ap (λ (m : List ℕ). same m a.tag.now)
    (tag_key a.key.now a.iv.now a.aad.now a.text.now c.round_keys-keys.ensures c.tag_of-m.ensures) in
    let text =
    text_over a.key.now a.iv.now a.text.now c.round_keys-keys.ensures c.counter_block-c.ensures
    c.requires.text_len_bound c.apply_keystream.ensures in
    let taken = c.if-same_tag.true in
    record {
      right = sym taken ∙ right;
      output = rw (open_test a.key.now a.iv.now a.aad.now a.text.now a.tag.now right taken) text;
    }

pub returns : goal.returns
returns c =
    let a = c.args in
    let right : c.same_tag.result ≡ same (gcm_tag a.key.now a.iv.now a.aad.now a.text.now) a.tag.now =
    c.same_tag.ensures
    ∙ ap (λ (m : List ℕ). same m a.tag.now)
    (tag_key a.key.now a.iv.now a.aad.now a.text.now c.round_keys-keys.ensures c.tag_of-m.ensures) in
    let left = c.if-same_tag.false in
    record {
      right = sym left ∙ right;
      output = rw (open_test a.key.now a.iv.now a.aad.now a.text.now a.tag.now right left);
    }
