-- `storing::rewrite` meets its contract. Assumes nothing.
use Prim.Native.Nat.{ℕ}
use mathlib.Core.Path.{ap, ap₂, ◌∙◌}
use mathlib.Core.List.{List}
use native.Mathlib.Omega.{arith}
use Rattle.ctr_spec.specs.CounterMode.{ctr}
use Rattle.model.specs.Parts.{overlay}
use Rattle.model.proofs.Bounds.{b_bounds, iv_fits, block_fits}
use Rattle.storing.proofs.rewrite.Goals as goal

pub store-requires : goal.store-requires
store-requires c =
    omega (arith, iv_fits c.args.g c.requires.0 c.args.slice c.args.j c.requires.3 c.requires.4, c.iv_start-from.ensures)

pub store_ctr-requires : goal.store_ctr-requires
store_ctr-requires c =
    let a = c.args in
    let p = c.requires in
    let fits = block_fits a.g p.0 a.slice a.j p.3 p.4 in
    record {
      key_len = p.2;
      iv_len = p.5;
      text_len_bound = omega (arith, b_bounds a.g p.0);
      text_in_bounds = omega (arith, fits, c.block_start-at.ensures, c.store.auto);
    }

pub returns : goal.returns
returns c =
    let a = c.args in
    c.store_ctr.ensures
    ∙ ap₂ (λ (s : List ℕ) (n : ℕ). overlay s n (ctr a.key.now a.iv.now a.text.now))
    (c.store.ensures ∙ ap (λ (n : ℕ). overlay a.device.now n a.iv.now) c.iv_start-from.ensures)
    c.block_start-at.ensures
