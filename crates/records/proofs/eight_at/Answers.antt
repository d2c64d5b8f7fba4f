-- `records::eight_at` meets its contract. Assumes nothing.
use mathlib.Core.Path.{◌≡◌, ap, ◌∙◌}
use Prim.Native.Nat.{ℕ, ◌+◌, ◌-◌}
use native.Mathlib.Omega.{arith}
use borrow.Author.Rules.{rules}
use Rattle.model.specs.Parts.{part}
use Rattle.records.specs.Numbers.{little_number}
use Rattle.records.proofs.Numbers.{little_number-from_le_bytes}
use Rattle.records.proofs.eight_at.Goals as goal

pub returns : goal.returns
returns c =
    let a = c.args in
    let eight : a.at + 8 - a.at ≡ 8 = omega arith in
    c.from_le_bytes.ensures
    ∙ little_number-from_le_bytes _ (search rules)
    ∙ ap little_number c.copy_from_slice.ensures.after
    ∙ ap (λ (n : ℕ). little_number (part a.at n a.r.now)) eight
