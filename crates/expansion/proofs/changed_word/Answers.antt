-- `expansion::changed_word` meets its contract: each test picks the definition's case. Assumes nothing.
use mathlib.Core.Path.{ap}
use mathlib.Core.List.{List}
use Prim.Native.Nat.{ℕ, ◌/◌}
use native.Mathlib.Omega.{arith}
use borrow.Author.Rules.{rules}
use borrow.Author.Tests.{eq-eqb, ne_eqb}
use Rattle.rounds.specs.State.{sub_word, add_word}
use Rattle.aes.specs.KeyExpansion.{rcon}
use Rattle.expansion.proofs.Numbers.{own_word, same_word, sum-word, constant-word}
use Rattle.expansion.proofs.changed_word.Goals as goal

pub returns-then-m-eq0 : goal.returns-then-m-eq0
returns-then-m-eq0 c =
    let j : ℕ = c.args.i / 8 in
    rw (eq-eqb _ _ c.if-m-eq0.true)
    (same_word (sum-word c.sub_word.ensures (constant-word j (omega arith) (omega arith)))
    (ap (λ (a : List ℕ). add_word (sub_word a) (rcon j)) c.rot_word.ensures.bytes))

pub returns-then-m-eq4 : goal.returns-then-m-eq4
returns-then-m-eq4 c =
    rw (ne_eqb _ _ c.if-m-eq0.false, eq-eqb _ _ c.if-m-eq4.true) c.sub_word-then-m-eq4.ensures

pub returns : goal.returns
returns c = rw (ne_eqb _ _ c.if-m-eq0.false, ne_eqb _ _ c.if-m-eq4.false) (own_word _ (search rules))
