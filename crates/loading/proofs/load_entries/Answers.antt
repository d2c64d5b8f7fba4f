-- `loading::load_entries` meets its contract. The loop's invariant: loading all entries is loading those not yet passed into
-- the tables so far. Assumes nothing.
use mathlib.Core.Path.{◌≡◌, sym, ap, ap₂, ◌∙◌}
use mathlib.Core.List.{List}
use Prim.Native.Nat.{ℕ, ◌+◌, ◌-◌, ◌*◌}
use native.Mathlib.Nat.{add-zero, add_assoc}
use native.Mathlib.Omega.{arith}
use borrow.Author.Rules.{rules}
use lib.ListN.{length}
use Rattle.refusals.specs.Numbers.{refusal_number, answer_number}
use Rattle.model.specs.Geometry.{number_at}
use Rattle.model.specs.Opening.{settle, load, Tables}
use Rattle.tables.specs.Settled.{Settled}
use Rattle.loading.proofs.Loads.{settled_by, load_one, part_spoilt, part_loaded, run_done}
use Rattle.loading.proofs.load_entries.Goals as goal

-- The entries of a text, by their index in the table.
abbrev entries : (n : ℕ) (text : List ℕ) → ℕ → ℕ
entries n text i = number_at (4 * (i - n)) text

-- Entry e settled is a run of it alone.
entry_settled : (p : ℕ) (counts text : List ℕ) (n e number : ℕ) {q x : ℕ} (maps owners maps' owners' : List ℕ) → q ≡ p
    → x ≡ number_at (4 * e) text → Settled (settle q counts x (n + e) maps owners Tables) number maps' owners'
    → Settled (load p counts (entries n text) 1 (n + e) maps owners) number maps' owners'
entry_settled p counts text n e number maps owners maps' owners' k v =
    let i : e ≡ n + e - n = omega arith in
    settled_by
    (ap₂ (λ (p x : ℕ). settle p counts x (n + e) maps owners Tables) k (v ∙ ap (λ (e : ℕ). number_at (4 * e) text) i)
    ∙ sym (load_one p counts (entries n text) (n + e) maps owners))
    number maps' owners'

pub loop-e-init : goal.loop-e-init
loop-e-init c =
    let a = c.args in
    let z : a.count ≡ a.count - 0 = omega arith in
    ap₂ (λ (j k : ℕ). load (length a.owners.now) a.counts.now (entries a.n a.text.now) j k a.maps.now a.owners.now) z (sym (add-zero a.n))

pub returns-in_err-settle_one : goal.returns-in_err-settle_one
returns-in_err-settle_one c =
    let l = c.loop-e in
    let a = c.args in
    let r = c.in_err-settle_one.field-0.0 in
    let same : answer_number c.from_residual.result ≡ refusal_number r = search rules in
    rw same
    (part_spoilt _ _ (entries a.n a.text.now) 1 (a.count - (l.e + 1)) (a.n + l.e) l.maps l.owners _ _ l.invariant (omega arith) r
    (entry_settled _ _ a.text.now a.n l.e _ l.maps l.owners _ _ l.auto.owners c.number_at-x.ensures c.in_err-settle_one.ensures))

pub loop-e-preserved : goal.loop-e-preserved
loop-e-preserved c =
    let l = c.loop-e in
    let a = c.args in
    let f = entries a.n a.text.now in
    part_loaded _ _ f 1 (a.count - (l.e + 1)) (a.n + l.e) l.maps l.owners _ _ l.invariant (omega arith)
    (entry_settled _ _ a.text.now a.n l.e _ l.maps l.owners _ _ l.auto.owners c.number_at-x.ensures c.in_ok-settle_one.ensures)
    ∙ ap (λ (k : ℕ). load (length a.owners.now) a.counts.now f (a.count - (l.e + 1)) k c.settle_one.new.maps c.settle_one.new.owners)
    (add_assoc a.n l.e 1)

pub returns : goal.returns
returns c =
    let l = c.loop-e in
    let a = c.args in
    run_done _ _ _ (a.count - l.e) (a.n + l.e) l.maps l.owners l.invariant (omega arith)
