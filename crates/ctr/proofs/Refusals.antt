-- What callers read off the tests of a call's lengths. Assumes nothing.
use Prim.Native.Nat.{ℕ, ◌≤◌}
use mathlib.Core.Path.{◌≡◌, sym}
use borrow.Author.Tests.{eqb-true, ltb-false, not-false}
use Rattle.std.specs.Prelude.{Result, Ok, Err}
use Rattle.std.specs.Result.{IsErr}
use Rattle.refusals.specs.declared.Refusal.{Refusal}
use Rattle.refusals.specs.Numbers.{answer_number, unless_refused}
use Rattle.refusals.proofs.Positive.{refusal_positive}
use Rattle.refusals.proofs.Refuse.{refuse_none, unless_refused_refused}
use Rattle.ctr.specs.Call.{ctr_refusal}

module _ (k v t o : ℕ) where
  -- The lengths of a call that none of the tests refuses.
  pub record Right : Type 0 where
    pub key : k ≡ 32
    pub iv : v ≡ 16
    pub text : t ≤ 4096
    pub out : o ≡ t

  pub ctr_refusal_none : 0 ≡ ctr_refusal k v t o → Right
  unfolding ctr_refusal
  ctr_refusal_none e =
      let p1 = refuse_none _ _ _ (sym e) in
      let p2 = refuse_none _ _ _ p1.1 in
      let p3 = refuse_none _ _ _ p2.1 in
      let p4 = refuse_none _ _ _ p3.1 in
      record {
        key = eqb-true _ _ (not-false _ p1.0);
        iv = eqb-true _ _ (not-false _ p2.0);
        text = ltb-false _ _ p3.0;
        out = eqb-true _ _ (not-false _ p4.0);
      }

-- A buffer after a call that is refused is as it was.
pub err_kept : {A B : Type 0} (a : Result B Refusal) (new old : A) → IsErr a → old ≡ unless_refused (answer_number a) new old
err_kept (Ok x) new old e = cc
err_kept (Err r) new old e = sym (unless_refused_refused _ new old (refusal_positive r))
