-- What the answer to the lengths says: they are right and the rest says, or one is refused whatever follows. Assumes nothing.
use Prim.Native.Nat.{ℕ, ◌<◌, ◌≤◌}
use mathlib.Core.Path.{◌≡◌, sym, ◌∙◌}
use borrow.Author.Rules.{rules}
use borrow.Author.Tests.{eq-eqb, le-ltb, eqb-true, ltb-false, not-false}
use Rattle.refusals.specs.Numbers.{refuse}
use Rattle.refusals.proofs.Refuse.{refuse_none, rest_first, refuse-first}
use Rattle.gcm.specs.Call.{gcm_refusal}

module _ (k v a t g o : ℕ) where
  pub record Right : Type 0 where
    pub key : k ≡ 32
    pub iv : v ≡ 12
    pub aad : a ≤ 16
    pub text : t ≤ 256
    pub tag : g ≡ 16
    pub out : o ≡ t

  pub gcm_refusal_none : 0 ≡ gcm_refusal k v a t g o 0 → Right
  unfolding gcm_refusal
  gcm_refusal_none e =
      let p1 = refuse_none _ _ _ (sym e) in
      let p2 = refuse_none _ _ _ p1.1 in
      let p3 = refuse_none _ _ _ p2.1 in
      let p4 = refuse_none _ _ _ p3.1 in
      let p5 = refuse_none _ _ _ p4.1 in
      let p6 = refuse_none _ _ _ p5.1 in
      record {
        key = eqb-true _ _ (not-false _ p1.0);
        iv = eqb-true _ _ (not-false _ p2.0);
        aad = ltb-false _ _ p3.0;
        text = ltb-false _ _ p4.0;
        tag = eqb-true _ _ (not-false _ p5.0);
        out = eqb-true _ _ (not-false _ p6.0);
      }

  pub gcm_refusal_rest : 0 ≡ gcm_refusal k v a t g o 0 → (r : ℕ) → r ≡ gcm_refusal k v a t g o r
  unfolding gcm_refusal refuse
  gcm_refusal_rest e r = let q = gcm_refusal_none e in search (rules, eq-eqb, le-ltb)

  pub gcm_refusal_first : {n : ℕ} → n ≡ gcm_refusal k v a t g o 0 → 0 < n → (r : ℕ) → n ≡ gcm_refusal k v a t g o r
  unfolding gcm_refusal
  gcm_refusal_first answered l r =
      answered
      ∙ sym
      (refuse-first _ 3 _
      (refuse-first _ 13 _
      (refuse-first _ 13 _
      (refuse-first _ 13 _
      (refuse-first _ 13 _
      (refuse-first _ 13 (λ rest. rest) rest_first)))))
      (rw answered at l) r)
