-- The tables that an opening loads from a list of entries. Assumes nothing.
use Prim.Native.Nat.{ℕ, zero, suc, ◌+◌, ◌*◌, ◌/◌, ◌%◌, ◌≤◌, ◌<◌}
use mathlib.Core.Path.{◌≡◌, refl, sym, ap, ap₂, ◌∙◌, fun_ext}
use mathlib.Core.List.{List}
use mathlib.Core.Logic.{◌⊎◌, inl, inr, ⊎_elim}
use native.Mathlib.Omega.{arith}
use native.Mathlib.Nat.{eq-or-lt_of_le, le_of_suc-le-suc}
use lib.ListN.{length, get_or, set, replicate, get_or-replicate, length-replicate, length-set}
use lib.Seq.{get_or-set_same, get_or-set_other}
use Rattle.model.specs.Geometry.{count_in}
use Rattle.model.specs.Session.{unmapped}
use Rattle.model.specs.Conditions.{BelowCount}
use Rattle.model.specs.Opening.{Loaded, Tables, Spoilt, settle, load}
use Rattle.model.proofs.Tests.{equal}
use Rattle.guarantees.specs.Openings.{GoodEntries}
use Rattle.guarantees.proofs.Reflects.{ltb_reflects, eqb_reflects, and_reflects, choose_reflects}

-- Tables that hold the first n entries; the map table has 15 × P places.
pub record Holds (p : ℕ) (counts : List ℕ) (e : ℕ → ℕ) (n : ℕ) (maps owners : List ℕ) : Type 0 where
  pub maps_long : length maps ≡ 15 * p
  pub owners_long : length owners ≡ p
  pub has : (m : ℕ) → m < n → get_or maps m 0 ≡ e m
  pub rest : (m : ℕ) → n ≤ m → m < 15 * p → get_or maps m 0 ≡ unmapped
  pub whole : (m : ℕ) → m < 15 * p → (get_or maps m 0 ≡ unmapped) ⊎ ((get_or maps m 0 < p) × BelowCount p counts m)
  pub once : (m n : ℕ) → m < 15 * p → n < 15 * p → get_or maps m 0 < p → get_or maps m 0 ≡ get_or maps n 0 → m ≡ n
  pub owns : (m : ℕ) → m < 15 * p → get_or maps m 0 < p → get_or owners (get_or maps m 0) 0 ≡ m / p + 1
  pub used : (x : ℕ) → x < p → (get_or owners x 0 ≡ 0 → ⊥) → (m : ℕ) × (m < n) × (get_or maps m 0 ≡ x)

holds_none : (p : ℕ) (counts : List ℕ) (e : ℕ → ℕ) → p ≤ unmapped → Holds p counts e 0 (replicate (15 * p) unmapped) (replicate p 0)
holds_none p counts e small =
    let none : (m : ℕ) → m < 15 * p → get_or (replicate (15 * p) unmapped) m 0 ≡ unmapped = λ m l. get_or-replicate (15 * p) m unmapped 0 l in
    record {
      maps_long = length-replicate (15 * p) unmapped;
      owners_long = length-replicate p 0;
      has = λ m l. absurd (omega arith);
      rest = λ m l k. none m k;
      whole = λ m l. inl (none m l);
      once = λ m n lm ln l q. absurd (omega (arith, none m lm));
      owns = λ m lm l. absurd (omega (arith, none m lm));
      used = λ x l z. absurd (z (get_or-replicate p x 0 0 l));
    }

module _ (p : ℕ) (counts : List ℕ) (e : ℕ → ℕ) (n : ℕ) (maps owners : List ℕ) (holds : Holds p counts e n maps owners) where
  latest : (m : ℕ) → m < suc n → (m ≡ n) ⊎ (m < n)
  latest m l = eq-or-lt_of_le (le_of_suc-le-suc l)

  -- The next entry is the mark.
  holds_mark : n < 15 * p → e n ≡ unmapped → Holds p counts e (suc n) maps owners
  holds_mark hn q =
      record {
        maps_long = holds.maps_long;
        owners_long = holds.owners_long;
        whole = holds.whole;
        once = holds.once;
        owns = holds.owns;
        has = λ m l. ⊎_elim (λ k. rw k (holds.rest n (omega arith) hn ∙ sym q)) (λ k. holds.has m k) (latest m l);
        rest = λ m l k. holds.rest m (omega arith) k;
        used = λ x l z. let r = holds.used x l z in (r.0, omega (arith, r.1), r.2);
      }

  -- The next entry is a slice that may stand there and has no owner.
  module _ (x : ℕ) (hn : n < 15 * p) (hx : x < p) (below : BelowCount p counts n) (free : get_or owners x 0 ≡ 0) where
    at_n : get_or (set maps n x) n 0 ≡ x
    at_n = get_or-set_same maps n x 0 (rw holds.maps_long hn)

    cases : (m : ℕ) → ((m ≡ n) × (get_or (set maps n x) m 0 ≡ x)) ⊎ (get_or (set maps n x) m 0 ≡ get_or maps m 0)
    cases m =
        ⊎_elim (λ q. inl (q, ap (λ (i : ℕ). get_or (set maps n x) i 0) q ∙ at_n)) (λ d. inr (get_or-set_other maps n m x 0 d)) (equal m n)

    new : (m : ℕ) → m < 15 * p → get_or maps m 0 ≡ x → ⊥
    new m l q =
        let z : m / p + 1 ≡ 0 = sym (holds.owns m l (rw q hx)) ∙ ap (λ (i : ℕ). get_or owners i 0) q ∙ free in
        absurd (omega arith)

    holds_slice : e n ≡ x → Holds p counts e (suc n) (set maps n x) (set owners x (n / p + 1))
    holds_slice en =
        record {
          maps_long = length-set maps n x ∙ holds.maps_long;
          owners_long = length-set owners x (n / p + 1) ∙ holds.owners_long;
          has = λ m l.
              ⊎_elim (λ k. rw k (at_n ∙ sym en)) (λ k. get_or-set_other maps n m x 0 (λ z. omega (arith, z, k)) ∙ holds.has m k) (latest m l);
          rest = λ m l k. get_or-set_other maps n m x 0 (λ z. omega (arith, z, l)) ∙ holds.rest m (omega arith) k;
          whole = λ m l. ⊎_elim (λ c. inr (rw c.1 hx, rw c.0 below)) (λ c. rw c (holds.whole m l)) (cases m);
          once = λ m k lm lk l q.
              ⊎_elim (λ c. ⊎_elim (λ d. c.0 ∙ sym d.0) (λ d. absurd (new k lk (sym d ∙ sym q ∙ c.1))) (cases k))
              (λ c. ⊎_elim (λ d. absurd (new m lm (sym c ∙ q ∙ d.1))) (λ d. holds.once m k lm lk (rw c at l) (sym c ∙ q ∙ d)) (cases k))
              (cases m);
          owns = λ m lm l.
              ⊎_elim (λ c. rw (c.1, c.0) (get_or-set_same owners x (n / p + 1) 0 (rw holds.owners_long hx)))
              (λ c. rw c (get_or-set_other owners x (get_or maps m 0) (n / p + 1) 0 (new m lm) ∙ holds.owns m lm (rw c at l))) (cases m);
          used = λ y l z. ⊎_elim (λ q. (n, omega arith, at_n ∙ sym q))
              (λ d. let r = holds.used y l (λ w. z (get_or-set_other owners x y (n / p + 1) 0 d ∙ w)) in
              (r.0, omega (arith, r.1), get_or-set_other maps n r.0 x 0 (λ w. omega (arith, w, r.1)) ∙ r.2)) (equal y x);
        }

-- Tables of the first n entries: each is the mark, or a slice, below N, that no entry before it names.
pub holds_sound : (p : ℕ) (counts : List ℕ) (e : ℕ → ℕ) (n : ℕ) (maps owners : List ℕ) → n ≤ 15 * p → Holds p counts e n maps owners
    → GoodEntries e p counts n
holds_sound p counts e n maps owners fits holds m hm =
    let has = holds.has m hm in
    ⊎_elim (λ u. inl (sym has ∙ u))
    (λ less. inr (
      rw has at less.0,
      less.1,
      λ l hl same.
          let q = holds.once m l (omega arith) (omega arith) less.0 (has ∙ sym same ∙ sym (holds.has l (omega arith))) in
          omega (arith, q, hl),
    ))
    (holds.whole m (omega arith))

module _ (p : ℕ) (counts : List ℕ) (e : ℕ → ℕ) (N : ℕ) where
  -- Entry n is a slice that may stand there.
  abbrev Placed : ℕ → Type 0
  Placed n = (e n < p) × BelowCount p counts n

  -- What the first N entries come to.
  pub data LoadEnds : Loaded → Type 0 where
    loaded : (maps owners : List ℕ) → Holds p counts e N maps owners → LoadEnds (Tables maps owners)
    bad : (n : ℕ) → n < N → GoodEntries e p counts n → (e n ≡ unmapped → ⊥) → (Placed n → ⊥) → LoadEnds (Spoilt 9)
    twice : (n : ℕ) → n < N → GoodEntries e p counts n → Placed n → (m : ℕ) → m < n → e m ≡ e n → LoadEnds (Spoilt 10)

  module _ (small : p ≤ unmapped) (room : N ≤ 15 * p) where
    -- From entry n on, into tables that hold those before it.
    load_from : (left n : ℕ) (maps owners : List ℕ) → n + left ≡ N → Holds p counts e n maps owners → LoadEnds (load p counts e left n maps owners)
    unfolding load
    load_from zero n maps owners q holds = let n≡N : n ≡ N = omega arith in loaded maps owners (rw n≡N at holds)
    load_from (suc left) n maps owners q holds =
        choose_reflects LoadEnds _ _ (eqb_reflects (e n) unmapped)
        (λ mark. load_from left (suc n) maps owners (omega arith) (holds_mark p counts e n maps owners holds (omega arith) mark))
        (λ other. choose_reflects LoadEnds _ _ (and_reflects (ltb_reflects (e n) p) (ltb_reflects (n % p) (count_in counts (n / p))))
        (λ slice. choose_reflects LoadEnds _ _ (eqb_reflects (get_or owners (e n) 0) 0)
        (λ free. load_from left (suc n) _ _ (omega arith)
        (holds_slice p counts e n maps owners holds (e n) (omega arith) slice.0 slice.1 free refl))
        (λ held. let r = holds.used (e n) slice.0 held in
        twice n (omega arith) before slice r.0 r.1 (sym (holds.has r.0 r.1) ∙ r.2)))
        (λ out. bad n (omega arith) before other out))
      where
        before : GoodEntries e p counts n
        before = holds_sound p counts e n maps owners (omega arith) holds

    pub load_ends : LoadEnds (load p counts e N 0 (replicate (15 * p) unmapped) (replicate p 0))
    load_ends = load_from N 0 _ _ (omega arith) (holds_none p counts e small)

    -- Tables that were loaded hold the entries.
    pub load_holds : (m o : List ℕ) → load p counts e N 0 (replicate (15 * p) unmapped) (replicate p 0) ≡ Tables m o → Holds p counts e N m o
    load_holds m o = go load_ends
      where
        go : {l : Loaded} → LoadEnds l → l ≡ Tables m o → Holds p counts e N m o
        go (loaded maps owners holds) q =
            let m≡ : maps ≡ m = cc in
            let o≡ : owners ≡ o = cc in
            rw (← m≡, ← o≡) holds
        go (bad n l s u b) q = let z : ◌≡◌ {A = ℕ} 0 1 = cc in absurd (omega arith)
        go (twice n l s b m' l' d) q = let z : ◌≡◌ {A = ℕ} 0 1 = cc in absurd (omega arith)

    -- Good entries can be loaded.
    pub load_served : GoodEntries e p counts N
        → (m : List ℕ) × (o : List ℕ) × (load p counts e N 0 (replicate (15 * p) unmapped) (replicate p 0) ≡ Tables m o)
    load_served sound = go load_ends
      where
        go : {l : Loaded} → LoadEnds l → (m : List ℕ) × (o : List ℕ) × (l ≡ Tables m o)
        go (loaded maps owners holds) = (maps, owners, refl)
        go (bad n l s u b) = ⊎_elim (λ mark. absurd (u mark)) (λ w. absurd (b (w.0, w.1))) (sound n l)
        go (twice n l s b m l' d) = ⊎_elim (λ mark. absurd (omega (arith, b.0))) (λ w. absurd (w.2 m l' d)) (sound n l)

-- What is loaded hangs on the entries alone.
pub load_same : (p : ℕ) (counts : List ℕ) (e e' : ℕ → ℕ) (left n : ℕ) (maps owners : List ℕ) → ((m : ℕ) → n ≤ m → m < n + left → e m ≡ e' m)
    → load p counts e left n maps owners ≡ load p counts e' left n maps owners
unfolding load
load_same p counts e e' zero n maps owners same = refl
load_same p counts e e' (suc left) n maps owners same =
    ap₂ (λ (x : ℕ) (next : List ℕ → List ℕ → Loaded). settle p counts x n maps owners next) (same n (omega arith) (omega arith))
    (fun_ext λ a. fun_ext λ b. load_same p counts e e' left (suc n) a b (λ m l k. same m (omega arith) (omega arith)))

-- Entries that are all the mark leave the tables.
pub load_marks : (p : ℕ) (counts : List ℕ) (e : ℕ → ℕ) (left n : ℕ) (maps owners : List ℕ) → ((m : ℕ) → n ≤ m → m < n + left → e m ≡ unmapped)
    → load p counts e left n maps owners ≡ Tables maps owners
unfolding load
load_marks p counts e zero n maps owners marks = refl
load_marks p counts e (suc left) n maps owners marks =
    ap (λ (x : ℕ). settle p counts x n maps owners (load p counts e left (suc n))) (marks n (omega arith) (omega arith))
    ∙ load_marks p counts e left (suc n) maps owners (λ m l k. marks m (omega arith) (omega arith))
