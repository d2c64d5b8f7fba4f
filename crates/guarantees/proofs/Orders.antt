-- The refusals of each call, in their order: the number that the model's chain gives is that of the first rule that holds.
-- Assumes nothing.
use Prim.Native.Nat.{ℕ, zero, suc, ◌+◌, ◌*◌, ◌/◌, ◌≤◌, ◌<◌}
use mathlib.Core.Path.{◌≡◌, sym, ◌∙◌}
use mathlib.Core.Logic.{◌⊎◌, inl, inr, ⊎_elim}
use mathlib.Core.Bool.{false, not, false≢true}
use mathlib.Core.List.{List, [], ◌∷◌, ◌++◌}
use native.Mathlib.Omega.{arith}
use lib.ListN.{length}
use lib.Dec.{ltb, eqb}
use Rattle.refusals.specs.Numbers.{refuse}
use Rattle.model.specs.declared.Geometry.{Geometry}
use Rattle.model.specs.declared.Session.{Session}
use Rattle.model.specs.Geometry.{bad_geometry, count_in, bad_count, any_bad_count, device_length, Allowed}
use Rattle.model.specs.Session.{Held, geometry, count_of, block_count, unmapped, entry_of, bad_entry, standing, asked, short}
use Rattle.model.specs.Permutation.{member, missing, bad_permutation}
use Rattle.model.specs.Opening.{open_refusal}
use Rattle.model.specs.Read.{read_refusal}
use Rattle.model.specs.Write.{write_refusal}
use Rattle.model.specs.Release.{release_refusal}
use Rattle.model.specs.Maps.{bad_in_block}
use Rattle.model.specs.Format.{format_need, format_refusal}
use Rattle.model.specs.Conditions.{CountFits, CountsFit, Counted, Usable, TablesFit, EntryFits, BlockFits, Enough, slice_at, Names}
use Rattle.model.proofs.Tests.{below}
use Rattle.model.proofs.Bounds.{per_block_least}
use Rattle.model.proofs.Requests.{short_false, short_true, bad_in_block_none, bad_in_block_fits, Formattable}
use Rattle.guarantees.specs.Rules.{Rule, rule}
use Rattle.guarantees.specs.Rules.{standing_rules, asked_rules, open_rules, format_tape, format_rules, read_rules, release_rules, close_rules, table_entry}
use Rattle.guarantees.proofs.Reflects.{Reflects, fails, ltb_reflects, leb_reflects, eqb_reflects, bool_reflects, reflects_map, or_reflects}
use Rattle.guarantees.proofs.Reflects.{Refutes, refuted, not_refutes, ltb_refutes, or_refutes}
use Rattle.guarantees.proofs.Reflects.{refutes_passed, refutes_stable, Below, below_zero_refutes, below_suc_refutes, any_below_refutes}
use Rattle.guarantees.proofs.Chains.{Guards, refuse_guards, guards_map, guards_both, Leads, none, leads-refuse, leads_given, leads-row}
use Rattle.guarantees.proofs.Chains.{Comes, comes_map, comes_rest, comes_rule, comes_row}

-- ---- the tests of the rows

pub differ_guards : (n x y : ℕ) → Guards (refuse (not (eqb x y)) n) n (x ≡ y)
differ_guards n x y = refuse_guards n (not_refutes (eqb_reflects x y))

pub bad_geometry_guards : (n : ℕ) (g : Geometry) → Guards (bad_geometry n g) n (Allowed g)
unfolding bad_geometry
bad_geometry_guards n g =
    guards_map
    (λ p. record { block = p.0; slice_least = p.1.0; slice_most = p.1.1.0; slices_least = p.1.1.1.0; slices_most = p.1.1.1.1 })
    (λ a. (a.block, (a.slice_least, (a.slice_most, (a.slices_least, a.slices_most)))))
    (guards_both (refuse_guards n (not_refutes (or_reflects (eqb_reflects g.b 1024) (eqb_reflects g.b 4096))))
    (guards_both (refuse_guards n (ltb_refutes g.s 1))
    (guards_both (refuse_guards n (ltb_refutes (g.b / 16) g.s))
    (guards_both (refuse_guards n (ltb_refutes g.p 1))
    (refuse_guards n (ltb_refutes 4096 g.p))))))

bad_entry_refutes : (g : Geometry) (x : ℕ) → Refutes (EntryFits g x) (bad_entry g.p x)
bad_entry_refutes g x = not_refutes (or_reflects (eqb_reflects x unmapped) (ltb_reflects x g.p))

pub bad_count_refutes : (p n : ℕ) → Refutes (CountFits p n) (bad_count p n)
bad_count_refutes p n = or_refutes (ltb_refutes n 1) (ltb_refutes p n)

any_bad_count_refutes : (p : ℕ) (counts : List ℕ) (n : ℕ) → Refutes (CountsFit p counts n) (any_bad_count p counts n)
unfolding any_bad_count
any_bad_count_refutes p counts n =
    any_below_refutes (λ i. CountFits p (count_in counts i)) _ (λ i. bad_count_refutes p (count_in counts i)) n

pub short_refutes : (tape position need : ℕ) → Refutes (Enough tape position need) (short tape position need)
short_refutes tape position need = refuted (short tape position need) (short_true tape position need) (short_false tape position need)

-- ---- the permutation, and the entries of a map block

-- Some place of a permutation names slice ψ.
abbrev Named : List ℕ → ℕ → Type 0
Named perm ψ = (n : ℕ) × (n < length perm) × (slice_at perm n ≡ ψ)

member_reflects : (ψ : ℕ) (perm : List ℕ) → Reflects (Named perm ψ) (member ψ perm)
member_reflects ψ [] = fails (λ k. absurd (omega (arith, k.1)))
member_reflects ψ (φ ∷ perm) = reflects_map to from (or_reflects (eqb_reflects ψ φ) (member_reflects ψ perm))
  where
    to : (ψ ≡ φ) ⊎ Named perm ψ → Named (φ ∷ perm) ψ
    to (inl e) = (0, omega arith, sym e)
    to (inr k) = (suc k.0, omega (arith, k.1), k.2)

    at : (n : ℕ) → n < length (φ ∷ perm) → slice_at (φ ∷ perm) n ≡ ψ → (ψ ≡ φ) ⊎ Named perm ψ
    at zero l e = inl (sym e)
    at (suc n) l e = inr (n, omega arith, e)

    from : Named (φ ∷ perm) ψ → (ψ ≡ φ) ⊎ Named perm ψ
    from k = at k.0 k.1 k.2

missing_refutes : (n : ℕ) (perm : List ℕ) → Refutes (Below n (Named perm)) (missing n perm)
missing_refutes zero perm = below_zero_refutes (Named perm)
missing_refutes (suc n) perm = below_suc_refutes (Named perm) n (missing_refutes n perm) (not_refutes (member_reflects n perm))

-- A permutation of P places in which no slice is missing names each.
pub missing_names : (p : ℕ) (perm : List ℕ) → length perm ≡ p → missing p perm ≡ false → Names p perm
missing_names p perm places e = record { places = places; each = refutes_passed (missing_refutes p perm) e }

pub bad_in_block_refutes : (maps : List ℕ) (s : Session) (i σ : ℕ) → Allowed s.geometry
    → Refutes (BlockFits maps s i σ) (bad_in_block maps s i σ)
bad_in_block_refutes maps s i σ ok =
    let some = per_block_least s.geometry ok in
    refuted (bad_in_block maps s i σ) (λ e fits. false≢true (sym (bad_in_block_fits maps s i σ some fits) ∙ e)) (bad_in_block_none maps s i σ some)

-- ---- the orders

usable_guards : (s : Session)
    → Guards (λ rest. refuse (not s.opened) 20 (bad_geometry 20 s.geometry
    (refuse (ltb 14 s.k) 20 (refuse (ltb s.geometry.p s.start) 20
    (refuse (any_bad_count s.geometry.p s.counts (s.k + 1)) 20 rest))))) 20 (Usable s)
usable_guards s =
    guards_map (λ p. record { opened = p.0; allowed = p.1.0; top = p.1.1.0; place = p.1.1.1.0; counted = p.1.1.1.1 })
    (λ u. (u.opened, (u.allowed, (u.top, (u.place, u.counted)))))
    (guards_both (refuse_guards 20 (not_refutes (bool_reflects s.opened)))
    (guards_both (bad_geometry_guards 20 s.geometry)
    (guards_both (refuse_guards 20 (ltb_refutes 14 s.k))
    (guards_both (refuse_guards 20 (ltb_refutes s.geometry.p s.start))
    (refuse_guards 20 (any_bad_count_refutes s.geometry.p s.counts (s.k + 1)))))))

tables_guards : (g : Geometry) (maps owners : ℕ)
    → Guards (λ rest. refuse (not (eqb maps (15 * g.p))) 4 (refuse (not (eqb owners g.p)) 4 rest)) 4 (TablesFit g maps owners)
tables_guards g maps owners = guards_both (differ_guards 4 maps (15 * g.p)) (differ_guards 4 owners g.p)

names_guards : (p : ℕ) (perm : List ℕ) → Guards (bad_permutation p perm) 5 (Names p perm)
names_guards p perm =
    guards_map (λ k. record { places = k.0; each = k.1 }) (λ k. (k.places, k.each))
    (guards_both (differ_guards 5 (length perm) p) (refuse_guards 5 (missing_refutes p perm)))

-- Whether a permutation names each slice is decided.
pub names_stable : (p : ℕ) (perm : List ℕ) → ((Names p perm → ⊥) → ⊥) → Names p perm
names_stable p perm = refutes_stable (names_guards p perm).decides

standing-leads : (device maps owners : ℕ) (s : Session) {rs : List Rule} {rest : ℕ} → (Usable s → Leads rs rest 0)
    → Leads (standing_rules device maps owners s ++ rs) (standing device maps owners s rest) 0
unfolding standing
standing-leads device maps owners s q =
    leads_given (usable_guards s)
    (λ u. leads-row (differ_guards 2 device (device_length s.geometry))
    (leads-row (tables_guards s.geometry maps owners)
    (q u)))

asked-leads : (maps : List ℕ) (s : Session) (i a len : ℕ) → Leads (asked_rules maps s i a len) (asked maps s i a len) 0
unfolding asked
asked-leads maps s i a len =
    leads-refuse 11 (ltb_reflects s.k i)
    (leads-refuse 12 (leb_reflects (block_count s i) a)
    (leads-row (differ_guards 13 len s.geometry.b)
    (leads-row (refuse_guards 9 (bad_entry_refutes s.geometry (entry_of maps s.geometry i a)))
    none)))

pub open_leads : (g : Geometry) (device key maps owners : ℕ) (perm : List ℕ)
    → Leads (open_rules g device key maps owners perm) (open_refusal g device key maps owners perm) 0
unfolding open_refusal
open_leads g device key maps owners perm =
    leads-row (bad_geometry_guards 1 g)
    (leads-row (differ_guards 2 device (device_length g))
    (leads-row (differ_guards 3 key 32)
    (leads-row (tables_guards g maps owners)
    (leads-row (names_guards g.p perm)
    none))))

pub read_leads : (device : ℕ) (maps owners : List ℕ) (s : Session) (i a room : ℕ)
    → Leads (read_rules device maps owners s i a room) (read_refusal device maps owners s i a room) 0
unfolding read_refusal
read_leads device maps owners s i a room = standing-leads device (length maps) (length owners) s (λ u. asked-leads maps s i a room)

-- The rules of a write that come before the entry is looked up, for a text of len bytes and a permutation of so many places.
abbrev pub early_rules : (device : ℕ) → Held → (i a len places : ℕ) → List Rule
early_rules device h i a len places =
    standing_rules device (length h.maps) (length h.owners) h.session
    ++ (rule 5 (places ≡ (geometry h).p → ⊥) ∷ asked_rules h.maps h.session i a len)

pub write_leads : (device : ℕ) (h : Held) (i a len places : ℕ)
    → Leads (early_rules device h i a len places) (write_refusal device h.maps h.owners h.session i a len places) 0
unfolding write_refusal
write_leads device h i a len places =
    standing-leads device (length h.maps) (length h.owners) h.session
    (λ u. leads-row (differ_guards 5 places (geometry h).p) (asked-leads h.maps h.session i a len))

pub release_leads : (device : ℕ) (h : Held) (i σ : ℕ) (perm : List ℕ) (tape : ℕ)
    → Leads (release_rules device h i σ perm tape) (release_refusal device h i σ perm tape) 0
unfolding release_refusal
release_leads device h i σ perm tape =
    standing-leads device (length h.maps) (length h.owners) h.session
    (λ u. leads-row (names_guards (geometry h).p perm)
    (leads-refuse 11 (ltb_reflects h.session.k i)
    (leads-refuse 12 (leb_reflects (count_of h.session i) σ)
    (leads-row (refuse_guards 9 (bad_in_block_refutes h.maps h.session i σ u.allowed))
    (leads-refuse 25 (eqb_reflects (table_entry h i σ) unmapped)
    (leads-row (refuse_guards 21 (short_refutes tape h.position 16))
    none))))))

pub close_leads : (device : ℕ) (h : Held)
    → Leads (close_rules device h) (standing device (length h.maps) (length h.owners) h.session 0) 0
close_leads device h = standing-leads device (length h.maps) (length h.owners) h.session (λ u. none)

-- ---- formatting

-- The geometry, and a count for each key.
pub counted_guards : (g : Geometry) (n : ℕ) (counts : List ℕ)
    → Guards (λ rest. bad_geometry 1 g (refuse (not (eqb (length counts) n)) 1 (refuse (any_bad_count g.p counts n) 1 rest))) 1
    (Allowed g × Counted g.p n counts)
counted_guards g n counts =
    guards_both (bad_geometry_guards 1 g)
    (guards_both (differ_guards 1 (length counts) n) (refuse_guards 1 (any_bad_count_refutes g.p counts n)))

pub format_comes : (device : ℕ) (g : Geometry) (n keys : ℕ) (counts : List ℕ) (tape position rest : ℕ)
    → Comes (format_rules device g n keys counts tape position) (Formattable device g n keys counts tape position) rest
    (format_refusal device g n keys counts tape position rest)
unfolding format_refusal format_need
format_comes device g n keys counts tape position rest =
    comes_map
    (λ p. record {
      allowed = p.0.0;
      counted = p.0.1;
      long = p.1.0;
      count = p.1.1.0;
      keyed = p.1.1.1.0;
      enough = p.1.1.1.1.0;
    })
    (comes_row (counted_guards g n counts)
    (comes_row (differ_guards 2 device (device_length g))
    (comes_rule out (λ o. ⊎_elim (λ e p. omega (arith, p.0)) (λ l p. omega (arith, p.1)) o)
    (guards_both (refuse_guards 23 (ltb_refutes n 1)) (refuse_guards 23 (ltb_refutes 15 n)))
    (comes_row (differ_guards 3 keys (32 * n))
    (comes_row (refuse_guards 21 (short_refutes tape position (format_tape g n)))
    comes_rest)))))
  where
    out : ((1 ≤ n) × (n ≤ 15) → ⊥) → (n ≡ 0) ⊎ (15 < n)
    out f = ⊎_elim (λ l. inr l) (λ l. ⊎_elim (λ k. inl (omega arith)) (λ k. absurd (f (k, l))) (below n 1)) (below 15 n)
