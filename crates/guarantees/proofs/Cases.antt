-- What a call may come to: one case analysis for each call, cited by every theorem on runs. Assumes nothing.
use Prim.Native.Nat.{ℕ, suc, ◌≤◌, ◌<◌}
use mathlib.Core.Path.{◌≡◌, refl, sym, ap, subst, ◌∙◌}
use mathlib.Core.List.{List}
use mathlib.Core.Logic.{⊎_elim}
use native.Mathlib.Omega.{arith}
use lib.ListN.{length, get_or}
use Rattle.model.specs.declared.Geometry.{Geometry}
use Rattle.model.specs.declared.Session.{Session}
use Rattle.model.specs.declared.Search.{Search}
use Rattle.model.specs.declared.Search.TheVariants.{Free, Bad, Full}
use Rattle.model.specs.Permutation.{place_of}
use Rattle.model.specs.Session.{Held, Outcome, geometry, count_of, starting_at, slice_of, offset_of, unmapped, standing, idle}
use Rattle.model.specs.Read.{read_refusal}
use Rattle.model.specs.Search.{first_free}
use Rattle.model.specs.Write.{probes_to, WriteResult, claim_need, rewritten, claimed, full, claim_outcome, write_refusal, write_model}
use Rattle.model.specs.Release.{release_refusal, ReleaseResult, released, release_model}
use Rattle.model.specs.Close.{CloseResult, closed, close_model}
use Rattle.model.specs.Geometry.{device_length}
use Rattle.model.specs.Conditions.{Usable, TablesFit, Enough, Names, slice_at}
use Rattle.model.proofs.Requests as requests
use Rattle.guarantees.specs.Rules.{held_entry, table_entry, asked_rules, FreeAt, BadAt, NoneFree, HeldFits}
use Rattle.guarantees.proofs.Reflects.{ltb_reflects, choose_reflects, choose_refutes}
use Rattle.guarantees.proofs.Chains.{None, others, leads_barred}
use Rattle.guarantees.proofs.Orders.{short_refutes, missing_names, bad_in_block_refutes, early_rules, write_leads}
use Rattle.model.proofs.Permutations.{Placed, names_place}
use Rattle.model.proofs.Refused.{unless-cases}
use Rattle.model.proofs.Searches.{Finds, first_free_finds}

-- ---- a session that stands, on a device of n bytes

abbrev pub Stands : (n : ℕ) → Held → Type 0
Stands n h = requests.Stands n (length h.maps) (length h.owners) h.session

-- It stands with another start place, at most P, and tables of the same lengths.
pub stands_at : (h h' : Held) {n m : ℕ} → Stands n h → h'.session.start ≤ (geometry h).p
    → h'.session ≡ starting_at h'.session.start h.session → m ≡ n
    → length h'.maps ≡ length h.maps → length h'.owners ≡ length h.owners → Stands m h'
stands_at h h' s l e long maps owners =
    let u = s.usable in
    let same : geometry h ≡ geometry h' = sym (ap (λ (z : Session). z.geometry) e) in
    record {
      usable =
          subst Usable (sym e)
          (record { opened = u.opened; allowed = u.allowed; top = u.top; place = l; counted = u.counted });
      long = long ∙ s.long ∙ ap device_length same;
      tables = subst (λ (g : Geometry). TablesFit g (length h'.maps) (length h'.owners)) same (maps ∙ s.tables.0, owners ∙ s.tables.1);
    }

-- ---- an address that is served

abbrev pub Asked : Held → (i a len : ℕ) → Type 0
Asked h i a len = requests.Asked h.maps h.session i a len

abbrev pub Ready : (n : ℕ) → Held → (i a len : ℕ) → Type 0
Ready n h i a len = requests.Ready n h.maps h.owners h.session i a len

abbrev pub read_refusal_of : (n : ℕ) → Held → (i a room : ℕ) → ℕ
read_refusal_of n h i a room = read_refusal n h.maps h.owners h.session i a room

-- ---- a write: refused, a block stored anew, or a slice claimed

abbrev pub write_refusal_of : (n : ℕ) → Held → (i a len perm : ℕ) → ℕ
write_refusal_of n h i a len perm = write_refusal n h.maps h.owners h.session i a len perm

abbrev pub Writable : (n : ℕ) → Held → (i a : ℕ) → (text perm : List ℕ) → Type 0
Writable n h i a text perm = requests.Writable n h.maps h.owners h.session i a (length text) (length perm)

-- No rule before the entry is looked up holds.
pub writable_passes : (n : ℕ) (h : Held) (i a : ℕ) (text perm : List ℕ) → Writable n h i a text perm
    → None (early_rules n h i a (length text) (length perm))
writable_passes n h i a text perm w =
    let s = w.stands in
    let q = w.asked in
    let asks : None (asked_rules h.maps h.session i a (length text)) =
    (λ l. omega (arith, q.volume), (λ l. omega (arith, q.address), (λ f. f q.size, (λ f. f q.mapped, tt)))) in
    (λ f. f s.usable, (λ f. f s.long, (λ f. f s.tables, (λ f. f w.places, asks))))

module _ (n : ℕ) (h : Held) (i a : ℕ) (text perm tape : List ℕ) where
  abbrev σ : ℕ
  σ = slice_of (geometry h) a

  abbrev j : ℕ
  j = offset_of (geometry h) a

  abbrev ψ₀ : ℕ
  ψ₀ = held_entry h i a

  abbrev Left : ℕ → Type 0
  Left need = Enough (length tape) h.position need

  abbrev refused : (number probes : ℕ) → Outcome WriteResult
  refused number probes = idle h (WriteResult.Refused number probes)

  abbrev probes : ℕ → ℕ
  probes place = probes_to h.session place

  -- A write that comes to the search of a claim: its entry is the mark, and every entry of its map block fits.
  pub record Claimable : Type 0 where
    pub writable : Writable n h i a text perm
    pub mark : ψ₀ ≡ unmapped
    pub block : HeldFits h i σ

  -- Each case with all that is known of it.
  pub write_cases : (P : Outcome WriteResult → Type 0)
      → ((r : ℕ) → write_refusal_of n h i a (length text) (length perm) ≡ suc r → P (refused (suc r) 0))
      → (Writable n h i a text perm → ψ₀ < (geometry h).p → (Left 16 → ⊥) → P (refused 21 0))
      → (Writable n h i a text perm → ψ₀ < (geometry h).p → Left 16 → P (rewritten h i ψ₀ j text tape))
      → (Writable n h i a text perm → ψ₀ ≡ unmapped → (HeldFits h i σ → ⊥) → P (refused 9 0))
      → (Claimable → (place : ℕ) → BadAt h perm place → P (refused 5 (probes place)))
      → (Claimable → NoneFree h perm → P (full h))
      → (Claimable → (place : ℕ) → FreeAt h perm place → (Left (claim_need (geometry h)) → ⊥) → P (refused 21 (probes place)))
      → (Claimable → (ψ place : ℕ) → FreeAt h perm place → slice_at perm place ≡ ψ → Left (claim_need (geometry h))
      → P (claimed h i σ j ψ place text tape))
      → P (write_model n h i a text perm tape)
  unfolding write_model
  write_cases P unfit re-short re spoilt bad none cl-short cl =
      unless-cases P _ _ _ unfit
      (λ e. let w = requests.write_refusal_none n h.maps h.owners h.session i a (length text) (length perm) e in
      choose_reflects P _ _ (ltb_reflects ψ₀ (geometry h).p)
      (λ l. choose_refutes P _ _ (short_refutes (length tape) h.position 16) (re-short w l) (re w l))
      (λ out. let u = ⊎_elim (λ u. u) (λ l. absurd (out l)) w.asked.mapped in
      choose_refutes P _ _ (bad_in_block_refutes h.maps h.session i σ w.stands.usable.allowed) (spoilt w u)
      (λ fits. claims (record { writable = w; mark = u; block = fits }) search_of
      (first_free_finds h.owners (geometry h).p perm h.session.start))))
    where
      search_of : Search
      search_of = first_free h.owners (geometry h).p h.session.start perm

      claims : Claimable → (s : Search) → Finds h.owners (geometry h).p perm h.session.start s → P (claim_outcome h i σ j text tape s)
      claims c (Bad place) f = bad c place f
      claims c Full f = none c f
      claims c (Free ψ place) f =
          choose_refutes P _ _ (short_refutes (length tape) h.position (claim_need (geometry h))) (cl-short c place f.0)
          (cl c ψ place f.0 f.1)

  -- 22 is not among the refusals before the search.
  pub early_not_22 : write_refusal_of n h i a (length text) (length perm) ≡ 22 → ⊥
  early_not_22 =
      leads_barred (write_leads n h i a (length text) (length perm)) (others 22 (early_rules n h i a (length text) (length perm)) refl) (omega arith)

  -- The same where only what is stored and left matters: every refusal but 22 leaves what is held.
  pub write_stores : (P : Outcome WriteResult → Type 0)
      → ((number count : ℕ) → (number ≡ 22 → ⊥) → P (refused number count))
      → (Writable n h i a text perm → P (full h))
      → (Writable n h i a text perm → ψ₀ < (geometry h).p → Left 16 → P (rewritten h i ψ₀ j text tape))
      → (Claimable → (ψ place : ℕ) → FreeAt h perm place → ψ < (geometry h).p → get_or h.owners ψ 0 ≡ 0
      → Left (claim_need (geometry h)) → P (claimed h i σ j ψ place text tape))
      → P (write_model n h i a text perm tape)
  write_stores P none filled re cl =
      write_cases P (λ r e. none (suc r) 0 (λ q. early_not_22 (e ∙ q))) (λ w l s. none 21 0 (omega arith)) re
      (λ w u f. none 9 0 (omega arith)) (λ c place f. none 5 (probes place) (omega arith)) (λ c f. filled c.writable)
      (λ c place f s. none 21 (probes place) (omega arith))
      (λ c ψ place f q enough. cl c ψ place f (rw q at f.slice) (rw q at f.free) enough)

-- ---- a release

-- One that is not refused.
pub record Releasable (n : ℕ) (h : Held) (i σ : ℕ) (perm tape : List ℕ) : Type 0 where
  pub stands : Stands n h
  pub names : Names (geometry h).p perm
  pub volume : i ≤ h.session.k
  pub slice : σ < count_of h.session i
  pub mapped : table_entry h i σ < (geometry h).p
  pub place : Placed (table_entry h i σ) perm (place_of (table_entry h i σ) perm)
  pub enough : Enough (length tape) h.position 16

pub release_cases : (n : ℕ) (h : Held) (i σ : ℕ) (perm tape : List ℕ) (P : Outcome ReleaseResult → Type 0)
    → ((r : ℕ) → release_refusal n h i σ perm (length tape) ≡ suc r → P (idle h (ReleaseResult.Refused (suc r))))
    → (Releasable n h i σ perm tape → P (released h i σ (table_entry h i σ) (place_of (table_entry h i σ) perm) tape))
    → P (release_model n h i σ perm tape)
unfolding release_model
release_cases n h i σ perm tape P refused done =
    unless-cases P _ _ _ refused
    (λ e. let q = requests.release_refusal_none n h i σ perm (length tape) e in
    let names = missing_names (geometry h).p perm q.places q.named in
    done (record {
      stands = q.stands;
      names = names;
      volume = q.volume;
      slice = q.slice;
      mapped = q.mapped;
      place = names_place (geometry h).p perm (table_entry h i σ) names q.mapped;
      enough = q.enough;
    }))

-- ---- a close

pub close_cases : (n : ℕ) (h : Held) (P : Outcome CloseResult → Type 0)
    → ((r : ℕ) → standing n (length h.maps) (length h.owners) h.session 0 ≡ suc r → P (idle h (CloseResult.Refused (suc r))))
    → (Stands n h → P (closed h))
    → P (close_model n h)
unfolding close_model
close_cases n h P refused done = unless-cases P _ _ _ refused (λ e. done (requests.standing_none _ _ _ _ _ e).0)
