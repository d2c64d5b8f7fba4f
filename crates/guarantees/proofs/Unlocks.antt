-- What the headers of a device come to at an opening. Assumes nothing.
use Prim.Native.Nat.{ℕ, zero, suc, ◌+◌, ◌-◌, ◌*◌, ◌≤◌, ◌<◌}
use mathlib.Core.Path.{◌≡◌, refl}
use mathlib.Core.List.{List, [], ◌∷◌, ◌++◌}
use native.Mathlib.Nat.{add-zero, zero-add}
use native.Mathlib.Omega.{arith}
use lib.ListN.{length, replicate, length-append}
use lib.Seq.{take_at}
use Rattle.gcm_spec.specs.Gcm.{Opened, Text, WrongTag, gcm_open}
use Rattle.gcm_spec.proofs.Gctr.{text_length}
use Rattle.gcm_spec.proofs.Same.{open_right}
use Rattle.model.specs.declared.Geometry.{Geometry}
use Rattle.model.specs.Geometry.{Allowed, count_in, map_blocks, device_length, header_start, header_of}
use Rattle.model.specs.Session.{key_in}
use Rattle.model.specs.Opening.{open_header, vek_of, vmk_below, slice_count, bad_header, Chain, Keys, Broken, link, chain, all_keys, all_counts}
use Rattle.guarantees.specs.Openings.{HeaderFits, Reached, from_above, Unlocked, AllUnlocked}
use Rattle.model.proofs.Parts.{part_length, part_left, part_right}
use Rattle.model.proofs.Bounds.{b_bounds, header_fits}
use Rattle.model.proofs.Keys.{all_counts_below}
use Rattle.guarantees.proofs.Reflects.{eqb_reflects, Refutes, not_refutes, or_refutes, choose_refutes}
use Rattle.guarantees.proofs.Orders.{bad_count_refutes}

-- ---- the headers

gcm_open-length : (key iv aad c tag text : List ℕ) → gcm_open key iv aad c tag ≡ Text text → length text ≡ length c
gcm_open-length key iv aad c tag text e = rw (open_right key iv aad c tag text e).0 (text_length key iv c)

header_fits_refutes : (g : Geometry) (text : List ℕ) → Refutes (HeaderFits g text) (bad_header g text)
header_fits_refutes g text = or_refutes (bad_count_refutes g.p (slice_count text)) (not_refutes (eqb_reflects _ _))

module _ (device : List ℕ) (g : Geometry) (k : ℕ) (top : List ℕ) where
  abbrev header : ℕ → List ℕ
  header = header_of g device

  -- keys has the VEKs of volumes n to k end to end, and counts their N.
  pub record UnlockedFrom (n : ℕ) (keys counts : List ℕ) : Type 0 where
    pub size : 32 * n + length keys ≡ 32 * (k + 1)
    pub many : n + length counts ≡ k + 1
    each : (j : ℕ) → n + j ≤ k → Unlocked device g k top (n + j) (key_in keys j) (count_in counts j)

  -- What the chain of headers comes to: the data keys and the counts, or the first header whose tag is wrong or that does not fit.
  pub data ChainEnds : Chain → Type 0 where
    whole : (keys counts : List ℕ) → UnlockedFrom 0 keys counts → ChainEnds (Keys keys counts)
    wrong_tag : (i : ℕ) (vmk : List ℕ) → Reached device g k top i vmk → open_header vmk i (header i) ≡ WrongTag → ChainEnds (Broken 7)
    misfit : (i : ℕ) (vmk text : List ℕ) → Reached device g k top i vmk → open_header vmk i (header i) ≡ Text text → (HeaderFits g text → ⊥)
        → ChainEnds (Broken 8)

  link_ends : (i : ℕ) (vmk : List ℕ) → Reached device g k top i vmk → (o : Opened) → open_header vmk i (header i) ≡ o → {next : List ℕ → Chain}
      → ((text : List ℕ) → open_header vmk i (header i) ≡ Text text → HeaderFits g text → ChainEnds (next text)) → ChainEnds (link g o next)
  link_ends i vmk reached WrongTag e goes = wrong_tag i vmk reached e
  link_ends i vmk reached (Text text) e goes =
      choose_refutes ChainEnds _ _ (header_fits_refutes g text) (misfit i vmk text reached e) (goes text e)

  -- The keys and the counts beyond those of volumes 0 to k are not read.
  pub all_keys_unlocked : k < 15 → (keys counts : List ℕ) → UnlockedFrom 0 keys counts
      → AllUnlocked device g k top (all_keys keys k) (all_counts counts k)
  all_keys_unlocked low keys counts u i hi =
      rw (
        part_left keys (replicate (32 * (14 - k)) 0) (32 * i) 32 (omega (arith, u.size)),
        all_counts_below counts k (omega (arith, u.many)) low i hi,
      ) (rw zero-add at (u.each i (omega arith)))

  module _ (ok : Allowed g) (long : length device ≡ device_length g) (low : k < 15) where
    vek_of_length : (i : ℕ) → i ≤ k → (vmk text : List ℕ) → open_header vmk i (header i) ≡ Text text → length (vek_of text) ≡ 32
    vek_of_length i hi vmk text e =
        part_length text 0 32
        (omega (arith, gcm_open-length _ _ _ _ _ text e, part_length (header i) 12 72 (omega (arith, header_long, b_bounds g ok))))
      where
        header_long : length (header i) ≡ g.b * (1 + map_blocks g)
        header_long =
            part_length device (header_start g i) (g.b * (1 + map_blocks g)) (omega (arith, header_fits g ok i (omega arith)))

    unlocked_from_more : (n : ℕ) → n ≤ k → (vmk text veks counts : List ℕ) → Reached device g k top n vmk
        → open_header vmk n (header n) ≡ Text text → HeaderFits g text
        → UnlockedFrom (suc n) veks counts → UnlockedFrom n (vek_of text ++ veks) (slice_count text ∷ counts)
    unlocked_from_more n hn vmk text veks counts reached e fits u =
        record { size = omega (arith, u.size, length-append (vek_of text) veks, size); many = omega (arith, u.many); each = each }
      where
        size : length (vek_of text) ≡ 32
        size = vek_of_length n hn vmk text e

        each : (j : ℕ) → n + j ≤ k → Unlocked device g k top (n + j) (key_in (vek_of text ++ veks) j) (count_in (slice_count text ∷ counts) j)
        each zero l =
            rw add-zero (record {
              vmk = vmk;
              text = text;
              reached = reached;
              opens = e;
              fits = fits;
              is = take_at (vek_of text) veks 32 size;
              counts = refl;
            })
        each (suc j) l =
            let next : n + suc j ≡ suc n + j = omega arith in
            let at : 32 * suc j ≡ 32 + 32 * j = omega arith in
            rw (next, at, part_right (vek_of text) veks 32 size (32 * j) 32) (u.each j (omega arith))

    -- From header n down, where those above it are passed.
    chain_from : (n : ℕ) → n ≤ k → (vmk veks counts : List ℕ) → Reached device g k top n vmk → UnlockedFrom (suc n) veks counts
        → ChainEnds (chain g header n vmk veks counts)
    unfolding chain
    chain_from zero hn vmk veks counts reached u =
        link_ends zero vmk reached (open_header vmk zero (header zero)) refl
        (λ text e fits. whole _ _ (unlocked_from_more zero hn vmk text veks counts reached e fits u))
    chain_from (suc n) hn vmk veks counts reached u =
        link_ends (suc n) vmk reached (open_header vmk (suc n) (header (suc n))) refl
        (λ text e fits. chain_from n (omega arith) (vmk_below text) (vek_of text ++ veks) (slice_count text ∷ counts)
        (from_above n vmk text reached e fits) (unlocked_from_more (suc n) hn vmk text veks counts reached e fits u))

    pub chain_ends : ChainEnds (chain g header k top [] [])
    chain_ends =
        chain_from k (omega arith) top [] [] Reached.from_cell
        (record { size = omega arith; many = omega arith; each = λ j l. absurd (omega arith) })

    chain_ends_unlocked : {c : Chain} → ChainEnds c → (keys counts : List ℕ) → c ≡ Keys keys counts → UnlockedFrom 0 keys counts
    chain_ends_unlocked (whole ks cs u) keys counts e =
        let q : ks ≡ keys = cc in
        let r : cs ≡ counts = cc in
        rw (← q, ← r) u
    chain_ends_unlocked (wrong_tag i vmk r w) keys counts e = let z : ◌≡◌ {A = ℕ} 0 1 = cc in absurd (omega arith)
    chain_ends_unlocked (misfit i vmk text r w f) keys counts e = let z : ◌≡◌ {A = ℕ} 0 1 = cc in absurd (omega arith)

    pub chain_unlocked : (keys counts : List ℕ) → chain g header k top [] [] ≡ Keys keys counts → UnlockedFrom 0 keys counts
    chain_unlocked = chain_ends_unlocked chain_ends
