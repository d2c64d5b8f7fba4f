-- Laws of the chain of headers, as the loop from k down to 0 follows it. Assumes nothing.
use Prim.Native.Nat.{ℕ, zero, suc, ◌+◌, ◌-◌, ◌*◌, ◌≤◌, ◌<◌}
use mathlib.Core.Path.{◌≡◌, refl, sym, ap, ap₂, ◌∙◌}
use mathlib.Core.List.{List, [], ◌∷◌, ◌++◌}
use native.Mathlib.Numerals.{add-one}
use native.Mathlib.Omega.{arith}
use lib.ListN.{length, take, drop, set, replicate, length-replicate}
use lib.Seq.{take_all, take-add, drop-drop, drop-set-lt}
use Rattle.model.specs.declared.Geometry.{Geometry}
use Rattle.model.specs.Parts.{part, overlay}
use Rattle.model.specs.Session.{no_keys, no_counts}
use Rattle.model.specs.Opening.{Chain, Keys, Broken, open_header, vek_of, vmk_below, slice_count, link, chain, all_keys, all_counts}
use Rattle.model.proofs.Parts.{part_replicate, overlay_whole, overlay_after}
use Rattle.chaining.specs.Steps.{HeaderOpened, ChainOpened}
use Rattle.chaining.proofs.Headers.{link_broken, link_goes_on}

-- ---- the chain

-- What n headers leave to do, the VEKs and the counts above known: nothing where n is 0.
unfoldable pub remaining : Geometry → (header : ℕ → List ℕ) → (n : ℕ) → (vmk above counted : List ℕ) → Chain
remaining g header zero vmk above counted = Keys above counted
remaining g header (suc n) vmk above counted = chain g header n vmk above counted

module _ (g : Geometry) (header : ℕ → List ℕ) where
  remaining_suc : (i : ℕ) (vmk above counted : List ℕ) → remaining g header (suc i) vmk above counted
      ≡ link g (open_header vmk i (header i))
      (λ (text : List ℕ). remaining g header i (vmk_below text) (vek_of text ++ above) (slice_count text ∷ counted))
  unfolding remaining chain
  remaining_suc zero vmk above counted = refl
  remaining_suc (suc i) vmk above counted = refl

  module _ (n : ℕ) (vmk above counted : List ℕ) (l : 0 < n) (number : ℕ) (text : List ℕ)
      (h : HeaderOpened g (open_header vmk (n - 1) (header (n - 1))) number text) where
    abbrev onward : List ℕ → Chain
    onward t = remaining g header (n - 1) (vmk_below t) (vek_of t ++ above) (slice_count t ∷ counted)

    next : remaining g header n vmk above counted ≡ link g (open_header vmk (n - 1) (header (n - 1))) onward
    next =
        let k : n ≡ suc (n - 1) = omega arith in
        ap (λ (m : ℕ). remaining g header m vmk above counted) k ∙ remaining_suc (n - 1) vmk above counted

    pub remaining_broken : (number ≡ 0 → ⊥) → remaining g header n vmk above counted ≡ Broken number
    remaining_broken ne = next ∙ link_broken g (open_header vmk (n - 1) (header (n - 1))) number text onward h ne

    pub remaining_next : number ≡ 0 → {vmk' above' counted' : List ℕ} → vmk_below text ≡ vmk' → (vek_of text ++ above) ≡ above'
        → slice_count text ∷ counted ≡ counted' → remaining g header n vmk above counted ≡ remaining g header (n - 1) vmk' above' counted'
    remaining_next z e q r = next ∙ link_goes_on g (open_header vmk (n - 1) (header (n - 1))) number text onward h z ∙ rw (e, q, r) refl

  pub remaining_first : (k : ℕ) (vmk keys counts : List ℕ) (a b : ℕ)
      → chain g header k vmk [] []
      ≡ remaining g header (k + 1) vmk (part a (32 * (k + 1 - (k + 1))) keys) (part b (k + 1 - (k + 1)) counts)
  unfolding remaining
  remaining_first k vmk keys counts a b =
      let y : k + 1 - (k + 1) ≡ 0 = omega arith in
      rw (y, add-one k) refl

  pub remaining_done : {n : ℕ} (vmk above counted : List ℕ) → n ≡ 0 → remaining g header n vmk above counted ≡ Keys above counted
  unfolding remaining
  remaining_done vmk above counted e = rw e

-- ---- the keys

part_add : (s : List ℕ) (a n m : ℕ) → part a (n + m) s ≡ part a n s ++ part (a + n) m s
part_add s a n m = take-add n m (drop a s) ∙ ap (λ (l : List ℕ). part a n s ++ take m l) (drop-drop n a s)

-- One key more below those that stand.
pub keys_next : (keys vek : List ℕ) (k n : ℕ) → length keys ≡ 480 → length vek ≡ 32 → k ≤ 14 → 0 < n → n ≤ k + 1
    → vek ++ part (32 * n) (32 * (k + 1 - n)) keys ≡ part (32 * (n - 1)) (32 * (k + 1 - (n - 1))) (overlay keys (32 * (n - 1)) vek)
keys_next keys vek k n e ev lk ln l =
    let i : ℕ = n - 1 in
    let a : 32 * n ≡ 32 * i + 32 = omega arith in
    let w : 32 * (k + 1 - i) ≡ 32 + 32 * (k + 1 - n) = omega arith in
    let s : List ℕ = overlay keys (32 * i) vek in
    ap₂ (λ (x y : List ℕ). x ++ y)
    (sym (overlay_whole keys (32 * i) vek 32 ev (omega arith)))
    (ap (λ (m : ℕ). part m (32 * (k + 1 - n)) keys) a ∙ sym (overlay_after keys (32 * i) vek (32 * i + 32) (32 * (k + 1 - n)) (omega arith)))
    ∙ sym (part_add s (32 * i) 32 (32 * (k + 1 - n)))
    ∙ ap (λ (m : ℕ). part (32 * i) m s) (sym w)

-- Those above k stay 0.
pub keys_above : (keys vek : List ℕ) (k n : ℕ) → length vek ≡ 32 → 0 < n → n ≤ k + 1
    → part (32 * (k + 1)) (32 * (14 - k)) keys ≡ replicate (32 * (14 - k)) 0
    → part (32 * (k + 1)) (32 * (14 - k)) (overlay keys (32 * (n - 1)) vek) ≡ replicate (32 * (14 - k)) 0
keys_above keys vek k n ev ln l e = overlay_after keys (32 * (n - 1)) vek (32 * (k + 1)) (32 * (14 - k)) (omega arith) ∙ e

pub no_keys-length : length no_keys ≡ 480
unfolding no_keys
no_keys-length = length-replicate {A = ℕ} 480 0

pub no_keys_above : (k : ℕ) → k ≤ 14 → part (32 * (k + 1)) (32 * (14 - k)) no_keys ≡ replicate (32 * (14 - k)) 0
unfolding no_keys
no_keys_above k l = part_replicate (32 * (k + 1)) (32 * (14 - k)) 480 0 (omega arith)

-- All of them, where none is left to do.
pub keys_whole : (keys : List ℕ) (k : ℕ) {n : ℕ} → length keys ≡ 480 → k ≤ 14 → n ≡ 0
    → part (32 * (k + 1)) (32 * (14 - k)) keys ≡ replicate (32 * (14 - k)) 0 → keys ≡ all_keys (part (32 * n) (32 * (k + 1 - n)) keys) k
keys_whole keys k {n} e l z q =
    let a : 32 * n ≡ 0 = omega arith in
    let w : 32 * (k + 1 - n) ≡ 32 * (k + 1) = omega arith in
    let b : 0 + 32 * (k + 1) ≡ 32 * (k + 1) = omega arith in
    sym (take_all (32 * (k + 1) + 32 * (14 - k)) keys (omega arith))
    ∙ part_add keys 0 (32 * (k + 1)) (32 * (14 - k))
    ∙ ap₂ (λ (x y : List ℕ). x ++ y)
    (ap₂ (λ (m v : ℕ). part m v keys) (sym a) (sym w))
    (ap (λ (m : ℕ). part m (32 * (14 - k)) keys) b ∙ q)

-- ---- the counts

part_set : (s : List ℕ) (i m x : ℕ) → i < length s → x ∷ part (suc i) m s ≡ part i (suc m) (set s i x)
part_set [] i m x l = absurd (omega arith)
part_set (y ∷ s) zero m x l = refl
part_set (y ∷ s) (suc i) m x l = part_set s i m x (omega arith)

-- One count more below those that stand.
pub counts_next : (counts : List ℕ) (x k n : ℕ) → length counts ≡ 15 → k ≤ 14 → 0 < n → n ≤ k + 1
    → x ∷ part n (k + 1 - n) counts ≡ part (n - 1) (k + 1 - (n - 1)) (set counts (n - 1) x)
counts_next counts x k n e lk ln l =
    let i : ℕ = n - 1 in
    let a : n ≡ suc i = omega arith in
    let w : suc (k + 1 - n) ≡ k + 1 - i = omega arith in
    ap (λ (m : ℕ). x ∷ part m (k + 1 - n) counts) a
    ∙ part_set counts i (k + 1 - n) x (omega arith)
    ∙ ap (λ (m : ℕ). part i m (set counts i x)) w

-- Those above k stay 0.
pub counts_above : (counts : List ℕ) (x k n : ℕ) → 0 < n → n ≤ k + 1 → part (k + 1) (14 - k) counts ≡ replicate (14 - k) 0
    → part (k + 1) (14 - k) (set counts (n - 1) x) ≡ replicate (14 - k) 0
counts_above counts x k n ln l e = ap (take (14 - k)) (drop-set-lt (k + 1) counts (n - 1) x (omega arith)) ∙ e

pub no_counts_above : (k : ℕ) → k ≤ 14 → part (k + 1) (14 - k) no_counts ≡ replicate (14 - k) 0
no_counts_above k l = part_replicate (k + 1) (14 - k) 15 0 (omega arith)

-- All of them, where none is left to do.
pub counts_whole : (counts : List ℕ) (k : ℕ) {n : ℕ} → length counts ≡ 15 → k ≤ 14 → n ≡ 0
    → part (k + 1) (14 - k) counts ≡ replicate (14 - k) 0 → counts ≡ all_counts (part n (k + 1 - n) counts) k
counts_whole counts k {n} e l z q =
    let w : k + 1 - n ≡ k + 1 = omega arith in
    let b : 0 + (k + 1) ≡ k + 1 = omega arith in
    sym (take_all (k + 1 + (14 - k)) counts (omega arith))
    ∙ part_add counts 0 (k + 1) (14 - k)
    ∙ ap₂ (λ (x y : List ℕ). x ++ y)
    (ap₂ (λ (m v : ℕ). part m v counts) (sym z) (sym w))
    (ap (λ (m : ℕ). part m (14 - k) counts) b ∙ q)

-- ---- what the chain leaves

pub chain_broken : {ch : Chain} (k n : ℕ) (keys counts : List ℕ) → ch ≡ Broken n → (n ≡ 0 → ⊥) → ChainOpened ch k n keys counts
chain_broken k n keys counts e h = rw e (refl, h)

pub chain-served : {ch : Chain} (k : ℕ) (veks ns keys counts : List ℕ) → ch ≡ Keys veks ns → keys ≡ all_keys veks k → counts ≡ all_counts ns k
    → ChainOpened ch k 0 keys counts
chain-served k veks ns keys counts e h q = rw e (refl, h, q)
