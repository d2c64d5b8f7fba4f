-- Laws of the bytes read from a place on. Assumes nothing.
use Rattle.std.proofs.Common.{◌≡◌, ℕ, zero, suc, ◌+◌, ◌*◌, ◌^◌, ◌≤◌, List, ◌∷◌, ◌++◌, length, get_or, take, drop, sym, refl, ap, ◌∙◌, ap₂, add-one, arith, drop-cons, add-zero}
use mir.Syntax.{w64}
use Rattle.std.specs.Int.{from_be_bytes}
use Rattle.block.specs.Bytes.{number_after, number, window}
use Rattle.block.proofs.Bytes.{number-++, number_after_lem}

pub window-length : (s : List ℕ) (at n : ℕ) → length (window s at n) ≡ n
unfolding window
window-length s at zero = refl
window-length s at (suc n) = ap suc (window-length s (at + 1) n)

pub window-++ : (s : List ℕ) (at m n : ℕ) → window s at (m + n) ≡ window s at m ++ window s (at + m) n
unfolding window
window-++ s at zero n =
    let e : 0 + n ≡ n = omega arith in
    let f : at ≡ at + 0 = omega arith in
    ap₂ (window s) f e
window-++ s at (suc m) n =
    let e : suc m + n ≡ suc (m + n) = omega arith in
    let f : at + 1 + m ≡ at + suc m = omega arith in
    ap (window s at) e ∙ ap (λ (l : List ℕ). get_or s at 0 ∷ l) (window-++ s (at + 1) m n ∙ ap (λ (k : ℕ). window s (at + 1) m ++ window s k n) f)

-- Inside the list they are a part of it.
pub window_part : (s : List ℕ) (at n : ℕ) → at + n ≤ length s → window s at n ≡ take n (drop at s)
unfolding window
window_part s at zero h = refl
window_part s at (suc n) h =
    sym
    (ap (take (suc n)) (drop-cons s at 0 (omega arith))
    ∙ ap (λ (l : List ℕ). get_or s at 0 ∷ l)
    (ap (λ (k : ℕ). take n (drop k s)) (sym (add-one at)) ∙ sym (window_part s (at + 1) n (omega arith))))

-- They depend on the bytes alone.
pub window_same : (s t : List ℕ) (at n : ℕ) → ((i : ℕ) → get_or s i 0 ≡ get_or t i 0) → window s at n ≡ window t at n
unfolding window
window_same s t at zero h = refl
window_same s t at (suc n) h = ap₂ (λ (x : ℕ) (l : List ℕ). x ∷ l) (h at) (window_same s t (at + 1) n h)

-- The number of eight bytes that are those from a place on, one by one.
pub number_eight : (s bs : List ℕ) (at : ℕ) → get_or bs 0 0 ≡ get_or s (at + 0) 0 → get_or bs 1 0 ≡ get_or s (at + 1) 0
    → get_or bs 2 0 ≡ get_or s (at + 2) 0 → get_or bs 3 0 ≡ get_or s (at + 3) 0 → get_or bs 4 0 ≡ get_or s (at + 4) 0
    → get_or bs 5 0 ≡ get_or s (at + 5) 0 → get_or bs 6 0 ≡ get_or s (at + 6) 0 → get_or bs 7 0 ≡ get_or s (at + 7) 0
    → from_be_bytes w64 bs ≡ number (window s at 8)
unfolding window number_after
number_eight s bs at a b c d e f g h =
    let p₁ : at + 1 + 1 ≡ at + 2 = omega arith in
    let p₂ : at + 2 + 1 ≡ at + 3 = omega arith in
    let p₃ : at + 3 + 1 ≡ at + 4 = omega arith in
    let p₄ : at + 4 + 1 ≡ at + 5 = omega arith in
    let p₅ : at + 5 + 1 ≡ at + 6 = omega arith in
    let p₆ : at + 6 + 1 ≡ at + 7 = omega arith in
    simp (a, b, c, d, e, f, g, h, add-zero, p₁, p₂, p₃, p₄, p₅, p₆) (omega arith)

-- Sixteen bytes are two halves.
pub number_halves : (s : List ℕ) (at : ℕ) → number (window s at 16) ≡ number (window s at 8) * 2 ^ 64 + number (window s (at + 8) 8)
number_halves s at =
    ap number (window-++ s at 8 8)
    ∙ number-++ 0 (window s at 8) (window s (at + 8) 8)
    ∙ number_after_lem (number (window s at 8)) (window s (at + 8) 8)
    ∙ ap (λ (n : ℕ). number (window s at 8) * 256 ^ n + number (window s (at + 8) 8)) (window-length s (at + 8) 8)
