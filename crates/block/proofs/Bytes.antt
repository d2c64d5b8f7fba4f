-- Laws of numbers as bytes. Assumes nothing.
use Rattle.std.proofs.Common.{◌≡◌, ℕ, zero, suc, ◌+◌, ◌*◌, ◌/◌, ◌%◌, ◌^◌, ◌<◌, List, [], ◌∷◌, ◌++◌, length, get_or, sym, refl, ap, ◌∙◌, subst, ap₂, add-zero, add_assoc, mod-eq_of_lt, zero-lt-suc, mul_assoc, mul_comm, add-mul, add_comm, suc-add, div-add-mod', zero-add, mul-one, arith, pow-add}
use native.Mathlib.Nat.{one-le-pow, pow-succ'}
use native.Mathlib.Nat.{add-mul-div_right, mul-add-mod_self_right, div-div-eq-div-mul, mod-one}
use lib.Arith.{digits_lt, digits_div, mod-mul}
use Rattle.block.specs.Bytes.{number_after, number, big_endian}

-- ---- number

pub number-++ : (n : ℕ) (xs ys : List ℕ) → number_after n (xs ++ ys) ≡ number_after (number_after n xs) ys
unfolding number_after
number-++ n [] ys = refl
number-++ n (x ∷ xs) ys = number-++ (n * 256 + x) xs ys

-- The number of bytes after a number, by its digits.
pub number_after_lem : (n : ℕ) (ys : List ℕ) → number_after n ys ≡ n * 256 ^ length ys + number ys
unfolding number_after
number_after_lem n [] = sym (add-zero (n * 1) ∙ mul-one n)
number_after_lem n (y ∷ ys) =
    number_after_lem (n * 256 + y) ys
    ∙ ap (λ (t : ℕ). t + number ys) (add-mul (n * 256) y (256 ^ length ys))
    ∙ add_assoc (n * 256 * 256 ^ length ys) (y * 256 ^ length ys) (number ys)
    ∙ ap₂ (λ (s t : ℕ). s + t)
    (mul_assoc n 256 (256 ^ length ys) ∙ ap (λ (t : ℕ). n * t) (sym (pow-succ' 256 (length ys))))
    (ap (λ (t : ℕ). t * 256 ^ length ys + number ys) (sym (zero-add y)) ∙ sym (number_after_lem (0 * 256 + y) ys))

-- Each element of a list is a byte.
abbrev pub Bytes : List ℕ → Type 0
Bytes l = (i : ℕ) → i < length l → get_or l i 0 < 256

pub number-< : (l : List ℕ) → Bytes l → number l < 256 ^ length l
unfolding number_after
number-< [] h = zero-lt-suc 0
number-< (y ∷ l) h =
    subst (λ (t : ℕ). t < 256 ^ suc (length l)) (sym (ap (λ (t : ℕ). number_after t l) (zero-add y) ∙ number_after_lem y l))
    (subst (λ (t : ℕ). y * 256 ^ length l + number l < t) (sym (pow-succ' 256 (length l)))
    (digits_lt (h zero (omega arith)) (number-< l (λ i k. h (suc i) (omega arith)))))

-- ---- big_endian

pub big_endian-length : (n x : ℕ) → length (big_endian n x) ≡ n
unfolding big_endian
big_endian-length zero x = refl
big_endian-length (suc n) x = ap suc (big_endian-length n x)

-- What stands above the lowest n bytes does not count.
big_endian_high : (n h x : ℕ) → big_endian n (h * 256 ^ n + x) ≡ big_endian n x
unfolding big_endian
big_endian_high zero h x = refl
big_endian_high (suc n) h x =
    let e : h * 256 ^ suc n + x ≡ h * 256 * 256 ^ n + x =
    ap (λ (t : ℕ). t + x) (ap (λ (t : ℕ). h * t) (pow-succ' 256 n) ∙ sym (mul_assoc h 256 (256 ^ n))) in
    ap₂ (λ (s : ℕ) (t : List ℕ). s ∷ t)
    (ap (λ (t : ℕ). t / 256 ^ n % 256) (e ∙ add_comm (h * 256 * 256 ^ n) x)
    ∙ ap (λ (t : ℕ). t % 256) (add-mul-div_right x (h * 256) (one-le-pow n 256 (zero-lt-suc 255)) ∙ add_comm (x / 256 ^ n) (h * 256))
    ∙ mul-add-mod_self_right h 256 (x / 256 ^ n))
    (ap (big_endian n) e ∙ big_endian_high n (h * 256) x)

-- The n bytes of a number are those of its lowest n bytes.
pub big_endian_low : (n x : ℕ) → big_endian n (x % 256 ^ n) ≡ big_endian n x
big_endian_low n x =
    sym (ap (big_endian n) (sym (div-add-mod' x (256 ^ n))) ∙ big_endian_high n (x / 256 ^ n) (x % 256 ^ n))

-- The bytes of a high part, then the n bytes of a low one.
pub big_endian-++ : (m n h x : ℕ) → x < 256 ^ n → big_endian (m + n) (h * 256 ^ n + x) ≡ big_endian m h ++ big_endian n x
unfolding big_endian
big_endian-++ zero n h x l = ap (λ (k : ℕ). big_endian k (h * 256 ^ n + x)) (zero-add n) ∙ big_endian_high n h x
big_endian-++ (suc m) n h x l =
    ap (λ (k : ℕ). big_endian k (h * 256 ^ n + x)) (suc-add m n)
    ∙ ap₂ (λ (s : ℕ) (t : List ℕ). s ∷ t)
    (ap (λ (t : ℕ). (h * 256 ^ n + x) / t % 256) (pow-add 256 m n ∙ mul_comm (256 ^ m) (256 ^ n))
    ∙ ap (λ (t : ℕ). t % 256) (sym (div-div-eq-div-mul (h * 256 ^ n + x) (256 ^ n) (256 ^ m)) ∙ ap (λ (t : ℕ). t / 256 ^ m) (digits_div h l)))
    (big_endian-++ m n h x l)

-- The lowest n bytes of a number hold it modulo 256^n.
pub number-big_endian : (a n x : ℕ) → number_after a (big_endian n x) ≡ a * 256 ^ n + x % 256 ^ n
unfolding number_after big_endian
number-big_endian a zero x = sym (ap₂ (λ (s t : ℕ). s + t) (mul-one a) (mod-one x) ∙ add-zero a)
number-big_endian a (suc n) x =
    let q : ℕ = x / 256 ^ n % 256 in
    number-big_endian (a * 256 + q) n x
    ∙ ap (λ (t : ℕ). t + x % 256 ^ n) (add-mul (a * 256) q (256 ^ n))
    ∙ add_assoc (a * 256 * 256 ^ n) (q * 256 ^ n) (x % 256 ^ n)
    ∙ ap₂ (λ (s t : ℕ). s + t)
    (mul_assoc a 256 (256 ^ n) ∙ ap (λ (t : ℕ). a * t) (sym (pow-succ' 256 n)))
    (sym (ap (λ (t : ℕ). x % t) (pow-succ' 256 n) ∙ mod-mul x (zero-lt-suc 255) (one-le-pow n 256 (zero-lt-suc 255))))

-- Bytes are the bytes of their number.
pub big_endian-number : (l : List ℕ) → Bytes l → big_endian (length l) (number l) ≡ l
unfolding number_after big_endian
big_endian-number [] h = refl
big_endian-number (y ∷ l) h =
    let n : ℕ = length l in
    let b : number l < 256 ^ n = number-< l (λ i k. h (suc i) (omega arith)) in
    ap (big_endian (suc n)) (ap (λ (t : ℕ). number_after t l) (zero-add y) ∙ number_after_lem y l)
    ∙ ap₂ (λ (p : ℕ) (q : List ℕ). p ∷ q)
    (ap (λ (t : ℕ). t % 256) (digits_div y b) ∙ mod-eq_of_lt (h zero (omega arith)))
    (big_endian_high n y (number l) ∙ big_endian-number l (λ i k. h (suc i) (omega arith)))
