-- Laws of part, overlay, patched and joined, and of a list that repeats one number. Assumes nothing.
use Prim.Native.Nat.{ℕ, zero, suc, ◌+◌, ◌-◌, ◌*◌, ◌≤◌, ◌<◌}
use mathlib.Core.Path.{◌≡◌, refl, sym, ap, ap₂, ◌∙◌}
use mathlib.Core.List.{List, [], ◌∷◌, ◌++◌}
use mathlib.Core.Logic.{⊎_elim}
use native.Mathlib.Omega.{arith}
use native.Mathlib.Nat.{eq-or-lt_of_le, le_of_suc-le-suc, le_of_eq, zero-add, zero-mul, suc-add, suc-mul, mul-le-mul_right, mul_comm, add-zero}
use lib.ListN.{length, take, drop, get_or, replicate, length-append, length-take, length-drop, replicate-append-replicate}
use lib.Seq.{take-append-le, drop-append-le, drop-append-add, drop-drop, drop_at, take-add, take_all}
use Rattle.model.specs.Parts.{part, overlay, Patch, patched, joined}

-- ---- part

module _ {ℓ} {A : Type ℓ} where
  pub part_length : (s : List A) (a n : ℕ) → a + n ≤ length s → length (part a n s) ≡ n
  part_length s a n h = simp (length-take, length-drop) (omega arith)

  -- A part that is lent from a place to that place and n more.
  pub part_lent : (s : List A) {at : ℕ} (from n : ℕ) → from ≡ at → part from (from + n - from) s ≡ part at n s
  part_lent s from n e = let q : from + n - from ≡ n = omega arith in rw (q, e)

  pub part_lent_length : (s : List A) (a n : ℕ) → a + n ≤ length s → length (part a (a + n - a) s) ≡ n
  part_lent_length s a n h = ap length (part_lent s a n refl) ∙ part_length s a n h

  -- A part that ends within the first of two lists.
  pub part_left : (p q : List A) (a n : ℕ) → a + n ≤ length p → part a n (p ++ q) ≡ part a n p
  part_left p q a n h = rw (drop-append-le a p q (omega arith)) (take-append-le n (drop a p) q (simp length-drop (omega arith)))

  -- A part that begins in the second.
  pub part_right : (p q : List A) (k : ℕ) → length p ≡ k → (x u : ℕ) → part (k + x) u (p ++ q) ≡ part x u q
  part_right p q k e x u = ap (λ (y : ℕ). part (y + x) u (p ++ q)) (sym e) ∙ ap (take u) (drop-append-add p q x)

  -- The first of lists end to end, the next, and the last.
  pub part_first : (p q : List A) (n : ℕ) → length p ≡ n → part 0 n (p ++ q) ≡ p
  part_first p q n e = part_left p q 0 n (omega arith) ∙ take_all n p (omega arith)

  pub part_next : (p q r : List A) (n m : ℕ) → length p ≡ n → length q ≡ m → part n m (p ++ (q ++ r)) ≡ q
  part_next p q r n m e f =
      ap (λ (y : ℕ). part y m (p ++ (q ++ r))) (sym (add-zero n)) ∙ part_right p (q ++ r) n e 0 m ∙ part_first q r m f

  pub part_last : (p q : List A) (n m : ℕ) → length p ≡ n → length q ≡ m → part n m (p ++ q) ≡ q
  part_last p q n m e f =
      ap (λ (y : ℕ). part y m (p ++ q)) (sym (add-zero n)) ∙ part_right p q n e 0 m ∙ take_all m q (omega arith)

  part_take : (s : List A) (w x n : ℕ) → x + n ≤ w → part x n (take w s) ≡ part x n s
  part_take [] zero x n h = refl
  part_take [] (suc w) x n h = refl
  part_take (y ∷ s) zero zero zero h = refl
  part_take (y ∷ s) zero zero (suc n) h = absurd (omega arith)
  part_take (y ∷ s) zero (suc x) n h = absurd (omega arith)
  part_take (y ∷ s) (suc w) zero zero h = refl
  part_take (y ∷ s) (suc w) zero (suc n) h = ap (λ (l : List A). y ∷ l) (part_take s w zero n (omega arith))
  part_take (y ∷ s) (suc w) (suc x) n h = part_take s w x n (omega arith)

  pub part_part : (s : List A) (a w x n : ℕ) → x + n ≤ w → part x n (part a w s) ≡ part (a + x) n s
  part_part s a w x n h = part_take (drop a s) w x n h ∙ ap (take n) (drop-drop x a s)

  -- A part is its first x elements, then the y from place b on.
  pub part_split : (s : List A) (a x y b : ℕ) → a + x ≡ b → part a (x + y) s ≡ part a x s ++ part b y s
  part_split s a x y b e = take-add x y (drop a s) ∙ ap (λ (l : List A). part a x s ++ take y l) (drop-drop x a s ∙ ap (λ (c : ℕ). drop c s) e)

  -- Lists of one length that agree on a range have equal parts there.
  pub part_agree : (z : A) (s t : List A) (a n : ℕ) → length s ≡ length t → ((p : ℕ) → a ≤ p → p < a + n → get_or s p z ≡ get_or t p z)
      → part a n s ≡ part a n t
  part_agree z [] [] a n e h = refl
  part_agree z [] (y ∷ t) a n e h = absurd (omega arith)
  part_agree z (x ∷ s) [] a n e h = absurd (omega arith)
  part_agree z (x ∷ s) (y ∷ t) zero zero e h = refl
  part_agree z (x ∷ s) (y ∷ t) zero (suc n) e h =
      ap₂ (λ (w : A) (l : List A). w ∷ l) (h zero (omega arith) (omega arith))
      (part_agree z s t zero n (omega arith) (λ p l m. h (suc p) (omega arith) (omega arith)))
  part_agree z (x ∷ s) (y ∷ t) (suc a) n e h = part_agree z s t a n (omega arith) (λ p l m. h (suc p) (omega arith) (omega arith))

-- ---- one number repeated

pub take-replicate : (n m x : ℕ) → n ≤ m → take n (replicate m x) ≡ replicate n x
take-replicate zero m x l = refl
take-replicate (suc n) zero x l = absurd (omega arith)
take-replicate (suc n) (suc m) x l = ap (λ (r : List ℕ). x ∷ r) (take-replicate n m x (omega arith))

pub part_replicate : (a n m x : ℕ) → a + n ≤ m → part a n (replicate m x) ≡ replicate n x
part_replicate zero n m x l = take-replicate n m x (omega arith)
part_replicate (suc a) n zero x l = absurd (omega arith)
part_replicate (suc a) n (suc m) x l = part_replicate a n m x (omega arith)

-- ---- overlay, by parts

module _ {ℓ} {A : Type ℓ} where
  pub overlay_length : (s : List A) (at : ℕ) (d : List A) → length (overlay s at d) ≡ length s
  unfolding overlay
  overlay_length [] at d = refl
  overlay_length (x ∷ s) (suc at) d = ap suc (overlay_length s at d)
  overlay_length (x ∷ s) zero [] = refl
  overlay_length (x ∷ s) zero (y ∷ d) = ap suc (overlay_length s zero d)

  -- A part that ends before the new elements is as it was.
  pub overlay_before : (s : List A) (at : ℕ) (d : List A) (a n : ℕ) → a + n ≤ at → part a n (overlay s at d) ≡ part a n s
  unfolding overlay
  overlay_before [] at d a n h = refl
  overlay_before (x ∷ s) zero d zero zero h = refl
  overlay_before (x ∷ s) zero d (suc a) n h = absurd (omega arith)
  overlay_before (x ∷ s) zero d zero (suc n) h = absurd (omega arith)
  overlay_before (x ∷ s) (suc at) d zero zero h = refl
  overlay_before (x ∷ s) (suc at) d zero (suc n) h = ap (λ (l : List A). x ∷ l) (overlay_before s at d zero n (omega arith))
  overlay_before (x ∷ s) (suc at) d (suc a) n h = overlay_before s at d a n (omega arith)

  -- A part that begins after them is as it was.
  pub overlay_after : (s : List A) (at : ℕ) (d : List A) (a n : ℕ) → at + length d ≤ a → part a n (overlay s at d) ≡ part a n s
  unfolding overlay
  overlay_after [] at d a n h = refl
  overlay_after (x ∷ s) zero [] a n h = refl
  overlay_after (x ∷ s) zero (y ∷ d) zero n h = absurd (omega arith)
  overlay_after (x ∷ s) zero (y ∷ d) (suc a) n h = overlay_after s zero d a n (omega arith)
  overlay_after (x ∷ s) (suc at) d zero n h = absurd (omega arith)
  overlay_after (x ∷ s) (suc at) d (suc a) n h = overlay_after s at d a n (omega arith)

  within_zero : (s d : List A) (i n : ℕ) → i + n ≤ length d → length d ≤ length s → part i n (overlay s zero d) ≡ part i n d
  unfolding overlay
  within_zero [] [] i n h k = refl
  within_zero [] (y ∷ d) i n h k = absurd (omega arith)
  within_zero (x ∷ s) [] zero zero h k = refl
  within_zero (x ∷ s) [] zero (suc n) h k = absurd (omega arith)
  within_zero (x ∷ s) [] (suc i) n h k = absurd (omega arith)
  within_zero (x ∷ s) (y ∷ d) zero zero h k = refl
  within_zero (x ∷ s) (y ∷ d) zero (suc n) h k = ap (λ (l : List A). y ∷ l) (within_zero s d zero n (omega arith) (omega arith))
  within_zero (x ∷ s) (y ∷ d) (suc i) n h k = within_zero s d i n (omega arith) (omega arith)

  -- A part among them is a part of them.
  pub overlay_within : (s : List A) (at : ℕ) (d : List A) (i n : ℕ) → i + n ≤ length d → at + length d ≤ length s
      → part (at + i) n (overlay s at d) ≡ part i n d
  unfolding overlay
  overlay_within s zero d i n h k = rw zero-add (within_zero s d i n h (omega arith))
  overlay_within [] (suc at) d i n h k = absurd (omega arith)
  overlay_within (x ∷ s) (suc at) d i n h k = rw suc-add (overlay_within s at d i n h (omega arith))

  -- They stand there whole.
  pub overlay_whole : (s : List A) (at : ℕ) (d : List A) (n : ℕ) → length d ≡ n → at + n ≤ length s → part at n (overlay s at d) ≡ d
  overlay_whole s at d n e k =
      ap (λ (a : ℕ). part a n (overlay s at d)) (sym (add-zero at))
      ∙ overlay_within s at d zero n (omega arith) (omega arith)
      ∙ take_all n d (omega arith)

-- ---- overlay, element by element

module _ {ℓ} {A : Type ℓ} (z : A) where
  pub overlay_get_or_before : (s : List A) (at : ℕ) (d : List A) (p : ℕ) → p < at → get_or (overlay s at d) p z ≡ get_or s p z
  unfolding overlay
  overlay_get_or_before [] at d p h = refl
  overlay_get_or_before (x ∷ s) zero d p h = absurd (omega arith)
  overlay_get_or_before (x ∷ s) (suc at) d zero h = refl
  overlay_get_or_before (x ∷ s) (suc at) d (suc p) h = overlay_get_or_before s at d p (omega arith)

  pub overlay_get_or_after : (s : List A) (at : ℕ) (d : List A) (p : ℕ) → at + length d ≤ p → get_or (overlay s at d) p z ≡ get_or s p z
  unfolding overlay
  overlay_get_or_after [] at d p h = refl
  overlay_get_or_after (x ∷ s) zero [] p h = refl
  overlay_get_or_after (x ∷ s) zero (y ∷ d) zero h = absurd (omega arith)
  overlay_get_or_after (x ∷ s) zero (y ∷ d) (suc p) h = overlay_get_or_after s zero d p (omega arith)
  overlay_get_or_after (x ∷ s) (suc at) d zero h = absurd (omega arith)
  overlay_get_or_after (x ∷ s) (suc at) d (suc p) h = overlay_get_or_after s at d p (omega arith)

  -- The same elements over two lists of one length: equal wherever the lists were.
  pub overlay_get_or_both : (s t : List A) (at : ℕ) (d : List A) (p : ℕ) → length s ≡ length t → get_or s p z ≡ get_or t p z
      → get_or (overlay s at d) p z ≡ get_or (overlay t at d) p z
  unfolding overlay
  overlay_get_or_both [] [] at d p e h = refl
  overlay_get_or_both [] (y ∷ t) at d p e h = absurd (omega arith)
  overlay_get_or_both (x ∷ s) [] at d p e h = absurd (omega arith)
  overlay_get_or_both (x ∷ s) (y ∷ t) zero [] p e h = h
  overlay_get_or_both (x ∷ s) (y ∷ t) zero (w ∷ d) zero e h = refl
  overlay_get_or_both (x ∷ s) (y ∷ t) zero (w ∷ d) (suc p) e h = overlay_get_or_both s t zero d p (omega arith) h
  overlay_get_or_both (x ∷ s) (y ∷ t) (suc at) d zero e h = h
  overlay_get_or_both (x ∷ s) (y ∷ t) (suc at) d (suc p) e h = overlay_get_or_both s t at d p (omega arith) h

  -- And equal where the new elements stand.
  pub overlay_get_or_over : (s t : List A) (at : ℕ) (d : List A) (p : ℕ) → length s ≡ length t → at ≤ p → p < at + length d
      → get_or (overlay s at d) p z ≡ get_or (overlay t at d) p z
  unfolding overlay
  overlay_get_or_over [] [] at d p e h k = refl
  overlay_get_or_over [] (y ∷ t) at d p e h k = absurd (omega arith)
  overlay_get_or_over (x ∷ s) [] at d p e h k = absurd (omega arith)
  overlay_get_or_over (x ∷ s) (y ∷ t) zero [] p e h k = absurd (omega arith)
  overlay_get_or_over (x ∷ s) (y ∷ t) zero (w ∷ d) zero e h k = refl
  overlay_get_or_over (x ∷ s) (y ∷ t) zero (w ∷ d) (suc p) e h k = overlay_get_or_over s t zero d p (omega arith) (omega arith) (omega arith)
  overlay_get_or_over (x ∷ s) (y ∷ t) (suc at) d zero e h k = absurd (omega arith)
  overlay_get_or_over (x ∷ s) (y ∷ t) (suc at) d (suc p) e h k = overlay_get_or_over s t at d p (omega arith) (omega arith) (omega arith)

-- ---- patches

pub patched-length : (ps : List Patch) (s : List ℕ) → length (patched ps s) ≡ length s
unfolding patched
patched-length [] s = refl
patched-length (x ∷ ps) s = patched-length ps (overlay s x.at x.bytes) ∙ overlay_length s x.at x.bytes

pub patched-++ : (ps qs : List Patch) (s : List ℕ) → patched (ps ++ qs) s ≡ patched qs (patched ps s)
unfolding patched
patched-++ [] qs s = refl
patched-++ (x ∷ ps) qs s = patched-++ ps qs (overlay s x.at x.bytes)

-- ---- joined

pub joined_ext : {A : Type 0} (n : ℕ) (f f' : ℕ → List A) → ((j : ℕ) → j < n → f j ≡ f' j) → joined n f ≡ joined n f'
unfolding joined
joined_ext zero f f' e = refl
joined_ext {A = A} (suc n) f f' e = ap₂ (λ (p q : List A). p ++ q) (joined_ext n f f' (λ j h. e j (omega arith))) (e n (omega arith))

pub joined_replicate : (n w x : ℕ) → joined n (λ j. replicate w x) ≡ replicate (n * w) x
unfolding joined
joined_replicate zero w x = ap (λ (k : ℕ). replicate k x) (sym (zero-mul w))
joined_replicate (suc n) w x =
    ap (λ (l : List ℕ). l ++ replicate w x) (joined_replicate n w x)
    ∙ replicate-append-replicate (n * w) w x
    ∙ ap (λ (k : ℕ). replicate k x) (sym (suc-mul n w))

-- Where each piece has w elements.

module _ {ℓ} {A : Type ℓ} (w : ℕ) where
  -- A part of n × w elements is its n parts of w, end to end.
  pub part_joined : (s : List A) (a n : ℕ) (f : ℕ → List A) → ((j : ℕ) → j < n → part (a + w * j) w s ≡ f j) → part a (n * w) s ≡ joined n f
  unfolding joined
  part_joined s a zero f e = ap (λ (k : ℕ). part a k s) (zero-mul w)
  part_joined s a (suc n) f e =
      ap (λ (k : ℕ). part a k s) (suc-mul n w)
      ∙ part_split s a (n * w) w (a + w * n) (ap (λ (k : ℕ). a + k) (mul_comm n w))
      ∙ ap₂ (λ (p q : List A). p ++ q) (part_joined s a n f (λ j h. e j (omega arith))) (e n (omega arith))

  pub joined_length : (n : ℕ) (f : ℕ → List A) → ((j : ℕ) → j < n → length (f j) ≡ w) → length (joined n f) ≡ n * w
  unfolding joined
  joined_length zero f e = sym (zero-mul w)
  joined_length (suc n) f e =
      length-append (joined n f) (f n)
      ∙ simp (joined_length n f (λ j h. e j (omega arith)), e n (omega arith)) (sym (suc-mul n w))

  pub joined_part : (n : ℕ) (f : ℕ → List A) → ((j : ℕ) → j < n → length (f j) ≡ w) → (j : ℕ) → j < n → part (j * w) w (joined n f) ≡ f j
  unfolding joined
  joined_part zero f e j h = absurd (omega arith)
  joined_part (suc n) f e j h =
      ⊎_elim last (λ l. earlier l (joined_part n f (λ i k. e i (omega arith)) j l)) (eq-or-lt_of_le (le_of_suc-le-suc h))
    where
      long : length (joined n f) ≡ n * w
      long = joined_length n f (λ i l. e i (omega arith))

      last : j ≡ n → part (j * w) w (joined n f ++ f n) ≡ f j
      last q = rw (q, drop_at (joined n f) (f n) (n * w) long) (take_all w (f n) (le_of_eq (e n (omega arith))))

      earlier : j < n → part (j * w) w (joined n f) ≡ f j → part (j * w) w (joined n f ++ f n) ≡ f j
      earlier l ih =
          let fits : j * w + w ≤ length (joined n f) = rw (long, ← suc-mul j w) (mul-le-mul_right w l) in
          part_left (joined n f) (f n) (j * w) w fits ∙ ih
