-- What a turn of each loop leaves. Assumes nothing.
use Prim.Native.Nat.{ℕ, zero, suc, ◌+◌, ◌*◌, ◌/◌, ◌%◌, ◌^◌, ◌≤◌, ◌<◌}
use mathlib.Core.Path.{◌≡◌, ap, ap₂, ◌∙◌}
use mathlib.Core.List.{List}
use native.Mathlib.Nat.{add-zero}
use native.Mathlib.Omega.{arith}
use lib.ListN.{length, get_or, set, length-set}
use lib.Seq.{get_or-set_same, get_or-set_other}
use borrow.Author.Count.{below_more}
use Rattle.block.specs.Bytes.{big_endian}
use Rattle.block.proofs.Bytes.{big_endian_low}
use Rattle.packing.specs.Planes.{block_bytes, first_word, second_word}
use Rattle.packing.proofs.Laws as packing
use Rattle.keystream.specs.Words.{block_at, CounterPut, Counters, put_bytes, BlocksOut}

-- ---- counter blocks

-- Two words are stored.
pub counter_put : (s : List ℕ) (at hi lo p q : ℕ) → length s ≡ 512 → at < 256 → hi < 2 ^ 64 → lo < 2 ^ 64
    → p ≡ first_word hi lo → q ≡ second_word hi lo → CounterPut s at (hi * 2 ^ 64 + lo) (set (set s at p) (at + 256) q)
unfolding block_at
counter_put s at hi lo p q e h l m ep eq =
    let t : List ℕ = set s at p in
    let d : length t ≡ 512 = length-set s at p ∙ e in
    record {
      words = length-set t (at + 256) q ∙ length-set s at p;
      here = ap₂ block_bytes
          (get_or-set_other t (at + 256) at q 0 (λ n. omega arith) ∙ get_or-set_same s at p 0 (omega arith) ∙ ep)
          (get_or-set_same t (at + 256) q 0 (omega arith) ∙ eq)
          ∙ (packing.laws).packed hi lo l m;
      before = λ i b. ap₂ block_bytes
          (get_or-set_other t (at + 256) i q 0 (λ n. omega arith) ∙ get_or-set_other s at i p 0 (λ n. omega arith))
          (get_or-set_other t (at + 256) (i + 256) q 0 (λ n. omega arith) ∙ get_or-set_other s at (i + 256) p 0 (λ n. omega arith));
    }

pub counters_none : (x n : ℕ) (s : List ℕ) → length s ≡ 512 → Counters x n 0 s
counters_none x n s e = record { words = e; block = λ at h l. absurd (omega arith) }

-- Block i of lane j is put: its number is y.
pub counters_turn : (v from n i j y : ℕ) (s s' : List ℕ) → j < n → n ≤ 16 → Counters (v + from) n (16 * i + j) s
    → y ≡ (v + (from + 16 * j + i)) % 2 ^ 128 → CounterPut s (16 * i + j) y s' → Counters (v + from) n (16 * i + (j + 1)) s'
counters_turn v from n i j y s s' h k c e p =
    let m : (16 * i + j) % 16 ≡ j = omega arith in
    let d : (16 * i + j) / 16 ≡ i = omega arith in
    let x : v + (from + 16 * j + i) ≡ v + from + (16 * ((16 * i + j) % 16) + (16 * i + j) / 16) = omega arith in
    let f : 16 * i + (j + 1) ≡ 16 * i + j + 1 = omega arith in
    rw f
    (record {
      words = p.words ∙ c.words;
      block = below_more _ (16 * i + j) (λ at b l. p.before at b ∙ c.block at b l)
          (λ l. p.here ∙ ap (big_endian 16) e ∙ big_endian_low 16 _ ∙ ap (big_endian 16) x);
    })

-- All n lanes have their block i.
pub counters_next : (x n i j : ℕ) (s : List ℕ) → n ≤ j → n ≤ 16 → Counters x n (16 * i + j) s → Counters x n (16 * (i + 1)) s
counters_next x n i j s h k c = record { words = c.words; block = λ at b l. c.block at (omega arith) l }

-- ---- bytes

pub out_none : (s buf : List ℕ) → length buf ≡ 4104 → BlocksOut s 0 buf
out_none s buf e = record { bytes = e; byte = λ t h. absurd (omega arith) }

-- Block i of lane j, byte by byte.
module _ (s buf : List ℕ) (i j : ℕ) (hi : i < 16) (hj : j < 16) (o : BlocksOut s (256 * j + 16 * i) buf) where
  block_out : (k : ℕ) → k ≤ 16 → BlocksOut s (256 * j + 16 * i + k) (put_bytes buf (256 * j + 16 * i) (block_at s (16 * i + j)) k)
  unfolding put_bytes
  block_out zero h = rw add-zero o
  block_out (suc k) h =
      let at : ℕ = 256 * j + 16 * i in
      let d : List ℕ = put_bytes buf at (block_at s (16 * i + j)) k in
      let before : BlocksOut s (at + k) d = block_out k (omega arith) in
      let p : k ≡ (at + k) % 16 = omega arith in
      let a : (at + k) / 16 ≡ 16 * j + i = omega arith in
      let b : (at + k) / 256 ≡ j = omega arith in
      let q : 16 * i + j ≡ 16 * ((at + k) / 16 % 16) + (at + k) / 256 = rw (a, b) (omega arith) in
      let n : at + suc k ≡ at + k + 1 = omega arith in
      rw n
      (record {
        bytes = length-set d (at + k) _ ∙ before.bytes;
        byte = below_more _ (at + k)
            (λ t m. get_or-set_other d (at + k) t _ 0 (λ e. omega arith) ∙ before.byte t m)
            (get_or-set_same d (at + k) _ 0 (omega arith) ∙ ap₂ (λ (x y : ℕ). get_or (block_at s x) y 0) q p);
      })

pub out_turn : (s buf buf' b : List ℕ) (i j : ℕ) → i < 16 → j < 16 → BlocksOut s (256 * j + 16 * i) buf
    → b ≡ block_bytes (get_or s (16 * i + j) 0) (get_or s (16 * i + j + 256) 0) → buf' ≡ put_bytes buf (256 * j + 16 * i) b 16
    → BlocksOut s (256 * j + 16 * (i + 1)) buf'
unfolding block_at
out_turn s buf buf' b i j h k o f e =
    let g : 256 * j + 16 * (i + 1) ≡ 256 * j + 16 * i + 16 = omega arith in
    rw (g, e, f) (block_out s buf i j h k o 16 (omega arith))

-- Lane j is written.
pub out_next : (s buf : List ℕ) (i j : ℕ) → i ≡ 16 → BlocksOut s (256 * j + 16 * i) buf → BlocksOut s (256 * (j + 1)) buf
out_next s buf i j e o =
    let g : 256 * (j + 1) ≡ 256 * j + 16 * i = omega arith in
    rw g o
