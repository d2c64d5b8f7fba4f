-- The round keys as blocks of the first lane. Assumes nothing.
use mathlib.Core.Path.{◌≡◌, refl, sym, ap, ap₂, ◌∙◌}
use mathlib.Core.List.{List, [], ◌∷◌}
use Prim.Native.Nat.{ℕ, ◌+◌, ◌*◌, ◌/◌, ◌%◌, ◌^◌, ◌<◌}
use native.Mathlib.Nat.{add_comm, div-one}
use native.Mathlib.Omega.{arith}
use lib.ListN.{length, get_or}
use lib.Pow.{shr-shr, field, mod-mod-pow, high, low}
use Rattle.rounds.specs.State.{state_of}
use Rattle.rounds.proofs.Words.{four_equal}
use Rattle.aes.specs.KeyExpansion.{key_expansion}
use Rattle.turn.specs.Turn.{turned_of}
use Rattle.turn.proofs.Laws as turn
use Rattle.packing.specs.Planes.{state_at, block_bytes}
use Rattle.packing.proofs.Laws as packing
use Rattle.lanes.specs.Lanes.{lane_at, each_lane}
use Rattle.lanes.proofs.Laws as lanes
use Rattle.lanes.proofs.Places.{lane_word}
use Rattle.planes.specs.Rounds.{KeyPlanes}
use Rattle.expansion.specs.Words.{word_bytes, Word, Expanded}
use Rattle.schedule.specs.Keys.{KeyBlock}

-- ---- two words in one

module _ (a b : ℕ) (small : a < 2 ^ 32) where
  -- The lowest bits.
  low_part : (j k : ℕ) → j + k ≡ 32 → (a + b * 2 ^ 32) % 2 ^ k ≡ a % 2 ^ k
  low_part j k e =
      let n = a + b * 2 ^ 32 in
      sym (mod-mod-pow n j k) ∙ ap (λ (i : ℕ). n % 2 ^ i % 2 ^ k) e
      ∙ ap (λ (m : ℕ). m % 2 ^ k) (ap (λ (m : ℕ). m % 2 ^ 32) (add_comm a (b * 2 ^ 32)) ∙ low b 32 small)

  low_byte : (j k : ℕ) → j + (8 + k) ≡ 32 → (a + b * 2 ^ 32) / 2 ^ k % 2 ^ 8 ≡ a / 2 ^ k % 2 ^ 8
  low_byte j k e = sym (field (a + b * 2 ^ 32) 8 k) ∙ ap (λ (m : ℕ). m / 2 ^ k) (low_part j (8 + k) e) ∙ field a 8 k

  -- The bytes of the low half.
  low_bytes_lem : word_bytes (a + b * 2 ^ 32) ≡ word_bytes a
  unfolding word_bytes
  low_bytes_lem = four_equal (low_byte 0 24 refl) (low_byte 8 16 refl) (low_byte 16 8 refl) (low_part 24 8 refl)

  high_byte : (k : ℕ) → (a + b * 2 ^ 32) / 2 ^ (32 + k) % 256 ≡ b / 2 ^ k % 256
  high_byte k =
      ap (λ (m : ℕ). m % 256) (sym (shr-shr (a + b * 2 ^ 32) 32 k))
      ∙ ap (λ (m : ℕ). m / 2 ^ k % 256) (ap (λ (m : ℕ). m / 2 ^ 32) (add_comm a (b * 2 ^ 32)) ∙ high b 32 small)

  -- The bytes of the high half.
  high_bytes : ((a + b * 2 ^ 32) / 2 ^ 56 % 256 ∷ (a + b * 2 ^ 32) / 2 ^ 48 % 256 ∷ (a + b * 2 ^ 32) / 2 ^ 40 % 256
      ∷ (a + b * 2 ^ 32) / 2 ^ 32 % 256 ∷ []) ≡ word_bytes b
  unfolding word_bytes
  high_bytes = four_equal (high_byte 24) (high_byte 16) (high_byte 8) (high_byte 0 ∙ ap (λ (m : ℕ). m % 256) (div-one b))

-- Two pairs of words are the four columns of a block.
block : {a b c d : ℕ} {a' b' c' d' : List ℕ} → Word a a' → Word b b' → Word c c' → Word d d'
    → state_of (block_bytes (a + c * 2 ^ 32) (b + d * 2 ^ 32)) ≡ (a' ∷ b' ∷ c' ∷ d' ∷ [])
unfolding block_bytes word_bytes
block {a} {b} {c} {d} p q r s =
    four_equal (low_bytes_lem a c p.small ∙ p.bytes) (low_bytes_lem b d q.small ∙ q.bytes) (high_bytes a c p.small ∙ r.bytes)
    (high_bytes b d q.small ∙ s.bytes)

-- ---- the planes

-- The transposed first lane has the round keys on bit planes.
pub key_planes : (key w s t x : List ℕ) → Expanded key w → length s ≡ 512 → ((n : ℕ) → n < 15 → KeyBlock w s n)
    → t ≡ each_lane turned_of 1 s → x ≡ lane_at t 0 → KeyPlanes (key_expansion key) x
key_planes key w s t x words e keys p q =
    let lane : List ℕ = lane_at s 0 in
    let turned : x ≡ turned_of lane =
    q ∙ ap (λ (y : List ℕ). lane_at y 0) p ∙ (lanes.laws).each_lane_lem turned_of (turn.laws).turned_length 1 0 s (omega arith) (omega arith) e in
    record {
      at = λ n h.
          let at : 16 * n + 0 ≡ 16 * n = omega arith in
          let above : 16 * (16 + n) + 0 ≡ 16 * n + 256 = omega arith in
          ap (λ (y : List ℕ). state_at y n) turned
          ∙ (packing.laws).into lane n ((lanes.laws).lane_length s 0) (omega arith)
          ∙ ap₂ (λ (a b : ℕ). state_of (block_bytes a b))
          (lane_word s 0 n (omega arith) ∙ ap (λ (i : ℕ). get_or s i 0) at ∙ (keys n h).first)
          (lane_word s 0 (16 + n) (omega arith) ∙ ap (λ (i : ℕ). get_or s i 0) above ∙ (keys n h).second)
          ∙ block (words.word (4 * n) (omega arith)) (words.word (4 * n + 1) (omega arith)) (words.word (4 * n + 2) (omega arith))
          (words.word (4 * n + 3) (omega arith));
    }
