-- The state goes round by round to what the cipher makes of it. Assumes nothing.
use mathlib.Core.Path.{◌≡◌, ◌∙◌, ap, ap₂, sym}
use mathlib.Core.List.{List}
use Prim.Native.Nat.{ℕ, suc, ◌≤◌, ◌+◌, ◌-◌}
use native.Mathlib.Omega.{arith}
use Rattle.rounds.specs.State.{add_round_key}
use Rattle.rounds.specs.Round.{round_of, last_round}
use Rattle.aes.specs.Cipher.{round_key, rounds, cipher_state}

-- A turn of the loop: one round more.
pub rounds_more : (w : List ℕ) (x₀ x k : List (List ℕ)) (n : ℕ) → 1 ≤ n → x ≡ rounds w x₀ (n - 1) → k ≡ round_key w n
    → round_of x k ≡ rounds w x₀ (n + 1 - 1)
unfolding rounds
rounds_more w x₀ x k n h e f =
    let m : n + 1 - 1 ≡ suc (n - 1) = omega arith in
    let l : suc (n - 1) ≡ n = omega arith in
    rw (m, e, f) (ap (λ (j : ℕ). round_of (rounds w x₀ (n - 1)) (round_key w j)) (sym l))

-- After the loop the last round makes the cipher.
pub rounds_done : (w : List ℕ) (s k₀ x₀ x k : List (List ℕ)) (n : ℕ) → n ≤ 14 → 14 ≤ n → k₀ ≡ round_key w 0 → x₀ ≡ add_round_key s k₀
    → x ≡ rounds w x₀ (n - 1) → k ≡ round_key w 14 → last_round x k ≡ cipher_state w s
unfolding cipher_state
rounds_done w s k₀ x₀ x k n h l p q e f =
    let m : n - 1 ≡ 13 = omega arith in
    ap₂ last_round (e ∙ ap₂ (rounds w) (q ∙ ap (add_round_key s) p) m) f
