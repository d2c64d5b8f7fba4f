-- A draw below the limit, as the code tests it: the multiple of n after the draw is not above 65,536. Assumes nothing.
use Prim.Native.Nat.{ℕ, ◌+◌, ◌-◌, ◌*◌, ◌/◌, ◌%◌, ◌≤◌, ◌<◌}
use mathlib.Core.Path.{◌≡◌}
use mathlib.Core.Bool.{true, false}
use native.Mathlib.Nat.{mod-add-div', lt-div-mul-add, le-div_iff_mul-le, div-lt_iff_lt-mul, mul-le-mul_right}
use native.Mathlib.Omega.{arith}
use lib.Dec.{ltb}
use borrow.Author.Tests.{lt-ltb, le-ltb}
use Rattle.model.specs.Shuffle.{limit}

module _ (draw n : ℕ) (some : 0 < n) where
  pub limit_accepts : draw - draw % n + n ≤ 65536 → ltb draw (limit n) ≡ true
  limit_accepts h =
      let whole : (draw / n + 1) * n ≤ 65536 = omega (arith, mod-add-div' draw n) in
      let below = mul-le-mul_right n ((le-div_iff_mul-le {k = n} {x = draw / n + 1} {y = 65536} some).1 whole) in
      lt-ltb draw (limit n) (omega (arith, below, lt-div-mul-add {a = draw} some))

  pub limit_throws : 65536 < draw - draw % n + n → ltb draw (limit n) ≡ false
  limit_throws h =
      let past : 65536 < (draw / n + 1) * n = omega (arith, mod-add-div' draw n) in
      let few = (div-lt_iff_lt-mul {k = n} {x = 65536} {y = draw / n + 1} some).1 past in
      let most : 65536 / n ≤ draw / n = omega (arith, few) in
      le-ltb draw (limit n) (omega (arith, mul-le-mul_right n most, mod-add-div' draw n))
