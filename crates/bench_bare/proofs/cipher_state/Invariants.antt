-- `bench_bare::cipher_state` meets its contract. Before turn n the state is the definition's after n - 1 rounds. Assumes nothing.
use mathlib.Core.Path.{◌≡◌}
use Prim.Native.Nat.{◌-◌}
use Rattle.aes.specs.Cipher.{rounds}
use Rattle.bench_bare.proofs.cipher_state.Given as goal

abbrev pub invariant-loop-n : goal.invariant-loop-n
invariant-loop-n l = l.x ≡ rounds l.w l.initial.x (l.n - 1)
