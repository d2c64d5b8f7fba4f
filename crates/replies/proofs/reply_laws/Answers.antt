-- `replies::reply_laws` meets its contract. Assumes nothing.
use mathlib.Core.Path.{refl}
use native.Mathlib.Omega.{arith}
use lib.ListN.{length}
use borrow.Author.Tests.{eq-eqb, ne_eqb}
use Rattle.records.proofs.Structs.{three_fields}
use Rattle.replies.proofs.reply_laws.Goals as goal

pub returns : goal.returns
returns c =
    record {
      written_claimed = λ ψ probes. three_fields 1 ψ probes (omega arith);
      written_rewritten = λ ψ probes. three_fields 0 ψ probes (omega arith);
      written_refused = λ number probes. three_fields 0 0 probes (omega arith) (omega arith);
      release_freed = λ ψ old. (refl, refl);
      release_refused = λ number old. (refl, refl);
      lent_other_size = λ geometry r list₀ position₀ number list position h other.
          let e = ne_eqb (length geometry) 24 other in (rw e at h.number_is, rw e at h.stored, rw e at h.moved);
      lent_right_size = λ geometry r list₀ position₀ number list position h sized.
          let e = eq-eqb (length geometry) 24 sized in
          record { answered = rw e at h.number_is; stored = rw e at h.stored; moved = rw e at h.moved };
    }
