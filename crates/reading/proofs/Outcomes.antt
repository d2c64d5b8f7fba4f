-- What a read and a find come to, by the tests that their code makes. Assumes nothing.
use Prim.Native.Nat.{ℕ, ◌+◌, ◌≤◌, ◌<◌}
use mathlib.Core.Path.{◌≡◌, sym, ap, ◌∙◌}
use mathlib.Core.List.{List, []}
use lib.ListN.{length}
use borrow.Author.Tests.{lt-ltb, le-ltb}
use Rattle.std.specs.Prelude.{Result, Ok, Err}
use Rattle.refusals.specs.Numbers.{refusal_number, answer_number}
use Rattle.refusals.specs.declared.Refusal.{Refusal}
use Rattle.refusals.proofs.Positive.{refusal_positive}
use Rattle.model.specs.declared.Geometry.{Geometry}
use Rattle.model.specs.declared.Session.{Session}
use Rattle.model.specs.Parts.{part}
use Rattle.model.specs.Geometry.{Allowed, device_length, iv_start, block_start}
use Rattle.model.specs.Session.{offset_of, entry_of}
use Rattle.model.specs.Read.{block_of, read_refusal, Filled, Refused, read_model, find_model}
use Rattle.model.proofs.Bounds.{iv_fits, block_fits}
use Rattle.model.proofs.Order.{unless_refused_lem}
use Rattle.model.proofs.Requests.{Ready, read_refusal_none}

-- What a request that is not refused knows.
module _ {answer : Result Unit Refusal} {u : Unit} where
  pub served : {n : ℕ} → answer_number answer ≡ n → answer ≡ Ok u → n ≡ 0
  served e q = sym e ∙ ap answer_number q

  pub ready : {device : ℕ} {maps owners : List ℕ} {s : Session} {i a room : ℕ} → answer_number answer ≡ read_refusal device maps owners s i a room
      → answer ≡ Ok u → Ready device maps owners s i a room
  ready e q = read_refusal_none _ _ _ _ _ _ _ (served e q)

-- A mapped block and its IV lie in the device.
module _ {g : Geometry} {device ψ j at : ℕ} (ok : Allowed g) (long : device ≡ device_length g) (mapped : ψ < g.p) (offset : j < g.s) where
  pub iv_inside : at ≡ iv_start g ψ j → at + 16 ≤ device
  iv_inside e = rw (e, long) (iv_fits g ok ψ j mapped offset)

  pub block_inside : at ≡ block_start g ψ j → at + g.b ≤ device
  block_inside e = rw (e, long) (block_fits g ok ψ j mapped offset)

-- ---- read

module _ (device maps owners : List ℕ) (s : Session) (i a : ℕ) where
  pub read_refused : (room : ℕ) {answer : Result Unit Refusal} {r : Refusal}
      → answer_number answer ≡ read_refusal (length device) maps owners s i a room → answer ≡ Err r
      → read_model device maps owners s i a room ≡ Refused (refusal_number r)
  unfolding read_model
  read_refused room {r = r} e q = rw (← e, q) (unless_refused_lem _ _ _ (refusal_positive r))

  pub read_served : (room : ℕ) → read_refusal (length device) maps owners s i a room ≡ 0
      → read_model device maps owners s i a room ≡ Filled (block_of device maps s i a)
  unfolding read_model
  read_served room e = rw e

  -- ---- find

  pub find_refused : {answer : Result Unit Refusal} {r : Refusal}
      → answer_number answer ≡ read_refusal (length device) maps owners s i a s.geometry.b → answer ≡ Err r → find_model device maps owners s i a ≡ []
  unfolding find_model
  find_refused {r = r} e q = rw (← e, q) (unless_refused_lem _ _ _ (refusal_positive r))

  module _ (e : read_refusal (length device) maps owners s i a s.geometry.b ≡ 0) where
    pub find_mapped : entry_of maps s.geometry i a < s.geometry.p
        → find_model device maps owners s i a
        ≡ part (block_start s.geometry (entry_of maps s.geometry i a) (offset_of s.geometry a)) s.geometry.b device
    unfolding find_model
    find_mapped l = rw (e, lt-ltb _ _ l)

    pub find_unmapped : s.geometry.p ≤ entry_of maps s.geometry i a → find_model device maps owners s i a ≡ []
    unfolding find_model
    find_unmapped l = rw (e, le-ltb _ _ l)
