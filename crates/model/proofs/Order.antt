-- The first refusal that applies stands, whatever the rest says. Assumes nothing.
use Prim.Native.Nat.{ℕ, zero, suc, ◌<◌}
use mathlib.Core.Path.{◌≡◌, refl}
use mathlib.Core.List.{List}
use native.Mathlib.Omega.{arith}
use Rattle.refusals.proofs.Refuse.{Stands-first, rest_first, refuse-first}
use Rattle.model.specs.declared.Geometry.{Geometry}
use Rattle.model.specs.declared.Session.{Session}
use Rattle.model.specs.Geometry.{bad_geometry}
use Rattle.model.specs.Session.{standing, unless}
use Rattle.model.specs.Format.{format_refusal}

geometry-first : (n : ℕ) (g : Geometry) (chain : ℕ → ℕ) → Stands-first chain → Stands-first (λ rest. bad_geometry n g (chain rest))
unfolding bad_geometry
geometry-first n g chain first =
    refuse-first _ n _ (refuse-first _ n _ (refuse-first _ n _ (refuse-first _ n _ (refuse-first _ n chain first))))

pub bad_geometry-first : (n : ℕ) (g : Geometry) → 0 < bad_geometry n g 0 → (rest : ℕ) → bad_geometry n g rest ≡ bad_geometry n g 0
bad_geometry-first n g = geometry-first n g (λ rest. rest) rest_first

pub standing-first : (device maps owners : ℕ) (s : Session) → 0 < standing device maps owners s 0
    → (rest : ℕ) → standing device maps owners s rest ≡ standing device maps owners s 0
unfolding standing
standing-first device maps owners s =
    refuse-first _ 20 _
    (geometry-first 20 s.geometry _
    (refuse-first _ 20 _
    (refuse-first _ 20 _
    (refuse-first _ 20 _
    (refuse-first _ 2 _
    (refuse-first _ 4 _
    (refuse-first _ 4 (λ rest. rest) rest_first)))))))

pub format_refusal-first : (device : ℕ) (g : Geometry) (n keys : ℕ) (counts : List ℕ) (tape position : ℕ)
    → 0 < format_refusal device g n keys counts tape position 0
    → (rest : ℕ) → format_refusal device g n keys counts tape position rest ≡ format_refusal device g n keys counts tape position 0
unfolding format_refusal
format_refusal-first device g n keys counts tape position =
    geometry-first 1 g _
    (refuse-first _ 1 _
    (refuse-first _ 1 _
    (refuse-first _ 2 _
    (refuse-first _ 23 _
    (refuse-first _ 23 _
    (refuse-first _ 3 _
    (refuse-first _ 21 (λ rest. rest) rest_first)))))))

-- What a refusal gives.
pub unless_refused_lem : {A : Type 0} (n : ℕ) (refusal : ℕ → A) (served : A) → 0 < n → unless n refusal served ≡ refusal n
unless_refused_lem zero refusal served l = absurd (omega arith)
unless_refused_lem (suc n) refusal served l = refl
