-- What the parts of a formatting ask for. Assumes nothing.
use Rattle.std.specs.Prelude.{ℕ, ◌*◌, ◌≤◌, ◌<◌, ◌≡◌}
use Rattle.model.specs.declared.Geometry.{Geometry}
use Rattle.model.specs.Geometry.{Allowed}
use Rattle.model.specs.Format.{format_need}

-- All tape bytes of a formatting with n keys are drawn, and i is one of its volumes.
pub record Drawn (g : Geometry) (n i drawn : ℕ) : Type 0 where
  pub allowed : Allowed g
  pub most : n ≤ 15
  pub below : i < n
  pub long : drawn ≡ format_need g n

-- So many bytes of keys and of tape are those of a formatting with n keys.
pub record Makes (g : Geometry) (n keys drawn : ℕ) : Type 0 where
  pub allowed : Allowed g
  pub most : n ≤ 15
  pub keyed : keys ≡ 32 * n
  pub long : drawn ≡ format_need g n
