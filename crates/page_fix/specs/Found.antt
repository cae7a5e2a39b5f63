-- The places of modules in a list of bases.
use Rattle.std.specs.Prelude.{◌≡◌, ℕ, ◌<◌, ◌==◌, List, position, slice_index_or, Option, None}
use Rattle.lx_types.specs.declared.limits.TheConstants.{MAX_MODULES}
use Rattle.lx_types.specs.declared.bases.ModBases.{ModBases}

-- each module that a library may have has the place at which its bases stand first
abbrev pub AreFound : List ModBases → List (Option ℕ) → Type 0
AreFound mods places = (m : ℕ) → m < MAX_MODULES → slice_index_or places m None ≡ position (λ b. b.«module» == m) mods
