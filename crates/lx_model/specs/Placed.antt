-- Bases under which a module can be fixed: each module that it reaches has its place.
use Rattle.std.specs.Prelude.{◌≡◌, ℕ, ◌+◌, ◌%◌, ◌==◌, ◌≤◌, ◌<◌, List, length, find, slice_index, Some, if◌then◌else◌}
use Rattle.lx_types.specs.Addresses.{room}
use Rattle.lx_types.specs.declared.limits.TheConstants.{BASE_UNIT, PRIVATE_FROM, SHARED_FROM, SHARED_END}
use Rattle.lx_types.specs.Parts.{is_library_of, object_of}
use Rattle.lx_types.specs.declared.bases.Bases.{Bases}
use Rattle.lx_types.specs.declared.bases.ModBases.{ModBases}
use Rattle.lx_types.specs.declared.parts.Parts.{Parts}
use Rattle.lx_model.specs.Library.{module_of}
use Rattle.lx_model.specs.Reach.{Reach}

-- where the arena of a module begins and ends: a library's objects are shared, a program's its own
abbrev pub arena_from : Parts → ℕ
arena_from m = if is_library_of m then SHARED_FROM else PRIVATE_FROM

abbrev pub arena_end : Parts → ℕ
arena_end m = if is_library_of m then SHARED_END else SHARED_FROM

-- Object k of a module, from 0, stands at a base: on a unit, and with its whole room in the arena.
pub record StandsAt (m : Parts) (k base : ℕ) : Type 0 where
  pub unit : base % BASE_UNIT ≡ 0
  pub from : arena_from m ≤ base
  pub to : base + room (object_of m (k + 1)).size ≤ arena_end m

-- A module has bases, one for each of its objects.
pub record HasBases (lib : List Parts) (bases : Bases) (m : ℕ) : Type 0 where
  pub own : ModBases
  pub found : find (λ b. b.«module» == m) bases.mods ≡ Some own
  pub each : length own.objects ≡ length (module_of lib m).objects
  pub stand : (k : ℕ) → k < length own.objects → StandsAt (module_of lib m) k (slice_index own.objects k)

-- The bases cover what a module reaches.
abbrev pub Covers : List Parts → ℕ → Bases → Type 0
Covers lib m bases = (x : ℕ) → Reach lib m x → HasBases lib bases x
