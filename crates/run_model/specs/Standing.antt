-- How modules stand that processes reach: what has to hold of them where a link's bytes and the loader's are one.
use Rattle.std.specs.Prelude.{◌≡◌, ℕ, ◌+◌, ◌%◌, ◌<◌, ◌≤◌, List, length, true}
use Rattle.lx_types.specs.declared.limits.TheConstants.{BASE_UNIT, SHARED_END}
use Rattle.lx_types.specs.Sound.{IsNumberOf}
use Rattle.lx_types.specs.declared.bases.Bases.{Bases}
use Rattle.lx_model.specs.Fixed.{base_of}
use Rattle.lx_model.specs.Reach.{IsFit}
use Rattle.load_model.specs.declared.deeds.Entry.{Entry}
use Rattle.load_model.specs.Modules.{Library, Held, objects_of, object_at}
use Rattle.load_model.specs.State.{Failing, is_reached}
use Rattle.load_model.specs.Memory.{bases_seen}
use Rattle.load_model.specs.Histories.{state_after, Legal}

-- Each object of module m stands at a multiple of 65,536, and ends at 20000000h at most.
abbrev pub ObjectsStand : Library → Bases → ℕ → Type 0
ObjectsStand lib bases m =
    (object : ℕ) → IsNumberOf object (length (objects_of lib m)) →
    (base_of bases m object % BASE_UNIT ≡ 0) × (base_of bases m object + (object_at lib m object).size ≤ SHARED_END)

-- A module of the library, that can be loaded, and whose objects stand so.
pub record StandsIn (lib : Library) (bases : Bases) (m : ℕ) : Type 0 where
  pub there : m < length lib
  pub fit : IsFit lib m
  pub objects : ObjectsStand lib bases m

-- In every legal history so stands each module that some process reaches, at the bases of its residence and of those that it
-- reaches.
abbrev pub ReachedStand : Type 0
ReachedStand =
    (lib : Library) (failing : Failing) (contents : Held) (h : List Entry) (m : ℕ) → Legal lib failing contents h →
    is_reached lib (state_after lib failing h) m ≡ true → StandsIn lib (bases_seen lib (state_after lib failing h) m) m
