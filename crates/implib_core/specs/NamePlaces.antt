-- The places of the names of each ordinal.
use Rattle.std.specs.Prelude.{ℕ, ◌+◌, ◌<◌, ◌^◌, ◌==◌, List, [], ◌∷◌, length, Option, Some, None, if◌then◌else◌, slice_index_or}
use Rattle.std.specs.List.{AllByRecursion}
use Rattle.std.specs.Global.{Vec}
use Rattle.indexmap.specs.IndexMap.{get}
use Rattle.implib_model.specs.ModuleImports.{Named}
use Rattle.implib_core.specs.declared.places.Places.{Places}

-- The places of the names of an ordinal, the first of these names being at one.
abbrev pub places_from : ℕ → ℕ → List Named → List ℕ
places_from ordinal at [] = []
places_from ordinal at (n ∷ names) = if n.1 == ordinal then at ∷ places_from ordinal (at + 1) names else places_from ordinal (at + 1) names

abbrev pub one_place : ℕ → ℕ → ℕ → List ℕ
one_place ordinal at own = if own == ordinal then at ∷ [] else []

abbrev pub items_of : Option (Vec ℕ) → List ℕ
items_of None = []
items_of (Some v) = v.items

abbrev pub places_in : Places → ℕ → List ℕ
places_in p ordinal = items_of (get ◌==◌ p.by_ordinal ordinal)

-- the name at a place, and its ordinal
abbrev pub name_at : List Named → ℕ → Named
name_at names place = slice_index_or names place ([], 0)

-- These places are places of names, whose ordinals have 16 bits.
abbrev pub ArePlaces : List Named → List ℕ → Type 0
ArePlaces names places = AllByRecursion (λ p. (p < length names) × ((name_at names p).1 < 2 ^ 16)) places
