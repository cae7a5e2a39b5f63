-- A module that the session builds has no resources.
use Rattle.std.specs.Prelude.{◌≡◌, ℕ, List, Some, None, slice_get}
use Rattle.link_model.specs.Link.{Link}
use Rattle.load_model.specs.Modules.{resource_of}
use Rattle.run_model.specs.Sources.{Source, built, library_of}
use Rattle.run_laws.specs.Bridge.{IsBuiltWell}

abbrev pub BuiltHasNoResources : Type 0
BuiltHasNoResources =
    (sources : List Source) (m : ℕ) (l : Link) → slice_get sources m ≡ Some (built l) → IsBuiltWell l → (ty id : ℕ) →
    resource_of (library_of sources) m ty id ≡ None
