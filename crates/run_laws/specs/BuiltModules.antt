-- A module that the session builds is what its link is.
use Rattle.std.specs.Prelude.{◌≡◌, ℕ, List, Some, slice_get}
use Rattle.std.specs.List.{AllByRecursion}
use Rattle.link_model.specs.Link.{Link}
use Rattle.run_model.specs.BuiltModules.{IsOfLink, AreOfLinks}
use Rattle.run_model.specs.Sources.{Source, built, library_of}
use Rattle.run_laws.specs.Bridge.{IsBuiltWell, IsSound}

-- So is each that was built well, in the library of the session, whatever else is in it.
abbrev pub BuiltIsOfLink : Type 0
BuiltIsOfLink =
    (sources : List Source) (m : ℕ) (l : Link) → slice_get sources m ≡ Some (built l) → IsBuiltWell l → IsOfLink (library_of sources) m l

-- So are all, where each was built well.
abbrev pub BuiltAreOfLinks : Type 0
BuiltAreOfLinks = (sources : List Source) → AllByRecursion IsSound sources → AreOfLinks sources
