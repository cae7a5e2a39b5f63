-- A module that was built is read as its link, and its entry points are the link's exports.
use Rattle.std.proofs.Common.{◌≡◌, ℕ, zero, suc, List, [], ◌∷◌, Some, slice_get, sym, ◌∙◌, subst, arith}
use Rattle.std.specs.List.{AllByRecursion}
use Rattle.lx_model.specs.Library.{module_of}
use Rattle.image_model.specs.Linked.{image_of}
use Rattle.image_model.specs.LinkLaws.{ReadAsLinked}
use Rattle.layer_laws.specs.EntryLaws.{EntriesAreOut}
use Rattle.layer_laws.specs.LinkedImages.{LinkedFilesRead}
use Rattle.run_model.specs.Sources.{Source, built, library_of}
use Rattle.run_laws.specs.Bridge.{IsSound}
use Rattle.run_laws.specs.BuiltModules.{BuiltIsOfLink, BuiltAreOfLinks}
use Rattle.run_laws.specs.BuiltResources.{BuiltHasNoResources}
use Rattle.run_laws.proofs.BuiltEntries.{by_key}
use Rattle.run_laws.proofs.BuiltPages.{pages_there}
use Rattle.run_laws.proofs.BuiltResources.{module_is}

pub sound_at : (sources : List Source) (m : ℕ) (s : Source) → AllByRecursion IsSound sources → slice_get sources m ≡ Some s → IsSound s
sound_at [] m s all there = cc
sound_at (x ∷ xs) zero s all there = subst IsSound (step x s there) all.0
  where
    step : (x s : Source) → Some x ≡ Some s → x ≡ s
    step x s is = grind arith
sound_at (x ∷ xs) (suc m) s all there = sound_at xs m s all.1 there

module _ (reads : LinkedFilesRead) (exports : EntriesAreOut) (none : BuiltHasNoResources) where
  pub built_is_of_link : BuiltIsOfLink
  built_is_of_link sources m l there well =
      let is = module_is sources m (built l) there in
      let again = reads well.input l well.links well.short in
      let parts : ReadAsLinked l (module_of (library_of sources) m) = subst (ReadAsLinked l) (sym is) again.linked in
      record {
        name = parts.name;
        flags = parts.flags;
        start = parts.start;
        objects = parts.objects;
        imports = parts.imports;
        entries = by_key l (library_of sources) m (exports well.input l well.links well.short (library_of sources) m is);
        pages = pages_there (library_of sources) m (image_of l) (is ∙ sym again.means.parts);
        resources = none sources m l there well;
      }

  pub built_are_of_links : BuiltAreOfLinks
  built_are_of_links sources sound m l there = built_is_of_link sources m l there (sound_at sources m (built l) sound there)
