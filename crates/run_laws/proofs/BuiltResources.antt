-- The file of a link counts no resources.
use Rattle.std.proofs.Common.{◌≡◌, ℕ, List, map, Option, Some, None, slice_get, ◌∙◌, ap}
use Rattle.std.proofs.lemmas.Option.{get_or_from_slice_get, slice_get-map}
use Rattle.lx_types.specs.declared.parts.Parts.{Parts}
use Rattle.lx_model.specs.Library.{module_of, no_module}
use Rattle.image_model.specs.Linked.{image_of}
use Rattle.layer_laws.specs.LinkedImages.{LinkedImagesFit}
use Rattle.load_model.specs.Modules.{resource_of, Res}
use Rattle.run_model.specs.Resources.{WrittenHasNoResources}
use Rattle.run_model.specs.Sources.{Source, built, module_from, library_of}
use Rattle.run_laws.specs.BuiltResources.{BuiltHasNoResources}

pub module_is : (sources : List Source) (m : ℕ) (s : Source) → slice_get sources m ≡ Some s → module_of (library_of sources) m ≡ module_from s
module_is sources m s at = get_or_from_slice_get (map module_from sources) m (module_from s) no_module (slice_get-map module_from sources m ∙ ap (λ o. mapped o) at)
  where
    mapped : Option Source → Option Parts
    mapped None = None
    mapped (Some t) = Some (module_from t)

pub no_resources : LinkedImagesFit → WrittenHasNoResources → BuiltHasNoResources
unfolding resource_of
no_resources fit none sources m l at well ty id =
    ap (λ p. Res p ty id) (module_is sources m (built l) at) ∙ none (image_of l) (fit well.input l well.links well.short) ty id
