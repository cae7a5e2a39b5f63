-- A module that was linked and imports no other is loaded alone.
use Rattle.std.specs.Prelude.{◌≡◌, ◌==◌, ℕ, Bool, cond, List, [], ◌∷◌, Some, None, is_some, length, refl}
use Rattle.std.proofs.Common.{ap, sym, ◌∙◌, true≢false}
use Rattle.std.proofs.Math.Dec.{eqb-suc-zero}
use Rattle.lx_types.specs.declared.parts.Parts.{Parts}
use Rattle.link_model.specs.Link.{Link}
use Rattle.lx_model.specs.Module.{parts_of}
use Rattle.image_model.specs.File.{file_of}
use Rattle.image_model.specs.Linked.{image_of, link_modules}
use Rattle.image_model.specs.ReadBack.{parts_of_image}
use Rattle.image_model.proofs.PartsRead.{parts_read}
use Rattle.layer_laws.proofs.Given.{given}
use Rattle.layer_laws.proofs.ImagesFit.{images_fit, linked_read}
use Rattle.image_pages.specs.Alone.{LinkedModulesLoadAlone}
use Rattle.image_pages.specs.Memory.{no_module}
use Rattle.image_pages.specs.declared.refusals.ImageRefusal.TheVariants.{NoModule}
use Rattle.image_pages.proofs.OneModule.{alone_gathers, alone_fit}
use Rattle.image_pages.proofs.Stands.{stands_well}
use Rattle.image_pages.proofs.Unused.{no_references, same_imports}

none_by : (names : List (List ℕ)) → cond (length names == 0) None (Some NoModule) ≡ None → names ≡ []
none_by [] e = refl
none_by (n ∷ names) e =
    absurd (true≢false (ap is_some (sym (ap (λ (b : Bool). cond b None (Some NoModule)) (eqb-suc-zero (length names))) ∙ e)))

-- It imports no other.
pub none_imported : (l : Link) → no_module l ≡ None → link_modules l ≡ []
none_imported l e = none_by (link_modules l) e

pub loads_alone : LinkedModulesLoadAlone
loads_alone input l links short alone within =
    let m = parts_of (file_of (image_of l)) in
    let is : m ≡ parts_of_image (image_of l) = parts_read (image_of l) (images_fit input l links short) in
    let none = none_imported l alone in
    record {
      gathers = alone_gathers m;
      fit = alone_fit m (ap (λ (p : Parts). p.imports) is ∙ same_imports l ∙ none) (ap (λ (p : Parts). p.refs) is ∙ no_references l none);
      stands = stands_well l m.objects (given input l links).def (linked_read input l links short).linked.objects within;
    }
