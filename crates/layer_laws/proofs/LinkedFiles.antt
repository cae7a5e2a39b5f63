-- What the file is that a link answers.
use Rattle.std.specs.Prelude.{◌<◌, ◌^◌, ℕ, List, length, refl}
use Rattle.std.proofs.Common.{ap, sym, ◌∙◌, subst}
use Rattle.link_model.specs.Link.{Link}
use Rattle.lx_model.specs.Module.{parts_of, Lx}
use Rattle.image_model.specs.File.{file_of}
use Rattle.image_model.specs.LinkLaws.{ReadAsLinked}
use Rattle.image_model.specs.Linked.{image_of}
use Rattle.layer_laws.specs.LinkedFiles.{LinkedFilesMeanTheirLinks}
use Rattle.layer_laws.specs.LinkedImages.{Links}
use Rattle.layer_laws.proofs.EveryByte.{linked_loaded}
use Rattle.layer_laws.proofs.ImagesFit.{linked_read}

pub files_mean : LinkedFilesMeanTheirLinks
files_mean input file whole range written short =
    let l : Link = written.link in
    let links : Links input l = record { whole = whole; range = range; of_input = written.of_input; accepted = written.accepted } in
    let few : length (file_of (image_of l)) < 2 ^ 32 = subst (λ (f : List ℕ). length f < 2 ^ 32) written.file short in
    let again = linked_read input l links few in
    record {
      link = l;
      of_input = written.of_input;
      read = subst (λ (f : List ℕ). Lx f (parts_of f)) (sym written.file) (record { faultless = again.means.faultless; parts = refl });
      linked = subst (λ (f : List ℕ). ReadAsLinked l (parts_of f)) (sym written.file) again.linked;
      loaded = λ lib m bases holds library within fit well object x o is below. linked_loaded input l links few lib m bases (holds ∙ ap parts_of written.file) library within fit well object x o is below;
    }
