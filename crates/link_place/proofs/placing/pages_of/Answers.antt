use Rattle.std.proofs.Common.{◌∙◌, ap, map}
use Rattle.link_fix.specs.Shown.{piece_shown}
use Rattle.link_place.proofs.AnswersMapped.{answers-failed}
use Rattle.link_place.proofs.placing.pages_of.Goals as goal

pub returns-in-Err : goal.returns-in-Err
returns-in-Err c =
    answers-failed c.fixups_of.result c.in-Err.fail _ _ _ _ c.in-Err.is (λ refusal told l laid. told l laid.modules laid.places laid.meanings) c.fixups_of.ensures.fixups

pub returns-in_ok-pages-in-Ok : goal.returns-in_ok-pages-in-Ok
returns-in_ok-pages-in-Ok c = λ l laid.
    let fixed = c.in-Ok.ensures.fixups l laid.modules laid.places laid.meanings in (
      fixed.0,
      c.in_ok-pages-in-Ok.ensures l (record {
        all_pieces = ap (map piece_shown) c.as_slice-pieces.ensures.value ∙ c.in_ok-pieces-in-Ok.ensures l laid.modules laid.places;
        all_fixups = fixed.1;
        all_objects = laid.objects;
        all_imports = c.imports.ensures ∙ laid.imports;
      }),
    )
