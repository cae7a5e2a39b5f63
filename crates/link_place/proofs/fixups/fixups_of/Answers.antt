use Rattle.std.proofs.Common.{◌≡◌, ◌∙◌, ap, map, sym, refl, List}
use Rattle.obj_types.specs.declared.object.ObjModule.{ObjModule}
use Rattle.link_model.specs.Link.{Link}
use Rattle.link_model.specs.Fixups as rules
use Rattle.link_fix.specs.Bare.{bare}
use Rattle.link_place.specs.Fixed.{fixups_by}
use Rattle.link_place.specs.Judged.{first_refusal}
use Rattle.link_place.specs.Meanings.{HasMeanings}
use Rattle.link_types.specs.Places.{ArePlaces}
use Rattle.link_place.proofs.AnswersMapped.{answers-map, answers-ok}
use Rattle.link_place.proofs.Located.{fixups-are}
use Rattle.link_place.proofs.PlacedPages.{all-accepted}
use Rattle.link_place.proofs.fixups.fixups_of.Goals as goal

pub returns : goal.returns
returns c =
    let ms : List ObjModule = map (λ m. m.now) c.args.modules.now in
    let all : List rules.Fixup = fixups_by c.args.places.now c.args.syms.now ms in
    let same : (l : Link) → l.modules ≡ ms → ArePlaces l c.args.places.now → HasMeanings l c.args.syms.now → all ≡ rules.fixups l =
    λ l of are means. fixups-are l c.args.places.now c.args.syms.now ms all of are means refl in
    record {
      accepted = answers-ok c.fixups_among.result _ _ _ (λ found told. all-accepted c.args.places.now c.args.syms.now ms found.items c.requires told.0 told.1) c.fixups_among.ensures;
      fixups = answers-map c.fixups_among.result _ _ _ _
          (λ found told l of are means. (ap first_refusal (sym (same l of are means)) ∙ told.0, told.1 ∙ ap (map bare) (same l of are means)))
          (λ refusal told l of are means. ap first_refusal (sym (same l of are means)) ∙ told) c.fixups_among.ensures;
    }
