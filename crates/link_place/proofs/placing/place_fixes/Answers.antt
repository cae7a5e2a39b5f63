use Rattle.std.proofs.Common.{◌≡◌, ◌∙◌, ap, map, refl, subst, Option, ℕ}
use Rattle.link_model.specs.Choosing.{modules_of}
use Rattle.link_model.specs.Link.{Link, link_of}
use Rattle.link_place.specs.Placing.{ArePlaced}
use Rattle.link_place.proofs.WholeModules.{all-located, laid-by}
use Rattle.link_place.proofs.AnswersMapped.{answers-map}
use Rattle.link_place.proofs.placing.place_fixes.Goals as goal

pub place_at-requires : goal.place_at-requires
place_at-requires c =
    all-located c.args.input.now c.args.syms.now.chosen (map (λ m. m.now) c.as_slice.result.now) c.requires.whole
    (ap (map (λ m. m.now)) c.as_slice.ensures.value ∙ c.in_ok-modules.ensures ∙ ap (modules_of c.args.input.now) c.chosen.ensures)

pub returns : goal.returns
returns c =
    let l : Link = link_of c.args.input.now c.args.syms.now.chosen in
    let is : map (λ m. m.now) c.as_slice.result.now ≡ modules_of c.args.input.now c.args.syms.now.chosen = ap (map (λ m. m.now)) c.as_slice.ensures.value ∙ c.in_ok-modules.ensures ∙ ap (modules_of c.args.input.now) c.chosen.ensures in
    let laid = laid-by c.args.input.now c.args.syms.now c.args.layout.now (map (λ m. m.now) c.as_slice.result.now) c.args.layout.now.objects is refl c.requires.bound c.requires.laid in
    answers-map c.place_at.result _ _ _ _
    (λ placed told. ((told l laid).0, subst (λ (top : Option (ℕ × ℕ)). ArePlaced l top placed) c.requires.laid.stack (told l laid).1))
    (λ refusal told. told l laid) c.place_at.ensures
