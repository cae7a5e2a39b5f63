use Rattle.std.proofs.Common.{◌∙◌, ◌++◌, ap, []}
use Rattle.std.proofs.lemmas.List.{get_or_default}
use Rattle.implib_core.proofs.NamePlaces.{place_more}
use Rattle.implib_model.specs.ModuleImports.{Named}
use Rattle.implib_core.specs.NamePlaces.{places_in, one_place}
use Rattle.implib_core.proofs.places.Places.of.Goals as goal

pub loop-place-preserved : goal.loop-place-preserved
loop-place-preserved c =
    let names = c.args.names.now in
    let place = c.loop-place.place in
    place_more names place (places_in c.loop-place.places) (places_in c.add.new.self) c.loop-place-test.true c.loop-place.invariant
    (λ o. c.in_ok-add.ensures o ∙ ap (λ (n : Named). places_in c.loop-place.places o ++ one_place o place n.1) (get_or_default names place c.index-names-place.result ([], 0) c.loop-place-test.true))
