use Rattle.link_fix.specs.Shown.{target_shown}
use Rattle.link_fix.proofs.StartPlaces.{start-is}
use Rattle.link_fix.proofs.start.start_place.Goals as goal

pub returns : goal.returns
returns c = λ l of. start-is l c.args.objects.now c.args.start.now (target_shown c.args.target) _ of c.place_of.ensures
