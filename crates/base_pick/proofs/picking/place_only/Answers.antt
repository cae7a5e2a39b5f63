use Rattle.std.proofs.Common.{ap, sym, Ok, ◌∙◌}
use Rattle.base_pick.proofs.Placing.{only-placed, only-full, refused}
use Rattle.base_pick.proofs.picking.place_only.Goals as goal

pub returns-in_ok-from_array-in-Some : goal.returns-in_ok-from_array-in-Some
returns-in_ok-from_array-in-Some c =
    only-placed c.args.arena c.args.occupied.now c.args.object.now c.in-Some.base (sym c.in-Some.ensures.place) ∙ ap Ok (sym c.in_ok-from_array-in-Some.ensures.items)

pub returns-in-None : goal.returns-in-None
returns-in-None c =
    refused c.full_at.result _ _ (only-full c.args.arena c.args.occupied.now c.args.object.now (sym c.in-None.ensures.place)) c.full_at.ensures
