use Rattle.std.proofs.Common.{◌≡◌, ◌∙◌, ap, sym, length, Ok, Err}
use Rattle.load_model.specs.Entering.{placed_from, resident_ranges}
use Rattle.residence_table.specs.Placing.{no_room_of}
use Rattle.residence_table.specs.Residences.{residences}
use Rattle.gen_core.proofs.Answered.{refused_with}
use Rattle.gen_core.proofs.Placed.{are_placed, empty, numbers_below, room_for_all}
use Rattle.gen_core.proofs.placing.placed.Goals as goal

pub place-requires-clause-within : goal.place-requires-clause-within
place-requires-clause-within c = numbers_below c.deref.result.now (length c.args.lib.now) (c.deref.ensures.value ∙ c.in_ok-numbers.ensures)

pub returns-in-Ok : goal.returns-in-Ok
returns-in-Ok c =
    are_placed c.args.lib.now c.deref.result.now _ (c.deref.ensures.value ∙ c.in_ok-numbers.ensures) (c.in-Ok.ensures.answer empty (sym (ap residences c.new-nothing.ensures)))

pub unreachable-requires : goal.unreachable-requires
unreachable-requires c =
    room_for_all c.modules_load.ensures.places c.args.lib.now (no_room_of c.in-Err-Said.field-0-0) c.requires
    (are_placed c.args.lib.now c.deref.result.now _ (c.deref.ensures.value ∙ c.in_ok-numbers.ensures) (refused_with (λ fresh. placed_from c.args.lib.now 0 (resident_ranges c.args.lib.now empty) c.deref.result.now ≡ Ok fresh) (λ none. placed_from c.args.lib.now 0 (resident_ranges c.args.lib.now empty) c.deref.result.now ≡ Err (no_room_of none)) c.in-Err-Said.field-0 c.in-Err-Said.field-0-0 c.in-Err-Said.field-0-is (c.in-Err-Said.ensures.answer empty (sym (ap residences c.new-nothing.ensures)))))
