use Rattle.std.proofs.Common.{◌≡◌, List, Ok, Err, ap, subst, sym, rules}
use Rattle.load_model.specs.declared.deeds.Fresh.{Fresh}
use Rattle.load_model.specs.Entering.{placed_from, resident_ranges}
use Rattle.memory_model.specs.Memory.{RefusesMemory}
use Rattle.memory_model.specs.declared.held.MemoryRefusal.{MemoryRefusal}
use Rattle.residence_table.specs.Placing.{no_room_of}
use Rattle.residence_table.specs.Residences.{residences}
use Rattle.residence_table.specs.declared.placing.NoRoom.{NoRoom}
use Rattle.memory_core.proofs.FirstEntry.{fresh_loader, order_full, order_placed}
use Rattle.memory_core.proofs.More.{order_within, refused_with}
use Rattle.memory_core.proofs.placing.place_fit.Goals as goal

pub place-requires-clause-within : goal.place-requires-clause-within
place-requires-clause-within c = order_within c.order_is_reach.ensures.within c.args.lib.now c.order.result.now c.requires.some c.order.ensures

pub returns-in-Ok : goal.returns-in-Ok
returns-in-Ok c =
    order_placed c.args.lib.now c.order.result.now c.in-Ok.fresh c.requires.some c.requires.fit c.order.ensures (c.in-Ok.ensures.answer fresh_loader (sym (ap residences c.new-nothing.ensures))) c.in-Ok.ensures.«modules»
    (order_within c.order_is_reach.ensures.within c.args.lib.now c.order.result.now c.requires.some c.order.ensures)

pub returns-in-Err-Said : goal.returns-in-Err-Said
returns-in-Err-Said c =
    let lib = c.args.lib.now in
    let order = c.order.result.now in
    let P : List Fresh → Type 0 = λ fresh. placed_from lib 0 (resident_ranges lib fresh_loader) order ≡ Ok fresh in
    let Q : NoRoom → Type 0 = λ none. placed_from lib 0 (resident_ranges lib fresh_loader) order ≡ Err (no_room_of none) in
    let R : MemoryRefusal → Type 0 = RefusesMemory lib in
    subst R (sym c.without_room.ensures)
    (order_full lib order (no_room_of c.in-Err-Said.none) c.requires.some c.requires.fit c.order.ensures
    (refused_with P Q c.in-Err-Said.field-0 c.in-Err-Said.none c.in-Err-Said.field-0-is (c.in-Err-Said.ensures.answer fresh_loader (sym (ap residences c.new-nothing.ensures)))))
