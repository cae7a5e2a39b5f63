use Rattle.std.proofs.Common.{◌≡◌, ◌++◌, List, [], drop, sym, ap, ◌∙◌, append-nil}
use Rattle.std.specs.List.{flat_map}
use Rattle.std.proofs.lemmas.List.{drop_all}
use Rattle.lx_exports.specs.declared.slots.Slot.{Slot}
use Rattle.lx_exports.specs.Slots.{entry_bytes}
use Rattle.lx_exports.proofs.bundle_writing.push_entries.Goals as goal

pub returns : goal.returns
returns c =
    let out = c.loop-slot.out.items in
    let done : drop c.loop-slot.slot-index c.args.slots.now ≡ [] = drop_all c.loop-slot.slot-index c.args.slots.now c.loop-slot-test.false in
    sym (append-nil out) ∙ ap (λ (left : List Slot). out ++ flat_map entry_bytes left) (sym done) ∙ c.loop-slot.invariant
