use Rattle.std.proofs.Common.{List, [], ℕ, ap, sym, subst, refl, length}
use Rattle.std.specs.Option.{option_map}
use Rattle.obj_types.specs.declared.object.ObjModule.{ObjModule}
use Rattle.name_table.specs.Entries.{value_named}
use Rattle.comdat_core.specs.declared.taking.Placed.{Placed}
use Rattle.comdat_core.specs.Taking.{placed, owned_in, AreFirsts, AreSeen}
use Rattle.comdat_core.proofs.Lists.{objects_after}
use Rattle.comdat_core.proofs.taking.taken_out.Goals as goal

pub returns : goal.returns
returns c =
    let input = c.args.input.now in
    let none : AreFirsts (owned_in []) c.new-table.result = λ name. ap (λ (t : List (List ℕ × Placed)). option_map placed (value_named name t)) c.new-table.ensures in
    let objects : AreSeen [] input.objects c.lists_after.new.table c.in_ok-objects.objects.items =
    subst (λ (ms : List ObjModule). AreSeen [] ms c.lists_after.new.table c.in_ok-objects.objects.items) c.as_slice.ensures (c.in_ok-objects.ensures [] refl none) in
    let libs : AreSeen input.objects input.libs c.lists_after-2.new.table c.in_ok-libs.libs.items =
    subst (λ (ms : List ObjModule). AreSeen input.objects ms c.lists_after-2.new.table c.in_ok-libs.libs.items) c.as_slice-2.ensures
    (c.in_ok-libs.ensures input.objects (ap length (sym c.as_slice-first.ensures)) objects.firsts) in
    record { objects = objects_after input.objects input.libs c.in_ok-objects.objects.items objects.lists; libs = libs.lists }
