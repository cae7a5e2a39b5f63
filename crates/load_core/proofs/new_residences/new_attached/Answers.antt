-- A residence that begins is found after those that stand.
use Rattle.std.proofs.Common.{◌≡◌, ◌+◌, ◌++◌, List, Some, None, false, length, position, find, is_some, sym, ◌∙◌, ap}
use Rattle.std.specs.Arc.{arc_value}
use Rattle.lx_types.proofs.Options.{ok_weaker}
use Rattle.page_fix.proofs.Places.{find_by_position, found_there, stands_there}
use Rattle.residence_table.specs.Residences.{is_of_module}
use Rattle.load_core.specs.declared.new_residences.Attached.{Attached}
use Rattle.load_core.proofs.Attaching.{Row, attached_there}
use Rattle.load_core.proofs.Beginning.{find_right, place_right}
use Rattle.load_core.proofs.new_residences.new_attached.Goals as goal

pub bounds-new_residences-place : goal.bounds-new_residences-place
bounds-new_residences-place c = stands_there (is_of_module c.args.k) c.args.new_residences.now c.in-Some.place (sym c.place_in.ensures ∙ c.in-Some.is)

pub returns : goal.returns
returns c =
    let here = is_of_module c.args.k in
    let at : position here c.args.new_residences.now ≡ Some c.in-Some.place = sym c.place_in.ensures ∙ c.in-Some.is in
    let row : Row = c.index-new_residences-place.result in
    let none : find here c.args.table.now ≡ None = find_by_position here c.args.table.now None c.requires.stands in
    let found : find here (c.args.table.now ++ c.args.new_residences.now) ≡ Some row =
    find_right here c.args.table.now c.args.new_residences.now none ∙ found_there here c.args.new_residences.now c.in-Some.place row at ∙ ap Some (sym c.index-new_residences-place.is) in
    let same : length c.rows.result.now + c.in-Some.place ≡ length c.args.table.now + c.in-Some.place = ap (λ (rows : List Row). length rows + c.in-Some.place) c.rows.ensures in
    attached_there (c.args.table.now ++ c.args.new_residences.now) c.args.k (length c.args.table.now + c.in-Some.place) row c.attached_at.result
    (place_right here c.args.table.now c.args.new_residences.now c.in-Some.place c.requires.stands at) found
    (ok_weaker (λ (a : Attached). (a.«module» ≡ c.args.k) × (a.place ≡ length c.rows.result.now + c.in-Some.place) × (arc_value a.frames ≡ row.1.shared.frames))
    (λ (a : Attached). (a.«module» ≡ c.args.k) × (a.place ≡ length c.args.table.now + c.in-Some.place) × (arc_value a.frames ≡ row.1.shared.frames)) c.attached_at.result
    (λ a it. (it.0, it.1 ∙ same, it.2)) c.attached_at.ensures)

pub unreachable-requires : goal.unreachable-requires
unreachable-requires c =
    let here = is_of_module c.args.k in
    let none : find here c.args.table.now ≡ None = find_by_position here c.args.table.now None c.requires.stands in
    let new : find here c.args.new_residences.now ≡ None = find_by_position here c.args.new_residences.now None (sym c.place_in.ensures ∙ c.in-None.is) in
    let nowhere : find here (c.args.table.now ++ c.args.new_residences.now) ≡ None = find_right here c.args.table.now c.args.new_residences.now none ∙ new in
    let wrong : is_some (find here (c.args.table.now ++ c.args.new_residences.now)) ≡ false = ap is_some nowhere in
    let right = c.requires.found in
    cc
