-- A residence is found among those that stand, and then among those that begin.
use Rattle.std.proofs.Common.{◌≡◌, ◌++◌, Some, List, position, find, sym, ◌∙◌, ap}
use Rattle.load_model.specs.State.{Residence}
use Rattle.page_fix.proofs.Places.{find_by_position, stands_there}
use Rattle.residence_table.specs.Residences.{is_of_module}
use Rattle.load_core.specs.declared.residence_parts.ResidenceParts.{ResidenceParts}
use Rattle.load_core.proofs.Attaching.{attached_there}
use Rattle.load_core.proofs.Beginning.{find_left, place_left}
use Rattle.load_core.proofs.new_residences.attached_with.Goals as goal

pub at-requires : goal.at-requires
at-requires c =
    let at : position (is_of_module c.args.k) c.args.table.now ≡ Some c.in-Some.place =
    ap (λ (rows : List (Residence × ResidenceParts)). position (is_of_module c.args.k) rows) (sym c.rows.ensures) ∙ sym c.place_in.ensures ∙ c.in-Some.is in
    stands_there (is_of_module c.args.k) c.args.table.now c.in-Some.place at

pub returns-in-Some : goal.returns-in-Some
returns-in-Some c =
    let here = is_of_module c.args.k in
    let at : position here c.args.table.now ≡ Some c.in-Some.place =
    ap (λ (rows : List (Residence × ResidenceParts)). position here rows) (sym c.rows.ensures) ∙ sym c.place_in.ensures ∙ c.in-Some.is in
    let found : find here c.args.table.now ≡ Some c.at.result.now = find_by_position here c.args.table.now (Some c.in-Some.place) at ∙ sym c.at.ensures in
    attached_there (c.args.table.now ++ c.args.new_residences.now) c.args.k c.in-Some.place c.at.result.now c.attached_at.result
    (place_left here c.args.table.now c.args.new_residences.now c.in-Some.place at)
    (find_left here c.args.table.now c.args.new_residences.now c.at.result.now found) c.attached_at.ensures

pub new_attached-requires-clause-stands : goal.new_attached-requires-clause-stands
new_attached-requires-clause-stands c =
    ap (λ (rows : List (Residence × ResidenceParts)). position (is_of_module c.args.k) rows) (sym c.rows.ensures) ∙ sym c.place_in.ensures ∙ c.in-None.is
