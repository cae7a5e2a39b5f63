-- The residence at the place that was found before.
use Rattle.std.proofs.Common.{◌≡◌, Some, find, option_map, sym, ◌∙◌, ap}
use Rattle.std.specs.Arc.{arc_value}
use Rattle.load_model.specs.State.{Residence}
use Rattle.page_fix.proofs.Places.{find_by_position, stands_there}
use Rattle.residence_table.specs.Residences.{is_of_module}
use Rattle.load_core.specs.Kept.{shown_by}
use Rattle.load_core.specs.declared.residence_parts.ResidenceParts.{ResidenceParts}
use Rattle.load_core.proofs.new_residences.handed_out.Goals as goal

pub at-row-requires : goal.at-row-requires
at-row-requires c = stands_there (is_of_module c.args.attached.«module») c.args.table.now c.args.attached.place c.requires.1

pub hand_out-requires : goal.hand_out-requires
hand_out-requires c =
    let here = is_of_module c.args.attached.«module» in
    let found : find here c.args.table.now ≡ Some c.at-row.result.now = find_by_position here c.args.table.now (Some c.args.attached.place) c.requires.1 ∙ sym c.at-row.ensures in
    let frames : Some (arc_value c.args.attached.frames) ≡ Some c.at-row.result.now.1.shared.frames = c.requires.0 ∙ ap (option_map (λ (s : Residence × ResidenceParts). s.1.shared.frames)) found in
    let same : arc_value c.args.attached.frames ≡ c.at-row.result.now.1.shared.frames = cc in
    same ∙ ap (λ (p : ResidenceParts). p.shared.frames) (sym c.beside.ensures)

pub returns : goal.returns
returns c =
    let here = is_of_module c.args.attached.«module» in
    let found : find here c.args.table.now ≡ Some c.at-row.result.now = find_by_position here c.args.table.now (Some c.args.attached.place) c.requires.1 ∙ sym c.at-row.ensures in
    ap Some c.hand_out.ensures ∙ ap (λ (p : ResidenceParts). Some (shown_by p)) c.beside.ensures ∙ sym (ap (option_map (λ (s : Residence × ResidenceParts). shown_by s.1)) found)
