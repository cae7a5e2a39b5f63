-- The residences that a start or a load attaches, found by their places.
use Rattle.std.proofs.Common.{◌≡◌, List, Result, Some, ℕ, position, find, option_map, IfOk, sym, ◌∙◌, ap}
use Rattle.std.specs.Arc.{arc_value}
use Rattle.lx_types.specs.declared.fail.NoMemory.{NoMemory}
use Rattle.lx_types.proofs.Options.{ok_weaker}
use Rattle.load_model.specs.State.{Residence}
use Rattle.residence_table.specs.Residences.{is_of_module}
use Rattle.load_core.specs.Enters.{IsAttached, frames_of}
use Rattle.load_core.specs.declared.new_residences.Attached.{Attached}
use Rattle.load_core.specs.declared.residence_parts.ResidenceParts.{ResidenceParts}

abbrev pub Row : Type 0
Row = Residence × ResidenceParts

-- a hold on the frames of the residence at the first place of its module
pub attached_there : (all : List Row) (k place : ℕ) (row : Row) (held : Result Attached NoMemory) → position (is_of_module k) all ≡ Some place → find (is_of_module k) all ≡ Some row →
    IfOk held (λ (a : Attached). (a.«module» ≡ k) × (a.place ≡ place) × (arc_value a.frames ≡ row.1.shared.frames)) →
    IfOk held (λ (a : Attached). (a.«module» ≡ k) × IsAttached all a)
attached_there all k place row held at found is =
    ok_weaker (λ (a : Attached). (a.«module» ≡ k) × (a.place ≡ place) × (arc_value a.frames ≡ row.1.shared.frames)) (λ (a : Attached). (a.«module» ≡ k) × IsAttached all a) held
    (λ a it. (
      it.0,
      (
        ap Some it.2 ∙ sym (ap (option_map (λ (s : Row). s.1.shared.frames)) found) ∙ ap (frames_of all) (sym it.0),
        ap (λ (n : ℕ). position (is_of_module n) all) it.0 ∙ at ∙ ap Some (sym it.1),
      ),
    ))
    is
