use Rattle.std.proofs.Common.{◌≡◌, false, ap, subst, inl, inr}
use Rattle.obj_types.specs.declared.parts.LastData.{LastData}
use Rattle.obj_types.specs.declared.parts.LastData.TheVariants.{Dropped}
use Rattle.obj_types.specs.Location.{location_len}
use Rattle.omf_model.specs.Fixups.{has_data}
use Rattle.omf_model.specs.ReadFixups.{is_dropped}
use Rattle.omf_model.specs.Record.{location_of, offset_of}
use Rattle.omf_fix.proofs.Judged.{no-data}
use Rattle.omf_fix.proofs.place.place_fixup.Goals as goal

pub returns-in-None-clause-placed : goal.returns-in-None-clause-placed
returns-in-None-clause-placed c =
    elim c.in-None.is [
      | inl e ↦ no-data c.args.into.now c.args.place _ (ap (λ (last : LastData). has_data last (offset_of c.args.place.high c.args.place.low) (location_len (location_of c.args.place.high))) e)
      | inr e ↦ let bad : is_dropped Dropped ≡ false = subst (λ (last : LastData). is_dropped last ≡ false) e c.requires.kept in absurd cc
    ]
