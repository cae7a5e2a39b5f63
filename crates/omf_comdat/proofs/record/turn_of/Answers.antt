use Rattle.std.proofs.Common.{◌≡◌, ℕ, List, length, ap, ◌∙◌}
use Rattle.std.specs.Prelude.{bytes_eq, nat_lt}
use Rattle.std.specs.List.{position_or_len}
use Rattle.obj_types.specs.declared.parts.BegunComdat.{BegunComdat}
use Rattle.omf_model.specs.Items.{begun_names, name_with}
use Rattle.omf_comdat.specs.Fields.{comdat_of}
use Rattle.omf_comdat.proofs.Begins.{turn_is}
use Rattle.omf_comdat.proofs.record.turn_of.Goals as goal

pub returns-clause-turn : goal.returns-clause-turn
returns-clause-turn c =
    let name : c.text-name.result.now ≡ name_with c.args.before.now.names c.args.d.now.name = c.text-name.ensures.name ∙ ap (λ (names : List (List ℕ)). name_with names c.args.d.now.name) c.as_slice.ensures in
    turn_is c.args.before.now (comdat_of c.args.d.now) _ c.in_ok-place.place
    (c.in_ok-place.ensures.place ∙ ap (λ (n : List ℕ). position_or_len (bytes_eq n) (begun_names c.args.before.now.comdats)) name)
    c.in_ok-number.ensures
    (ap (λ (begun : List BegunComdat). nat_lt c.in_ok-place.place (length begun)) c.as_slice-2.ensures)
