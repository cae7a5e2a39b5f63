use Rattle.std.proofs.Common.{◌≡◌, sym, ap, subst, ◌∙◌}
use Rattle.std.specs.Prelude.{OnOk}
use Rattle.obj_types.specs.declared.parts.ObjParts.{ObjParts}
use Rattle.omf_comdat.specs.Fields.{comdat_of}
use Rattle.omf_comdat.specs.Turns.{with_data}
use Rattle.omf_comdat.proofs.RecordAdded.{goes_on, begins}
use Rattle.omf_comdat.proofs.record.add.Goals as goal

pub returns-then-turn : goal.returns-then-turn
returns-then-turn c =
    let d = comdat_of c.args.d.now in
    subst (λ (q : ObjParts). OnOk c.add_data.result (c.add_data.new.into ≡ q))
    (goes_on c.args.into.now d c.args.turn.number c.requires.turn.number (sym c.requires.in_turn ∙ c.if-turn.true)) c.add_data.ensures

pub returns : goal.returns
returns c =
    let d = comdat_of c.args.d.now in
    subst (λ (q : ObjParts). OnOk c.add_data-2.result (c.add_data-2.new.into ≡ q))
    (ap (λ (q : ObjParts). with_data q c.args.turn.number d) c.in_ok-begin.ensures
    ∙ begins c.args.into.now d c.args.turn.number c.requires.turn.number (sym c.requires.in_turn ∙ c.if-turn.false)) c.add_data-2.ensures
