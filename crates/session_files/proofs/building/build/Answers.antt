use Rattle.std.proofs.Common.{◌∙◌, ap, map}
use Rattle.std.specs.Prelude.{string_bytes}
use Rattle.answer_model.specs.Words.{definition_of}
use Rattle.session_files.proofs.Lines.{built_from, unread_from}
use Rattle.session_files.proofs.building.build.Goals as goal

pub returns-in-Ok-clause-done : goal.returns-in-Ok-clause-done
returns-in-Ok-clause-done g c =
    built_from c.args.stem.now c.args.def.now c.in_ok-name.name c.text_of-in-Ok.result.now _ c.args.inputs.now _ _ _ c.in_ok-name.ensures (c.definition_of-definition.ensures ∙ ap definition_of c.text_of.ensures)
    (ap (map string_bytes) c.deref.ensures.value ∙ c.in_ok-inputs.ensures) c.in-Ok.read c.linked.result c.text_of-in-Ok.ensures c.in-Ok.ensures.read c.linked.ensures.linked

pub returns-clause-done : goal.returns-clause-done
returns-clause-done g c =
    unread_from c.args.stem.now c.args.def.now c.in_ok-name.name c.args.stem.now _ c.args.inputs.now _ _ _ c.in_ok-name.ensures (c.definition_of-definition.ensures ∙ ap definition_of c.text_of.ensures)
    (ap (map string_bytes) c.deref.ensures.value ∙ c.in_ok-inputs.ensures) c.in-Err.why c.in-Err.ensures.read
