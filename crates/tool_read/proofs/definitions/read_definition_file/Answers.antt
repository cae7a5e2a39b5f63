use Rattle.answer_model.specs.Items.{definition, definition_file}
use Rattle.tool_read.proofs.Readers.{err_read, ok_read}
use Rattle.tool_read.proofs.definitions.read_definition_file.Goals as goal

pub returns-in-Ok-definition-clause-read : goal.returns-in-Ok-definition-clause-read
returns-in-Ok-definition-clause-read c =
    ok_read definition_file c.args.name.now _ c.in-Ok.bytes.items c.deref.result.now (c.in-Ok.ensures.opened definition_file) c.in-Ok.ensures.short c.deref.ensures.value (definition c.in-Ok-definition.file) c.in-Ok-definition.ensures.read

pub returns-in-Err-definition-clause-read : goal.returns-in-Err-definition-clause-read
returns-in-Err-definition-clause-read c =
    err_read definition_file c.args.name.now _ c.in-Ok.bytes.items c.deref.result.now (c.in-Ok.ensures.opened definition_file) c.in-Ok.ensures.short c.deref.ensures.value c.in-Err-definition.why c.told.result c.in-Err-definition.ensures.read c.told.ensures

pub returns-in-Err-clause-read : goal.returns-in-Err-clause-read
returns-in-Err-clause-read c = c.in-Err.ensures.opened definition_file
