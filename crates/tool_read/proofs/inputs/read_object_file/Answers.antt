use Rattle.answer_model.specs.Items.{object, object_file}
use Rattle.tool_read.proofs.Readers.{err_read, ok_read}
use Rattle.tool_read.proofs.inputs.read_object_file.Goals as goal

pub returns-in-Ok-object-clause-read : goal.returns-in-Ok-object-clause-read
returns-in-Ok-object-clause-read c =
    ok_read object_file c.args.name.now _ c.in-Ok.bytes.items c.deref.result.now (c.in-Ok.ensures.opened object_file) c.in-Ok.ensures.short c.deref.ensures.value (object c.in-Ok-object.module) c.in-Ok-object.ensures.read

pub returns-in-Err-object-clause-read : goal.returns-in-Err-object-clause-read
returns-in-Err-object-clause-read c =
    err_read object_file c.args.name.now _ c.in-Ok.bytes.items c.deref.result.now (c.in-Ok.ensures.opened object_file) c.in-Ok.ensures.short c.deref.ensures.value c.in-Err-object.why c.told.result c.in-Err-object.ensures.read c.told.ensures

pub returns-in-Err-clause-read : goal.returns-in-Err-clause-read
returns-in-Err-clause-read c = c.in-Err.ensures.opened object_file
