use Rattle.answer_model.specs.Items.{object_or_library}
use Rattle.tool_read.specs.Readings.{input_item}
use Rattle.tool_read.proofs.Readers.{err_read, ok_read}
use Rattle.tool_read.proofs.inputs.read_input.Goals as goal

pub returns-in-Ok-input_in-clause-read : goal.returns-in-Ok-input_in-clause-read
returns-in-Ok-input_in-clause-read c =
    ok_read object_or_library c.args.name.now _ c.in-Ok.bytes.items c.deref.result.now (c.in-Ok.ensures.opened object_or_library) c.in-Ok.ensures.short c.deref.ensures.value (input_item c.in-Ok-input_in.read) c.in-Ok-input_in.ensures.read

pub returns-in-Err-input_in-clause-read : goal.returns-in-Err-input_in-clause-read
returns-in-Err-input_in-clause-read c =
    err_read object_or_library c.args.name.now _ c.in-Ok.bytes.items c.deref.result.now (c.in-Ok.ensures.opened object_or_library) c.in-Ok.ensures.short c.deref.ensures.value c.in-Err-input_in.why c.told.result c.in-Err-input_in.ensures.read c.told.ensures

pub returns-in-Err-clause-read : goal.returns-in-Err-clause-read
returns-in-Err-clause-read c = c.in-Err.ensures.opened object_or_library
