use Rattle.answer_model.specs.Items.{resources, resource_file}
use Rattle.tool_read.proofs.Readers.{err_read, ok_read}
use Rattle.tool_read.proofs.resources.read_resource_file.Goals as goal

pub returns-in-Ok-items_in-clause-read : goal.returns-in-Ok-items_in-clause-read
returns-in-Ok-items_in-clause-read c =
    ok_read resource_file c.args.name.now _ c.in-Ok.bytes.items c.deref.result.now (c.in-Ok.ensures.opened resource_file) c.in-Ok.ensures.short c.deref.ensures.value (resources c.in-Ok-items_in.items) c.in-Ok-items_in.ensures.read

pub returns-in-Err-items_in-clause-read : goal.returns-in-Err-items_in-clause-read
returns-in-Err-items_in-clause-read c =
    err_read resource_file c.args.name.now _ c.in-Ok.bytes.items c.deref.result.now (c.in-Ok.ensures.opened resource_file) c.in-Ok.ensures.short c.deref.ensures.value c.in-Err-items_in.why c.told.result c.in-Err-items_in.ensures.read c.told.ensures

pub returns-in-Err-clause-read : goal.returns-in-Err-clause-read
returns-in-Err-clause-read c = c.in-Err.ensures.opened resource_file
