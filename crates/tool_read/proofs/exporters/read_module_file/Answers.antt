use Rattle.std.proofs.Common.{refl}
use Rattle.answer_model.specs.Items.{linked, module_file}
use Rattle.tool_read.proofs.Readers.{err_read, ok_read}
use Rattle.tool_read.proofs.exporters.read_module_file.Goals as goal

pub returns-in-Ok-linked-clause-read : goal.returns-in-Ok-linked-clause-read
returns-in-Ok-linked-clause-read c =
    ok_read module_file c.args.name.now _ c.in-Ok.bytes.items c.in-Ok.bytes.items (c.in-Ok.ensures.opened module_file) c.in-Ok.ensures.short refl (linked c.in-Ok-linked.«module») c.in-Ok-linked.ensures.read

pub returns-in-Err-linked-clause-read : goal.returns-in-Err-linked-clause-read
returns-in-Err-linked-clause-read c =
    err_read module_file c.args.name.now _ c.in-Ok.bytes.items c.in-Ok.bytes.items (c.in-Ok.ensures.opened module_file) c.in-Ok.ensures.short refl c.in-Err-linked.unread.why c.told.result c.in-Err-linked.ensures.read c.told.ensures

pub returns-in-Err-clause-read : goal.returns-in-Err-clause-read
returns-in-Err-clause-read c = c.in-Err.ensures.opened module_file
