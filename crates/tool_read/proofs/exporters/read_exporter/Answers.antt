use Rattle.std.proofs.Common.{refl}
use Rattle.answer_model.specs.Items.{module_or_definition}
use Rattle.tool_read.specs.Readings.{exporter_item}
use Rattle.tool_read.proofs.Readers.{err_read, ok_read}
use Rattle.tool_read.proofs.exporters.read_exporter.Goals as goal

pub returns-in-Ok-exporter_in-clause-read : goal.returns-in-Ok-exporter_in-clause-read
returns-in-Ok-exporter_in-clause-read c =
    ok_read module_or_definition c.args.name.now _ c.in-Ok.bytes.items c.in-Ok.bytes.items (c.in-Ok.ensures.opened module_or_definition) c.in-Ok.ensures.short refl (exporter_item c.in-Ok-exporter_in.read) c.in-Ok-exporter_in.ensures.read

pub returns-in-Err-exporter_in-clause-read : goal.returns-in-Err-exporter_in-clause-read
returns-in-Err-exporter_in-clause-read c =
    err_read module_or_definition c.args.name.now _ c.in-Ok.bytes.items c.in-Ok.bytes.items (c.in-Ok.ensures.opened module_or_definition) c.in-Ok.ensures.short refl c.in-Err-exporter_in.unread.why c.told.result c.in-Err-exporter_in.ensures.read c.told.ensures

pub returns-in-Err-clause-read : goal.returns-in-Err-clause-read
returns-in-Err-clause-read c = c.in-Err.ensures.opened module_or_definition
