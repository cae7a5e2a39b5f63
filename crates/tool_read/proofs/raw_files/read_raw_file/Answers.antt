use Rattle.std.proofs.Common.{refl}
use Rattle.answer_model.specs.Items.{raw, raw_file}
use Rattle.tool_read.proofs.Readers.{ok_read}
use Rattle.tool_read.proofs.raw_files.read_raw_file.Goals as goal

pub returns-in-Ok-clause-read : goal.returns-in-Ok-clause-read
returns-in-Ok-clause-read c =
    let bytes = c.in-Ok.bytes.items in
    ok_read raw_file c.args.name.now _ bytes bytes (c.in-Ok.ensures.opened raw_file) c.in-Ok.ensures.short refl (raw bytes) refl

pub returns-in-Err-clause-read : goal.returns-in-Err-clause-read
returns-in-Err-clause-read c = c.in-Err.ensures.opened raw_file
