use Rattle.std.proofs.Common.{◌+◌}
use Rattle.res_bind.proofs.Written.{set_is}
use Rattle.res_bind.proofs.fields.set.Goals as goal

pub returns : goal.returns
returns c = set_is (c.args.header + c.args.offset) c.args.value c.args.file.now c.write_u32.new.buf c.write_u32.ensures
