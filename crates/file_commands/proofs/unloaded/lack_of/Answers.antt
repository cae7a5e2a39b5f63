use Rattle.std.proofs.Common.{length}
use Rattle.memory_core.proofs.More.{some_by}
use Rattle.file_commands.proofs.unloaded.lack_of.Goals as goal

pub health-requires : goal.health-requires
health-requires c = some_by c.is_empty.result (length c.args.library.now) c.is_empty.ensures c.if-is_empty.false
