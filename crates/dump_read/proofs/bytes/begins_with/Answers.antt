use Rattle.std.proofs.Common.{◌∙◌}
use Rattle.dump_read.proofs.Steps.{front-pointwise}
use Rattle.dump_read.proofs.bytes.begins_with.Goals as goal

pub returns-clause-front : goal.returns-clause-front
returns-clause-front c = c.starts_with.ensures.value ∙ front-pointwise c.args.front.now c.args.bytes.now
