use Rattle.std.proofs.Common.{refl, sym, ◌∙◌}
use Rattle.dump_read.proofs.Steps.{filled-list}
use Rattle.dump_read.proofs.EndLaws.{open-last}
use Rattle.dump_read.proofs.reading.is_open.Goals as goal

pub returns : goal.returns
returns c = sym (open-last c.args.bytes.now (filled-list c.args.bytes.now _ refl (sym c.is_empty.ensures ∙ c.if-is_empty.false)))
