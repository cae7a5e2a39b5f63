use Rattle.std.proofs.Common.{refl, arith}
use Rattle.check_core.specs.ToldItems.{line_shown}
use Rattle.check_core.proofs.MergedItems.{filed}
use Rattle.check_core.proofs.lines.file_line.Goals as goal

pub returns-in_ok-push-clause-each : goal.returns-in_ok-push-clause-each
returns-in_ok-push-clause-each c xs all =
    filed (λ v. v.items) line_shown c.args.lists.now.items _ c.args.told.pid c.args.told.number c.args.told.low xs c.args.told.line.now c.args.told c.index_mut.result.now c.push.new.self refl (omega arith) refl
    c.index_mut.ensures.value c.in_ok-push.ensures.items all
