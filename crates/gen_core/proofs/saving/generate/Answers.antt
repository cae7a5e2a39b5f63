use Rattle.answer_model.specs.GenAnswer.{GenWords}
use Rattle.gen_core.proofs.MadeFiles.{generated}
use Rattle.gen_core.proofs.saving.generate.Goals as goal

pub returns-clause-does : goal.returns-clause-does
returns-clause-does g c =
    let words : GenWords = record { count = c.args.count; prefix = c.args.prefix.now } in
    generated words c.in_ok-outputs.outputs.items c.in_ok-totals.field-0 c.in_ok-line.line (g.F.Files.state c.args.files.now) (g.F.Files.state c.save_all.new.files) c.save_all.result.said c.in_ok-outputs.ensures c.in_ok-totals.ensures c.in_ok-line.ensures c.save_all.ensures.saves
