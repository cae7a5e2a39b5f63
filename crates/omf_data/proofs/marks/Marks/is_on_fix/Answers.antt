use Rattle.std.proofs.Common.{◌≤◌, arith, sym}
use Rattle.omf_data.specs.Ends.{end_in}
use Rattle.omf_data.proofs.Ended.{none-touched}
use Rattle.omf_data.proofs.marks.Marks.is_on_fix.Goals as goal

pub returns-then-end-from-clause-on : goal.returns-then-end-from-clause-on
returns-then-end-from-clause-on c =
    let past : end_in c.args.self.now.ends c.args.seg ≤ c.args.start = omega (arith, c.end.ensures, c.from.ensures, c.if-end-from.true) in
    sym (none-touched c.args.self.now.ends c.args.parts.now.module.fixes c.args.seg c.args.start c.args.len c.requires.marks.ends c.requires.ends past)
