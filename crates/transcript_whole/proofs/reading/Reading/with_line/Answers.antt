use Rattle.std.proofs.Common.{subst}
use Rattle.load_model.specs.declared.deeds.Entry.{Entry}
use Rattle.std.proofs.Common.{List}
use Rattle.transcript_whole.specs.Places.{IsNext}
use Rattle.transcript_whole.proofs.Placed.{may_not, takes}
use Rattle.transcript_whole.proofs.reading.Reading.with_line.Goals as goal

pub returns-in_default : goal.returns-in_default
returns-in_default c =
    may_not c.args.self c.args.line c.follow.result
    (subst (λ (h : List Entry). IsNext c.args.self.at h c.args.line c.follow.result) c.as_slice.ensures c.follow.ensures) c.in_default.is

pub returns : goal.returns
returns c =
    takes c.args.self c.args.line c.follow.result c.in-Some.at c.in_ok-draft.draft
    (subst (λ (h : List Entry). IsNext c.args.self.at h c.args.line c.follow.result) c.as_slice.ensures c.follow.ensures) c.in-Some.is c.in_ok-draft.ensures
