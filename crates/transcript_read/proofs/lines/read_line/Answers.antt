use Rattle.std.proofs.Common.{refl}
use Rattle.transcript_lines.specs.declared.lines.TranscriptLine.TheVariants as lines
use Rattle.transcript_read.proofs.Chain.{none_told}
use Rattle.transcript_read.proofs.LineLaws.{told_as, no_line}
use Rattle.transcript_read.proofs.lines.read_line.Goals as goal

pub returns-in-Some : goal.returns-in-Some
returns-in-Some c = told_as c.in_ok-number.ensures c.in-Some.field-0 c.in-Some.is c.args.names.now c.args.line.now c.of-words.ensures (lines.Entry c.in-Some.field-0.number c.in-Some.field-0.process c.in-Some.field-0.deed) (λ h. (h.0, h.1, h.2.0, h.2.1)) refl

pub returns-in-Some-2 : goal.returns-in-Some-2
returns-in-Some-2 c = told_as c.in_ok-line.ensures c.in-Some-2.line c.in-Some-2.is c.args.names.now c.args.line.now c.of-words.ensures (lines.Steady c.in-Some-2.line) (λ h. h) refl

pub returns-in-Some-call : goal.returns-in-Some-call
returns-in-Some-call c = told_as c.call.ensures c.in-Some-call.call c.in-Some-call.is c.args.names.now c.args.line.now c.of-words.ensures (lines.Call c.in-Some-call.call) (λ h. h) refl

pub returns-in-Some-3 : goal.returns-in-Some-3
returns-in-Some-3 c = told_as c.in_ok-fresh.ensures c.in-Some-3.fresh c.in-Some-3.is c.args.names.now c.args.line.now c.of-words.ensures (lines.New c.in-Some-3.fresh) (λ h. h) refl

pub returns-in-Some-gone : goal.returns-in-Some-gone
returns-in-Some-gone c = told_as c.gone.ensures c.in-Some-gone.gone c.in-Some-gone.is c.args.names.now c.args.line.now c.of-words.ensures (lines.Gone c.in-Some-gone.gone) (λ h. h) refl

pub returns-in-Some-process : goal.returns-in-Some-process
returns-in-Some-process c = told_as c.process.ensures c.in-Some-process.pid c.in-Some-process.is c.args.names.now c.args.line.now c.of-words.ensures (lines.Process c.in-Some-process.pid) (λ h. h) refl

pub returns-in-Some-summary : goal.returns-in-Some-summary
returns-in-Some-summary c = told_as c.summary.ensures c.in-Some-summary.counts c.in-Some-summary.is c.args.names.now c.args.line.now c.of-words.ensures (lines.Summary c.in-Some-summary.counts) (λ h. h) refl

pub returns : goal.returns
returns c = told_as c.history.ensures tt c.in-Some-history.is c.args.names.now c.args.line.now c.of-words.ensures (lines.History) (λ _. tt) refl

pub returns-in_default-history : goal.returns-in_default-history
returns-in_default-history c =
    no_line c.args.names.now c.args.line.now _ c.of-words.ensures (none_told c.in_ok-number.ensures c.in_default.is) (none_told c.in_ok-line.ensures c.in_default-2.is) c.in_default-call.ensures
    (none_told c.in_ok-fresh.ensures c.in_default-3.is) c.in_default-gone.ensures c.in_default-process.ensures c.in_default-summary.ensures c.in_default-history.ensures
