use Rattle.std.proofs.Common.{length}
use Rattle.transcript_lines.specs.declared.lines.TranscriptLine.TheVariants as lines
use Rattle.transcript_whole.specs.declared.following.At.TheVariants as at
use Rattle.transcript_whole.proofs.Placed.{seen_as}
use Rattle.transcript_whole.proofs.following.among_entries.Goals as goal

pub returns-in-Process : goal.returns-in-Process
returns-in-Process c named are_named _ =
    seen_as (at.Entries c.args.below) (length c.args.history.now) named c.args.line.now (lines.Process c.in-Process.pid) c.after_heading.result c.in-Process.is
    (c.after_heading.ensures (length c.args.history.now) named are_named)

pub returns-in-Summary : goal.returns-in-Summary
returns-in-Summary c named are_named _ =
    seen_as (at.Entries c.args.below) (length c.args.history.now) named c.args.line.now (lines.Summary c.in-Summary.field-0) c.after_summary.result c.in-Summary.is
    (c.after_summary.ensures (length c.args.history.now) named are_named)
