use Rattle.std.proofs.Common.{length, sym}
use Rattle.std.proofs.lemmas.Bool.{eqb-true}
use Rattle.session_read.proofs.DraftLaws.{reached-none, reached-more, reached-told, reached-all}
use Rattle.session_read.proofs.reading.read_session.Goals as goal

pub loop-left-init : goal.loop-left-init
loop-left-init c = reached-none c.args.bytes.now c.new-draft.result c.new-draft.ensures

pub returns-in-Err : goal.returns-in-Err
returns-in-Err c =
    reached-told c.args.bytes.now c.loop-left.left.now c.first_line-cut.result.after.now c.first_line-cut.result.line.now c.loop-left.number
    c.loop-left.draft c.in-Err.fail c.at_line.result _ _ c.loop-left.invariant c.first_line-cut.ensures.lines c.in-Err.ensures c.at_line.ensures

pub loop-left-preserved : goal.loop-left-preserved
loop-left-preserved c =
    reached-more c.args.bytes.now c.loop-left.left.now c.first_line-cut.result.after.now c.first_line-cut.result.line.now c.loop-left.number
    c.loop-left.draft c.in-Ok.draft c.loop-left.invariant c.first_line-cut.ensures.lines c.first_line-cut.ensures.shorter c.in-Ok.ensures.0 c.in-Ok.ensures.1

pub returns : goal.returns
returns c = reached-all c.args.bytes.now c.loop-left.left.now c.loop-left.number c.loop-left.draft c.in_ok-session.field-0 c.loop-left.invariant
    (eqb-true (length c.loop-left.left.now) 0 (sym c.loop-left-test.ensures)) c.in_ok-session.ensures
