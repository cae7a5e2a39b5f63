use Rattle.std.proofs.Common.{◌≡◌, Option, subst, sym, arith}
use Rattle.check_model.specs.declared.kinds.CheckFault.{CheckFault}
use Rattle.transcript_whole.specs.declared.following.At.TheVariants as at
use Rattle.transcript_whole.specs.declared.reading.Reading.{Reading}
use Rattle.transcript_whole.specs.Readings.{TakesText, IsTextFault}
use Rattle.transcript_whole.proofs.Apart.{lines_apart}
use Rattle.transcript_whole.proofs.SoFars.{goes, stops, wants_more, not_ended, not_empty}
use Rattle.transcript_whole.proofs.reading.read_lines.Goals.{else-is_empty-via-then-is_empty+else-is_ended, else-is_empty-via-else-is_empty}
use Rattle.transcript_whole.proofs.reading.read_lines.Goals as goal

pub returns-in-None : goal.returns-in-None
returns-in-None c =
    subst (λ (fault : CheckFault). IsTextFault c.args.names.now c.args.bytes.now fault) (sym c.text_fault.ensures)
    (stops c.args.names.now (lines_apart c.args.names.now c.requires) c.args.bytes.now c.loop-cut.left.now c.in-Some.cut.line.now c.in-Some.cut.after.now c.loop-cut.number c.loop-cut.reading
    (omega arith) c.loop-cut.invariant c.in-Some.ensures (subst (λ (o : Option Reading). TakesText c.args.names.now c.loop-cut.reading c.in-Some.cut.line.now o) c.in-None.is c.in_ok-reading.ensures))

pub loop-cut-preserved : goal.loop-cut-preserved
loop-cut-preserved c =
    goes c.args.names.now c.args.bytes.now c.loop-cut.left.now c.in-Some.cut.line.now c.in-Some.cut.after.now c.loop-cut.number c.loop-cut.reading c.in-Some-2.reading
    c.loop-cut.invariant c.in-Some.ensures (subst (λ (o : Option Reading). TakesText c.args.names.now c.loop-cut.reading c.in-Some.cut.line.now o) c.in-Some-2.is c.in_ok-reading.ensures)

pub returns-else-is_empty : goal.returns-else-is_empty
returns-else-is_empty c =
    subst (λ (fault : CheckFault). IsTextFault c.args.names.now c.args.bytes.now fault) (sym c.text_fault-else-is_empty.ensures)
    (wants_more c.args.names.now (lines_apart c.args.names.now c.requires) c.args.bytes.now c.loop-cut.left.now c.loop-cut.number c.loop-cut.reading
    (omega arith) c.loop-cut.invariant c.in_default.ensures
    (elim c.else-is_empty.branch [
      | else-is_empty-via-then-is_empty+else-is_ended w ↦ λ none end. not_ended w.is_ended.result (c.loop-cut.reading.at ≡ at.End) w.is_ended.ensures w.if-is_ended.false end
      | else-is_empty-via-else-is_empty w ↦ λ none end. not_empty c.is_empty.result c.loop-cut.left.now c.is_empty.ensures w.if-is_empty.false none
    ]))
