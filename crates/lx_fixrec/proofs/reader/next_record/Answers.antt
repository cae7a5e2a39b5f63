use Rattle.std.proofs.Common.{◌≡◌, ◌∙◌, length, arith}
use Rattle.lx_fixrec.specs.Sources.{record_fixes}
use Rattle.lx_fixrec.specs.Reads.{refusal}
use Rattle.lx_fixrec.proofs.Steps.{some_left, first_found, none_found, end_at, shorter, found_said, items_end, end_end, items_fault, end_fault}
use Rattle.lx_fixrec.proofs.reader.next_record.Goals as goal

pub returns-in_err-record : goal.returns-in_err-record
returns-in_err-record c =
    let f = c.in_err-record.field-0.0 in
    let old = c.loop-fields.fields in
    let some = some_left (length old.left) c.left.result c.left.ensures c.loop-fields-test.true in
    let is = c.in_err-record.ensures.read in
    found_said c.from_residual.result c.args.fields.now c.record_at.new.fields f c.from_residual.ensures.1 (c.loop-fields.invariant.items ∙ items_fault old (refusal f) some is) (c.loop-fields.invariant.end ∙ end_fault old (refusal f) some is)

pub returns-in-Some : goal.returns-in-Some
returns-in-Some c =
    let old = c.loop-fields.fields in
    let some = some_left (length old.left) c.left.result c.left.ensures c.loop-fields-test.true in
    let r = c.in_ok-record.record in
    let is = c.in_ok-record.ensures.read in (
      first_found c.args.fields.now old c.record_at.new.fields c.at-at.result c.in-Some.fix (record_fixes r) (record_fixes c.next_fix.new.current) c.loop-fields.invariant.items some is c.in-Some.ensures.0 c.at-at.ensures,
      c.loop-fields.invariant.end ∙ end_at old c.record_at.new.fields (record_fixes r) some is,
      c.in-Some.ensures.1,
    )

pub loop-fields-smaller : goal.loop-fields-smaller
loop-fields-smaller c = shorter c.loop-fields.fields c.record_at.new.fields _ c.in_ok-record.ensures.read

pub loop-fields-preserved : goal.loop-fields-preserved
loop-fields-preserved c =
    let old = c.loop-fields.fields in
    let some = some_left (length old.left) c.left.result c.left.ensures c.loop-fields-test.true in
    let r = c.in_ok-record.record in
    let is = c.in_ok-record.ensures.read in
    record {
      items = none_found c.args.fields.now old c.record_at.new.fields (record_fixes r) c.loop-fields.invariant.items some is c.in_default.ensures.0;
      end = c.loop-fields.invariant.end ∙ end_at old c.record_at.new.fields (record_fixes r) some is;
    }

pub returns : goal.returns
returns c =
    let old = c.loop-fields.fields in
    let none : length old.left ≡ 0 = (let test = c.loop-fields-test.false in let count = c.left.ensures in omega (arith, test, count)) in
    (c.loop-fields.invariant.items ∙ items_end old none, c.loop-fields.invariant.end ∙ end_end old none, none)
