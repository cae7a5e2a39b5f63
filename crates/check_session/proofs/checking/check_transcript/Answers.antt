use Rattle.std.proofs.Common.{Option, subst}
use Rattle.std.specs.Arc.{arc_value}
use Rattle.load_model.specs.Modules.{Library}
use Rattle.check_model.specs.declared.kinds.CheckFault.{CheckFault}
use Rattle.check_model.specs.Places.{places}
use Rattle.check_core.specs.Judged.{IsJudged}
use Rattle.transcript_whole.specs.Whole.{told_of, Tells}
use Rattle.check_session.specs.Checked.{judge_of}
use Rattle.check_session.proofs.Checks.{refused_by, wrong_only, right_only}
use Rattle.check_session.proofs.checking.check_transcript.Goals as goal

pub returns-in-Some-clause-checked : goal.returns-in-Some-clause-checked
returns-in-Some-clause-checked g c =
    let j = judge_of (arc_value c.args.lib.now) c.args.session.now in
    let t = told_of c.in-Ok.read in
    refused_by j c.args.bytes.now c.in-Some.fault.line c.in-Some.fault.kind t (subst (λ (l : Library). Tells l c.args.bytes.now t) c.deref.ensures c.in-Ok.ensures.read)
    (subst (λ (a : Option CheckFault). IsJudged j t (places t.run c.args.session.now.scripts) a) c.in-Some.is c.in_ok-fault.ensures)

pub returns-in-Some-clause-only : goal.returns-in-Some-clause-only
returns-in-Some-clause-only g c =
    let j = judge_of (arc_value c.args.lib.now) c.args.session.now in
    let t = told_of c.in-Ok.read in
    wrong_only c.first_wrong_is_one.ensures j c.args.bytes.now c.in-Some.fault t (subst (λ (l : Library). Tells l c.args.bytes.now t) c.deref.ensures c.in-Ok.ensures.read)
    (subst (λ (a : Option CheckFault). IsJudged j t (places t.run c.args.session.now.scripts) a) c.in-Some.is c.in_ok-fault.ensures)

pub returns-clause-only : goal.returns-clause-only
returns-clause-only g c =
    let j = judge_of (arc_value c.args.lib.now) c.args.session.now in
    let t = told_of c.in-Ok.read in
    right_only c.first_wrong_is_one.ensures j c.args.bytes.now t (subst (λ (l : Library). Tells l c.args.bytes.now t) c.deref.ensures c.in-Ok.ensures.read)
    (subst (λ (a : Option CheckFault). IsJudged j t (places t.run c.args.session.now.scripts) a) c.in-None.is c.in_ok-fault.ensures)
