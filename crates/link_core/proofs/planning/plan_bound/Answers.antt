use Rattle.std.proofs.Common.{◌≡◌, None, subst}
use Rattle.link_model.specs.declared.refusals.LinkRefusal.TheVariants.{Comdat, Lay}
use Rattle.link_model.specs.Clash.{comdat_refusal}
use Rattle.link_place.proofs.AnswersMapped.{answers-value, answers-map}
use Rattle.link_types.specs.Binding.{IsBound}
use Rattle.link_core.proofs.Assembled.{failed-by, comdat-refused, lay-refused, kept-refused, plan-of-kept}
use Rattle.link_core.proofs.planning.plan_bound.Goals as goal

pub returns-in-Err : goal.returns-in-Err
returns-in-Err c =
    failed-by c.judge.result c.in-Err.fail c.failed_as.result Comdat _ _ _ _ c.failed_as.ensures c.in-Err.is
    (λ e h. comdat-refused c.args.input.now c.args.syms.now e (subst (λ k. IsBound k c.args.syms.now) c.requires.kept c.requires.bound) h) c.judge.ensures

pub returns-in-Err-lay_out : goal.returns-in-Err-lay_out
returns-in-Err-lay_out c =
    let joined : comdat_refusal c.args.input.now c.args.syms.now.chosen ≡ None = answers-value c.judge.result c.in-Ok.field-0 _ _ c.in-Ok.is c.judge.ensures in
    failed-by c.lay_out.result c.in-Err-lay_out.fail c.failed_as-in-Err-lay_out.result Lay _ _ _ _ c.failed_as-in-Err-lay_out.ensures c.in-Err-lay_out.is
    (λ e h. kept-refused c.args.input.now c.args.kept.now c.args.syms.now (Lay e) c.requires.kept c.requires.bound joined (lay-refused c.args.kept.now c.args.syms.now e c.requires.bound h)) c.lay_out.ensures

pub returns-in-Ok-lay_out : goal.returns-in-Ok-lay_out
returns-in-Ok-lay_out c =
    let joined : comdat_refusal c.args.input.now c.args.syms.now.chosen ≡ None = answers-value c.judge.result c.in-Ok.field-0 _ _ c.in-Ok.is c.judge.ensures in
    answers-map c.plan_laid.result _ _ _ _
    (λ p h. plan-of-kept c.args.input.now c.args.kept.now c.args.syms.now p c.requires.kept c.requires.bound joined h)
    (λ r h. kept-refused c.args.input.now c.args.kept.now c.args.syms.now r c.requires.kept c.requires.bound joined h) c.plan_laid.ensures
