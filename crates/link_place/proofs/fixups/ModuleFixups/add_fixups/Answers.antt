use Rattle.std.proofs.Common.{◌≡◌, ◌<◌, arith, length, map, subst, ℕ, List}
use Rattle.std.proofs.lemmas.Result.{err_from_is_err_and}
use Rattle.obj_types.specs.declared.object.FixAt.{FixAt}
use Rattle.link_fix.specs.Shown.{shown}
use Rattle.link_place.proofs.AnswersMapped.{failed_by}
use Rattle.link_place.proofs.Judging.{fix-refused, fix-step}
use Rattle.link_place.proofs.fixups.ModuleFixups.add_fixups.Goals as goal

pub fixes-preserved : goal.fixes-preserved
fixes-preserved c =
    let i : ℕ = c.fixes.next in
    let fixes : List FixAt = c.args.self.now.object.now.fixes in
    let lent : c.as_slice-fixes.result.now ≡ fixes = c.as_slice-fixes.ensures in
    let below : i < length fixes = subst (λ (fs : List FixAt). i < length fs) lent c.fixes-test.true in
    let step = fix-step c.args.self.now.places.now c.args.self.now.syms.now c.args.self.now.number c.args.self.now.object.now c.standing_of-standing.result c.as_slice-fixes.result.now i _ lent (c.standing_of-standing.ensures c.args.self.now.object.now c.requires) below
    (map shown c.args.found.now.items) (map shown c.fixes.found.items) (map shown c.add_fixup.new.found.items) c.fixes.invariant.found c.fixes.invariant.judged c.in_ok-add_fixup.ensures.0 c.in_ok-add_fixup.ensures.1 in
    record { within = omega (arith, below); found = step.0; judged = step.1 }

pub returns-in_err-add_fixup : goal.returns-in_err-add_fixup
returns-in_err-add_fixup c =
    let i : ℕ = c.fixes.next in
    let fixes : List FixAt = c.args.self.now.object.now.fixes in
    let lent : c.as_slice-fixes.result.now ≡ fixes = c.as_slice-fixes.ensures in
    let below : i < length fixes = subst (λ (fs : List FixAt). i < length fs) lent c.fixes-test.true in
    let e = err_from_is_err_and c.from_residual.result c.from_residual.ensures.1 in
    rw (e.1, e.2)
    (failed_by c.in_err-add_fixup.field-0.0 _ _ _ _
    (λ refusal told. fix-refused c.args.self.now.places.now c.args.self.now.syms.now c.args.self.now.number c.args.self.now.object.now c.standing_of-standing.result c.as_slice-fixes.result.now i _ lent
    (c.standing_of-standing.ensures c.args.self.now.object.now c.requires) below refusal c.fixes.invariant.judged told) c.in_err-add_fixup.ensures)
