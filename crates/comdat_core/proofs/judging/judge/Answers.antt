use Rattle.std.proofs.Common.{◌∙◌, ap, sym, subst, option_copied}
use Rattle.link_model.specs.Clash.{all_modules, comdat_refusal}
use Rattle.comdat_core.specs.ModuleData.{HasData}
use Rattle.comdat_core.proofs.Clashes.{clash_from_begin, refused_at, passed_at, absent_at, as_refused}
use Rattle.comdat_core.proofs.KeptData.{none_kept}
use Rattle.comdat_core.proofs.ModulesOfFirsts.{taken_at}
use Rattle.comdat_core.proofs.judging.judge.Goals as goal
use Rattle.comdat_core.proofs.judging.judge.Goals.{in-Some+in_ok-place_of+in_ok-count+in-Ok, in_default}

pub loop-index-init : goal.loop-index-init
loop-index-init c = (clash_from_begin c.args.input.now c.chosen-picks.result.now, none_kept (all_modules c.args.input.now) c.new-kept.result c.new-kept.ensures.empty)

pub returns-in-Err : goal.returns-in-Err
returns-in-Err c =
    as_refused c.in-Err.fail _ _ _ _
    (λ r clash. ap (comdat_refusal c.args.input.now) (sym c.chosen-picks.ensures)
    ∙ refused_at c.args.input.now c.chosen-picks.result.now c.args.out.now c.loop-index.index c.in_ok-count.field-0 _ c.in-Some.taken.now c.as_slice.result.now c.requires c.loop-index-test.true c.loop-index.invariant.0
    c.in-Some.ensures c.in_ok-count.ensures c.as_slice.ensures.value r clash)
    (c.in-Err.ensures c.args.input.now c.chosen-picks.result.now c.in_ok-numbers.ensures c.loop-index.invariant.1
    (taken_at c.args.input.now c.args.out.now _ c.in_ok-place_of.field-0 c.in-Some.taken.now c.as_slice.result.now c.requires c.in_ok-place_of.ensures c.in-Some.ensures c.as_slice.ensures.value))

pub loop-index-preserved : goal.loop-index-preserved
loop-index-preserved c =
    elim c.match-taken_at.branch [
      | in-Some+in_ok-place_of+in_ok-count+in-Ok w ↦
          let done = w.in-Ok.ensures c.args.input.now c.chosen-picks.result.now c.in_ok-numbers.ensures c.loop-index.invariant.1
          (taken_at c.args.input.now c.args.out.now _ w.in_ok-place_of.field-0 w.in-Some.taken.now w.as_slice.result.now c.requires w.in_ok-place_of.ensures w.in-Some.ensures w.as_slice.ensures.value) in (
            passed_at c.args.input.now c.chosen-picks.result.now c.args.out.now c.loop-index.index w.in_ok-count.field-0 _ w.in-Some.taken.now w.as_slice.result.now c.requires c.loop-index-test.true c.loop-index.invariant.0
                w.in-Some.ensures w.in_ok-count.ensures w.as_slice.ensures.value done.0,
            subst (HasData (all_modules c.args.input.now)) (sym w.kept-is) done.1,
          )
      | in_default w ↦ (
        absent_at c.args.input.now c.chosen-picks.result.now c.args.out.now c.loop-index.index _ c.requires c.loop-index-test.true c.loop-index.invariant.0 (ap option_copied (sym w.in_default.is) ∙ c.taken_at.ensures),
        subst (HasData (all_modules c.args.input.now)) (sym w.kept-is) c.loop-index.invariant.1,
      )
    ]
