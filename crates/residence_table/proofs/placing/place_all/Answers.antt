use Rattle.std.proofs.Common.{◌≡◌, Ok, ap, sym, ◌∙◌, subst}
use Rattle.std.proofs.lemmas.Result.{err_from_is_err_and}
use Rattle.load_model.specs.Entering.{placed_from}
use Rattle.residence_table.proofs.Placed.{ArePlaced, one_placed, all_placed, told_none}
use Rattle.residence_table.proofs.placing.place_all.Goals as goal

pub returns-in_err-bases-clause-answer : goal.returns-in_err-bases-clause-answer
returns-in_err-bases-clause-answer c =
    let p = err_from_is_err_and c.from_residual-in_err-bases.result c.from_residual-in_err-bases.ensures.1 in
    rw (p.1, p.2)
    (told_none c.args.lib.now c.args.serials c.args.occupied c.args.modules.now c.loop-m.m-index c.loop-m.serial c.loop-m.occupied c.loop-m.fresh.items _
    (λ fresh. placed_from c.args.lib.now c.args.serials c.args.occupied c.args.modules.now ≡ Ok fresh) c.in_err-bases.field-0.0 c.loop-m-test.true c.loop-m.invariant c.in_err-bases.ensures)

pub loop-m-preserved : goal.loop-m-preserved
loop-m-preserved c =
    subst (ArePlaced c.args.lib.now c.args.serials c.args.occupied c.args.modules.now _ _ c.place_one.new.occupied) (sym c.in_ok-push.ensures.items)
    (one_placed c.args.lib.now c.args.serials c.args.occupied c.args.modules.now c.loop-m.m-index c.loop-m.serial c.loop-m.occupied c.place_one.new.occupied c.loop-m.fresh.items c.in_ok-bases.bases
    c.loop-m-test.true c.loop-m.invariant c.in_ok-bases.ensures.0 c.in_ok-bases.ensures.1)

pub returns-clause-answer : goal.returns-clause-answer
returns-clause-answer c =
    all_placed c.args.lib.now c.args.serials c.args.occupied c.args.modules.now c.loop-m.m-index c.loop-m.serial c.loop-m.occupied _ c.loop-m-test.false c.loop-m.invariant
    ∙ ap Ok (sym c.from_vec.ensures)
