use Rattle.std.proofs.Common.{rules, subst, zero-add}
use Rattle.lx_model.specs.Gathering.{IsLibrary}
use Rattle.gen_core.specs.Fixing.{module_words}
use Rattle.gen_core.proofs.FewObjects.{few_objects}
use Rattle.gen_core.proofs.Words.{library_is, total_further}
use Rattle.gen_core.proofs.fixing.sum_of_words.Goals as goal

pub sum_of_module-requires-clause-few : goal.sum_of_module-requires-clause-few
sum_of_module-requires-clause-few g c = few_objects c.args.lib.now c.loop-module.«module» (subst IsLibrary c.library.ensures c.len-module-end.ensures.library) (search rules)

pub loop-module-preserved : goal.loop-module-preserved
loop-module-preserved g c =
    let m = c.loop-module.«module» in
    total_further (module_words c.args.lib.now c.args.bases.now) 0 m m c.loop-module.sum c.in_ok-sum.field-0 (zero-add m) c.loop-module.invariant c.in_ok-sum.ensures

pub returns : goal.returns
returns g c =
    library_is c.args.lib.now c.args.bases.now c.loop-module.«module» c.loop-module.sum c.loop-module.invariant (search rules)
