use Rattle.std.proofs.Common.{◌==◌, rules, tests, sym, ◌∙◌}
use Rattle.std.proofs.lemmas.Iterator.{YieldsList-from_slice}
use Rattle.std.proofs.lemmas.Iterator.Search.{any_from_yields_List}
use Rattle.lx_types.proofs.Lists.{any_map}
use Rattle.load_model.specs.declared.deeds.Fresh.{Fresh}
use Rattle.residence_table.proofs.calls.is_new.Goals as goal

pub returns : goal.returns
returns c =
    any_from_yields_List (λ (f : Fresh). f.«module» == c.args.m) _ _ _ c.any.ensures.ran (YieldsList-from_slice c.args.fresh.now c.iter.ensures.rest) (λ x b q k. search (rules, tests))
    ∙ sym (any_map (λ other. other == c.args.m) (λ (f : Fresh). f.«module») c.args.fresh.now)
