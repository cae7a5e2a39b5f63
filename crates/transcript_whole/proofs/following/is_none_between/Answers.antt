use Rattle.std.proofs.Common.{not, ap, ◌&&◌, nat_lt, rules, tests}
use Rattle.std.proofs.lemmas.Iterator.{YieldsList-from_slice}
use Rattle.std.proofs.lemmas.Iterator.Search.{any_from_yields_List}
use Rattle.load_model.specs.declared.deeds.Entry.{Entry}
use Rattle.transcript_whole.proofs.following.is_none_between.Goals as goal

pub returns : goal.returns
returns c =
    ap not
    (any_from_yields_List (λ (x : Entry). nat_lt c.args.low x.pid && nat_lt x.pid c.args.high) _ _ c.any.result c.any.ensures.ran (YieldsList-from_slice c.args.history.now c.iter.ensures.rest)
    (λ x b q k. search (rules, tests)))
