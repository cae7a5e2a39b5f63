use Rattle.std.proofs.Common.{rules, ◌∙◌}
use Rattle.std.proofs.lemmas.List.Sorted.{answers_always}
use Rattle.lx_read.proofs.Ordinals.{searched}
use Rattle.lx_read.proofs.targets.has_entry.Goals as goal

-- the closure gives an entry's ordinal
pub returns : goal.returns
returns c =
    let facts = c.binary_search_by_key.ensures in
    let by_ordinal = facts.position (λ e. e.0) (answers_always _ _ _ (λ f a r g called. search rules)) in
    c.is_ok.ensures.value ∙ searched c.args.entries.now c.requires c.args.ordinal c.binary_search_by_key.result facts.bound by_ordinal
