use Rattle.process_pages.proofs.Words.{filter_same, rules}
use Rattle.process_pages.proofs.freeing.keep_reached.Goals as goal

pub returns : goal.returns
returns c = λ lib p row. filter_same _ _ _ (λ x b f' k. search rules) _ _ c.retain.ensures.filtered
