use Rattle.session_text.proofs.Parts.{entries-by-halves, told-by}
use Rattle.session_text.proofs.threads.+Printer-entries_in_parts+fn-Printer-entries_in_parts-back+fn-Printer-entries_in_parts-front.Goals as goal

pub returns : goal.returns
returns g t c =
    told-by (λ text. text.items) c.in_order.result _ _
    (entries-by-halves c.args.self.lib.now c.args.self.steady.now c.args.before c.args.entries.now _ _ _ c.split_at.ensures.front c.split_at.ensures.back)
    (c.in_order.ensures _ _ c.join-low.ensures.first c.join-low.ensures.second)
