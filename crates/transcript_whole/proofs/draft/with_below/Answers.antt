use Rattle.std.proofs.Common.{sym, ◌∙◌}
use Rattle.transcript_whole.proofs.Closings.{entry_put}
use Rattle.transcript_whole.proofs.draft.with_below.Goals as goal

pub returns : goal.returns
returns c =
    entry_put c.args.history c.pop.new.self.items c.push.new.self.items c.in-Some.last c.with_lines-deed.result c.args.fresh c.args.calls c.args.gone
    (sym c.into_vec-entries.ensures ∙ c.in-Some.ensures.items) c.with_lines-deed.ensures c.in_ok-push.ensures.items
