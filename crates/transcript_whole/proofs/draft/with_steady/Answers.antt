use Rattle.std.proofs.Common.{sym, ◌∙◌}
use Rattle.transcript_whole.proofs.Closings.{script_put}
use Rattle.transcript_whole.proofs.draft.with_steady.Goals as goal

pub returns : goal.returns
returns c =
    script_put c.args.steady c.pop.new.self.items c.from_vec-2.result c.in-Some.last c.args.lines
    (sym c.into_vec-scripts.ensures ∙ c.in-Some.ensures.items) (c.from_vec-2.ensures ∙ c.in_ok-push.ensures.items)
