-- What has no count is not reached.
use Rattle.std.proofs.Common.{ap, ◌∙◌, ◌≡◌, ◌==◌, filter, get_or}
use Rattle.load_model.specs.ProcessCounts.{ProcessCounts}
use Rattle.mod_refs.proofs.CountLaws.{unreached_by}
use Rattle.mod_refs.proofs.load_counts.LoadCounts.unreached.Goals as goal

pub returns : goal.returns
returns c = λ lib p is.
    let counts : c.as_slice.result.now ≡ c.args.self.now.reached = c.as_slice.ensures.value ∙ ap (λ (counts : ProcessCounts). counts.reached) c.self.view_is in
    c.in_ok-uncounted.ensures ∙ ap (λ xs. filter (λ k. get_or xs k 0 == 0) c.args.order.now) counts ∙ unreached_by lib p c.args.self.now c.args.order.now is c.requires
