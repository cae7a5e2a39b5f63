-- A module is reached where a root counts it.
use Rattle.std.proofs.Common.{ap, ◌∙◌, ◌≡◌, get_or}
use Rattle.std.specs.Prelude.{nat_lt}
use Rattle.load_model.specs.ProcessCounts.{ProcessCounts}
use Rattle.mod_refs.proofs.CountLaws.{reaches_by}
use Rattle.mod_refs.proofs.load_counts.LoadCounts.reaches.Goals as goal

pub returns : goal.returns
returns c = λ lib p is.
    let counts : c.deref.result.now ≡ c.args.self.now.reached = c.deref.ensures.0 ∙ ap (λ (counts : ProcessCounts). counts.reached) c.self.view_is in
    ap (λ xs. nat_lt 0 (get_or xs c.args.m 0)) counts ∙ reaches_by lib p c.args.self.now c.args.m is c.requires
