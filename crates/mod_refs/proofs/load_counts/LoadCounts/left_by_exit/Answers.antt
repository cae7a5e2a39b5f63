-- A process without roots reaches nothing.
use Rattle.std.proofs.Common.{reverse, ap, ◌∙◌}
use Rattle.load_model.specs.ProcessCounts.{ProcessCounts}
use Rattle.mod_refs.proofs.CountLaws.{exited_left}
use Rattle.mod_refs.proofs.load_counts.LoadCounts.left_by_exit.Goals as goal

pub returns : goal.returns
returns c = λ lib p is.
    c.reverse.ensures.items ∙ ap reverse (c.in_ok-left.ensures.items_if_clones_equal (λ x y h. h) ∙ c.as_slice.ensures.value ∙ ap (λ (counts : ProcessCounts). counts.attached) c.self.view_is)
    ∙ exited_left lib p c.args.self.now is
