use Rattle.process_view.proofs.Words.{ap, has_page, is_some, mapped_as_placed, mapped_pages, Option, ResidenceFor, sym, ℕ, ◌∙◌}
use Rattle.process_view.proofs.view.View.is_mapped.Goals as goal

pub returns : goal.returns
returns c = λ d.
    let v = c.args.self.now in
    let s = c.reached_at.result.now in
    let p = c.args.p in
    let is = c.reached_at.ensures.is d in
    c.is_some.ensures ∙ ap (λ (o : Option ℕ). is_some o) c.get.ensures
    ∙ sym (mapped_as_placed v.library v.holding.mapped s p c.reached_at.ensures.placed (rw is at (c.requires.object d)) (rw is at (c.requires.page d)))
    ∙ ap (λ (r : ResidenceFor). has_page (mapped_pages v.holding) r.serial p) (sym is)
