use Rattle.process_view.proofs.Words.{get_or, ProcessView, subst}
use Rattle.process_view.specs.Deeds.{IsFixedIn}
use Rattle.process_view.proofs.view.View.map_taken.Goals as goal

pub map_shared-requires-clause-page : goal.map_shared-requires-clause-page
map_shared-requires-clause-page g c = λ d. rw c.keep_buffer.ensures (c.requires.page d)

pub returns : goal.returns
returns g c = λ d.
    subst (λ (v : ProcessView). IsFixedIn v c.map_shared.new.self (get_or v.residences c.args.k d) c.args.p) c.keep_buffer.ensures (c.map_shared.ensures d)
