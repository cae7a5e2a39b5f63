use Rattle.process_view.proofs.Words.{arith, no_pages, nothing_yet, []}
use Rattle.process_view.proofs.view.View.leave_all.Goals as goal

pub invariant_of-self : goal.invariant_of-self
invariant_of-self c =
    let p = c.requires.0 in
    let counts = rw (← c.self.view_is) at c.requires.1 in
    let next = c.exit.ensures c.self.inside.lib p (nothing_yet []) counts in
    record {
      process = c.self.invariant.process;
      loads = next.loads_are;
      reached = next.reached_are;
      placed = rw c.clear.ensures.items (λ k d u. absurd (omega (arith, u)));
      apart = rw c.clear.ensures.items (λ i j d u w. absurd (omega (arith, w)));
      found = rw c.clear.ensures.items c.none-self-inside.ensures;
      mapped = rw (c.clear.ensures.items, c.clear-2.ensures.items) (no_pages []);
    }
