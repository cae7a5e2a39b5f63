use Rattle.std.proofs.Common.{◌≡◌, ◌∙◌, length, sym}
use Rattle.process_view.proofs.Words.{All-push, IsPlaced, length-map, one_more, pages_joined, ReachedResidence, residence_in, residences_in}
use Rattle.process_view.proofs.Mapping.{placed_none, apart_more}
use Rattle.process_view.proofs.view.View.keep_residence.Goals as goal

pub invariant_of-self : goal.invariant_of-self
invariant_of-self c =
    let lib = c.self.inside.lib in
    let residences = c.self.inside.residences.items in
    let pages = c.self.inside.pages.items in
    let r = c.args.residence in
    let s : ReachedResidence = record { residence = c.args.residence; places = c.args.places } in
    let placed = placed_none lib pages s (rw (← c.self.view_is) at c.requires.within) (rw (← c.self.view_is) at c.requires.none) (rw (← c.self.view_is) at c.requires.unmapped) in
    let apart = apart_more residences s c.self.invariant.apart (rw (← c.self.view_is) at c.requires.apart) in
    let number : r.«module» ≡ c.module.result = sym c.module.ensures.number in
    let long : length (residences_in residences) ≡ c.len.result = length-map residences residence_in ∙ sym (c.len.ensures ∙ c.self.inside.residences.ok.0) in
    let found = c.join.ensures r (residences_in residences) number long c.self.invariant.found in
    record {
      process = c.self.invariant.process;
      loads = c.self.invariant.loads;
      reached = c.self.invariant.reached;
      placed = rw c.push_reserved.ensures.items (All-push (IsPlaced lib pages) residences s c.self.invariant.placed placed);
      apart = rw c.push_reserved.ensures.items apart;
      found = rw (c.push_reserved.ensures.items, one_more residences s) found;
      mapped = rw (c.push_reserved.ensures.items, one_more residences s) (pages_joined (residences_in residences) r pages c.self.invariant.mapped);
    }
