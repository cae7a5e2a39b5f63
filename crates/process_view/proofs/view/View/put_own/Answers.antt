use Rattle.std.proofs.Common.{◌≡◌, ◌-◌, ◌++◌, ◌∙◌, List, map, length, take, drop, sym, ap}
use Rattle.process_view.proofs.Words.{get_or, length-map, Mapped, pages_written, placed_written, ProcessView, residence_in, ResidenceFor, residences_in, take_at}
use Rattle.process_view.proofs.Words.{vec_capacity, vec_len, view_of, with_write, written_over}
use Rattle.process_view.proofs.Mapping.{put_at, view_made}
use Rattle.process_view.proofs.view.View.put_own.Goals as goal

pub put_covered-requires-clause-pages : goal.put_covered-requires-clause-pages
put_covered-requires-clause-pages c = (residences_in c.self.inside.residences.items, rw c.as_mut_slice.ensures.value c.self.invariant.mapped)

pub put_covered-requires-clause-found : goal.put_covered-requires-clause-found
put_covered-requires-clause-found c =
    rw c.as_mut_slice.ensures.value (put_at c.self.inside c.args.self.now c.args.k c.index.result.now c.requires.used.0 c.args.place.now c.self.view_is c.self.invariant c.requires.named c.requires.used.1 c.index.ensures).found

pub invariant_of-self : goal.invariant_of-self
invariant_of-self c =
    let pages = c.self.inside.pages in
    let residences = c.self.inside.residences.items in
    let w = c.args.write.now in
    let serial = (residence_in c.index.result.now).serial in
    let ws = c.put_covered.new.pages in
    let put : ws ≡ map (written_over serial w) pages.items = c.put_covered.ensures ∙ ap (map (written_over serial w)) c.as_mut_slice.ensures.value in
    let long : length ws ≡ pages.len = ap (λ (ps : List Mapped). length ps) put ∙ length-map pages.items (written_over serial w) ∙ sym pages.ok.0 in
    let items : take pages.len (ws ++ drop (length ws) pages.items) ≡ map (written_over serial w) pages.items = take_at ws (drop (length ws) pages.items) pages.len long ∙ put in
    record {
      process = c.self.invariant.process;
      loads = c.self.invariant.loads;
      reached = c.self.invariant.reached;
      placed = rw items (placed_written c.self.inside.lib pages.items serial w residences c.self.invariant.placed);
      apart = c.self.invariant.apart;
      found = c.self.invariant.found;
      mapped = rw items (pages_written (residences_in residences) pages.items serial w c.self.invariant.mapped);
    }

pub returns : goal.returns
returns c = λ d.
    let i = c.self.inside in
    let pages = i.pages in
    let w = c.args.write.now in
    let serial = (residence_in c.index.result.now).serial in
    let ws = c.put_covered.new.pages in
    let put : ws ≡ map (written_over serial w) pages.items = c.put_covered.ensures ∙ ap (map (written_over serial w)) c.as_mut_slice.ensures.value in
    let long : length ws ≡ pages.len = ap (λ (ps : List Mapped). length ps) put ∙ length-map pages.items (written_over serial w) ∙ sym pages.ok.0 in
    let items : take pages.len (ws ++ drop (length ws) pages.items) ≡ map (written_over serial w) pages.items = take_at ws (drop (length ws) pages.items) pages.len long ∙ put in
    let is = put_at i c.args.self.now c.args.k c.index.result.now c.requires.used.0 c.args.place.now c.self.view_is c.self.invariant c.requires.named c.requires.used.1 c.index.ensures in
    ap (λ (ps : List Mapped). view_made i.lib i.pid i.ended i.counts (residences_in i.residences.items) ps i.front (vec_capacity pages - vec_len pages) (vec_capacity i.residences - vec_len i.residences)) items
    ∙ ap (λ (r : ResidenceFor). with_write r.serial w (view_of i)) (sym (is.any d)) ∙ ap (λ (v : ProcessView). with_write (get_or v.residences c.args.k d).serial w v) c.self.view_is
