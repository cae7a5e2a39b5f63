use Rattle.std.proofs.Common.{ap, arith, get_or, length, refl, set, sym, ℕ, [], ◌++◌, ◌-◌, ◌∙◌, ◌∷◌, ◌≡◌}
use Rattle.process_view.proofs.Words.{get_or_default, length-map, Mapped, nowhere, page_with, PageId, pages_pushed, placed_with, ProcessView, ReachedResidence, residence_in}
use Rattle.process_view.proofs.Words.{ResidenceFor, residences_in, residences_set, vec_capacity, vec_len, view_of, with_page, with_place}
use Rattle.process_view.proofs.Mapping.{IsKeptAt, kept_at, page_kept}
use Rattle.process_view.specs.declared.view.View.TheInside.{Inside}
use Rattle.process_view.proofs.view.View.keep_page.Goals as goal

own_page : (i : Inside) (v : ProcessView) (k : ℕ) (s : ReachedResidence) (p : PageId) (x : Mapped) → view_of i ≡ v → IsKeptAt i k s p → ((d : ResidenceFor) → x ≡ page_with (get_or v.residences k d) p x.bytes) →
    x ≡ page_with (residence_in s) p x.bytes
own_page i v k s p x e is own =
    own nowhere ∙ ap (λ (w : ProcessView). page_with (get_or w.residences k nowhere) p x.bytes) (sym e) ∙ ap (λ (r : ResidenceFor). page_with r p x.bytes) (is.any nowhere)

pub put-requires-clause-object : goal.put-requires-clause-object
put-requires-clause-object c =
    let is = kept_at c.self.inside c.args.self.now c.args.k c.index_mut-reached.result.now c.args.p c.self.view_is c.self.invariant c.requires.residence c.requires.page c.index_mut-reached.ensures.value in
    omega (arith, is.placed.cover.objects, is.object.0, is.object.1)

pub put-requires-clause-page : goal.put-requires-clause-page
put-requires-clause-page c =
    let is = kept_at c.self.inside c.args.self.now c.args.k c.index_mut-reached.result.now c.args.p c.self.view_is c.self.invariant c.requires.residence c.requires.page c.index_mut-reached.ensures.value in
    omega (arith, is.placed.cover.pages c.args.p.object is.object, is.page)

pub invariant_of-self : goal.invariant_of-self
invariant_of-self c =
    let residences = c.self.inside.residences.items in
    let pages = c.self.inside.pages.items in
    let lib = c.self.inside.lib in
    let s = c.index_mut-reached.result.now in
    let at = c.index_mut-reached.ensures.value in
    let p = c.args.p in
    let r = residence_in s in
    let is = kept_at c.self.inside c.args.self.now c.args.k s p c.self.view_is c.self.invariant c.requires.residence c.requires.page at in
    let bytes = c.args.page.bytes in
    let new = own_page c.self.inside c.args.self.now c.args.k s p c.args.page c.self.view_is is c.requires.own in
    let more : c.push_reserved.new.self.items ≡ pages ++ page_with r p bytes ∷ [] = c.push_reserved.ensures.items ∙ ap (λ (x : Mapped). pages ++ x ∷ []) new in
    let t : ReachedResidence = record { residence = s.residence; places = c.put.new.self } in
    let still : residences_in (set residences c.args.k t) ≡ residences_in residences = residences_set residences c.args.k t (ap residence_in (at ∙ get_or_default residences c.args.k s t is.within)) in
    let long : c.len.result ≡ length pages = c.len.ensures ∙ c.self.inside.pages.ok.0 in
    let rows : t.places ≡ with_place s.places p (length pages) = c.put.ensures ∙ ap (λ (n : ℕ). with_place s.places p n) long in
    let all = placed_with lib pages residences c.args.k s t p bytes c.self.invariant.placed c.self.invariant.apart is.within at refl rows is.object is.page is.none in
    record {
      process = c.self.invariant.process;
      loads = c.self.invariant.loads;
      reached = c.self.invariant.reached;
      placed = rw more all;
      apart = rw still c.self.invariant.apart;
      found = rw still c.self.invariant.found;
      mapped = rw (more, still) (pages_pushed (residences_in residences) pages (page_with r p bytes) c.args.k r c.self.invariant.mapped (omega (arith, is.within, length-map residences residence_in)) (ap (λ (q : ResidenceFor). q.serial) (is.any r)) c.requires.whole is.none);
    }

pub returns : goal.returns
returns c = λ d.
    let w = view_of c.self.inside in
    let residences = c.self.inside.residences.items in
    let pages = c.self.inside.pages.items in
    let lib = c.self.inside.lib in
    let s = c.index_mut-reached.result.now in
    let at = c.index_mut-reached.ensures.value in
    let p = c.args.p in
    let r = residence_in s in
    let is = kept_at c.self.inside c.args.self.now c.args.k s p c.self.view_is c.self.invariant c.requires.residence c.requires.page at in
    let bytes = c.args.page.bytes in
    let new = own_page c.self.inside c.args.self.now c.args.k s p c.args.page c.self.view_is is c.requires.own in
    let more : c.push_reserved.new.self.items ≡ pages ++ page_with r p bytes ∷ [] = c.push_reserved.ensures.items ∙ ap (λ (x : Mapped). pages ++ x ∷ []) new in
    let t : ReachedResidence = record { residence = s.residence; places = c.put.new.self } in
    let still : residences_in (set residences c.args.k t) ≡ residences_in residences = residences_set residences c.args.k t (ap residence_in (at ∙ get_or_default residences c.args.k s t is.within)) in
    let room : vec_capacity c.push_reserved.new.self - vec_len c.push_reserved.new.self ≡ vec_capacity c.self.inside.pages - vec_len c.self.inside.pages - 1 = omega (arith, c.push_reserved.ensures.len, c.push_reserved.ensures.capacity) in
    let made =
    page_kept lib c.self.inside.pid c.self.inside.ended c.self.inside.counts (residences_in residences) (residences_in (set residences c.args.k t)) pages c.push_reserved.new.self.items c.self.inside.front
    (vec_capacity c.self.inside.pages - vec_len c.self.inside.pages) (vec_capacity c.push_reserved.new.self - vec_len c.push_reserved.new.self) (vec_capacity c.self.inside.residences - vec_len c.self.inside.residences) r p
    bytes still more room
    in
    made ∙ ap (λ (q : ResidenceFor). with_page q p bytes w) (sym (is.any d)) ∙ ap (λ (v : ProcessView). with_page (get_or v.residences c.args.k d) p bytes v) c.self.view_is
