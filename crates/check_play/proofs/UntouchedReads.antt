-- Shared bytes that a process reads whose pages it has not touched.
use Rattle.std.proofs.Common.{◌≡◌, ℕ, ◌+◌, ◌<◌, ◌≤◌, ◌==◌, ◌&&◌, ◌||◌, Bool, true, false, List, [], ◌∷◌, ◌++◌, length, get_or, refl, sym, ◌∙◌, ap, subst, arith, eq-eqb, eqb-true}
use Rattle.std.proofs.lemmas.Bool.{eqb-false}
use Rattle.std.proofs.lemmas.List.{get_or_default, map-append}
use Rattle.std.proofs.lemmas.List.Folds.{list_any-append}
use Rattle.lx_types.specs.declared.object.PageId.{PageId}
use Rattle.lx_model.specs.ModuleBytes.{fixed_page}
use Rattle.page_frames.specs.Residences.{ResidenceFor}
use Rattle.load_model.specs.declared.deeds.Deed.TheVariants as deeds
use Rattle.load_model.specs.Modules.{Library}
use Rattle.load_model.specs.State.{PageOf, Eager}
use Rattle.load_model.specs.Memory.{is_page, page}
use Rattle.load_model.specs.Asks.{after_deed}
use Rattle.load_model.specs.Histories.{has_fault}
use Rattle.load_model.specs.TouchedPages.{has_page}
use Rattle.load_model.specs.Views.{Mapped, Holding, mapped_pages}
use Rattle.load_model.proofs.Bools.{or_true}
use Rattle.load_model.proofs.Growing.{one_more_is_after}
use Rattle.load_core.specs.BoardState.{BoardState, IsLegal, state_of, with_entry}
use Rattle.process_pages.specs.ReachedResidences.{page_with}
use Rattle.process_view.specs.ProcessViews.{ProcessView, StandsAt, at_front, without_room}
use Rattle.process_view.specs.Deeds.{CanMap, IsSharedPage, IsFixedIn, with_page, fault_of}
use Rattle.process_view.specs.PageLaws.{PagesStand}
use Rattle.process_view.proofs.Words.{nowhere}
use Rattle.check_play.specs.Standing.{StandsShown}
use Rattle.check_play.specs.Mapping.{residence_at}
use Rattle.check_play.specs.Taking.{TookFault}
use Rattle.check_play.specs.Untouched.{IsSameState, IsMappedSo}
use Rattle.check_play.proofs.PlayedEntries.{shown_all}

-- ---- the same state

pub nothing_done : (b : BoardState) (v : ProcessView) → StandsShown b v → IsSameState b b v v
nothing_done b v stands = record {
  board = refl;
  state = refl;
  stands = stands;
  library = refl;
  residences = refl;
  holding = refl;
  mapped = λ serial p there. there;
}

pub same_after : (b c d : BoardState) (u v w : ProcessView) → IsSameState b c u v → IsSameState c d v w → IsSameState b d u w
same_after b c d u v w first second = record {
  board = second.board ∙ first.board;
  state = second.state ∙ first.state;
  stands = second.stands;
  library = second.library ∙ first.library;
  residences = second.residences ∙ first.residences;
  holding = second.holding ∙ ap (λ (h : Holding). record h { mapped = w.holding.mapped; front = w.holding.front }) first.holding;
  mapped = λ serial p there. second.mapped serial p (first.mapped serial p there);
}

-- ---- one page more

has_itself : (r : ResidenceFor) (p : PageId) → ((r.serial == r.serial) && is_page p p) ≡ true
has_itself r p =
    ap (λ b. b && is_page p p) (eq-eqb r.serial r.serial refl)
    ∙ (ap (λ b. b && (p.page == p.page)) (eq-eqb p.object p.object refl) ∙ eq-eqb p.page p.page refl)

pages_more : (v : ProcessView) (r : ResidenceFor) (p : PageId) (bytes : List ℕ) (serial : ℕ) (q : PageId) →
    has_page (mapped_pages (with_page r p bytes v).holding) serial q ≡ has_page (mapped_pages v.holding) serial q || (((r.serial == serial) && is_page p q) || false)
pages_more v r p bytes serial q =
    ap (λ (ts : List PageOf). has_page ts serial q) (map-append (λ (m : Mapped). m.of) v.holding.mapped (page_with r p bytes ∷ []))
    ∙ list_any-append (λ (t : PageOf). (t.serial == serial) && is_page t.page q) (mapped_pages v.holding) (record { serial = r.serial; page = p } ∷ [])

-- the view with a page more, in room or not, shown so many entries
module _ (v w : ProcessView) (n : ℕ) (r : ResidenceFor) (p : PageId) (bytes : List ℕ) (bare : without_room w ≡ without_room (with_page r p bytes (at_front n v))) where
  held : w.holding ≡ (with_page r p bytes (at_front n v)).holding
  held = ap (λ (x : ProcessView). x.holding) bare

  one_page_more : (b c : BoardState) → c.library ≡ b.library → state_of c ≡ state_of b → StandsShown c w → IsMappedSo b c v w r p
  one_page_more b c library state stands =
      let u : ProcessView = with_page r p bytes (at_front n v) in
      record {
        same = record {
          board = library;
          state = state;
          stands = stands;
          library = ap (λ (x : ProcessView). x.library) bare;
          residences = ap (λ (x : ProcessView). x.residences) bare;
          holding = held ∙ sym (ap (λ (h : Holding). record v.holding { mapped = h.mapped; front = h.front }) held);
          mapped = λ serial q there.
              ap (λ (h : Holding). has_page (mapped_pages h) serial q) held
              ∙ (pages_more (at_front n v) r p bytes serial q ∙ ap (λ b. b || (((r.serial == serial) && is_page p q) || false)) there);
        };
        there =
            ap (λ (h : Holding). has_page (mapped_pages h) r.serial p) held
            ∙ (pages_more (at_front n v) r p bytes r.serial p
            ∙ (ap (λ b. has_page (mapped_pages v.holding) r.serial p || (b || false)) (has_itself r p) ∙ or_true (has_page (mapped_pages v.holding) r.serial p)));
      }

-- after a fault the state is the same
after_fault : (lib : Library) (e : Eager) (pid serial m : ℕ) (p : PageId) → after_deed lib e pid (deeds.Fault serial m p) ≡ e
unfolding after_deed
after_fault lib e pid serial m p = refl

faulted_state : (b c : BoardState) (v : ProcessView) (r : ResidenceFor) (p : PageId) → c ≡ with_entry b (fault_of v r p) → state_of c ≡ state_of b
faulted_state b c v r p is =
    ap state_of is ∙ (one_more_is_after b.library b.failing b.history (fault_of v r p) ∙ after_fault b.library (state_of b) v.holding.pid r.serial r.«module» p)

pub fault_mapped : (b c : BoardState) (v w : ProcessView) (r : ResidenceFor) (p : PageId) → TookFault b c v w r p → IsMappedSo b c v w r p
fault_mapped b c v w r p took =
    one_page_more v w (length c.history) r p (fixed_page v.library r.«module» r.bases p) took.view b c
    (ap (λ (y : BoardState). y.library) took.board) (faulted_state b c v r p took.board) (shown_all c w took.stands)

-- ---- a page that had its fault

module _ (b : BoardState) (v w : ProcessView) (k : ℕ) (p : PageId) (bare : without_room w ≡ without_room (at_front (length b.history) v)) where
  same_residence : (d : ResidenceFor) → residence_at w k d ≡ residence_at v k d
  same_residence d = ap (λ (x : ProcessView). residence_at x k d) bare

  pub residence_later : k < length v.residences → k < length w.residences
  residence_later within = subst (λ (x : ProcessView). k < length x.residences) (sym bare) within

  pub can_later : ((d : ResidenceFor) → CanMap v (residence_at v k d) p) → (d : ResidenceFor) → CanMap w (residence_at w k d) p
  can_later all d =
      let it = all d in
      let there : CanMap (without_room w) (residence_at w k d) p =
      subst (λ (x : ProcessView). CanMap x (residence_at x k d) p) (sym bare) (record { object = it.object; page = it.page; small = it.small; apart = it.apart; library = it.library }) in
      record { object = there.object; page = there.page; small = there.small; apart = there.apart; library = there.library }

  pub shared_later : ((d : ResidenceFor) → IsSharedPage v (residence_at v k d) p) → (d : ResidenceFor) → IsSharedPage w (residence_at w k d) p
  shared_later all d = subst (λ (x : ProcessView). IsSharedPage x (residence_at x k d) p) (sym bare) (all d)

  had_there : (d : ResidenceFor) → has_fault b.history (residence_at v k d).serial p ≡ true → has_fault b.history (residence_at w k d).serial p ≡ true
  had_there d had = ap (λ (r : ResidenceFor). has_fault b.history r.serial p) (same_residence d) ∙ had

  pub taken_mapped : PagesStand → (z : ProcessView) (d : ResidenceFor) → IsLegal b → StandsAt b w → k < length v.residences → ((e : ResidenceFor) → CanMap v (residence_at v k e) p) →
      has_fault b.history (residence_at v k d).serial p ≡ true → IsFixedIn w z (residence_at w k d) p → IsMappedSo b b v z (residence_at v k d) p
  taken_mapped stand z d legal stands within can had fixed =
      let r : ResidenceFor = residence_at w k d in
      let inside : k < length w.residences = residence_later within in
      let bytes : List ℕ = fixed_page w.library r.«module» r.bases p in
      let later : StandsAt b (with_page r p bytes w) = stand b w k r p legal stands inside (get_or_default w.residences k d r inside) (can_later can d) (λ other. had_there d had) in
      let shown : StandsShown b z = shown_all b z (subst (StandsAt b) (sym fixed) later) in
      let same : without_room z ≡ without_room (with_page r p bytes (at_front (length b.history) v)) =
      ap without_room fixed ∙ ap (λ (x : ProcessView). record x { holding = record x.holding { mapped = x.holding.mapped ++ page_with r p bytes ∷ [] } }) bare in
      subst (λ (x : ResidenceFor). IsMappedSo b b v z x p) (same_residence d) (one_page_more v z (length b.history) r p bytes same b b refl refl shown)

-- ---- one page after the other

-- the pages of an object from the first up to a number are mapped
pub record IsMappedUpTo (b c : BoardState) (v w : ProcessView) (k object first number : ℕ) : Type 0 where
  pub same : IsSameState b c v w
  pub there : (d : ResidenceFor) (n : ℕ) → first ≤ n → n < number → has_page (mapped_pages w.holding) (residence_at v k d).serial (page object n) ≡ true

pub none_yet : (b : BoardState) (v : ProcessView) (k object first : ℕ) → StandsShown b v → IsMappedUpTo b b v v k object first first
none_yet b v k object first stands = record { same = nothing_done b v stands; there = λ d n low high. absurd (omega arith) }

pub one_further : (b c e : BoardState) (v w x : ProcessView) (k object first number : ℕ) → IsMappedUpTo b c v w k object first number →
    ((d : ResidenceFor) → IsMappedSo c e w x (residence_at w k d) (page object number)) → IsMappedUpTo b e v x k object first (number + 1)
one_further b c e v w x k object first number before next = record {
  same = same_after b c e v w x before.same (next nowhere).same;
  there = λ d n low high. each d n low high (n == number) refl;
}
  where
    each : (d : ResidenceFor) (n : ℕ) → first ≤ n → n < number + 1 → (t : Bool) → (n == number) ≡ t → has_page (mapped_pages x.holding) (residence_at v k d).serial (page object n) ≡ true
    each d n low high true is =
        let same : n ≡ number = eqb-true n number is in
        let here : residence_at w k d ≡ residence_at v k d = ap (λ (rs : List ResidenceFor). get_or rs k d) before.same.residences in
        ap (λ (i : ℕ). has_page (mapped_pages x.holding) (residence_at v k d).serial (page object i)) same
        ∙ (ap (λ (r : ResidenceFor). has_page (mapped_pages x.holding) r.serial (page object number)) (sym here) ∙ (next d).there)
    each d n low high false is =
        let other : n ≡ number → ⊥ = eqb-false n number is in
        (next d).same.mapped (residence_at v k d).serial (page object n) (before.there d n low (omega arith))

pub was_there : (b : BoardState) (v : ProcessView) (r : ResidenceFor) (p : PageId) → StandsShown b v → has_page (mapped_pages v.holding) r.serial p ≡ true → IsMappedSo b b v v r p
was_there b v r p stands there = record { same = nothing_done b v stands; there = there }
