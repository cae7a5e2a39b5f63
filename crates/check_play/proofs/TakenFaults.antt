-- A page that is claimed, from the room for it to the page that is mapped.
use Rattle.std.proofs.Common.{◌≡◌, ℕ, ◌<◌, ◌==◌, ◌&&◌, ◌||◌, Bool, true, false, List, [], ◌∷◌, ◌++◌, length, get_or, refl, sym, ◌∙◌, ap, subst, eq-eqb}
use Rattle.std.proofs.lemmas.List.{get_or_default, map-append}
use Rattle.std.proofs.lemmas.List.Folds.{list_any-append}
use Rattle.lx_types.specs.declared.object.PageId.{PageId}
use Rattle.lx_model.specs.ModuleBytes.{fixed_page}
use Rattle.page_fix.specs.Rights.{PageRight}
use Rattle.page_frames.specs.Residences.{ResidenceFor}
use Rattle.load_model.specs.declared.deeds.Deed.TheVariants as deeds
use Rattle.load_model.specs.declared.deeds.Entry.{Entry}
use Rattle.load_model.specs.Modules.{fixed_bytes}
use Rattle.load_model.specs.Memory.{is_page}
use Rattle.load_model.specs.Histories.{state_after, is_fault_of, has_fault}
use Rattle.load_model.specs.Laws.{OneMoreIsLegal}
use Rattle.load_model.specs.Views.{Mapped, mapped_pages}
use Rattle.process_pages.specs.ReachedResidences.{page_with}
use Rattle.load_core.specs.BoardState.{BoardState, IsLegal, with_entry}
use Rattle.load_core.specs.declared.answers.Claim.{Claim}
use Rattle.load_core.specs.declared.answers.Claim.TheVariants as claims
use Rattle.process_view.specs.ProcessViews.{ProcessView, StandsAt, without_room, at_front}
use Rattle.process_view.specs.Deeds.{CanMap, IsFixedIn, IsClaimedIn, with_page, fault_of}
use Rattle.process_view.specs.PageLaws.{PagesStand}
use Rattle.standing_serials.specs.Standing.{AreSerialsOf}
use Rattle.check_play.specs.declared.standing.Standing.{Standing}
use Rattle.check_play.specs.declared.faults.ResidencePage.{ResidencePage}
use Rattle.check_play.specs.Standing.{IsStanding, StoodBefore, StandsShown}
use Rattle.check_play.specs.FaultTouches.{residence_fault, IsFaultMade}
use Rattle.check_play.specs.Taking.{TookFault, HadFault, IsFaultTaken}

-- ---- a view with other room, which was shown so much

abbrev pub roomy : ℕ → ProcessView → ProcessView
roomy room v = record v { page_room = room }

abbrev pub shown_roomy : ℕ → ℕ → ProcessView → ProcessView
shown_roomy n room v = at_front n (roomy room v)

pub roomy_stands : (b : BoardState) (v : ProcessView) (room : ℕ) → StandsShown b v → StandsAt b (shown_roomy (length b.history) room v)
roomy_stands b v room stands = record { library = stands.library; residences = stands.residences; stands = stands.stands; shown = stands.shown }

pub roomy_can : (v : ProcessView) (n room : ℕ) (r : ResidenceFor) (p : PageId) → CanMap v r p → CanMap (shown_roomy n room v) r p
roomy_can v n room r p can = record { object = can.object; page = can.page; small = can.small; apart = can.apart; library = can.library }

abbrev pub nowhere : ResidenceFor
nowhere = record { library = []; serial = 0; «module» = 0; bases = record { mods = [] }; keeper = 0 }

-- after room was found and the view was shown what was done
pub shown_is : (v u w : ProcessView) (n : ℕ) → u ≡ record v { page_room = u.page_room } → w ≡ at_front n u → w ≡ shown_roomy n u.page_room v
shown_is v u w n same shown = shown ∙ ap (at_front n) same

-- what was claimed, of the residence as the view had it
pub claimed_of : (b c : BoardState) (v w x : ProcessView) (n room k : ℕ) (p : PageId) (claim given : Claim) → w ≡ shown_roomy n room v → ((d : ResidenceFor) → IsClaimedIn b c w x (get_or w.residences k d) p claim) → claim ≡ given →
    (d : ResidenceFor) → IsClaimedIn b c (shown_roomy n room v) x (get_or v.residences k d) p given
claimed_of b c v w x n room k p claim given shown is same d =
    subst (IsClaimedIn b c (shown_roomy n room v) x (get_or v.residences k d) p) same
    (subst (λ (u : ProcessView). IsClaimedIn b c u x (get_or u.residences k d) p claim) shown (is d))

-- ---- the page has its fault

self_page : (p : PageId) → is_page p p ≡ true
self_page p = ap (λ a. a && (p.page == p.page)) (eq-eqb p.object p.object refl) ∙ eq-eqb p.page p.page refl

self_fault : (v : ProcessView) (r : ResidenceFor) (p : PageId) → is_fault_of r.serial p (fault_of v r p).deed ≡ true
self_fault v r p = ap (λ a. a && is_page p p) (eq-eqb r.serial r.serial refl) ∙ self_page p

or_last : (a b : Bool) → b ≡ true → a || (b || false) ≡ true
or_last true b is = refl
or_last false true is = refl
or_last false false is = is

has_now : (h : List Entry) (v : ProcessView) (r : ResidenceFor) (p : PageId) → has_fault (h ++ fault_of v r p ∷ []) r.serial p ≡ true
unfolding has_fault
has_now h v r p =
    list_any-append (λ (x : Entry). is_fault_of r.serial p x.deed) h (fault_of v r p ∷ [])
    ∙ or_last (has_fault h r.serial p) (is_fault_of r.serial p (fault_of v r p).deed) (self_fault v r p)

-- ---- what was claimed

module _ (b c : BoardState) (v w : ProcessView) (room k : ℕ) (p : PageId) (d : ResidenceFor) where
  abbrev r : ResidenceFor
  r = get_or v.residences k d

  abbrev then : ProcessView
  then = shown_roomy (length b.history) room v

  pub claimed_view : (right : PageRight) → IsClaimedIn b c then w r p (claims.Right right) → w ≡ shown_roomy (length c.history) room v
  claimed_view right claim = claim.3

  -- the right was spent
  pub took_fault : PagesStand → OneMoreIsLegal → (u : ProcessView) (right : PageRight) → IsLegal b → k < length v.residences → CanMap v r p →
      IsClaimedIn b c then w r p (claims.Right right) → IsFixedIn w u (get_or w.residences k d) right.page → TookFault b c v u r p
  took_fault stand grows u right legal within can claim fixed = record {
    board = claim.1;
    follows = claim.2;
    view = ap without_room now;
    stands = subst (StandsAt c) (sym now)
        (stand c w' k r p legal_then (subst (StandsAt c) claim.3 claim.4) within (get_or_default v.residences k d r within) (roomy_can v (length c.history) room r p can)
        (λ own. ap (λ (x : BoardState). has_fault x.history r.serial p) claim.1 ∙ has_now b.history v r p));
  }
    where
      w' : ProcessView
      w' = shown_roomy (length c.history) room v

      page_is : right.page ≡ p
      page_is = ap (λ (x : PageRight). x.page) claim.0

      now : u ≡ with_page r p (fixed_page v.library r.«module» r.bases p) w'
      now =
          fixed
          ∙ (ap (λ (x : ProcessView). with_page (get_or x.residences k d) right.page (fixed_page x.library (get_or x.residences k d).«module» (get_or x.residences k d).bases right.page) x) claim.3
          ∙ ap (λ (q : PageId). with_page r q (fixed_page v.library r.«module» r.bases q) w') page_is)

      legal_then : IsLegal c
      legal_then = subst IsLegal (sym claim.1) (grows b.library b.failing (fixed_bytes b.library) b.history (fault_of v r p) legal claim.2)

  -- the page had its fault
  pub had_fault : StandsShown b v → 0 < room → IsClaimedIn b c then w r p claims.Taken → HadFault b c v w r p
  had_fault stands some claim = record {
    board = claim.0;
    had = claim.2;
    view = ap without_room claim.1;
    stands = subst (StandsAt b) (sym claim.1) (roomy_stands b v room stands);
    room = subst (λ (x : ProcessView). 0 < x.page_room) (sym claim.1) some;
  }

-- of a page that had none the answer is that it was made
pub was_first : (b c : BoardState) (v w : ProcessView) (r : ResidenceFor) (p : PageId) (was : Bool) → has_fault b.history r.serial p ≡ false → IsFaultTaken b c v w r p was → (was ≡ true) × TookFault b c v w r p
was_first b c v w r p true first taken = (refl, taken)
was_first b c v w r p false first taken = absurd (let both : true ≡ false = sym taken.had ∙ first in cc)

-- ---- with what is kept beside the board

module _ (s t : Standing) (v w : ProcessView) (at : ResidencePage) (c : BoardState) (r : ResidenceFor) (serial_is : r.serial ≡ at.residence.serial) (module_is : r.«module» ≡ at.residence.«module») (took : TookFault s.board c v w r at.page) where
  entry_is : fault_of v r at.page ≡ residence_fault v at
  entry_is i = record { pid = v.holding.pid; deed = deeds.Fault (serial_is i) (module_is i) at.page }

  pages_are : mapped_pages w.holding ≡ mapped_pages v.holding ++ record { serial = at.residence.serial; page = at.page } ∷ []
  pages_are =
      ap (λ (u : ProcessView). mapped_pages u.holding) took.view
      ∙ (map-append (λ (x : Mapped). x.of) v.holding.mapped (page_with r at.page (fixed_page v.library r.«module» r.bases at.page) ∷ [])
      ∙ ap (λ (n : ℕ). mapped_pages v.holding ++ record { serial = n; page = at.page } ∷ []) serial_is)

  pub fault_made : OneMoreIsLegal → IsLegal s.board → IsStanding s → t.board ≡ c →
      ((h : List Entry) (x : Entry) → c.history ≡ h ++ x ∷ [] → StoodBefore (record s { board = c }) h → IsStanding t) → IsFaultMade s t v w at
  fault_made grows legal kept board_is follows = record {
    board = board_is ∙ (took.board ∙ ap (with_entry s.board) entry_is);
    legal = subst IsLegal (sym (board_is ∙ took.board)) (grows s.board.library s.board.failing (fixed_bytes s.board.library) s.board.history (fault_of v r at.page) legal took.follows);
    kept = follows s.board.history (fault_of v r at.page) (ap (λ (l : BoardState). l.history) took.board)
        (record {
          serials = subst (λ (l : BoardState). AreSerialsOf l.library (state_after l.library l.failing s.board.history) s.serials) (sym took.board) kept.serials;
          faulted = kept.faulted;
        });
    number = ap (λ (u : ProcessView). u.holding.pid) took.view;
    stands = subst (λ (l : BoardState). StandsShown l w) (sym board_is) (subst (StandsAt c) (ap (λ (n : ℕ). at_front n w) took.stands.stands.front) took.stands);
    mapped = pages_are;
  }
