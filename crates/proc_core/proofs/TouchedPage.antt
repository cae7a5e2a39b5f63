-- One page of a residence, from the room for it to the page that is mapped.
use Rattle.proc_core.proofs.Words.{◌+◌, ◌<◌, [], ap, Bool, CanMap, class_of, Entry, false, fault_of, fixed_page, get_or_default, Holds, is_own, is_there, IsFixedIn, IsPage, IsPageOf, IsSharedPage, IsTurn, length, List, Claim, IsClaim, nowhere}
use Rattle.proc_core.proofs.Words.{needs_fault, not-false, not-true, page_in, PageId, PagesStand, Parts, ProcessView, ProcState, residence_at, ResidenceFor, source_count, subst, sym, true, with_page, without_room, ℕ, ◌∙◌, ◌∷◌}
use Rattle.proc_core.proofs.Words.{◌≡◌}
use Rattle.load_model.specs.Modules.{object_at}
use Rattle.load_model.specs.Histories.{has_fault}
use Rattle.proc_core.proofs.Claims.{Laws, with_view, private_mapped}
use Rattle.proc_core.proofs.Places.{page_alike}
use Rattle.proc_core.proofs.PageTurns.{can_map}
use Rattle.proc_core.proofs.MappedAfter.{roomy_holds, mapped_holds, given_mapped, taken_mapped}

-- what a touch asks of a page, and whether that has a fault first
pub record IsAsked (p : ProcState) (k : ℕ) (t : PageId) (faults : Bool) : Type 0 where
  pub page : IsPageOf p.view k t
  pub apart : (d : ResidenceFor) → is_there p.view (residence_at p.view k d) t ≡ false
  pub fault : (d : ResidenceFor) → needs_fault p.view.library (residence_at p.view k d).«module» (page_in (residence_at p.view k d) t) ≡ faults

pub asked_of : (p s : ProcState) (k : ℕ) (t : PageId) (faults : Bool) → p ≡ s → IsPageOf s.view k t → ((d : ResidenceFor) → is_there s.view (residence_at s.view k d) t ≡ false) →
    ((d : ResidenceFor) → needs_fault s.view.library (residence_at s.view k d).«module» (page_in (residence_at s.view k d) t) ≡ faults) → IsAsked p k t faults
asked_of p s k t faults is page apart fault = subst (λ (x : ProcState). IsAsked x k t faults) (sym is) (record { page = page; apart = apart; fault = fault })

pub page_of : (p s : ProcState) (k : ℕ) (t : PageId) → p ≡ s → IsPageOf s.view k t → IsPageOf p.view k t
page_of p s k t is page = subst (λ (x : ProcState). IsPageOf x.view k t) (sym is) page

pub claim_of : (from q s : ProcState) (w : ProcessView) (k : ℕ) (t : PageId) (x y : Claim) → q ≡ s → x ≡ y → ((d : ResidenceFor) → IsClaim from s (residence_at w k d) t x) →
    (d : ResidenceFor) → IsClaim from q (residence_at w k d) t y
claim_of from q s w k t x y is same claim =
    subst (λ (z : Claim). (d : ResidenceFor) → IsClaim from q (residence_at w k d) t z) same
    (subst (λ (z : ProcState). (d : ResidenceFor) → IsClaim from z (residence_at w k d) t x) (sym is) claim)

-- ---- with more room

pub roomy_page : (v w : ProcessView) (k : ℕ) (t : PageId) → without_room w ≡ without_room v → IsPageOf v k t → IsPageOf w k t
roomy_page v w k t bare is = page_alike v w k t (ap (λ (u : ProcessView). u.library) bare) (ap (λ (u : ProcessView). u.residences) bare) (ap (λ (u : ProcessView). u.holding.ended) bare) is

pub roomy_there : (v w : ProcessView) (k : ℕ) (t : PageId) → without_room w ≡ without_room v → ((d : ResidenceFor) → is_there v (residence_at v k d) t ≡ false) → (d : ResidenceFor) → is_there w (residence_at w k d) t ≡ false
roomy_there v w k t bare apart d = ap (λ (u : ProcessView). is_there u (residence_at u k d) t) bare ∙ apart d

pub roomy_fault : (v w : ProcessView) (k : ℕ) (t : PageId) (b : Bool) → without_room w ≡ without_room v → ((d : ResidenceFor) → needs_fault v.library (residence_at v k d).«module» (page_in (residence_at v k d) t) ≡ b) →
    (d : ResidenceFor) → needs_fault w.library (residence_at w k d).«module» (page_in (residence_at w k d) t) ≡ b
roomy_fault v w k t b bare fault d = ap (λ (u : ProcessView). needs_fault u.library (residence_at u k d).«module» (page_in (residence_at u k d) t)) bare ∙ fault d

module _ (p : ProcState) (w : ProcessView) (k : ℕ) (t : PageId) (holds : Holds p) (bare : without_room w ≡ without_room p.view) (is : IsPageOf p.view k t) (apart : (d : ResidenceFor) → is_there p.view (residence_at p.view k d) t ≡ false) where
  pub roomy_can : (d : ResidenceFor) → CanMap w (residence_at w k d) t
  roomy_can d = can_map (with_view p w) k t d (roomy_holds p w holds bare) (roomy_page p.view w k t bare is) (roomy_there p.view w k t bare apart d)

  within : k < length w.residences
  within = subst (λ (rs : List ResidenceFor). k < length rs) (sym (ap (λ (u : ProcessView). u.residences) bare)) is.residence

  stay_same : (d : ResidenceFor) → residence_at w k d ≡ residence_at p.view k d
  stay_same d = ap (λ (u : ProcessView). residence_at u k d) bare

  library_same : w.library ≡ p.view.library
  library_same = ap (λ (u : ProcessView). u.library) bare

  -- ---- a page of the process's own

  module _ (u : ProcessView) (fault : (d : ResidenceFor) → needs_fault p.view.library (residence_at p.view k d).«module» (page_in (residence_at p.view k d) t) ≡ false) (fixed : (d : ResidenceFor) → IsFixedIn w u (residence_at w k d) t) where
    pub private_holds : PagesStand → Holds (with_view p u)
    private_holds stand =
        let q : ProcState = with_view p w in
        let r : ResidenceFor = residence_at w k nowhere in
        let own : is_own (class_of (object_at w.library r.«module» t.object)) ≡ true = not-false _ (roomy_fault p.view w k t false bare fault nowhere) in
        subst (λ (x : ProcessView). Holds (with_view p x)) (sym (fixed nowhere))
        (mapped_holds stand q k r t (roomy_holds p w holds bare) within (get_or_default w.residences k nowhere r within) (roomy_can nowhere) (λ shared. cc))

    pub private_page : Laws → (before after : ℕ) → ((d : ResidenceFor) → after ≡ before + source_count w.library (residence_at w k d).«module» t) →
        (d : ResidenceFor) → IsPage p (with_view p u) (page_in (residence_at p.view k d) t) (residence_at p.view k d).«module» (page_in (residence_at p.view k d) t ∷ []) before after
    private_page laws before after steps d =
        let r : ResidenceFor = residence_at p.view k d in
        let fixed_here : u ≡ with_page r t (fixed_page w.library r.«module» r.bases t) w = fixed d ∙ ap (λ (x : ResidenceFor). with_page x t (fixed_page w.library x.«module» x.bases t) w) (stay_same d) in
        let steps_here : after ≡ before + source_count p.view.library r.«module» t =
        steps d ∙ (ap (λ (lib : List Parts). before + source_count lib (residence_at w k d).«module» t) library_same ∙ ap (λ (x : ResidenceFor). before + source_count p.view.library x.«module» t) (stay_same d)) in
        subst (λ (x : ProcessView). IsPage p (with_view p x) (page_in r t) r.«module» (page_in r t ∷ []) before after) (sym fixed_here)
        (private_mapped laws p r t (fixed_page w.library r.«module» r.bases t) w before after bare holds.stands.stands.front (not-false _ (fault d)) steps_here)

  -- ---- a page that was claimed

  module _ (q : ProcState) (beyond : Holds q) (own : List Entry) (turn : IsTurn (with_view p w) q own) (fault : (d : ResidenceFor) → needs_fault p.view.library (residence_at p.view k d).«module» (page_in (residence_at p.view k d) t) ≡ true) where
    pub claimed_room : 0 < w.page_room → 0 < q.view.page_room
    claimed_room some = subst (λ (x : ProcessView). 0 < x.page_room) (sym turn.view) some

    pub claimed_stay : k < length q.view.residences
    claimed_stay = subst (λ (x : ProcessView). k < length x.residences) (sym turn.view) within

    pub claimed_can : (d : ResidenceFor) → CanMap q.view (residence_at q.view k d) t
    claimed_can d =
        let can : CanMap w (residence_at w k d) t = roomy_can d in
        subst (λ (x : ProcessView). CanMap x (residence_at x k d) t) (sym turn.view) (record { object = can.object; page = can.page; small = can.small; apart = can.apart; library = can.library })

    pub claimed_shared : (d : ResidenceFor) → IsSharedPage q.view (residence_at q.view k d) t
    claimed_shared d =
        subst (λ (x : ProcessView). IsSharedPage x (residence_at x k d) t) (sym turn.view)
        (subst (λ (x : ProcessView). IsSharedPage x (residence_at x k d) t) (sym bare) (is.shared d ∙ fault d))

    stay_claimed : (d : ResidenceFor) → residence_at q.view k d ≡ residence_at p.view k d
    stay_claimed d = ap (λ (x : ProcessView). residence_at x k d) turn.view ∙ stay_same d

    library_claimed : q.view.library ≡ p.view.library
    library_claimed = ap (λ (x : ProcessView). x.library) turn.view ∙ library_same

    shared_own : (d : ResidenceFor) → is_own (class_of (object_at p.view.library (residence_at p.view k d).«module» t.object)) ≡ false
    shared_own d = not-true _ (fault d)

    module _ (u : ProcessView) (fixed : (d : ResidenceFor) → IsFixedIn q.view u (residence_at q.view k d) t) where
      pub claimed_holds : PagesStand → has_fault q.known.seen (residence_at w k nowhere).serial t ≡ true → Holds (with_view q u)
      claimed_holds stand faulted =
          let r : ResidenceFor = residence_at q.view k nowhere in
          let same : r ≡ residence_at w k nowhere = ap (λ (x : ProcessView). residence_at x k nowhere) turn.view in
          subst (λ (x : ProcessView). Holds (with_view q x)) (sym (fixed nowhere))
          (mapped_holds stand q k r t beyond claimed_stay (get_or_default q.view.residences k nowhere r claimed_stay) (claimed_can nowhere)
          (λ shared. ap (λ (x : ResidenceFor). has_fault q.known.seen x.serial t) same ∙ faulted))

      fixed_here : (d : ResidenceFor) → with_page (residence_at p.view k d) t (fixed_page q.view.library (residence_at p.view k d).«module» (residence_at p.view k d).bases t) q.view ≡ u
      fixed_here d = sym (fixed d ∙ ap (λ (x : ResidenceFor). with_page x t (fixed_page q.view.library x.«module» x.bases t) q.view) (stay_claimed d))

      pub taken_page : Laws → (before : ℕ) → IsTurn (with_view p w) q [] → (d : ResidenceFor) →
          IsPage p (with_view q u) (page_in (residence_at p.view k d) t) (residence_at p.view k d).«module» (page_in (residence_at p.view k d) t ∷ []) before before
      taken_page laws before taken d =
          let r : ResidenceFor = residence_at p.view k d in
          subst (λ (x : ProcessView). IsPage p (with_view q x) (page_in r t) r.«module» (page_in r t ∷ []) before before) (fixed_here d)
          (taken_mapped laws p q w r t before holds bare (shared_own d) (fixed_page q.view.library r.«module» r.bases t) taken)

      pub given_page : Laws → (before after : ℕ) → (d : ResidenceFor) → IsTurn (with_view p w) q (fault_of w (residence_at w k d) t ∷ []) → after ≡ before + source_count q.view.library (residence_at q.view k d).«module» t →
          IsPage p (with_view q u) (page_in (residence_at p.view k d) t) (residence_at p.view k d).«module» (page_in (residence_at p.view k d) t ∷ []) before after
      given_page laws before after d given steps =
          let r : ResidenceFor = residence_at p.view k d in
          let steps_here : after ≡ before + source_count p.view.library r.«module» t =
          steps ∙ (ap (λ (lib : List Parts). before + source_count lib (residence_at q.view k d).«module» t) library_claimed ∙ ap (λ (x : ResidenceFor). before + source_count p.view.library x.«module» t) (stay_claimed d)) in
          subst (λ (x : ProcessView). IsPage p (with_view q x) (page_in r t) r.«module» (page_in r t ∷ []) before after) (fixed_here d)
          (given_mapped laws p q w r t before holds bare (shared_own d) (fixed_page q.view.library r.«module» r.bases t) after (apart d)
          (subst (λ (x : ResidenceFor). IsTurn (with_view p w) q (fault_of w x t ∷ [])) (stay_same d) given) steps_here)
