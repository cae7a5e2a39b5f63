-- One round of a touch: the next page of the place.
use Rattle.proc_core.proofs.Words.{◌*◌, ◌+◌, ◌-◌, ◌<◌, [], ◌^◌, ap, arith, Bool, call_refusal, count_by, Err, false, get_or, has_page, HasFewTurns, Holding, Holds, if◌then◌else◌, is_among, is_there, IsOnePage, IsPage, nowhere}
use Rattle.proc_core.proofs.Words.{IsPageAnswered, IsPageOf, IsReachedNamed, IsTouchAnswered, List, mapped_pages, meant, needs_fault, news_of, NoMemory, None, Ok, page, page_in, PageId, PageOf, pages_over, Place, ProcState}
use Rattle.proc_core.proofs.Words.{range_with_len, refl, residence_at, ResidenceFor, ResidentsFit, Result, serial_seen, subst, sym, Touch, true, ℕ, ◌∙◌, ◌∷◌, ◌≡◌, ◌≤◌}
use Rattle.lx_types.specs.declared.fail.NoMemory.{NoMemory as Want}
use Rattle.proc_core.proofs.Claims.{nothing_mapped}
use Rattle.proc_core.proofs.Turning.{fine_few}
use Rattle.proc_core.proofs.TouchedPages.{page_at}
use Rattle.proc_core.proofs.Places.{IsAcceptedPlace, accepted_place, among_pages, page_there, page_alike}
use Rattle.proc_core.proofs.TouchedTo.{TouchedTo, to_next, to_want}

-- ---- one page

-- where it was not mapped
pub page_answered : (p q : ProcState) (r : ResidenceFor) (t : PageId) (before after : ℕ) (x : Result Unit Want) → is_there p.view r t ≡ false → IsOnePage p q r t before after x → IsPageAnswered p q (page_in r t) r.«module» before after x
page_answered p q r t before after (Ok u) apart is =
    subst (λ (b : Bool). IsPage p q (page_in r t) r.«module» (if b then [] else page_in r t ∷ []) before after) (sym apart) is
page_answered p q r t before after (Err none) apart is = (is, apart)

pub few_turns : (p q : ProcState) (r : ResidenceFor) (t : PageId) (before after : ℕ) (x : Result Unit Want) → is_there p.view r t ≡ false → IsOnePage p q r t before after x → HasFewTurns p q r t
few_turns p q r t before after x apart is =
    subst (λ (b : Bool). q.known.drawn ≤ p.known.drawn + count_by (needs_fault p.view.library r.«module») (if b then [] else page_in r t ∷ [])) (sym apart) (drawn x is)
  where
    drawn : (x : Result Unit Want) → IsOnePage p q r t before after x → q.known.drawn ≤ p.known.drawn + count_by (needs_fault p.view.library r.«module») (page_in r t ∷ [])
    drawn (Ok u) is = is.drawn.1
    drawn (Err none) is = is.drawn.1

-- where it was, nothing was done
pub page_was : (p : ProcState) (r : ResidenceFor) (t : PageId) (a : ℕ) → Holds p → is_there p.view r t ≡ true → IsPage p p (page_in r t) r.«module» (news_of p.view (page_in r t)) a a
page_was p r t a holds there =
    subst (λ (b : Bool). IsPage p p (page_in r t) r.«module» (if b then [] else page_in r t ∷ []) a a) (sym there)
    (nothing_mapped p (page_in r t) r.«module» p.view a refl holds.stands.stands.front)

-- ---- the round

module _ (fit : ResidentsFit) (p q : ProcState) (at : Place) (k : ℕ) (holds : Holds p) (accepted : call_refusal p (Touch at) ≡ None) (named : IsReachedNamed p.view at.«module» k) (first end number a b : ℕ)
    (pages : range_with_len first (end - first) ≡ pages_over at.offset at.len) (low : first ≤ number) (high : number < end) (before : number * 4096 < at.offset + at.len) (to : TouchedTo p q at (number - first) a b) where
  place_fine : (d : ResidenceFor) → IsAcceptedPlace p.view at (get_or p.view.residences k d)
  place_fine d = accepted_place fit p at k d holds accepted named

  among : is_among (pages_over at.offset at.len) number ≡ true
  among = among_pages at first end number pages low high

  pub round_page : IsPageOf q.view k (page at.object number)
  round_page =
      page_alike p.view q.view k (page at.object number) to.touched.library to.touched.residences (ap (λ (h : Holding). h.ended) to.touched.holding)
      (page_there p.view at k number named.within place_fine among before)

  pub round_few : q.known.drawn < 2 ^ 32
  round_few =
      let short = (place_fine nowhere).short in
      let few = to.few in
      let worn = fine_few p (Touch at) accepted in
      omega arith

  number_is : first + (number - first) ≡ number
  number_is = omega arith

  serial_is : (d : ResidenceFor) → (residence_at q.view k d).serial ≡ serial_seen p.view.library p.view.holding at
  serial_is d = ap (λ (rs : List ResidenceFor). (get_or rs k d).serial) to.touched.residences ∙ (place_fine d).serial

  module_is : (d : ResidenceFor) → (residence_at q.view k d).«module» ≡ meant p.view.library at.«module»
  module_is d = ap (λ (rs : List ResidenceFor). (get_or rs k d).«module») to.touched.residences ∙ (place_fine d).«module»

  page_is : (d : ResidenceFor) → page_in (residence_at q.view k d) (page at.object number) ≡ page_at (serial_seen p.view.library p.view.holding at) at.object (first + (number - first))
  page_is d = ap (λ (s : ℕ). page_at s at.object number) (serial_is d) ∙ ap (page_at (serial_seen p.view.library p.view.holding at) at.object) (sym number_is)

  among_here : is_among (pages_over at.offset at.len) (first + (number - first)) ≡ true
  among_here = ap (is_among (pages_over at.offset at.len)) number_is ∙ among

  module _ (r : ProcState) (c : ℕ) (d : ResidenceFor) (turns : HasFewTurns q r (residence_at q.view k d) (page at.object number)) where
    turns_here : r.known.drawn ≤ q.known.drawn + count_by (needs_fault q.view.library (residence_at q.view k d).«module») (news_of q.view (page_at (serial_seen p.view.library p.view.holding at) at.object (first + (number - first))))
    turns_here = subst (λ (t : PageOf). r.known.drawn ≤ q.known.drawn + count_by (needs_fault q.view.library (residence_at q.view k d).«module») (news_of q.view t)) (page_is d) turns

    pub round_next : IsPage q r (page_in (residence_at q.view k d) (page at.object number)) (residence_at q.view k d).«module» (news_of q.view (page_in (residence_at q.view k d) (page at.object number))) b c → TouchedTo p r at (number + 1 - first) a c
    round_next step =
        subst (λ (n : ℕ). TouchedTo p r at n a c) (omega arith)
        (to_next p q r at first (end - first) (number - first) a b c (residence_at q.view k d).«module» (sym pages) (omega arith) to (module_is d) among_here
        (subst (λ (t : PageOf). IsPage q r t (residence_at q.view k d).«module» (news_of q.view t) b c) (page_is d) step) turns_here)

    pub round_want : IsPage q r (page_in (residence_at q.view k d) (page at.object number)) (residence_at q.view k d).«module» [] b c → is_there q.view (residence_at q.view k d) (page at.object number) ≡ false → IsTouchAnswered p r at a c (Err NoMemory)
    round_want step absent =
        to_want p q r at first (end - first) (number - first) a b c (residence_at q.view k d).«module» (sym pages) (omega arith) to (module_is d) among_here
        (subst (λ (t : PageOf). IsPage q r t (residence_at q.view k d).«module» [] b c) (page_is d) step)
        (ap (λ (t : PageOf). has_page (mapped_pages q.view.holding) t.serial t.page) (sym (page_is d)) ∙ absent) turns_here
