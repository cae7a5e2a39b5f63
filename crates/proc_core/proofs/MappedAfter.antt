-- A page that is mapped after its claim.
use Rattle.proc_core.proofs.Words.{◌+◌, ◌++◌, ◌<◌, [], all_joined, AllByRecursion, ap, append-nil, AreOthers, arith, at_front, CanMap, class_of, count_by, Entry, false, fault_of, fixed_page, front_of, get_or, Holding, Holds, inl}
use Rattle.proc_core.proofs.Words.{inr, is_own, is_there, IsPage, IsSeenForPage, IsTurn, length, List, mapped_pages, needs_fault, page_in, page_with, PageId, PageOf, PagesStand, ProcessView, ProcState, refl, ResidenceFor}
use Rattle.proc_core.proofs.Words.{source_count, sym, true, Waited, with_page, without_room, ℕ, ◌∙◌, ◌∷◌, ◌≡◌, ◌≤◌, ◌⊎◌}
use Rattle.load_model.specs.Modules.{object_at}
use Rattle.load_model.specs.Histories.{has_fault}
use Rattle.load_model.specs.TouchSteps.{touch_steps}
use Rattle.proc_core.proofs.Made.{roomless}
use Rattle.proc_core.proofs.Claims.{Laws, with_view, view_holds, others_steps, taken_steps, given_steps, all_others, one_page, mapped_one, one_fault}

-- ---- what holds of the process

pub roomy_holds : (p : ProcState) (w : ProcessView) → Holds p → without_room w ≡ without_room p.view → Holds (with_view p w)
roomy_holds p w holds bare = view_holds p w holds (ap (λ (u : ProcessView). u.library) bare) (ap (λ (u : ProcessView). u.holding.pid) bare) (roomless (front_of p) p.view w bare holds.stands)

pub mapped_holds : PagesStand → (q : ProcState) (k : ℕ) (r : ResidenceFor) (t : PageId) → Holds q → k < length q.view.residences → r ≡ get_or q.view.residences k r → CanMap q.view r t →
    (is_own (class_of (object_at q.view.library r.«module» t.object)) ≡ false → has_fault q.known.seen r.serial t ≡ true) → Holds (with_view q (with_page r t (fixed_page q.view.library r.«module» r.bases t) q.view))
mapped_holds stand q k r t holds within is can fault =
    view_holds q (with_page r t (fixed_page q.view.library r.«module» r.bases t) q.view) holds refl refl (stand (front_of q) q.view k r t holds.legal holds.stands within is can fault)

-- ---- what was mapped, of a process that found room first

module _ (laws : Laws) (p q : ProcState) (w : ProcessView) (r : ResidenceFor) (t : PageId) (before : ℕ) (holds : Holds p) (bare : without_room w ≡ without_room p.view) (shared : is_own (class_of (object_at p.view.library r.«module» t.object)) ≡ false) where
  shown_holding : (u : ProcessView) (n : ℕ) → without_room u ≡ without_room (at_front n w) → u.holding ≡ record p.view.holding { front = n }
  shown_holding u n is = ap (λ (x : ProcessView). x.holding) is ∙ ap (λ (x : ProcessView). record x.holding { front = n }) bare

  own_one : count_by (needs_fault p.view.library r.«module») (page_in r t ∷ []) ≡ 1
  own_one = one_fault p.view.library r.«module» (page_in r t) shared

  others_seen : (news : List PageOf) (more : List Entry) → AreOthers p.known.pid more → AllByRecursion (IsSeenForPage p.view r.«module» (page_in r t) news) more
  others_seen news more others = all_others p.view r.«module» (page_in r t) news p.known.pid more (sym holds.number) others

  beyond : (bytes : List ℕ) (own : List Entry) (after : ℕ) → (turn : IsTurn (with_view p w) q own) → AllByRecursion (IsSeenForPage p.view r.«module» (page_in r t) (page_in r t ∷ [])) own →
      after ≡ before + touch_steps p.view.library p.known.pid r.«module» (turn.more ++ own) (page_in r t ∷ []) → IsPage p (with_view q (with_page r t bytes q.view)) (page_in r t) r.«module» (page_in r t ∷ []) before after
  beyond bytes own after turn entries steps =
      let one = own_one in
      let drawn : q.known.drawn ≡ p.known.drawn + 1 = turn.drawn in
      let holding : q.view.holding ≡ record p.view.holding { front = length q.known.seen } = shown_holding q.view (length q.known.seen) (ap without_room turn.view) in
      record {
        pass = record { lock = turn.pass.lock; known = turn.pass.known };
        shown = turn.more ++ own;
        seen = turn.seen;
        entries = all_joined (IsSeenForPage p.view r.«module» (page_in r t) (page_in r t ∷ [])) turn.more own (others_seen (page_in r t ∷ []) turn.more turn.others) entries;
        library = ap (λ (u : ProcessView). u.library) turn.view ∙ ap (λ (u : ProcessView). u.library) bare;
        residences = ap (λ (u : ProcessView). u.residences) turn.view ∙ ap (λ (u : ProcessView). u.residences) bare;
        holding = ap (λ (k : Holding). record k { mapped = q.view.holding.mapped ++ page_with r t bytes ∷ [] }) holding;
        mapped = mapped_one r t bytes q.view ∙ ap (λ (k : Holding). mapped_pages k ++ page_in r t ∷ []) holding;
        drawn = (omega arith, omega arith);
        steps = steps;
      }

  pub taken_mapped : (bytes : List ℕ) → IsTurn (with_view p w) q [] → IsPage p (with_view q (with_page r t bytes q.view)) (page_in r t) r.«module» (page_in r t ∷ []) before before
  taken_mapped bytes turn =
      let none : touch_steps p.view.library p.known.pid r.«module» turn.more (page_in r t ∷ []) ≡ 0 = taken_steps laws p.view.library p.known.pid r.«module» turn.more (page_in r t) turn.others shared in
      let all : touch_steps p.view.library p.known.pid r.«module» (turn.more ++ []) (page_in r t ∷ []) ≡ 0 =
      ap (λ (h : List Entry). touch_steps p.view.library p.known.pid r.«module» h (page_in r t ∷ [])) (append-nil turn.more) ∙ none in
      beyond bytes [] before turn tt (omega arith)

  pub given_mapped : (bytes : List ℕ) (after : ℕ) → is_there p.view r t ≡ false → IsTurn (with_view p w) q (fault_of w r t ∷ []) → after ≡ before + source_count p.view.library r.«module» t →
      IsPage p (with_view q (with_page r t bytes q.view)) (page_in r t) r.«module» (page_in r t ∷ []) before after
  given_mapped bytes after apart turn steps =
      let pid : w.holding.pid ≡ p.view.holding.pid = ap (λ (u : ProcessView). u.holding.pid) bare in
      let entry : fault_of w r t ≡ fault_of p.view r t = ap (λ (n : ℕ). record (fault_of w r t) { pid = n }) pid in
      let own : fault_of w r t ≡ record (fault_of w r t) { pid = p.known.pid } = ap (λ (n : ℕ). record (fault_of w r t) { pid = n }) (pid ∙ holds.number) in
      let counts : touch_steps p.view.library p.known.pid r.«module» (turn.more ++ fault_of w r t ∷ []) (page_in r t ∷ []) ≡ source_count p.view.library r.«module» t =
      ap (λ (x : Entry). touch_steps p.view.library p.known.pid r.«module» (turn.more ++ x ∷ []) (page_in r t ∷ [])) own
      ∙ given_steps laws p.view.library p.known.pid r.«module» turn.more (page_in r t) turn.others shared in
      beyond bytes (fault_of w r t ∷ []) after turn (inr (pid, refl, apart, one_page r.serial t), tt) (steps ∙ ap (λ (n : ℕ). before + n) (sym counts))

  -- without memory for the claim nothing is mapped
  pub waited_none : Waited (with_view p w) q → IsPage p q (page_in r t) r.«module» [] before before
  waited_none waited =
      let one = own_one in
      let none : touch_steps p.view.library p.known.pid r.«module» waited.more [] ≡ 0 = others_steps laws p.view.library p.known.pid r.«module» waited.more waited.others in
      let holding : q.view.holding ≡ record p.view.holding { front = length q.known.seen } = shown_holding q.view (length q.known.seen) waited.view in
      record {
        pass = record { lock = waited.pass.lock; known = waited.pass.known };
        shown = waited.more;
        seen = waited.seen;
        entries = others_seen [] waited.more waited.others;
        library = ap (λ (u : ProcessView). u.library) waited.view ∙ ap (λ (u : ProcessView). u.library) bare;
        residences = ap (λ (u : ProcessView). u.residences) waited.view ∙ ap (λ (u : ProcessView). u.residences) bare;
        holding = ap (λ (k : Holding). record k { mapped = q.view.holding.mapped }) holding;
        mapped = ap mapped_pages holding ∙ sym (append-nil (mapped_pages p.view.holding));
        drawn = turns (q.known.drawn) waited.drawn one;
        steps = omega arith;
      }
    where
      turns : (n : ℕ) → (n ≡ p.known.drawn) ⊎ (n ≡ p.known.drawn + 1) → count_by (needs_fault p.view.library r.«module») (page_in r t ∷ []) ≡ 1 →
          (p.known.drawn ≤ n) × (n ≤ p.known.drawn + count_by (needs_fault p.view.library r.«module») (page_in r t ∷ []))
      turns n (inl same) one = (omega arith, omega arith)
      turns n (inr more) one = (omega arith, omega arith)
