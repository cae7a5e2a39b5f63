-- Pages that the process of a view maps, by the facts of processes that take turns.
use Rattle.std.proofs.Common.{◌≡◌, ℕ, ◌*◌, ◌+◌, ◌-◌, ◌<◌, ◌≤◌, ◌++◌, ◌||◌, not, eq-eqb, Bool, true, false, List, [], ◌∷◌, length, Option, None, Some, refl, sym, ap, ◌∙◌, subst, append-nil}
use Rattle.std.specs.List.{list_any, range_with_len}
use Rattle.std.proofs.lemmas.List.{get_or_default}
use Rattle.std.proofs.lemmas.List.Folds.{list_any-append}
use Rattle.std.proofs.Math.Bool.{or-true}
use Rattle.lx_types.specs.Object.{class_of}
use Rattle.lx_types.specs.declared.object.PageId.{PageId}
use Rattle.lx_model.specs.ModuleBytes.{fixed_page}
use Rattle.page_frames.specs.Residences.{ResidenceFor}
use Rattle.turn_lock.specs.Turns.{by_pid}
use Rattle.load_model.specs.declared.commands.Command.TheVariants.{Touch}
use Rattle.load_model.specs.declared.commands.Place.{Place}
use Rattle.load_model.specs.declared.commands.Refusal.{Refusal}
use Rattle.load_model.specs.declared.commands.Refusal.TheVariants.{Ended, Worn}
use Rattle.load_model.specs.Refusals.{when, ◌orelse◌}
use Rattle.load_model.specs.declared.deeds.Entry.{Entry}
use Rattle.load_model.specs.Modules.{object_at}
use Rattle.load_model.specs.State.{pids, is_among}
use Rattle.load_model.specs.Asks.{is_own}
use Rattle.load_model.specs.Histories.{has_fault, is_fault_of}
use Rattle.load_model.specs.Memory.{page, pages_over}
use Rattle.load_model.specs.Refusals as uses
use Rattle.load_model.specs.ResidenceBases.{ResidentsFit}
use Rattle.load_model.specs.ViewAnswers.{view_refusal, view_place_refusal}
use Rattle.load_core.specs.BoardState.{BoardState, IsLegal}
use Rattle.load_core.specs.declared.answers.Claim.TheVariants as claims
use Rattle.page_fix.specs.Rights.{PageRight}
use Rattle.process_view.proofs.Shown.{stands_under}
use Rattle.process_view.specs.ProcessViews.{ProcessView, StandsAt, at_front, without_room}
use Rattle.process_view.specs.Answering.{IsReachedNamed}
use Rattle.process_view.specs.Deeds.{CanMap, IsSharedPage, IsFixedIn, IsClaimedIn, with_page, fault_of}
use Rattle.process_view.specs.PageLaws.{PagesStand}
use Rattle.proc_core.specs.Procs.{ProcState, Holds}
use Rattle.proc_core.specs.Calls.{call_refusal}
use Rattle.proc_core.specs.Touches.{IsPageOf, needs_fault, page_in}
use Rattle.proc_core.specs.Claiming.{residence_at, is_there}
use Rattle.proc_core.proofs.PageTurns.{can_map}
use Rattle.proc_core.proofs.Places.{accepted_place, among_pages, page_there, page_alike}
use Rattle.proc_core.proofs.Made.{roomless}
use Rattle.stepped_runs.specs.OneThread.{CanGoOn, MappedMore}
use Rattle.stepped_runs.proofs.Onward.{shown_again, can_still, mapped_further}

-- ---- the process of a view, as one that has seen all of the board

abbrev seen_all : BoardState → ProcessView → ProcState
seen_all b v = record {
  lock = record { words = 0; slots = 0; views_name = 0; atom = 0; block = 0; offset = 0; slot_names = [] };
  known = record {
    pid = v.holding.pid;
    subject = Some (record { library = b.library; failing = b.failing });
    seen = b.history;
    mine = by_pid (λ (x : Entry). x.pid) v.holding.pid b.history;
    drawn = 0;
    ticket = None;
    turn = false;
    live = 0;
    ended = [];
    before = [];
    other = [];
  };
  view = at_front (length b.history) v;
}

holds_all : (b : BoardState) (v : ProcessView) → IsLegal b → CanGoOn b v → Holds (seen_all b v)
holds_all b v legal can =
    let lib : v.library ≡ b.library = can.stands.library in
    record {
      process = can.process;
      number = refl;
      about = ap (λ l. Some (record { library = l; failing = b.failing })) (sym lib);
      legal = subst (λ l. IsLegal (record { library = l; failing = b.failing; history = b.history; keeper = 0 })) (sym lib) legal;
      own = refl;
      stands = subst (λ l. StandsAt (record { library = l; failing = b.failing; history = b.history; keeper = 0 }) (at_front (length b.history) v)) (sym lib) (stands_under b 0 (at_front (length b.history) v) can.stands);
      apart = refl;
    }

-- ---- the pages of a place

asked_twice : (e : Bool) (rest : Option Refusal) → (when e Ended orelse rest) ≡ None → (when e Ended orelse when false Worn orelse (when e Ended orelse rest)) ≡ None
asked_twice true rest is = is
asked_twice false rest is = is

touch_fine : (b : BoardState) (v : ProcessView) (at : Place) → view_place_refusal v.library v.holding uses.touch at ≡ None → call_refusal (seen_all b v) (Touch at) ≡ None
unfolding view_refusal
touch_fine b v at fine = asked_twice v.holding.ended _ fine

named_still : (v : ProcessView) (n : ℕ) (name : List ℕ) (k : ℕ) → IsReachedNamed v name k → IsReachedNamed (at_front n v) name k
named_still v n name k is = record { within = is.within; named = is.named; residence = is.residence }

-- a page of a place that may be touched
pub page_of_place : ResidentsFit → (b : BoardState) (v : ProcessView) (at : Place) (k first end n : ℕ) → IsLegal b → CanGoOn b v → view_place_refusal v.library v.holding uses.touch at ≡ None → IsReachedNamed v at.«module» k →
    range_with_len first (end - first) ≡ pages_over at.offset at.len → first ≤ n → n < end → n * 4096 < at.offset + at.len → IsPageOf v k (page at.object n)
page_of_place fit b v at k first end n legal can fine named pages low high before =
    let p : ProcState = seen_all b v in
    let there : IsPageOf p.view k (page at.object n) =
    page_there p.view at k n named.within (λ d. accepted_place fit p at k d (holds_all b v legal can) (touch_fine b v at fine) (named_still v (length b.history) at.«module» k named)) (among_pages at first end n pages low high) before
    in
    page_alike p.view v k (page at.object n) refl refl refl there

pub page_still : (b c : BoardState) (v w : ProcessView) (k : ℕ) (t : PageId) → MappedMore b c v w → IsPageOf v k t → IsPageOf w k t
page_still b c v w k t more is = page_alike v w k t more.library more.residences more.ended is

-- ---- one of them

pub can : (b : BoardState) (v : ProcessView) (k : ℕ) (t : PageId) (d : ResidenceFor) → IsLegal b → CanGoOn b v → IsPageOf v k t → is_there v (residence_at v k d) t ≡ false → CanMap v (residence_at v k d) t
can b v k t d legal goes is apart =
    let p : ProcState = seen_all b v in
    let it : CanMap p.view (residence_at p.view k d) t = can_map p k t d (holds_all b v legal goes) (page_alike v p.view k t refl refl refl is) apart in
    record { object = it.object; page = it.page; small = it.small; apart = it.apart; library = it.library }

-- where there is more room
pub roomy : (b : BoardState) (v w : ProcessView) → without_room w ≡ without_room v → CanGoOn b v → CanGoOn b w
roomy b v w bare goes = record {
  process = subst (λ (x : ProcessView). is_among pids x.holding.pid ≡ true) (sym bare) goes.process;
  stands = roomless b (at_front (length b.history) v) (at_front (length b.history) w) (ap (at_front (length b.history)) bare) goes.stands;
}

pub more_room : (b : BoardState) (v w : ProcessView) → without_room w ≡ without_room v → CanGoOn b v → MappedMore b b v w
more_room b v w bare goes = record {
  went = record { library = refl; failing = refl; more = []; history = sym (append-nil b.history); own = tt; pid = ap (λ (x : ProcessView). x.holding.pid) bare; stands = (roomy b v w bare goes).stands };
  library = ap (λ (x : ProcessView). x.library) bare;
  residences = ap (λ (x : ProcessView). x.residences) bare;
  ended = ap (λ (x : ProcessView). x.holding.ended) bare;
}

pub nowhere : ResidenceFor
nowhere = record { library = []; serial = 0; «module» = 0; bases = record { mods = [] }; keeper = 0 }

-- a page that is mapped, at a board where it is a private one or has its fault
pub one_mapped : PagesStand → (b : BoardState) (v w : ProcessView) (k : ℕ) (t : PageId) → IsLegal b → CanGoOn b v → k < length v.residences → CanMap v (residence_at v k nowhere) t →
    (is_own (class_of (object_at v.library (residence_at v k nowhere).«module» t.object)) ≡ false → has_fault b.history (residence_at v k nowhere).serial t ≡ true) → IsFixedIn v w (residence_at v k nowhere) t → MappedMore b b v w
one_mapped stand b v w k t legal goes within can faulted fixed =
    let r : ResidenceFor = residence_at v k nowhere in
    let n : ℕ = length b.history in
    let u : ProcessView = at_front n v in
    let here : CanMap u r t = record { object = can.object; page = can.page; small = can.small; apart = can.apart; library = can.library } in
    let more : StandsAt b (with_page r t (fixed_page v.library r.«module» r.bases t) u) = stand b u k r t legal goes.stands within (get_or_default v.residences k nowhere r within) here faulted in
    subst (MappedMore b b v) (sym fixed) (record {
      went = record { library = refl; failing = refl; more = []; history = sym (append-nil b.history); own = tt; pid = refl; stands = more };
      library = refl;
      residences = refl;
      ended = refl;
    })

-- ---- a claim

-- what a view can that was shown more
module _ (v u : ProcessView) (n k : ℕ) (t : PageId) (shown : u ≡ at_front n v) where
  pub room_still : 0 < v.page_room → 0 < u.page_room
  room_still some = subst (λ (x : ProcessView). 0 < x.page_room) (sym shown) some

  pub stay_still : k < length v.residences → k < length u.residences
  stay_still within = subst (λ (x : ProcessView). k < length x.residences) (sym shown) within

  pub can_still_map : ((d : ResidenceFor) → CanMap v (residence_at v k d) t) → (d : ResidenceFor) → CanMap u (residence_at u k d) t
  can_still_map all d =
      let it = all d in
      subst (λ (x : ProcessView). CanMap x (residence_at x k d) t) (sym shown) (record { object = it.object; page = it.page; small = it.small; apart = it.apart; library = it.library })

  pub shared_still : ((d : ResidenceFor) → IsSharedPage v (residence_at v k d) t) → (d : ResidenceFor) → IsSharedPage u (residence_at u k d) t
  shared_still all d = subst (λ (x : ProcessView). IsSharedPage x (residence_at x k d) t) (sym shown) (all d)

  pub residence_still : (d : ResidenceFor) → residence_at u k d ≡ residence_at v k d
  residence_still d = ap (λ (x : ProcessView). residence_at x k d) shown

-- the view after a claim, which was shown the entry where it has one
pub right_shown : (b c : BoardState) (v u w : ProcessView) (r : ResidenceFor) (t : PageId) (right : PageRight) → u ≡ at_front (length b.history) v → IsClaimedIn b c u w r t (claims.Right right) → w ≡ at_front (length c.history) v
right_shown b c v u w r t right shown is = is.3 ∙ ap (at_front (length c.history)) shown

pub taken_shown : (b c : BoardState) (v u w : ProcessView) (r : ResidenceFor) (t : PageId) → u ≡ at_front (length b.history) v → IsClaimedIn b c u w r t claims.Taken → w ≡ at_front (length b.history) v
taken_shown b c v u w r t shown is = is.1 ∙ shown

pub right_more : (b c : BoardState) (v u w : ProcessView) (r : ResidenceFor) (t : PageId) (right : PageRight) → u ≡ at_front (length b.history) v → IsClaimedIn b c u w r t (claims.Right right) → MappedMore b c v w
right_more b c v u w r t right shown is =
    let seen : w ≡ at_front (length c.history) v = right_shown b c v u w r t right shown is in
    subst (MappedMore b c v) (sym seen) (record {
      went = record {
        library = ap (λ (l : BoardState). l.library) is.1;
        failing = ap (λ (l : BoardState). l.failing) is.1;
        more = fault_of u r t ∷ [];
        history = ap (λ (l : BoardState). l.history) is.1;
        own = (ap (λ (x : ProcessView). x.holding.pid) shown, tt);
        pid = refl;
        stands = shown_again c (at_front (length c.history) v) (subst (StandsAt c) seen is.4);
      };
      library = refl;
      residences = refl;
      ended = refl;
    })

pub taken_more : (b c : BoardState) (v u w : ProcessView) (r : ResidenceFor) (t : PageId) → u ≡ at_front (length b.history) v → CanGoOn b v → IsClaimedIn b c u w r t claims.Taken → MappedMore b c v w
taken_more b c v u w r t shown goes is =
    subst (λ (l : BoardState). MappedMore b l v w) (sym is.0)
    (subst (MappedMore b b v) (sym (is.1 ∙ shown)) (record {
      went = record { library = refl; failing = refl; more = []; history = sym (append-nil b.history); own = tt; pid = refl; stands = goes.stands };
      library = refl;
      residences = refl;
      ended = refl;
    }))

fault_last : (h : List Entry) (v : ProcessView) (r : ResidenceFor) (t : PageId) → has_fault (h ++ fault_of v r t ∷ []) r.serial t ≡ true
unfolding has_fault
fault_last h v r t =
    let own : is_fault_of r.serial t (fault_of v r t).deed ≡ true = rw (eq-eqb r.serial r.serial refl, eq-eqb t.object t.object refl, eq-eqb t.page t.page refl) refl in
    list_any-append (λ (e : Entry). is_fault_of r.serial t e.deed) h (fault_of v r t ∷ [])
    ∙ (ap (λ (z : Bool). list_any (λ (e : Entry). is_fault_of r.serial t e.deed) h || (z || false)) own ∙ or-true (list_any (λ (e : Entry). is_fault_of r.serial t e.deed) h))

pub right_faulted : (b c : BoardState) (u w : ProcessView) (r : ResidenceFor) (t : PageId) (right : PageRight) → IsClaimedIn b c u w r t (claims.Right right) → has_fault c.history r.serial t ≡ true
right_faulted b c u w r t right is = ap (λ (l : BoardState). has_fault l.history r.serial t) is.1 ∙ fault_last b.history u r t

pub taken_faulted : (b c : BoardState) (u w : ProcessView) (r : ResidenceFor) (t : PageId) → IsClaimedIn b c u w r t claims.Taken → has_fault c.history r.serial t ≡ true
taken_faulted b c u w r t is = ap (λ (l : BoardState). has_fault l.history r.serial t) is.0 ∙ is.2

-- ---- all of it

-- a page that was claimed, and is mapped
pub claimed_mapped : PagesStand → (b c : BoardState) (v w x : ProcessView) (n k : ℕ) (t : PageId) → IsLegal b → IsLegal c → CanGoOn b v → MappedMore b c v w → w ≡ at_front n v → k < length v.residences →
    ((d : ResidenceFor) → CanMap v (residence_at v k d) t) → has_fault c.history (residence_at v k nowhere).serial t ≡ true → IsFixedIn w x (residence_at w k nowhere) t → MappedMore b c v x
claimed_mapped stand b c v w x n k t before legal goes more shown within can faulted fixed =
    let still : CanGoOn c w = can_still b c v w goes more.went in
    mapped_further b c c v w x more
    (one_mapped stand c w x k t legal still (stay_still v w n k t shown within) (can_still_map v w n k t shown can nowhere)
    (λ shared. ap (λ (r : ResidenceFor). has_fault c.history r.serial t) (residence_still v w n k t shown nowhere) ∙ faulted) fixed)

-- a page of the process's own
own_is_own : (b : Bool) → not b ≡ false → b ≡ false → ⊥
own_is_own true e f = cc
own_is_own false e f = cc

pub own_mapped : PagesStand → (b : BoardState) (v w : ProcessView) (k : ℕ) (t : PageId) → IsLegal b → CanGoOn b v → IsPageOf v k t → ((d : ResidenceFor) → is_there v (residence_at v k d) t ≡ false) →
    ((d : ResidenceFor) → needs_fault v.library (residence_at v k d).«module» (page_in (residence_at v k d) t) ≡ false) → IsFixedIn v w (residence_at v k nowhere) t → MappedMore b b v w
own_mapped stand b v w k t legal goes is apart own fixed =
    one_mapped stand b v w k t legal goes is.residence (can b v k t nowhere legal goes is (apart nowhere))
    (λ shared. absurd (own_is_own (is_own (class_of (object_at v.library (residence_at v k nowhere).«module» t.object))) (own nowhere) shared)) fixed

-- mapped after more room was made
pub roomy_mapped : (b c : BoardState) (v w x : ProcessView) → without_room w ≡ without_room v → CanGoOn b v → MappedMore b c w x → MappedMore b c v x
roomy_mapped b c v w x bare goes more = mapped_further b b c v w x (more_room b v w bare goes) more
