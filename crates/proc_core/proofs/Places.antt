-- The pages of a place whose touch is accepted.
use Rattle.proc_core.proofs.Words.{◌&&◌, ◌*◌, ◌+◌, ◌-◌, ◌<◌, ◌==◌, [], ◌^◌, ap, arith, attached, Bool, call_refusal, Class, class_of, covers_invalid, Ended, Err, failing_in, false, fixed_bytes, front_of, get_or, get_or_default}
use Rattle.proc_core.proofs.Words.{has_shared_pages, Holds, Invalid, is_among, is_fixable, is_invalid, is_outside, is_own, IsInside, IsNumberOf, IsPageOf, IsReachedNamed, IsRefusedCall, left_none, length, Library, List, list_any}
use Rattle.proc_core.proofs.Words.{MatchResult, meant, module_of, nat_tests, needs_fault, None, not, object_of, Ok, Option, or_parts, ◌orelse◌, page, page_in, page_inside, PageId, pages_of, pages_over, Parts, Place}
use Rattle.proc_core.proofs.Words.{place_by_residence, ProcessView, ProcState, Range, range_with_len, refl, Refusal, residence_is, ResidenceFor, ResidentsFit, Result, seen_process, serial_of, serial_seen, shared_by, Some}
use Rattle.proc_core.proofs.Words.{span_is_inside, subst, sym, Touch, touch, touch_refusal, true, unwrap_or, view_place_refusal, when, ◌||◌, ℕ, ◌∙◌, ◌∷◌, ◌≡◌, ◌≤◌}
use Rattle.lx_types.specs.declared.object.Class.TheVariants as classes
use Rattle.load_model.specs.Modules.{objects_of, object_at}
use Rattle.load_model.specs.Refusals.{span_refusal}
use Rattle.load_model.specs.ViewAnswers.{view_refusal}
use Rattle.proc_core.proofs.Beginnings.{among_range}
use Rattle.proc_core.proofs.Turning.{fine_view}

-- ---- refusals

not_ended : (e : Bool) (o : Option Refusal) → (when e Ended orelse o) ≡ None → e ≡ false
not_ended false o is = refl
not_ended true o is = cc

none_invalid : (lib : Library) (m object offset len : ℕ) → span_refusal lib touch m object offset len ≡ None → covers_invalid lib m object offset len ≡ false
unfolding span_refusal
none_invalid lib m object offset len is = by_tests (is_outside lib m object offset len) (covers_invalid lib m object offset len) is
  where
    by_tests : (a b : Bool) → (when a Range orelse None orelse when b Invalid) ≡ None → b ≡ false
    by_tests true b e = cc
    by_tests false true e = cc
    by_tests false false e = refl

place_accepted : (p : ProcState) (at : Place) → call_refusal p (Touch at) ≡ None → view_place_refusal p.view.library p.view.holding touch at ≡ None
unfolding view_refusal
place_accepted p at is = fine_view p (Touch at) is

-- ---- the place

-- what an accepted place has in its residence
pub record IsAcceptedPlace (v : ProcessView) (at : Place) (r : ResidenceFor) : Type 0 where
  pub going : v.holding.ended ≡ false
  pub inside : IsInside v.library r.«module» at.object at.offset at.len
  pub short : at.offset + at.len ≤ 268435456
  pub valid : covers_invalid v.library r.«module» at.object at.offset at.len ≡ false
  pub serial : r.serial ≡ serial_seen v.library v.holding at
  pub «module» : r.«module» ≡ meant v.library at.«module»

end_short : (lib : Library) (m object offset len : ℕ) → IsInside lib m object offset len → (object_at lib m object).size ≤ 2 ^ 28 → offset + len ≤ 268435456
unfolding object_at
end_short lib m object offset len inside small =
    let within = inside.within in
    let here : (object_of (module_of lib m) object).size ≤ 2 ^ 28 = small in
    omega arith

there_of : (lib : Library) (m object offset len : ℕ) → IsInside lib m object offset len → IsNumberOf object (length (objects_of lib m))
unfolding objects_of
there_of lib m object offset len inside = inside.there

pub accepted_place : ResidentsFit → (p : ProcState) (at : Place) (k : ℕ) (d : ResidenceFor) → Holds p → call_refusal p (Touch at) ≡ None → IsReachedNamed p.view at.«module» k → IsAcceptedPlace p.view at (get_or p.view.residences k d)
accepted_place fit p at k d holds accepted named =
    let v : ProcessView = p.view in
    let r : ResidenceFor = get_or v.residences k d in
    let seen : view_place_refusal v.library v.holding touch at ≡ None = place_accepted p at accepted in
    let going : v.holding.ended ≡ false = not_ended v.holding.ended _ seen in
    let rest : (span_refusal v.library touch r.«module» at.object at.offset at.len orelse touch_refusal touch (seen_process v.holding) r.serial at.object at.offset at.len) ≡ None =
    sym (place_by_residence v touch at r going (named.residence d)) ∙ seen in
    let span : span_refusal v.library touch r.«module» at.object at.offset at.len ≡ None = left_none _ None rest in
    let inside : IsInside v.library r.«module» at.object at.offset at.len = span_is_inside v.library touch r.«module» at.object at.offset at.len span in
    let own = attached (front_of p) v k r holds.stands named.within (get_or_default v.residences k d r named.within) in
    let size = fit v.library (failing_in p.known.subject) (fixed_bytes v.library) p.known.seen r.«module» at.object own.0 holds.legal
    (residence_is v.library _ v.holding.pid r.«module» own.0 own.1.there) (there_of v.library r.«module» at.object at.offset at.len inside) in
    record {
      going = going;
      inside = inside;
      short = end_short v.library r.«module» at.object at.offset at.len inside size.1;
      valid = none_invalid v.library r.«module» at.object at.offset at.len span;
      serial = sym (ap serial_of (named.residence d));
      «module» = sym (ap (λ (o : Option ℕ). unwrap_or o (length v.library)) (named.named d));
    }

-- ---- its pages

none_of : (p : ℕ → Bool) (xs : List ℕ) (n : ℕ) → list_any p xs ≡ false → is_among xs n ≡ true → p n ≡ false
none_of p [] n none among = cc
none_of p (x ∷ xs) n none among = by_test (x == n) refl (none_of p xs n (or_parts (p x) (list_any p xs) none).1)
  where
    by_test : (b : Bool) → (x == n) ≡ b → (is_among xs n ≡ true → p n ≡ false) → p n ≡ false
    by_test true e later = (let same : x ≡ n = grind (arith, nat_tests) in ap p (sym same) ∙ (or_parts (p x) (list_any p xs) none).0)
    by_test false e later = later (sym (ap (λ (b : Bool). b || is_among xs n) e) ∙ among)

shared_not_own : (c : Class) → has_shared_pages c && not false ≡ not (is_own c)
shared_not_own classes.Code = refl
shared_not_own classes.Private = refl
shared_not_own classes.Shared = refl

fixable_is : (lib : Library) (r : ResidenceFor) (t : PageId) → IsNumberOf t.object (length (module_of lib r.«module»).objects) → t.page < pages_of (object_of (module_of lib r.«module») t.object) →
    is_invalid lib r.«module» t ≡ false → is_fixable (module_of lib r.«module») t ≡ needs_fault lib r.«module» (page_in r t)
fixable_is lib r t there inside valid =
    shared_by lib r.«module» t there inside ∙ (ap (λ (b : Bool). has_shared_pages (class_of (object_at lib r.«module» t.object)) && not b) valid ∙ shared_not_own (class_of (object_at lib r.«module» t.object)))

-- the first page and all up to the end are among those that the bytes cover
pub among_pages : (at : Place) (first end n : ℕ) → range_with_len first (end - first) ≡ pages_over at.offset at.len → first ≤ n → n < end → is_among (pages_over at.offset at.len) n ≡ true
among_pages at first end n pages low high =
    ap (λ (ns : List ℕ). is_among ns n) (sym pages) ∙ among_range (end - first) first n low (omega arith)

pub page_there : (v : ProcessView) (at : Place) (k n : ℕ) → k < length v.residences → ((d : ResidenceFor) → IsAcceptedPlace v at (get_or v.residences k d)) → is_among (pages_over at.offset at.len) n ≡ true →
    n * 4096 < at.offset + at.len → IsPageOf v k (page at.object n)
page_there v at k n within fine among before =
    let none : ResidenceFor = record { library = []; serial = 0; «module» = 0; bases = record { mods = [] }; keeper = 0 } in
    let inside : (d : ResidenceFor) → n < pages_of (object_of (module_of v.library (get_or v.residences k d).«module») at.object) =
    λ d. page_inside v.library (get_or v.residences k d).«module» at.object at.offset at.len n (fine d).inside before in
    let short = (fine none).short in
    record {
      residence = within;
      going = (fine none).going;
      object = λ d. (fine d).inside.there;
      page = inside;
      small = omega arith;
      shared = λ d. fixable_is v.library (get_or v.residences k d) (page at.object n) (fine d).inside.there (inside d)
          (none_of (λ (i : ℕ). is_invalid v.library (get_or v.residences k d).«module» (page at.object i)) (pages_over at.offset at.len) n (fine d).valid among);
    }

-- it is one as well where the view has other pages, or room for more of them
pub page_alike : (v w : ProcessView) (k : ℕ) (t : PageId) → w.library ≡ v.library → w.residences ≡ v.residences → w.holding.ended ≡ v.holding.ended → IsPageOf v k t → IsPageOf w k t
page_alike v w k t library residences ended is =
    let P : List Parts → List ResidenceFor → Type 0 = λ lib rs. (d : ResidenceFor) → IsNumberOf t.object (length (module_of lib (get_or rs k d).«module»).objects) in
    let Q : List Parts → List ResidenceFor → Type 0 = λ lib rs. (d : ResidenceFor) → t.page < pages_of (object_of (module_of lib (get_or rs k d).«module») t.object) in
    let R : List Parts → List ResidenceFor → Type 0 =
    λ lib rs. (d : ResidenceFor) → is_fixable (module_of lib (get_or rs k d).«module») t ≡ needs_fault lib (get_or rs k d).«module» (page_in (get_or rs k d) t) in
    record {
      residence = subst (λ (rs : List ResidenceFor). k < length rs) (sym residences) is.residence;
      going = ended ∙ is.going;
      object = subst (λ (lib : List Parts). P lib w.residences) (sym library) (subst (P v.library) (sym residences) is.object);
      page = subst (λ (lib : List Parts). Q lib w.residences) (sym library) (subst (Q v.library) (sym residences) is.page);
      small = is.small;
      shared = subst (λ (lib : List Parts). R lib w.residences) (sym library) (subst (R v.library) (sym residences) is.shared);
    }

-- ---- the view's answer

-- where a call is not refused, the view has found the residence
pub used_in : (p : ProcState) (at : Place) (o : Option Refusal) (used : Result ℕ Refusal) →
    MatchResult used (λ k. (view_refusal p.view.library p.view.holding (Touch at) ≡ None) × IsReachedNamed p.view at.«module» k) (λ refusal. view_refusal p.view.library p.view.holding (Touch at) ≡ Some refusal) →
    o ≡ call_refusal p (Touch at) → o ≡ None → MatchResult used (λ k. (call_refusal p (Touch at) ≡ None) × IsReachedNamed p.view at.«module» k) (IsRefusedCall p (Touch at))
used_in p at o (Ok k) is told none = (sym told ∙ none, is.1)
used_in p at o (Err refusal) is told none =
    let both : Some refusal ≡ None = sym is ∙ fine_view p (Touch at) (sym told ∙ none) in
    cc
