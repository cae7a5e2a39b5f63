-- Places of shared data that a view refuses for pages that its process has not touched.
use Rattle.std.proofs.Common.{◌≡◌, ℕ, zero, suc, ◌+◌, ◌-◌, ◌<◌, ◌≤◌, ◌==◌, not, Bool, true, false, cond, List, find, get_or, Option, Some, None, refl, sym, ◌∙◌, ap, arith}
use Rattle.std.specs.Prelude.{option_map}
use Rattle.std.specs.List.{range_with_len}
use Rattle.lx_types.specs.Object.{class_of}
use Rattle.lx_types.specs.declared.object.Class.{Class}
use Rattle.lx_types.specs.declared.object.Class.TheVariants as classes
use Rattle.lx_types.specs.declared.object.PageId.{PageId}
use Rattle.lx_model.specs.Library.{module_of}
use Rattle.page_fix.specs.Fixable.{is_fixable}
use Rattle.page_frames.specs.Residences.{ResidenceFor}
use Rattle.load_model.specs.declared.commands.Command.TheVariants as commands
use Rattle.load_model.specs.declared.commands.Place.{Place}
use Rattle.load_model.specs.declared.commands.Refusal.{Refusal}
use Rattle.load_model.specs.declared.commands.Refusal.TheVariants.{Ended, Range, Invalid, NotTouched}
use Rattle.load_model.specs.declared.deeds.Fresh.{Fresh}
use Rattle.load_model.specs.Modules.{Library, object_at, number_of}
use Rattle.load_model.specs.State.{Residence}
use Rattle.load_model.specs.Entering.{residence_from}
use Rattle.load_model.specs.Memory.{page, pages_over}
use Rattle.load_model.specs.Asks.{is_own}
use Rattle.load_model.specs.Refusals.{touch, share, when, ◌orelse◌, class_refusal, is_outside, covers_invalid, span_refusal, touch_refusal, residence_refusal}
use Rattle.load_model.specs.TouchedPages.{has_page}
use Rattle.load_model.specs.Views.{Holding, mapped_pages}
use Rattle.load_model.specs.ViewAnswers.{seen_process, view_refusal, view_place_refusal, reached_if, reached_named}
use Rattle.process_view.specs.Answering.{IsReachedNamed}
use Rattle.process_view.specs.ProcessViews.{ProcessView, fresh_shown}
use Rattle.process_view.specs.Deeds.{IsSharedPage}
use Rattle.process_view.proofs.Lookups.{place_by_residence}
use Rattle.process_view.proofs.Words.{nowhere}
use Rattle.check_play.specs.Mapping.{residence_at, IsPageIn}

-- ---- what else stands against the place: nothing

-- a place in a residence of a process that has not ended
record IsOpen (lib : Library) (at : Place) (ended : Bool) (r : Option Residence) : Type 0 where
  going : ended ≡ false
  residence : Residence
  reached : r ≡ Some residence
  span : span_refusal lib share residence.«module» at.object at.offset at.len ≡ None

three_none : (a b : Bool) (c : Class) (o : Option Refusal) (n : ℕ) → ((when a Range orelse class_refusal share c orelse when b Invalid) orelse o) ≡ Some (NotTouched n) →
    (when a Range orelse class_refusal share c orelse when b Invalid) ≡ None
three_none true b c o n is = cc
three_none false b classes.Code o n is = cc
three_none false b classes.Private o n is = cc
three_none false true classes.Shared o n is = cc
three_none false false classes.Shared o n is = refl

span_none : (lib : Library) (m object offset len : ℕ) (o : Option Refusal) (n : ℕ) → (span_refusal lib share m object offset len orelse o) ≡ Some (NotTouched n) → span_refusal lib share m object offset len ≡ None
unfolding span_refusal
span_none lib m object offset len o n is = three_none (is_outside lib m object offset len) (covers_invalid lib m object offset len) (class_of (object_at lib m object)) o n is

open_by : (lib : Library) (v : Holding) (at : Place) (n : ℕ) (ended : Bool) (r : Option Residence) → (when ended Ended orelse residence_refusal lib (seen_process v) share at r) ≡ Some (NotTouched n) →
    IsOpen lib at ended r
open_by lib v at n true r is = cc
open_by lib v at n false None is = cc
open_by lib v at n false (Some r) is = record {
  going = refl;
  residence = r;
  reached = refl;
  span = span_none lib r.«module» at.object at.offset at.len (touch_refusal share (seen_process v) r.serial at.object at.offset at.len) n is;
}

is_open : (v : ProcessView) (at : Place) (n : ℕ) → view_refusal v.library v.holding (commands.Shared at) ≡ Some (NotTouched n) → IsOpen v.library at v.holding.ended (reached_named v.library v.holding at.«module»)
unfolding view_refusal
is_open v at n is = open_by v.library v.holding at n v.holding.ended (reached_named v.library v.holding at.«module») is

-- ---- so the place may be touched

touch_none : (a b : Bool) (c : Class) → (when a Range orelse class_refusal share c orelse when b Invalid) ≡ None → (when a Range orelse None orelse when b Invalid) ≡ None
touch_none true b c is = cc
touch_none false b classes.Code is = cc
touch_none false b classes.Private is = cc
touch_none false b classes.Shared is = is

span_touch : (lib : Library) (m object offset len : ℕ) → span_refusal lib share m object offset len ≡ None → span_refusal lib touch m object offset len ≡ None
unfolding span_refusal
span_touch lib m object offset len is = touch_none (is_outside lib m object offset len) (covers_invalid lib m object offset len) (class_of (object_at lib m object)) is

pub going : (v : ProcessView) (at : Place) (n : ℕ) → view_refusal v.library v.holding (commands.Shared at) ≡ Some (NotTouched n) → v.holding.ended ≡ false
going v at n is = (is_open v at n is).going

pub may_touch : (v : ProcessView) (at : Place) (n : ℕ) → view_refusal v.library v.holding (commands.Shared at) ≡ Some (NotTouched n) → view_place_refusal v.library v.holding touch at ≡ None
may_touch v at n is =
    let it = is_open v at n is in
    ap (λ b. when b Ended orelse residence_refusal v.library (seen_process v.holding) touch at (reached_named v.library v.holding at.«module»)) it.going
    ∙ (ap (residence_refusal v.library (seen_process v.holding) touch at) it.reached
    ∙ ap (λ o. o orelse None) (span_touch v.library it.residence.«module» at.object at.offset at.len it.span))

pub is_touchable : (v : ProcessView) (at : Place) (n : ℕ) → view_refusal v.library v.holding (commands.Shared at) ≡ Some (NotTouched n) → view_refusal v.library v.holding (commands.Touch at) ≡ None
unfolding view_refusal
is_touchable v at n is = may_touch v at n is

-- ---- and its object is one that all share

-- in the residence that the view has
module _ (v : ProcessView) (at : Place) (n k : ℕ) (is : view_refusal v.library v.holding (commands.Shared at) ≡ Some (NotTouched n)) (named : IsReachedNamed v at.«module» k) (d : ResidenceFor) where
  same_module : (is_open v at n is).residence.«module» ≡ (residence_at v k d).«module»
  same_module =
      let own : Residence = residence_from (fresh_shown (residence_at v k d)) in
      let there : Some (is_open v at n is).residence ≡ Some own = sym (is_open v at n is).reached ∙ named.residence d in
      let alike : (is_open v at n is).residence ≡ own = cc in
      ap (λ (r : Residence). r.«module») alike

  pub span_open : span_refusal v.library share (residence_at v k d).«module» at.object at.offset at.len ≡ None
  span_open = ap (λ m. span_refusal v.library share m at.object at.offset at.len) (sym same_module) ∙ (is_open v at n is).span

class_none : (a b : Bool) (c : Class) → (when a Range orelse class_refusal share c orelse when b Invalid) ≡ None → not (is_own c) ≡ true
class_none true b c is = cc
class_none false b classes.Code is = cc
class_none false b classes.Private is = cc
class_none false b classes.Shared is = refl

class_shared : (lib : Library) (m object offset len : ℕ) → span_refusal lib share m object offset len ≡ None → not (is_own (class_of (object_at lib m object))) ≡ true
unfolding span_refusal
class_shared lib m object offset len is = class_none (is_outside lib m object offset len) (covers_invalid lib m object offset len) (class_of (object_at lib m object)) is

pub shared_page : (v : ProcessView) (at : Place) (n k number : ℕ) → view_refusal v.library v.holding (commands.Shared at) ≡ Some (NotTouched n) → IsReachedNamed v at.«module» k →
    IsPageIn v k (page at.object number) → (d : ResidenceFor) → IsSharedPage v (residence_at v k d) (page at.object number)
shared_page v at n k number is named there d =
    there.shared d ∙ class_shared v.library (residence_at v k d).«module» at.object at.offset at.len (span_open v at n k is named d)

-- ---- once all its pages are mapped

none_left : (f : ℕ → Bool) (len a : ℕ) → ((n : ℕ) → a ≤ n → n < a + len → f n ≡ true) → find (λ n. not (f n)) (range_with_len a len) ≡ None
none_left f zero a all = refl
none_left f (suc len) a all =
    ap (λ b. cond (not b) (Some a) (find (λ n. not (f n)) (range_with_len (a + 1) len))) (all a (omega arith) (omega arith))
    ∙ none_left f len (a + 1) (λ n low high. all n (omega arith) (omega arith))

all_over : (f : ℕ → Bool) (offset len first end : ℕ) → range_with_len first (end - first) ≡ pages_over offset len → ((n : ℕ) → first ≤ n → n < end → f n ≡ true) →
    find (λ n. not (f n)) (pages_over offset len) ≡ None
all_over f offset len first end pages all =
    ap (λ (ns : List ℕ). find (λ n. not (f n)) ns) (sym pages) ∙ none_left f (end - first) first (λ n low high. all n low (omega arith))

reached_still : (v w : ProcessView) (name : List ℕ) → w.library ≡ v.library → w.holding.residences ≡ v.holding.residences → reached_named w.library w.holding name ≡ reached_named v.library v.holding name
reached_still v w name library residences = ap (λ (lib : Library). reached_named lib w.holding name) library ∙ each (number_of v.library name)
  where
    each : (m : Option ℕ) → reached_if w.holding m ≡ reached_if v.holding m
    each None = refl
    each (Some m) = ap (λ (s : List Fresh). option_map residence_from (find (λ r. r.«module» == m) s)) residences

-- the view does not refuse it
pub accepted_then : (v w : ProcessView) (at : Place) (n k first end : ℕ) → view_refusal v.library v.holding (commands.Shared at) ≡ Some (NotTouched n) → IsReachedNamed v at.«module» k → w.library ≡ v.library →
    w.holding ≡ record v.holding { mapped = w.holding.mapped; front = w.holding.front } → range_with_len first (end - first) ≡ pages_over at.offset at.len →
    ((d : ResidenceFor) (i : ℕ) → first ≤ i → i < end → has_page (mapped_pages w.holding) (residence_at v k d).serial (page at.object i) ≡ true) →
    view_refusal w.library w.holding (commands.Shared at) ≡ None
unfolding view_refusal
accepted_then v w at n k first end is named library holding pages all =
    let d : ResidenceFor = nowhere in
    let r : ResidenceFor = residence_at v k d in
    let ended : w.holding.ended ≡ false = ap (λ (h : Holding). h.ended) holding ∙ going v at n is in
    let reached : reached_named w.library w.holding at.«module» ≡ Some (residence_from (fresh_shown r)) =
    reached_still v w at.«module» library (ap (λ (h : Holding). h.residences) holding) ∙ named.residence d in
    let span : span_refusal w.library share r.«module» at.object at.offset at.len ≡ None =
    ap (λ (lib : Library). span_refusal lib share r.«module» at.object at.offset at.len) library ∙ span_open v at n k is named d in
    let none : touch_refusal share (seen_process w.holding) r.serial at.object at.offset at.len ≡ None =
    ap (option_map NotTouched) (all_over (λ i. has_page (mapped_pages w.holding) r.serial (page at.object i)) at.offset at.len first end pages (all d)) in
    place_by_residence w share at r ended reached ∙ (ap (λ o. o orelse touch_refusal share (seen_process w.holding) r.serial at.object at.offset at.len) span ∙ none)

-- all share it where the view has other pages
pub shared_still : (v w : ProcessView) (k : ℕ) (p : PageId) (d : ResidenceFor) → w.library ≡ v.library → w.residences ≡ v.residences → IsSharedPage v (residence_at v k d) p → IsSharedPage w (residence_at w k d) p
shared_still v w k p d library residences is =
    ap (λ (lib : Library). is_fixable (module_of lib (residence_at w k d).«module») p) library
    ∙ (ap (λ (rs : List ResidenceFor). is_fixable (module_of v.library (get_or rs k d).«module») p) residences ∙ is)
