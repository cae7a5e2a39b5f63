-- What a view finds by place is what it has by name; what it does not refuse of a place.
use Rattle.std.proofs.Common.{◌≡◌, ℕ, zero, suc, ◌+◌, ◌-◌, ◌*◌, ◌/◌, ◌<◌, ◌==◌, ◌&&◌, Bool, true, false, cond, not, List, [], map, length, Option, Some, None, option_map, get_or, MatchOption, refl, sym, ap, ◌∙◌, arith, ◌∷◌}
use Rattle.process_view.proofs.Words.{ArePlaces, at_place, class_of, class_refusal, Ended, find, found_at_place, Fresh, fresh_shown, has_page, Holding, is_none}
use Rattle.process_view.proofs.Words.{is_outside, is_page, is_some, IsReachedAt, IsReachedNamed, Library, list_all, list_any, Mapped, mapped_by_place}
use Rattle.process_view.proofs.Words.{mapped_pages, module_of, NotTouched, nowhere, number_of, object_at, page, PageOf, PagePlaces, pages_over, Parts, Place}
use Rattle.process_view.proofs.Words.{place_in, position, position-Some, position_map, ProcessView, Purpose, purpose_of, Range, range_with_len, reached_if}
use Rattle.process_view.proofs.Words.{reached_named, ReachedResidence, Refusal, residence_from, residence_in, ResidenceFor, same_number, seen_process}
use Rattle.process_view.proofs.Words.{slice_get-get_or, slice_get-map, some_bytes, span_refusal, touch_refusal, touch_refusal_by, view_place_refusal, when}
use Rattle.process_view.proofs.Words.{◌orelse◌}
use Rattle.process_view.proofs.Insides.{find_alike_from, IsInside, bytes_inside, page_inside}
use Rattle.process_view.specs.declared.purposes.Purpose.TheVariants as purposes
use Rattle.process_view.specs.declared.purposes.Purpose as declared
use Rattle.load_model.specs.Refusals as uses

-- ---- what a view finds by place is what it has by name

-- ---- residences

is_module : ℕ → ResidenceFor → Bool
is_module m r = r.«module» == m

pub stay_by_place : (rs : List ResidenceFor) (m : ℕ) → find (λ (s : Fresh). s.«module» == m) (map fresh_shown rs) ≡ option_map fresh_shown (at_place (λ (r : ResidenceFor). r.«module» == m) rs (position (λ (r : ResidenceFor). r.«module» == m) rs))
stay_by_place rs m =
    found_at_place (λ (s : Fresh). s.«module» == m) (map fresh_shown rs) ∙ ap (at_place (λ (s : Fresh). s.«module» == m) (map fresh_shown rs)) (position_map (λ (s : Fresh). s.«module» == m) fresh_shown rs)
    ∙ by_option (position (λ (r : ResidenceFor). r.«module» == m) rs)
  where
    by_option : (o : Option ℕ) → at_place (λ (s : Fresh). s.«module» == m) (map fresh_shown rs) o ≡ option_map fresh_shown (at_place (λ (r : ResidenceFor). r.«module» == m) rs o)
    by_option None = refl
    by_option (Some k) = slice_get-map fresh_shown rs k

-- the view whose residences these are
pub record HasResidences (v : ProcessView) : Type 0 where
  pub residences : v.holding.residences ≡ map fresh_shown v.residences

named_is : (v : ProcessView) (name : List ℕ) (m : ℕ) (place : Option ℕ) → HasResidences v → number_of v.library name ≡ Some m → place ≡ position (λ (r : ResidenceFor). r.«module» == m) v.residences →
    reached_named v.library v.holding name ≡ option_map residence_from (option_map fresh_shown (at_place (λ (r : ResidenceFor). r.«module» == m) v.residences place))
named_is v name m place has e p =
    ap (reached_if v.holding) e ∙ ap (λ (ss : List Fresh). option_map residence_from (find (λ (s : Fresh). s.«module» == m) ss)) has.residences
    ∙ ap (option_map residence_from) (stay_by_place v.residences m)
    ∙ ap (λ (o : Option ℕ). option_map residence_from (option_map fresh_shown (at_place (λ (r : ResidenceFor). r.«module» == m) v.residences o))) (sym p)

pub named_by_place : (v : ProcessView) (name : List ℕ) (m : ℕ) (place : Option ℕ) → HasResidences v → number_of v.library name ≡ Some m → place ≡ position (λ (r : ResidenceFor). r.«module» == m) v.residences →
    MatchOption place (reached_named v.library v.holding name ≡ None) (IsReachedNamed v name)
named_by_place v name m None has e p = named_is v name m None has e p
named_by_place v name m (Some k) has e p =
    let within : (d : ResidenceFor) → k < length v.residences = λ d. (position-Some (λ (r : ResidenceFor). r.«module» == m) v.residences k d (sym p)).0 in
    let is : (d : ResidenceFor) → (get_or v.residences k d).«module» ≡ m = λ d. same_number _ _ ((position-Some (λ (r : ResidenceFor). r.«module» == m) v.residences k d (sym p)).1) in
    record {
      within = within nowhere;
      named = λ d. e ∙ ap (λ (n : ℕ). Some n) (sym (is d));
      residence = λ d.
          named_is v name m (Some k) has e p
          ∙ ap (λ (o : Option ResidenceFor). option_map residence_from (option_map fresh_shown o)) (slice_get-get_or v.residences k d (within d));
    }

pub no_name : (v : ProcessView) (name : List ℕ) → number_of v.library name ≡ None → reached_named v.library v.holding name ≡ None
no_name v name e = ap (reached_if v.holding) e

-- ---- pages

none_is_not : (o : Option ℕ) → is_none o ≡ not (is_some o)
none_is_not None = refl
none_is_not (Some k) = refl

-- two tests that agree on the pages that bytes cover find the same
pub found_alike : (p q : ℕ → Bool) (offset len : ℕ) → ((n : ℕ) → n * 4096 < offset + len → p n ≡ q n) → find p (pages_over offset len) ≡ find q (pages_over offset len)
found_alike p q offset zero h = refl
found_alike p q offset (suc l) h =
    let some : (suc l == 0) ≡ false = some_bytes l in
    ap (λ b. find p (cond b [] (range_with_len (offset / 4096) ((offset + suc l - 1) / 4096 + 1 - offset / 4096)))) some
    ∙ find_alike_from p q (offset / 4096) ((offset + suc l - 1) / 4096 + 1 - offset / 4096) (λ j u v. h j (omega arith))
    ∙ sym (ap (λ b. find q (cond b [] (range_with_len (offset / 4096) ((offset + suc l - 1) / 4096 + 1 - offset / 4096)))) some)

pub unmapped_alike : (lib : Library) (m serial : ℕ) (rows : PagePlaces) (v : Holding) (object offset len : ℕ) → ArePlaces (module_of lib m) serial rows v.mapped → IsInside lib m object offset len →
    find (λ n. is_none (place_in rows (page object n))) (pages_over offset len) ≡
    find (λ n. not (list_any (λ (t : PageOf). (t.serial == serial) && is_page t.page (page object n)) (map (λ (p : Mapped). p.of) v.mapped))) (pages_over offset len)
unmapped_alike lib m serial rows v object offset len are is =
    found_alike (λ n. is_none (place_in rows (page object n))) (λ n. not (list_any (λ (t : PageOf). (t.serial == serial) && is_page t.page (page object n)) (map (λ (p : Mapped). p.of) v.mapped))) offset len
    (λ n before. none_is_not (place_in rows (page object n)) ∙ ap not (sym (mapped_by_place (module_of lib m) serial rows v.mapped object n are is.there (page_inside lib m object offset len n is before))))

pub touch_alike : (lib : Library) (m serial : ℕ) (rows : PagePlaces) (v : Holding) (purpose : declared.Purpose) (at : Place) → ArePlaces (module_of lib m) serial rows v.mapped → IsInside lib m at.object at.offset at.len →
    touch_refusal_by purpose rows at ≡ touch_refusal (purpose_of purpose) (seen_process v) serial at.object at.offset at.len
touch_alike lib m serial rows v purposes.Touch at are is = refl
touch_alike lib m serial rows v purpose at are is = ap (λ (o : Option ℕ). option_map NotTouched o) (unmapped_alike lib m serial rows v at.object at.offset at.len are is)

-- ---- refusals of places

no_range : (b : Bool) (rest : Option Refusal) → (when b Range orelse rest) ≡ None → b ≡ false
no_range true rest e = absurd cc
no_range false rest e = refl

pub span_is_inside : (lib : Library) (purpose : Purpose) (m object offset len : ℕ) → span_refusal lib purpose m object offset len ≡ None → IsInside lib m object offset len
unfolding span_refusal
span_is_inside lib purpose m object offset len e = bytes_inside lib m object offset len (no_range (is_outside lib m object offset len) _ e)

-- by what is refused of the residence that a name means
pub place_by_residence : (v : ProcessView) (purpose : Purpose) (at : Place) (r : ResidenceFor) → v.holding.ended ≡ false → reached_named v.library v.holding at.«module» ≡ Some (residence_from (fresh_shown r)) →
    view_place_refusal v.library v.holding purpose at ≡
    (span_refusal v.library purpose r.«module» at.object at.offset at.len orelse touch_refusal purpose (seen_process v.holding) r.serial at.object at.offset at.len)
place_by_residence v purpose at r going residence = rw (going, residence) refl

-- what is refused of the span in it, by the library and the module's number
pub span_there : (v : ProcessView) (purpose : Purpose) (at : Place) (r : ResidenceFor) (lib : List Parts) (m : ℕ) (o : Option Refusal) → lib ≡ v.library → m ≡ r.«module» → o ≡ span_refusal lib purpose m at.object at.offset at.len →
    span_refusal v.library purpose r.«module» at.object at.offset at.len ≡ o
span_there v purpose at r lib m o e f is = sym (is ∙ ap (λ (l : List Parts). span_refusal l purpose m at.object at.offset at.len) e ∙ ap (λ (n : ℕ). span_refusal v.library purpose n at.object at.offset at.len) f)

-- what is refused of a place there, by the places of its pages
pub place_refused : (w : ProcessView) (purpose : declared.Purpose) (at : Place) (k : ℕ) (s : ReachedResidence) → w.holding.ended ≡ false → IsReachedNamed w at.«module» k → IsReachedAt w k s →
    view_place_refusal w.library w.holding (purpose_of purpose) at ≡
    (span_refusal w.library (purpose_of purpose) (residence_in s).«module» at.object at.offset at.len orelse touch_refusal_by purpose s.places at)
place_refused w purpose at k s going named is =
    place_by_residence w (purpose_of purpose) at (residence_in s) going (named.residence (residence_in s) ∙ ap (λ (r : ResidenceFor). Some (residence_from (fresh_shown r))) (is.is (residence_in s)))
    ∙ by_span (span_refusal w.library (purpose_of purpose) (residence_in s).«module» at.object at.offset at.len) refl
  where
    by_span : (o : Option Refusal) → span_refusal w.library (purpose_of purpose) (residence_in s).«module» at.object at.offset at.len ≡ o →
        (o orelse touch_refusal (purpose_of purpose) (seen_process w.holding) (residence_in s).serial at.object at.offset at.len) ≡ (o orelse touch_refusal_by purpose s.places at)
    by_span (Some x) e = refl
    by_span None e =
        sym
        (touch_alike w.library (residence_in s).«module» (residence_in s).serial s.places w.holding purpose at is.placed.places
        (span_is_inside w.library (purpose_of purpose) (residence_in s).«module» at.object at.offset at.len e))

-- ---- what a view does not refuse of a place: where it lies, and that its pages are mapped

-- ---- refusals that are none

pub never : (o : Option Refusal) (x : Refusal) → o ≡ None → o ≡ Some x → ⊥
never o x e f = let it : None ≡ Some x = sym e ∙ f in absurd cc

pub nothing : (o p : Option Refusal) → (o orelse p) ≡ None → (o ≡ None) × (p ≡ None)
nothing None p e = (refl, e)
nothing (Some x) p e = absurd cc

pub no_page : (o : Option ℕ) → option_map NotTouched o ≡ None → o ≡ None
no_page None e = refl
no_page (Some n) e = absurd cc

pub still_going : (b : Bool) (p : Option Refusal) → (when b Ended orelse p) ≡ None → b ≡ false
still_going true p e = absurd cc
still_going false p e = refl

found_none : (p : ℕ → Bool) (xs : List ℕ) → find (λ n. not (p n)) xs ≡ None → list_all p xs ≡ true
found_none p [] e = refl
found_none p (x ∷ xs) e = by_test (p x) refl (found_none p xs)
  where
    by_test : (b : Bool) → p x ≡ b → (find (λ n. not (p n)) xs ≡ None → list_all p xs ≡ true) → (p x && list_all p xs) ≡ true
    by_test true is later = ap (λ b. b && list_all p xs) is ∙ later (sym (ap (λ b. cond (not b) (Some x) (find (λ n. not (p n)) xs)) is) ∙ e)
    by_test false is later = absurd (let it : Some x ≡ None = sym (ap (λ b. cond (not b) (Some x) (find (λ n. not (p n)) xs)) is) ∙ e in cc)

-- ---- places

-- the place may be used so, in a residence
pub record IsUsed (v : ProcessView) (purpose : uses.Purpose) (at : Place) (r : ResidenceFor) : Type 0 where
  pub inside : IsInside v.library r.«module» at.object at.offset at.len
  pub class : class_refusal purpose (class_of (object_at v.library r.«module» at.object)) ≡ None
  pub touched : touch_refusal purpose (seen_process v.holding) r.serial at.object at.offset at.len ≡ None

class_let : (lib : Library) (purpose : uses.Purpose) (m object offset len : ℕ) → span_refusal lib purpose m object offset len ≡ None → class_refusal purpose (class_of (object_at lib m object)) ≡ None
unfolding span_refusal
class_let lib purpose m object offset len e = (nothing _ _ (nothing _ _ e).1).0

pub is_used : (v : ProcessView) (purpose : uses.Purpose) (at : Place) (k : ℕ) (d : ResidenceFor) → view_place_refusal v.library v.holding purpose at ≡ None → IsReachedNamed v at.«module» k → IsUsed v purpose at (get_or v.residences k d)
is_used v purpose at k d e is =
    let r = get_or v.residences k d in
    let both = nothing _ _ (sym (place_by_residence v purpose at r (still_going v.holding.ended _ e) (is.residence d)) ∙ e) in
    record {
      inside = span_is_inside v.library purpose r.«module» at.object at.offset at.len both.0;
      class = class_let v.library purpose r.«module» at.object at.offset at.len both.0;
      touched = both.1;
    }

-- all its pages are mapped, where it is not for a touch
pub mapped_used : (v : ProcessView) (purpose : uses.Purpose) (at : Place) (r : ResidenceFor) → (purpose ≡ uses.touch → ⊥) → IsUsed v purpose at r →
    list_all (λ i. has_page (mapped_pages v.holding) r.serial (page at.object i)) (pages_over at.offset at.len) ≡ true
mapped_used v uses.touch at r other is = absurd (other refl)
mapped_used v purpose at r other is = found_none (λ i. has_page (mapped_pages v.holding) r.serial (page at.object i)) (pages_over at.offset at.len) (no_page _ is.touched)
