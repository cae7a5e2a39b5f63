-- Pages that a view maps, one after another, in a residence that its process reaches.
use Rattle.std.proofs.Common.{◌≡◌, ℕ, zero, suc, ◌+◌, ◌-◌, ◌*◌, ◌/◌, ◌^◌, ◌<◌, ◌≤◌, ◌==◌, ◌&&◌, ◌||◌, not, Bool, true, false, cond, List, [], ◌∷◌, ◌++◌, length, get_or, None, refl, sym, ap, ◌∙◌, subst, arith, append_assoc, append-nil}
use Rattle.std.specs.List.{list_any, list_all, range_with_len}
use Rattle.std.proofs.lemmas.List.{get_or_default, map-append}
use Rattle.std.proofs.lemmas.List.Folds.{list_any-append, list_all-append}
use Rattle.std.proofs.lemmas.Bool.{or_parts, eqb-true, eqb-false}
use Rattle.lx_types.specs.Object.{class_of, pages_of}
use Rattle.lx_types.specs.Parts.{object_of}
use Rattle.lx_types.specs.Sound.{IsNumberOf}
use Rattle.lx_types.specs.declared.object.Class.{Class}
use Rattle.lx_types.specs.declared.object.Class.TheVariants as classes
use Rattle.lx_types.specs.declared.object.PageId.{PageId}
use Rattle.lx_types.specs.declared.parts.Parts.{Parts}
use Rattle.lx_model.specs.Library.{module_of}
use Rattle.lx_model.specs.ModuleBytes.{fixed_page}
use Rattle.page_fix.specs.Fixable.{has_shared_pages, is_fixable}
use Rattle.page_frames.specs.Residences.{ResidenceFor}
use Rattle.load_model.specs.declared.commands.Place.{Place}
use Rattle.load_model.specs.declared.commands.Refusal.TheVariants.{Range, Invalid}
use Rattle.load_model.specs.Modules.{Library, fixed_bytes, objects_of, object_at, is_invalid}
use Rattle.load_model.specs.State.{PageOf, is_among}
use Rattle.load_model.specs.Memory.{is_page, page, pages_over}
use Rattle.load_model.specs.Asks.{is_own}
use Rattle.load_model.specs.Refusals.{touch, when, ◌orelse◌, is_outside, covers_invalid, span_refusal, touch_refusal}
use Rattle.load_model.specs.ResidenceBases.{ResidentsFit}
use Rattle.load_model.specs.Histories.{has_fault}
use Rattle.load_model.specs.TouchedPages.{has_page}
use Rattle.load_model.specs.Views.{Mapped, Holding, mapped_pages}
use Rattle.load_model.specs.ViewAnswers.{seen_process, view_place_refusal}
use Rattle.load_model.proofs.Bools.{and_left, and_right, or_false}
use Rattle.load_model.proofs.Bytes.{left_none}
use Rattle.load_model.proofs.ViewReplies.{residence_is}
use Rattle.load_core.specs.BoardState.{BoardState, IsLegal, state_of}
use Rattle.merge_laws.specs.OwnStates.{is_fixed}
use Rattle.process_view.specs.Answering.{IsReachedNamed}
use Rattle.process_view.specs.ProcessViews.{ProcessView, StandsAt, at_front, without_room}
use Rattle.process_view.specs.Deeds.{CanMap, IsFixedIn, with_page}
use Rattle.process_view.specs.PageLaws.{PagesStand}
use Rattle.process_view.proofs.Words.{nowhere, some_bytes, page_with}
use Rattle.process_view.proofs.Claims.{shared_by}
use Rattle.process_view.proofs.Insides.{IsInside, page_inside}
use Rattle.process_view.proofs.Lookups.{place_by_residence, span_is_inside, still_going}
use Rattle.process_view.proofs.Shown.{attached, shown_at}
use Rattle.check_play.specs.Standing.{StandsShown}
use Rattle.check_play.specs.Mapping.{residence_at, IsPageIn, pages_in, AreFixedOn, HasMore}

-- ---- the pages of a place

-- the first page and all up to the end are among those that the bytes cover
among_range : (len a n : ℕ) → a ≤ n → n < a + len → is_among (range_with_len a len) n ≡ true
among_range zero a n low high = absurd (omega arith)
among_range (suc len) a n low high = by_test (a == n) refl (λ more. among_range len (a + 1) n more (omega arith))
  where
    by_test : (b : Bool) → (a == n) ≡ b → (a + 1 ≤ n → is_among (range_with_len (a + 1) len) n ≡ true) → (a == n) || is_among (range_with_len (a + 1) len) n ≡ true
    by_test true is later = ap (λ c. c || is_among (range_with_len (a + 1) len) n) is
    by_test false is later =
        let apart : a ≡ n → ⊥ = eqb-false a n is in
        ap (λ c. c || is_among (range_with_len (a + 1) len) n) is ∙ later (omega arith)

pub among_pages : (at : Place) (first end n : ℕ) → range_with_len first (end - first) ≡ pages_over at.offset at.len → first ≤ n → n < end → is_among (pages_over at.offset at.len) n ≡ true
among_pages at first end n pages low high = ap (λ (ns : List ℕ). is_among ns n) (sym pages) ∙ among_range (end - first) first n low (omega arith)

below_end : (len a n : ℕ) → is_among (range_with_len a len) n ≡ true → n < a + len
below_end zero a n among = cc
below_end (suc len) a n among = by_test (a == n) refl among (below_end len (a + 1) n)
  where
    by_test : (b : Bool) → (a == n) ≡ b → (a == n) || is_among (range_with_len (a + 1) len) n ≡ true → (is_among (range_with_len (a + 1) len) n ≡ true → n < (a + 1) + len) → n < a + suc len
    by_test true is found later = (let same : a ≡ n = eqb-true a n is in omega arith)
    by_test false is found later = (let more = later (sym (ap (λ c. c || is_among (range_with_len (a + 1) len) n) is) ∙ found) in omega arith)

-- each begins before the end of the bytes
begins_before : (offset len n : ℕ) → is_among (pages_over offset len) n ≡ true → n * 4096 < offset + len
begins_before offset zero n among = cc
begins_before offset (suc l) n among =
    let there : is_among (range_with_len (offset / 4096) ((offset + suc l - 1) / 4096 + 1 - offset / 4096)) n ≡ true =
    sym (ap (λ b. is_among (cond b [] (range_with_len (offset / 4096) ((offset + suc l - 1) / 4096 + 1 - offset / 4096))) n) (some_bytes l)) ∙ among in
    let low : n < offset / 4096 + ((offset + suc l - 1) / 4096 + 1 - offset / 4096) = below_end ((offset + suc l - 1) / 4096 + 1 - offset / 4096) (offset / 4096) n there in
    omega arith

-- ---- a place that may be touched

none_invalid : (lib : Library) (m object offset len : ℕ) → span_refusal lib touch m object offset len ≡ None → covers_invalid lib m object offset len ≡ false
unfolding span_refusal
none_invalid lib m object offset len is = by_tests (is_outside lib m object offset len) (covers_invalid lib m object offset len) is
  where
    by_tests : (a b : Bool) → (when a Range orelse None orelse when b Invalid) ≡ None → b ≡ false
    by_tests true b e = cc
    by_tests false true e = cc
    by_tests false false e = refl

end_short : (lib : Library) (m object offset len : ℕ) → IsInside lib m object offset len → (object_at lib m object).size ≤ 2 ^ 28 → offset + len ≤ 268435456
unfolding object_at
end_short lib m object offset len inside small =
    let within = inside.within in
    let here : (object_of (module_of lib m) object).size ≤ 2 ^ 28 = small in
    omega arith

number_in : (lib : Library) (m object offset len : ℕ) → IsInside lib m object offset len → IsNumberOf object (length (objects_of lib m))
unfolding objects_of
number_in lib m object offset len inside = inside.there

none_of : (p : ℕ → Bool) (xs : List ℕ) (n : ℕ) → list_any p xs ≡ false → is_among xs n ≡ true → p n ≡ false
none_of p [] n none among = cc
none_of p (x ∷ xs) n none among = by_test (x == n) refl (none_of p xs n (or_parts (p x) (list_any p xs) none).1)
  where
    by_test : (b : Bool) → (x == n) ≡ b → (is_among xs n ≡ true → p n ≡ false) → p n ≡ false
    by_test true e later = (let same : x ≡ n = eqb-true x n e in ap p (sym same) ∙ (or_parts (p x) (list_any p xs) none).0)
    by_test false e later = later (sym (ap (λ (b : Bool). b || is_among xs n) e) ∙ among)

shared_not_own : (c : Class) → has_shared_pages c && not false ≡ not (is_own c)
shared_not_own classes.Code = refl
shared_not_own classes.Private = refl
shared_not_own classes.Shared = refl

module _ (fit : ResidentsFit) (b : BoardState) (v : ProcessView) (at : Place) (k : ℕ) (legal : IsLegal b) (stands : StandsShown b v)
    (fine : view_place_refusal v.library v.holding touch at ≡ None) (named : IsReachedNamed v at.«module» k) where
  span_fine : (d : ResidenceFor) → span_refusal v.library touch (residence_at v k d).«module» at.object at.offset at.len ≡ None
  span_fine d =
      let r : ResidenceFor = residence_at v k d in
      left_none (span_refusal v.library touch r.«module» at.object at.offset at.len) (touch_refusal touch (seen_process v.holding) r.serial at.object at.offset at.len)
      (sym (place_by_residence v touch at r (still_going v.holding.ended _ fine) (named.residence d)) ∙ fine)

  inside : (d : ResidenceFor) → IsInside v.library (residence_at v k d).«module» at.object at.offset at.len
  inside d = span_is_inside v.library touch (residence_at v k d).«module» at.object at.offset at.len (span_fine d)

  short : at.offset + at.len ≤ 268435456
  short =
      let r : ResidenceFor = residence_at v k nowhere in
      let own = attached b (at_front (length b.history) v) k r stands named.within (get_or_default v.residences k nowhere r named.within) in
      let there : IsInside b.library r.«module» at.object at.offset at.len = subst (λ (lib : Library). IsInside lib r.«module» at.object at.offset at.len) stands.library (inside nowhere) in
      let size = fit b.library b.failing (fixed_bytes b.library) b.history r.«module» at.object own.0 legal
      (residence_is b.library (state_of b) v.holding.pid r.«module» own.0 own.1.there) (number_in b.library r.«module» at.object at.offset at.len there) in
      end_short b.library r.«module» at.object at.offset at.len there size.1

  -- each of its pages is one that the view can map
  pub page_of_place : (n : ℕ) → is_among (pages_over at.offset at.len) n ≡ true → IsPageIn v k (page at.object n)
  page_of_place n among =
      let before : n * 4096 < at.offset + at.len = begins_before at.offset at.len n among in
      let within : (d : ResidenceFor) → n < pages_of (object_of (module_of v.library (residence_at v k d).«module») at.object) =
      λ d. page_inside v.library (residence_at v k d).«module» at.object at.offset at.len n (inside d) before in
      let low = short in
      record {
        residence = named.within;
        object = λ d. (inside d).there;
        page = within;
        small = omega arith;
        library = λ d.
            ap (λ (r : ResidenceFor). r.library)
            (shown_at b.library (state_of b) v.residences k (residence_at v k d) stands.shown named.within (get_or_default v.residences k d (residence_at v k d) named.within))
            ∙ sym stands.library;
        shared = λ d.
            let m : ℕ = (residence_at v k d).«module» in
            let valid : is_invalid v.library m (page at.object n) ≡ false =
            none_of (λ (i : ℕ). is_invalid v.library m (page at.object i)) (pages_over at.offset at.len) n
            (none_invalid v.library m at.object at.offset at.len (span_fine d)) among in
            shared_by v.library m (page at.object n) (inside d).there (within d)
            ∙ (ap (λ (z : Bool). has_shared_pages (class_of (object_at v.library m at.object)) && not z) valid ∙ shared_not_own (class_of (object_at v.library m at.object)));
      }

-- ---- one page

-- it is one as well where the view has other pages, or room for more of them
pub still_in : (v w : ProcessView) (k : ℕ) (p : PageId) → w.library ≡ v.library → w.residences ≡ v.residences → IsPageIn v k p → IsPageIn w k p
still_in v w k p library residences is =
    let P : List Parts → List ResidenceFor → Type 0 = λ lib rs. (d : ResidenceFor) → IsNumberOf p.object (length (module_of lib (get_or rs k d).«module»).objects) in
    let Q : List Parts → List ResidenceFor → Type 0 = λ lib rs. (d : ResidenceFor) → p.page < pages_of (object_of (module_of lib (get_or rs k d).«module») p.object) in
    let R : List Parts → List ResidenceFor → Type 0 = λ lib rs. (d : ResidenceFor) → (get_or rs k d).library ≡ lib in
    let S : List Parts → List ResidenceFor → Type 0 =
    λ lib rs. (d : ResidenceFor) → is_fixable (module_of lib (get_or rs k d).«module») p ≡ not (is_own (class_of (object_at lib (get_or rs k d).«module» p.object))) in
    record {
      residence = subst (λ (rs : List ResidenceFor). k < length rs) (sym residences) is.residence;
      object = subst (λ (lib : List Parts). P lib w.residences) (sym library) (subst (P v.library) (sym residences) is.object);
      page = subst (λ (lib : List Parts). Q lib w.residences) (sym library) (subst (Q v.library) (sym residences) is.page);
      small = is.small;
      library = subst (λ (lib : List Parts). R lib w.residences) (sym library) (subst (R v.library) (sym residences) is.library);
      shared = subst (λ (lib : List Parts). S lib w.residences) (sym library) (subst (S v.library) (sym residences) is.shared);
    }

pub can_map : (v : ProcessView) (k : ℕ) (p : PageId) (d : ResidenceFor) → IsPageIn v k p → has_page (mapped_pages v.holding) (residence_at v k d).serial p ≡ false → CanMap v (residence_at v k d) p
can_map v k p d is apart = record { object = is.object d; page = is.page d; small = is.small; apart = apart; library = is.library d }

-- the same in a view with more room
module _ (v u : ProcessView) (k : ℕ) (p : PageId) (bare : without_room u ≡ without_room v) (is : IsPageIn v k p) where
  pub roomy_in : IsPageIn u k p
  roomy_in = still_in v u k p (ap (λ (x : ProcessView). x.library) bare) (ap (λ (x : ProcessView). x.residences) bare) is

  pub roomy_apart : ((d : ResidenceFor) → has_page (mapped_pages v.holding) (residence_at v k d).serial p ≡ false) → (d : ResidenceFor) → has_page (mapped_pages u.holding) (residence_at u k d).serial p ≡ false
  roomy_apart apart d = ap (λ (x : ProcessView). has_page (mapped_pages x.holding) (residence_at x k d).serial p) bare ∙ apart d

  pub roomy_can : ((d : ResidenceFor) → has_page (mapped_pages v.holding) (residence_at v k d).serial p ≡ false) → (d : ResidenceFor) → CanMap u (residence_at u k d) p
  roomy_can apart d = can_map u k p d roomy_in (roomy_apart apart d)

-- what a view can that was shown more
pub can_map_shown : (v : ProcessView) (n : ℕ) (r : ResidenceFor) (p : PageId) → CanMap v r p → CanMap (at_front n v) r p
can_map_shown v n r p can = record { object = can.object; page = can.page; small = can.small; apart = can.apart; library = can.library }

-- room counts for nothing
pub roomless : (b : BoardState) (v w : ProcessView) → without_room w ≡ without_room v → StandsShown b v → StandsShown b w
roomless b v w bare stands =
    let n : ℕ = length b.history in
    let less : StandsAt b (at_front n (without_room v)) = record { library = stands.library; residences = stands.residences; stands = stands.stands; shown = stands.shown } in
    let moved : StandsAt b (at_front n (without_room w)) = subst (λ (u : ProcessView). StandsAt b (at_front n u)) (sym bare) less in
    record { library = moved.library; residences = moved.residences; stands = moved.stands; shown = moved.shown }

-- ---- what is fixed

fixed_by : (own had : Bool) → (own || had) && true ≡ true → own ≡ false → had ≡ true
fixed_by true had is shared = cc
fixed_by false true is shared = refl
fixed_by false false is shared = cc

pub had_its_fault : (b : BoardState) (v : ProcessView) (r : ResidenceFor) (p : PageId) → v.library ≡ b.library → AreFixedOn b r p.object (p.page ∷ []) →
    is_own (class_of (object_at v.library r.«module» p.object)) ≡ false → has_fault b.history r.serial p ≡ true
had_its_fault b v r p library fixed shared =
    fixed_by (is_own (class_of (object_at b.library r.«module» p.object))) (has_fault b.history r.serial p) fixed
    (ap (λ (lib : Library). is_own (class_of (object_at lib r.«module» p.object))) (sym library) ∙ shared)

-- ---- one page more

-- a page that is mapped, at a board where it is a private one or had its fault
pub mapped_stands : PagesStand → (b : BoardState) (v : ProcessView) (k : ℕ) (p : PageId) (d : ResidenceFor) → IsLegal b → StandsShown b v → k < length v.residences → CanMap v (residence_at v k d) p →
    (is_own (class_of (object_at v.library (residence_at v k d).«module» p.object)) ≡ false → has_fault b.history (residence_at v k d).serial p ≡ true) →
    StandsShown b (with_page (residence_at v k d) p (fixed_page v.library (residence_at v k d).«module» (residence_at v k d).bases p) v)
mapped_stands stand b v k p d legal stands within can had =
    let r : ResidenceFor = residence_at v k d in
    let n : ℕ = length b.history in
    stand b (at_front n v) k r p legal stands within (get_or_default v.residences k d r within) (can_map_shown v n r p can) had

pages_more : (v : ProcessView) (r : ResidenceFor) (p : PageId) (bytes : List ℕ) → mapped_pages (with_page r p bytes v).holding ≡ mapped_pages v.holding ++ pages_in r p.object (p.page ∷ [])
pages_more v r p bytes = map-append (λ (m : Mapped). m.of) v.holding.mapped (page_with r p bytes ∷ [])

-- the view with that page has it beside its own
pub with_one : PagesStand → (v : ProcessView) (k : ℕ) (p : PageId) (d : ResidenceFor) → IsPageIn v k p → has_page (mapped_pages v.holding) (residence_at v k d).serial p ≡ false →
    HasMore v (with_page (residence_at v k d) p (fixed_page v.library (residence_at v k d).«module» (residence_at v k d).bases p) v) (residence_at v k d) p.object (p.page ∷ [])
with_one stand v k p d is apart =
    let r : ResidenceFor = residence_at v k d in
    let bytes : List ℕ = fixed_page v.library r.«module» r.bases p in
    record {
      library = refl;
      residences = refl;
      holding = refl;
      mapped = λ serial q. ap (λ (ts : List PageOf). has_page ts serial q) (pages_more v r p bytes);
      stands = λ b legal fixed stands. mapped_stands stand b v k p d legal stands is.residence (can_map v k p d is apart) (had_its_fault b v r p stands.library fixed);
    }

-- a view with more room maps the same
pub roomy_more : (v u w : ProcessView) (r : ResidenceFor) (object : ℕ) (ns : List ℕ) → without_room u ≡ without_room v → HasMore u w r object ns → HasMore v w r object ns
roomy_more v u w r object ns bare more =
    let same : u.holding ≡ v.holding = ap (λ (x : ProcessView). x.holding) bare in
    record {
      library = more.library ∙ ap (λ (x : ProcessView). x.library) bare;
      residences = more.residences ∙ ap (λ (x : ProcessView). x.residences) bare;
      holding = more.holding ∙ ap (λ (h : Holding). record h { mapped = w.holding.mapped }) same;
      mapped = λ serial q. more.mapped serial q ∙ ap (λ (h : Holding). has_page (mapped_pages h ++ pages_in r object ns) serial q) same;
      stands = λ b legal fixed stands. more.stands b legal fixed (roomless b v u bare stands);
    }

-- one page was mapped, in a view that found room for it
pub one_more : PagesStand → (v u w : ProcessView) (k : ℕ) (p : PageId) → without_room u ≡ without_room v → IsPageIn v k p → ((d : ResidenceFor) → has_page (mapped_pages v.holding) (residence_at v k d).serial p ≡ false) →
    ((d : ResidenceFor) → IsFixedIn u w (residence_at u k d) p) → (d : ResidenceFor) → HasMore v w (residence_at v k d) p.object (p.page ∷ [])
one_more stand v u w k p bare is apart fixed d =
    let more : HasMore u w (residence_at u k d) p.object (p.page ∷ []) =
    subst (λ (x : ProcessView). HasMore u x (residence_at u k d) p.object (p.page ∷ [])) (sym (fixed d)) (with_one stand u k p d (roomy_in v u k p bare is) (roomy_apart v u k p bare is apart d)) in
    subst (λ (r : ResidenceFor). HasMore v w r p.object (p.page ∷ [])) (ap (λ (x : ProcessView). residence_at x k d) bare)
    (roomy_more v u w (residence_at u k d) p.object (p.page ∷ []) bare more)

-- ---- pages that were mapped before

page_alone : (a b : PageId) → is_page a b ≡ true → a ≡ b
page_alone a b is = λ i. record {
  object = eqb-true a.object b.object (and_left (a.object == b.object) (a.page == b.page) is) i;
  page = eqb-true a.page b.page (and_right (a.object == b.object) (a.page == b.page) is) i;
}

pub was_mapped : (v : ProcessView) (r : ResidenceFor) (p : PageId) → has_page (mapped_pages v.holding) r.serial p ≡ true → HasMore v v r p.object (p.page ∷ [])
was_mapped v r p there = record {
  library = refl;
  residences = refl;
  holding = refl;
  mapped = λ serial q.
      by_test serial q ((r.serial == serial) && is_page p q) refl
      ∙ sym (list_any-append (λ (t : PageOf). (t.serial == serial) && is_page t.page q) (mapped_pages v.holding) (pages_in r p.object (p.page ∷ [])));
  stands = λ b legal fixed stands. stands;
}
  where
    by_test : (serial : ℕ) (q : PageId) (c : Bool) → ((r.serial == serial) && is_page p q) ≡ c →
        has_page (mapped_pages v.holding) serial q ≡ has_page (mapped_pages v.holding) serial q || (((r.serial == serial) && is_page p q) || false)
    by_test serial q true is =
        let number : r.serial ≡ serial = eqb-true r.serial serial (and_left (r.serial == serial) (is_page p q) is) in
        let same : p ≡ q = page_alone p q (and_right (r.serial == serial) (is_page p q) is) in
        let here : has_page (mapped_pages v.holding) serial q ≡ true =
        ap (λ (n : ℕ). has_page (mapped_pages v.holding) n q) (sym number) ∙ (ap (λ (x : PageId). has_page (mapped_pages v.holding) r.serial x) (sym same) ∙ there) in
        here ∙ sym (ap (λ (z : Bool). z || (((r.serial == serial) && is_page p q) || false)) here)
    by_test serial q false is = sym (ap (λ (z : Bool). has_page (mapped_pages v.holding) serial q || (z || false)) is ∙ or_false (has_page (mapped_pages v.holding) serial q))

-- ---- several pages

pub none_more : (v : ProcessView) (r : ResidenceFor) (object : ℕ) → HasMore v v r object []
none_more v r object = record {
  library = refl;
  residences = refl;
  holding = refl;
  mapped = λ serial q. ap (λ (ts : List PageOf). has_page ts serial q) (sym (append-nil (mapped_pages v.holding)));
  stands = λ b legal fixed stands. stands;
}

-- the same pages in two steps
joined_pages : (a b c x y : List PageOf) (serial : ℕ) (q : PageId) → has_page b serial q ≡ has_page (a ++ x) serial q → has_page c serial q ≡ has_page (b ++ y) serial q → has_page c serial q ≡ has_page (a ++ (x ++ y)) serial q
joined_pages a b c x y serial q first second =
    let test : PageOf → Bool = λ t. (t.serial == serial) && is_page t.page q in
    second ∙ (list_any-append test b y ∙ (ap (λ (z : Bool). z || has_page y serial q) first ∙ (sym (list_any-append test (a ++ x) y) ∙ ap (λ (ts : List PageOf). has_page ts serial q) (append_assoc a x y))))

pub more_after : (u v w : ProcessView) (r : ResidenceFor) (object : ℕ) (ns ms : List ℕ) → HasMore u v r object ns → HasMore v w r object ms → HasMore u w r object (ns ++ ms)
more_after u v w r object ns ms first second = record {
  library = second.library ∙ first.library;
  residences = second.residences ∙ first.residences;
  holding = second.holding ∙ ap (λ (h : Holding). record h { mapped = w.holding.mapped }) first.holding;
  mapped = λ serial q.
      joined_pages (mapped_pages u.holding) (mapped_pages v.holding) (mapped_pages w.holding) (pages_in r object ns) (pages_in r object ms) serial q (first.mapped serial q) (second.mapped serial q)
      ∙ ap (λ (ts : List PageOf). has_page (mapped_pages u.holding ++ ts) serial q) (sym (map-append (λ n. record { serial = r.serial; page = page object n }) ns ms));
  stands = λ b legal fixed stands.
      let test : ℕ → Bool = λ n. is_fixed b.library b.history r.serial r.«module» (page object n) in
      let both : list_all test ns && list_all test ms ≡ true = sym (list_all-append test ns ms) ∙ fixed in
      second.stands b legal (and_right (list_all test ns) (list_all test ms) both) (first.stands b legal (and_left (list_all test ns) (list_all test ms) both) stands);
}

-- a page more of the residence that the view had before
pub next_more : (u v w : ProcessView) (k object n : ℕ) (ns : List ℕ) (d : ResidenceFor) → HasMore u v (residence_at u k d) object ns → HasMore v w (residence_at v k d) object (n ∷ []) →
    HasMore u w (residence_at u k d) object (ns ++ n ∷ [])
next_more u v w k object n ns d first second =
    more_after u v w (residence_at u k d) object ns (n ∷ []) first
    (subst (λ (r : ResidenceFor). HasMore v w r object (n ∷ [])) (ap (λ (rs : List ResidenceFor). get_or rs k d) first.residences) second)

-- ---- numbers from one on

last_one : (a n j : ℕ) → a + n ≡ j → range_with_len a (suc n) ≡ range_with_len a n ++ j ∷ []
last_one a zero j e = let same : a ≡ j = omega arith in ap (λ k. k ∷ []) same
last_one a (suc n) j e = ap (λ l. a ∷ l) (last_one (a + 1) n j (omega arith))

pub up_to_next : (first n : ℕ) → first ≤ n → range_with_len first (n + 1 - first) ≡ range_with_len first (n - first) ++ n ∷ []
up_to_next first n low = let on : n + 1 - first ≡ suc (n - first) = omega arith in ap (range_with_len first) on ∙ last_one first (n - first) n (omega arith)

pub up_to_first : (first : ℕ) → range_with_len first (first - first) ≡ []
up_to_first first = let none : first - first ≡ 0 = omega arith in ap (range_with_len first) none
