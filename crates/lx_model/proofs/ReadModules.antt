-- Modules that were read: their pages, records and references, and the spots of a fit one.
use Rattle.std.proofs.Common.{◌≡◌, ℕ, zero, suc, ◌+◌, ◌-◌, ◌<◌, ◌≤◌, ◌||◌, Bool, true, false, cond, ltb, not, List, [], ◌∷◌, ◌++◌, map, get_or, None, refl, sym, subst, ap, ◌∙◌, append_assoc, arith, inl, inr}
use Rattle.std.specs.Prelude.{Contains, filter}
use Rattle.std.specs.List.{flat_map, range_with_len, AllByRecursion as Each}
use Rattle.std.proofs.lemmas.Bool.{cases_lt, both_ways, or_right}
use Rattle.std.proofs.lemmas.Bool.Decides.{nat_tests}
use Rattle.std.proofs.lemmas.List.{get_or_past}
use Rattle.std.proofs.lemmas.List.Elements.{All-from_recursion}
use Rattle.std.proofs.lemmas.List.FromFn.{length-map-range_with_len, get_or-map-range_with_len}
use Rattle.lx_types.proofs.Lists.{all_front, all_back}
use Rattle.lx_types.specs.declared.fix.Fix.{Fix}
use Rattle.lx_types.specs.declared.fix.FixTarget.{FixTarget}
use Rattle.lx_types.specs.declared.fix.FixTarget.TheVariants.{Internal, Ordinal, Named, Own}
use Rattle.lx_types.specs.declared.object.PageId.{PageId}
use Rattle.lx_types.specs.declared.parts.Parts.{Parts}
use Rattle.lx_types.specs.Parts.{span, object_of}
use Rattle.lx_model.specs.Reading.{cursor, first, fault_of, Many, ends_at}
use Rattle.lx_model.specs.Header.{page_count}
use Rattle.lx_model.specs.FixupPages.{records_span, spans_of}
use Rattle.lx_model.specs.Records.{Record, next_record, records_at, fixes_of}
use Rattle.lx_model.specs.Module.{page_records, targets_of, same_target, is_reference, once, refs_of, is_target, targets_in, target_fault, page_records_fault, parts_of, IsRead}
use Rattle.lx_model.specs.Fixed.{records_of_page, sources_of}
use Rattle.lx_model.specs.ModuleLaws.{ReadIsSound, RecordsAreGood, TargetsAreThere, ReferencesAreListed}
use Rattle.lx_model.proofs.Each.{each_more}
use Rattle.lx_model.proofs.Firsts.{then_none, each_none}
use Rattle.lx_model.proofs.Many.{many_ends}
use Rattle.lx_model.proofs.Meaning.{judged, sound}
use Rattle.lx_model.proofs.Once.{same_is, among, still_among}
use Rattle.lx_model.proofs.PagesRead.{next_ends}
use Rattle.lx_model.proofs.References.{records_there}

pub read_is_sound : ReadIsSound
read_is_sound m read = sound m.file m read.short read.means

-- ---- parts of lists

pub each_unmap : {A X : Type 0} (P : X → Type 0) (f : A → X) (xs : List A) → Each P (map f xs) → Each (λ a. P (f a)) xs
each_unmap P f [] h = tt
each_unmap P f (x ∷ xs) h = (h.0, each_unmap P f xs h.1)

each_of_range : {X : Type 0} (P : X → Type 0) (f : ℕ → List X) (a n k : ℕ) → Each P (flat_map f (range_with_len a n)) → a ≤ k → k < a + n → Each P (f k)
each_of_range P f a zero k h low lt = absurd (omega arith)
each_of_range P f a (suc n) k h low lt = elim (cases_lt a k) [
  | inl less ↦ each_of_range P f (a + 1) n k (all_back P (f a) (flat_map f (range_with_len (a + 1) n)) h) (omega arith) (omega arith)
  | inr ge ↦ let same : a ≡ k = omega arith in subst (λ (j : ℕ). Each P (f j)) same (all_front P (f a) (flat_map f (range_with_len (a + 1) n)) h)
]

-- ---- the records of a page

no_records : (file : List ℕ) → records_at 0 (span file 0 0) ≡ ends_at (cursor 0 [])
no_records file = many_ends next_record tt (cursor 0 []) (cursor 0 []) (next_ends 0)

-- The records in a span of the table are those of an entry of the page table, or there are none.
by_index : (P : Many Record → Type 0) (file : List ℕ) → P (ends_at (cursor 0 [])) → ((k : ℕ) → k < page_count file → P (page_records file k)) → (i : ℕ) →
    P (records_at (get_or (spans_of file) i (0, 0)).0 (span file (get_or (spans_of file) i (0, 0)).0 (get_or (spans_of file) i (0, 0)).1))
unfolding spans_of
by_index P file none each i = elim (cases_lt i (page_count file)) [
  | inl lt ↦
      let here : get_or (map (records_span file) (range_with_len 0 (page_count file))) i (0, 0) ≡ records_span file i = get_or-map-range_with_len (records_span file) 0 (page_count file) i i (0, 0) lt (omega arith) in
      subst (λ (s : ℕ × ℕ). P (records_at s.0 (span file s.0 s.1))) (sym here) (each i lt)
  | inr ge ↦
      let long = length-map-range_with_len (records_span file) 0 (page_count file) in
      let past : get_or (map (records_span file) (range_with_len 0 (page_count file))) i (0, 0) ≡ (0, 0) = get_or_past (map (records_span file) (range_with_len 0 (page_count file))) i (0, 0) (omega (arith, long)) in
      subst (λ (s : ℕ × ℕ). P (records_at s.0 (span file s.0 s.1))) (sym past) (subst P (sym (no_records file)) none)
]

by_count : (P : Many Record → Type 0) (file : List ℕ) → P (ends_at (cursor 0 [])) → ((k : ℕ) → k < page_count file → P (page_records file k)) → (i : ℕ) (there : Bool) →
    P (records_at (cond there (get_or (spans_of file) i (0, 0)) (0, 0)).0 (span file (cond there (get_or (spans_of file) i (0, 0)) (0, 0)).0 (cond there (get_or (spans_of file) i (0, 0)) (0, 0)).1))
by_count P file none each i true = by_index P file none each i
by_count P file none each i false = subst P (sym (no_records file)) none

-- what holds of each entry's records holds of those of each page
of_page : (P : Many Record → Type 0) (file : List ℕ) (p : PageId) → P (ends_at (cursor 0 [])) → ((k : ℕ) → k < page_count file → P (page_records file k)) → P (records_of_page (parts_of file) p)
unfolding parts_of
of_page P file p none each = let o = object_of (parts_of file) p.object in by_count P file none each (o.first - 1 + p.page) (ltb p.page o.count)

of_read : (P : Many Record → Type 0) (m : Parts) (p : PageId) → IsRead m → P (ends_at (cursor 0 [])) → ((k : ℕ) → k < page_count m.file → P (page_records m.file k)) → P (records_of_page m p)
of_read P m p read none each = subst (λ (x : Parts). P (records_of_page x p)) (sym read.means.parts) (of_page P m.file p none each)

pub records_are_good : RecordsAreGood
records_are_good m p read =
    let j = judged m.file read.means.faultless in
    of_read (λ (x : Many Record). fault_of x.end ≡ None) m p read refl
    (λ k lt. (then_none (first (map (target_fault (targets_in m.file)) (page_records m.file k).items)) (fault_of (page_records m.file k).end) (each_none (page_count m.file) (page_records_fault m.file) k j.records lt)).1)

abbrev IsThere : List ℕ → Fix → Type 0
IsThere file f = is_target (targets_in file) f.target ≡ true

each_there : (m : Parts) (p : PageId) → IsRead m → Each (IsThere m.file) (sources_of m p)
unfolding sources_of
each_there m p read =
    let j = judged m.file read.means.faultless in
    of_read (λ (x : Many Record). Each (IsThere m.file) (fixes_of x)) m p read tt
    (λ k lt. records_there (targets_in m.file) (page_records m.file k) (each_none (page_count m.file) (page_records_fault m.file) k j.records lt))

pub targets_are_there : TargetsAreThere
targets_are_there m p read = All-from_recursion _ _ (each_there m p read)

-- ---- references

same_self : (t : FixTarget) → same_target t t ≡ true
same_self (Internal o x) = grind (arith, nat_tests)
same_self (Ordinal i x) = grind (arith, nat_tests)
same_self (Named i x) = grind (arith, nat_tests)
same_self (Own x) = grind (arith, nat_tests)

once_by : (u t : FixTarget) (ts : List FixTarget) → (among t ts ≡ true → among t (once ts) ≡ true) → (b : Bool) → same_target u t ≡ b → (same_target u t || among t ts) ≡ true →
    (same_target u t || among t (filter (λ v. not (same_target u v)) (once ts))) ≡ true
once_by u t ts again true is h = rw is refl
once_by u t ts again false is h =
    let rest : among t ts ≡ true = rw is at h in
    or_right (same_target u t) (among t (filter (λ v. not (same_target u v)) (once ts))) (still_among u t (once ts) is ∙ again rest)

among_once : (t : FixTarget) (ts : List FixTarget) → among t ts ≡ true → among t (once ts) ≡ true
among_once t [] e = e
among_once t (u ∷ ts) e = once_by u t ts (among_once t ts) (same_target u t) refl e

filter_by : (u t : FixTarget) (ts : List FixTarget) → is_reference t ≡ true → (among t ts ≡ true → among t (filter is_reference ts) ≡ true) → (b : Bool) → same_target u t ≡ b → (kept : Bool) → is_reference u ≡ kept →
    (same_target u t || among t ts) ≡ true → among t (cond kept (u ∷ filter is_reference ts) (filter is_reference ts)) ≡ true
filter_by u t ts r again true is true k h = rw is refl
filter_by u t ts r again true is false k h =
    let equal = same_is u t is in
    let other : is_reference t ≡ false = subst (λ (x : FixTarget). is_reference x ≡ false) equal k in
    absurd (both_ways (is_reference t) other r)
filter_by u t ts r again false is true k h = or_right (same_target u t) (among t (filter is_reference ts)) (again (rw is at h))
filter_by u t ts r again false is false k h = again (rw is at h)

among_filter : (t : FixTarget) (ts : List FixTarget) → is_reference t ≡ true → among t ts ≡ true → among t (filter is_reference ts) ≡ true
among_filter t [] r e = e
among_filter t (u ∷ ts) r e = filter_by u t ts r (among_filter t ts r) (same_target u t) refl (is_reference u) refl e

among_middle : (before : List FixTarget) (t : FixTarget) (ts : List FixTarget) → among t (before ++ t ∷ ts) ≡ true
among_middle [] t ts = rw same_self refl
among_middle (u ∷ before) t ts = or_right (same_target u t) (among t (before ++ t ∷ ts)) (among_middle before t ts)

each_among : (before ts : List FixTarget) → Each (λ t. among t (before ++ ts) ≡ true) ts
each_among before [] = tt
each_among before (t ∷ ts) =
    let regroup : (before ++ t ∷ []) ++ ts ≡ before ++ t ∷ ts = append_assoc before (t ∷ []) ts in
    (among_middle before t ts, subst (λ (xs : List FixTarget). Each (λ u. among u xs ≡ true) ts) regroup (each_among (before ++ t ∷ []) ts))

listed : (file : List ℕ) (k : ℕ) → k < page_count file → Each (λ f. among f.target (targets_of file) ≡ true) (fixes_of (page_records file k))
listed file k lt =
    each_unmap (λ t. among t (targets_of file) ≡ true) (λ f. f.target) (fixes_of (page_records file k))
    (each_of_range (λ t. among t (targets_of file) ≡ true) (λ j. map (λ f. f.target) (fixes_of (page_records file j))) 0 (page_count file) k (each_among [] (targets_of file)) (omega arith) (omega arith))

abbrev IsListed : List ℕ → Fix → Type 0
IsListed file f = is_reference f.target ≡ true → among f.target (refs_of file) ≡ true

each_listed : (file : List ℕ) (k : ℕ) → k < page_count file → Each (IsListed file) (fixes_of (page_records file k))
unfolding refs_of
each_listed file k lt = each_more (λ f. among f.target (targets_of file) ≡ true) (IsListed file) (fixes_of (page_records file k))
    (λ f here r. among_once f.target (filter is_reference (targets_of file)) (among_filter f.target (targets_of file) r here)) (listed file k lt)

refs_are : (m : Parts) → IsRead m → refs_of m.file ≡ m.refs
unfolding parts_of
refs_are m read = sym (ap (λ (x : Parts). x.refs) read.means.parts)

pub references_listed : (m : Parts) (p : PageId) → IsRead m → Each (λ f. is_reference f.target ≡ true → among f.target m.refs ≡ true) (sources_of m p)
unfolding sources_of
references_listed m p read = subst (λ (refs : List FixTarget). Each (λ f. is_reference f.target ≡ true → among f.target refs ≡ true) (fixes_of (records_of_page m p))) (refs_are m read)
    (of_read (λ (x : Many Record). Each (IsListed m.file) (fixes_of x)) m p read tt (each_listed m.file))

contains_by : (u t : FixTarget) (ts : List FixTarget) → (among t ts ≡ true → Contains ts t) → (b : Bool) → same_target u t ≡ b → (same_target u t || among t ts) ≡ true → Contains (u ∷ ts) t
contains_by u t ts again true is h = (0, omega arith, same_is u t is)
contains_by u t ts again false is h = let rest = again (rw is at h) in (suc rest.0, (let lt = rest.1 in omega arith), rest.2)

contains : (t : FixTarget) (ts : List FixTarget) → among t ts ≡ true → Contains ts t
contains t [] e = absurd cc
contains t (u ∷ ts) e = contains_by u t ts (contains t ts) (same_target u t) refl e

pub references_are_listed : ReferencesAreListed
references_are_listed m p read = All-from_recursion _ _ (each_more _ (λ f. is_reference f.target ≡ true → Contains m.refs f.target) (sources_of m p) (λ f h r. contains f.target m.refs (h r)) (references_listed m p read))
