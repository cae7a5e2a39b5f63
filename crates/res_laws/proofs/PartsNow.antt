-- The parts of the bound file: those of the old one, and its old pages with their bytes and records.
use Rattle.std.proofs.Common.{◌≡◌, ℕ, ◌+◌, ◌-◌, ◌<◌, inl, inr, Bool, true, false, cond, ltb, List, [], ◌∷◌, ◌++◌, map, length, get_or, None, Result, refl, sym, subst, ap, ◌∙◌, arith}
use Rattle.std.specs.List.{range_with_len}
use Rattle.std.proofs.lemmas.Bool.Decides.{nat_tests}
use Rattle.std.proofs.lemmas.List.{get_or_append_left}
use Rattle.std.proofs.lemmas.List.FromFn.{length-map-range_with_len, get_or-map-range_with_len}
use Rattle.lx_types.specs.Object.{zero_page, page_of}
use Rattle.lx_types.specs.Parts.{span, no_object, object_of, page_at, data_at, fix_span_at}
use Rattle.lx_types.specs.Sound.{HasPages, IsNumberOf}
use Rattle.lx_types.specs.declared.object.ObjHead.{ObjHead}
use Rattle.lx_types.specs.declared.object.PageHead.{PageHead}
use Rattle.lx_types.specs.declared.object.PageId.{PageId}
use Rattle.lx_model.specs.declared.header_fields.TheConstants.{MODULE_FLAGS}
use Rattle.lx_model.specs.Reading.{value_or}
use Rattle.lx_model.specs.Header.{page_count}
use Rattle.lx_model.specs.Tables.{objects_of, page_heads}
use Rattle.lx_model.specs.NameTables.{Named, first_name, names_after_first, resident_names, other_names}
use Rattle.lx_model.specs.FixupPages.{records_span, spans_of}
use Rattle.lx_model.specs.Records.{records_at, fixes_of}
use Rattle.lx_model.specs.Module.{parts_of, LxFault}
use Rattle.lx_model.specs.Fixed.{kind_bytes, page_bytes, Raw, records_of_page, sources_of}
use Rattle.lx_model.proofs.Meaning.{judged}
use Rattle.lx_model.proofs.Soundness.{objects_fit, pages_fit}
use Rattle.res_model.specs.declared.item.ResItem.{ResItem}
use Rattle.res_model.specs.Bound.{new_object}
use Rattle.res_model.specs.Placed.{new_page_count}
use Rattle.res_laws.specs.Binding.{GoesOn, IsOldPage}
use Rattle.res_laws.proofs.Standing.{extended}
use Rattle.res_laws.proofs.Layouts.{CanExtend}
use Rattle.res_laws.proofs.HeaderNow.{field_same}
use Rattle.res_laws.proofs.ObjectsNow.{objects_now}
use Rattle.res_laws.proofs.PagesNow.{pages_now, placed_page}
use Rattle.res_laws.proofs.PageFaults.{heads_number, head_stands}
use Rattle.res_laws.proofs.SpansNow.{spans_now, records_end}
use Rattle.res_laws.proofs.NamesNow.{residents_same, others_same, imports_same, entries_same, start_same}
use Rattle.res_laws.proofs.RecordsNow.{span_stands}

-- ---- parts by parts

pub name_now : (file : List ℕ) (items : List ResItem) → CanExtend file items → (parts_of (extended file items)).name ≡ (parts_of file).name
unfolding parts_of
name_now file items can = ap (λ (r : Result (List Named) _). first_name (value_or [] r)) (residents_same file items can)

pub flags_now : (file : List ℕ) (items : List ResItem) → CanExtend file items → (parts_of (extended file items)).flags ≡ (parts_of file).flags
unfolding parts_of
flags_now file items can = field_same file items MODULE_FLAGS can refl refl refl

pub start_now : (file : List ℕ) (items : List ResItem) → CanExtend file items → (parts_of (extended file items)).start ≡ (parts_of file).start
unfolding parts_of
start_now file items can = start_same file items can

pub all_objects : (file : List ℕ) (items : List ResItem) → CanExtend file items → (parts_of (extended file items)).objects ≡ (parts_of file).objects ++ new_object file items ∷ []
unfolding parts_of
all_objects file items can = objects_now file items can

pub imports_now : (file : List ℕ) (items : List ResItem) → CanExtend file items → (parts_of (extended file items)).imports ≡ (parts_of file).imports
unfolding parts_of
imports_now file items can = ap (value_or []) (imports_same file items can)

pub entries_now : (file : List ℕ) (items : List ResItem) → CanExtend file items → (parts_of (extended file items)).entries ≡ (parts_of file).entries
unfolding parts_of
entries_now file items can = ap (value_or []) (entries_same file items can)

pub names_now : (file : List ℕ) (items : List ResItem) → CanExtend file items → (parts_of (extended file items)).names ≡ (parts_of file).names
unfolding parts_of
names_now file items can =
    ap (λ (r : Result (List Named) _). names_after_first (value_or [] r) ++ names_after_first (value_or [] (other_names (extended file items)))) (residents_same file items can)
    ∙ ap (λ (r : Result (List Named) _). names_after_first (value_or [] (resident_names file)) ++ names_after_first (value_or [] r)) (others_same file items can)

pub heads_go_on : (file : List ℕ) (items : List ResItem) → CanExtend file items → GoesOn (parts_of file).pages (parts_of (extended file items)).pages
unfolding parts_of
heads_go_on file items can = (map (placed_page file items) (range_with_len 0 (new_page_count items)), pages_now file items can)

pub spans_go_on : (file : List ℕ) (items : List ResItem) → CanExtend file items → GoesOn (parts_of file).fix_spans (parts_of (extended file items)).fix_spans
unfolding parts_of
spans_go_on file items can = (map (λ (k : ℕ). (records_end file, records_end file)) (range_with_len 0 (new_page_count items)), spans_now file items can)

-- ---- old objects

pub object_stands : (file : List ℕ) (items : List ResItem) (o : ℕ) → CanExtend file items → IsNumberOf o (length (parts_of file).objects) → object_of (parts_of (extended file items)) o ≡ object_of (parts_of file) o
unfolding parts_of
object_stands file items o can old =
    let low = old.0 in
    let high = old.1 in
    ap (λ (os : List ObjHead). get_or os (o - 1) no_object) (objects_now file items can) ∙ get_or_append_left (objects_of file) (new_object file items ∷ []) no_object (o - 1) (omega (arith, low, high))

spans_number : (file : List ℕ) → length (spans_of file) ≡ page_count file
unfolding spans_of
spans_number file = length-map-range_with_len (records_span file) 0 (page_count file)

old_has : (file : List ℕ) (o : ℕ) → LxFault file ≡ None → IsNumberOf o (length (parts_of file).objects) → HasPages (page_count file) (object_of (parts_of file) o)
unfolding parts_of
old_has file o e old =
    let low = old.0 in
    let high = old.1 in
    objects_fit file (judged file e).objects (o - 1) no_object (omega (arith, low, high))

-- an entry of a list for each page of an object, or what stands for none
entry_stands : {X : Type 0} (n : ℕ) (xs more : List X) (o : ObjHead) (i : ℕ) (none : X) → length xs ≡ n → HasPages n o →
    cond (ltb i o.count) (get_or (xs ++ more) (o.first - 1 + i) none) none ≡ cond (ltb i o.count) (get_or xs (o.first - 1 + i) none) none
entry_stands {X} n xs more o i none size has = by_test (ltb i o.count) refl
  where
    by_test : (b : Bool) → ltb i o.count ≡ b → cond b (get_or (xs ++ more) (o.first - 1 + i) none) none ≡ cond b (get_or xs (o.first - 1 + i) none) none
    by_test true is = elim has [
      | inl empty ↦ absurd (let lt : i < o.count = grind (arith, nat_tests) in omega (arith, empty, lt))
      | inr there ↦
          let lt : i < o.count = grind (arith, nat_tests) in
          let a = there.0 in
          let b = there.1 in
          get_or_append_left xs more none (o.first - 1 + i) (omega (arith, size, lt, a, b))
    ]
    by_test false is = refl

-- what holds of each entry and of none holds of an object's
entry_holds : {X : Type 0} (P : X → Type 0) (n : ℕ) (xs : List X) (o : ObjHead) (i : ℕ) (none : X) → length xs ≡ n → HasPages n o → P none → ((k : ℕ) → k < n → P (get_or xs k none)) → P (cond (ltb i o.count) (get_or xs (o.first - 1 + i) none) none)
entry_holds {X} P n xs o i none size has at_none at_each = by_test (ltb i o.count) refl
  where
    by_test : (b : Bool) → ltb i o.count ≡ b → P (cond b (get_or xs (o.first - 1 + i) none) none)
    by_test true is = elim has [
      | inl empty ↦ absurd (let lt : i < o.count = grind (arith, nat_tests) in omega (arith, empty, lt))
      | inr there ↦
          let lt : i < o.count = grind (arith, nat_tests) in
          let a = there.0 in
          let b = there.1 in
          at_each (o.first - 1 + i) (omega (arith, lt, a, b))
    ]
    by_test false is = at_none

-- ---- old pages

pub page_stands : (file : List ℕ) (items : List ResItem) (p : PageId) → CanExtend file items → IsOldPage (parts_of file) p → page_at (parts_of (extended file items)) p ≡ page_at (parts_of file) p
unfolding parts_of
page_stands file items p can old =
    let o = object_of (parts_of file) p.object in
    ap (λ (x : ObjHead). page_of (page_heads (extended file items)) x p.page) (object_stands file items p.object can old)
    ∙ ap (λ (ps : List PageHead). page_of ps o p.page) (pages_now file items can)
    ∙ entry_stands (page_count file) (page_heads file) (map (placed_page file items) (range_with_len 0 (new_page_count items))) o p.page zero_page (heads_number file) (old_has file p.object can.faultless old)

no_data : (file now : List ℕ) → span now 0 (0 + 0) ≡ span file 0 (0 + 0)
no_data file now = refl

abbrev DataIs : List ℕ → List ℕ → PageHead → Type 0
DataIs file now page = span now page.at (page.at + page.len) ≡ span file page.at (page.at + page.len)

data_stands : (file : List ℕ) (items : List ResItem) (p : PageId) → CanExtend file items → IsOldPage (parts_of file) p → data_at (parts_of (extended file items)) p ≡ data_at (parts_of file) p
unfolding parts_of
data_stands file items p can old =
    let now = extended file items in
    let heads = page_heads file in
    let number = heads_number file in
    ap (λ (page : PageHead). span now page.at (page.at + page.len)) (page_stands file items p can old)
    ∙ entry_holds (DataIs file now) (page_count file) heads (object_of (parts_of file) p.object) p.page zero_page number (old_has file p.object can.faultless old) (no_data file now)
    (λ k lt. head_stands file items k can (omega (arith, number, lt)) (pages_fit file (judged file can.faultless).pages k zero_page (omega (arith, number, lt))).0)

pub raw_stands : (file : List ℕ) (items : List ResItem) (p : PageId) (i : ℕ) → CanExtend file items → IsOldPage (parts_of file) p → Raw (parts_of (extended file items)) p i ≡ Raw (parts_of file) p i
unfolding Raw page_bytes
raw_stands file items p i can old =
    ap (λ (page : PageHead). get_or (kind_bytes page.kind (data_at (parts_of (extended file items)) p)) i 0) (page_stands file items p can old)
    ∙ ap (λ (bytes : List ℕ). get_or (kind_bytes (page_at (parts_of file) p).kind bytes) i 0) (data_stands file items p can old)

-- ---- their records

pub fix_span_stands : (file : List ℕ) (items : List ResItem) (p : PageId) → CanExtend file items → IsOldPage (parts_of file) p → fix_span_at (parts_of (extended file items)) p ≡ fix_span_at (parts_of file) p
unfolding parts_of
fix_span_stands file items p can old =
    let o = object_of (parts_of file) p.object in
    let none : ℕ × ℕ = (0, 0) in
    ap (λ (x : ObjHead). cond (ltb p.page x.count) (get_or (spans_of (extended file items)) (x.first - 1 + p.page) none) none) (object_stands file items p.object can old)
    ∙ ap (λ (ss : List (ℕ × ℕ)). cond (ltb p.page o.count) (get_or ss (o.first - 1 + p.page) none) none) (spans_now file items can)
    ∙ entry_stands (page_count file) (spans_of file) (map (λ (k : ℕ). (records_end file, records_end file)) (range_with_len 0 (new_page_count items))) o p.page none (spans_number file) (old_has file p.object can.faultless old)

span_of : (file : List ℕ) (k : ℕ) → k < page_count file → get_or (spans_of file) k (0, 0) ≡ records_span file k
unfolding spans_of
span_of file k lt = get_or-map-range_with_len (records_span file) 0 (page_count file) k k (0, 0) lt (omega arith)

-- what holds of the records of each page, and of none, holds of those of an old page
pub of_records : (P : ℕ × ℕ → Type 0) (file : List ℕ) (p : PageId) → LxFault file ≡ None → IsOldPage (parts_of file) p → P (0, 0) → ((k : ℕ) → k < page_count file → P (records_span file k)) → P (fix_span_at (parts_of file) p)
unfolding parts_of
of_records P file p e old at_none at_each =
    entry_holds P (page_count file) (spans_of file) (object_of (parts_of file) p.object) p.page (0, 0) (spans_number file) (old_has file p.object e old) at_none (λ k lt. subst P (sym (span_of file k lt)) (at_each k lt))

abbrev SpanIs : List ℕ → List ℕ → ℕ × ℕ → Type 0
SpanIs file now s = span now s.0 s.1 ≡ span file s.0 s.1

pub records_stand : (file : List ℕ) (items : List ResItem) (p : PageId) → CanExtend file items → IsOldPage (parts_of file) p → records_of_page (parts_of (extended file items)) p ≡ records_of_page (parts_of file) p
unfolding parts_of
records_stand file items p can old =
    let now = extended file items in
    let s = fix_span_at (parts_of file) p in
    ap (λ (x : ℕ × ℕ). records_at x.0 (span now x.0 x.1)) (fix_span_stands file items p can old)
    ∙ ap (records_at s.0) (of_records (SpanIs file now) file p can.faultless old refl (λ k lt. span_stands file items k can lt))

pub sources_stand : (file : List ℕ) (items : List ResItem) (p : PageId) → CanExtend file items → IsOldPage (parts_of file) p → sources_of (parts_of (extended file items)) p ≡ sources_of (parts_of file) p
unfolding sources_of
sources_stand file items p can old = ap fixes_of (records_stand file items p can old)
