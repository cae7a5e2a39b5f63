-- The pages of the bound file: those of the old one, and those of the new object.
use Rattle.std.proofs.Common.{◌≡◌, ℕ, zero, suc, ◌+◌, ◌-◌, ◌*◌, ◌/◌, ◌<◌, ◌≤◌, ◌^◌, Bool, true, false, cond, eqb, List, ◌++◌, map, length, take, get_or, Option, Some, None, refl, sym, subst, ap, ◌∙◌, append_assoc, arith}
use Rattle.std.specs.Prelude.{min, option_map}
use Rattle.std.specs.List.{range_with_len, AllByRecursion as Each}
use Rattle.std.proofs.Math.Nat.{mul_assoc, add-mul, mul-div_cancel, div-le_self}
use Rattle.std.proofs.lemmas.Bool.Decides.{nat_tests}
use Rattle.std.proofs.lemmas.List.{length-take, take-append-drop, get_or-map}
use Rattle.std.proofs.lemmas.List.FromFn.{get_or-map-range_with_len}
use Rattle.lx_types.specs.Object.{zero_page}
use Rattle.lx_types.specs.Parts.{span}
use Rattle.lx_types.specs.declared.object.PageHead.{PageHead}
use Rattle.lx_types.specs.declared.object.PageKind.{PageKind}
use Rattle.lx_types.specs.declared.object.PageKind.TheVariants.{Plain, Iterated, Invalid, Zero}
use Rattle.lx_types.specs.declared.object.TheConstants.{PAGE_SIZE}
use Rattle.lx_model.specs.declared.lengths.TheConstants.{PAGE_ENTRY_LEN}
use Rattle.lx_model.specs.declared.header_fields.TheConstants.{PAGE_OFFSET_SHIFT, OBJECT_PAGE_TABLE, ITERATED_PAGES, DATA_PAGES}
use Rattle.lx_model.specs.Reading.{number_at, first}
use Rattle.lx_model.specs.Header.{field, table, page_count}
use Rattle.lx_model.specs.Tables.{page_kind, page_place, page_of_kind, page_entry, page_or_zero, page_heads}
use Rattle.lx_model.specs.TableSpelling.{page_fields, pages_spelling, PageHeadFits}
use Rattle.lx_model.proofs.Each.{each_map, each_in_range}
use Rattle.lx_model.proofs.PlacesRead.{pages_again}
use Rattle.res_model.specs.declared.item.ResItem.{ResItem}
use Rattle.res_model.specs.Bound.{page_table, old_entries, new_page, new_pages}
use Rattle.res_model.specs.Layout.{page_unit, end_of, paged_place, data_place, pages_place}
use Rattle.res_model.specs.Placed.{page_number, new_page_count, object_size}
use Rattle.res_laws.proofs.Lists.{map_range, map_split, At, at_more, at_same, copied, length_table}
use Rattle.res_laws.proofs.Standing.{extended}
use Rattle.res_laws.proofs.Layouts.{CanExtend, header_of, small, rise, stands, pages_there, pages_number, unit_some, from_fixups}
use Rattle.res_laws.proofs.HeaderNow.{field_same, header_now}

-- ---- old entries

abbrev head_of : PageKind → ℕ → ℕ → PageHead
head_of kind a l = record { kind = kind; at = a; len = l }

abbrev data_by : PageKind → ℕ → ℕ → ℕ → ℕ → PageHead
data_by kind first n shift len = record { kind = kind; at = first + n * 2 ^ shift; len = len }

same_data : (kind : PageKind) {f n s l f' n' s' l' : ℕ} → f ≡ f' → n ≡ n' → s ≡ s' → l ≡ l' → Some (data_by kind f n s l) ≡ Some (data_by kind f' n' s' l')
same_data kind p q r t = rw (p, q, r, t) refl

kind_same : (file : List ℕ) (items : List ResItem) (kind : Option PageKind) (a b : ℕ) → CanExtend file items → number_at 4 (extended file items) a ≡ number_at 4 file b → number_at 2 (extended file items) (a + 4) ≡ number_at 2 file (b + 4) →
    page_of_kind (extended file items) a kind ≡ page_of_kind file b kind
kind_same file items None a b can p q = refl
kind_same file items (Some Plain) a b can p q = same_data Plain (field_same file items DATA_PAGES can refl refl refl) p (field_same file items PAGE_OFFSET_SHIFT can refl refl refl) q
kind_same file items (Some Iterated) a b can p q = same_data Iterated (field_same file items ITERATED_PAGES can refl refl refl) p (field_same file items PAGE_OFFSET_SHIFT can refl refl refl) q
kind_same file items (Some Invalid) a b can p q = refl
kind_same file items (Some Zero) a b can p q = refl

old_there : (file : List ℕ) (items : List ResItem) → CanExtend file items → At (extended file items) (pages_place file items) (span file (table file OBJECT_PAGE_TABLE) (table file OBJECT_PAGE_TABLE + PAGE_ENTRY_LEN * page_count file) ++ (pages_spelling (new_pages file items) ++ from_fixups file items))
unfolding page_table
old_there file items can = at_same (extended file items) _ _ (pages_place file items) (append_assoc (old_entries file OBJECT_PAGE_TABLE PAGE_ENTRY_LEN (page_count file)) (pages_spelling (new_pages file items)) (from_fixups file items)) (stands file items can).pages

number_moved : (n : ℕ) (file : List ℕ) (items : List ResItem) (k j : ℕ) → CanExtend file items → k < page_count file → 0 < n → j + n ≤ 8 → number_at n (extended file items) (pages_place file items + PAGE_ENTRY_LEN * k + j) ≡ number_at n file (table file OBJECT_PAGE_TABLE + PAGE_ENTRY_LEN * k + j)
number_moved n file items k j can lt some le =
    let a = table file OBJECT_PAGE_TABLE in
    let len = PAGE_ENTRY_LEN * page_count file in
    ap (number_at n (extended file items)) (omega arith)
    ∙ copied n (pages_place file items) (PAGE_ENTRY_LEN * k + j) a len (extended file items) file (pages_spelling (new_pages file items) ++ from_fixups file items) (old_there file items can) (pages_there file can.faultless) some (omega (arith, lt, le))
    ∙ ap (number_at n file) (omega arith)

pub entry_moved : (file : List ℕ) (items : List ResItem) (k : ℕ) → CanExtend file items → k < page_count file → page_entry (extended file items) (pages_place file items + PAGE_ENTRY_LEN * k) ≡ page_entry file (table file OBJECT_PAGE_TABLE + PAGE_ENTRY_LEN * k)
entry_moved file items k can lt =
    let now = extended file items in
    let a = pages_place file items + PAGE_ENTRY_LEN * k in
    let b = table file OBJECT_PAGE_TABLE + PAGE_ENTRY_LEN * k in
    let none : (x : ℕ) → x + 0 ≡ x = (λ x. omega arith) in
    let at : number_at 4 now a ≡ number_at 4 file b = ap (number_at 4 now) (sym (none a)) ∙ number_moved 4 file items k 0 can lt (omega arith) (omega arith) ∙ ap (number_at 4 file) (none b) in
    ap (λ (n : ℕ). page_of_kind now a (page_kind n)) (number_moved 2 file items k 6 can lt (omega arith) (omega arith))
    ∙ kind_same file items (page_kind (number_at 2 file (b + 6))) a b can at (number_moved 2 file items k 4 can lt (omega arith) (omega arith))

-- ---- new entries

-- page k of the new object, as the bound file has it
abbrev pub placed_page : List ℕ → List ResItem → ℕ → PageHead
placed_page file items k = record { kind = Plain; at = data_place file (new_page_count items) + PAGE_SIZE * k; len = min (object_size items - PAGE_SIZE * k) PAGE_SIZE }

divides : (n : ℕ) → n ≤ 12 → (c : ℕ) × (c * 2 ^ n ≡ 4096)
divides zero le = (4096, refl)
divides (suc zero) le = (2048, refl)
divides (suc (suc zero)) le = (1024, refl)
divides (suc (suc (suc zero))) le = (512, refl)
divides (suc (suc (suc (suc zero)))) le = (256, refl)
divides (suc (suc (suc (suc (suc zero))))) le = (128, refl)
divides (suc (suc (suc (suc (suc (suc zero)))))) le = (64, refl)
divides (suc (suc (suc (suc (suc (suc (suc zero))))))) le = (32, refl)
divides (suc (suc (suc (suc (suc (suc (suc (suc zero)))))))) le = (16, refl)
divides (suc (suc (suc (suc (suc (suc (suc (suc (suc zero))))))))) le = (8, refl)
divides (suc (suc (suc (suc (suc (suc (suc (suc (suc (suc zero)))))))))) le = (4, refl)
divides (suc (suc (suc (suc (suc (suc (suc (suc (suc (suc (suc zero))))))))))) le = (2, refl)
divides (suc (suc (suc (suc (suc (suc (suc (suc (suc (suc (suc (suc zero)))))))))))) le = (1, refl)
divides (suc (suc (suc (suc (suc (suc (suc (suc (suc (suc (suc (suc (suc n))))))))))))) le = absurd (omega arith)

-- on units from a place on
pub on_units : (f q u d k c : ℕ) → 1 ≤ u → d ≡ f + q * u → c * u ≡ 4096 → (d - f + 4096 * k) / u * u ≡ d - f + 4096 * k
on_units f q u d k c some is page =
    let product : k * c * u ≡ k * 4096 = mul_assoc k c u ∙ ap (λ (n : ℕ). k * n) page in
    let whole : d - f + 4096 * k ≡ q * u + k * c * u = omega (arith, is, product) in
    let both : q * u + k * c * u ≡ (q + k * c) * u = sym (add-mul q (k * c) u) in
    ap (λ (n : ℕ). n / u * u) (whole ∙ both) ∙ ap (λ (n : ℕ). n * u) (mul-div_cancel (q + k * c) some) ∙ sym (whole ∙ both)

paged_is : (file : List ℕ) (pages : ℕ) → 0 < pages → data_place file pages ≡ field file DATA_PAGES + (end_of file - field file DATA_PAGES + (page_unit file - 1)) / page_unit file * page_unit file
paged_is file pages some = by_test (eqb pages 0) (not_none pages some)
  where
    not_none : (n : ℕ) → 0 < n → eqb n 0 ≡ false
    not_none n lt = grind (arith, nat_tests)

    by_test : (b : Bool) → b ≡ false → cond b (end_of file) (paged_place file) ≡ paged_place file
    by_test true e = absurd cc
    by_test false e = refl

units_are : (file : List ℕ) (items : List ResItem) (k : ℕ) → CanExtend file items → k < new_page_count items →
    (data_place file (new_page_count items) - field file DATA_PAGES + PAGE_SIZE * k) / page_unit file * page_unit file ≡ data_place file (new_page_count items) - field file DATA_PAGES + PAGE_SIZE * k
units_are file items k can lt =
    let c = divides (field file PAGE_OFFSET_SHIFT) (header_of file items can).shift in
    on_units (field file DATA_PAGES) ((end_of file - field file DATA_PAGES + (page_unit file - 1)) / page_unit file) (page_unit file) (data_place file (new_page_count items)) k c.0 (unit_some file) (paged_is file (new_page_count items) (omega (arith, lt))) c.1

-- a page of the new object begins in it
pub page_begins : (size k : ℕ) → k < page_number size → 4096 * k < size
page_begins size k lt = omega arith

new_fit : (file : List ℕ) (items : List ResItem) (k : ℕ) → CanExtend file items → k < new_page_count items → PageHeadFits (new_page file items k)
unfolding new_page
new_fit file items k can lt =
    let r = rise file items in
    let o = r.objects in
    let p = r.pages in
    let f = r.fixups in
    let e = r.resources in
    let w = r.whole in
    let m = (small file items can).whole in
    let begins = page_begins (object_size items) k lt in
    let n = data_place file (new_page_count items) - field file DATA_PAGES + PAGE_SIZE * k in
    let below = div-le_self n (page_unit file) in
    record { at = omega (arith, o, p, f, e, w, m, begins, below); len = omega arith }

new_fits : (file : List ℕ) (items : List ResItem) → CanExtend file items → Each PageHeadFits (new_pages file items)
unfolding new_pages
new_fits file items can = each_map PageHeadFits (new_page file items) (range_with_len 0 (new_page_count items)) (each_in_range _ 0 (new_page_count items) (λ k low lt. new_fit file items k can (omega (arith, lt))))

-- an entry where it is spelled
fields_at : (file : List ℕ) (at : ℕ) (ps : List PageHead) (rest : List ℕ) → At file at (pages_spelling ps ++ rest) → Each PageHeadFits ps → (k : ℕ) (d : PageHead) → k < length ps → page_fields file (at + PAGE_ENTRY_LEN * k) ≡ Some (get_or ps k d)
fields_at file at ps rest here fits k d lt =
    let before = take at file in
    let whole : before ++ (pages_spelling ps ++ rest) ≡ file = ap (λ (xs : List ℕ). before ++ xs) (sym here.is) ∙ take-append-drop at file in
    let size = length-take at file in
    let long = here.long in
    let place : length before ≡ at = omega (arith, size, long) in
    let again = pages_again before ps rest fits in
    let f = (λ (j : ℕ). page_fields (before ++ (pages_spelling ps ++ rest)) (length before + PAGE_ENTRY_LEN * j)) in
    let one : get_or (map f (range_with_len 0 (length ps))) k None ≡ f k = get_or-map-range_with_len f 0 (length ps) k k None lt (omega arith) in
    let other : get_or (map Some ps) k None ≡ Some (get_or ps k d) = get_or-map Some ps k d None lt in
    let same : f k ≡ Some (get_or ps k d) = sym one ∙ ap (λ (os : List (Option PageHead)). get_or os k None) again ∙ other in
    subst (λ (a : ℕ). page_fields file (a + PAGE_ENTRY_LEN * k) ≡ Some (get_or ps k d)) place (subst (λ (xs : List ℕ). page_fields xs (length before + PAGE_ENTRY_LEN * k) ≡ Some (get_or ps k d)) whole same)

by_kind : (file : List ℕ) (a : ℕ) (o : Option PageKind) (p : PageHead) → option_map (λ kind. record { kind = kind; at = number_at 4 file a; len = number_at 2 file (a + 4) }) o ≡ Some p → p.kind ≡ Plain →
    page_of_kind file a o ≡ Some (data_by Plain (field file DATA_PAGES) p.at (field file PAGE_OFFSET_SHIFT) p.len)
by_kind file a None p e plain = absurd cc
by_kind file a (Some Plain) p e plain =
    same_data Plain {f = field file DATA_PAGES} {n = number_at 4 file a} {s = field file PAGE_OFFSET_SHIFT} {l = number_at 2 file (a + 4)} refl (ap (λ (o : Option PageHead). (page_or_zero o).at) e) refl (ap (λ (o : Option PageHead). (page_or_zero o).len) e)
by_kind file a (Some Iterated) p e plain = let other : Iterated ≡ Plain = ap (λ (o : Option PageHead). (page_or_zero o).kind) e ∙ plain in absurd cc
by_kind file a (Some Invalid) p e plain = let other : Invalid ≡ Plain = ap (λ (o : Option PageHead). (page_or_zero o).kind) e ∙ plain in absurd cc
by_kind file a (Some Zero) p e plain = let other : Zero ≡ Plain = ap (λ (o : Option PageHead). (page_or_zero o).kind) e ∙ plain in absurd cc

get_new : (file : List ℕ) (items : List ResItem) (k : ℕ) → k < new_page_count items → get_or (new_pages file items) k zero_page ≡ new_page file items k
unfolding new_pages
get_new file items k lt = get_or-map-range_with_len (new_page file items) 0 (new_page_count items) k k zero_page lt (omega arith)

new_fields : (file : List ℕ) (items : List ResItem) (k : ℕ) → CanExtend file items → k < new_page_count items → page_fields (extended file items) (pages_place file items + PAGE_ENTRY_LEN * page_count file + PAGE_ENTRY_LEN * k) ≡ Some (new_page file items k)
new_fields file items k can lt =
    let here = at_more (extended file items) (span file (table file OBJECT_PAGE_TABLE) (table file OBJECT_PAGE_TABLE + PAGE_ENTRY_LEN * page_count file)) _ (pages_place file items) (PAGE_ENTRY_LEN * page_count file) (old_there file items can)
    (length_table file (table file OBJECT_PAGE_TABLE) (PAGE_ENTRY_LEN * page_count file) (pages_there file can.faultless)) in
    let number = pages_number file items in
    fields_at (extended file items) (pages_place file items + PAGE_ENTRY_LEN * page_count file) (new_pages file items) (from_fixups file items) here (new_fits file items can) k zero_page (omega (arith, lt, number))
    ∙ ap Some (get_new file items k lt)

shown : (file : List ℕ) (items : List ResItem) (k : ℕ) → CanExtend file items → k < new_page_count items → data_by Plain (field file DATA_PAGES) (new_page file items k).at (field file PAGE_OFFSET_SHIFT) (new_page file items k).len ≡ placed_page file items k
unfolding new_page
shown file items k can lt =
    let whole = units_are file items k can lt in
    let first = (rise file items).first in
    let place : field file DATA_PAGES + (data_place file (new_page_count items) - field file DATA_PAGES + PAGE_SIZE * k) / page_unit file * page_unit file ≡ data_place file (new_page_count items) + PAGE_SIZE * k = omega (arith, whole, first) in
    ap (λ (a : ℕ). head_of Plain a (min (object_size items - PAGE_SIZE * k) PAGE_SIZE)) place

plain_new : (file : List ℕ) (items : List ResItem) (k : ℕ) → (new_page file items k).kind ≡ Plain
unfolding new_page
plain_new file items k = refl

pub new_entry : (file : List ℕ) (items : List ResItem) (k : ℕ) → CanExtend file items → k < new_page_count items → page_entry (extended file items) (pages_place file items + PAGE_ENTRY_LEN * page_count file + PAGE_ENTRY_LEN * k) ≡ Some (placed_page file items k)
new_entry file items k can lt =
    let now = extended file items in
    let a = pages_place file items + PAGE_ENTRY_LEN * page_count file + PAGE_ENTRY_LEN * k in
    let page = new_page file items k in
    by_kind now a (page_kind (number_at 2 now (a + 6))) page (new_fields file items k can lt) (plain_new file items k)
    ∙ same_data Plain {n = page.at} {l = page.len} (field_same file items DATA_PAGES can refl refl refl) refl (field_same file items PAGE_OFFSET_SHIFT can refl refl refl) refl
    ∙ ap Some (shown file items k can lt)

-- ---- the table

pub pages_now : (file : List ℕ) (items : List ResItem) → CanExtend file items → page_heads (extended file items) ≡ page_heads file ++ map (placed_page file items) (range_with_len 0 (new_page_count items))
unfolding page_heads
pages_now file items can =
    let now = extended file items in
    let h = header_now file items can in
    let n = page_count file in
    let m = new_page_count items in
    let p = pages_place file items in
    let f = (λ (k : ℕ). page_or_zero (page_entry now (p + PAGE_ENTRY_LEN * k))) in
    let g = (λ (k : ℕ). page_or_zero (page_entry file (page_place file k))) in
    ap (λ (t : ℕ). map (λ k. page_or_zero (page_entry now (t + PAGE_ENTRY_LEN * k))) (range_with_len 0 (page_count now))) h.heads
    ∙ ap (λ (c : ℕ). map f (range_with_len 0 c)) h.pages ∙ map_split f n m
    ∙ ap (λ (ps : List PageHead). ps ++ map f (range_with_len n m)) (map_range f g 0 0 n (λ k lt. ap page_or_zero (entry_moved file items (0 + k) can (omega (arith, lt)))))
    ∙ ap (λ (ps : List PageHead). map g (range_with_len 0 n) ++ ps) (map_range f (placed_page file items) n 0 m (λ k lt.
    ap (λ (a : ℕ). page_or_zero (page_entry now a)) (omega arith) ∙ ap page_or_zero (new_entry file items k can lt) ∙ ap (placed_page file items) (omega arith)))
