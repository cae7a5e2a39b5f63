-- The page table of the bound file has no fault.
use Rattle.std.proofs.Common.{◌≡◌, ℕ, ◌+◌, ◌*◌, ◌<◌, ◌≤◌, Bool, true, false, cond, ◌&&◌, leb, List, length, get_or, Option, Some, None, refl, sym, subst, ap, ◌∙◌, arith}
use Rattle.std.specs.List.{list_all}
use Rattle.std.proofs.lemmas.Bool.Decides.{nat_tests}
use Rattle.std.proofs.lemmas.List.FromFn.{length-map-range_with_len, get_or-map-range_with_len}
use Rattle.std.proofs.lemmas.List.Folds.{list_all-map}
use Rattle.std.proofs.lemmas.Bool.{le-leb}
use Rattle.lx_types.specs.Object.{zero_page}
use Rattle.lx_types.specs.Parts.{span}
use Rattle.lx_types.specs.declared.object.PageHead.{PageHead}
use Rattle.lx_types.specs.declared.object.PageKind.{PageKind}
use Rattle.lx_types.specs.declared.object.PageKind.TheVariants.{Plain, Iterated, Invalid, Zero}
use Rattle.lx_types.specs.declared.object.TheConstants.{PAGE_SIZE}
use Rattle.lx_types.specs.declared.refusal.LxRefusal.{LxRefusal}
use Rattle.lx_types.specs.declared.refusal.LxKind.TheVariants as kinds
use Rattle.lx_model.specs.declared.lengths.TheConstants.{PAGE_ENTRY_LEN}
use Rattle.lx_model.specs.Reading.{fault, short_at, first_of, ◌then◌, placed, fault_of}
use Rattle.lx_model.specs.Header.{page_count}
use Rattle.lx_model.specs.Iterated.{expansion}
use Rattle.lx_model.specs.Tables.{page_place, page_entry, page_or_zero, page_heads, kind_fault, data_fault, page_fault, pages_fault}
use Rattle.lx_model.proofs.Firsts.{each_none}
use Rattle.lx_model.proofs.Meaning.{judged}
use Rattle.lx_model.proofs.Soundness.{page_is_whole}
use Rattle.res_model.specs.declared.item.ResItem.{ResItem}
use Rattle.res_model.specs.Clear.{part, data_part}
use Rattle.res_model.specs.Layout.{pages_place}
use Rattle.res_model.specs.Placed.{new_page_count, object_size}
use Rattle.res_laws.proofs.Lists.{each_two, all_at, span_same}
use Rattle.res_laws.proofs.Standing.{extended, part_stands}
use Rattle.res_laws.proofs.Clear.{frees, is_free}
use Rattle.res_laws.proofs.Layouts.{CanExtend, rise, stands}
use Rattle.res_laws.proofs.HeaderNow.{long_of, longer, header_now}
use Rattle.res_laws.proofs.HeaderFaults.{none_then, none_range, long_enough}
use Rattle.res_laws.proofs.PagesNow.{entry_moved, new_entry, placed_page, page_begins}

-- ---- the data of an old page stands

pub heads_number : (file : List ℕ) → length (page_heads file) ≡ page_count file
unfolding page_heads
heads_number file = length-map-range_with_len (λ k. page_or_zero (page_entry file (page_place file k))) 0 (page_count file)

head_at : (file : List ℕ) (k : ℕ) → k < page_count file → get_or (page_heads file) k zero_page ≡ page_or_zero (page_entry file (page_place file k))
unfolding page_heads
head_at file k lt = get_or-map-range_with_len (λ k. page_or_zero (page_entry file (page_place file k))) 0 (page_count file) k k zero_page lt (omega arith)

pub head_stands : (file : List ℕ) (items : List ResItem) (k : ℕ) → CanExtend file items → k < length (page_heads file) → let page = get_or (page_heads file) k zero_page in page.at + page.len ≤ length file →
    span (extended file items) page.at (page.at + page.len) ≡ span file page.at (page.at + page.len)
head_stands file items k can lt there =
    let page = get_or (page_heads file) k zero_page in
    let free : list_all (λ p. is_free file (data_part p)) (page_heads file) ≡ true = sym (list_all-map (is_free file) data_part (page_heads file)) ∙ (frees file can.clear).contents in
    let here : is_free file (part page.at page.len) ≡ true = all_at (λ p. is_free file (data_part p)) (page_heads file) k zero_page free lt in
    span_same file (extended file items) page.at page.len there (longer file items can) (part_stands file items page.at page.len (long_of file items can) there here)

-- ---- faults of old entries

if_good : (b : Bool) (o : Option LxRefusal) (e : LxRefusal) → cond b o (Some e) ≡ None → (b ≡ true) × (o ≡ None)
if_good true o e h = (refl, h)
if_good false o e h = absurd cc

plain_still : (at len old now : ℕ) → old ≤ now → (leb (at + len) old && leb len PAGE_SIZE) ≡ true → (leb (at + len) now && leb len PAGE_SIZE) ≡ true
plain_still at len old now le e = grind (arith, nat_tests)

inside : (at len old : ℕ) → leb (at + len) old ≡ true → at + len ≤ old
inside at len old e = grind (arith, nat_tests)

-- its data stands, where it lies in the file
abbrev DataStands : List ℕ → List ℕ → PageHead → Type 0
DataStands file now page = page.at + page.len ≤ length file → span now page.at (page.at + page.len) ≡ span file page.at (page.at + page.len)

kind_still : (file now : List ℕ) (a b : ℕ) (kind : PageKind) (page : PageHead) → length file ≤ length now → DataStands file now page → kind_fault file b kind page ≡ None → kind_fault now a kind page ≡ None
kind_still file now a b Plain page long same e =
    let good = if_good (leb (page.at + page.len) (length file) && leb page.len PAGE_SIZE) None (fault kinds.PageData b) e in
    rw (plain_still page.at page.len (length file) (length now) long good.0) refl
kind_still file now a b Iterated page long same e =
    let good = if_good (leb (page.at + page.len) (length file)) (fault_of (placed page.at (expansion (span file page.at (page.at + page.len))))) (fault kinds.PageData b) e in
    let there = inside page.at page.len (length file) good.0 in
    rw (le-leb (page.at + page.len) (length now) (omega (arith, there, long)), same there) good.1
kind_still file now a b Invalid page long same e = refl
kind_still file now a b Zero page long same e = refl

data_still : (file now : List ℕ) (a b : ℕ) (entry : Option PageHead) → length file ≤ length now → DataStands file now (page_or_zero entry) → data_fault file b entry ≡ None → data_fault now a entry ≡ None
data_still file now a b None long same e = absurd cc
data_still file now a b (Some page) long same e = kind_still file now a b page.kind page long same e

entry_good : (now : List ℕ) (k a : ℕ) → page_place now k ≡ a → a + 8 ≤ length now → data_fault now a (page_entry now a) ≡ None → page_fault now k ≡ None
entry_good now k a is le good =
    subst (λ (at : ℕ). (short_at 4 now at then short_at 2 now (at + 4) then short_at 2 now (at + 6) then data_fault now at (page_entry now at)) ≡ None) (sym is)
    (none_then (short_at 4 now a) (short_at 2 now (a + 4) then short_at 2 now (a + 6) then data_fault now a (page_entry now a)) (long_enough 4 now a (omega (arith, le)))
    (none_then (short_at 2 now (a + 4)) (short_at 2 now (a + 6) then data_fault now a (page_entry now a)) (long_enough 2 now (a + 4) (omega (arith, le)))
    (none_then (short_at 2 now (a + 6)) (data_fault now a (page_entry now a)) (long_enough 2 now (a + 6) (omega (arith, le))) good)))

old_good : (file : List ℕ) (items : List ResItem) (k : ℕ) → CanExtend file items → k < page_count file → data_fault (extended file items) (pages_place file items + PAGE_ENTRY_LEN * k) (page_entry (extended file items) (pages_place file items + PAGE_ENTRY_LEN * k)) ≡ None
unfolding pages_fault
old_good file items k can lt =
    let now = extended file items in
    let a = pages_place file items + PAGE_ENTRY_LEN * k in
    let b = page_place file k in
    let old = page_is_whole file k (each_none (page_count file) (page_fault file) k (judged file can.faultless).pages lt) in
    let head = head_at file k lt in
    let number = heads_number file in
    let same : DataStands file now (page_or_zero (page_entry file b)) = subst (DataStands file now) head (head_stands file items k can (omega (arith, lt, number))) in
    subst (λ (entry : Option PageHead). data_fault now a entry ≡ None) (sym (entry_moved file items k can lt)) (data_still file now a b (page_entry file b) (longer file items can) same old)

-- ---- new entries

new_good : (file : List ℕ) (items : List ResItem) (k : ℕ) → CanExtend file items → k < new_page_count items →
    data_fault (extended file items) (pages_place file items + PAGE_ENTRY_LEN * page_count file + PAGE_ENTRY_LEN * k) (page_entry (extended file items) (pages_place file items + PAGE_ENTRY_LEN * page_count file + PAGE_ENTRY_LEN * k)) ≡ None
new_good file items k can lt =
    let now = extended file items in
    let a = pages_place file items + PAGE_ENTRY_LEN * page_count file + PAGE_ENTRY_LEN * k in
    let page = placed_page file items k in
    let begins = page_begins (object_size items) k lt in
    let r = rise file items in
    let o = r.objects in
    let p = r.pages in
    let f = r.fixups in
    let e = r.resources in
    let w = r.whole in
    let long = (stands file items can).long in
    let there : page.at + page.len ≤ length now = omega (arith, begins, o, p, f, e, w, long) in
    let short : page.len ≤ PAGE_SIZE = omega arith in
    let good : data_fault now a (Some page) ≡ None = rw (le-leb (page.at + page.len) (length now) there, le-leb page.len PAGE_SIZE short) refl in
    subst (λ (entry : Option PageHead). data_fault now a entry ≡ None) (sym (new_entry file items k can lt)) good

-- ---- all

pub pages_faultless : (file : List ℕ) (items : List ResItem) → CanExtend file items → pages_fault (extended file items) ≡ None
unfolding pages_fault
pages_faultless file items can =
    let now = extended file items in
    let h = header_now file items can in
    let n = page_count file in
    let m = new_page_count items in
    let p = pages_place file items in
    let place : (k : ℕ) → page_place now k ≡ p + PAGE_ENTRY_LEN * k = (λ k. ap (λ (t : ℕ). t + PAGE_ENTRY_LEN * k) h.heads) in
    let r = rise file items in
    let b = r.fixups in
    let c = r.resources in
    let d = r.whole in
    let long = (stands file items can).long in
    let room : (k : ℕ) → k < n + m → p + PAGE_ENTRY_LEN * k + 8 ≤ length now = (λ k lt. omega (arith, b, c, d, long, lt)) in
    subst (λ (c : ℕ). first_of c (page_fault now) ≡ None) (sym h.pages) (none_range (page_fault now) (n + m) (each_two (λ k. page_fault now k ≡ None) n m
    (λ k lt. entry_good now k (p + PAGE_ENTRY_LEN * k) (place k) (room k (omega (arith, lt))) (old_good file items k can lt))
    (λ j lt.
    let at : p + PAGE_ENTRY_LEN * n + PAGE_ENTRY_LEN * j ≡ p + PAGE_ENTRY_LEN * (n + j) = omega arith in
    entry_good now (n + j) (p + PAGE_ENTRY_LEN * (n + j)) (place (n + j)) (room (n + j) (omega (arith, lt))) (subst (λ (a : ℕ). data_fault now a (page_entry now a) ≡ None) at (new_good file items j can lt)))))
