-- Where everything stands in the bound file.
use Rattle.std.proofs.Common.{◌≡◌, ℕ, zero, suc, ◌+◌, ◌-◌, ◌*◌, ◌<◌, ◌≤◌, ◌^◌, inl, inr, Bool, true, false, cond, ◌&&◌, ◌||◌, leb, ltb, eqb, List, [], ◌∷◌, ◌++◌, length, Option, Some, None, refl, sym, ap, append_assoc, arith, length-append}
use Rattle.std.specs.Prelude.{replicate}
use Rattle.std.specs.List.{flat_map, repeat, AllByRecursion as Each}
use Rattle.std.proofs.Math.Nat.{pow-suc}
use Rattle.std.proofs.lemmas.Bool.Decides.{nat_tests}
use Rattle.std.proofs.lemmas.List.{length-replicate}
use Rattle.std.proofs.lemmas.List.FromFn.{length-map-range_with_len}
use Rattle.lx_bytes.specs.LittleEndian.{AreBytes}
use Rattle.lx_types.specs.declared.object.PageHead.{PageHead}
use Rattle.lx_types.specs.declared.refusal.LxRefusal.{LxRefusal}
use Rattle.lx_types.specs.declared.limits.TheConstants.{MAX_PAGES, MAX_OBJECTS, MAX_FILE}
use Rattle.lx_model.specs.declared.lengths.TheConstants.{OBJECT_ENTRY_LEN, PAGE_ENTRY_LEN, RESOURCE_ENTRY_LEN}
use Rattle.lx_model.specs.declared.header_fields.TheConstants.{PAGE_OFFSET_SHIFT, OBJECT_TABLE, OBJECT_PAGE_TABLE, FIXUP_PAGE_TABLE, DATA_PAGES}
use Rattle.lx_model.specs.Reading.{short_at, first_of, ◌then◌}
use Rattle.lx_model.specs.Header.{header_place, header_fault, header_fields, field, table, page_count, object_count}
use Rattle.lx_model.specs.Tables.{object_entry, object_place, object_fault, objects_fault, lacks_pages, page_place, page_entry, page_fault, pages_fault, data_fault}
use Rattle.lx_model.specs.FixupPages.{has_records, offset_place, span_fault, spans_fault}
use Rattle.lx_model.specs.Module.{LxFault}
use Rattle.lx_model.specs.TableSpelling.{object_spelling, page_spelling, pages_spelling}
use Rattle.lx_model.proofs.Firsts.{then_none, first_none, each_none}
use Rattle.lx_model.proofs.Meaning.{judged}
use Rattle.lx_model.proofs.Soundness.{not_short}
use Rattle.lx_model.proofs.TablesTaken.{length-repeat}
use Rattle.res_model.specs.ResFile.{ItemFits}
use Rattle.res_model.specs.declared.item.ResItem.{ResItem}
use Rattle.res_model.specs.Bound.{old_entries, object_table, page_table, fixup_table, last_offset, new_object, new_pages, new_page, with_fields, appended}
use Rattle.res_model.specs.Clear.{is_clear}
use Rattle.res_model.specs.Layout.{end_of, page_unit, paged_place, data_place, objects_place, pages_place, fixups_place, resources_place, end_place}
use Rattle.res_bind.specs.Numbers.{IsHeadOf}
use Rattle.res_model.specs.Placed.{Placed, aligned, placed_from, end_from, data_from, entry_spelling, entries_from, object_size, new_page_count}
use Rattle.res_model.specs.Refusal.{are_too_many, layout_refusal}
use Rattle.res_model.specs.declared.refusal.BindRefusal.{BindRefusal}
use Rattle.res_model.specs.declared.refusal.BindRefusal.TheVariants.{TooMany, TooLarge}
use Rattle.res_bind.proofs.Headers.{head_is}
use Rattle.res_bind.proofs.Multiples.{unit_above}
use Rattle.res_bind.proofs.Sizes.{aligned_above}
use Rattle.res_bind.proofs.Facts.{by_pages}
use Rattle.res_laws.proofs.Lists.{At, at_start, at_more, at_place, at_same, IsThere, length_table, length_span}
use Rattle.res_laws.proofs.Standing.{extended, front_long}

-- What is known of a file and of items that are bound to it.
pub record CanExtend (file : List ℕ) (items : List ResItem) : Type 0 where
  pub short : length file < 2 ^ 32
  pub bytes : AreBytes file
  pub faultless : LxFault file ≡ None
  pub fit : Each ItemFits items
  pub allowed : layout_refusal file items ≡ None
  pub clear : is_clear file ≡ true

header_good : (file : List ℕ) → LxFault file ≡ None → header_fault file ≡ None
unfolding LxFault
header_good file e = (then_none (header_fault file) _ e).0

pub header_of : (file : List ℕ) (items : List ResItem) → CanExtend file items → IsHeadOf file (record { place = header_place file; fields = header_fields file })
header_of file items can = head_is file (record { place = header_place file; fields = header_fields file }) can.short (header_good file can.faultless) refl refl

-- ---- what a refusal leaves

pub record Small (file : List ℕ) (items : List ResItem) : Type 0 where
  pub objects : object_count file + 1 ≤ 1024
  pub pages : page_count file + new_page_count items ≤ 65536
  pub whole : end_place file items ≤ 16777216

allowed_by : (many : Bool) (bytes : ℕ) (a b : BindRefusal) → cond many (Some a) (cond (ltb MAX_FILE bytes) (Some b) None) ≡ None → (many ≡ false) × (bytes ≤ 16777216)
allowed_by true bytes a b e = absurd cc
allowed_by false bytes a b e = (refl, grind (arith, nat_tests))

few : (o p : ℕ) → (ltb MAX_OBJECTS o || ltb MAX_PAGES p) ≡ false → (o ≤ 1024) × (p ≤ 65536)
few o p e = (grind (arith, nat_tests), grind (arith, nat_tests))

pub small : (file : List ℕ) (items : List ResItem) → CanExtend file items → Small file items
unfolding layout_refusal
small file items can =
    let by = allowed_by (are_too_many file items) (end_place file items) TooMany TooLarge can.allowed in
    let counts = few (object_count file + 1) (page_count file + new_page_count items) by.0 in
    record { objects = counts.0; pages = counts.1; whole = by.1 }

-- ---- places

pow_some : (n : ℕ) → 1 ≤ 2 ^ n
pow_some zero = omega arith
pow_some (suc n) = let more = pow-suc 2 n in let some = pow_some n in omega (arith, more, some)

pub unit_some : (file : List ℕ) → 1 ≤ page_unit file
unit_some file = pow_some (field file PAGE_OFFSET_SHIFT)

pub data_above : (file : List ℕ) (pages : ℕ) → (length file ≤ data_place file pages) × (field file DATA_PAGES ≤ data_place file pages)
data_above file pages =
    let above = unit_above (end_of file - field file DATA_PAGES) (page_unit file) (unit_some file) in
    let ends : (length file ≤ end_of file) × (field file DATA_PAGES ≤ end_of file) = (omega arith, omega arith) in
    let low = ends.0 in
    let low' = ends.1 in
    let paged : end_of file ≤ paged_place file = omega (arith, above, low') in
    let all = by_pages (eqb pages 0) (end_of file) (paged_place file) (end_of file) (omega arith) paged in
    (omega (arith, all, low), omega (arith, all, low'))

-- how many bytes the new fixup page table has
abbrev pub fixups_size : List ℕ → List ResItem → ℕ
fixups_size file items = cond (has_records file) (4 * (page_count file + new_page_count items + 1)) 0

pub record Rise (file : List ℕ) (items : List ResItem) : Type 0 where
  pub contents : length file ≤ data_place file (new_page_count items)
  pub first : field file DATA_PAGES ≤ data_place file (new_page_count items)
  pub objects : objects_place file items ≡ data_place file (new_page_count items) + object_size items
  pub pages : pages_place file items ≡ objects_place file items + OBJECT_ENTRY_LEN * (object_count file + 1)
  pub fixups : fixups_place file items ≡ pages_place file items + PAGE_ENTRY_LEN * (page_count file + new_page_count items)
  pub resources : resources_place file items ≡ fixups_place file items + fixups_size file items
  pub whole : end_place file items ≡ resources_place file items + RESOURCE_ENTRY_LEN * length items

added : (b : Bool) (m n : ℕ) → cond b (m + n) m ≡ m + cond b n 0
added true m n = refl
added false m n = omega arith

pub rise : (file : List ℕ) (items : List ResItem) → Rise file items
unfolding objects_place pages_place fixups_place resources_place end_place
rise file items = record {
  contents = (data_above file (new_page_count items)).0;
  first = (data_above file (new_page_count items)).1;
  objects = refl;
  pages = refl;
  fixups = refl;
  resources = added (has_records file) (fixups_place file items) (4 * (page_count file + new_page_count items + 1));
  whole = refl;
}

pub size_small : (file : List ℕ) (items : List ResItem) → CanExtend file items → object_size items ≤ 16777216
size_small file items can =
    let r = rise file items in
    let o = r.objects in
    let p = r.pages in
    let f = r.fixups in
    let e = r.resources in
    let w = r.whole in
    let m = (small file items can).whole in
    omega (arith, o, p, f, e, w, m)

-- ---- old tables lie in the file

after_test : (b : Bool) (e : LxRefusal) (other : Option LxRefusal) → cond b (Some e) other ≡ None → other ≡ None
after_test true e other h = absurd cc
after_test false e other h = h

object_there : (file : List ℕ) (k : ℕ) → object_fault file k ≡ None → object_place file k + 24 ≤ length file
object_there file k e =
    let at = object_place file k in
    let inner = after_test (leb (at + 20) (length file) && lacks_pages (page_count file) (object_entry file at)) _ _ e in
    let last = not_short 4 file (at + 20) (first_none (λ i. short_at 4 file (at + 4 * i)) 0 6 5 inner (omega arith) (omega arith)) in
    omega (arith, last)

table_there : (file : List ℕ) (a size n : ℕ) → ((k : ℕ) → k < n → a + size * k + size ≤ length file) → IsThere file a (size * n)
table_there file a size zero h = inl (omega arith)
table_there file a size (suc n) h = let last = h n (omega arith) in let product : size * suc n ≡ size * n + size = omega arith in inr (omega (arith, last, product))

pub objects_there : (file : List ℕ) → LxFault file ≡ None → IsThere file (table file OBJECT_TABLE) (OBJECT_ENTRY_LEN * object_count file)
unfolding objects_fault
objects_there file e =
    let j = judged file e in
    table_there file (table file OBJECT_TABLE) 24 (object_count file) (λ k lt. object_there file k (each_none (object_count file) (object_fault file) k j.objects lt))

page_there : (file : List ℕ) (k : ℕ) → page_fault file k ≡ None → page_place file k + 8 ≤ length file
page_there file k e =
    let at = page_place file k in
    let judged = data_fault file at (page_entry file at) in
    let after_offset = then_none (short_at 4 file at) (short_at 2 file (at + 4) then short_at 2 file (at + 6) then judged) e in
    let after_size = then_none (short_at 2 file (at + 4)) (short_at 2 file (at + 6) then judged) after_offset.1 in
    let last = not_short 2 file (at + 6) (then_none (short_at 2 file (at + 6)) judged after_size.1).0 in
    omega (arith, last)

pub pages_there : (file : List ℕ) → LxFault file ≡ None → IsThere file (table file OBJECT_PAGE_TABLE) (PAGE_ENTRY_LEN * page_count file)
unfolding pages_fault
pages_there file e =
    let j = judged file e in
    table_there file (table file OBJECT_PAGE_TABLE) 8 (page_count file) (λ k lt. page_there file k (each_none (page_count file) (page_fault file) k j.pages lt))

offsets_by : (file : List ℕ) (records : Bool) → cond records (first_of (page_count file + 1) (span_fault file)) None ≡ None → records ≡ true → table file FIXUP_PAGE_TABLE + 4 * (page_count file + 1) ≤ length file
offsets_by file true e is =
    let last = each_none (page_count file + 1) (span_fault file) (page_count file) e (omega arith) in
    let there = not_short 4 file (offset_place file (page_count file)) (then_none (short_at 4 file (offset_place file (page_count file))) _ last).0 in
    omega (arith, there)
offsets_by file false e is = absurd cc

pub offsets_there : (file : List ℕ) → LxFault file ≡ None → has_records file ≡ true → table file FIXUP_PAGE_TABLE + 4 * (page_count file + 1) ≤ length file
unfolding spans_fault
offsets_there file e is = let j = judged file e in offsets_by file (has_records file) j.spans is

-- ---- lengths

pub data_length : (end : ℕ) (items : List ResItem) → end + length (data_from end items) ≡ end_from end items
data_length end [] = omega arith
data_length end (i ∷ items) =
    let up = aligned_above end in
    let zeros : List ℕ = replicate (aligned end - end) 0 in
    let rest = data_from (aligned end + length i.bytes) items in
    let a = length-append (zeros ++ i.bytes) rest in
    let b = length-append zeros i.bytes in
    let c = length-replicate {A = ℕ} (aligned end - end) 0 in
    let others = data_length (aligned end + length i.bytes) items in
    omega (arith, up, a, b, c, others)

pub objects_length : (file : List ℕ) (items : List ResItem) → LxFault file ≡ None → length (object_table file items) ≡ OBJECT_ENTRY_LEN * (object_count file + 1)
unfolding object_table
objects_length file items e =
    let old = old_entries file OBJECT_TABLE OBJECT_ENTRY_LEN (object_count file) in
    let size = length_table file (table file OBJECT_TABLE) (OBJECT_ENTRY_LEN * object_count file) (objects_there file e) in
    let whole = length-append old (object_spelling (new_object file items)) in
    let new : length (object_spelling (new_object file items)) ≡ 24 = refl in
    omega (arith, size, whole, new)

spelled_length : (ps : List PageHead) → length (pages_spelling ps) ≡ PAGE_ENTRY_LEN * length ps
spelled_length [] = omega arith
spelled_length (p ∷ ps) =
    let rest = spelled_length ps in
    let whole = length-append (page_spelling p) (pages_spelling ps) in
    let one : length (page_spelling p) ≡ 8 = refl in
    omega (arith, rest, whole, one)

pub pages_number : (file : List ℕ) (items : List ResItem) → length (new_pages file items) ≡ new_page_count items
unfolding new_pages
pages_number file items = length-map-range_with_len (new_page file items) 0 (new_page_count items)

pub pages_length : (file : List ℕ) (items : List ResItem) → LxFault file ≡ None → length (page_table file items) ≡ PAGE_ENTRY_LEN * (page_count file + new_page_count items)
unfolding page_table
pages_length file items e =
    let old = old_entries file OBJECT_PAGE_TABLE PAGE_ENTRY_LEN (page_count file) in
    let size = length_table file (table file OBJECT_PAGE_TABLE) (PAGE_ENTRY_LEN * page_count file) (pages_there file e) in
    let whole = length-append old (pages_spelling (new_pages file items)) in
    let new = spelled_length (new_pages file items) in
    let number = pages_number file items in
    omega (arith, size, whole, new, number)

pub last_length : (file : List ℕ) → LxFault file ≡ None → has_records file ≡ true → length (last_offset file) ≡ 4
last_length file e is = let there = offsets_there file e is in length_span file (table file FIXUP_PAGE_TABLE + 4 * page_count file) 4 (omega (arith, there))

fixups_by : (file : List ℕ) (items : List ResItem) (records : Bool) → LxFault file ≡ None → (records ≡ true → has_records file ≡ true) →
    length (cond records (old_entries file FIXUP_PAGE_TABLE 4 (page_count file + 1) ++ repeat (new_page_count items) (last_offset file)) []) ≡ cond records (4 * (page_count file + new_page_count items + 1)) 0
fixups_by file items true e is =
    let there = offsets_there file e (is refl) in
    let size = length_span file (table file FIXUP_PAGE_TABLE) (4 * (page_count file + 1)) there in
    let last = last_length file e (is refl) in
    let again = length-repeat (new_page_count items) (last_offset file) in
    let whole = length-append (old_entries file FIXUP_PAGE_TABLE 4 (page_count file + 1)) (repeat (new_page_count items) (last_offset file)) in
    let product : new_page_count items * length (last_offset file) ≡ new_page_count items * 4 = ap (λ (n : ℕ). new_page_count items * n) last in
    omega (arith, size, again, whole, product)
fixups_by file items false e is = refl

pub fixups_length : (file : List ℕ) (items : List ResItem) → LxFault file ≡ None → length (fixup_table file (new_page_count items)) ≡ fixups_size file items
unfolding fixup_table
fixups_length file items e = fixups_by file items (has_records file) e (λ is. is)

entry_length : (object : ℕ) (p : Placed) → length (entry_spelling object p) ≡ 14
entry_length object p = refl

placed_length : (object : ℕ) (ps : List Placed) → length (flat_map (entry_spelling object) ps) ≡ RESOURCE_ENTRY_LEN * length ps
placed_length object [] = omega arith
placed_length object (p ∷ ps) =
    let rest = placed_length object ps in
    let whole = length-append (entry_spelling object p) (flat_map (entry_spelling object) ps) in
    let one = entry_length object p in
    omega (arith, rest, whole, one)

pub placed_number : (end : ℕ) (items : List ResItem) → length (placed_from end items) ≡ length items
placed_number end [] = refl
placed_number end (i ∷ items) = let rest = placed_number (aligned end + length i.bytes) items in omega (arith, rest)

pub entries_length : (object end : ℕ) (items : List ResItem) → length (entries_from object end items) ≡ RESOURCE_ENTRY_LEN * length items
entries_length object end items = let a = placed_length object (placed_from end items) in let b = placed_number end items in omega (arith, a, b)

-- ---- what stands where

-- the parts that are appended, from the data on
abbrev pub from_resources : List ℕ → List ResItem → List ℕ
from_resources file items = entries_from (object_count file + 1) 0 items

abbrev pub from_fixups : List ℕ → List ResItem → List ℕ
from_fixups file items = fixup_table file (new_page_count items) ++ from_resources file items

abbrev pub from_pages : List ℕ → List ResItem → List ℕ
from_pages file items = page_table file items ++ from_fixups file items

abbrev pub from_objects : List ℕ → List ResItem → List ℕ
from_objects file items = object_table file items ++ from_pages file items

abbrev pub from_data : List ℕ → List ResItem → List ℕ
from_data file items = data_from 0 items ++ from_objects file items

pub record Stands (file : List ℕ) (items : List ResItem) : Type 0 where
  pub contents : At (extended file items) (data_place file (new_page_count items)) (from_data file items)
  pub objects : At (extended file items) (objects_place file items) (from_objects file items)
  pub pages : At (extended file items) (pages_place file items) (from_pages file items)
  pub fixups : At (extended file items) (fixups_place file items) (from_fixups file items)
  pub resources : At (extended file items) (resources_place file items) (from_resources file items)
  pub long : length (extended file items) ≡ end_place file items

regroup : (w z d o p f e : List ℕ) → w ++ (z ++ d ++ o ++ p ++ f ++ e) ≡ w ++ (z ++ (d ++ (o ++ (p ++ (f ++ e)))))
regroup w z d o p f e = simp append_assoc refl

all_there : (file : List ℕ) (items : List ResItem) → extended file items ≡ with_fields file items ++ (replicate (data_place file (new_page_count items) - length file) 0 ++ from_data file items)
unfolding appended
all_there file items = regroup (with_fields file items) (replicate (data_place file (new_page_count items) - length file) 0) (data_from 0 items) (object_table file items) (page_table file items) (fixup_table file (new_page_count items)) (from_resources file items)

pub stands : (file : List ℕ) (items : List ResItem) → CanExtend file items → Stands file items
stands file items can =
    let now = extended file items in
    let r = rise file items in
    let head = header_of file items can in
    let e = can.faultless in
    let d = data_place file (new_page_count items) in
    let zeros : List ℕ = replicate (d - length file) 0 in
    let front = front_long file items head.long in
    let padded = length-replicate {A = ℕ} (d - length file) 0 in
    let whole : At now 0 (with_fields file items ++ (zeros ++ from_data file items)) = at_same now now _ 0 (all_there file items) (at_start now) in
    let after = at_more now (with_fields file items) (zeros ++ from_data file items) 0 (length file) whole front in
    let contents = at_place now (from_data file items) _ d (let low = r.contents in omega (arith, low)) (at_more now zeros (from_data file items) (0 + length file) (d - length file) after padded) in
    let objects = at_place now (from_objects file items) _ (objects_place file items) (sym r.objects)
    (at_more now (data_from 0 items) (from_objects file items) d (object_size items) contents (let n = data_length 0 items in omega (arith, n))) in
    let pages = at_place now (from_pages file items) _ (pages_place file items) (sym r.pages) (at_more now (object_table file items) (from_pages file items) (objects_place file items) _ objects (objects_length file items e)) in
    let fixups = at_place now (from_fixups file items) _ (fixups_place file items) (sym r.fixups) (at_more now (page_table file items) (from_fixups file items) (pages_place file items) _ pages (pages_length file items e)) in
    let resources = at_place now (from_resources file items) _ (resources_place file items) (sym r.resources)
    (at_more now (fixup_table file (new_page_count items)) (from_resources file items) (fixups_place file items) _ fixups (fixups_length file items e)) in
    record {
      contents = contents;
      objects = objects;
      pages = pages;
      fixups = fixups;
      resources = resources;
      long = (let end = resources.long in let n = entries_length (object_count file + 1) 0 items in let w = r.whole in omega (arith, end, n, w));
    }
