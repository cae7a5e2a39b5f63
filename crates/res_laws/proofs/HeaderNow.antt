-- The header of the bound file: where it stands, and what its fields say.
use Rattle.std.proofs.Common.{◌≡◌, ℕ, ◌+◌, ◌-◌, ◌<◌, ◌≤◌, ◌^◌, Bool, true, false, cond, ◌&&◌, leb, ltb, eqb, List, [], ◌∷◌, map, length, refl, sym, subst, ap, ◌∙◌, arith, length-append, lit≤}
use Rattle.std.specs.List.{list_all, list_any}
use Rattle.std.proofs.lemmas.Bool.Decides.{nat_tests}
use Rattle.std.proofs.lemmas.Bool.{and_parts, or_from}
use Rattle.lx_model.specs.declared.header_fields.TheConstants.{MODULE_PAGES, OBJECT_TABLE, OBJECT_COUNT, OBJECT_PAGE_TABLE, RESOURCE_TABLE, RESOURCE_COUNT, FIXUP_PAGE_TABLE, LX_SIGNATURE, HEADER_PLACE}
use Rattle.lx_model.specs.Reading.{number_at}
use Rattle.lx_model.specs.Header.{is_lx_at, header_place, field, table, page_count, object_count}
use Rattle.lx_model.specs.FixupPages.{has_records}
use Rattle.res_model.specs.declared.item.ResItem.{ResItem}
use Rattle.res_model.specs.Bound.{with_fields, with_number, appended}
use Rattle.res_model.specs.Clear.{part, set_offsets}
use Rattle.res_model.specs.Layout.{objects_place, pages_place, fixups_place, resources_place}
use Rattle.res_model.specs.Placed.{new_page_count}
use Rattle.res_laws.proofs.Lists.{Same, number_same, at_start, number_front}
use Rattle.res_laws.proofs.Sets.{set_all, all_set}
use Rattle.res_laws.proofs.Standing.{extended, byte_stands, part_stands, field_stands, free_stands, lies_free, front_long}
use Rattle.res_laws.proofs.Clear.{frees, is_free}
use Rattle.res_laws.proofs.Layouts.{CanExtend, header_of, small, rise}

-- ---- what is always so

pub long_of : (file : List ℕ) (items : List ResItem) → CanExtend file items → header_place file + 0xAC ≤ length file
long_of file items can = (header_of file items can).long

pub longer : (file : List ℕ) (items : List ResItem) → CanExtend file items → length file ≤ length (extended file items)
longer file items can =
    let front = front_long file items (long_of file items can) in
    let whole = length-append (with_fields file items) (appended file items) in
    omega (arith, front, whole)

-- ---- where it stands

low_none : (offsets : List ℕ) (p x : ℕ) → list_all (λ s. leb MODULE_PAGES s) offsets ≡ true → x < MODULE_PAGES → list_any (λ q. leb q.at x && ltb x (q.at + q.len)) (map (λ offset. part (p + offset) 4) offsets) ≡ false
low_none [] p x e lt = refl
low_none (s ∷ offsets) p x e lt =
    let test = and_parts (leb MODULE_PAGES s) (list_all (λ s. leb MODULE_PAGES s) offsets) e in
    or_from (leb (p + s) x && ltb x (p + s + 4)) _ (not_here p s x test.0 lt) (low_none offsets p x test.1 lt)
  where
    not_here : (p s x : ℕ) → leb MODULE_PAGES s ≡ true → x < MODULE_PAGES → (leb (p + s) x && ltb x (p + s + 4)) ≡ false
    not_here p s x e lt = grind (arith, nat_tests)

low_offsets : (records : Bool) → list_all (λ s. leb MODULE_PAGES s) (set_offsets records) ≡ true
low_offsets true = refl
low_offsets false = refl

start_stands : (file : List ℕ) (items : List ResItem) → CanExtend file items → Same file (extended file items) 0 2
start_stands file items can x low high =
    let long = long_of file items can in
    byte_stands file items x long (omega (arith, long, high)) (low_none (set_offsets (has_records file)) (header_place file) x (low_offsets (has_records file)) (omega (arith, high)))

pub lx_same : (file : List ℕ) (items : List ResItem) → CanExtend file items → is_lx_at (extended file items) 0 ≡ is_lx_at file 0
lx_same file items can = ap (λ (n : ℕ). eqb n LX_SIGNATURE) (number_same 2 file (extended file items) 0 (let long = long_of file items can in omega (arith, long)) (longer file items can) (start_stands file items can))

place_by : (file now : List ℕ) (is : Bool) → is_lx_at file 0 ≡ is → (is ≡ false → number_at 4 now HEADER_PLACE ≡ number_at 4 file HEADER_PLACE) → cond is 0 (number_at 4 now HEADER_PLACE) ≡ cond is 0 (number_at 4 file HEADER_PLACE)
place_by file now true is h = refl
place_by file now false is h = h refl

place_number : (file : List ℕ) (items : List ResItem) → CanExtend file items → is_lx_at file 0 ≡ false → number_at 4 (extended file items) HEADER_PLACE ≡ number_at 4 file HEADER_PLACE
place_number file items can none =
    let long = long_of file items can in
    let free : list_all (is_free file) (part HEADER_PLACE 4 ∷ []) ≡ true = subst (λ (b : Bool). list_all (is_free file) (cond b [] (part HEADER_PLACE 4 ∷ [])) ≡ true) none (frees file can.clear).place in
    let here = and_parts (is_free file (part HEADER_PLACE 4)) true free in
    let there : HEADER_PLACE + 4 ≤ length file = omega (arith, long) in
    number_same 4 file (extended file items) HEADER_PLACE there (longer file items can) (part_stands file items HEADER_PLACE 4 long there here.0)

pub place_same : (file : List ℕ) (items : List ResItem) → CanExtend file items → header_place (extended file items) ≡ header_place file
unfolding header_place
place_same file items can =
    ap (λ (b : Bool). cond b 0 (number_at 4 (extended file items) HEADER_PLACE)) (lx_same file items can)
    ∙ place_by file (extended file items) (is_lx_at file 0) refl (place_number file items can)

-- ---- fields that stand

pub width_same : (file : List ℕ) (items : List ResItem) (w o : ℕ) → CanExtend file items → lies_free o w (set_offsets true) ≡ true → lies_free o w (set_offsets false) ≡ true → leb (o + w) 0xAC ≡ true →
    number_at w (extended file items) (header_place file + o) ≡ number_at w file (header_place file + o)
width_same file items w o can e f low =
    let long = long_of file items can in
    let le : o + w ≤ 0xAC = at_most (o + w) low in
    number_same w file (extended file items) (header_place file + o) (omega (arith, long, le)) (longer file items can) (field_stands file items o w long e f le)
  where
    at_most : (n : ℕ) → leb n 0xAC ≡ true → n ≤ 0xAC
    at_most n e = grind (arith, nat_tests)

-- a field is apart from those that are set in this file
abbrev pub free_of : List ℕ → ℕ → Bool
free_of file o = lies_free o 4 (set_offsets (has_records file))

free_same : (file : List ℕ) (items : List ResItem) (o : ℕ) → CanExtend file items → free_of file o ≡ true → leb (o + 4) 0xAC ≡ true → field (extended file items) o ≡ field file o
unfolding field
free_same file items o can free low =
    let long = long_of file items can in
    let le : o + 4 ≤ 0xAC = at_most (o + 4) low in
    ap (λ (p : ℕ). number_at 4 (extended file items) (p + o)) (place_same file items can)
    ∙ number_same 4 file (extended file items) (header_place file + o) (omega (arith, long, le)) (longer file items can) (free_stands file items o 4 long free le)
  where
    at_most : (n : ℕ) → leb n 0xAC ≡ true → n ≤ 0xAC
    at_most n e = grind (arith, nat_tests)

pub field_same : (file : List ℕ) (items : List ResItem) (o : ℕ) → CanExtend file items → lies_free o 4 (set_offsets true) ≡ true → lies_free o 4 (set_offsets false) ≡ true → leb (o + 4) 0xAC ≡ true → field (extended file items) o ≡ field file o
unfolding field
field_same file items o can e f low =
    ap (λ (p : ℕ). number_at 4 (extended file items) (p + o)) (place_same file items can) ∙ width_same file items 4 o can e f low

pub table_same : (file : List ℕ) (items : List ResItem) (o : ℕ) → CanExtend file items → lies_free o 4 (set_offsets true) ≡ true → lies_free o 4 (set_offsets false) ≡ true → leb (o + 4) 0xAC ≡ true → table (extended file items) o ≡ table file o
table_same file items o can e f low = let p = place_same file items can in let v = field_same file items o can e f low in omega (arith, p, v)

-- ---- fields that are set

record Values : Type 0 where
  pages : ℕ
  objects : ℕ
  count : ℕ
  heads : ℕ
  resources : ℕ
  items : ℕ
  fixups : ℕ

abbrev sets : Bool → Values → List (ℕ × ℕ)
sets records v = (MODULE_PAGES, v.pages) ∷ (OBJECT_TABLE, v.objects) ∷ (OBJECT_COUNT, v.count) ∷ (OBJECT_PAGE_TABLE, v.heads) ∷ (RESOURCE_TABLE, v.resources) ∷ (RESOURCE_COUNT, v.items) ∷ cond records ((FIXUP_PAGE_TABLE, v.fixups) ∷ []) []

record Fit (v : Values) : Type 0 where
  pages : v.pages < 2 ^ 32
  objects : v.objects < 2 ^ 32
  count : v.count < 2 ^ 32
  heads : v.heads < 2 ^ 32
  resources : v.resources < 2 ^ 32
  items : v.items < 2 ^ 32
  fixups : v.fixups < 2 ^ 32

record AreSet (p : ℕ) (file : List ℕ) (v : Values) : Type 0 where
  pages : number_at 4 file (p + MODULE_PAGES) ≡ v.pages
  objects : number_at 4 file (p + OBJECT_TABLE) ≡ v.objects
  count : number_at 4 file (p + OBJECT_COUNT) ≡ v.count
  heads : number_at 4 file (p + OBJECT_PAGE_TABLE) ≡ v.heads
  resources : number_at 4 file (p + RESOURCE_TABLE) ≡ v.resources
  items : number_at 4 file (p + RESOURCE_COUNT) ≡ v.items

are_set : (records : Bool) (p : ℕ) (v : Values) (file : List ℕ) → Fit v → p + 0xAC ≤ length file → AreSet p (set_all (sets records v) p file) v
are_set true p v file fit long = record {
  pages = all_set ([]) MODULE_PAGES v.pages ((OBJECT_TABLE, v.objects) ∷ (OBJECT_COUNT, v.count) ∷ (OBJECT_PAGE_TABLE, v.heads) ∷ (RESOURCE_TABLE, v.resources) ∷ (RESOURCE_COUNT, v.items) ∷ (FIXUP_PAGE_TABLE, v.fixups) ∷ []) p file refl refl refl fit.pages long;
  objects = all_set ((MODULE_PAGES, v.pages) ∷ []) OBJECT_TABLE v.objects ((OBJECT_COUNT, v.count) ∷ (OBJECT_PAGE_TABLE, v.heads) ∷ (RESOURCE_TABLE, v.resources) ∷ (RESOURCE_COUNT, v.items) ∷ (FIXUP_PAGE_TABLE, v.fixups) ∷ []) p file refl refl refl fit.objects long;
  count = all_set ((MODULE_PAGES, v.pages) ∷ (OBJECT_TABLE, v.objects) ∷ []) OBJECT_COUNT v.count ((OBJECT_PAGE_TABLE, v.heads) ∷ (RESOURCE_TABLE, v.resources) ∷ (RESOURCE_COUNT, v.items) ∷ (FIXUP_PAGE_TABLE, v.fixups) ∷ []) p file refl refl refl fit.count long;
  heads = all_set ((MODULE_PAGES, v.pages) ∷ (OBJECT_TABLE, v.objects) ∷ (OBJECT_COUNT, v.count) ∷ []) OBJECT_PAGE_TABLE v.heads ((RESOURCE_TABLE, v.resources) ∷ (RESOURCE_COUNT, v.items) ∷ (FIXUP_PAGE_TABLE, v.fixups) ∷ []) p file refl refl refl fit.heads long;
  resources = all_set ((MODULE_PAGES, v.pages) ∷ (OBJECT_TABLE, v.objects) ∷ (OBJECT_COUNT, v.count) ∷ (OBJECT_PAGE_TABLE, v.heads) ∷ []) RESOURCE_TABLE v.resources ((RESOURCE_COUNT, v.items) ∷ (FIXUP_PAGE_TABLE, v.fixups) ∷ []) p file refl refl refl fit.resources long;
  items = all_set ((MODULE_PAGES, v.pages) ∷ (OBJECT_TABLE, v.objects) ∷ (OBJECT_COUNT, v.count) ∷ (OBJECT_PAGE_TABLE, v.heads) ∷ (RESOURCE_TABLE, v.resources) ∷ []) RESOURCE_COUNT v.items ((FIXUP_PAGE_TABLE, v.fixups) ∷ []) p file refl refl refl fit.items long;
}
are_set false p v file fit long = record {
  pages = all_set ([]) MODULE_PAGES v.pages ((OBJECT_TABLE, v.objects) ∷ (OBJECT_COUNT, v.count) ∷ (OBJECT_PAGE_TABLE, v.heads) ∷ (RESOURCE_TABLE, v.resources) ∷ (RESOURCE_COUNT, v.items) ∷ []) p file refl refl refl fit.pages long;
  objects = all_set ((MODULE_PAGES, v.pages) ∷ []) OBJECT_TABLE v.objects ((OBJECT_COUNT, v.count) ∷ (OBJECT_PAGE_TABLE, v.heads) ∷ (RESOURCE_TABLE, v.resources) ∷ (RESOURCE_COUNT, v.items) ∷ []) p file refl refl refl fit.objects long;
  count = all_set ((MODULE_PAGES, v.pages) ∷ (OBJECT_TABLE, v.objects) ∷ []) OBJECT_COUNT v.count ((OBJECT_PAGE_TABLE, v.heads) ∷ (RESOURCE_TABLE, v.resources) ∷ (RESOURCE_COUNT, v.items) ∷ []) p file refl refl refl fit.count long;
  heads = all_set ((MODULE_PAGES, v.pages) ∷ (OBJECT_TABLE, v.objects) ∷ (OBJECT_COUNT, v.count) ∷ []) OBJECT_PAGE_TABLE v.heads ((RESOURCE_TABLE, v.resources) ∷ (RESOURCE_COUNT, v.items) ∷ []) p file refl refl refl fit.heads long;
  resources = all_set ((MODULE_PAGES, v.pages) ∷ (OBJECT_TABLE, v.objects) ∷ (OBJECT_COUNT, v.count) ∷ (OBJECT_PAGE_TABLE, v.heads) ∷ []) RESOURCE_TABLE v.resources ((RESOURCE_COUNT, v.items) ∷ []) p file refl refl refl fit.resources long;
  items = all_set ((MODULE_PAGES, v.pages) ∷ (OBJECT_TABLE, v.objects) ∷ (OBJECT_COUNT, v.count) ∷ (OBJECT_PAGE_TABLE, v.heads) ∷ (RESOURCE_TABLE, v.resources) ∷ []) RESOURCE_COUNT v.items ([]) p file refl refl refl fit.items long;
}

last_set : (p : ℕ) (v : Values) (file : List ℕ) → Fit v → p + 0xAC ≤ length file → number_at 4 (set_all (sets true v) p file) (p + FIXUP_PAGE_TABLE) ≡ v.fixups
last_set p v file fit long = all_set ((MODULE_PAGES, v.pages) ∷ (OBJECT_TABLE, v.objects) ∷ (OBJECT_COUNT, v.count) ∷ (OBJECT_PAGE_TABLE, v.heads) ∷ (RESOURCE_TABLE, v.resources) ∷ (RESOURCE_COUNT, v.items) ∷ []) FIXUP_PAGE_TABLE v.fixups [] p file refl refl refl fit.fixups long

abbrev values : List ℕ → List ResItem → Values
values file items = record {
  pages = page_count file + new_page_count items;
  objects = objects_place file items - header_place file;
  count = object_count file + 1;
  heads = pages_place file items - header_place file;
  resources = resources_place file items - header_place file;
  items = length items;
  fixups = fixups_place file items - header_place file;
}

values_fit : (file : List ℕ) (items : List ResItem) → CanExtend file items → Fit (values file items)
values_fit file items can =
    let r = rise file items in
    let s = small file items can in
    let o = r.objects in
    let p = r.pages in
    let f = r.fixups in
    let e = r.resources in
    let w = r.whole in
    let m = s.whole in
    let count = s.objects in
    let pages = s.pages in
    let top : resources_place file items ≤ 16777216 = omega (arith, w, m) in
    let third : fixups_place file items ≤ 16777216 = omega (arith, e, top) in
    let second : pages_place file items ≤ 16777216 = omega (arith, f, third) in
    record {
      pages = omega (arith, pages);
      objects = omega (arith, p, second);
      count = omega (arith, count);
      heads = omega (arith, second);
      resources = omega (arith, top);
      items = omega (arith, w, m);
      fixups = omega (arith, third);
    }

sets_by : (records : Bool) (p v : ℕ) (file : List ℕ) → cond records (with_number (p + FIXUP_PAGE_TABLE) v file) file ≡ set_all (cond records ((FIXUP_PAGE_TABLE, v) ∷ []) []) p file
sets_by true p v file = refl
sets_by false p v file = refl

fields_are : (file : List ℕ) (items : List ResItem) → with_fields file items ≡ set_all (sets (has_records file) (values file items)) (header_place file) file
unfolding with_fields
fields_are file items = sets_by (has_records file) (header_place file) (fixups_place file items - header_place file) _

-- a number in the first part of the bound file
in_front : (file : List ℕ) (items : List ResItem) (o : ℕ) → CanExtend file items → o + 4 ≤ 0xAC → number_at 4 (extended file items) (header_place file + o) ≡ number_at 4 (with_fields file items) (header_place file + o)
in_front file items o can le =
    let long = long_of file items can in
    let front = front_long file items long in
    ap (λ (k : ℕ). number_at 4 (extended file items) k) (omega arith) ∙ number_front 4 0 (header_place file + o) (extended file items) (with_fields file items) (appended file items) (at_start (extended file items)) (omega (arith, front, long, le))

in_sets : (file : List ℕ) (items : List ResItem) (o : ℕ) → CanExtend file items → o + 4 ≤ 0xAC → number_at 4 (extended file items) (header_place file + o) ≡ number_at 4 (set_all (sets (has_records file) (values file items)) (header_place file) file) (header_place file + o)
in_sets file items o can le = in_front file items o can le ∙ ap (λ (f : List ℕ). number_at 4 f (header_place file + o)) (fields_are file items)

-- the fields of the bound file that are set
pub record HeaderNow (file : List ℕ) (items : List ResItem) : Type 0 where
  pub pages : field (extended file items) MODULE_PAGES ≡ page_count file + new_page_count items
  pub objects : table (extended file items) OBJECT_TABLE ≡ objects_place file items
  pub count : field (extended file items) OBJECT_COUNT ≡ object_count file + 1
  pub heads : table (extended file items) OBJECT_PAGE_TABLE ≡ pages_place file items
  pub resources : table (extended file items) RESOURCE_TABLE ≡ resources_place file items
  pub number : field (extended file items) RESOURCE_COUNT ≡ length items
  pub fixups : has_records file ≡ true → table (extended file items) FIXUP_PAGE_TABLE ≡ fixups_place file items
  pub records : has_records (extended file items) ≡ has_records file

field_at : (file : List ℕ) (items : List ResItem) (o v : ℕ) → CanExtend file items → o + 4 ≤ 0xAC → number_at 4 (set_all (sets (has_records file) (values file items)) (header_place file) file) (header_place file + o) ≡ v → field (extended file items) o ≡ v
unfolding field
field_at file items o v can le is =
    ap (λ (p : ℕ). number_at 4 (extended file items) (p + o)) (place_same file items can) ∙ in_sets file items o can le ∙ is

table_at : (place h f v : ℕ) → place ≡ h → f ≡ v - h → h ≤ v → place + f ≡ v
table_at place h f v a b le = omega (arith, a, b, le)

last_field : (file : List ℕ) (items : List ResItem) (records : Bool) → CanExtend file items → has_records file ≡ records → records ≡ true → field (extended file items) FIXUP_PAGE_TABLE ≡ fixups_place file items - header_place file
last_field file items true can is _ =
    field_at file items FIXUP_PAGE_TABLE _ can (lit≤ tt) (subst (λ (b : Bool). number_at 4 (set_all (sets b (values file items)) (header_place file) file) (header_place file + FIXUP_PAGE_TABLE) ≡ fixups_place file items - header_place file) (sym is)
    (last_set (header_place file) (values file items) file (values_fit file items can) (long_of file items can)))
last_field file items false can is h = absurd cc

records_by : (file : List ℕ) (items : List ResItem) (records : Bool) → CanExtend file items → has_records file ≡ records → has_records (extended file items) ≡ records
records_by file items true can is =
    let f = last_field file items (has_records file) can refl is in
    let r = rise file items in
    let a = r.contents in
    let b = r.objects in
    let c = r.pages in
    let d = r.fixups in
    let long = long_of file items can in
    positive (field (extended file items) FIXUP_PAGE_TABLE) (omega (arith, f, a, b, c, d, long))
  where
    positive : (n : ℕ) → 0 < n → ltb 0 n ≡ true
    positive n lt = grind (arith, nat_tests)
records_by file items false can is = ap (ltb 0) (none file items can is) ∙ is
  where
    none : (file : List ℕ) (items : List ResItem) → CanExtend file items → has_records file ≡ false → field (extended file items) FIXUP_PAGE_TABLE ≡ field file FIXUP_PAGE_TABLE
    none file items can is = free_same file items FIXUP_PAGE_TABLE can (rw is refl) refl

pub header_now : (file : List ℕ) (items : List ResItem) → CanExtend file items → HeaderNow file items
header_now file items can =
    let v = values file items in
    let p = header_place file in
    let set = are_set (has_records file) p v file (values_fit file items can) (long_of file items can) in
    let place = place_same file items can in
    let r = rise file items in
    let a = r.contents in
    let b = r.objects in
    let c = r.pages in
    let d = r.fixups in
    let e = r.resources in
    let long = long_of file items can in
    let objects_le : p ≤ objects_place file items = omega (arith, a, b, long) in
    let pages_le : p ≤ pages_place file items = omega (arith, c, objects_le) in
    let fixups_le : p ≤ fixups_place file items = omega (arith, d, pages_le) in
    let resources_le : p ≤ resources_place file items = omega (arith, e, fixups_le) in
    record {
      pages = field_at file items MODULE_PAGES _ can (lit≤ tt) set.pages;
      objects = table_at _ p _ (objects_place file items) place (field_at file items OBJECT_TABLE _ can (lit≤ tt) set.objects) objects_le;
      count = field_at file items OBJECT_COUNT _ can (lit≤ tt) set.count;
      heads = table_at _ p _ (pages_place file items) place (field_at file items OBJECT_PAGE_TABLE _ can (lit≤ tt) set.heads) pages_le;
      resources = table_at _ p _ (resources_place file items) place (field_at file items RESOURCE_TABLE _ can (lit≤ tt) set.resources) resources_le;
      number = field_at file items RESOURCE_COUNT _ can (lit≤ tt) set.items;
      fixups = λ is. table_at _ p _ (fixups_place file items) place (last_field file items (has_records file) can refl is) fixups_le;
      records = records_by file items (has_records file) can refl;
    }
