-- What a layout says of its own numbers: its places rise, from the file's end on, up to the most bytes of a file.
use Rattle.std.proofs.Common.{◌≡◌, ℕ, ◌+◌, ◌-◌, ◌*◌, ◌<◌, ◌≤◌, Bool, true, false, cond, eqb, List, length, refl, subst, ap, arith}
use Rattle.lx_model.specs.declared.lengths.TheConstants.{RESOURCE_ENTRY_LEN}
use Rattle.lx_model.specs.declared.header_fields.TheConstants.{DATA_PAGES}
use Rattle.lx_model.specs.Header.{field}
use Rattle.lx_model.specs.FixupPages.{has_records}
use Rattle.lx_types.specs.declared.object.ObjHead.{ObjHead}
use Rattle.lx_types.specs.declared.parts.Parts.{Parts}
use Rattle.lx_model.specs.Module.{IsRead, parts_of}
use Rattle.lx_model.specs.Tables.{objects_of}
use Rattle.res_model.specs.declared.item.ResItem.{ResItem}
use Rattle.res_model.specs.Placed.{object_size, page_number, new_page_count}
use Rattle.res_model.specs.Layout.{end_of, page_unit, paged_place, data_place, objects_place, pages_place, fixups_place, resources_place, end_place}
use Rattle.res_bind.specs.Numbers.{IsPlanOf}
use Rattle.res_bind.specs.declared.header.OldTables.{OldTables}
use Rattle.res_bind.specs.declared.layout.Layout.{Layout}
use Rattle.res_bind.proofs.Multiples.{unit_above}

-- ---- the places one by one

end_above : (file : List ℕ) → (length file ≤ end_of file) × (field file DATA_PAGES ≤ end_of file)
end_above file = (omega arith, omega arith)

paged_above : (file : List ℕ) → 1 ≤ page_unit file → end_of file ≤ paged_place file
paged_above file some =
    let above = unit_above (end_of file - field file DATA_PAGES) (page_unit file) some in
    let ends = end_above file in
    let low = ends.1 in
    omega (arith, above, low)

pub by_pages : (none : Bool) (a b e : ℕ) → e ≤ a → e ≤ b → e ≤ cond none a b
by_pages true a b e p q = p
by_pages false a b e p q = q

data_above : (file : List ℕ) (pages : ℕ) → 1 ≤ page_unit file → end_of file ≤ data_place file pages
data_above file pages some = by_pages (eqb pages 0) (end_of file) (paged_place file) (end_of file) (omega arith) (paged_above file some)

objects_are : (file : List ℕ) (items : List ResItem) → objects_place file items ≡ data_place file (new_page_count items) + object_size items
unfolding objects_place
objects_are file items = refl

pages_above : (file : List ℕ) (items : List ResItem) → objects_place file items ≤ pages_place file items
unfolding pages_place
pages_above file items = omega arith

fixups_above : (file : List ℕ) (items : List ResItem) → pages_place file items ≤ fixups_place file items
unfolding fixups_place
fixups_above file items = omega arith

resources_above : (file : List ℕ) (items : List ResItem) → fixups_place file items ≤ resources_place file items
unfolding resources_place
resources_above file items = by_pages (has_records file) _ _ (fixups_place file items) (omega arith) (omega arith)

end_is : (file : List ℕ) (items : List ResItem) → end_place file items ≡ resources_place file items + RESOURCE_ENTRY_LEN * length items
unfolding end_place
end_is file items = refl

-- ---- all of them

pub record LayoutFacts (file : List ℕ) (tables : OldTables) (items : List ResItem) (layout : Layout) : Type 0 where
  pub after : length file ≤ layout.contents
  pub data_pages : tables.data_pages ≤ layout.contents
  pub objects : layout.contents + layout.size ≡ layout.objects
  pub page_table : layout.objects ≤ layout.page_table
  pub fixups : layout.page_table ≤ layout.fixups
  pub resources : layout.fixups ≤ layout.resources
  pub most : layout.resources + RESOURCE_ENTRY_LEN * length items ≤ 16777216
  pub size : object_size items ≤ 16777216

pub facts : {file : List ℕ} {tables : OldTables} {objects : List ObjHead} {items : List ResItem} {layout : Layout} → IsPlanOf file tables objects items layout → LayoutFacts file tables items layout
facts {file} {tables} {objects} {items} {layout} plan =
    let places = plan.places in
    let numbers = plan.numbers in
    let some : 1 ≤ page_unit file = subst (λ (n : ℕ). 1 ≤ n) numbers.page_unit numbers.small_unit.0 in
    let first = data_above file (new_page_count items) some in
    let low = end_above file in
    let low0 = low.0 in
    let low1 = low.1 in
    let o = objects_are file items in
    let p = pages_above file items in
    let f = fixups_above file items in
    let r = resources_above file items in
    let e = end_is file items in
    let c0 = places.contents in
    let c1 = places.objects in
    let c2 = places.page_table in
    let c3 = places.fixups in
    let c4 = places.resources in
    let c5 = places.size in
    let c6 = places.small in
    let d = numbers.data_pages in
    record {
      after = omega (arith, first, low0, c0);
      data_pages = omega (arith, first, low1, c0, d);
      objects = omega (arith, o, c0, c1, c5);
      page_table = omega (arith, p, c1, c2);
      fixups = omega (arith, f, c2, c3);
      resources = omega (arith, r, c3, c4);
      most = omega (arith, e, c4, c6);
      size = omega (arith, o, p, f, r, e, c6);
    }

pub pages_small : (size k : ℕ) → size ≤ 16777216 → k < page_number size → k * 4096 ≤ 16777216
pages_small size k le lt = omega arith

-- the objects of a module that was read are those of its file
pub objects_read : (m : Parts) → IsRead m → m.objects ≡ objects_of m.file
unfolding parts_of
objects_read m read = ap (λ (p : Parts). p.objects) read.means.parts
