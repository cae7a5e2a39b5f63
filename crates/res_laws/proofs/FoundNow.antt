-- The resources of the bound file are the items, and their bytes lie in the new object.
use Rattle.std.proofs.Common.{◌≡◌, ℕ, ◌+◌, ◌-◌, ◌*◌, ◌/◌, ◌%◌, ◌<◌, ◌≤◌, ◌^◌, Bool, true, false, cond, ◌&&◌, ◌||◌, not, leb, ltb, eqb, List, [], ◌∷◌, ◌++◌, map, length, take, drop, get_or, Option, Some, None, refl, sym, ap, ◌∙◌, append_assoc, arith, length-append}
use Rattle.std.specs.Prelude.{All, replicate, find, option_map}
use Rattle.std.specs.List.{range_with_len, list_any, AllByRecursion as Each}
use Rattle.std.proofs.lemmas.Bool.Decides.{nat_tests}
use Rattle.std.proofs.lemmas.List.{length-replicate, length_push, take_at, get_or_at, get_or-append_right, get_or_append_left, get_or-take, get_or-drop}
use Rattle.std.proofs.lemmas.List.Elements.{All-from_recursion}
use Rattle.std.proofs.lemmas.List.FromFn.{get_or-map-range_with_len, fill_by_all}
use Rattle.std.proofs.lemmas.Bool.{le-leb, and_from}
use Rattle.lx_bytes.specs.LittleEndian.{little, little_bytes}
use Rattle.lx_bytes.proofs.Numbers.{length-little_bytes, little-little_bytes}
use Rattle.lx_types.specs.Object.{zero_page, page_of}
use Rattle.lx_types.specs.Parts.{span, no_object, object_of, page_at}
use Rattle.lx_types.specs.declared.object.ObjHead.{ObjHead}
use Rattle.lx_types.specs.declared.object.PageHead.{PageHead}
use Rattle.lx_types.specs.declared.object.TheConstants.{PAGE_SIZE}
use Rattle.lx_types.specs.declared.parts.Parts.{Parts}
use Rattle.lx_types.specs.declared.resource.ResSpot.{ResSpot}
use Rattle.lx_model.specs.declared.lengths.TheConstants.{RESOURCE_ENTRY_LEN}
use Rattle.lx_model.specs.Reading.{number_at}
use Rattle.lx_model.specs.Header.{page_count, object_count}
use Rattle.lx_model.specs.Tables.{objects_of, page_heads}
use Rattle.lx_model.specs.Module.{parts_of}
use Rattle.lx_model.specs.ModuleBytes.{page_with}
use Rattle.lx_model.specs.Fixed.{kind_bytes, page_bytes, Raw}
use Rattle.lx_model.specs.Resources.{Resource, resource_at, resource_table, resource_count, resources_of, is_in_object, is_whole, Res}
use Rattle.lx_model.specs.Resources as found
use Rattle.res_model.specs.ResFile.{ItemFits, AreApart, same_key, has_key}
use Rattle.res_model.specs.declared.item.ResItem.{ResItem}
use Rattle.res_model.specs.Bound.{new_object}
use Rattle.res_model.specs.Layout.{data_place, resources_place}
use Rattle.res_model.specs.Placed.{aligned, end_from, data_from, entry_spelling, entries_from, object_size, new_page_count}
use Rattle.res_bind.proofs.Sizes.{aligned_above, end_above}
use Rattle.res_laws.specs.Binding.{raw_bytes, IsFound}
use Rattle.res_laws.proofs.Lists.{map_range, At, at_more, at_place, at_same}
use Rattle.res_laws.proofs.Standing.{extended}
use Rattle.res_laws.proofs.Layouts.{CanExtend, small, size_small, stands, from_resources, from_data, from_objects}
use Rattle.res_laws.proofs.HeaderNow.{header_now}
use Rattle.res_laws.proofs.ObjectsNow.{objects_number, objects_now}
use Rattle.res_laws.proofs.PagesNow.{pages_now, placed_page}
use Rattle.res_laws.proofs.PageFaults.{heads_number}

-- ---- one entry

number_here : (n v at : ℕ) (file ys : List ℕ) → At file at (little_bytes n v ++ ys) → v < 256 ^ n → number_at n file at ≡ v
number_here n v at file ys here fits = ap (λ (zs : List ℕ). little (take n zs)) here.is ∙ ap little (take_at (little_bytes n v) ys n (length-little_bytes n v)) ∙ little-little_bytes n v fits

regroup : (a b c d e t : List ℕ) → a ++ b ++ c ++ d ++ e ++ t ≡ a ++ (b ++ (c ++ (d ++ (e ++ t))))
regroup a b c d e t = simp append_assoc refl

-- where an item lies after so many bytes of an object
abbrev spot_of : ℕ → ℕ → ResItem → ResSpot
spot_of object end i = record { object = object; offset = aligned end; len = length i.bytes }

abbrev entry_of : ℕ → ℕ → ℕ → ℕ → ℕ → ℕ → Resource
entry_of at ty id len object offset = record { at = at; ty = ty; id = id; spot = record { object = object; offset = offset; len = len } }

same_entry : {at a b c d e a' b' c' d' e' : ℕ} → a ≡ a' → b ≡ b' → c ≡ c' → d ≡ d' → e ≡ e' → entry_of at a b c d e ≡ entry_of at a' b' c' d' e'
same_entry p q r s t = cc

entry_at : (file : List ℕ) (at object end : ℕ) (i : ResItem) (rest : List ℕ) → At file at (entry_spelling object (record { item = i; offset = aligned end }) ++ rest) → ItemFits i → object < 2 ^ 16 → aligned end < 2 ^ 32 →
    resource_at file at ≡ entry_of at i.ty i.id (length i.bytes) object (aligned end)
entry_at file at object end i rest here fits small low =
    let a = little_bytes 2 i.ty in
    let b = little_bytes 2 i.id in
    let c = little_bytes 4 (length i.bytes) in
    let d = little_bytes 2 object in
    let e = little_bytes 4 (aligned end) in
    let one = at_same file _ _ at (regroup a b c d e rest) here in
    let two = at_more file a (b ++ (c ++ (d ++ (e ++ rest)))) at 2 one refl in
    let three = at_place file (c ++ (d ++ (e ++ rest))) _ (at + 4) (omega arith) (at_more file b (c ++ (d ++ (e ++ rest))) (at + 2) 2 two refl) in
    let four = at_place file (d ++ (e ++ rest)) _ (at + 8) (omega arith) (at_more file c (d ++ (e ++ rest)) (at + 4) 4 three refl) in
    let five = at_place file (e ++ rest) _ (at + 10) (omega arith) (at_more file d (e ++ rest) (at + 8) 2 four refl) in
    same_entry (number_here 2 i.ty at file _ one fits.ty) (number_here 2 i.id (at + 2) file _ two fits.id) (number_here 4 (length i.bytes) (at + 4) file _ three fits.bytes) (number_here 2 object (at + 8) file _ four small)
    (number_here 4 (aligned end) (at + 10) file _ five low)

-- ---- the new object

new_number : (file : List ℕ) (items : List ResItem) → CanExtend file items → length (parts_of (extended file items)).objects ≡ object_count file + 1
unfolding parts_of
new_number file items can =
    let number = objects_number file in
    ap (λ (os : List ObjHead). length os) (objects_now file items can) ∙ length_push (objects_of file) (new_object file items) ∙ ap (λ (n : ℕ). n + 1) number

new_is : (file : List ℕ) (items : List ResItem) → CanExtend file items → object_of (parts_of (extended file items)) (object_count file + 1) ≡ new_object file items
unfolding parts_of
new_is file items can =
    let number = objects_number file in
    ap (λ (os : List ObjHead). get_or os (object_count file + 1 - 1) no_object) (objects_now file items can) ∙ get_or_at (objects_of file) (new_object file items) [] no_object (object_count file + 1 - 1) (omega (arith, number))

size_is : (file : List ℕ) (items : List ResItem) → (new_object file items).size ≡ object_size items
unfolding new_object
size_is file items = refl

all_three : (a b c : Bool) → a ≡ true → b ≡ true → c ≡ true → (a && b && c) ≡ true
all_three a b c p q r = rw (p, q, r) refl

not_zero : (n : ℕ) → not (eqb (n + 1) 0) ≡ true
not_zero n = grind (arith, nat_tests)

lies_whole : (file : List ℕ) (items : List ResItem) (r : Resource) → CanExtend file items → r.at + 14 ≤ length (extended file items) → r.spot.object ≡ object_count file + 1 → r.spot.offset + r.spot.len ≤ object_size items → is_whole (parts_of (extended file items)) r ≡ true
unfolding parts_of
lies_whole file items r can there object le =
    let now = parts_of (extended file items) in
    let number = new_number file items can in
    let size : (object_of now r.spot.object).size ≡ object_size items = ap (λ (o : ℕ). (object_of now o).size) object ∙ ap (λ (o : ObjHead). o.size) (new_is file items can) ∙ size_is file items in
    and_from (leb (r.at + RESOURCE_ENTRY_LEN) (length (extended file items))) (is_in_object now r.spot) (le-leb (r.at + 14) (length (extended file items)) there)
    (all_three (not (eqb r.spot.object 0)) (leb r.spot.object (length now.objects)) (leb (r.spot.offset + r.spot.len) (object_of now r.spot.object).size)
    (ap (λ (o : ℕ). not (eqb o 0)) object ∙ not_zero (object_count file)) (le-leb r.spot.object (length now.objects) (omega (arith, object, number))) (le-leb (r.spot.offset + r.spot.len) (object_of now r.spot.object).size (omega (arith, size, le))))

-- ---- the search

-- where the first item of this type and identifier lies, of items after so many bytes
abbrev spot_from : ℕ → ℕ → ℕ → ℕ → List ResItem → Option ResSpot
spot_from object ty id end [] = None
spot_from object ty id end (i ∷ items) = cond (has_key ty id i) (Some (spot_of object end i)) (spot_from object ty id (aligned end + length i.bytes) items)

abbrev spot_found : Parts → ℕ → ℕ → List Resource → Option ResSpot
spot_found m ty id rs = option_map (λ (r : Resource). r.spot) (find (λ r. found.has_key ty id r && is_whole m r) rs)

one_more : (m : Parts) (ty id object end : ℕ) (i : ResItem) (r : Resource) (rs : List Resource) (at : ℕ) → r ≡ entry_of at i.ty i.id (length i.bytes) object (aligned end) → is_whole m r ≡ true → (o : Option ResSpot) → spot_found m ty id rs ≡ o →
    spot_found m ty id (r ∷ rs) ≡ cond (has_key ty id i) (Some (spot_of object end i)) o
one_more m ty id object end i r rs at is whole o rest =
    let key : found.has_key ty id r ≡ has_key ty id i = ap (found.has_key ty id) is in
    ap (λ (w : Bool). option_map (λ (x : Resource). x.spot) (cond (found.has_key ty id r && w) (Some r) (find (λ x. found.has_key ty id x && is_whole m x) rs))) whole
    ∙ by_key (found.has_key ty id r) (has_key ty id i) key
  where
    by_key : (a b : Bool) → a ≡ b → option_map (λ (x : Resource). x.spot) (cond (a && true) (Some r) (find (λ x. found.has_key ty id x && is_whole m x) rs)) ≡ cond b (Some (spot_of object end i)) o
    by_key true true e = ap (λ (x : Resource). Some x.spot) is
    by_key false false e = rest
    by_key true false e = absurd cc
    by_key false true e = absurd cc

search_is : (file : List ℕ) (all items : List ResItem) (ty id end a : ℕ) → CanExtend file all → At (extended file all) (resources_place file all + RESOURCE_ENTRY_LEN * a) (entries_from (object_count file + 1) end items) → Each ItemFits items → end_from end items ≡ object_size all → object_size all < 2 ^ 32 →
    spot_found (parts_of (extended file all)) ty id (map (λ k. resource_at (extended file all) (resources_place file all + RESOURCE_ENTRY_LEN * k)) (range_with_len a (length items))) ≡ spot_from (object_count file + 1) ty id end items
search_is file all [] ty id end a can here fits size small' = refl
search_is file all (i ∷ items) ty id end a can here fits size small' =
    let now = extended file all in
    let m = parts_of now in
    let object = object_count file + 1 in
    let at = resources_place file all + RESOURCE_ENTRY_LEN * a in
    let next = aligned end + length i.bytes in
    let entry = entry_spelling object (record { item = i; offset = aligned end }) in
    let rest = entries_from object next items in
    let above = end_above next items in
    let few = (small file all can).objects in
    let long = here.long in
    let fourteen : length entry ≡ 14 = refl in
    let parts : length (entry ++ rest) ≡ 14 + length rest = (let whole = length-append entry rest in omega (arith, whole, fourteen)) in
    let r = resource_at now at in
    let is = entry_at now at object end i rest here fits.0 (omega (arith, few)) (omega (arith, size, above, small')) in
    let spot_is : r.spot ≡ spot_of object end i = ap (λ (x : Resource). x.spot) is in
    let whole = lies_whole file all r can (omega (arith, long, parts)) (ap (λ (s : ResSpot). s.object) spot_is)
    (let o : r.spot.offset ≡ aligned end = ap (λ (s : ResSpot). s.offset) spot_is in let l : r.spot.len ≡ length i.bytes = ap (λ (s : ResSpot). s.len) spot_is in omega (arith, size, above, o, l)) in
    let after = at_place now rest _ (resources_place file all + RESOURCE_ENTRY_LEN * (a + 1)) (omega arith) (at_more now entry rest at 14 here refl) in
    one_more m ty id object end i r (map (λ k. resource_at now (resources_place file all + RESOURCE_ENTRY_LEN * k)) (range_with_len (a + 1) (length items))) at is whole (spot_from object ty id next items)
    (search_is file all items ty id next (a + 1) can after fits.1 size small')

res_is : (file : List ℕ) (items : List ResItem) (ty id : ℕ) → CanExtend file items → Res (parts_of (extended file items)) ty id ≡ spot_from (object_count file + 1) ty id 0 items
unfolding Res resources_of parts_of
res_is file items ty id can =
    let now = extended file items in
    let h = header_now file items can in
    let few = size_small file items can in
    let here = at_place now (from_resources file items) (resources_place file items) (resources_place file items + RESOURCE_ENTRY_LEN * 0) (omega arith) (stands file items can).resources in
    ap (λ (t : ℕ). spot_found (parts_of now) ty id (map (λ k. resource_at now (t + RESOURCE_ENTRY_LEN * k)) (range_with_len 0 (resource_count now)))) h.resources
    ∙ ap (λ (n : ℕ). spot_found (parts_of now) ty id (map (λ k. resource_at now (resources_place file items + RESOURCE_ENTRY_LEN * k)) (range_with_len 0 n))) h.number
    ∙ search_is file items items ty id 0 0 can here can.fit refl (omega (arith, few))

-- ---- what is not found

not_from : (object ty id end : ℕ) (items : List ResItem) → list_any (has_key ty id) items ≡ false → spot_from object ty id end items ≡ None
not_from object ty id end [] e = refl
not_from object ty id end (i ∷ items) e = by_key (has_key ty id i) (list_any (has_key ty id) items) e (not_from object ty id (aligned end + length i.bytes) items)
  where
    by_key : (a b : Bool) → (a || b) ≡ false → (b ≡ false → spot_from object ty id (aligned end + length i.bytes) items ≡ None) → cond a (Some (spot_of object end i)) (spot_from object ty id (aligned end + length i.bytes) items) ≡ None
    by_key true b h rest = absurd cc
    by_key false b h rest = rest h

pub others_now : (file : List ℕ) (items : List ResItem) (ty id : ℕ) → CanExtend file items → list_any (has_key ty id) items ≡ false → Res (parts_of (extended file items)) ty id ≡ None
others_now file items ty id can none = res_is file items ty id can ∙ not_from (object_count file + 1) ty id 0 items none

-- ---- the bytes of the new object

shape_by : (pages : List PageHead) (count first j : ℕ) → j < count → cond (ltb j count) (get_or pages (first - 1 + j) zero_page) zero_page ≡ get_or pages (first - 1 + j) zero_page
shape_by pages count first j lt = ap (λ (b : Bool). cond b (get_or pages (first - 1 + j) zero_page) zero_page) (less j count lt)
  where
    less : (m n : ℕ) → m < n → ltb m n ≡ true
    less m n lt = grind (arith, nat_tests)

first_is : (file : List ℕ) (items : List ResItem) → 0 < new_page_count items → (new_object file items).first ≡ page_count file + 1
unfolding new_object
first_is file items some = ap (λ (b : Bool). cond b 0 (page_count file + 1)) (not_none (new_page_count items) some)
  where
    not_none : (n : ℕ) → 0 < n → eqb n 0 ≡ false
    not_none n lt = grind (arith, nat_tests)

count_is : (file : List ℕ) (items : List ResItem) → (new_object file items).count ≡ new_page_count items
unfolding new_object
count_is file items = refl

new_page_is : (file : List ℕ) (items : List ResItem) (j : ℕ) → CanExtend file items → j < new_page_count items → page_at (parts_of (extended file items)) (record { object = object_count file + 1; page = j }) ≡ placed_page file items j
unfolding parts_of
new_page_is file items j can lt =
    let now = extended file items in
    let o = new_object file items in
    let n = page_count file in
    let m = new_page_count items in
    let count = count_is file items in
    let first = first_is file items (omega (arith, lt)) in
    let number = heads_number file in
    ap (λ (x : ObjHead). page_of (page_heads now) x j) (new_is file items can)
    ∙ shape_by (page_heads now) o.count o.first j (omega (arith, count, lt))
    ∙ ap (λ (ps : List PageHead). get_or ps (o.first - 1 + j) zero_page) (pages_now file items can)
    ∙ get_or-append_right (page_heads file) (map (placed_page file items) (range_with_len 0 m)) n (o.first - 1 + j) zero_page number (omega (arith, first))
    ∙ get_or-map-range_with_len (placed_page file items) 0 m (o.first - 1 + j - n) j zero_page (omega (arith, first, lt)) (omega (arith, first))

-- byte x of the new object
raw_new : (file : List ℕ) (items : List ResItem) (x : ℕ) → CanExtend file items → x < object_size items → Raw (parts_of (extended file items)) (page_with (object_count file + 1) x) (x % PAGE_SIZE) ≡ get_or (extended file items) (data_place file (new_page_count items) + x) 0
unfolding Raw page_bytes parts_of
raw_new file items x can lt =
    let now = extended file items in
    let d = data_place file (new_page_count items) in
    let j = x / PAGE_SIZE in
    let page = placed_page file items j in
    let there : j < new_page_count items = omega (arith, lt) in
    let is = new_page_is file items j can there in
    let place : page.at + x % PAGE_SIZE ≡ d + x = omega arith in
    let size : page.at + page.len - page.at ≡ page.len = omega arith in
    let inside : x % PAGE_SIZE < page.len = omega (arith, lt) in
    ap (λ (p : PageHead). get_or (kind_bytes p.kind (span now p.at (p.at + p.len))) (x % PAGE_SIZE) 0) is
    ∙ ap (λ (n : ℕ). get_or (take n (drop page.at now)) (x % PAGE_SIZE) 0) size
    ∙ get_or-take page.len (drop page.at now) (x % PAGE_SIZE) 0 inside ∙ get_or-drop page.at now (x % PAGE_SIZE) 0 ∙ ap (λ (n : ℕ). get_or now n 0) place

-- bytes that stand in the data of the new object
raw_are : (file : List ℕ) (items : List ResItem) (offset : ℕ) (bytes rest : List ℕ) → CanExtend file items → At (extended file items) (data_place file (new_page_count items) + offset) (bytes ++ rest) → offset + length bytes ≤ object_size items →
    raw_bytes (parts_of (extended file items)) (object_count file + 1) offset (length bytes) ≡ bytes
raw_are file items offset bytes rest can here le =
    let now = extended file items in
    let m = parts_of now in
    let d = data_place file (new_page_count items) in
    let f = (λ (x : ℕ). Raw m (page_with (object_count file + 1) x) (x % PAGE_SIZE)) in
    let g = (λ (k : ℕ). f (offset + k)) in
    let shifted : map f (range_with_len offset (length bytes)) ≡ map g (range_with_len 0 (length bytes)) = map_range f g offset 0 (length bytes) (λ k lt. ap g (omega arith)) in
    shifted ∙ sym (fill_by_all g bytes (length bytes) 0 refl (λ k lt.
    let byte : get_or now (d + (offset + k)) 0 ≡ get_or bytes k 0 = ap (λ (n : ℕ). get_or now n 0) (omega arith) ∙ sym (get_or-drop (d + offset) now k 0) ∙ ap (λ (xs : List ℕ). get_or xs k 0) here.is ∙ get_or_append_left bytes rest 0 k lt in
    sym (raw_new file items (offset + k) can (omega (arith, le, lt)) ∙ byte)))

-- ---- what is found

abbrev FoundFrom : List ℕ → List ResItem → ℕ → List ResItem → ResItem → Type 0
FoundFrom file all end items i = (spot : ResSpot) × (spot_from (object_count file + 1) i.ty i.id end items ≡ Some spot) × (raw_bytes (parts_of (extended file all)) spot.object spot.offset spot.len ≡ i.bytes)

own_key : (i : ResItem) → has_key i.ty i.id i ≡ true
own_key i = grind (arith, nat_tests)

other_key : (a b c d : ℕ) → (eqb a c && eqb b d) ≡ false → (eqb c a && eqb d b) ≡ false
other_key a b c d e = grind (arith, nat_tests)

skips : (file : List ℕ) (all : List ResItem) (end : ℕ) (i : ResItem) (items others : List ResItem) → Each (λ other. same_key i other ≡ false) others → Each (FoundFrom file all (aligned end + length i.bytes) items) others → Each (FoundFrom file all end (i ∷ items)) others
skips file all end i items [] apart h = tt
skips file all end i items (other ∷ others) apart h =
    let key : has_key other.ty other.id i ≡ false = other_key other.ty other.id i.ty i.id apart.0 in
    let rest = spot_from (object_count file + 1) other.ty other.id (aligned end + length i.bytes) items in
    ((h.0.0, ap (λ (b : Bool). cond b (Some (spot_of (object_count file + 1) end i)) rest) key ∙ h.0.1, h.0.2), skips file all end i items others apart.1 h.1)

found_from : (file : List ℕ) (all items : List ResItem) (end : ℕ) (rest : List ℕ) → CanExtend file all → AreApart items → At (extended file all) (data_place file (new_page_count all) + end) (data_from end items ++ rest) → end_from end items ≡ object_size all → Each (FoundFrom file all end items) items
found_from file all [] end rest can apart here size = tt
found_from file all (i ∷ items) end rest can apart here size =
    let now = extended file all in
    let d = data_place file (new_page_count all) in
    let object = object_count file + 1 in
    let next = aligned end + length i.bytes in
    let zeros : List ℕ = replicate (aligned end - end) 0 in
    let tail = data_from next items in
    let up = aligned_above end in
    let padded = length-replicate {A = ℕ} (aligned end - end) 0 in
    let above = end_above next items in
    let whole = at_same now _ (zeros ++ (i.bytes ++ (tail ++ rest))) (d + end) (regroup_four zeros i.bytes tail rest) here in
    let bytes = at_place now (i.bytes ++ (tail ++ rest)) _ (d + aligned end) (omega (arith, up)) (at_more now zeros (i.bytes ++ (tail ++ rest)) (d + end) (aligned end - end) whole padded) in
    let after = at_place now (tail ++ rest) _ (d + next) (omega arith) (at_more now i.bytes (tail ++ rest) (d + aligned end) (length i.bytes) bytes refl) in
    let others = found_from file all items next rest can apart.1 after size in
    let spot = spot_of object end i in
    let there : spot_from object i.ty i.id end (i ∷ items) ≡ Some spot = ap (λ (b : Bool). cond b (Some spot) (spot_from object i.ty i.id next items)) (own_key i) in
    let raw = raw_are file all (aligned end) i.bytes (tail ++ rest) can bytes (omega (arith, above, size)) in
    ((spot, there, raw), skips file all end i items items apart.0 others)
  where
    regroup_four : (z b t r : List ℕ) → z ++ b ++ t ++ r ≡ z ++ (b ++ (t ++ r))
    regroup_four z b t r = simp append_assoc refl

each_found : (file : List ℕ) (all items : List ResItem) → CanExtend file all → Each (FoundFrom file all 0 all) items → Each (IsFound (parts_of (extended file all))) items
each_found file all [] can h = tt
each_found file all (i ∷ items) can h =
    (record { spot = h.0.0; found = res_is file all i.ty i.id can ∙ h.0.1; bytes = h.0.2 }, each_found file all items can h.1)

pub found_now : (file : List ℕ) (items : List ResItem) → CanExtend file items → AreApart items → All (IsFound (parts_of (extended file items))) items
found_now file items can apart =
    let now = extended file items in
    let d = data_place file (new_page_count items) in
    let here = at_place now (from_data file items) d (d + 0) (omega arith) (stands file items can).contents in
    All-from_recursion (IsFound (parts_of now)) items (each_found file items items can (found_from file items items 0 (from_objects file items) can apart here refl))
