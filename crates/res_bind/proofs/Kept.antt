-- Old bytes stand, but for those of the fields that are set.
use Rattle.std.proofs.Common.{◌≡◌, ℕ, ◌+◌, ◌-◌, ◌<◌, ◌≤◌, Bool, true, false, cond, ◌&&◌, ◌||◌, ltb, leb, List, [], ◌∷◌, ◌++◌, map, length, take, drop, get_or, ◌⊎◌, inl, inr, refl, ap, ◌∙◌, arith, length-append, lit≤}
use Rattle.std.proofs.lemmas.Bool.{cases_lt, or_parts}
use Rattle.std.proofs.lemmas.Bool.Decides.{nat_tests}
use Rattle.std.proofs.lemmas.List.{length-take, length-drop, get_or_append_left, get_or-append_right, get_or-take, get_or-drop}
use Rattle.lx_bytes.specs.LittleEndian.{little_bytes}
use Rattle.lx_model.specs.declared.header_fields.TheConstants.{MODULE_PAGES, OBJECT_TABLE, OBJECT_COUNT, OBJECT_PAGE_TABLE, RESOURCE_TABLE, RESOURCE_COUNT, FIXUP_PAGE_TABLE, HEAP_SIZE}
use Rattle.lx_model.specs.Header.{header_place, page_count, object_count}
use Rattle.lx_model.specs.FixupPages.{has_records}
use Rattle.res_model.specs.declared.item.ResItem.{ResItem}
use Rattle.res_model.specs.Placed.{new_page_count}
use Rattle.res_model.specs.Layout.{objects_place, pages_place, fixups_place, resources_place}
use Rattle.res_model.specs.Bound.{with_number, with_fields, appended}
use Rattle.std.specs.List.{list_any}
use Rattle.res_model.specs.Clear.{part}
use Rattle.res_bind.specs.Laws.{is_set, OldBytesStand}
use Rattle.res_bind.proofs.Headers.{header_long}

-- ---- one number

abbrev pub Outside : ℕ → ℕ → Type 0
Outside at x = (x < at) ⊎ (at + 4 ≤ x)

pub number_length : (at v : ℕ) (f : List ℕ) → at + 4 ≤ length f → length (with_number at v f) ≡ length f
unfolding with_number
number_length at v f le =
    let front = length-take at f in
    let back = length-drop (at + 4) f in
    let two = length-append (take at f) (little_bytes 4 v) in
    let all = length-append (take at f ++ little_bytes 4 v) (drop (at + 4) f) in
    omega (arith, front, back, two, all)

before : (at v x : ℕ) (f : List ℕ) → at + 4 ≤ length f → x < at → get_or (with_number at v f) x 0 ≡ get_or f x 0
unfolding with_number
before at v x f le lt =
    let front = length-take at f in
    let two = length-append (take at f) (little_bytes 4 v) in
    get_or_append_left (take at f ++ little_bytes 4 v) (drop (at + 4) f) 0 x (omega (arith, front, two))
    ∙ get_or_append_left (take at f) (little_bytes 4 v) 0 x (omega (arith, front)) ∙ get_or-take at f x 0 lt

after : (at v x : ℕ) (f : List ℕ) → at + 4 ≤ length f → at + 4 ≤ x → get_or (with_number at v f) x 0 ≡ get_or f x 0
unfolding with_number
after at v x f le ge =
    let front = length-take at f in
    let two = length-append (take at f) (little_bytes 4 v) in
    let place : at + 4 + (x - (at + 4)) ≡ x = omega arith in
    get_or-append_right (take at f ++ little_bytes 4 v) (drop (at + 4) f) (at + 4) x 0 (omega (arith, front, two)) ge
    ∙ get_or-drop (at + 4) f (x - (at + 4)) 0 ∙ ap (λ (i : ℕ). get_or f i 0) place

pub number_stands : (at v x : ℕ) (f : List ℕ) → at + 4 ≤ length f → Outside at x → get_or (with_number at v f) x 0 ≡ get_or f x 0
number_stands at v x f le out = elim out [ inl lt ↦ before at v x f le lt | inr ge ↦ after at v x f le ge ]

-- ---- several, one after the other

-- a file that has the length and, at x, the byte of another
pub record Stands (old : List ℕ) (x : ℕ) (now : List ℕ) : Type 0 where
  pub long : length now ≡ length old
  pub byte : get_or now x 0 ≡ get_or old x 0

one_more : (old : List ℕ) (x at v : ℕ) (now : List ℕ) → at + 4 ≤ length old → Outside at x → Stands old x now → Stands old x (with_number at v now)
one_more old x at v now le out stands =
    let fits : at + 4 ≤ length now = omega (arith, le, stands.long) in
    record { long = number_length at v now fits ∙ stands.long; byte = number_stands at v x now fits out ∙ stands.byte }

outside : (at x : ℕ) → (leb at x && ltb x (at + 4)) ≡ false → Outside at x
outside at x e = elim (cases_lt x at) [ inl lt ↦ inl lt | inr ge ↦ inr (past at x e ge) ]
  where
    past : (at x : ℕ) → (leb at x && ltb x (at + 4)) ≡ false → at ≤ x → at + 4 ≤ x
    past at x e ge = grind (arith, nat_tests)

-- a field of the header lies in the file
room : (p offset len : ℕ) → p + 0xAC ≤ len → offset ≤ HEAP_SIZE → p + offset + 4 ≤ len
room p offset len long le = omega (arith, long, le)

-- a place in the field at another
abbrev hit : ℕ → ℕ → Bool
hit at x = leb at x && ltb x (at + 4)

-- the field of the fixup page table, which is set where there is one
last_stands : (records : Bool) (old : List ℕ) (x p v : ℕ) (now : List ℕ) → p + 0xAC ≤ length old → list_any (λ q. leb q.at x && ltb x (q.at + q.len)) (map (λ offset. part (p + offset) 4) (cond records (FIXUP_PAGE_TABLE ∷ []) [])) ≡ false →
    Stands old x now → Stands old x (cond records (with_number (p + FIXUP_PAGE_TABLE) v now) now)
last_stands true old x p v now long unset stands = one_more old x (p + FIXUP_PAGE_TABLE) v now (room p FIXUP_PAGE_TABLE (length old) long (lit≤ tt)) (outside (p + FIXUP_PAGE_TABLE) x (or_parts (hit (p + FIXUP_PAGE_TABLE) x) false unset).0) stands
last_stands false old x p v now long unset stands = stands

pub fields_stand : (file : List ℕ) (items : List ResItem) (x : ℕ) → header_place file + 0xAC ≤ length file → is_set file x ≡ false → Stands file x (with_fields file items)
unfolding with_fields
fields_stand file items x long unset =
    let p = header_place file in
    let r6 = list_any (λ q. leb q.at x && ltb x (q.at + q.len)) (map (λ offset. part (p + offset) 4) (cond (has_records file) (FIXUP_PAGE_TABLE ∷ []) [])) in
    let r5 = hit (p + RESOURCE_COUNT) x || r6 in
    let r4 = hit (p + RESOURCE_TABLE) x || r5 in
    let r3 = hit (p + OBJECT_PAGE_TABLE) x || r4 in
    let r2 = hit (p + OBJECT_COUNT) x || r3 in
    let r1 = hit (p + OBJECT_TABLE) x || r2 in
    let a = or_parts (hit (p + MODULE_PAGES) x) r1 unset in
    let b = or_parts (hit (p + OBJECT_TABLE) x) r2 a.1 in
    let c = or_parts (hit (p + OBJECT_COUNT) x) r3 b.1 in
    let d = or_parts (hit (p + OBJECT_PAGE_TABLE) x) r4 c.1 in
    let e = or_parts (hit (p + RESOURCE_TABLE) x) r5 d.1 in
    let f = or_parts (hit (p + RESOURCE_COUNT) x) r6 e.1 in
    let start : Stands file x file = record { long = refl; byte = refl } in
    let n14 = page_count file + new_page_count items in
    let f14 = with_number (p + MODULE_PAGES) n14 file in
    let pages = one_more file x (p + MODULE_PAGES) n14 file (room p MODULE_PAGES (length file) long (lit≤ tt)) (outside (p + MODULE_PAGES) x a.0) start in
    let n40 = objects_place file items - p in
    let f40 = with_number (p + OBJECT_TABLE) n40 f14 in
    let objects = one_more file x (p + OBJECT_TABLE) n40 f14 (room p OBJECT_TABLE (length file) long (lit≤ tt)) (outside (p + OBJECT_TABLE) x b.0) pages in
    let n44 = object_count file + 1 in
    let f44 = with_number (p + OBJECT_COUNT) n44 f40 in
    let count = one_more file x (p + OBJECT_COUNT) n44 f40 (room p OBJECT_COUNT (length file) long (lit≤ tt)) (outside (p + OBJECT_COUNT) x c.0) objects in
    let n48 = pages_place file items - p in
    let f48 = with_number (p + OBJECT_PAGE_TABLE) n48 f44 in
    let heads = one_more file x (p + OBJECT_PAGE_TABLE) n48 f44 (room p OBJECT_PAGE_TABLE (length file) long (lit≤ tt)) (outside (p + OBJECT_PAGE_TABLE) x d.0) count in
    let n50 = resources_place file items - p in
    let f50 = with_number (p + RESOURCE_TABLE) n50 f48 in
    let resources = one_more file x (p + RESOURCE_TABLE) n50 f48 (room p RESOURCE_TABLE (length file) long (lit≤ tt)) (outside (p + RESOURCE_TABLE) x e.0) heads in
    let f54 = with_number (p + RESOURCE_COUNT) (length items) f50 in
    let all = one_more file x (p + RESOURCE_COUNT) (length items) f50 (room p RESOURCE_COUNT (length file) long (lit≤ tt)) (outside (p + RESOURCE_COUNT) x f.0) resources in
    last_stands (has_records file) file x p (fixups_place file items - p) f54 long f.1 all

pub old_bytes_stand : OldBytesStand
old_bytes_stand file [] x header lt unset = refl
old_bytes_stand file (i ∷ items) x header lt unset =
    let stands = fields_stand file (i ∷ items) x (header_long file header) unset in
    get_or_append_left (with_fields file (i ∷ items)) (appended file (i ∷ items)) 0 x (omega (arith, lt, stands.long)) ∙ stands.byte
