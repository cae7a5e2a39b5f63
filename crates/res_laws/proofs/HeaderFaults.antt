-- The header of the bound file has no fault.
use Rattle.std.proofs.Common.{◌≡◌, ℕ, ◌+◌, ◌<◌, ◌≤◌, Bool, true, false, cond, ◌&&◌, leb, ltb, eqb, List, [], ◌∷◌, map, length, Option, Some, None, refl, sym, subst, ap, ◌∙◌, arith}
use Rattle.std.specs.List.{range_with_len, AllByRecursion as Each}
use Rattle.std.proofs.lemmas.Bool.{le-ltb, ltb-false}
use Rattle.std.proofs.lemmas.Bool.Decides.{nat_tests}
use Rattle.lx_types.specs.declared.object.TheConstants.{PAGE_SIZE}
use Rattle.lx_types.specs.declared.refusal.LxRefusal.{LxRefusal}
use Rattle.lx_types.specs.declared.refusal.LxKind.TheVariants.{Short, Field, TooMany, Signature}
use Rattle.lx_types.specs.declared.limits.TheConstants.{MAX_PAGES, MAX_OBJECTS}
use Rattle.lx_model.specs.declared.header_fields.TheConstants.{BYTE_ORDER, WORD_ORDER, FORMAT_LEVEL, CPU_TYPE, SYSTEM_TYPE, MODULE_VERSION, MODULE_FLAGS, MODULE_PAGES, EIP_OBJECT, EIP, ESP_OBJECT, ESP, PAGE_SIZE_FIELD, PAGE_OFFSET_SHIFT, FIXUP_SECTION_SIZE, FIXUP_SECTION_CHECKSUM, LOADER_SECTION_SIZE, LOADER_SECTION_CHECKSUM, OBJECT_TABLE, OBJECT_COUNT, OBJECT_PAGE_TABLE, ITERATED_PAGES, RESOURCE_TABLE, RESOURCE_COUNT, RESIDENT_NAME_TABLE, ENTRY_TABLE, MODULE_DIRECTIVES, DIRECTIVE_COUNT, FIXUP_PAGE_TABLE, FIXUP_RECORD_TABLE, IMPORT_MODULE_TABLE, IMPORT_MODULE_COUNT, IMPORT_PROCEDURE_TABLE, PAGE_CHECKSUMS, DATA_PAGES, PRELOAD_PAGES, NONRESIDENT_NAME_TABLE, NONRESIDENT_NAME_LENGTH, NONRESIDENT_NAME_CHECKSUM, AUTO_DATA_OBJECT, DEBUG_INFORMATION, DEBUG_LENGTH, INSTANCE_PRELOAD_PAGES, INSTANCE_DEMAND_PAGES, HEAP_SIZE, LX_SIGNATURE, HEADER_PLACE}
use Rattle.lx_model.specs.Reading.{fault, number_at, short_at, first, ◌then◌}
use Rattle.lx_model.specs.Header.{Row, row, rows, row_fault, is_lx_at, place_fault, header_place, header_fault, field, page_count, object_count, is_module_flags}
use Rattle.lx_model.specs.Module.{LxFault}
use Rattle.lx_model.proofs.Firsts.{then_none}
use Rattle.lx_model.proofs.Each.{each_first, each_in_range}
use Rattle.res_model.specs.declared.item.ResItem.{ResItem}
use Rattle.res_model.specs.Clear.{set_offsets}
use Rattle.res_model.specs.Placed.{new_page_count}
use Rattle.res_bind.proofs.Headers.{allowed}
use Rattle.res_laws.proofs.Standing.{extended, lies_free}
use Rattle.res_laws.proofs.Layouts.{CanExtend, small}
use Rattle.res_laws.proofs.HeaderNow.{long_of, longer, lx_same, place_same, width_same, header_now}

pub none_then : {A : Type 0} (a b : Option A) → a ≡ None → b ≡ None → (a then b) ≡ None
none_then a b p q = rw p q

pub none_first : {X A : Type 0} (f : X → Option A) (xs : List X) → Each (λ x. f x ≡ None) xs → first (map f xs) ≡ None
none_first f [] h = refl
none_first f (x ∷ xs) h = rw h.0 (none_first f xs h.1)

pub none_range : {A : Type 0} (f : ℕ → Option A) (n : ℕ) → ((k : ℕ) → k < n → f k ≡ None) → first (map f (range_with_len 0 n)) ≡ None
none_range f n h = none_first f (range_with_len 0 n) (each_in_range (λ k. f k ≡ None) 0 n (λ k low lt. h k (omega (arith, lt))))

pub long_enough : (n : ℕ) (file : List ℕ) (at : ℕ) → at + n ≤ length file → short_at n file at ≡ None
long_enough n file at le = rw (le-ltb (length file) (at + n) le) refl

-- ---- rows

row_ok : (short good : Bool) (a b : LxRefusal) → short ≡ false → good ≡ true → cond short (Some a) (cond good None (Some b)) ≡ None
row_ok short good a b p q = rw (p, q) refl

within : (n : ℕ) → leb n 0xAC ≡ true → n ≤ 0xAC
within n e = grind (arith, nat_tests)

fits_now : (file : List ℕ) (items : List ResItem) (o w : ℕ) → CanExtend file items → o + w ≤ 0xAC → ltb (length (extended file items)) (header_place file + o + w) ≡ false
fits_now file items o w can le = let long = long_of file items can in let more = longer file items can in le-ltb _ _ (omega (arith, long, more, le))

same_row : (file : List ℕ) (items : List ResItem) (r : Row) → CanExtend file items → lies_free r.offset r.width (set_offsets true) ≡ true → lies_free r.offset r.width (set_offsets false) ≡ true → leb (r.offset + r.width) 0xAC ≡ true →
    row_fault file (header_place file) r ≡ None → row_fault (extended file items) (header_place file) r ≡ None
same_row file items r can e f low good =
    let at = header_place file + r.offset in
    let old = allowed (ltb (length file) (at + r.width)) (r.allows (number_at r.width file at)) (fault Short at) (fault r.kind at) good in
    row_ok _ (r.allows (number_at r.width (extended file items) at)) (fault Short at) (fault r.kind at) (fits_now file items r.offset r.width can (within (r.offset + r.width) low)) (ap r.allows (width_same file items r.width r.offset can e f low) ∙ old)

any_row : (file : List ℕ) (items : List ResItem) (o : ℕ) → CanExtend file items → leb (o + 4) 0xAC ≡ true → row_fault (extended file items) (header_place file) (row o 4 (λ _. true) Field) ≡ None
any_row file items o can low = let at = header_place file + o in row_ok _ true (fault Short at) (fault Field at) (fits_now file items o 4 can (within (o + 4) low)) refl

few_row : (file : List ℕ) (items : List ResItem) (o most n : ℕ) → CanExtend file items → number_at 4 (extended file items) (header_place file + o) ≡ n → n ≤ most → leb (o + 4) 0xAC ≡ true →
    row_fault (extended file items) (header_place file) (row o 4 (λ v. leb v most) TooMany) ≡ None
few_row file items o most n can is le low =
    let at = header_place file + o in
    row_ok _ (leb (number_at 4 (extended file items) at) most) (fault Short at) (fault TooMany at) (fits_now file items o 4 can (within (o + 4) low)) (ap (λ (v : ℕ). leb v most) is ∙ at_most n most le)
  where
    at_most : (n most : ℕ) → n ≤ most → leb n most ≡ true
    at_most n most le = grind (arith, nat_tests)

number_of : (file : List ℕ) (items : List ResItem) (o n : ℕ) → CanExtend file items → field (extended file items) o ≡ n → number_at 4 (extended file items) (header_place file + o) ≡ n
unfolding field
number_of file items o n can is = ap (λ (p : ℕ). number_at 4 (extended file items) (p + o)) (sym (place_same file items can)) ∙ is

header_parts : (file : List ℕ) → LxFault file ≡ None → (place_fault file ≡ None) × Each (λ r. row_fault file (header_place file) r ≡ None) rows
unfolding LxFault header_fault
header_parts file e =
    let header = (then_none (place_fault file then first (map (row_fault file (header_place file)) rows)) _ e).0 in
    let both = then_none (place_fault file) (first (map (row_fault file (header_place file)) rows)) header in
    (both.0, each_first (row_fault file (header_place file)) rows both.1)

rows_now : (file : List ℕ) (items : List ResItem) → CanExtend file items → Each (λ r. row_fault (extended file items) (header_place file) r ≡ None) rows
rows_now file items can =
    let good = (header_parts file can.faultless).1 in
    let now = header_now file items can in
    let pages = number_of file items MODULE_PAGES (page_count file + new_page_count items) can now.pages in
    let count = number_of file items OBJECT_COUNT (object_count file + 1) can now.count in
    let small = small file items can in (
      same_row file items (row BYTE_ORDER 1 (λ v. eqb v 0) Field) can refl refl refl good.0,
      (
        same_row file items (row WORD_ORDER 1 (λ v. eqb v 0) Field) can refl refl refl good.1.0,
        (
          same_row file items (row FORMAT_LEVEL 4 (λ v. eqb v 0) Field) can refl refl refl good.1.1.0,
          (
            same_row file items (row CPU_TYPE 2 (λ v. leb 1 v && leb v 3) Field) can refl refl refl good.1.1.1.0,
            (
              same_row file items (row SYSTEM_TYPE 2 (λ v. eqb v 1) Field) can refl refl refl good.1.1.1.1.0,
              (
                any_row file items MODULE_VERSION can refl,
                (
                  same_row file items (row MODULE_FLAGS 4 is_module_flags Field) can refl refl refl good.1.1.1.1.1.1.0,
                  (
                    few_row file items MODULE_PAGES MAX_PAGES (page_count file + new_page_count items) can pages small.pages refl,
                    (
                      any_row file items EIP_OBJECT can refl,
                      (
                        any_row file items EIP can refl,
                        (
                          any_row file items ESP_OBJECT can refl,
                          (
                            any_row file items ESP can refl,
                            (
                              same_row file items (row PAGE_SIZE_FIELD 4 (λ v. eqb v PAGE_SIZE) Field) can refl refl refl good.1.1.1.1.1.1.1.1.1.1.1.1.0,
                              (
                                same_row file items (row PAGE_OFFSET_SHIFT 4 (λ v. leb v 12) Field) can refl refl refl good.1.1.1.1.1.1.1.1.1.1.1.1.1.0,
                                (
                                  any_row file items FIXUP_SECTION_SIZE can refl,
                                  (
                                    any_row file items FIXUP_SECTION_CHECKSUM can refl,
                                    (
                                      any_row file items LOADER_SECTION_SIZE can refl,
                                      (
                                        any_row file items LOADER_SECTION_CHECKSUM can refl,
                                        (
                                          any_row file items OBJECT_TABLE can refl,
                                          (
                                            few_row file items OBJECT_COUNT MAX_OBJECTS (object_count file + 1) can count small.objects refl,
                                            (
                                              any_row file items OBJECT_PAGE_TABLE can refl,
                                              (
                                                any_row file items ITERATED_PAGES can refl,
                                                (
                                                  any_row file items RESOURCE_TABLE can refl,
                                                  (
                                                    any_row file items RESOURCE_COUNT can refl,
                                                    (
                                                      any_row file items RESIDENT_NAME_TABLE can refl,
                                                      (
                                                        any_row file items ENTRY_TABLE can refl,
                                                        (
                                                          any_row file items MODULE_DIRECTIVES can refl,
                                                          (
                                                            any_row file items DIRECTIVE_COUNT can refl,
                                                            (
                                                              any_row file items FIXUP_PAGE_TABLE can refl,
                                                              (
                                                                any_row file items FIXUP_RECORD_TABLE can refl,
                                                                (
                                                                  any_row file items IMPORT_MODULE_TABLE can refl,
                                                                  (
                                                                    any_row file items IMPORT_MODULE_COUNT can refl,
                                                                    (
                                                                      any_row file items IMPORT_PROCEDURE_TABLE can refl,
                                                                      (
                                                                        any_row file items PAGE_CHECKSUMS can refl,
                                                                        (
                                                                          any_row file items DATA_PAGES can refl,
                                                                          (
                                                                            any_row file items PRELOAD_PAGES can refl,
                                                                            (
                                                                              any_row file items NONRESIDENT_NAME_TABLE can refl,
                                                                              (
                                                                                any_row file items NONRESIDENT_NAME_LENGTH can refl,
                                                                                (
                                                                                  any_row file items NONRESIDENT_NAME_CHECKSUM can refl,
                                                                                  (
                                                                                    any_row file items AUTO_DATA_OBJECT can refl,
                                                                                    (
                                                                                      any_row file items DEBUG_INFORMATION can refl,
                                                                                      (
                                                                                        any_row file items DEBUG_LENGTH can refl,
                                                                                        (
                                                                                          any_row file items INSTANCE_PRELOAD_PAGES can refl,
                                                                                          (
                                                                                            any_row file items INSTANCE_DEMAND_PAGES can refl,
                                                                                            (any_row file items HEAP_SIZE can refl, tt),
                                                                                          ),
                                                                                        ),
                                                                                      ),
                                                                                    ),
                                                                                  ),
                                                                                ),
                                                                              ),
                                                                            ),
                                                                          ),
                                                                        ),
                                                                      ),
                                                                    ),
                                                                  ),
                                                                ),
                                                              ),
                                                            ),
                                                          ),
                                                        ),
                                                      ),
                                                    ),
                                                  ),
                                                ),
                                              ),
                                            ),
                                          ),
                                        ),
                                      ),
                                    ),
                                  ),
                                ),
                              ),
                            ),
                          ),
                        ),
                      ),
                    ),
                  ),
                ),
              ),
            ),
          ),
        ),
      ),
    )

-- ---- the place

place_by : (file now : List ℕ) (is : Bool) → is_lx_at file 0 ≡ is → is_lx_at now 0 ≡ is → length file ≤ length now → is_lx_at now (header_place now) ≡ is_lx_at file (header_place file) → place_fault file ≡ None → place_fault now ≡ None
place_by file now true p q long same e = rw q refl
place_by file now false p q long same e = rw q (after_it (rw p at e))
  where
    short_then : (s s' good good' : Bool) (a b b' : LxRefusal) → (s ≡ false → s' ≡ false) → good' ≡ good → cond s (Some a) (cond good None (Some b)) ≡ None → cond s' (Some a) (cond good' None (Some b')) ≡ None
    short_then true s' good good' a b b' h g e = absurd cc
    short_then false s' true good' a b b' h g e = rw (h refl, g) refl
    short_then false s' false good' a b b' h g e = absurd cc

    after_it : cond (ltb (length file) (HEADER_PLACE + 4)) (Some (fault Short HEADER_PLACE)) (cond (is_lx_at file (header_place file)) None (Some (fault Signature (header_place file)))) ≡ None →
        cond (ltb (length now) (HEADER_PLACE + 4)) (Some (fault Short HEADER_PLACE)) (cond (is_lx_at now (header_place now)) None (Some (fault Signature (header_place now)))) ≡ None
    after_it e = short_then (ltb (length file) (HEADER_PLACE + 4)) (ltb (length now) (HEADER_PLACE + 4)) (is_lx_at file (header_place file)) (is_lx_at now (header_place now)) (fault Short HEADER_PLACE) (fault Signature (header_place file)) (fault Signature (header_place now))
        (λ s. let le = ltb-false (length file) (HEADER_PLACE + 4) s in le-ltb (length now) (HEADER_PLACE + 4) (omega (arith, le, long))) same e

signature_same : (file : List ℕ) (items : List ResItem) → CanExtend file items → is_lx_at (extended file items) (header_place (extended file items)) ≡ is_lx_at file (header_place file)
signature_same file items can =
    let p = header_place file in
    let none : p + 0 ≡ p = omega arith in
    let same : number_at 2 (extended file items) p ≡ number_at 2 file p = subst (λ (k : ℕ). number_at 2 (extended file items) k ≡ number_at 2 file k) none (width_same file items 2 0 can refl refl refl) in
    ap (λ (k : ℕ). is_lx_at (extended file items) k) (place_same file items can) ∙ ap (λ (n : ℕ). eqb n LX_SIGNATURE) same

pub header_faultless : (file : List ℕ) (items : List ResItem) → CanExtend file items → header_fault (extended file items) ≡ None
unfolding header_fault
header_faultless file items can =
    let now = extended file items in
    let parts = header_parts file can.faultless in
    none_then (place_fault now) (first (map (row_fault now (header_place now)) rows))
    (place_by file now (is_lx_at file 0) refl (lx_same file items can) (longer file items can) (signature_same file items can) parts.0)
    (subst (λ (p : ℕ). first (map (row_fault now p) rows) ≡ None) (sym (place_same file items can)) (none_first (row_fault now (header_place file)) rows (rows_now file items can)))
