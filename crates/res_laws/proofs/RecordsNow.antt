-- The fixup records of the bound file are those of the old one, and their targets are there.
use Rattle.std.proofs.Common.{◌≡◌, ℕ, ◌+◌, ◌-◌, ◌*◌, ◌<◌, ◌≤◌, ◌⊎◌, inl, inr, Bool, true, false, cond, ◌&&◌, leb, ltb, List, [], ◌∷◌, map, length, take, drop, get_or, Option, Some, None, Result, refl, sym, subst, ap, ◌∙◌, arith}
use Rattle.std.specs.Prelude.{is_some}
use Rattle.std.specs.List.{range_with_len, flat_map, list_all, AllByRecursion as Each}
use Rattle.std.proofs.lemmas.Bool.Decides.{nat_tests}
use Rattle.std.proofs.lemmas.List.FromFn.{length-map-range_with_len, get_or-map-range_with_len}
use Rattle.std.proofs.lemmas.Bool.{and_parts}
use Rattle.lx_types.specs.Parts.{span, name_at, entry_of}
use Rattle.lx_types.specs.declared.fix.Fix.{Fix}
use Rattle.lx_types.specs.declared.fix.FixTarget.{FixTarget}
use Rattle.lx_types.specs.declared.fix.FixTarget.TheVariants.{Internal, Ordinal, Named, Own}
use Rattle.lx_types.specs.declared.refusal.LxRefusal.{LxRefusal}
use Rattle.lx_types.specs.declared.refusal.LxKind.TheVariants.{BadTarget}
use Rattle.lx_model.specs.declared.header_fields.TheConstants.{FIXUP_PAGE_TABLE, IMPORT_MODULE_COUNT, IMPORT_PROCEDURE_TABLE}
use Rattle.lx_model.specs.Reading.{fault, cursor, first, first_of, fault_of, Many, ends_at, value_or}
use Rattle.lx_model.specs.Header.{table, page_count, object_count, import_count}
use Rattle.lx_model.specs.EntryTable.{Numbered, names_one_of, entries_of}
use Rattle.lx_model.specs.FixupPages.{has_records, records_place, records_span, spans_of}
use Rattle.lx_model.specs.Records.{Record, next_record, records_at, fixes_of}
use Rattle.lx_model.specs.Module.{page_records, targets_of, Targets, targets_in, is_target, target_fault, records_fault, page_records_fault, LxFault}
use Rattle.lx_model.proofs.Firsts.{each_none, then_none}
use Rattle.lx_model.proofs.Each.{each_more}
use Rattle.lx_model.proofs.Many.{many_ends}
use Rattle.lx_model.proofs.Meaning.{judged}
use Rattle.lx_model.proofs.PagesRead.{next_ends}
use Rattle.lx_model.proofs.References.{records_there}
use Rattle.lx_model.proofs.Soundness.{spans_fit}
use Rattle.lx_model.proofs.ReadModules.{each_unmap}
use Rattle.res_model.specs.declared.item.ResItem.{ResItem}
use Rattle.res_model.specs.Clear.{Part, part, records_part, name_parts, names_of_target, names_of_head}
use Rattle.res_model.specs.Placed.{new_page_count}
use Rattle.res_laws.proofs.Lists.{all_at, each_two, same_part, span_same}
use Rattle.res_laws.proofs.Standing.{extended, part_stands}
use Rattle.res_laws.proofs.Clear.{frees, is_free, split_all}
use Rattle.res_laws.proofs.Eaches.{each_inner, each_both, each_at, each_tests}
use Rattle.res_laws.proofs.Layouts.{CanExtend}
use Rattle.res_laws.proofs.HeaderNow.{long_of, longer, field_same, table_same, header_now}
use Rattle.res_laws.proofs.HeaderFaults.{none_then, none_first, none_range}
use Rattle.res_laws.proofs.SpansNow.{old_span, new_span, records_end}
use Rattle.res_laws.proofs.NamesNow.{entries_same}

-- ---- names of import procedures

name_tests : (file : List ℕ) (at len : ℕ) → (name : List ℕ) → is_some (cond (ltb at (length file) && leb (at + 1 + len) (length file)) (Some name) None) ≡ true → at + 1 + len ≤ length file
name_tests file at len name e = by_test (ltb at (length file)) (leb (at + 1 + len) (length file)) refl e
  where
    by_test : (a b : Bool) → leb (at + 1 + len) (length file) ≡ b → is_some (cond (a && b) (Some name) None) ≡ true → at + 1 + len ≤ length file
    by_test true true is h = grind (arith, nat_tests)
    by_test true false is h = absurd cc
    by_test false b is h = absurd cc

name_is : (file : List ℕ) (at len : ℕ) → get_or file at 0 ≡ len → at + 1 + len ≤ length file → name_at file at ≡ Some (span file (at + 1) (at + 1 + len))
name_is file at len is le =
    ap (λ (n : ℕ). cond (ltb at (length file) && leb (at + 1 + n) (length file)) (Some (span file (at + 1) (at + 1 + n))) None) is
    ∙ by_tests (ltb at (length file)) (leb (at + 1 + len) (length file)) (less at len (length file) le) (at_most (at + 1 + len) (length file) le)
  where
    less : (at len n : ℕ) → at + 1 + len ≤ n → ltb at n ≡ true
    less at len n le = grind (arith, nat_tests)

    at_most : (m n : ℕ) → m ≤ n → leb m n ≡ true
    at_most m n le = grind (arith, nat_tests)

    by_tests : (a b : Bool) → a ≡ true → b ≡ true → cond (a && b) (Some (span file (at + 1) (at + 1 + len))) None ≡ Some (span file (at + 1) (at + 1 + len))
    by_tests a b p q = rw (p, q) refl

-- a name that is there stands
pub name_stands : (file : List ℕ) (items : List ResItem) (at : ℕ) → CanExtend file items → is_some (name_at file at) ≡ true → is_free file (part at (1 + get_or file at 0)) ≡ true → name_at (extended file items) at ≡ name_at file at
name_stands file items at can some free =
    let now = extended file items in
    let len = get_or file at 0 in
    let there : at + 1 + len ≤ length file = name_tests file at len (span file (at + 1) (at + 1 + len)) some in
    let all = part_stands file items at (1 + len) (long_of file items can) (omega (arith, there)) free in
    let long = longer file items can in
    let size : get_or now at 0 ≡ len = all at (omega arith) (omega arith) in
    let text = span_same file now (at + 1) len there long (same_part file now at (1 + len) (at + 1) len all (omega arith) (omega arith)) in
    name_is now at len size (omega (arith, there, long)) ∙ ap (λ (x : List ℕ). Some x) text ∙ sym (name_is file at len refl there)

pub names_stand : (file : List ℕ) (items : List ResItem) (offset : ℕ) → CanExtend file items → is_some (name_at file (table file IMPORT_PROCEDURE_TABLE + offset)) ≡ true → list_all (is_free file) (name_parts file offset) ≡ true →
    name_at (extended file items) (table (extended file items) IMPORT_PROCEDURE_TABLE + offset) ≡ name_at file (table file IMPORT_PROCEDURE_TABLE + offset)
names_stand file items offset can some free =
    let at = table file IMPORT_PROCEDURE_TABLE + offset in
    let q = part at (1 + get_or file at 0) in
    let parts : list_all (is_free file) (q ∷ []) ≡ true = subst (λ (b : Bool). list_all (is_free file) (cond b (q ∷ []) []) ≡ true) some free in
    ap (λ (t : ℕ). name_at (extended file items) (t + offset)) (table_same file items IMPORT_PROCEDURE_TABLE can refl refl refl) ∙ name_stands file items at can some (and_parts (is_free file q) true parts).0

-- ---- records

span_at : (file : List ℕ) (k : ℕ) → LxFault file ≡ None → k < page_count file → ((records_span file k).0 ≤ (records_span file k).1) × ((records_span file k).1 ≤ length file)
unfolding spans_of
span_at file k e lt =
    let all = spans_fit file (judged file e).spans in
    let size = length-map-range_with_len (records_span file) 0 (page_count file) in
    let here = get_or-map-range_with_len (records_span file) 0 (page_count file) k k (0, 0) lt (omega arith) in
    subst (λ (s : ℕ × ℕ). (s.0 ≤ s.1) × (s.1 ≤ length file)) here (all k (0, 0) (omega (arith, lt, size)))

part_by : (file : List ℕ) (k : ℕ) (records : Bool) → has_records file ≡ records → k < page_count file → list_all (is_free file) (cond records (part (table file FIXUP_PAGE_TABLE) (4 * (page_count file + 1)) ∷ map (records_part file) (range_with_len 0 (page_count file))) []) ≡ true →
    (is_free file (records_part file k) ≡ true) ⊎ ((records_span file k).1 ≡ 0)
part_by file k true is lt e =
    let here = and_parts (is_free file (part (table file FIXUP_PAGE_TABLE) (4 * (page_count file + 1)))) (list_all (is_free file) (map (records_part file) (range_with_len 0 (page_count file)))) e in
    let size = length-map-range_with_len (records_part file) 0 (page_count file) in
    inl (subst (λ (q : Part). is_free file q ≡ true) (get_or-map-range_with_len (records_part file) 0 (page_count file) k k (part 0 0) lt (omega arith))
    (all_at (is_free file) (map (records_part file) (range_with_len 0 (page_count file))) k (part 0 0) here.1 (omega (arith, lt, size))))
part_by file k false is lt e = inr (ap (λ (b : Bool). (cond {A = ℕ × ℕ} b (records_place file k, records_place file (k + 1)) (0, 0)).1) is)

span_to : (file : List ℕ) (a b : ℕ) → a ≤ b → span file a b ≡ span file a (a + (b - a))
span_to file a b le = ap (λ (k : ℕ). take k (drop a file)) (omega (arith, le))

-- the records of an old page stand
pub span_stands : (file : List ℕ) (items : List ResItem) (k : ℕ) → CanExtend file items → k < page_count file → span (extended file items) (records_span file k).0 (records_span file k).1 ≡ span file (records_span file k).0 (records_span file k).1
span_stands file items k can lt =
    let now = extended file items in
    let s = records_span file k in
    let there = span_at file k can.faultless lt in
    let order = there.0 in
    let end = there.1 in
    elim (part_by file k (has_records file) refl lt (frees file can.clear).fixups) [
      | inl free ↦
          let inside : s.0 + (s.1 - s.0) ≤ length file = omega (arith, order, end) in
          span_to now s.0 s.1 order ∙ span_same file now s.0 (s.1 - s.0) inside (longer file items can) (part_stands file items s.0 (s.1 - s.0) (long_of file items can) inside free) ∙ sym (span_to file s.0 s.1 order)
      | inr none ↦
          let empty : s.1 - s.0 ≡ 0 = omega (arith, none) in
          ap (λ (k : ℕ). take k (drop s.0 now)) empty ∙ sym (ap (λ (k : ℕ). take k (drop s.0 file)) empty)
    ]

pub old_records : (file : List ℕ) (items : List ResItem) (k : ℕ) → CanExtend file items → k < page_count file → page_records (extended file items) k ≡ page_records file k
old_records file items k can lt =
    ap (λ (s : ℕ × ℕ). records_at s.0 (span (extended file items) s.0 s.1)) (old_span file items k can lt) ∙ ap (records_at (records_span file k).0) (span_stands file items k can lt)

pub no_records : (file : List ℕ) (at : ℕ) → records_at at (span file at at) ≡ ends_at (cursor at [])
no_records file at =
    let none : at - at ≡ 0 = omega arith in
    ap (λ (k : ℕ). records_at at (take k (drop at file))) none ∙ many_ends next_record tt (cursor at []) (cursor at []) (next_ends at)

pub new_records : (file : List ℕ) (items : List ResItem) (k : ℕ) → CanExtend file items → k < new_page_count items → page_records (extended file items) (page_count file + k) ≡ ends_at (cursor (records_end file) [])
new_records file items k can lt =
    ap (λ (s : ℕ × ℕ). records_at s.0 (span (extended file items) s.0 s.1)) (new_span file items k can lt) ∙ no_records (extended file items) (records_end file)

-- ---- targets

still_one : (count number more : ℕ) → more ≡ count + 1 → names_one_of count number ≡ true → names_one_of more number ≡ true
still_one count number more is e = grind (arith, nat_tests)

abbrev IsStillThere : List ℕ → List ResItem → FixTarget → Type 0
IsStillThere file items t = is_target (targets_in (extended file items)) t ≡ true

target_still : (file : List ℕ) (items : List ResItem) (t : FixTarget) → CanExtend file items → is_target (targets_in file) t ≡ true → list_all (is_free file) (names_of_target file t) ≡ true → IsStillThere file items t
target_still file items (Internal o x) can e free = still_one (object_count file) o (object_count (extended file items)) (header_now file items can).count e
target_still file items (Ordinal i x) can e free = ap (λ (n : ℕ). names_one_of n i) (field_same file items IMPORT_MODULE_COUNT can refl refl refl) ∙ e
target_still file items (Named i x) can e free =
    let parts = and_parts (names_one_of (import_count file) i) (is_some (name_at file (table file IMPORT_PROCEDURE_TABLE + x))) e in
    ap (λ (n : ℕ). names_one_of n i && is_some (name_at (extended file items) (table (extended file items) IMPORT_PROCEDURE_TABLE + x))) (field_same file items IMPORT_MODULE_COUNT can refl refl refl)
    ∙ ap (λ (o : Option (List ℕ)). names_one_of (import_count file) i && is_some o) (names_stand file items x can parts.1 free) ∙ e
target_still file items (Own x) can e free = ap (λ (r : Result (List Numbered) LxRefusal). is_some (entry_of (value_or [] r) x)) (entries_same file items can) ∙ e

pub names_free : (file : List ℕ) (items : List ResItem) (k : ℕ) → CanExtend file items → k < page_count file → Each (λ f. list_all (is_free file) (names_of_target file f.target) ≡ true) (fixes_of (page_records file k))
names_free file items k can lt =
    let q = is_free file in
    let f = (λ (j : ℕ). map (λ (x : Fix). x.target) (fixes_of (page_records file j))) in
    let parts = split_all q (flat_map (names_of_target file) (targets_of file)) (flat_map (λ e. names_of_head file e.1) (value_or [] (entries_of file))) (frees file can.clear).names in
    let each = each_tests q (names_of_target file) (targets_of file) parts.0 in
    let inner = each_inner (λ t. list_all q (names_of_target file t) ≡ true) f (range_with_len 0 (page_count file)) each in
    each_unmap (λ t. list_all q (names_of_target file t) ≡ true) (λ (x : Fix). x.target) (fixes_of (page_records file k)) (each_at (λ j. Each (λ t. list_all q (names_of_target file t) ≡ true) (f j)) 0 (page_count file) k inner (omega arith) (omega (arith, lt)))

pub old_targets : (file : List ℕ) (k : ℕ) → LxFault file ≡ None → k < page_count file → Each (λ f. is_target (targets_in file) f.target ≡ true) (fixes_of (page_records file k))
old_targets file k e lt = records_there (targets_in file) (page_records file k) (each_none (page_count file) (page_records_fault file) k (judged file e).records lt)

targets_there : (file : List ℕ) (items : List ResItem) (k : ℕ) → CanExtend file items → k < page_count file → Each (λ f. IsStillThere file items f.target) (fixes_of (page_records file k))
targets_there file items k can lt =
    let rs = page_records file k in
    let old = old_targets file k can.faultless lt in
    each_more (λ f. (is_target (targets_in file) f.target ≡ true) × (list_all (is_free file) (names_of_target file f.target) ≡ true)) (λ f. IsStillThere file items f.target) (fixes_of rs)
    (λ f h. target_still file items f.target can h.0 h.1)
    (each_both (λ f. is_target (targets_in file) f.target ≡ true) (λ f. list_all (is_free file) (names_of_target file f.target) ≡ true) (fixes_of rs) old (names_free file items k can lt))

-- ---- faults

good_record : (m : Targets) (r : Record) → Each (λ f. is_target m f.target ≡ true) r.fixes → target_fault m r ≡ None
good_record m r h =
    none_first (λ f. cond (is_target m f.target) None (Some (fault BadTarget r.at))) r.fixes
    (each_more (λ f. is_target m f.target ≡ true) (λ f. cond (is_target m f.target) None (Some (fault BadTarget r.at)) ≡ None) r.fixes (λ f is. rw is refl) h)

good_records : (m : Targets) (rs : Many Record) → Each (λ f. is_target m f.target ≡ true) (fixes_of rs) → fault_of rs.end ≡ None → records_fault m rs ≡ None
good_records m rs h end =
    none_then (first (map (target_fault m) rs.items)) (fault_of rs.end)
    (none_first (target_fault m) rs.items (each_more (λ r. Each (λ f. is_target m f.target ≡ true) r.fixes) (λ r. target_fault m r ≡ None) rs.items (good_record m) (each_inner (λ f. is_target m f.target ≡ true) (λ r. r.fixes) rs.items h))) end

old_good : (file : List ℕ) (items : List ResItem) (k : ℕ) → CanExtend file items → k < page_count file → page_records_fault (extended file items) k ≡ None
old_good file items k can lt =
    let rs = page_records file k in
    let old = each_none (page_count file) (page_records_fault file) k (judged file can.faultless).records lt in
    ap (records_fault (targets_in (extended file items))) (old_records file items k can lt)
    ∙ good_records (targets_in (extended file items)) rs (targets_there file items k can lt) (then_none (first (map (target_fault (targets_in file)) rs.items)) (fault_of rs.end) old).1

pub records_faultless : (file : List ℕ) (items : List ResItem) → CanExtend file items → first_of (page_count (extended file items)) (page_records_fault (extended file items)) ≡ None
records_faultless file items can =
    let now = extended file items in
    let n = page_count file in
    let m = new_page_count items in
    subst (λ (c : ℕ). first_of c (page_records_fault now) ≡ None) (sym (header_now file items can).pages) (none_range (page_records_fault now) (n + m) (each_two (λ k. page_records_fault now k ≡ None) n m
    (λ k lt. old_good file items k can lt) (λ j lt. ap (records_fault (targets_in now)) (new_records file items j can lt))))
