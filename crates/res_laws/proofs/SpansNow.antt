-- Where the records of each page of the bound file stand: those of old pages where they stood, and none of the new ones.
use Rattle.std.proofs.Common.{◌≡◌, ℕ, zero, suc, ◌+◌, ◌-◌, ◌*◌, ◌<◌, ◌≤◌, Bool, true, false, cond, ◌&&◌, ◌||◌, ltb, List, [], ◌++◌, map, length, take, drop, Some, None, refl, sym, subst, ap, ◌∙◌, append_assoc, arith}
use Rattle.std.specs.List.{range_with_len, repeat}
use Rattle.std.proofs.lemmas.Bool.Decides.{nat_tests}
use Rattle.std.proofs.lemmas.List.{take_at}
use Rattle.std.proofs.lemmas.Bool.{or_parts}
use Rattle.lx_bytes.specs.LittleEndian.{little}
use Rattle.lx_types.specs.Parts.{span}
use Rattle.lx_types.specs.declared.refusal.LxRefusal.{LxRefusal}
use Rattle.lx_types.specs.declared.refusal.LxKind.TheVariants.{FixTable}
use Rattle.lx_model.specs.declared.header_fields.TheConstants.{FIXUP_PAGE_TABLE, FIXUP_RECORD_TABLE}
use Rattle.lx_model.specs.Reading.{fault, number_at, short_at, first_of}
use Rattle.lx_model.specs.Header.{table, page_count}
use Rattle.lx_model.specs.FixupPages.{has_records, offset_place, records_place, records_span, spans_of, is_out_of_order, span_fault, spans_fault}
use Rattle.lx_model.proofs.Firsts.{each_none, then_none}
use Rattle.lx_model.proofs.Meaning.{judged}
use Rattle.res_model.specs.declared.item.ResItem.{ResItem}
use Rattle.res_model.specs.Bound.{fixup_table, old_entries, last_offset}
use Rattle.res_model.specs.Layout.{fixups_place}
use Rattle.res_model.specs.Placed.{new_page_count}
use Rattle.res_laws.proofs.Lists.{map_range, map_split, each_two, At, at_more, at_same, moved, length_span}
use Rattle.res_laws.proofs.Standing.{extended}
use Rattle.res_laws.proofs.Layouts.{CanExtend, rise, stands, offsets_there, last_length, fixups_size, from_resources, from_fixups}
use Rattle.res_laws.proofs.HeaderNow.{longer, table_same, header_now}
use Rattle.res_laws.proofs.HeaderFaults.{none_then, none_range, long_enough}

-- ---- the table, where there is one

table_is : (file : List ℕ) (items : List ResItem) → has_records file ≡ true → from_fixups file items ≡ old_entries file FIXUP_PAGE_TABLE 4 (page_count file + 1) ++ (repeat (new_page_count items) (last_offset file) ++ from_resources file items)
unfolding fixup_table
table_is file items is =
    ap (λ (b : Bool). cond b (old_entries file FIXUP_PAGE_TABLE 4 (page_count file + 1) ++ repeat (new_page_count items) (last_offset file)) [] ++ from_resources file items) is
    ∙ append_assoc (old_entries file FIXUP_PAGE_TABLE 4 (page_count file + 1)) (repeat (new_page_count items) (last_offset file)) (from_resources file items)

there : (file : List ℕ) (items : List ResItem) → CanExtend file items → has_records file ≡ true →
    At (extended file items) (fixups_place file items) (span file (table file FIXUP_PAGE_TABLE) (table file FIXUP_PAGE_TABLE + 4 * (page_count file + 1)) ++ (repeat (new_page_count items) (last_offset file) ++ from_resources file items))
there file items can is = at_same (extended file items) _ _ (fixups_place file items) (table_is file items is) (stands file items can).fixups

old_offset : (file : List ℕ) (items : List ResItem) (k : ℕ) → CanExtend file items → has_records file ≡ true → k < page_count file + 1 → number_at 4 (extended file items) (fixups_place file items + 4 * k) ≡ number_at 4 file (offset_place file k)
old_offset file items k can is lt =
    moved 4 (fixups_place file items) (4 * k) (table file FIXUP_PAGE_TABLE) (4 * (page_count file + 1)) (extended file items) file (repeat (new_page_count items) (last_offset file) ++ from_resources file items)
    (there file items can is) (offsets_there file can.faultless is) (omega (arith, lt))

-- one of several copies
repeated : (n k : ℕ) (xs ys file : List ℕ) (at : ℕ) → At file at (repeat n xs ++ ys) → length xs ≡ 4 → k < n → number_at 4 file (at + 4 * k) ≡ little xs
repeated zero k xs ys file at here len lt = absurd (omega arith)
repeated (suc n) zero xs ys file at here len lt =
    let front = at_same file _ _ at (append_assoc xs (repeat n xs) ys) here in
    ap (number_at 4 file) (omega arith) ∙ ap (λ (zs : List ℕ). little (take 4 zs)) front.is ∙ ap little (take_at xs (repeat n xs ++ ys) 4 len)
repeated (suc n) (suc k) xs ys file at here len lt =
    let front = at_same file _ _ at (append_assoc xs (repeat n xs) ys) here in
    ap (number_at 4 file) (omega arith) ∙ repeated n k xs ys file (at + 4) (at_more file xs (repeat n xs ++ ys) at 4 front len) len (omega (arith, lt))

last_is : (file : List ℕ) → little (last_offset file) ≡ number_at 4 file (offset_place file (page_count file))
last_is file = let at = offset_place file (page_count file) in let four : at + 4 - at ≡ 4 = omega arith in ap (λ (n : ℕ). little (take n (drop at file))) four

new_offset : (file : List ℕ) (items : List ResItem) (k : ℕ) → CanExtend file items → has_records file ≡ true → k < new_page_count items →
    number_at 4 (extended file items) (fixups_place file items + 4 * (page_count file + 1) + 4 * k) ≡ number_at 4 file (offset_place file (page_count file))
new_offset file items k can is lt =
    let len = length_span file (table file FIXUP_PAGE_TABLE) (4 * (page_count file + 1)) (offsets_there file can.faultless is) in
    repeated (new_page_count items) k (last_offset file) (from_resources file items) (extended file items) (fixups_place file items + 4 * (page_count file + 1))
    (at_more (extended file items) (span file (table file FIXUP_PAGE_TABLE) (table file FIXUP_PAGE_TABLE + 4 * (page_count file + 1))) _ (fixups_place file items) (4 * (page_count file + 1)) (there file items can is) len)
    (last_length file can.faultless is) lt
    ∙ last_is file

-- ---- places of records

offset_now : (file : List ℕ) (items : List ResItem) (k : ℕ) → CanExtend file items → has_records file ≡ true → offset_place (extended file items) k ≡ fixups_place file items + 4 * k
offset_now file items k can is = ap (λ (t : ℕ). t + 4 * k) ((header_now file items can).fixups is)

pub old_place : (file : List ℕ) (items : List ResItem) (k : ℕ) → CanExtend file items → has_records file ≡ true → k < page_count file + 1 → records_place (extended file items) k ≡ records_place file k
old_place file items k can is lt =
    let base = table_same file items FIXUP_RECORD_TABLE can refl refl refl in
    let n : number_at 4 (extended file items) (offset_place (extended file items) k) ≡ number_at 4 file (offset_place file k) = ap (number_at 4 (extended file items)) (offset_now file items k can is) ∙ old_offset file items k can is lt in
    omega (arith, base, n)

-- after the old pages
pub new_place : (file : List ℕ) (items : List ResItem) (k : ℕ) → CanExtend file items → has_records file ≡ true → k < new_page_count items + 1 → records_place (extended file items) (page_count file + k) ≡ records_place file (page_count file)
new_place file items zero can is lt = ap (records_place (extended file items)) (omega arith) ∙ old_place file items (page_count file) can is (omega arith)
new_place file items (suc k) can is lt =
    let base = table_same file items FIXUP_RECORD_TABLE can refl refl refl in
    let at : fixups_place file items + 4 * (page_count file + suc k) ≡ fixups_place file items + 4 * (page_count file + 1) + 4 * k = omega arith in
    let n : number_at 4 (extended file items) (offset_place (extended file items) (page_count file + suc k)) ≡ number_at 4 file (offset_place file (page_count file)) =
    ap (number_at 4 (extended file items)) (offset_now file items (page_count file + suc k) can is ∙ at) ∙ new_offset file items k can is (omega (arith, lt)) in
    omega (arith, base, n)

-- ---- spans

abbrev pair : ℕ → ℕ → ℕ × ℕ
pair a b = (a, b)

same_pair : {a b a' b' : ℕ} → a ≡ a' → b ≡ b' → pair a b ≡ pair a' b'
same_pair p q = cc

old_by : (file : List ℕ) (items : List ResItem) (k : ℕ) (records : Bool) → CanExtend file items → has_records file ≡ records → k < page_count file →
    cond records (pair (records_place (extended file items) k) (records_place (extended file items) (k + 1))) (pair 0 0) ≡ cond records (pair (records_place file k) (records_place file (k + 1))) (pair 0 0)
old_by file items k true can is lt = same_pair (old_place file items k can is (omega (arith, lt))) (old_place file items (k + 1) can is (omega (arith, lt)))
old_by file items k false can is lt = refl

pub old_span : (file : List ℕ) (items : List ResItem) (k : ℕ) → CanExtend file items → k < page_count file → records_span (extended file items) k ≡ records_span file k
old_span file items k can lt =
    ap (λ (b : Bool). cond b (pair (records_place (extended file items) k) (records_place (extended file items) (k + 1))) (pair 0 0)) (header_now file items can).records
    ∙ old_by file items k (has_records file) can refl lt

-- where the records of all pages end
abbrev pub records_end : List ℕ → ℕ
records_end file = cond (has_records file) (records_place file (page_count file)) 0

new_by : (file : List ℕ) (items : List ResItem) (k : ℕ) (records : Bool) → CanExtend file items → has_records file ≡ records → k < new_page_count items →
    cond records (pair (records_place (extended file items) (page_count file + k)) (records_place (extended file items) (page_count file + k + 1))) (pair 0 0) ≡ pair (cond records (records_place file (page_count file)) 0) (cond records (records_place file (page_count file)) 0)
new_by file items k true can is lt =
    same_pair (new_place file items k can is (omega (arith, lt))) (ap (records_place (extended file items)) (omega arith) ∙ new_place file items (k + 1) can is (omega (arith, lt)))
new_by file items k false can is lt = refl

pub new_span : (file : List ℕ) (items : List ResItem) (k : ℕ) → CanExtend file items → k < new_page_count items → records_span (extended file items) (page_count file + k) ≡ pair (records_end file) (records_end file)
new_span file items k can lt =
    ap (λ (b : Bool). cond b (pair (records_place (extended file items) (page_count file + k)) (records_place (extended file items) (page_count file + k + 1))) (pair 0 0)) (header_now file items can).records
    ∙ new_by file items k (has_records file) can refl lt

pub spans_now : (file : List ℕ) (items : List ResItem) → CanExtend file items → spans_of (extended file items) ≡ spans_of file ++ map (λ (k : ℕ). pair (records_end file) (records_end file)) (range_with_len 0 (new_page_count items))
unfolding spans_of
spans_now file items can =
    let now = extended file items in
    let h = header_now file items can in
    let n = page_count file in
    let m = new_page_count items in
    let f = records_span now in
    ap (λ (c : ℕ). map f (range_with_len 0 c)) h.pages ∙ map_split f n m
    ∙ ap (λ (ss : List (ℕ × ℕ)). ss ++ map f (range_with_len n m)) (map_range f (records_span file) 0 0 n (λ k lt. old_span file items (0 + k) can (omega (arith, lt))))
    ∙ ap (λ (ss : List (ℕ × ℕ)). map (records_span file) (range_with_len 0 n) ++ ss) (map_range f (λ (k : ℕ). pair (records_end file) (records_end file)) n 0 m (λ k lt. new_span file items k can lt))

-- ---- faults

no_fault : (b : Bool) (e : LxRefusal) → cond b (Some e) None ≡ None → b ≡ false
no_fault true e h = absurd cc
no_fault false e h = refl

offset_good : (now : List ℕ) (k : ℕ) → offset_place now k + 4 ≤ length now → (is_out_of_order now k || ltb (length now) (records_place now k)) ≡ false → span_fault now k ≡ None
offset_good now k le good =
    none_then (short_at 4 now (offset_place now k)) (cond (is_out_of_order now k || ltb (length now) (records_place now k)) (Some (fault FixTable (offset_place now k))) None)
    (long_enough 4 now (offset_place now k) le) (rw good refl)

in_order : (k r r' old now : ℕ) → old ≤ now → ((ltb 0 k && ltb r r') || ltb old r) ≡ false → ((ltb 0 k && ltb r r') || ltb now r) ≡ false
in_order k r r' old now le e = grind (arith, nat_tests)

old_order : (file : List ℕ) (items : List ResItem) (k : ℕ) → CanExtend file items → has_records file ≡ true → k < page_count file + 1 → first_of (page_count file + 1) (span_fault file) ≡ None →
    (is_out_of_order (extended file items) k || ltb (length (extended file items)) (records_place (extended file items) k)) ≡ false
old_order file items k can is lt e =
    let now = extended file items in
    let one = each_none (page_count file + 1) (span_fault file) k e lt in
    let wrong = is_out_of_order file k || ltb (length file) (records_place file k) in
    let old = no_fault wrong (fault FixTable (offset_place file k)) (then_none (short_at 4 file (offset_place file k)) _ one).1 in
    rw (old_place file items k can is lt, old_place file items (k - 1) can is (omega (arith, lt))) (in_order k (records_place file k) (records_place file (k - 1)) (length file) (length now) (longer file items can) old)

new_order : (k r old now : ℕ) → old ≤ now → ltb old r ≡ false → ((ltb 0 k && ltb r r) || ltb now r) ≡ false
new_order k r old now le e = grind (arith, nat_tests)

spans_by : (file : List ℕ) (items : List ResItem) (records : Bool) → CanExtend file items → has_records file ≡ records → cond records (first_of (page_count file + 1) (span_fault file)) None ≡ None →
    cond records (first_of (page_count (extended file items) + 1) (span_fault (extended file items))) None ≡ None
spans_by file items true can is e =
    let now = extended file items in
    let h = header_now file items can in
    let n = page_count file in
    let m = new_page_count items in
    let r = rise file items in
    let c = r.resources in
    let d = r.whole in
    let long = (stands file items can).long in
    let size : fixups_size file items ≡ 4 * (n + m + 1) = ap (λ (b : Bool). cond b (4 * (n + m + 1)) 0) is in
    let room : (k : ℕ) → k < n + 1 + m → offset_place now k + 4 ≤ length now = (λ k lt. let at = offset_now file items k can is in omega (arith, at, c, d, size, long, lt)) in
    let count : n + 1 + m ≡ page_count now + 1 = (let p = h.pages in omega (arith, p)) in
    let end = each_none (n + 1) (span_fault file) n e (omega arith) in
    let wrong = is_out_of_order file n || ltb (length file) (records_place file n) in
    let last = (or_parts (is_out_of_order file n) (ltb (length file) (records_place file n)) (no_fault wrong (fault FixTable (offset_place file n)) (then_none (short_at 4 file (offset_place file n)) _ end).1)).1 in
    subst (λ (c : ℕ). first_of c (span_fault now) ≡ None) count (none_range (span_fault now) (n + 1 + m) (each_two (λ k. span_fault now k ≡ None) (n + 1) m
    (λ k lt. offset_good now k (room k (omega (arith, lt))) (old_order file items k can is lt e))
    (λ j lt.
    let here : records_place now (n + 1 + j) ≡ records_place file n = ap (records_place now) (omega arith) ∙ new_place file items (j + 1) can is (omega (arith, lt)) in
    let before : records_place now (n + 1 + j - 1) ≡ records_place file n = ap (records_place now) (omega arith) ∙ new_place file items j can is (omega (arith, lt)) in
    offset_good now (n + 1 + j) (room (n + 1 + j) (omega (arith, lt))) (rw (here, before) (new_order (n + 1 + j) (records_place file n) (length file) (length now) (longer file items can) last)))))
spans_by file items false can is e = refl

pub spans_faultless : (file : List ℕ) (items : List ResItem) → CanExtend file items → spans_fault (extended file items) ≡ None
unfolding spans_fault
spans_faultless file items can =
    let now = extended file items in
    subst (λ (b : Bool). cond b (first_of (page_count now + 1) (span_fault now)) None ≡ None) (sym (header_now file items can).records)
    (spans_by file items (has_records file) can refl (judged file can.faultless).spans)
