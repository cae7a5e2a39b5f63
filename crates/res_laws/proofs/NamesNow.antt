-- The name tables, the import modules and the entries of the bound file are those of the old one.
use Rattle.std.proofs.Common.{◌≡◌, ℕ, ◌+◌, ◌≤◌, Bool, true, false, cond, eqb, leb, List, [], ◌∷◌, ◌++◌, length, take, drop, Option, Some, None, Result, Ok, Err, refl, sym, subst, ap, ◌∙◌, arith, length-append}
use Rattle.std.specs.List.{list_all, flat_map, AllByRecursion as Each}
use Rattle.std.proofs.lemmas.List.{length-take}
use Rattle.std.proofs.lemmas.Bool.Decides.{nat_tests}
use Rattle.std.proofs.lemmas.Bool.{and_parts}
use Rattle.lx_types.specs.declared.refusal.LxKind.TheVariants.{Field}
use Rattle.lx_bytes.specs.LittleEndian.{AreBytes}
use Rattle.lx_types.specs.declared.refusal.LxRefusal.{LxRefusal}
use Rattle.lx_model.specs.declared.header_fields.TheConstants.{EIP_OBJECT, EIP, RESIDENT_NAME_TABLE, ENTRY_TABLE, IMPORT_MODULE_TABLE, IMPORT_MODULE_COUNT, NONRESIDENT_NAME_TABLE, NONRESIDENT_NAME_LENGTH}
use Rattle.lx_model.specs.Reading.{cursor, Many, many, placed, fault_of, value_or, fault}
use Rattle.lx_model.specs.Header.{field, table, object_count, import_count, start_of, start_fault, header_fault, header_place}
use Rattle.lx_model.specs.Tables.{objects_fault, pages_fault}
use Rattle.lx_model.specs.NameTables.{Named, name_entry, names_in, names_spelling, NameFits, resident_names, other_names, lacks_name, resident_fault, others_fault, import_entry, imports_in, import_spelling, import_names, imports_fault}
use Rattle.lx_model.specs.EntryTable.{Numbered, bundle_at, entries_in, entries_of, entries_fault}
use Rattle.lx_model.specs.declared.limits.TheConstants.{MAX_ORDINAL}
use Rattle.lx_model.specs.Bundles.{Bundle, unused, narrow, gates, wide, forwarders, ordinals_together, ordinal_count, bundle_spelling, table_spelling, BundleFits, BodyFits}
use Rattle.lx_model.specs.Module.{LxFault}
use Rattle.lx_model.proofs.BundlesRead as bundles_read
use Rattle.lx_model.proofs.BundlesTaken as bundles_taken
use Rattle.lx_model.proofs.Firsts.{then_none}
use Rattle.lx_model.proofs.ImportsRead as imports_read
use Rattle.lx_model.proofs.Many.{many_ends, many_more}
use Rattle.lx_model.proofs.Meaning.{judged, read_ok}
use Rattle.lx_model.proofs.NamesRead as names_read
use Rattle.lx_model.proofs.ReadsAs.{byte_reads}
use Rattle.lx_model.proofs.Shortening.{bundle_shortens}
use Rattle.lx_model.proofs.TablesTaken as tables_taken
use Rattle.lx_model.proofs.BundlesRead.{regroup}
use Rattle.res_model.specs.declared.item.ResItem.{ResItem}
use Rattle.res_model.specs.Clear.{Part, taken}
use Rattle.res_laws.proofs.Standing.{extended}
use Rattle.res_laws.proofs.Clear.{frees, is_free}
use Rattle.res_laws.proofs.Layouts.{CanExtend}
use Rattle.res_laws.proofs.HeaderNow.{field_same, table_same, header_now}
use Rattle.res_laws.proofs.Fronts.{bytes_from, bytes_up_to, front_stands, taken_is, take_begins, begins_take}

-- ---- names

-- a table of names that is read whole: what it spells, and where it ends
record NamesThere (bytes : List ℕ) (ns : List Named) : Type 0 where
  fits : Each NameFits ns
  rest : List ℕ
  spelled : bytes ≡ names_spelling ns ++ rest
  at : ℕ
  end : (many name_entry tt (cursor 0 bytes)).end ≡ Ok (cursor at rest)

names_there : (bytes : List ℕ) (ns : List Named) → AreBytes bytes → names_in bytes ≡ Ok ns → NamesThere bytes ns
names_there bytes ns h e =
    let t = tables_taken.table_taken bytes ns h e in
    let rest = t.end.left in
    let spelled : bytes ≡ names_spelling ns ++ rest = t.all.taken.parts in
    let whole = names_read.names_read ns 0 rest t.all.fits in
    record {
      fits = t.all.fits;
      rest = rest;
      spelled = spelled;
      at = whole.0;
      end = ap (λ (xs : List ℕ). (many name_entry tt (cursor 0 xs)).end) spelled ∙ ap (λ (m : Many Named). m.end) whole.1;
    }

names_still : (file : List ℕ) (items : List ResItem) (at : ℕ) (ns : List Named) → CanExtend file items → names_in (drop at file) ≡ Ok ns → is_free file (taken at (drop at file) (many name_entry tt (cursor 0 (drop at file)))) ≡ true →
    names_in (drop at (extended file items)) ≡ Ok ns
names_still file items at ns can e free =
    let t = names_there (drop at file) ns (bytes_from file at can.bytes) e in
    let p = names_spelling ns in
    let size = taken_is at t.at (drop at file) p t.rest (many name_entry tt (cursor 0 (drop at file))) t.spelled t.end in
    let now = front_stands file items at p can (subst (λ (q : Part). is_free file q ≡ true) size free) (t.rest, t.spelled) in
    ap names_in now.1 ∙ names_read.table_reads ns now.0 t.fits

-- the fault of a resident table, by what is read of it
abbrev fault_in : List ℕ → Result (List Named) LxRefusal → Option LxRefusal
fault_in file r = elim r [ Ok names ↦ lacks_name file names | Err e ↦ Some e ]

some_names : (file : List ℕ) (r : Result (List Named) LxRefusal) → fault_in file r ≡ None → fault_of r ≡ None
some_names file (Ok names) e = refl
some_names file (Err f) e = e

lacks_none : (file now : List ℕ) (r : Result (List Named) LxRefusal) → fault_in file r ≡ None → fault_in now r ≡ None
lacks_none file now (Ok []) e = absurd cc
lacks_none file now (Ok (n ∷ names)) e = refl
lacks_none file now (Err f) e = absurd cc

pub residents_same : (file : List ℕ) (items : List ResItem) → CanExtend file items → resident_names (extended file items) ≡ resident_names file
residents_same file items can =
    let now = extended file items in
    let at = table file RESIDENT_NAME_TABLE in
    let e = some_names file (resident_names file) (judged file can.faultless).residents in
    let read = read_ok at [] (names_in (drop at file)) e in
    let still = names_still file items at (value_or [] (resident_names file)) can read (frees file can.clear).residents in
    ap (λ (a : ℕ). placed a (names_in (drop a now))) (table_same file items RESIDENT_NAME_TABLE can refl refl refl) ∙ ap (placed at) (still ∙ sym read)

pub residents_faultless : (file : List ℕ) (items : List ResItem) → CanExtend file items → resident_fault (extended file items) ≡ None
residents_faultless file items can =
    subst (λ (r : Result (List Named) LxRefusal). fault_in (extended file items) r ≡ None) (sym (residents_same file items can))
    (lacks_none file (extended file items) (resident_names file) (judged file can.faultless).residents)

-- ---- the other names

others_good : (file : List ℕ) → LxFault file ≡ None → others_fault file ≡ None
unfolding LxFault
others_good file e =
    (then_none (others_fault file) _ (then_none (resident_fault file) _ (then_none (pages_fault file) _ (then_none (objects_fault file) _ (then_none (header_fault file) _ e).1).1).1).1).0

others_still : (file : List ℕ) (items : List ResItem) (at n : ℕ) (ns : List Named) → CanExtend file items → names_in (take n (drop at file)) ≡ Ok ns → is_free file (taken at (take n (drop at file)) (many name_entry tt (cursor 0 (take n (drop at file))))) ≡ true →
    names_in (take n (drop at (extended file items))) ≡ Ok ns
others_still file items at n ns can e free =
    let now = extended file items in
    let bytes = take n (drop at file) in
    let t = names_there bytes ns (bytes_up_to (drop at file) n (bytes_from file at can.bytes)) e in
    let p = names_spelling ns in
    let size = taken_is at t.at bytes p t.rest (many name_entry tt (cursor 0 bytes)) t.spelled t.end in
    let low : length p ≤ n = (let all = length-take n (drop at file) in let parts : length bytes ≡ length p + length t.rest = ap length t.spelled ∙ length-append p t.rest in omega (arith, all, parts)) in
    let begins = take_begins n (drop at file) p t.rest t.spelled in
    let there = front_stands file items at p can (subst (λ (q : Part). is_free file q ≡ true) size free) begins in
    let again = begins_take n (drop at now) p there.0 low there.1 in
    ap names_in again.1 ∙ names_read.table_reads ns again.0 t.fits

others_by : (file : List ℕ) (items : List ResItem) (none : Bool) → CanExtend file items → fault_of (cond none (Ok []) (placed (field file NONRESIDENT_NAME_TABLE) (names_in (take (field file NONRESIDENT_NAME_LENGTH) (drop (field file NONRESIDENT_NAME_TABLE) file))))) ≡ None →
    list_all (is_free file) (let bytes = take (field file NONRESIDENT_NAME_LENGTH) (drop (field file NONRESIDENT_NAME_TABLE) file) in cond none [] (taken (field file NONRESIDENT_NAME_TABLE) bytes (many name_entry tt (cursor 0 bytes)) ∷ [])) ≡ true →
    cond none (Ok []) (placed (field file NONRESIDENT_NAME_TABLE) (names_in (take (field file NONRESIDENT_NAME_LENGTH) (drop (field file NONRESIDENT_NAME_TABLE) (extended file items))))) ≡ cond none (Ok []) (placed (field file NONRESIDENT_NAME_TABLE) (names_in (take (field file NONRESIDENT_NAME_LENGTH) (drop (field file NONRESIDENT_NAME_TABLE) file))))
others_by file items true can e free = refl
others_by file items false can e free =
    let at = field file NONRESIDENT_NAME_TABLE in
    let n = field file NONRESIDENT_NAME_LENGTH in
    let bytes = take n (drop at file) in
    let read = read_ok at [] (names_in bytes) e in
    let here = and_parts (is_free file (taken at bytes (many name_entry tt (cursor 0 bytes)))) true free in
    ap (placed at) (others_still file items at n (value_or [] (placed at (names_in bytes))) can read here.0 ∙ sym read)

pub others_same : (file : List ℕ) (items : List ResItem) → CanExtend file items → other_names (extended file items) ≡ other_names file
others_same file items can =
    let now = extended file items in
    let n = field_same file items NONRESIDENT_NAME_LENGTH can refl refl refl in
    let at = field_same file items NONRESIDENT_NAME_TABLE can refl refl refl in
    ap (λ (k : ℕ). cond (eqb k 0) (Ok []) (placed (field now NONRESIDENT_NAME_TABLE) (names_in (take k (drop (field now NONRESIDENT_NAME_TABLE) now))))) n
    ∙ ap (λ (a : ℕ). cond (eqb (field file NONRESIDENT_NAME_LENGTH) 0) (Ok []) (placed a (names_in (take (field file NONRESIDENT_NAME_LENGTH) (drop a now))))) at
    ∙ others_by file items (eqb (field file NONRESIDENT_NAME_LENGTH) 0) can (others_good file can.faultless) (frees file can.clear).others

pub others_faultless : (file : List ℕ) (items : List ResItem) → CanExtend file items → others_fault (extended file items) ≡ None
others_faultless file items can = ap fault_of (others_same file items can) ∙ others_good file can.faultless

-- ---- import modules

imports_still : (file : List ℕ) (items : List ResItem) (at n : ℕ) (names : List (List ℕ)) → CanExtend file items → imports_in n (drop at file) ≡ Ok names → is_free file (taken at (drop at file) (many import_entry n (cursor 0 (drop at file)))) ≡ true →
    imports_in n (drop at (extended file items)) ≡ Ok names
imports_still file items at n names can e free =
    let now = extended file items in
    let t = imports_read.names_taken n (drop at file) names (bytes_from file at can.bytes) e in
    let rest = t.end.left in
    let p = flat_map import_spelling names in
    let spelled : drop at file ≡ p ++ rest = t.all.taken.parts in
    let whole = imports_read.names_read names 0 rest t.all.fits in
    let end : (many import_entry n (cursor 0 (drop at file))).end ≡ Ok (cursor whole.0 rest) =
    ap (λ (xs : List ℕ). (many import_entry n (cursor 0 xs)).end) spelled ∙ ap (λ (k : ℕ). (many import_entry k (cursor 0 (p ++ rest))).end) (sym t.all.count) ∙ ap (λ (m : Many (List ℕ)). m.end) whole.1 in
    let size = taken_is at whole.0 (drop at file) p rest (many import_entry n (cursor 0 (drop at file))) spelled end in
    let there = front_stands file items at p can (subst (λ (q : Part). is_free file q ≡ true) size free) (rest, spelled) in
    ap (imports_in n) there.1 ∙ ap (λ (k : ℕ). imports_in k (p ++ there.0)) (sym t.all.count) ∙ imports_read.imports_again names there.0 t.all.fits

pub imports_same : (file : List ℕ) (items : List ResItem) → CanExtend file items → import_names (extended file items) ≡ import_names file
imports_same file items can =
    let now = extended file items in
    let at = table file IMPORT_MODULE_TABLE in
    let n = import_count file in
    let read = read_ok at [] (imports_in n (drop at file)) (judged file can.faultless).imports in
    let still = imports_still file items at n (value_or [] (import_names file)) can read (frees file can.clear).imports in
    ap (λ (a : ℕ). placed a (imports_in (import_count now) (drop a now))) (table_same file items IMPORT_MODULE_TABLE can refl refl refl)
    ∙ ap (λ (k : ℕ). placed at (imports_in k (drop at now))) (field_same file items IMPORT_MODULE_COUNT can refl refl refl) ∙ ap (placed at) (still ∙ sym read)

pub imports_faultless : (file : List ℕ) (items : List ResItem) → CanExtend file items → imports_fault (extended file items) ≡ None
imports_faultless file items can = ap fault_of (imports_same file items can) ∙ (judged file can.faultless).imports

-- ---- entries

end_reads : (objects imports last at : ℕ) (rest : List ℕ) → bundle_at objects imports last (cursor at (0 ∷ rest)) ≡ Ok (None, cursor (at + 1) rest)
unfolding bundle_at
end_reads objects imports last at rest = rw (byte_reads 0 (omega arith) at rest) refl

-- a table of bundles ends where it is spelled to
bundles_end : (objects imports : ℕ) (bs : List Bundle) (last at : ℕ) (rest : List ℕ) → Each (BundleFits objects imports) bs → last + ordinals_together bs ≤ MAX_ORDINAL →
    (a : ℕ) × ((many (bundle_at objects imports) last (cursor at (table_spelling bs ++ rest))).end ≡ Ok (cursor a rest))
bundles_end objects imports [] last at rest fits room =
    (at + 1, ap (λ (m : Many (List Numbered)). m.end) (many_ends (bundle_at objects imports) last (cursor at (0 ∷ rest)) (cursor (at + 1) rest) (end_reads objects imports last at rest)))
bundles_end objects imports (b ∷ bs) last at rest fits room =
    let bytes = bundle_spelling b in
    let tail = table_spelling bs ++ rest in
    let others = bundles_end objects imports bs (last + ordinal_count b) (at + length bytes) rest fits.1 (omega arith) in
    let more = many_more (bundle_at objects imports) (bundle_shortens objects imports) last (cursor at (bytes ++ tail)) (cursor (at + length bytes) tail) (_, last + ordinal_count b) (bundles_read.bundle_reads objects imports last b fits.0 (omega arith) at tail) in
    (others.0, ap (λ (x : List ℕ). (many (bundle_at objects imports) last (cursor at x)).end) (regroup bytes (flat_map bundle_spelling bs) (0 ∷ []) rest) ∙ ap (λ (m : Many (List Numbered)). m.end) more ∙ others.1)

body_fits : (objects imports : ℕ) (b : Bundle) → BodyFits objects imports b → BodyFits (objects + 1) imports b
body_fits objects imports (unused n) h = h
body_fits objects imports (narrow object es) h = let le = h.0.0.1 in (((h.0.0.0, omega (arith, le)), h.0.1), h.1)
body_fits objects imports (gates object es) h = let le = h.0.0.1 in (((h.0.0.0, omega (arith, le)), h.0.1), h.1)
body_fits objects imports (wide object es) h = let le = h.0.0.1 in (((h.0.0.0, omega (arith, le)), h.0.1), h.1)
body_fits objects imports (forwarders reserved es) h = h

bundle_fits : (objects imports : ℕ) (bs : List Bundle) → Each (BundleFits objects imports) bs → Each (BundleFits (objects + 1) imports) bs
bundle_fits objects imports [] h = tt
bundle_fits objects imports (b ∷ bs) h = (record { some = h.0.some; few = h.0.few; body = body_fits objects imports b h.0.body }, bundle_fits objects imports bs h.1)

entries_still : (file : List ℕ) (items : List ResItem) (at objects imports : ℕ) (es : List Numbered) → CanExtend file items → entries_in objects imports (drop at file) ≡ Ok es →
    is_free file (taken at (drop at file) (many (bundle_at objects imports) 0 (cursor 0 (drop at file)))) ≡ true → entries_in (objects + 1) imports (drop at (extended file items)) ≡ Ok es
entries_still file items at objects imports es can e free =
    let t = bundles_taken.table_taken objects imports (drop at file) es (bytes_from file at can.bytes) e in
    let rest = t.end.left in
    let bs = t.all.bundles in
    let p = table_spelling bs in
    let spelled : drop at file ≡ p ++ rest = t.all.taken.parts in
    let whole = bundles_end objects imports bs 0 0 rest t.all.fits t.all.room in
    let end : (many (bundle_at objects imports) 0 (cursor 0 (drop at file))).end ≡ Ok (cursor whole.0 rest) = ap (λ (xs : List ℕ). (many (bundle_at objects imports) 0 (cursor 0 xs)).end) spelled ∙ whole.1 in
    let size = taken_is at whole.0 (drop at file) p rest (many (bundle_at objects imports) 0 (cursor 0 (drop at file))) spelled end in
    let there = front_stands file items at p can (subst (λ (q : Part). is_free file q ≡ true) size free) (rest, spelled) in
    ap (entries_in (objects + 1) imports) there.1 ∙ bundles_read.table_reads (objects + 1) imports bs there.0 (bundle_fits objects imports bs t.all.fits) (let room = t.all.room in omega (arith, room)) ∙ ap (λ (x : List Numbered). Ok x) (sym t.all.means)

pub entries_same : (file : List ℕ) (items : List ResItem) → CanExtend file items → entries_of (extended file items) ≡ entries_of file
entries_same file items can =
    let now = extended file items in
    let at = table file ENTRY_TABLE in
    let o = object_count file in
    let i = import_count file in
    let read = read_ok at [] (entries_in o i (drop at file)) (judged file can.faultless).entries in
    let still = entries_still file items at o i (value_or [] (entries_of file)) can read (frees file can.clear).entries in
    ap (λ (a : ℕ). placed a (entries_in (object_count now) (import_count now) (drop a now))) (table_same file items ENTRY_TABLE can refl refl refl)
    ∙ ap (λ (k : ℕ). placed at (entries_in k (import_count now) (drop at now))) (header_now file items can).count
    ∙ ap (λ (k : ℕ). placed at (entries_in (o + 1) k (drop at now))) (field_same file items IMPORT_MODULE_COUNT can refl refl refl) ∙ ap (placed at) (still ∙ sym read)

pub entries_faultless : (file : List ℕ) (items : List ResItem) → CanExtend file items → entries_fault (extended file items) ≡ None
entries_faultless file items can = ap fault_of (entries_same file items can) ∙ (judged file can.faultless).entries

-- ---- the start

pub start_same : (file : List ℕ) (items : List ResItem) → CanExtend file items → start_of (extended file items) ≡ start_of file
start_same file items can =
    ap (λ (o : ℕ). cond (eqb o 0) None (Some (o, field (extended file items) EIP))) (field_same file items EIP_OBJECT can refl refl refl)
    ∙ ap (λ (x : ℕ). cond (eqb (field file EIP_OBJECT) 0) None (Some (field file EIP_OBJECT, x))) (field_same file items EIP can refl refl refl)

start_still : (s o n : ℕ) (e f : LxRefusal) → n ≡ o + 1 → cond (leb s o) None (Some e) ≡ None → cond (leb s n) None (Some f) ≡ None
start_still s o n e f more h = by_test (leb s o) refl h
  where
    at_most : (s o n : ℕ) → leb s o ≡ true → n ≡ o + 1 → leb s n ≡ true
    at_most s o n is more = grind (arith, nat_tests)

    by_test : (b : Bool) → leb s o ≡ b → cond b None (Some e) ≡ None → cond (leb s n) None (Some f) ≡ None
    by_test true is h' = rw (at_most s o n is more) refl
    by_test false is h' = absurd cc

pub start_faultless : (file : List ℕ) (items : List ResItem) → CanExtend file items → start_fault (extended file items) ≡ None
start_faultless file items can =
    let now = extended file items in
    subst (λ (s : ℕ). cond (leb s (object_count now)) None (Some (fault Field (header_place now + EIP_OBJECT))) ≡ None) (sym (field_same file items EIP_OBJECT can refl refl refl))
    (start_still (field file EIP_OBJECT) (object_count file) (object_count now) (fault Field (header_place file + EIP_OBJECT)) (fault Field (header_place now + EIP_OBJECT)) (header_now file items can).count (judged file can.faultless).start)
