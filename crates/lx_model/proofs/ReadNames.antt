-- A module that was read has a name, and its entries have ordinals of 16 bits.
use Rattle.std.proofs.Common.{◌≡◌, ℕ, ◌+◌, ◌<◌, ◌^◌, Bool, true, false, cond, eqb, List, [], ◌∷◌, length, take, drop, length-take, ltb, Option, Some, None, Result, Ok, Err, refl, sym, subst, ap, arith}
use Rattle.std.specs.List.{AllByRecursion as Each}
use Rattle.std.proofs.lemmas.Bool.{ltb-false}
use Rattle.lx_bytes.specs.Cursor.{Cursor, advance}
use Rattle.lx_types.specs.declared.refusal.LxRefusal.{LxRefusal}
use Rattle.lx_types.specs.declared.refusal.LxKind.TheVariants.{Short}
use Rattle.lx_types.specs.declared.parts.Parts.{Parts}
use Rattle.lx_model.specs.declared.header_fields.TheConstants.{RESIDENT_NAME_TABLE, ENTRY_TABLE}
use Rattle.lx_model.specs.Reading.{fault, cursor, text, number, ◌>>=◌, ends, Many, many, placed, fault_of, value_or}
use Rattle.lx_model.specs.Header.{table, object_count, import_count}
use Rattle.lx_model.specs.NameTables.{Named, name_entry, names_in, resident_fault, lacks_name, first_name, name_of}
use Rattle.lx_model.specs.EntryTable.{Numbered, entries_in, entries_of, entries_fault}
use Rattle.lx_model.specs.declared.limits.TheConstants.{MAX_ORDINAL}
use Rattle.lx_model.specs.Module.{LxFault, parts_of}
use Rattle.lx_model.specs.ModuleLaws.{ReadIsNamed}
use Rattle.lx_model.proofs.Entries.{Run, run_of_table}
use Rattle.lx_model.proofs.Many.{whole_ends, Cases, many_holds}
use Rattle.lx_model.proofs.Meaning.{judged}
use Rattle.lx_model.proofs.Shortening.{name_shortens}
use Rattle.lx_model.proofs.Steps.{bind_ok, guard_ok, done}
use Rattle.lx_model.proofs.TablesTaken.{positive}

-- ---- names

abbrev HasBytes : Option (Named × Unit {0}) → Type 0
HasBytes None = Unit {0}
HasBytes (Some x) = 0 < length x.0.0

some_text : (len : ℕ) (c d : Cursor) (name : List ℕ) → 0 < len → text len c ≡ Ok (name, d) → 0 < length name
some_text len c d name some e =
    let guard = guard_ok (ltb (length c.left) len) (fault Short c.at) (done (take len c.left, advance len c)) (name, d) e in
    let pair : (take len c.left, advance len c) ≡ (name, d) = cc in
    let same : take len c.left ≡ name = ap (λ (p : List ℕ × Cursor). p.0) pair in
    omega (arith, ap length same, length-take len c.left, ltb-false (length c.left) len guard.0, some)

by_length : (l d : Cursor) (len : ℕ) (o : Option (Named × Unit {0})) (none : Bool) → eqb len 0 ≡ none →
    cond none (ends l) (text len l >>= λ name. number 2 name.1 >>= λ ordinal. done (Some ((name.0, ordinal.0), tt), ordinal.1)) ≡ Ok (o, d) → HasBytes o
by_length l d len o true is e =
    let pair : (None, l) ≡ (o, d) = cc in
    subst HasBytes (ap (λ (p : Option (Named × Unit {0}) × Cursor). p.0) pair) tt
by_length l d len o false is e =
    let step = bind_ok (text len l) (λ name. number 2 name.1 >>= λ ordinal. done (Some ((name.0, ordinal.0), tt), ordinal.1)) (o, d) e in
    let name = step.0 in
    let last = bind_ok (number 2 name.1) (λ ordinal. done (Some ((name.0, ordinal.0), tt), ordinal.1)) (o, d) step.2 in
    let ordinal = last.0 in
    let pair : (Some ((name.0, ordinal.0), tt), ordinal.1) ≡ (o, d) = cc in
    subst HasBytes (ap (λ (p : Option (Named × Unit {0}) × Cursor). p.0) pair) (some_text len l name.1 name.0 (positive len is) step.1)

entry_has : (known : Unit {0}) (c d : Cursor) (o : Option (Named × Unit {0})) → name_entry known c ≡ Ok (o, d) → HasBytes o
unfolding name_entry
entry_has known c d o e =
    let step = bind_ok (number 1 c) (λ len. cond (eqb len.0 0) (ends len.1) (text len.0 len.1 >>= λ name. number 2 name.1 >>= λ ordinal. done (Some ((name.0, ordinal.0), tt), ordinal.1))) (o, d) e in
    by_length step.0.1 d step.0.0 o (eqb step.0.0 0) refl step.2

abbrev AllHave : Unit {0} → Cursor → Many Named → Type 0
AllHave known c m = Each (λ n. 0 < length n.0) m.items

all_have : Cases name_entry AllHave
all_have = record {
  none = λ known c d e. tt;
  wrong = λ known c e is. tt;
  more = λ known c d x m e again. (entry_has known c d (Some x) e, again);
}

table_has : (bytes : List ℕ) (ns : List Named) → names_in bytes ≡ Ok ns → Each (λ n. 0 < length n.0) ns
table_has bytes ns e =
    let m = many name_entry tt (cursor 0 bytes) in
    let ok = whole_ends m ns e in
    subst (Each (λ n. 0 < length n.0)) ok.2 (many_holds name_entry AllHave name_shortens all_have tt (cursor 0 bytes))

-- The first of the names of a resident table that has no fault.
abbrev fault_among : List ℕ → Result (List Named) LxRefusal → Option LxRefusal
fault_among file r = elim r [ Ok names ↦ lacks_name file names | Err e ↦ Some e ]

first_has : (file : List ℕ) (at : ℕ) (r : Result (List Named) LxRefusal) → ((ns : List Named) → r ≡ Ok ns → Each (λ n. 0 < length n.0) ns) →
    fault_among file (placed at r) ≡ None → 0 < length (first_name (value_or [] (placed at r)))
first_has file at (Ok []) each good = absurd cc
first_has file at (Ok (n ∷ ns)) each good = (each (n ∷ ns) refl).0
first_has file at (Err e) each good = absurd cc

name_there : (file : List ℕ) → resident_fault file ≡ None → 0 < length (name_of file)
name_there file good = first_has file (table file RESIDENT_NAME_TABLE) (names_in (drop (table file RESIDENT_NAME_TABLE) file)) (table_has (drop (table file RESIDENT_NAME_TABLE) file)) good

-- ---- ordinals

abbrev IsOrdinal : Numbered → Type 0
IsOrdinal e = (0 < e.0) × (e.0 < 2 ^ 16)

of_run : (objects imports low : ℕ) (es : List Numbered) → 0 < low → Run objects imports low (MAX_ORDINAL + 1) es → Each IsOrdinal es
of_run objects imports low [] some run = tt
of_run objects imports low (e ∷ es) some run = ((omega (arith, some, run.0), omega (arith, run.1)), of_run objects imports (e.0 + 1) es (omega arith) run.3)

of_table : (at objects imports : ℕ) (bytes : List ℕ) (r : Result (List Numbered) LxRefusal) → entries_in objects imports bytes ≡ r → fault_of (placed at r) ≡ None → Each IsOrdinal (value_or [] (placed at r))
of_table at objects imports bytes (Ok es) is good = of_run objects imports 1 es (omega arith) (run_of_table objects imports bytes es is)
of_table at objects imports bytes (Err e) is good = absurd cc

ordinals_there : (file : List ℕ) → entries_fault file ≡ None → Each IsOrdinal (value_or [] (entries_of file))
ordinals_there file good =
    of_table (table file ENTRY_TABLE) (object_count file) (import_count file) (drop (table file ENTRY_TABLE) file)
    (entries_in (object_count file) (import_count file) (drop (table file ENTRY_TABLE) file)) refl good

parts_named : (file : List ℕ) → LxFault file ≡ None → (0 < length (parts_of file).name) × Each IsOrdinal (parts_of file).entries
unfolding parts_of
parts_named file faultless = let good = judged file faultless in (name_there file good.residents, ordinals_there file good.entries)

pub read_is_named : ReadIsNamed
read_is_named m read = subst (λ (p : Parts). (0 < length p.name) × Each IsOrdinal p.entries) (sym read.means.parts) (parts_named m.file read.means.faultless)
