-- Written imports, exports and default libraries are read as what they were.
use Rattle.std.proofs.Common.{◌≡◌, ◌≢◌, ℕ, ◌+◌, ◌*◌, ◌/◌, ◌%◌, ◌<◌, ◌≤◌, true, false, List, [], ◌∷◌, ◌++◌, length, Option, Some, None, refl, ap, arith, length-append}
use Rattle.std.proofs.lemmas.Bool.Decides.{nat_tests}
use Rattle.std.specs.Prelude.{◌==◌, nat_le, IfSome}
use Rattle.std.specs.List.{AllByRecursion, flat_map}
use Rattle.lx_types.specs.declared.entry.EntryKey.{EntryKey}
use Rattle.obj_types.specs.declared.object.ObjModule.{ObjModule}
use Rattle.obj_types.specs.declared.symbol.Imp.{Imp}
use Rattle.obj_types.specs.declared.symbol.Exp.{Exp}
use Rattle.obj_types.specs.Whole.{WholeExp}
use Rattle.omf_fields.specs.Forms.{Form, ◌then◌, anything, present, byte, number, name}
use Rattle.omf_model.specs.Record.{impdef, expdef, default_library, ImpDef, ExpDef}
use Rattle.omf_model.specs.Add.{add}
use Rattle.omf_model.specs.Items.{import_of, export_of, or_else}
use Rattle.omf_model.specs.Spelling.{contents_form, class_form, entry_form}
use Rattle.implib_model.specs.Framed.{name_bytes}
use Rattle.implib_model.specs.ImportModule.{ImportFits, NamesFit, flag_of, entry_bytes}
use Rattle.omf_write.specs.ObjectBytes.{bit, impdef_bytes, impdef_record, ordinal_bit, ordinal_bytes, export_flag, expdef_bytes, expdef_record, deflib_record}
use Rattle.omf_write.proofs.FieldBytes.{spells_as, name_spelled}
use Rattle.omf_write.proofs.Goes.{Goes, one, items}
use Rattle.omf_write.proofs.ImportRead.{both, passed_over, written_entry, entry_spelled, flag_small, entry_short, entry_meant}
use Rattle.omf_write.proofs.SegmentsRead.{parts, IsShort, bit_most, bit_is}

-- flags 0, and a class
class_spelled : (class : ℕ) → class < 256 → class_form class (0 ∷ class ∷ [])
class_spelled class small = record { front = 0 ∷ []; back = class ∷ []; joined = refl; first_so = (0, (omega arith, refl)); second_so = (small, refl) }

-- ---- imports

abbrev pub with_imports : ObjModule → List Imp → ObjModule
with_imports m imports = record m { imports = imports }

pub record ReadyImport (i : Imp) : Type 0 where
  pub fits : ImportFits i
  pub names : NamesFit i

abbrev impdef_of : Imp → ImpDef
impdef_of i = record { flag = flag_of i.entry; internal = i.name; from = i.«module»; entry = written_entry i.name i.entry }

import_spelled : (i : Imp) → ReadyImport i → contents_form false (impdef (impdef_of i)) (impdef_bytes i)
import_spelled i ready =
    let flag : ℕ = flag_of i.entry in
    let tail : List ℕ = entry_bytes i.name i.entry in
    let from : List ℕ = name_bytes i.«module» in
    let text : List ℕ = name_bytes i.name in
    let f3 : Form = entry_form flag (written_entry i.name i.entry) then anything in
    let f2 : Form = name i.«module» then f3 in
    let f1 : Form = name i.name then f2 in
    let third : f3 tail = passed_over (entry_form flag (written_entry i.name i.entry)) tail (entry_spelled i.name i.entry ready.fits.entry ready.names.entry) in
    let second : f2 (from ++ tail) = both (name i.«module») f3 from tail (name_spelled i.«module» ready.names.from) third in
    let first : f1 (text ++ (from ++ tail)) = both (name i.name) f2 text (from ++ tail) (name_spelled i.name ready.names.internal) second in
    let flagged = both (byte flag) f1 (flag ∷ []) (text ++ (from ++ tail)) (flag_small i.entry, refl) first in
    let sub = both (byte 1) (byte flag then f1) (1 ∷ []) (flag ∷ (text ++ (from ++ tail))) (omega arith, refl) flagged in
    both (class_form 0xA0) (byte 1 then byte flag then f1) (0 ∷ 0xA0 ∷ []) (1 ∷ flag ∷ (text ++ (from ++ tail))) (class_spelled 0xA0 (omega arith)) sub

import_short : (i : Imp) → NamesFit i → length (impdef_bytes i) < 65535
import_short i names =
    let internal = names.internal in
    let from = names.from in
    let tail : List ℕ = entry_bytes i.name i.entry in
    let small = entry_short i.name i.entry names.entry in
    let l2 = length-append i.name (name_bytes i.«module» ++ tail) in
    let l1 = length-append i.«module» tail in
    omega (arith, internal, from, small, l1, l2)

import_is : (i : Imp) → ImportFits i → import_of (impdef_of i) ≡ i
import_is i fits = ap (λ (e : EntryKey). with_entry e) (entry_meant i.name i.entry fits.entry)
  where
    with_entry : EntryKey → Imp
    with_entry e = record { name = i.name; «module» = i.«module»; entry = e }

import_step : (names : List (List ℕ)) (m : ObjModule) (before : List Imp) (i : Imp) → ReadyImport i → Goes (parts names (with_imports m before)) (impdef_record i) (parts names (with_imports m (before ++ i ∷ [])))
unfolding add
import_step names m before i ready =
    one (parts names (with_imports m before)) (parts names (with_imports m (before ++ i ∷ []))) (impdef (impdef_of i)) (impdef_record i)
    ready.fits.from refl
    (spells_as (impdef (impdef_of i)) 0x88 false (impdef_bytes i) (0, omega arith, refl) (import_short i ready.names) refl (import_spelled i ready))
    (ap (λ (x : Imp). parts names (with_imports m (before ++ x ∷ []))) (import_is i ready.fits))

pub imports_go : (names : List (List ℕ)) (m : ObjModule) (imports : List Imp) → AllByRecursion ReadyImport imports → Goes (parts names (with_imports m [])) (flat_map impdef_record imports) (parts names (with_imports m imports))
imports_go names m imports all = items (λ is. parts names (with_imports m is)) impdef_record ReadyImport (import_step names m) [] imports all

-- ---- exports

abbrev pub with_exports : ObjModule → List Exp → ObjModule
with_exports m exports = record m { exports = exports }

pub record ReadyExport (e : Exp) : Type 0 where
  pub whole : WholeExp e
  pub internal : e.internal ≢ []
  pub short : length e.name ≤ 255
  pub short_internal : length e.internal ≤ 255
  pub ordinal : IfSome e.ordinal (λ n. n < 65536)

abbrev expdef_of : Exp → ExpDef
expdef_of e = record { flag = export_flag e; exported = e.name; internal = e.internal; ordinal = e.ordinal }

-- the flag byte
record Flags (ordinal resident nodata words flag : ℕ) : Type 0 where
  small : flag < 256
  resident_is : flag / 64 % 2 ≡ resident
  nodata_is : flag / 32 % 2 ≡ nodata
  words_are : flag % 32 ≡ words

flags : (o r d w : ℕ) → o ≤ 1 → r ≤ 1 → d ≤ 1 → w ≤ 31 → Flags o r d w (o * 128 + r * 64 + d * 32 + w % 32)
flags o r d w a b c e = record {
  small = omega (arith, a, b, c, e);
  resident_is = omega (arith, a, b, c, e);
  nodata_is = omega (arith, a, b, c, e);
  words_are = omega (arith, a, b, c, e);
}

flags_of : (ordinal : Option ℕ) (r d w : ℕ) → r ≤ 1 → d ≤ 1 → w ≤ 31 → Flags (ordinal_bit ordinal / 128) r d w (ordinal_bit ordinal + r * 64 + d * 32 + w % 32)
flags_of (Some n) r d w b c e = flags 1 r d w (omega arith) b c e
flags_of None r d w b c e = flags 0 r d w (omega arith) b c e

ordinal_spelled : (ordinal : Option ℕ) (flag : ℕ) (r : ℕ) → r < 128 → flag ≡ ordinal_bit ordinal + r → IfSome ordinal (λ n. n < 65536) → present (nat_le 128 flag) (number 2) ordinal (ordinal_bytes ordinal)
ordinal_spelled (Some n) flag r small is fits =
    let over : nat_le 128 flag ≡ true = grind (arith, nat_tests) in
    rw over (omega (arith, fits), refl)
ordinal_spelled None flag r small is fits =
    let under : nat_le 128 flag ≡ false = grind (arith, nat_tests) in
    rw under refl

ordinal_len : (ordinal : Option ℕ) → length (ordinal_bytes ordinal) ≤ 2
ordinal_len (Some n) = omega arith
ordinal_len None = omega arith

rest_small : (r d w : ℕ) → r ≤ 1 → d ≤ 1 → w ≤ 31 → r * 64 + d * 32 + w % 32 < 128
rest_small r d w b c e = omega (arith, b, c, e)

sum_is : (o r d w : ℕ) → o + r * 64 + d * 32 + w % 32 ≡ o + (r * 64 + d * 32 + w % 32)
sum_is o r d w = omega arith

export_spelled : (e : Exp) → ReadyExport e → contents_form false (expdef (expdef_of e)) (expdef_bytes e)
export_spelled e ready =
    let flag : ℕ = export_flag e in
    let r : ℕ = bit e.resident in
    let d : ℕ = bit e.nodata in
    let fine = flags_of e.ordinal r d e.words (bit_most e.resident) (bit_most e.nodata) ready.whole.1 in
    let tail : List ℕ = ordinal_bytes e.ordinal in
    let inner : List ℕ = name_bytes e.internal in
    let text : List ℕ = name_bytes e.name in
    let f3 : Form = present (nat_le 128 flag) (number 2) e.ordinal then anything in
    let f2 : Form = name e.internal then f3 in
    let f1 : Form = name e.name then f2 in
    let third : f3 tail = passed_over (present (nat_le 128 flag) (number 2) e.ordinal) tail
    (ordinal_spelled e.ordinal flag (r * 64 + d * 32 + e.words % 32) (rest_small r d e.words (bit_most e.resident) (bit_most e.nodata) ready.whole.1) (sum_is (ordinal_bit e.ordinal) r d e.words) ready.ordinal) in
    let second : f2 (inner ++ tail) = both (name e.internal) f3 inner tail (name_spelled e.internal ready.short_internal) third in
    let first : f1 (text ++ (inner ++ tail)) = both (name e.name) f2 text (inner ++ tail) (name_spelled e.name ready.short) second in
    let flagged = both (byte flag) f1 (flag ∷ []) (text ++ (inner ++ tail)) (fine.small, refl) first in
    let sub = both (byte 2) (byte flag then f1) (2 ∷ []) (flag ∷ (text ++ (inner ++ tail))) (omega arith, refl) flagged in
    both (class_form 0xA0) (byte 2 then byte flag then f1) (0 ∷ 0xA0 ∷ []) (2 ∷ flag ∷ (text ++ (inner ++ tail))) (class_spelled 0xA0 (omega arith)) sub

export_short : (e : Exp) → ReadyExport e → length (expdef_bytes e) < 65535
export_short e ready =
    let short = ready.short in
    let inner = ready.short_internal in
    let small = ordinal_len e.ordinal in
    let l2 = length-append e.name (name_bytes e.internal ++ ordinal_bytes e.ordinal) in
    let l1 = length-append e.internal (ordinal_bytes e.ordinal) in
    omega (arith, short, inner, small, l1, l2)

given_name : (internal other : List ℕ) → internal ≢ [] → or_else internal other ≡ internal
given_name [] other some = absurd (some refl)
given_name (x ∷ xs) other some = let none : (length (x ∷ xs) == 0) ≡ false = not_zero (length (x ∷ xs)) (omega arith) in rw none refl
  where
    not_zero : (n : ℕ) → 1 ≤ n → (n == 0) ≡ false
    not_zero n least = grind (arith, nat_tests)

export_is : (e : Exp) → ReadyExport e → export_of (expdef_of e) ≡ e
export_is e ready =
    let fine = flags_of e.ordinal (bit e.resident) (bit e.nodata) e.words (bit_most e.resident) (bit_most e.nodata) ready.whole.1 in
    let resident = bit_is e.resident (export_flag e / 64 % 2) fine.resident_is in
    let nodata = bit_is e.nodata (export_flag e / 32 % 2) fine.nodata_is in
    let internal = given_name e.internal e.name ready.internal in
    λ i. record { name = e.name; internal = internal i; ordinal = e.ordinal; resident = resident i; nodata = nodata i; words = fine.words_are i }

export_step : (names : List (List ℕ)) (m : ObjModule) (before : List Exp) (e : Exp) → ReadyExport e → Goes (parts names (with_exports m before)) (expdef_record e) (parts names (with_exports m (before ++ e ∷ [])))
unfolding add
export_step names m before e ready =
    one (parts names (with_exports m before)) (parts names (with_exports m (before ++ e ∷ []))) (expdef (expdef_of e)) (expdef_record e)
    ready.whole.0 refl
    (spells_as (expdef (expdef_of e)) 0x88 false (expdef_bytes e) (0, omega arith, refl) (export_short e ready) refl (export_spelled e ready))
    (ap (λ (x : Exp). parts names (with_exports m (before ++ x ∷ []))) (export_is e ready))

pub exports_go : (names : List (List ℕ)) (m : ObjModule) (exports : List Exp) → AllByRecursion ReadyExport exports → Goes (parts names (with_exports m [])) (flat_map expdef_record exports) (parts names (with_exports m exports))
exports_go names m exports all = items (λ es. parts names (with_exports m es)) expdef_record ReadyExport (export_step names m) [] exports all

-- ---- default libraries

abbrev pub with_deflibs : ObjModule → List (List ℕ) → ObjModule
with_deflibs m deflibs = record m { deflibs = deflibs }

abbrev Text : List ℕ → Form
Text text bytes = bytes ≡ text

deflib_step : (names : List (List ℕ)) (m : ObjModule) (before : List (List ℕ)) (text : List ℕ) → IsShort text → Goes (parts names (with_deflibs m before)) (deflib_record text) (parts names (with_deflibs m (before ++ text ∷ [])))
unfolding add
deflib_step names m before text short =
    one (parts names (with_deflibs m before)) (parts names (with_deflibs m (before ++ text ∷ []))) (default_library text) (deflib_record text)
    short refl
    (spells_as (default_library text) 0x88 false (0 ∷ 0x9F ∷ text) (0, omega arith, refl) (omega (arith, short)) refl
    (both (class_form 0x9F) (Text text) (0 ∷ 0x9F ∷ []) text (class_spelled 0x9F (omega arith)) refl))
    refl

pub deflibs_go : (names : List (List ℕ)) (m : ObjModule) (deflibs : List (List ℕ)) → AllByRecursion IsShort deflibs → Goes (parts names (with_deflibs m [])) (flat_map deflib_record deflibs) (parts names (with_deflibs m deflibs))
deflibs_go names m deflibs all = items (λ ds. parts names (with_deflibs m ds)) deflib_record IsShort (deflib_step names m) [] deflibs all
