-- A written import module is read as what it was to be.
use Rattle.std.proofs.Common.{◌≡◌, ◌≢◌, ℕ, ◌<◌, ◌≤◌, Bool, true, false, cond, eqb, List, [], ◌∷◌, ◌++◌, length, None, refl, sym, ap, append-nil, length-append, arith, inr}
use Rattle.std.proofs.lemmas.List.{length-map}
use Rattle.std.proofs.lemmas.List.Sums.{sum_by-append}
use Rattle.std.proofs.lemmas.Slice.Eq.{bytes_eq-Decides}
use Rattle.std.proofs.lemmas.Bool.Decides.{nat_tests}
use Rattle.std.specs.Char.{to_ascii_uppercase}
use Rattle.std.specs.Prelude.{bytes_eq, Contains}
use Rattle.lx_types.specs.Names.{uppercase}
use Rattle.lx_types.specs.declared.entry.EntryKey.{EntryKey}
use Rattle.lx_types.specs.declared.entry.EntryKey.TheVariants.{Ordinal, Named}
use Rattle.obj_types.specs.Fresh.{empty_module}
use Rattle.obj_types.specs.declared.object.ObjModule.{ObjModule}
use Rattle.obj_types.specs.declared.symbol.Imp.{Imp}
use Rattle.omf_frame.specs.Frame.{record_sum, BeginsRecord}
use Rattle.omf_frame.specs.RecordType.{IsRecordType}
use Rattle.omf_fields.specs.Forms.{Form, ◌then◌, anything, nothing, byte, name}
use Rattle.omf_model.specs.Record.{Record, header, impdef, modend, ImpDef, ImpEntry, by_ordinal, by_name}
use Rattle.omf_model.specs.Items.{entry_of, or_else}
use Rattle.omf_model.specs.Spelling.{Spells, types_of, contents_form, class_form, entry_form}
use Rattle.omf_model.specs.Finished.{finished}
use Rattle.omf_model.specs.Object.{AreModule, IsModule}
use Rattle.omf_model.specs.Parts.{parts_of, module_of, names_of, segs_of, groups_of, comdats_of, pubs_of, pieces_of, fixes_of, fixes_in, starts_of, fields_of, last_of}
use Rattle.implib_model.specs.Framed.{front_of, checksum_of, record_of, name_bytes}
use Rattle.implib_model.specs.ImportModule.{EntryFits, ImportFits, IsShortEntry, NamesFit, flag_of, entry_bytes, import_comment, import_bytes, import_object}

-- ---- a record

-- the bytes of a record with its checksum have the sum 0
right_sum : (ty : ℕ) (body : List ℕ) → record_sum ty body (checksum_of ty body) ≡ 0
right_sum ty body =
    let total = sum_by-append (λ (x : ℕ). x) (front_of ty body) (checksum_of ty body ∷ []) in
    omega (arith, total)

pub framed : (ty : ℕ) (body : List ℕ) → length body < 65535 → IsRecordType ty → BeginsRecord (record_of ty body) ty body []
framed ty body short known = record {
  checksum = checksum_of ty body;
  whole = record { joined = sym (append-nil (record_of ty body)); counted = omega (arith, short) };
  known = known;
  right = inr (right_sum ty body);
}

spells : (r : Record) (ty : ℕ) (body : List ℕ) → Contains (types_of r) (ty, false) → length body < 65535 → IsRecordType ty → contents_form false r body → Spells (record_of ty body) r
spells r ty body is short known content = record { ty = ty; wide = false; contents = body; is_type = is; framed = framed ty body short known; content = content }

-- one form after another
pub both : (first second : Form) (front back : List ℕ) → first front → second back → (first then second) (front ++ back)
both first second front back a b = record { front = front; back = back; joined = refl; first_so = a; second_so = b }

-- nothing more follows
pub last : (first : Form) (front : List ℕ) → first front → (first then nothing) front
last first front a = record { front = front; back = []; joined = sym (append-nil front); first_so = a; second_so = refl }

pub passed_over : (first : Form) (front : List ℕ) → first front → (first then anything) front
passed_over first front a = record { front = front; back = []; joined = sym (append-nil front); first_so = a; second_so = tt }

-- ---- the comment

abbrev pub written_entry_by : Bool → List ℕ → ImpEntry
written_entry_by same name = by_name (cond same [] name)

abbrev pub written_entry : List ℕ → EntryKey → ImpEntry
written_entry internal (Ordinal n) = by_ordinal n
written_entry internal (Named name) = written_entry_by (bytes_eq name internal) name

abbrev written : Imp → ImpDef
written imp = record { flag = flag_of imp.entry; internal = imp.name; from = uppercase imp.«module»; entry = written_entry imp.name imp.entry }

entry_by : (same : Bool) (name_ : List ℕ) → length name_ ≤ 255 → entry_form 0 (written_entry_by same name_) (cond same (0 ∷ []) (name_bytes name_))
entry_by true name_ short = (refl, (omega arith, refl))
entry_by false name_ short = (refl, (omega (arith, short), refl))

pub entry_spelled : (internal : List ℕ) (entry : EntryKey) → EntryFits entry → IsShortEntry entry → entry_form (flag_of entry) (written_entry internal entry) (entry_bytes internal entry)
entry_spelled internal (Ordinal n) fits short = ((λ e. absurd (omega (arith, e))), (omega (arith, fits), refl))
entry_spelled internal (Named name_) fits short = entry_by (bytes_eq name_ internal) name_ short

pub flag_small : (entry : EntryKey) → flag_of entry < 256
flag_small (Ordinal n) = omega arith
flag_small (Named name_) = omega arith

entry_short_by : (same : Bool) (name_ : List ℕ) → length name_ ≤ 255 → length (cond same (0 ∷ []) (name_bytes name_)) ≤ 256
entry_short_by true name_ short = omega arith
entry_short_by false name_ short = omega (arith, short)

pub entry_short : (internal : List ℕ) (entry : EntryKey) → IsShortEntry entry → length (entry_bytes internal entry) ≤ 256
entry_short internal (Ordinal n) short = omega arith
entry_short internal (Named name_) short = entry_short_by (bytes_eq name_ internal) name_ short

not_zero : (n : ℕ) → 0 < n → eqb n 0 ≡ false
not_zero n lt = grind (arith, nat_tests)

named_by : (same : Bool) (internal name_ : List ℕ) → name_ ≢ [] → bytes_eq name_ internal ≡ same → Named (or_else (cond same [] name_) internal) ≡ Named name_
named_by true internal name_ some is = ap (λ (n : List ℕ). Named n) (sym ((bytes_eq-Decides name_ internal).0 is))
named_by false internal [] some is = absurd (some refl)
named_by false internal (x ∷ xs) some is = ap (λ (none : Bool). Named (cond none internal (x ∷ xs))) (not_zero (length (x ∷ xs)) (omega arith))

abbrev with_entry : Imp → EntryKey → ObjModule
with_entry imp entry = record empty_module { name = imp.name; imports = (record { name = imp.name; «module» = uppercase imp.«module»; entry = entry }) ∷ [] }

comment_spelled : (imp : Imp) → ImportFits imp → length imp.name ≤ 255 → length imp.«module» ≤ 255 → IsShortEntry imp.entry → contents_form false (impdef (written imp)) (import_comment imp)
comment_spelled imp fits internal from entry =
    let text = name_bytes imp.name in
    let upper = name_bytes (uppercase imp.«module») in
    let tail = entry_bytes imp.name imp.entry in
    let flag = flag_of imp.entry in
    let same : length (uppercase imp.«module») ≡ length imp.«module» = length-map imp.«module» to_ascii_uppercase in
    let e = passed_over (entry_form flag (written_entry imp.name imp.entry)) tail (entry_spelled imp.name imp.entry fits.entry entry) in
    let u = both (name (uppercase imp.«module»)) (entry_form flag (written_entry imp.name imp.entry) then anything) upper tail ((omega (arith, same, from)), refl) e in
    let n = both (name imp.name) (name (uppercase imp.«module») then entry_form flag (written_entry imp.name imp.entry) then anything) text (upper ++ tail) ((omega (arith, internal)), refl) u in
    let rest = text ++ (upper ++ tail) in
    let after_flag = name imp.name then name (uppercase imp.«module») then entry_form flag (written_entry imp.name imp.entry) then anything in
    let f = both (byte flag) after_flag (flag ∷ []) rest (flag_small imp.entry, refl) n in
    let s = both (byte 1) (byte flag then after_flag) (1 ∷ []) (flag ∷ rest) (omega arith, refl) f in
    let class : class_form 0xA0 (0 ∷ 0xA0 ∷ []) = record { front = 0 ∷ []; back = 0xA0 ∷ []; joined = refl; first_so = (0, (omega arith, refl)); second_so = (omega arith, refl) } in
    both (class_form 0xA0) (byte 1 then byte flag then after_flag) (0 ∷ 0xA0 ∷ []) (1 ∷ flag ∷ rest) class s

-- ---- the module

comment_short : (imp : Imp) → length imp.name ≤ 255 → length imp.«module» ≤ 255 → IsShortEntry imp.entry → length (import_comment imp) < 65535
comment_short imp internal from entry =
    let upper = name_bytes (uppercase imp.«module») in
    let tail = entry_bytes imp.name imp.entry in
    let same : length (uppercase imp.«module») ≡ length imp.«module» = length-map imp.«module» to_ascii_uppercase in
    let small = entry_short imp.name imp.entry entry in
    omega (arith, internal, from, same, small, length-append imp.name (upper ++ tail), length-append (uppercase imp.«module») tail)

abbrev records : Imp → List Record
records imp = header imp.name ∷ impdef (written imp) ∷ modend 0 None ∷ []

upper_some : (name_ : List ℕ) → name_ ≢ [] → uppercase name_ ≢ []
upper_some [] some e = some refl
upper_some (x ∷ xs) some e = absurd cc

are_records : (imp : Imp) → ImportFits imp → AreModule (records imp)
are_records imp fits = record {
  begun = record { name = imp.name; others = impdef (written imp) ∷ modend 0 None ∷ []; headed = refl; good = (upper_some imp.«module» fits.from, (tt, tt)) };
  front = header imp.name ∷ impdef (written imp) ∷ [];
  kind = 0;
  start = None;
  ended = refl;
  once = (refl, (refl, tt));
}

pub entry_meant : (internal : List ℕ) (entry : EntryKey) → EntryFits entry → entry_of internal (written_entry internal entry) ≡ entry
entry_meant internal (Ordinal n) fits = refl
entry_meant internal (Named name_) fits = named_by (bytes_eq name_ internal) internal name_ fits refl

meant : (imp : Imp) → ImportFits imp → import_object imp ≡ finished (parts_of (records imp))
unfolding finished parts_of module_of names_of segs_of groups_of comdats_of pubs_of pieces_of fixes_of fixes_in starts_of fields_of last_of
meant imp fits = ap (λ (e : EntryKey). with_entry imp e) (sym (entry_meant imp.name imp.entry fits.entry))

pub import_is_read : (imp : Imp) → ImportFits imp → NamesFit imp → IsModule (import_bytes imp) (import_object imp)
import_is_read imp fits names =
    let internal = names.internal in
    let from = names.from in
    let entry = names.entry in
    let head = spells (header imp.name) 0x80 (name_bytes imp.name) (0, omega arith, refl) (omega (arith, internal)) refl (passed_over (name imp.name) (name_bytes imp.name) (omega (arith, internal), refl)) in
    let comment = spells (impdef (written imp)) 0x88 (import_comment imp) (0, omega arith, refl) (comment_short imp internal from entry) refl (comment_spelled imp fits internal from entry) in
    let start : (byte 0 then nothing then anything) (0 ∷ []) = both (byte 0) (nothing then anything) (0 ∷ []) [] (omega arith, refl) (passed_over nothing [] refl) in
    let end = spells (modend 0 None) 0x8A (0 ∷ []) (0, omega arith, refl) (omega arith) refl start in
    let form = λ (r : Record) (bytes : List ℕ). Spells bytes r in
    let ended = last (form (modend 0 None)) (record_of 0x8A (0 ∷ [])) end in
    let commented = both (form (impdef (written imp))) (form (modend 0 None) then nothing) (record_of 0x88 (import_comment imp)) (record_of 0x8A (0 ∷ [])) comment ended in
    let all = both (form (header imp.name)) (form (impdef (written imp)) then form (modend 0 None) then nothing) (record_of 0x80 (name_bytes imp.name)) (record_of 0x88 (import_comment imp) ++ record_of 0x8A (0 ∷ [])) head commented in
    record { records = records imp; are = are_records imp fits; spelled = all; meant = meant imp fits }
