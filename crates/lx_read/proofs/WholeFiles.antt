-- From the tables of a file to the file.
use Rattle.std.proofs.Common.{◌≡◌, ℕ, ◌+◌, ◌<◌, ◌^◌, List, [], length, drop, Option, Some, None, Result, Ok, Err, refl, sym, subst, ap, ◌∙◌}
use Rattle.std.specs.Prelude.{AllPairs, IsErrAnd}
use Rattle.lx_types.specs.declared.fail.Fail.{Fail}
use Rattle.lx_types.specs.declared.fail.Fail.TheVariants.{Said, NoMemory}
use Rattle.lx_types.specs.declared.refusal.LxRefusal.{LxRefusal}
use Rattle.lx_types.specs.declared.parts.Parts.{Parts}
use Rattle.lx_types.specs.Sound.{Sound}
use Rattle.lx_model.specs.declared.header_fields.TheConstants.{ENTRY_TABLE}
use Rattle.lx_model.specs.Reading.{◌then◌, value_or}
use Rattle.lx_model.specs.Header.{table, object_count, import_count, header_fault}
use Rattle.lx_model.specs.Tables.{objects_fault, pages_fault}
use Rattle.lx_model.specs.NameTables.{resident_fault, others_fault}
use Rattle.lx_model.specs.EntryTable.{entries_in, entries_of, entries_fault}
use Rattle.lx_model.specs.declared.limits.TheConstants.{MAX_ORDINAL}
use Rattle.lx_model.specs.Module.{LxFault, IsRead, parts_of}
use Rattle.lx_model.proofs.Entries.{Run-pairs, run_of_table}
use Rattle.lx_model.proofs.Meaning.{sound, read_ok}
use Rattle.lx_read.specs.Headers.{IsHeaderOf, ReadsHeader}
use Rattle.lx_types.specs.Answers.{if_said, as_said}
use Rattle.lx_model.specs.Judging.{Judges, IsFault}
use Rattle.lx_read.specs.Reading.{fault_in_pages, fault_in_links, IsFoundIn, Finds}
use Rattle.lx_read.specs.declared.header.Header.{Header}
use Rattle.lx_read.specs.declared.reading.Found.{Found}

-- ---- entries

pub entries_rise : (file : List ℕ) → entries_fault file ≡ None → AllPairs (λ a b. a.0 < b.0) (value_or [] (entries_of file))
entries_rise file none =
    let bytes = drop (table file ENTRY_TABLE) file in
    let read = read_ok (table file ENTRY_TABLE) [] (entries_in (object_count file) (import_count file) bytes) none in
    Run-pairs (object_count file) (import_count file) 1 (MAX_ORDINAL + 1) (value_or [] (entries_of file)) (run_of_table (object_count file) (import_count file) bytes (value_or [] (entries_of file)) read)

-- ---- the first fault

then_apart : (a b c : Option LxRefusal) → ((a then b) then c) ≡ (a then b then c)
then_apart (Some e) b c = refl
then_apart None b c = refl

pub judged : (file : List ℕ) → LxFault file ≡ (header_fault file then fault_in_pages file then fault_in_links file)
unfolding LxFault
judged file =
    ap (λ (x : Option LxRefusal). header_fault file then x)
    (sym (then_apart (objects_fault file) (pages_fault file then resident_fault file then others_fault file) (fault_in_links file)
    ∙ ap (λ (x : Option LxRefusal). objects_fault file then x) (then_apart (pages_fault file) (resident_fault file then others_fault file) (fault_in_links file)
    ∙ ap (λ (x : Option LxRefusal). pages_fault file then x) (then_apart (resident_fault file) (others_fault file) (fault_in_links file)))))

pub header_wrong : (file : List ℕ) (e : LxRefusal) → header_fault file ≡ Some e → LxFault file ≡ Some e
header_wrong file e wrong = judged file ∙ rw wrong refl

pub pages_wrong : (file : List ℕ) (e : LxRefusal) → header_fault file ≡ None → fault_in_pages file ≡ Some e → LxFault file ≡ Some e
pages_wrong file e header wrong = judged file ∙ ap (λ (x : Option LxRefusal). x then fault_in_pages file then fault_in_links file) header ∙ ap (λ (x : Option LxRefusal). x then fault_in_links file) wrong

pub links_wrong : (file : List ℕ) (x : Option LxRefusal) → header_fault file ≡ None → fault_in_pages file ≡ None → fault_in_links file ≡ x → LxFault file ≡ x
links_wrong file x header pages wrong = judged file ∙ ap (λ (y : Option LxRefusal). y then fault_in_pages file then fault_in_links file) header ∙ ap (λ (y : Option LxRefusal). y then fault_in_links file) pages ∙ wrong

-- ---- what is handed on

failed : (file : List ℕ) (answer : Result Found (Fail LxRefusal)) (f : Fail LxRefusal) → IsErrAnd answer (λ x. x ≡ f) → IsFault (if_said f) (LxFault file) → Finds answer file
failed file (Ok found) f is said = absurd is
failed file (Err g) f is said = subst (λ (h : Fail LxRefusal). IsFault (if_said h) (LxFault file)) (sym is) said

header_failed : (file : List ℕ) (read : Result Header LxRefusal) (f : Fail LxRefusal) → ReadsHeader read file → Err f ≡ as_said read → IsFault (if_said f) (LxFault file)
header_failed file (Ok header) f reads is = absurd cc
header_failed file (Err e) f reads is = let same : Said e ≡ f = cc in subst (λ (h : Fail LxRefusal). IsFault (if_said h) (LxFault file)) same (header_wrong file e reads)

pub no_header : (file : List ℕ) (read : Result Header LxRefusal) (f : Fail LxRefusal) (answer : Result Found (Fail LxRefusal)) → ReadsHeader read file → Err f ≡ as_said read → IsErrAnd answer (λ x. x ≡ f) → Finds answer file
no_header file read f answer reads is answered = failed file answer f answered (header_failed file read f reads is)

pub header_read : (file : List ℕ) (read : Result Header LxRefusal) (header : Header) → ReadsHeader read file → Ok header ≡ as_said read → (header_fault file ≡ None) × IsHeaderOf file header
header_read file (Ok found) header reads is = let same : found ≡ header = cc in subst (λ (h : Header). (header_fault file ≡ None) × IsHeaderOf file h) same reads
header_read file (Err e) header reads is = absurd cc

pub no_pages : {A : Type 0} (file : List ℕ) (value : A) (f : Fail LxRefusal) (answer : Result Found (Fail LxRefusal)) → header_fault file ≡ None → Judges if_said (Err f) value (fault_in_pages file) → IsErrAnd answer (λ x. x ≡ f) → Finds answer file
no_pages file value (Said e) answer header wrong answered = failed file answer (Said e) answered (pages_wrong file e header wrong)
no_pages file value NoMemory answer header wrong answered = failed file answer NoMemory answered tt

pub no_links : {A : Type 0} (file : List ℕ) (value : A) (f : Fail LxRefusal) (answer : Result Found (Fail LxRefusal)) → header_fault file ≡ None → fault_in_pages file ≡ None → Judges if_said (Err f) value (fault_in_links file) → IsErrAnd answer (λ x. x ≡ f) → Finds answer file
no_links file value (Said e) answer header pages wrong answered = failed file answer (Said e) answered (links_wrong file (Some e) header pages wrong)
no_links file value NoMemory answer header pages wrong answered = failed file answer NoMemory answered tt

-- ---- the parts

abbrev pub parts_found : List ℕ → Found → Parts
parts_found file found = record {
  file = file;
  name = found.name;
  flags = found.header.module_flags;
  start = found.links.start;
  objects = found.objects;
  pages = found.pages;
  fix_spans = found.links.fix_spans;
  imports = found.links.imports;
  procs_at = found.header.import_procedures;
  entries = found.links.entries;
  names = found.names;
  refs = found.links.refs;
}

pub parts_are : (file : List ℕ) (found : Found) → IsFoundIn file found → parts_found file found ≡ parts_of file
unfolding parts_of
parts_are file found is =
    let name = is.name in
    let names = is.names in
    let objects = is.objects in
    let pages = is.pages in
    let links = is.links in
    let flags = is.header.module_flags in
    let procs = is.header.import_procedures.0 in
    rw (name, names, objects, pages, links, flags, procs) refl

pub found_sound : (file : List ℕ) (found : Found) → length file < 2 ^ 32 → LxFault file ≡ None → IsFoundIn file found → Sound (parts_found file found)
found_sound file found short none is = subst Sound (sym (parts_are file found is)) (sound file (parts_of file) short (record { faultless = none; parts = refl }))

pub read_again : (file : List ℕ) → length file < 2 ^ 32 → LxFault file ≡ None → IsRead (parts_of file)
unfolding parts_of
read_again file short none = record { short = short; means = record { faultless = none; parts = refl } }
