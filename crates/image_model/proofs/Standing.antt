-- Where the sections of a file stand.
use Rattle.std.proofs.Common.{◌≡◌, ℕ, ◌+◌, List, ◌++◌, length, drop, refl, sym, ap, ◌∙◌, append_assoc, length-append}
use Rattle.std.proofs.lemmas.List.{drop_at}
use Rattle.image_model.specs.Image.{Image}
use Rattle.image_model.specs.Sections.{Sections, sections, objects_at, pages_at, residents_at, entries_at, spans_at, records_at, imports_at, procs_at, data_at, others_at}
use Rattle.image_model.specs.File.{header_fields_of, file_of}
use Rattle.lx_model.specs.TableSpelling.{header_spelling}

-- From a place on, the file has these bytes.
pub record HasFrom (file : List ℕ) (at : ℕ) (rest : List ℕ) : Type 0 where
  pub before : List ℕ
  pub long : length before ≡ at
  pub spelled : file ≡ before ++ rest

-- After some of them it has the others.
pub after : (file : List ℕ) (at : ℕ) (some rest : List ℕ) → HasFrom file at (some ++ rest) → HasFrom file (at + length some) rest
after file at some rest has = record {
  before = has.before ++ some;
  long = length-append has.before some ∙ ap (λ (n : ℕ). n + length some) has.long;
  spelled = has.spelled ∙ sym (append_assoc has.before some rest);
}

pub dropped : (file : List ℕ) (at : ℕ) (rest : List ℕ) → HasFrom file at rest → drop at file ≡ rest
dropped file at rest has = ap (λ (ys : List ℕ). drop at ys) has.spelled ∙ drop_at has.before rest at has.long

-- What follows each section.
abbrev pub from_others : Sections → List ℕ
from_others s = s.others

abbrev pub from_contents : Sections → List ℕ
from_contents s = s.contents ++ from_others s

abbrev pub from_procs : Sections → List ℕ
from_procs s = s.procs ++ from_contents s

abbrev pub from_imports : Sections → List ℕ
from_imports s = s.imports ++ from_procs s

abbrev pub from_records : Sections → List ℕ
from_records s = s.records ++ from_imports s

abbrev pub from_spans : Sections → List ℕ
from_spans s = s.spans ++ from_records s

abbrev pub from_entries : Sections → List ℕ
from_entries s = s.entries ++ from_spans s

abbrev pub from_residents : Sections → List ℕ
from_residents s = s.residents ++ from_entries s

abbrev pub from_pages : Sections → List ℕ
from_pages s = s.pages ++ from_residents s

abbrev pub from_objects : Sections → List ℕ
from_objects s = s.objects ++ from_pages s

-- Each section stands at its place.
pub record Standing (file : List ℕ) (s : Sections) : Type 0 where
  pub objects : HasFrom file (objects_at s) (from_objects s)
  pub pages : HasFrom file (pages_at s) (from_pages s)
  pub residents : HasFrom file (residents_at s) (from_residents s)
  pub entries : HasFrom file (entries_at s) (from_entries s)
  pub spans : HasFrom file (spans_at s) (from_spans s)
  pub records : HasFrom file (records_at s) (from_records s)
  pub imports : HasFrom file (imports_at s) (from_imports s)
  pub procs : HasFrom file (procs_at s) (from_procs s)
  pub contents : HasFrom file (data_at s) (from_contents s)
  pub others : HasFrom file (others_at s) (from_others s)

standing_from : (file : List ℕ) (s : Sections) → HasFrom file (objects_at s) (from_objects s) → Standing file s
standing_from file s objects =
    let pages = after file (objects_at s) s.objects (from_pages s) objects in
    let residents = after file (pages_at s) s.pages (from_residents s) pages in
    let entries = after file (residents_at s) s.residents (from_entries s) residents in
    let spans = after file (entries_at s) s.entries (from_spans s) entries in
    let records = after file (spans_at s) s.spans (from_records s) spans in
    let imports = after file (records_at s) s.records (from_imports s) records in
    let procs = after file (imports_at s) s.imports (from_procs s) imports in
    let contents = after file (procs_at s) s.procs (from_contents s) procs in
    let others = after file (data_at s) s.contents (from_others s) contents in
    record { objects = objects; pages = pages; residents = residents; entries = entries; spans = spans; records = records; imports = imports; procs = procs; contents = contents; others = others }

pub standing : (m : Image) → Standing (file_of m) (sections m)
unfolding file_of header_fields_of
standing m = standing_from (file_of m) (sections m) (record { before = header_spelling (header_fields_of m (sections m)); long = refl; spelled = refl })
