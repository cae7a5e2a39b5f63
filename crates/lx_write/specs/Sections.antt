-- The sections in memory, and their places in the file.
use Rattle.std.specs.Prelude.{◌≡◌, ◌+◌, length}
use Rattle.image_model.specs.Sections as written
use Rattle.image_model.specs.Sections.{pages_at, residents_at, entries_at, spans_at, records_at, imports_at, procs_at, data_at, others_at}
use Rattle.lx_write.specs.declared.sections.Sections.{Sections}
use Rattle.lx_write.specs.declared.header.Places.{Places}

abbrev pub sections_value : Sections → written.Sections
sections_value s = record {
  objects = s.objects;
  pages = s.pages;
  residents = s.residents;
  entries = s.entries;
  spans = s.spans;
  records = s.records;
  imports = s.imports;
  procs = s.procs;
  contents = s.contents;
  others = s.others;
}

-- These are the places of sections.
pub record ArePlaces (s : written.Sections) (p : Places) : Type 0 where
  pub pages : p.pages ≡ pages_at s
  pub residents : p.residents ≡ residents_at s
  pub entries : p.entries ≡ entries_at s
  pub spans : p.spans ≡ spans_at s
  pub records : p.records ≡ records_at s
  pub imports : p.imports ≡ imports_at s
  pub procs : p.procs ≡ procs_at s
  pub contents : p.contents ≡ data_at s
  pub others : p.others ≡ others_at s
  pub end : p.end ≡ others_at s + length s.others
