-- What is linked, read back and gathered of the modules.
use Rattle.std.specs.Prelude.{◌≡◌, ℕ, ◌*◌, ◌^◌, ◌≤◌, List, length, sum_by, None}
use Rattle.lx_model.specs.Gathering.{LibraryFault}
use Rattle.load_model.specs.declared.deeds.Fresh.{Fresh}
use Rattle.load_model.specs.Modules.{Library}
use Rattle.lx_types.specs.declared.bases.Bases.{Bases}
use Rattle.link_model.specs.Link.{Link}
use Rattle.image_model.specs.Linked.{page_forms, page_fixes}
use Rattle.gen_model.specs.Sums.{AreFirstPlaces, bases_of, library_of}
use Rattle.gen_laws.specs.Laws.{AreFirst}
use Rattle.gen_core.specs.declared.linking.Linking.{Linking}
use Rattle.gen_core.specs.declared.linking.Gathered.{Gathered}

-- ---- counts

abbrev pub pages_of : List Link → ℕ
pages_of links = sum_by (λ l. length (page_forms l)) links

abbrev pub sources_of : List Link → ℕ
sources_of links = sum_by (λ l. sum_by length (page_fixes l)) links

-- ---- on the way: the first modules are linked, and what their files say stands in their order

pub record HasLinked (count : ℕ) (linking : Linking) : Type 0 where
  pub links : List Link
  pub each : length links ≡ count
  pub first : AreFirst links
  pub «modules» : linking.«modules».items ≡ library_of links
  pub pages : linking.pages ≡ pages_of links
  pub sources : linking.sources ≡ sources_of links
  -- each link tells both in 32 bits
  pub few_pages : linking.pages ≤ count * 2 ^ 32
  pub few_sources : linking.sources ≤ count * 2 ^ 32

-- ---- at the end: they are a library

pub record IsGathered (count : ℕ) (gathered : Gathered) : Type 0 where
  pub links : List Link
  pub each : length links ≡ count
  pub first : AreFirst links
  pub library : gathered.library ≡ library_of links
  pub accepted : LibraryFault (library_of links) ≡ None
  pub pages : gathered.pages ≡ pages_of links
  pub sources : gathered.sources ≡ sources_of links

-- ---- the library, and where it stands

-- A library of the first modules.
pub record IsFirstLibrary (lib : Library) : Type 0 where
  pub links : List Link
  pub first : AreFirst links
  pub is : lib ≡ library_of links

pub record AreFirstBases (lib : Library) (bases : Bases) : Type 0 where
  pub fresh : List Fresh
  pub placed : AreFirstPlaces lib fresh
  pub are : bases ≡ bases_of fresh
