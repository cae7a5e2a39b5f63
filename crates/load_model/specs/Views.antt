-- What a process's own view stands for: what the process keeps itself, as plain data, beside the history. All
-- that it asks without an entry is answered from there.
use Rattle.std.specs.Prelude.{◌≡◌, ℕ, ◌<◌, ◌/◌, ◌%◌, ◌==◌, Bool, true, false, List, [], map, length, find, Option, Some, option_map, slice_index}
use Rattle.std.specs.List.{AllByRecursion, list_all}
use Rattle.lx_types.specs.Object.{class_of}
use Rattle.lx_types.specs.declared.object.Class.{Class}
use Rattle.lx_types.specs.declared.object.Class.TheVariants as classes
use Rattle.lx_types.specs.declared.object.TheConstants.{PAGE_SIZE}
use Rattle.load_model.specs.declared.deeds.Fresh.{Fresh}
use Rattle.load_model.specs.declared.deeds.Entry.{Entry}
use Rattle.load_model.specs.Modules.{Library, Held, object_at}
use Rattle.load_model.specs.State.{PageOf, OwnWrite, Residence, Failing, Eager, attached_residence}
use Rattle.load_model.specs.Memory.{page, pages_over, bases_seen, Byte}
use Rattle.load_model.specs.Asks.{is_own}
use Rattle.load_model.specs.Histories.{state_after, has_fault}
use Rattle.load_model.specs.Accepted.{retouched}
use Rattle.load_model.specs.ProcessCounts.{ProcessCounts, AreCountsOf, new_counts}
use Rattle.load_model.specs.TouchedPages.{has_page}

-- ---- the data

-- a page that the process has mapped, and its bytes
pub record Mapped : Type 0 where
  pub of : PageOf
  pub bytes : List ℕ

-- A process's number, whether it has ended, what it holds, the residences that it reaches with their bases, the
-- pages that it has mapped, and how many entries of the history it was shown.
pub record Holding : Type 0 where
  pub pid : ℕ
  pub ended : Bool
  pub counts : ProcessCounts
  pub residences : List Fresh
  pub mapped : List Mapped
  pub front : ℕ

-- of a process that has done nothing
abbrev pub new_holding : Library → ℕ → Holding
new_holding lib pid = record { pid = pid; ended = false; counts = new_counts lib; residences = []; mapped = []; front = 0 }

abbrev pub mapped_pages : Holding → List PageOf
mapped_pages v = map (λ p. p.of) v.mapped

-- the residence of a module that the process reaches
abbrev pub reached_of : Holding → ℕ → Option Fresh
reached_of v m = find (λ s. s.«module» == m) v.residences

-- ---- what it stands for

-- a residence, without the writes that are shared
abbrev pub fresh_of : Residence → Fresh
fresh_of r = record { serial = r.serial; «module» = r.«module»; bases = r.bases }

-- Byte x of an object as it lies in a mapped page: under the process's own writes, and without those that are
-- shared, which are read with an entry.
abbrev pub lying_byte : Class → Library → Held → Eager → ℕ → Residence → ℕ → ℕ → ℕ
lying_byte classes.Code lib contents e pid r object x = Byte lib contents e pid r object x
lying_byte classes.Private lib contents e pid r object x = Byte lib contents e pid r object x
lying_byte classes.Shared lib contents e pid r object x = contents r.«module» (bases_seen lib e r.«module») object x

-- The page is one of a residence that the process reaches, and its bytes are those that lie there, up to the
-- object's end.
pub record IsMapped (lib : Library) (contents : Held) (e : Eager) (pid : ℕ) (p : Mapped) : Type 0 where
  pub residence : Residence
  pub there : attached_residence lib e pid residence.«module» ≡ Some residence
  pub serial : p.of.serial ≡ residence.serial
  pub bytes :
      (x : ℕ) → x / PAGE_SIZE ≡ p.of.page.page → x < (object_at lib residence.«module» p.of.page.object).size →
      slice_index p.bytes (x % PAGE_SIZE) ≡ lying_byte
      (class_of (object_at lib residence.«module» p.of.page.object)) lib contents e pid residence p.of.page.object x

-- a write lies in pages that are mapped
abbrev pub is_covered : List PageOf → OwnWrite → Bool
is_covered pages w = list_all (λ n. has_page pages w.serial (page w.write.object n)) (pages_over w.write.offset (length w.write.bytes))

-- The view is that of its process in a state.
pub record IsViewOf (lib : Library) (contents : Held) (v : Holding) (e : Eager) : Type 0 where
  pub ended : v.ended ≡ (e.processes v.pid).ended
  pub counts : AreCountsOf lib (e.processes v.pid) v.counts
  pub residences : (m : ℕ) → reached_of v m ≡ option_map fresh_of (attached_residence lib e v.pid m)
  pub mapped : AllByRecursion (IsMapped lib contents e v.pid) v.mapped
  pub writes : AllByRecursion (λ w. is_covered (mapped_pages v) w ≡ true) (e.processes v.pid).writes

-- The page is a private one, or had its fault.
abbrev pub WasFixed : Library → Holding → List Entry → Mapped → Type 0
WasFixed lib v h p =
    (m : ℕ) (s : Fresh) → reached_of v m ≡ Some s → s.serial ≡ p.of.serial → is_own (class_of (object_at lib m p.of.page.object)) ≡ false →
    has_fault h p.of.serial p.of.page ≡ true

-- The view stands for a history that it was shown.
pub record StandsFor (lib : Library) (failing : Failing) (contents : Held) (v : Holding) (h : List Entry) : Type 0 where
  pub front : v.front ≡ length h
  pub view : IsViewOf lib contents v (state_after lib failing h)
  pub faults : AllByRecursion (WasFixed lib v h) v.mapped

-- the state after the history, with the pages touched that the view has mapped
abbrev pub state_for : Library → Failing → Holding → List Entry → Eager
state_for lib failing v h = retouched (λ q. mapped_pages v) (state_after lib failing h)
