-- Files that a command loads and reads in turn, up to the first that is refused.
use Rattle.std.specs.Prelude.{◌≡◌, ℕ, ◌≤◌, List, [], ◌∷◌, ◌++◌, codes, length, Result, Ok, Err}
use Rattle.lx_ports.specs.Calls.{Call, load, save}
use Rattle.lx_ports.specs.declared.files.LoadFault.{LoadFault}
use Rattle.lx_ports.specs.declared.files.LoadFault.TheVariants as fault
use Rattle.lx_types.specs.declared.limits.TheConstants.{MAX_FILE}
use Rattle.answer_model.specs.declared.said.Said.{Said}
use Rattle.answer_model.specs.FileLine.{file_line}
use Rattle.answer_model.specs.Items.{form_of, Item}
use Rattle.answer_model.specs.AskedFiles.{Asked}
use Rattle.answer_model.specs.Reading.{IsItem, IsFault}

-- A file that is loaded has at most so many bytes.
abbrev pub file_limit : ℕ
file_limit = MAX_FILE

-- ---- one file

-- The load gave bytes that mean this.
abbrev pub ReadsAnswer : Asked → Result (List ℕ) LoadFault → Item → Type 0
ReadsAnswer a (Ok bytes) item = (length bytes ≤ file_limit) × IsItem (form_of a.kind bytes) bytes item
ReadsAnswer a (Err _) item = ⊥

-- The load gave a fault, or bytes with one.
pub record FaultIsSaid (a : Asked) (bytes : List ℕ) (said : Said) : Type 0 where
  pub short : length bytes ≤ file_limit
  pub text : List ℕ
  pub fault : IsFault (form_of a.kind bytes) bytes text
  pub line : said ≡ record { status = 1; text = file_line a.name text }

-- For want of memory nothing is said.
abbrev pub RefusesAnswer : Asked → Result (List ℕ) LoadFault → Said → Type 0
RefusesAnswer a (Ok bytes) said = FaultIsSaid a bytes said
RefusesAnswer a (Err fault.Absent) said = said ≡ record { status = 1; text = file_line a.name (codes "absent") }
RefusesAnswer a (Err fault.TooLong) said = said ≡ record { status = 1; text = file_line a.name (codes "too long") }
RefusesAnswer a (Err fault.Failed) said = said ≡ record { status = 3; text = file_line a.name (codes "read failed") }
RefusesAnswer a (Err fault.NoMemory) said = ⊥

-- The call is a load of the file, and its answer is so.
abbrev pub IsLoadWith : Asked → Call → (Result (List ℕ) LoadFault → Type 0) → Type 0
IsLoadWith a (load name answer) P = (name ≡ a.name) × P answer
IsLoadWith a (save name bytes answer) P = ⊥

abbrev pub IsRead : Asked → Call → Item → Type 0
IsRead a call item = IsLoadWith a call (λ answer. ReadsAnswer a answer item)

abbrev pub IsRefused : Asked → Call → Said → Type 0
IsRefused a call said = IsLoadWith a call (λ answer. RefusesAnswer a answer said)

-- ---- all files of a command

-- Each file was loaded once, in their order, and means its item.
abbrev pub AreRead : List Asked → List Call → List Item → Type 0
AreRead [] [] [] = Unit {0}
AreRead (a ∷ asked) (call ∷ calls) (item ∷ items) = IsRead a call item × AreRead asked calls items
AreRead _ _ _ = ⊥

-- The files before one were read, that one was refused, and none after it was loaded.
pub record IsStopped (asked : List Asked) (calls : List Call) (said : Said) : Type 0 where
  pub before : List Asked
  pub here : Asked
  pub after : List Asked
  pub are : asked ≡ before ++ here ∷ after
  pub earlier : List Call
  pub items : List Item
  pub read : AreRead before earlier items
  pub call : Call
  pub refused : IsRefused here call said
  pub calls_are : calls ≡ earlier ++ call ∷ []

-- The first of the files were loaded, each once, in their order, and all of them but the last were read.
abbrev pub AreBegun : List Asked → List Call → Type 0
AreBegun asked [] = Unit {0}
AreBegun [] (call ∷ calls) = ⊥
AreBegun (a ∷ asked) (call ∷ []) = IsLoadWith a call (λ answer. Unit {0})
AreBegun (a ∷ asked) (call ∷ next ∷ calls) = ((item : Item) × IsRead a call item) × AreBegun asked (next ∷ calls)
