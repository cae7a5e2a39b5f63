-- Files by name: what they tell of themselves, what a load answers, and what a save leaves.
use Rattle.std.specs.Prelude.{◌≡◌, ◌≢◌, ◌≤◌, ◌<◌, ℕ, List, [], ◌∷◌, ◌++◌, length, Option, Some, None, Result, Ok, Err, IsSomeAnd}
use Rattle.lx_ports.specs.Calls.{Call}
use Rattle.lx_ports.specs.declared.files.LoadFault.{LoadFault}
use Rattle.lx_ports.specs.declared.files.LoadFault.TheVariants.{Absent, TooLong, Failed, NoMemory}

-- The bytes that each name has.
abbrev pub Contents : Type 0
Contents = List ℕ → Option (List ℕ)

-- What files tell of themselves: the bytes that each name has, where they are told (real files tell nothing of them),
-- and every call so far.
pub record FilesState : Type 0 where
  pub contents : Option Contents
  pub calls : List Call

-- The same after one call more, which changed no file.
abbrev pub after_call : FilesState → Call → FilesState
after_call state call = record { contents = state.contents; calls = state.calls ++ call ∷ [] }

-- A load of at most `max` bytes may answer this, by what its name has. Failing and want of memory may come anywhere.
abbrev pub IsLoadOf : Option (List ℕ) → ℕ → Result (List ℕ) LoadFault → Type 0
IsLoadOf has max (Ok bytes) = (has ≡ Some bytes) × (length bytes ≤ max)
IsLoadOf has max (Err Absent) = has ≡ None
IsLoadOf has max (Err TooLong) = IsSomeAnd has (λ bytes. max < length bytes)
IsLoadOf has max (Err Failed) = Unit {0}
IsLoadOf has max (Err NoMemory) = Unit {0}

-- Told contents stay told, and have these bytes under the name.
abbrev pub IsSaved : Option Contents → Option Contents → List ℕ → List ℕ → Type 0
IsSaved None now name bytes = Unit {0}
IsSaved (Some before) now name bytes = IsSomeAnd now (λ contents. contents name ≡ Some bytes)

-- Told contents stay told, and every other name has what it had.
abbrev pub KeepsOthers : Option Contents → Option Contents → List ℕ → Type 0
KeepsOthers None now name = Unit {0}
KeepsOthers (Some before) now name =
    IsSomeAnd now (λ contents. (other : List ℕ) → other ≢ name → contents other ≡ before other)
