-- Files in memory, and the calls of them that are to fail.
use Rattle.std.specs.Prelude.{◌≡◌, ℕ, List, [], Contains}
use Rattle.lx_ports.specs.Counts.{next}
use Rattle.lx_ports.specs.Files.{Contents}
use Rattle.memory_ports.specs.Names.{contents_in}
use Rattle.memory_ports.specs.declared.memory_files.MemFiles.{MemFiles}

-- The bytes that each name has.
abbrev pub contents_of : MemFiles → Contents
contents_of files = contents_in files.entries.items

-- No call has been made yet, and these are to fail.
pub record IsPlanned (files : MemFiles) (failing_loads failing_saves : List ℕ) : Type 0 where
  pub loads : files.loads ≡ 0
  pub saves : files.saves ≡ 0
  pub failing_loads_is : files.failing_loads.items ≡ failing_loads
  pub failing_saves_is : files.failing_saves.items ≡ failing_saves

-- The next load, or save, is one of those that are to fail.
abbrev pub LoadIsToFail : MemFiles → Type 0
LoadIsToFail files = Contains files.failing_loads.items (next files.loads)

abbrev pub SaveIsToFail : MemFiles → Type 0
SaveIsToFail files = Contains files.failing_saves.items (next files.saves)

abbrev pub NoLoadIsToFail : MemFiles → Type 0
NoLoadIsToFail files = files.failing_loads.items ≡ []

-- One load, or save, has been counted, and the same ones are to fail.
pub record IsOneLoadLater (old new : MemFiles) : Type 0 where
  pub loads : new.loads ≡ next old.loads
  pub saves : new.saves ≡ old.saves
  pub failing_loads : new.failing_loads.items ≡ old.failing_loads.items
  pub failing_saves : new.failing_saves.items ≡ old.failing_saves.items

pub record IsOneSaveLater (old new : MemFiles) : Type 0 where
  pub loads : new.loads ≡ old.loads
  pub saves : new.saves ≡ next old.saves
  pub failing_loads : new.failing_loads.items ≡ old.failing_loads.items
  pub failing_saves : new.failing_saves.items ≡ old.failing_saves.items
