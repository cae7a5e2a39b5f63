-- What is in memory has addresses.
use Rattle.std.specs.Prelude.{ℕ, ◌+◌, ◌*◌, ◌^◌, ◌<◌, ◌≤◌, All, length}
use Rattle.lx_types.specs.declared.object.TheConstants.{PAGE_SIZE}
use Rattle.memory_model.specs.declared.held.PageMemory.{PageMemory}
use Rattle.memory_model.specs.declared.held.PageMemory.TheVariants.{Invalid, Held}
use Rattle.memory_model.specs.declared.held.ObjectMemory.{ObjectMemory}
use Rattle.memory_model.specs.declared.held.ModuleMemory.{ModuleMemory}

abbrev pub FitsPage : PageMemory → Type 0
FitsPage Invalid = Unit {0}
FitsPage (Held bytes) = length bytes ≤ PAGE_SIZE

-- Each page of an object has addresses of 32 bits, from the object's base on.
pub record IsAddressed (o : ObjectMemory) : Type 0 where
  pub room : o.base + length o.pages * PAGE_SIZE < 2 ^ 32
  pub pages : All FitsPage o.pages

abbrev pub AreAddressed : ModuleMemory → Type 0
AreAddressed m = All IsAddressed m.objects
