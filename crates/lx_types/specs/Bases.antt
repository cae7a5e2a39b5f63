-- Where the objects of modules stand.
use Rattle.std.specs.Prelude.{ℕ, ◌-◌, ◌==◌, List, [], Option, Some, None, find, slice_index}
use Rattle.lx_types.specs.declared.bases.ModBases.{ModBases}
use Rattle.lx_types.specs.declared.bases.Bases.{Bases}

-- the bases of a module's objects, where there are any
abbrev pub bases_of : Option ModBases → List ℕ
bases_of (Some b) = b.objects
bases_of None = []

-- the base of an object of a module; objects count from 1
abbrev pub base_of : Bases → ℕ → ℕ → ℕ
base_of bases m object = slice_index (bases_of (find (λ b. b.«module» == m) bases.mods)) (object - 1)
