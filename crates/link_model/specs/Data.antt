-- The bytes of a module's segments, as the standing numbers of fixups are read from them.
use Rattle.std.specs.Prelude.{ℕ, zero, suc, ◌+◌, List, [], ◌∷◌}
use Rattle.obj_types.specs.declared.object.ObjModule.{ObjModule}
pub use Rattle.obj_types.specs.Data.{covers, Data}

-- n bytes of the segment from offset x on.
abbrev pub data_bytes : ObjModule → ℕ → ℕ → ℕ → List ℕ
data_bytes m seg x zero = []
data_bytes m seg x (suc n) = Data m seg x ∷ data_bytes m seg (x + 1) n
