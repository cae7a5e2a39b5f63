-- The data of modules that is kept while their COMDATs are compared.
use Rattle.std.specs.Prelude.{◌≡◌, ℕ, List, Some, slice_get}
use Rattle.std.specs.Ordering.{nat_cmp}
use Rattle.std.specs.BTreeMap.{BTreeMap, get}
use Rattle.obj_types.specs.declared.object.ObjModule.{ObjModule}
use Rattle.obj_types.specs.Data.{Data}
use Rattle.link_fix.specs.declared.images.Images.{Images}
use Rattle.link_fix.specs.Images.{byte_of}
use Rattle.comdat_core.specs.declared.taking.Placed.{Placed}
use Rattle.comdat_core.specs.declared.taking.Taken.{Taken}

-- The module of a COMDAT is that at its place.
abbrev pub IsAt : List ObjModule → Placed → Type 0
IsAt modules x = slice_get modules x.place ≡ Some x.own.owner.now

-- The module at a place has a COMDAT that is taken out of it, and the first one of the name has its module at its own.
abbrev pub AreAt : List ObjModule → ℕ → Taken → Type 0
AreAt modules place t = (slice_get modules place ≡ Some t.own.owner.now) × IsAt modules t.first

-- Rows by segment that are the data of a module.
abbrev pub IsDataOf : ObjModule → Images → Type 0
IsDataOf m rows = (seg : ℕ) (x : ℕ) → byte_of rows seg x ≡ Data m seg x

-- What is kept at the place of a module is its data.
abbrev pub HasData : List ObjModule → BTreeMap ℕ Images → Type 0
HasData modules kept =
    (place : ℕ) (rows : Images) (m : ObjModule) → get nat_cmp kept place ≡ Some rows → slice_get modules place ≡ Some m → IsDataOf m rows
