-- When a module definition file's value is whole.
use Rattle.std.specs.Prelude.{◌≡◌, ◌≢◌, ℕ, ◌%◌, ◌≤◌, [], IfSome}
use Rattle.std.specs.List.{All}
use Rattle.obj_types.specs.declared.limits.TheConstants.{MAX_BASE, MAX_DATA, MIN_BASE}
use Rattle.lx_types.specs.declared.limits.TheConstants.{BASE_UNIT}
use Rattle.lx_types.specs.declared.entry.EntryKey.{EntryKey}
use Rattle.lx_types.specs.declared.entry.EntryKey.TheVariants.{Ordinal, Named}
use Rattle.obj_types.specs.declared.definition.DefFile.{DefFile}
use Rattle.obj_types.specs.declared.definition.SegAttrs.{SegAttrs}
use Rattle.obj_types.specs.declared.symbol.Imp.{Imp}
use Rattle.obj_types.specs.declared.symbol.Exp.{Exp}

-- An ordinal as `@` has it.
abbrev pub IsOrdinal : ℕ → Type 0
IsOrdinal n = (1 ≤ n) × (n ≤ 65535)

-- A base that BASE may give: a multiple of 64 KiB in the two arenas.
abbrev pub IsBase : ℕ → Type 0
IsBase b = (b % BASE_UNIT ≡ 0) × (MIN_BASE ≤ b) × (b ≤ MAX_BASE)

-- An entry that IMPORTS may name.
abbrev pub IsEntry : EntryKey → Type 0
IsEntry (Ordinal n) = IsOrdinal n
IsEntry (Named name) = name ≢ []

-- An item of EXPORTS.
pub record WholeExport (e : Exp) : Type 0 where
  pub name : e.name ≢ []
  pub internal : e.internal ≢ []
  pub ordinal : IfSome e.ordinal IsOrdinal
  pub words : e.words ≤ 31

-- An item of IMPORTS.
pub record WholeImport (i : Imp) : Type 0 where
  pub name : i.name ≢ []
  pub «module» : i.module ≢ []
  pub entry : IsEntry i.entry

-- The names of DESCRIPTION and of classes may be empty, and no others.
pub record WholeDef (d : DefFile) : Type 0 where
  pub name : IfSome d.name (λ n. n ≢ [])
  pub stack : d.stack ≤ MAX_DATA
  pub base : IfSome d.base IsBase
  pub segs : All (λ (s : SegAttrs). s.name ≢ []) d.segs
  pub exports : All WholeExport d.exports
  pub imports : All WholeImport d.imports
