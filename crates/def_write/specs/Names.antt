-- The names and texts of a definition file.
use Rattle.std.specs.Prelude.{ℕ, List, IfSome}
use Rattle.std.specs.List.{All}
use Rattle.lx_types.specs.declared.entry.EntryKey.{EntryKey}
use Rattle.lx_types.specs.declared.entry.EntryKey.TheVariants.{Ordinal, Named}
use Rattle.obj_types.specs.declared.definition.DefFile.{DefFile}
use Rattle.obj_types.specs.declared.definition.SegAttrs.{SegAttrs}
use Rattle.obj_types.specs.declared.symbol.Exp.{Exp}
use Rattle.obj_types.specs.declared.symbol.Imp.{Imp}

pub record SegmentNames (P : List ℕ → Type 0) (s : SegAttrs) : Type 0 where
  pub name : P s.name
  pub class : IfSome s.class P

pub record ExportNames (P : List ℕ → Type 0) (e : Exp) : Type 0 where
  pub name : P e.name
  pub internal : P e.internal

abbrev pub EntryName : (List ℕ → Type 0) → EntryKey → Type 0
EntryName P (Ordinal n) = Unit {0}
EntryName P (Named name) = P name

pub record ImportNames (P : List ℕ → Type 0) (i : Imp) : Type 0 where
  pub name : P i.name
  pub «module» : P i.module
  pub entry : EntryName P i.entry

-- P holds of each of them.
pub record EachName (P : List ℕ → Type 0) (d : DefFile) : Type 0 where
  pub name : IfSome d.name P
  pub about : P d.about
  pub segs : All (λ (s : SegAttrs). SegmentNames P s) d.segs
  pub exports : All (λ (e : Exp). ExportNames P e) d.exports
  pub imports : All (λ (i : Imp). ImportNames P i) d.imports
