-- The fields of a record, and what is wrong with them.
use Rattle.std.specs.Prelude.{ℕ, Ok}
use Rattle.lx_bytes.specs.Cursor.{Cursor}
use Rattle.lx_types.specs.declared.fix.Source.{Source}
use Rattle.lx_types.specs.declared.fix.Source.TheVariants.{Sel}
use Rattle.lx_types.specs.declared.refusal.LxRefusal.{LxRefusal}
use Rattle.lx_types.specs.declared.refusal.LxKind.TheVariants as kinds
use Rattle.lx_model.specs.Reading.{fault, number, Read}
use Rattle.lx_model.specs.RecordFields.{target_width}
use Rattle.lx_model.specs.Sources.{SourceKind}
use Rattle.lx_fixrec.specs.declared.refusal.RecRefusal.{RecRefusal}
use Rattle.lx_fixrec.specs.declared.refusal.RecRefusal.TheVariants as refusals
use Rattle.lx_fixrec.specs.declared.sources.Kind.{Kind}

abbrev pub kind_of : Kind → SourceKind
kind_of k = record { source = k.source; alias = k.alias; listed = k.listed }

-- what a refusal says is wrong, and where
abbrev pub refusal : RecRefusal → LxRefusal
refusal (refusals.Short at) = fault kinds.Short at
refusal (refusals.BadSource at) = fault kinds.BadSource at
refusal (refusals.Straddle at) = fault kinds.Straddle at

-- the offset of an internal target: a selector alone has none
abbrev pub internal_offset_at : Source → ℕ → Cursor → Read ℕ
internal_offset_at Sel flags c = Ok (0, c)
internal_offset_at source flags c = number (target_width flags) c
