-- How fixup records are written, in sizes of the writer's choice. The readings give back what was written:
-- `Laws.antt`.
-- "32-bit Linear eXecutable Module Format": "Fixup Record Table".
use Rattle.std.specs.Prelude.{◌≡◌, ℕ, ◌+◌, ◌<◌, ◌^◌, Bool, true, false, List, [], ◌∷◌, ◌++◌, length, if◌then◌else◌, ℤ, pos, negsuc}
use Rattle.std.specs.List.{flat_map, AllByRecursion}
use Rattle.std.specs.Int.{w16, cast_unsigned}
use Rattle.lx_bytes.specs.LittleEndian.{little_bytes}
use Rattle.lx_types.specs.declared.fix.Source.{Source}
use Rattle.lx_types.specs.declared.fix.Source.TheVariants.{Sel}
use Rattle.lx_types.specs.declared.fix.FixTarget.{FixTarget}
use Rattle.lx_types.specs.declared.fix.FixTarget.TheVariants as targets
use Rattle.lx_types.specs.declared.fix.Fix.{Fix}
use Rattle.lx_types.specs.declared.object.TheConstants.{PAGE_SIZE}
use Rattle.lx_model.specs.Sources.{SourceKind, source_size, has_selector, source_byte}
use Rattle.lx_model.specs.RecordFields.{has, number_width, target_width, ordinal_width, additive_width}
use Rattle.lx_model.specs.declared.record_fields.TheConstants.{ADDITIVE, WIDE_TARGET, WIDE_ADDITIVE, WIDE_NUMBER, BYTE_ORDINAL}
use Rattle.lx_model.specs.Records.{fixes_at_offsets}

-- ---- records

-- the sizes that a writer chooses for the fields of a record, and whether there is an additive
pub record Sizes : Type 0 where
  pub additive : Bool
  pub wide_target : Bool
  pub wide_additive : Bool
  pub wide_number : Bool
  pub byte_ordinal : Bool

abbrev pub target_code : FixTarget → ℕ
target_code (targets.Internal object offset) = 0
target_code (targets.Ordinal import ordinal) = 1
target_code (targets.Named import name_at) = 2
target_code (targets.Own ordinal) = 3

abbrev pub flag : Bool → ℕ → ℕ
flag b n = if b then n else 0

abbrev pub flags_of : Sizes → ℕ → ℕ
flags_of s code =
    code + flag s.additive ADDITIVE + flag s.wide_target WIDE_TARGET + flag s.wide_additive WIDE_ADDITIVE + flag s.wide_number WIDE_NUMBER
    + flag s.byte_ordinal BYTE_ORDINAL

-- a record: its source byte, the sizes of its fields, and what they say
pub record Written : Type 0 where
  pub kind : SourceKind
  pub sizes : Sizes
  pub target : FixTarget
  pub additive : ℕ
  pub offsets : List ℤ

abbrev pub flags_byte : Written → ℕ
flags_byte w = flags_of w.sizes (target_code w.target)

abbrev pub internal_spelling : Source → ℕ → ℕ → ℕ → List ℕ
internal_spelling Sel flags object offset = little_bytes (number_width flags) object
internal_spelling source flags object offset = little_bytes (number_width flags) object ++ little_bytes (target_width flags) offset

abbrev pub target_spelling : Source → ℕ → FixTarget → List ℕ
target_spelling source flags (targets.Internal object offset) = internal_spelling source flags object offset
target_spelling source flags (targets.Ordinal import ordinal) = little_bytes (number_width flags) import ++ little_bytes (ordinal_width flags) ordinal
target_spelling source flags (targets.Named import name_at) = little_bytes (number_width flags) import ++ little_bytes (target_width flags) name_at
target_spelling source flags (targets.Own ordinal) = little_bytes (number_width flags) ordinal

abbrev pub additive_spelling : ℕ → ℕ → List ℕ
additive_spelling flags additive = if has ADDITIVE flags then little_bytes (additive_width flags) additive else []

abbrev pub offset_spelling : ℤ → List ℕ
offset_spelling offset = little_bytes 2 (cast_unsigned w16 offset)

abbrev pub fields_spelling : Written → ℕ → List ℕ
fields_spelling w flags = target_spelling w.kind.source flags w.target ++ additive_spelling flags w.additive

-- one offset stands before the target; of a list there is the count, and the offsets stand last
abbrev pub offsets_spelling : Bool → Written → ℕ → List ℕ
offsets_spelling true w flags = length w.offsets ∷ fields_spelling w flags ++ flat_map offset_spelling w.offsets
offsets_spelling false w flags = flat_map offset_spelling w.offsets ++ fields_spelling w flags

abbrev pub record_spelling : Written → List ℕ
record_spelling w = source_byte w.kind ∷ flags_byte w ∷ offsets_spelling w.kind.listed w (flags_byte w)

-- what a record means
abbrev pub fixes_written : Written → List Fix
fixes_written w = fixes_at_offsets w.kind w.target w.additive w.offsets

-- ---- which records can be written

abbrev pub InternalFits : Source → ℕ → ℕ → ℕ → Type 0
InternalFits Sel flags object offset = (object < 256 ^ number_width flags) × (offset ≡ 0)
InternalFits source flags object offset = (object < 256 ^ number_width flags) × (offset < 256 ^ target_width flags)

abbrev pub TargetFits : Source → ℕ → FixTarget → Type 0
TargetFits source flags (targets.Internal object offset) = InternalFits source flags object offset
TargetFits source flags (targets.Ordinal import ordinal) = (import < 256 ^ number_width flags) × (ordinal < 256 ^ ordinal_width flags)
TargetFits source flags (targets.Named import name_at) = (import < 256 ^ number_width flags) × (name_at < 256 ^ target_width flags)
TargetFits source flags (targets.Own ordinal) = ordinal < 256 ^ number_width flags

abbrev pub AdditiveFits : Bool → ℕ → ℕ → Type 0
AdditiveFits true flags additive = additive < 256 ^ additive_width flags
AdditiveFits false flags additive = additive ≡ 0

-- the source has a byte in the page
abbrev pub OffsetFits : Source → ℤ → Type 0
OffsetFits source (pos n) = n < PAGE_SIZE
OffsetFits source (negsuc n) = n + 1 < source_size source

abbrev pub CountFits : Bool → List ℤ → Type 0
CountFits true offsets = length offsets < 256
CountFits false offsets = length offsets ≡ 1

abbrev pub AliasFits : Bool → Source → Type 0
AliasFits true source = has_selector source ≡ true
AliasFits false source = Unit {0}

pub record RecordFits (w : Written) : Type 0 where
  pub alias : AliasFits w.kind.alias w.kind.source
  pub target : TargetFits w.kind.source (flags_byte w) w.target
  pub additive : AdditiveFits w.sizes.additive (flags_byte w) w.additive
  pub count : CountFits w.kind.listed w.offsets
  pub offsets : AllByRecursion (OffsetFits w.kind.source) w.offsets
