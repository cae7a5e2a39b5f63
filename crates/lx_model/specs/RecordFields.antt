-- The fields of fixup records: flags, targets, additives and offsets.
-- "32-bit Linear eXecutable Module Format": "Fixup Record Table".
use Rattle.std.specs.Prelude.{ℕ, zero, suc, ◌+◌, ◌^◌, ◌%◌, ◌==◌, ◌||◌, not, Bool, List, [], ◌∷◌, Ok, Err, nat_lt, bit_and, if◌then◌else◌, ℤ}
use Rattle.std.specs.Int.{w16, cast_signed}
use Rattle.lx_bytes.specs.Cursor.{Cursor}
use Rattle.lx_types.specs.declared.refusal.LxKind.TheVariants as kinds
use Rattle.lx_types.specs.declared.object.TheConstants.{PAGE_SIZE}
use Rattle.lx_types.specs.declared.fix.Source.{Source}
use Rattle.lx_types.specs.declared.fix.Source.TheVariants.{Sel}
use Rattle.lx_types.specs.declared.fix.FixTarget.{FixTarget}
use Rattle.lx_types.specs.declared.fix.FixTarget.TheVariants as targets
use Rattle.lx_model.specs.Reading.{fault, number, Read, ◌>>=◌}
use Rattle.lx_model.specs.Sources.{source_size}
use Rattle.lx_model.specs.declared.record_fields.TheConstants.{ADDITIVE, WIDE_TARGET, WIDE_ADDITIVE, WIDE_NUMBER, BYTE_ORDINAL}

-- ---- the flags byte: the target's kind, in the low two bits, and the flags

-- a flag of the flags byte is set
abbrev pub has : ℕ → ℕ → Bool
has flag flags = not (bit_and flags flag == 0)

-- how many bytes a field has: an object's or a module's number and an ordinal of the entry table; an
-- offset in an object or of a name; an import's ordinal; the additive
abbrev pub number_width : ℕ → ℕ
number_width flags = if has WIDE_NUMBER flags then 2 else 1

abbrev pub target_width : ℕ → ℕ
target_width flags = if has WIDE_TARGET flags then 4 else 2

abbrev pub ordinal_width : ℕ → ℕ
ordinal_width flags = if has BYTE_ORDINAL flags then 1 else target_width flags

abbrev pub additive_width : ℕ → ℕ
additive_width flags = if has WIDE_ADDITIVE flags then 4 else 2

-- ---- target and additive

-- An internal target is an object's number and an offset; a selector alone has no offset. Of an import
-- there are the module's number, and an ordinal or the offset of a name. An entry-table target is an
-- ordinal.
unfoldable pub internal_at : Source → ℕ → Cursor → Read FixTarget
internal_at Sel flags c = number (number_width flags) c >>= λ object. Ok (targets.Internal object.0 0, object.1)
internal_at source flags c = do
  object ← number (number_width flags) c
  offset ← number (target_width flags) object.1
  Ok (targets.Internal object.0 offset.0, offset.1)

unfoldable pub target_of_kind : ℕ → Source → ℕ → Cursor → Read FixTarget
target_of_kind zero source flags c = internal_at source flags c
target_of_kind (suc zero) source flags c = do
  import ← number (number_width flags) c
  ordinal ← number (ordinal_width flags) import.1
  Ok (targets.Ordinal import.0 ordinal.0, ordinal.1)
target_of_kind (suc (suc zero)) source flags c = do
  import ← number (number_width flags) c
  name ← number (target_width flags) import.1
  Ok (targets.Named import.0 name.0, name.1)
target_of_kind (suc (suc (suc k))) source flags c = number (number_width flags) c >>= λ ordinal. Ok (targets.Own ordinal.0, ordinal.1)

abbrev pub target_at : Source → ℕ → Cursor → Read FixTarget
target_at source flags c = target_of_kind (flags % 4) source flags c

-- where there is no additive it is 0; one of 16 bits has zeros above it
unfoldable pub additive_at : ℕ → Cursor → Read ℕ
additive_at flags c = if has ADDITIVE flags then number (additive_width flags) c else Ok (0, c)

-- ---- offsets

-- A source has a byte in the page: it begins there, or less than its size before it. The offset is a
-- signed word.
abbrev pub reaches_page : Source → ℕ → Bool
reaches_page source word = nat_lt word PAGE_SIZE || nat_lt (2 ^ 16) (word + source_size source)

abbrev pub offset_at : Source → Cursor → Read ℤ
offset_at source c = do
  word ← number 2 c
  if reaches_page source word.0 then Ok (cast_signed w16 word.0, word.1) else Err (fault kinds.Straddle c.at)

unfoldable pub offsets_at : ℕ → Source → Cursor → Read (List ℤ)
offsets_at zero source c = Ok ([], c)
offsets_at (suc n) source c = do
  offset ← offset_at source c
  others ← offsets_at n source offset.1
  Ok (offset.0 ∷ others.0, others.1)
