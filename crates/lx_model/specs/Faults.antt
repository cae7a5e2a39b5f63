-- What is wrong where an item of a table is due: a field that is cut off, or one whose value is not allowed.
use Rattle.std.specs.Prelude.{◌≡◌, ℕ, zero, suc, ◌+◌, ◌*◌, ◌<◌, ◌≤◌, ◌%◌, ◌⊎◌, Bool, true, false, List, [], ◌∷◌, ◌++◌, length, take, Option, Some, None, Ok, if◌then◌else◌}
use Rattle.lx_bytes.specs.Cursor.{Cursor, advance}
use Rattle.lx_bytes.specs.LittleEndian.{little}
use Rattle.lx_types.specs.declared.refusal.LxRefusal.{LxRefusal}
use Rattle.lx_types.specs.declared.refusal.LxKind.TheVariants as kinds
use Rattle.lx_types.specs.declared.entry.EntryHead.{EntryHead}
use Rattle.lx_types.specs.declared.fix.Source.{Source}
use Rattle.lx_types.specs.declared.fix.Source.TheVariants.{Sel}
use Rattle.lx_types.specs.declared.object.TheConstants.{PAGE_SIZE}
use Rattle.lx_model.specs.Reading.{fault, number_at, Read}
use Rattle.lx_model.specs.EntryTable.{names_one_of, at_entry, gate_entry, forward_entry}
use Rattle.lx_model.specs.declared.limits.TheConstants.{MAX_ORDINAL}
use Rattle.lx_model.specs.Sources.{SourceKind, source_of_byte}
use Rattle.lx_model.specs.RecordFields.{has, number_width, target_width, ordinal_width, additive_width, reaches_page}
use Rattle.lx_model.specs.declared.record_fields.TheConstants.{ADDITIVE, CHAIN}

-- ---- fields

-- fewer than n bytes are left
abbrev pub IsCut : ℕ → Cursor → LxRefusal → Type 0
IsCut n c e = (length c.left < n) × (e ≡ fault kinds.Short c.at)

-- A field of n bytes is cut off; or it is there, and what follows it is wrong, by its value.
abbrev pub FieldThen : ℕ → Cursor → LxRefusal → (ℕ → Cursor → Type 0) → Type 0
FieldThen n c e After = IsCut n c e ⊎ ((n ≤ length c.left) × After (little (take n c.left)) (advance n c))

-- one of several fields is cut off, or what follows them is wrong
abbrev pub FieldsThen : List ℕ → Cursor → LxRefusal → (Cursor → Type 0) → Type 0
FieldsThen [] c e After = After c
FieldsThen (n ∷ ns) c e After = FieldThen n c e (λ _ d. FieldsThen ns d e After)

abbrev pub IsCutAmong : List ℕ → Cursor → LxRefusal → Type 0
IsCutAmong ns c e = FieldsThen ns c e (λ _. ⊥)

-- ---- names, import modules, groups

-- the length, the name or the ordinal is cut off
abbrev pub WrongName : Unit {0} → Cursor → LxRefusal → Type 0
WrongName known c e = FieldThen 1 c e (λ len d. (0 < len) × IsCutAmong (len ∷ 2 ∷ []) d e)

-- of those that are still due one is cut off or empty
abbrev pub WrongImport : ℕ → Cursor → LxRefusal → Type 0
WrongImport due c e =
    (0 < due) × FieldThen 1 c e (λ len d. ((len ≡ 0) × (e ≡ fault kinds.ImportTable c.at)) ⊎ ((0 < len) × IsCutAmong (len ∷ []) d e))

-- a group passes the end of the data
abbrev pub PassesEnd : List ℕ → Type 0
PassesEnd left = length left < 4 + number_at 2 left 2

-- A group passes the end; or, where so many bytes are given before it, there are more than a page with it.
abbrev pub WrongGroup : ℕ → Cursor → LxRefusal → Type 0
WrongGroup given c e =
    (0 < length c.left)
    × ((PassesEnd c.left × (e ≡ fault kinds.Short c.at))
    ⊎ ((4 + number_at 2 c.left 2 ≤ length c.left) × (PAGE_SIZE < given + number_at 2 c.left 0 * number_at 2 c.left 2) × (e ≡ fault kinds.TooLong c.at)))

-- ---- bundles

-- after so many entries, fewer than n, one is wrong
abbrev pub WrongAmong : ℕ → (Cursor → Read EntryHead) → (Cursor → LxRefusal → Type 0) → Cursor → LxRefusal → Type 0
WrongAmong zero read Wrong c e = ⊥
WrongAmong (suc n) read Wrong c e = Wrong c e ⊎ ((head : EntryHead) × (d : Cursor) × (read c ≡ Ok (head, d)) × WrongAmong n read Wrong d e)

-- a forwarder's module is not there: this is told at its flags
abbrev pub WrongForward : ℕ → Cursor → LxRefusal → Type 0
WrongForward imports c e =
    FieldsThen (1 ∷ []) c e (λ b.
    FieldThen 2 b e (λ import d.
    ((names_one_of imports import ≡ false) × (e ≡ fault kinds.EntryTable c.at)) ⊎ ((names_one_of imports import ≡ true) × IsCutAmong (4 ∷ []) d e)))

-- the object of a bundle is not there: this is told at the bundle's count; or an entry is cut off
abbrev pub WrongObjectEntries : ℕ → ℕ → ℕ → (ℕ → Cursor → Read EntryHead) → List ℕ → Cursor → LxRefusal → Type 0
WrongObjectEntries objects bundle n read widths c e =
    FieldThen 2 c e (λ object d.
    ((names_one_of objects object ≡ false) × (e ≡ fault kinds.EntryTable bundle))
    ⊎ ((names_one_of objects object ≡ true) × WrongAmong n (read object) (IsCutAmong widths) d e))

abbrev pub WrongOfType : ℕ → ℕ → ℕ → ℕ → ℕ → Cursor → LxRefusal → Type 0
WrongOfType zero objects imports bundle n c e = ⊥
WrongOfType (suc zero) objects imports bundle n c e = WrongObjectEntries objects bundle n (at_entry 2) (1 ∷ 2 ∷ []) c e
WrongOfType (suc (suc zero)) objects imports bundle n c e = WrongObjectEntries objects bundle n gate_entry (1 ∷ 2 ∷ 2 ∷ []) c e
WrongOfType (suc (suc (suc zero))) objects imports bundle n c e = WrongObjectEntries objects bundle n (at_entry 4) (1 ∷ 4 ∷ []) c e
WrongOfType (suc (suc (suc (suc zero)))) objects imports bundle n c e =
    FieldsThen (2 ∷ []) c e (λ d. WrongAmong n (forward_entry imports) (WrongForward imports) d e)
WrongOfType (suc (suc (suc (suc (suc k))))) objects imports bundle n c e = e ≡ fault kinds.EntryTable bundle

-- A bundle's ordinals pass the last one; or what it has, by its type, is wrong.
abbrev pub WrongBundle : ℕ → ℕ → ℕ → Cursor → LxRefusal → Type 0
WrongBundle objects imports last c e =
    FieldThen 1 c e (λ count b.
    (0 < count)
    × (((MAX_ORDINAL < last + count) × (e ≡ fault kinds.EntryTable c.at))
    ⊎ ((last + count ≤ MAX_ORDINAL) × FieldThen 1 b e (λ type d. WrongOfType type objects imports c.at count d e))))

-- ---- fixup records

-- how many bytes the fields of a target and of an additive have
abbrev pub internal_widths : Source → ℕ → List ℕ
internal_widths Sel flags = number_width flags ∷ []
internal_widths source flags = number_width flags ∷ target_width flags ∷ []

abbrev pub target_widths : ℕ → Source → ℕ → List ℕ
target_widths zero source flags = internal_widths source flags
target_widths (suc zero) source flags = number_width flags ∷ ordinal_width flags ∷ []
target_widths (suc (suc zero)) source flags = number_width flags ∷ target_width flags ∷ []
target_widths (suc (suc (suc k))) source flags = number_width flags ∷ []

abbrev pub additive_widths : ℕ → List ℕ
additive_widths flags = if has ADDITIVE flags then additive_width flags ∷ [] else []

abbrev pub field_widths : Source → ℕ → List ℕ
field_widths source flags = target_widths (flags % 4) source flags ++ additive_widths flags

-- the source at an offset has no byte in the page; otherwise what follows the offset is wrong
abbrev pub OffsetThen : Source → Cursor → LxRefusal → (Cursor → Type 0) → Type 0
OffsetThen source c e After =
    FieldThen 2 c e (λ word d. ((reaches_page source word ≡ false) × (e ≡ fault kinds.Straddle c.at)) ⊎ ((reaches_page source word ≡ true) × After d))

abbrev pub OffsetsThen : ℕ → Source → Cursor → LxRefusal → Type 0
OffsetsThen zero source c e = ⊥
OffsetsThen (suc n) source c e = OffsetThen source c e (λ d. OffsetsThen n source d e)

-- Of a list there is the count first, and the offsets are last; the offset of one source is first.
abbrev pub WrongFields : Bool → Source → ℕ → Cursor → LxRefusal → Type 0
WrongFields true source flags c e = FieldThen 1 c e (λ count d. FieldsThen (field_widths source flags) d e (λ o. OffsetsThen count source o e))
WrongFields false source flags c e = OffsetThen source c e (λ d. IsCutAmong (field_widths source flags) d e)

abbrev pub WrongAfterSource : ℕ → Option SourceKind → Cursor → LxRefusal → Type 0
WrongAfterSource at None c e = e ≡ fault kinds.BadSource at
WrongAfterSource at (Some kind) c e =
    FieldThen 1 c e (λ flags d.
    ((has CHAIN flags ≡ true) × (e ≡ fault kinds.BadSource at)) ⊎ ((has CHAIN flags ≡ false) × WrongFields kind.listed kind.source flags d e))

-- A record's source byte or its flags are not allowed: this is told at its first byte; or a field is cut off, or a
-- source has no byte in the page.
abbrev pub WrongRecord : Unit {0} → Cursor → LxRefusal → Type 0
WrongRecord known c e = (0 < length c.left) × FieldThen 1 c e (λ source d. WrongAfterSource c.at (source_of_byte source) d e)
