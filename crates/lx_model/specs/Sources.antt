-- The sources of fixups: how many bytes each has, and the source byte of a record.
-- "32-bit Linear eXecutable Module Format": "Fixup Record Table", the field SRC.
use Rattle.std.specs.Prelude.{ℕ, ◌+◌, ◌%◌, ◌==◌, ◌&&◌, ◌||◌, not, Bool, true, false, Option, Some, None, nat_lt, bit_and, if◌then◌else◌, List, [], ◌∷◌, find}
use Rattle.lx_types.specs.declared.fix.Source.{Source}
use Rattle.lx_types.specs.declared.fix.Source.TheVariants.{Byte, Sel, Far16, Off16, Far32, Off32, Self32}
use Rattle.lx_model.specs.declared.record_fields.TheConstants.{ALIAS, LISTED}

-- how many bytes a source has
abbrev pub source_size : Source → ℕ
source_size Byte = 1
source_size Sel = 2
source_size Far16 = 4
source_size Off16 = 2
source_size Far32 = 6
source_size Off32 = 4
source_size Self32 = 4

-- the low four bits of the source byte
abbrev pub code_of : Source → ℕ
code_of Byte = 0
code_of Sel = 2
code_of Far16 = 3
code_of Off16 = 5
code_of Far32 = 6
code_of Off32 = 7
code_of Self32 = 8

-- a source that ends with a selector, or is one, may be that of the 16:16 alias
abbrev pub has_selector : Source → Bool
has_selector Byte = false
has_selector Sel = true
has_selector Far16 = true
has_selector Off16 = false
has_selector Far32 = true
has_selector Off32 = false
has_selector Self32 = false

abbrev pub sources : List Source
sources = Byte ∷ Sel ∷ Far16 ∷ Off16 ∷ Far32 ∷ Off32 ∷ Self32 ∷ []

-- the source that has these low four bits
abbrev pub source_of_code : ℕ → Option Source
source_of_code code = find (λ s. code_of s == code) sources

-- what a source byte says: the source, whether it is that of the alias, and whether offsets are listed
pub record SourceKind : Type 0 where
  pub source : Source
  pub alias : Bool
  pub listed : Bool

abbrev pub source_byte : SourceKind → ℕ
source_byte kind = code_of kind.source + (if kind.alias then ALIAS else 0) + (if kind.listed then LISTED else 0)

abbrev pub kind_with : ℕ → Source → SourceKind
kind_with byte source = record { source = source; alias = not (bit_and byte ALIAS == 0); listed = not (bit_and byte LISTED == 0) }

-- Bits 40h and 80h are never set, and the alias bit only for a source with a selector.
abbrev pub kind_allowed : ℕ → Option Source → Option SourceKind
kind_allowed byte None = None
kind_allowed byte (Some source) =
    if nat_lt byte 0x40 && (has_selector source || bit_and byte ALIAS == 0) then Some (kind_with byte source) else None

abbrev pub source_of_byte : ℕ → Option SourceKind
source_of_byte byte = kind_allowed byte (source_of_code (byte % 16))
