-- What stands in front of a word of a name, and what the word tells.
use Rattle.std.specs.Prelude.{◌≡◌, ℕ, ◌<◌, ◌≤◌, ◌/◌, ◌%◌, ◌⊎◌, Bool, true, false}
use Rattle.std.specs.Prelude.{List, [], ◌∷◌, ◌++◌, length, drop}
use Rattle.lx_types.specs.Escaped.{hex_digit, is_plain, escaped_byte}
use Rattle.std.specs.Bool.{then_some}
use Rattle.dump_model.specs.Bounds.{IsByte, IsListedName}
use Rattle.dump_model.specs.Lines.{name_word}
use Rattle.dump_read.specs.declared.names.ToldName.{ToldName}
use Rattle.dump_model.specs.Words.{Begins, Tells}
use Rattle.dump_read.specs.declared.names.Front.{Front}
use Rattle.dump_read.specs.declared.names.Front.TheVariants.{Byte, Ends, Wrong}
use Rattle.dump_read.specs.Names.{FrontByte, EndsWithin, NoFront}

-- what stands in front of a word of a name: a byte, in so many bytes of the word
abbrev pub IsFront : Front → List ℕ → Type 0
IsFront (Byte b len) left = IsByte b × (0 < len) × (len ≤ length left) × (left ≡ escaped_byte b ++ drop len left)
IsFront Ends left = EndsWithin left
IsFront Wrong left = NoFront left

-- a byte begins what some byte is written as after the sign of an escape
abbrev pub IsFirstDigit : ℕ → Type 0
IsFirstDigit byte = (b : ℕ) × IsByte b × (is_plain b ≡ false) × (byte ≡ hex_digit (b / 16 % 16))

-- what two digits after the sign of an escape stand for, whatever comes then
abbrev pub IsPairFront : Front → ℕ → ℕ → Type 0
IsPairFront (Byte b len) high low = IsByte b × (len ≡ 3) × (escaped_byte b ≡ 0x25 ∷ high ∷ low ∷ [])
IsPairFront Ends high low = ⊥
IsPairFront Wrong high low = (b : ℕ) → IsByte b → escaped_byte b ≡ 0x25 ∷ high ∷ low ∷ [] → ⊥

-- a word ends within a byte; if not, a byte is in front, or none
abbrev pub EndsOrNot : Bool → List ℕ → Type 0
EndsOrNot true left = EndsWithin left
EndsOrNot false left = ((b : ℕ) × IsByte b × FrontByte left b) ⊎ NoFront left

-- what a word tells of a name
pub record IsToldName (told : ToldName) (word : List ℕ) : Type 0 where
  pub tells : Tells name_word IsListedName (then_some told.is_told told.name) word
  pub begins : (told.begins ≡ true → Begins name_word IsListedName word) × (Begins name_word IsListedName word → told.begins ≡ true)
