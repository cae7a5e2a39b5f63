-- Worked values: an outline, the kinds of files, and what is told of a resource file.
use Rattle.std.specs.Prelude.{◌≡◌, ℕ, true, false, List, [], ◌∷◌, ◌++◌, take, codes, None, Some}
use Rattle.res_model.specs.declared.refusal.ResRefusal.TheVariants.{Short}
use Rattle.show_model.specs.Kinds.{is_module, is_library, is_resource}
use Rattle.show_model.specs.Outlines.{outline_text, shown}
use Rattle.show_model.specs.Shows.{IsShown}
use Rattle.show_model.specs.declared.fault.ShowFault.TheVariants.{Resources}
use Rattle.show_model.specs.declared.part.Part.{Part}

abbrev pub part : List ℕ → List (List ℕ) → Part
part heading lines = record { heading = heading; lines = lines }

abbrev ended : List ℕ → List ℕ
ended line = line ++ 0x0A ∷ []

-- a backslash and `x`
abbrev escape : List ℕ
escape = 0x5C ∷ 0x78 ∷ []

pub record WorkedTexts : Type 0 where
  pub two : outline_text (part (codes "objects") (codes "1 code" ∷ codes "2 data" ∷ []) ∷ part (codes "exports") [] ∷ [])
      ≡ ended (codes "objects: 2") ++ ended (codes "  1 code") ++ ended (codes "  2 data") ++ ended (codes "exports: 0")
  -- a name with the end of a line, an escape character, a backslash and a byte above 7Eh
  pub escaped : shown (codes "a b" ++ 0x0A ∷ 0x1B ∷ 0x5C ∷ 0x7F ∷ [])
      ≡ codes "a b" ++ escape ++ codes "0A" ++ escape ++ codes "1B" ++ 0x5C ∷ 0x5C ∷ escape ++ codes "7F"
  pub nothing : outline_text [] ≡ []

pub record WorkedKinds : Type 0 where
  pub linked : is_module (codes "LX") ≡ true
  pub after_stub : is_module (codes "MZ") ≡ true
  pub half : is_module (codes "L") ≡ false
  pub library : is_library (0xF0 ∷ []) ≡ true
  pub resources : is_resource (0xFF ∷ []) ≡ true
  pub object : is_resource (0x80 ∷ []) ≡ false
  pub empty : is_resource [] ≡ false

-- type 1, identifier 2, flags 1030h, and `ABC`
abbrev abc : List ℕ
abc = 0xFF ∷ 0x01 ∷ 0x00 ∷ 0xFF ∷ 0x02 ∷ 0x00 ∷ 0x30 ∷ 0x10 ∷ 0x03 ∷ 0x00 ∷ 0x00 ∷ 0x00 ∷ 0x41 ∷ 0x42 ∷ 0x43 ∷ []

pub record WorkedFile : Type 0 where
  pub item : IsShown abc (ended (codes "resources: 1") ++ ended (codes "  type 1 identifier 2 flags 00001030 length 3")) None
  -- without its last byte
  pub cut : IsShown (take 14 abc) (ended (codes "resources: 0")) (Some (Resources (Short 12)))
