-- Definition files whose fault, or whose want of one, is known from outside: statements that stand twice, and borders between a
-- statement and an item.
use Rattle.std.specs.Prelude.{◌≡◌, [], ◌∷◌, Ok, codes}
use Rattle.def_model.specs.declared.refusal.DefKind.TheVariants as kinds
use Rattle.def_model.specs.Reading.{read_of}
use Rattle.def_file.specs.Examples.{fault, lines, plain_program, named_item}

-- A statement that may stand once, twice: the second is refused, wherever it stands.
pub record WorkedTwice : Type 0 where
  pub names : read_of (lines (codes "NAME" ∷ codes "PROTMODE" ∷ codes "NAME" ∷ [])) ≡ fault 3 kinds.Twice
  pub libraries : read_of (lines (codes "LIBRARY A INITGLOBAL" ∷ codes "LIBRARY B" ∷ [])) ≡ fault 2 kinds.Twice
  pub library_name : read_of (lines (codes "LIBRARY" ∷ codes "NAME" ∷ [])) ≡ fault 2 kinds.Twice
  pub descriptions : read_of (lines (codes "DESCRIPTION 'a'" ∷ codes "DESCRIPTION 'b'" ∷ [])) ≡ fault 2 kinds.Twice
  pub two_codes : read_of (lines (codes "CODE PRELOAD" ∷ codes "EXPORTS a" ∷ codes "CODE" ∷ [])) ≡ fault 3 kinds.Twice
  pub two_datas : read_of (lines (codes "DATA" ∷ codes "SEGMENTS A CLASS 'DATA'" ∷ codes "DATA" ∷ [])) ≡ fault 3 kinds.Twice
  pub stacks : read_of (lines (codes "STACKSIZE 1" ∷ codes "STACKSIZE 1" ∷ [])) ≡ fault 2 kinds.Twice
  pub heaps : read_of (lines (codes "HEAPSIZE 1" ∷ codes "HEAPSIZE 1" ∷ [])) ≡ fault 2 kinds.Twice
  pub bases : read_of (lines (codes "BASE = 65536" ∷ codes "BASE = 65536" ∷ [])) ≡ fault 2 kinds.Twice
  -- the others may stand again
  pub exports :
      read_of (codes "EXPORTS a PROTMODE EXPORTS b PROTMODE EXETYPE x EXETYPE y")
      ≡ Ok (record plain_program { exports = named_item (codes "a") ∷ named_item (codes "b") ∷ [] })

-- What stands neither in the statement or item before it nor begins the next one.
pub record WorkedBorders : Type 0 where
  pub second_name : read_of (codes "NAME a b") ≡ fault 1 kinds.Statement
  pub second_window : read_of (codes "NAME WINDOWAPI NOTWINDOWCOMPAT") ≡ fault 1 kinds.Statement
  pub window_of_library : read_of (codes "LIBRARY WINDOWAPI") ≡ fault 1 kinds.Statement
  pub name_after_call : read_of (codes "LIBRARY INITGLOBAL a") ≡ fault 1 kinds.Statement
  pub call_of_program : read_of (codes "NAME INITGLOBAL") ≡ fault 1 kinds.Statement
  pub second_text : read_of (codes "DESCRIPTION 'a' 'b'") ≡ fault 1 kinds.Statement
  pub identifier_as_text : read_of (codes "DESCRIPTION a") ≡ fault 1 kinds.Expected
  pub name_after_words : read_of (codes "CODE SHARED a") ≡ fault 1 kinds.Statement
  pub class_alone : read_of (codes "SEGMENTS CLASS 'x'") ≡ fault 1 kinds.Statement
  pub class_after_words : read_of (codes "SEGMENTS A SHARED CLASS 'x'") ≡ fault 1 kinds.Statement
  pub identifier_as_class : read_of (codes "SEGMENTS A CLASS B") ≡ fault 1 kinds.Expected
  pub number_of_segment : read_of (codes "SEGMENTS A 1") ≡ fault 1 kinds.Statement
  pub equals_alone : read_of (codes "EXPORTS = a") ≡ fault 1 kinds.Statement
  pub at_alone : read_of (codes "EXPORTS @ 1") ≡ fault 1 kinds.Statement
  pub equals_after_ordinal : read_of (codes "EXPORTS a @1 = b") ≡ fault 1 kinds.Statement
  pub resident_after_nodata : read_of (codes "EXPORTS a NODATA RESIDENTNAME") ≡ fault 1 kinds.Statement
  pub second_words : read_of (codes "EXPORTS a 1 2") ≡ fault 1 kinds.Statement
  pub statement_as_internal : read_of (codes "EXPORTS a = NAME") ≡ fault 1 kinds.Expected
  pub statement_as_ordinal : read_of (codes "EXPORTS a @ NAME") ≡ fault 1 kinds.Expected
  pub dot_alone : read_of (codes "IMPORTS . f") ≡ fault 1 kinds.Statement
  pub two_names : read_of (codes "IMPORTS m f") ≡ fault 1 kinds.Expected
  pub statement_as_entry : read_of (codes "IMPORTS m . NAME") ≡ fault 1 kinds.Expected
  pub second_equals : read_of (codes "IMPORTS a = b = c") ≡ fault 1 kinds.Expected
  pub second_number : read_of (codes "STACKSIZE 1 2") ≡ fault 1 kinds.Statement
  pub no_equals : read_of (codes "BASE 65536") ≡ fault 1 kinds.Expected
  pub name_after_mode : read_of (codes "PROTMODE a") ≡ fault 1 kinds.Statement
  pub statement_as_type : read_of (codes "EXETYPE NAME") ≡ fault 1 kinds.Expected
