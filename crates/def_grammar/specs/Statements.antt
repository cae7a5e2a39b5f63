-- The statements of module definition files, their items and words, and the tokens that spell them (Toolkit tools reference,
-- "Module Definition Files"). A list has its last one first. Each spelling is put before tokens that follow it.
use Rattle.std.specs.Prelude.{ℕ, Bool, true, false, List, [], ◌∷◌, Option, Some, None}
use Rattle.def_model.specs.declared.keyword.Keyword.{Keyword}
use Rattle.def_model.specs.declared.keyword.Keyword.TheVariants as kw
use Rattle.def_model.specs.declared.keyword.Pair.{Pair}
use Rattle.def_model.specs.Lexemes.{Lexeme, number, equals, at, dot, text, word, keyword}

-- ---- names, texts and words

-- A name is written as an identifier or in quotes.
pub data Written : Type 0 where
  identifier : List ℕ → Written
  quoted : List ℕ → Written

-- A word of a pair of attributes, which sets what the pair decides or clears it; or a word that changes nothing.
pub data AttributeWord : Type 0 where
  sets : Pair → Bool → AttributeWord
  idle : AttributeWord

-- A word on a library's calls: INITINSTANCE or TERMINSTANCE where it is for each process, else INITGLOBAL or TERMGLOBAL.
pub data CallWord : Type 0 where
  initial : Bool → CallWord
  terminal : Bool → CallWord

abbrev pub name_token : Written → Lexeme
name_token (identifier bytes) = word bytes
name_token (quoted bytes) = text bytes

abbrev pub attribute_token : AttributeWord → Lexeme
attribute_token (sets pair on) = keyword (kw.Attribute pair on)
attribute_token idle = keyword kw.NoEffect

abbrev pub call_token : CallWord → Lexeme
call_token (initial each) = keyword (kw.Init each)
call_token (terminal each) = keyword (kw.Term each)

abbrev pub name_then : Option Written → List Lexeme → List Lexeme
name_then None rest = rest
name_then (Some name) rest = name_token name ∷ rest

abbrev pub number_then : Option ℕ → List Lexeme → List Lexeme
number_then None rest = rest
number_then (Some n) rest = number (Some n) ∷ rest

-- A word that may stand.
abbrev pub word_then : Keyword → Bool → List Lexeme → List Lexeme
word_then k true rest = keyword k ∷ rest
word_then k false rest = rest

abbrev pub attributes_then : List AttributeWord → List Lexeme → List Lexeme
attributes_then [] rest = rest
attributes_then (w ∷ before) rest = attributes_then before (attribute_token w ∷ rest)

abbrev pub calls_then : List CallWord → List Lexeme → List Lexeme
calls_then [] rest = rest
calls_then (w ∷ before) rest = calls_then before (call_token w ∷ rest)

-- ---- name [CLASS text] {attribute}

pub record Segment : Type 0 where
  pub name : Written
  pub class : Option (List ℕ)
  pub words : List AttributeWord

abbrev pub class_then : Option (List ℕ) → List Lexeme → List Lexeme
class_then None rest = rest
class_then (Some class) rest = keyword kw.Class ∷ text class ∷ rest

abbrev pub segment_then : Segment → List Lexeme → List Lexeme
segment_then s rest = name_token s.name ∷ class_then s.class (attributes_then s.words rest)

abbrev pub segments_then : List Segment → List Lexeme → List Lexeme
segments_then [] rest = rest
segments_then (s ∷ before) rest = segments_then before (segment_then s rest)

-- ---- name [= name] [@ number] [RESIDENTNAME] [NODATA] [number]

pub record Export : Type 0 where
  pub name : Written
  pub internal : Option Written
  pub ordinal : Option ℕ
  pub resident : Bool
  pub nodata : Bool
  pub words : Option ℕ

abbrev pub internal_then : Option Written → List Lexeme → List Lexeme
internal_then None rest = rest
internal_then (Some name) rest = equals ∷ name_token name ∷ rest

abbrev pub ordinal_then : Option ℕ → List Lexeme → List Lexeme
ordinal_then None rest = rest
ordinal_then (Some n) rest = at ∷ number (Some n) ∷ rest

abbrev pub export_then : Export → List Lexeme → List Lexeme
export_then e rest =
    name_token e.name
    ∷ internal_then e.internal (ordinal_then e.ordinal (word_then kw.ResidentName e.resident (word_then kw.NoData e.nodata (number_then e.words rest))))

abbrev pub exports_then : List Export → List Lexeme → List Lexeme
exports_then [] rest = rest
exports_then (e ∷ before) rest = exports_then before (export_then e rest)

-- ---- [name =] name . name, or name = name . number

pub data Import : Type 0 where
  named : (internal : Option Written) → (from entry : Written) → Import
  numbered : (internal from : Written) → (ordinal : ℕ) → Import

abbrev pub equated_then : Option Written → List Lexeme → List Lexeme
equated_then None rest = rest
equated_then (Some name) rest = name_token name ∷ equals ∷ rest

abbrev pub import_then : Import → List Lexeme → List Lexeme
import_then (named internal from entry) rest = equated_then internal (name_token from ∷ dot ∷ name_token entry ∷ rest)
import_then (numbered internal from ordinal) rest = name_token internal ∷ equals ∷ name_token from ∷ dot ∷ number (Some ordinal) ∷ rest

abbrev pub imports_then : List Import → List Lexeme → List Lexeme
imports_then [] rest = rest
imports_then (i ∷ before) rest = imports_then before (import_then i rest)

-- ---- statements

pub data Statement : Type 0 where
  -- NAME [name] [WINDOWAPI | WINDOWCOMPAT | NOTWINDOWCOMPAT]
  program : (name : Option Written) → (window : Bool) → Statement
  -- LIBRARY [name] {INITGLOBAL | INITINSTANCE | TERMGLOBAL | TERMINSTANCE}
  library : (name : Option Written) → (calls : List CallWord) → Statement
  -- DESCRIPTION text
  description : List ℕ → Statement
  -- CODE {attribute}, DATA {attribute}
  code : List AttributeWord → Statement
  plain : List AttributeWord → Statement
  -- SEGMENTS {item}, EXPORTS {item}, IMPORTS {item}
  segments : List Segment → Statement
  exports : List Export → Statement
  imports : List Import → Statement
  -- STACKSIZE number, HEAPSIZE number, BASE = number
  stack_size : ℕ → Statement
  heap_size : ℕ → Statement
  base : ℕ → Statement
  -- PROTMODE, EXETYPE name
  protected : Statement
  exe_type : Written → Statement

-- The keyword that a statement begins with, and what stands after it.
abbrev pub head : Statement → Keyword
head (program name window) = kw.Name
head (library name calls) = kw.Library
head (description about) = kw.Description
head (code words) = kw.Code
head (plain words) = kw.Data
head (segments items) = kw.Segments
head (exports items) = kw.Exports
head (imports items) = kw.Imports
head (stack_size n) = kw.StackSize
head (heap_size n) = kw.HeapSize
head (base n) = kw.Base
head protected = kw.ProtMode
head (exe_type name) = kw.ExeType

abbrev pub body_then : Statement → List Lexeme → List Lexeme
body_then (program name window) rest = name_then name (word_then kw.Window window rest)
body_then (library name calls) rest = name_then name (calls_then calls rest)
body_then (description about) rest = text about ∷ rest
body_then (code words) rest = attributes_then words rest
body_then (plain words) rest = attributes_then words rest
body_then (segments items) rest = segments_then items rest
body_then (exports items) rest = exports_then items rest
body_then (imports items) rest = imports_then items rest
body_then (stack_size n) rest = number (Some n) ∷ rest
body_then (heap_size n) rest = number (Some n) ∷ rest
body_then (base n) rest = equals ∷ number (Some n) ∷ rest
body_then protected rest = rest
body_then (exe_type name) rest = name_token name ∷ rest

abbrev pub statements_then : List Statement → List Lexeme → List Lexeme
statements_then [] rest = rest
statements_then (s ∷ before) rest = statements_then before (keyword (head s) ∷ body_then s rest)
