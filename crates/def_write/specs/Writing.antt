-- What is written for a definition file: a statement on a line, and each item of a list on a line of its own.
use Rattle.std.specs.Prelude.{◌==◌, ℕ, Bool, List, [], ◌∷◌, ◌++◌, map, Option, Some, None, if◌then◌else◌}
use Rattle.std.specs.List.{flat_map}
use Rattle.lx_types.specs.declared.entry.EntryKey.{EntryKey}
use Rattle.lx_types.specs.declared.entry.EntryKey.TheVariants.{Ordinal, Named}
use Rattle.obj_types.specs.declared.definition.Attrs.{Attrs}
use Rattle.obj_types.specs.declared.definition.DefFile.{DefFile}
use Rattle.obj_types.specs.declared.definition.ModKind.{ModKind}
use Rattle.obj_types.specs.declared.definition.ModKind.TheVariants as modules
use Rattle.obj_types.specs.declared.definition.SegAttrs.{SegAttrs}
use Rattle.obj_types.specs.declared.symbol.Exp.{Exp}
use Rattle.obj_types.specs.declared.symbol.Imp.{Imp}
use Rattle.def_model.specs.declared.keyword.Keyword.{Keyword}
use Rattle.def_model.specs.declared.keyword.Keyword.TheVariants as kw
use Rattle.def_model.specs.declared.keyword.Pair.TheVariants as pairs
use Rattle.def_model.specs.Lexemes.{Lexeme, number, equals, at, dot, text, keyword}
use Rattle.def_write.specs.Spelling.{line_text}

-- ---- statements that give one thing

abbrev pub name_tokens : Option (List ℕ) → List Lexeme
name_tokens None = []
name_tokens (Some name) = text name ∷ []

-- A library's calls are written out.
abbrev pub kind_tokens : ModKind → Option (List ℕ) → Bool → Bool → List Lexeme
kind_tokens modules.Program name init_each term_each = keyword kw.Name ∷ name_tokens name
kind_tokens modules.Library name init_each term_each =
    keyword kw.Library ∷ (name_tokens name ++ keyword (kw.Init init_each) ∷ keyword (kw.Term term_each) ∷ [])

-- ---- attributes

-- The word that makes a segment executable.
abbrev pub execute_tokens : Attrs → List Lexeme
execute_tokens a = if a.exec then keyword (kw.Attribute pairs.Read a.read) ∷ [] else []

-- A word of each pair.
abbrev pub attribute_tokens : Attrs → List Lexeme
attribute_tokens a =
    execute_tokens a
    ++ keyword (kw.Attribute pairs.Write a.write)
    ∷ keyword (kw.Attribute pairs.Shared a.shared)
    ∷ keyword (kw.Attribute pairs.Preload a.preload)
    ∷ keyword (kw.Attribute pairs.Conforming a.conforming)
    ∷ keyword (kw.Attribute pairs.Iopl a.iopl)
    ∷ []

-- ---- items

abbrev pub class_tokens : Option (List ℕ) → List Lexeme
class_tokens None = []
class_tokens (Some class) = keyword kw.Class ∷ text class ∷ []

abbrev pub segment_tokens : SegAttrs → List Lexeme
segment_tokens s = text s.name ∷ (class_tokens s.class ++ attribute_tokens s.attrs)

abbrev pub ordinal_tokens : Option ℕ → List Lexeme
ordinal_tokens None = []
ordinal_tokens (Some n) = at ∷ number (Some n) ∷ []

-- A word that stands where something holds.
abbrev pub flag_tokens : Bool → Keyword → List Lexeme
flag_tokens holds k = if holds then keyword k ∷ [] else []

-- No parameter words are written as no number.
abbrev pub words_tokens : ℕ → List Lexeme
words_tokens words = if words == 0 then [] else number (Some words) ∷ []

abbrev pub export_tokens : Exp → List Lexeme
export_tokens e =
    text e.name ∷ equals ∷ text e.internal ∷ []
    ++ ordinal_tokens e.ordinal
    ++ flag_tokens e.resident kw.ResidentName
    ++ flag_tokens e.nodata kw.NoData
    ++ words_tokens e.words

abbrev pub entry_token : EntryKey → Lexeme
entry_token (Ordinal n) = number (Some n)
entry_token (Named name) = text name

abbrev pub import_tokens : Imp → List Lexeme
import_tokens i = text i.name ∷ equals ∷ text i.module ∷ dot ∷ entry_token i.entry ∷ []

-- ---- the file

-- A line that begins with a keyword.
abbrev pub statement_text : Keyword → List Lexeme → List ℕ
statement_text k tokens = line_text (keyword k ∷ tokens)

abbrev pub base_text : Option ℕ → List ℕ
base_text None = []
base_text (Some base) = statement_text kw.Base (equals ∷ number (Some base) ∷ [])

-- An item stands after a space.
abbrev pub item_text : List Lexeme → List ℕ
item_text tokens = 32 ∷ line_text tokens

abbrev pub items_text : List (List Lexeme) → List ℕ
items_text items = flat_map item_text items

abbrev pub kind_text : DefFile → List ℕ
kind_text d = line_text (kind_tokens d.kind d.name d.init_each d.term_each)

-- What is written.
unfoldable pub text_of : DefFile → List ℕ
text_of d =
    kind_text d
    ++ statement_text kw.Description (text d.about ∷ [])
    ++ statement_text kw.Code (attribute_tokens d.code)
    ++ statement_text kw.Data (attribute_tokens d.plain)
    ++ statement_text kw.Segments []
    ++ items_text (map segment_tokens d.segs)
    ++ statement_text kw.Exports []
    ++ items_text (map export_tokens d.exports)
    ++ statement_text kw.Imports []
    ++ items_text (map import_tokens d.imports)
    ++ statement_text kw.StackSize (number (Some d.stack) ∷ [])
    ++ statement_text kw.HeapSize (number (Some d.heap) ∷ [])
    ++ base_text d.base
