-- The reserved words, which are known in any case.
use Rattle.std.specs.Prelude.{ℕ, Bool, true, false, List, [], ◌∷◌, map, Option, Some, None, option_map, bytes_eq, codes}
use Rattle.std.specs.List.{find}
use Rattle.std.specs.Char.{to_ascii_lowercase}
use Rattle.def_model.specs.declared.keyword.Keyword.{Keyword}
use Rattle.def_model.specs.declared.keyword.Keyword.TheVariants as kw
use Rattle.def_model.specs.declared.keyword.Pair.TheVariants as pairs

-- The words differ in the case of letters at most.
abbrev pub same_letters : List ℕ → List ℕ → Bool
same_letters a b = bytes_eq (map to_ascii_lowercase a) (map to_ascii_lowercase b)

-- The words that begin statements which are read.
abbrev pub statement_words : List (List ℕ × Keyword)
statement_words =
    (codes "NAME", kw.Name) ∷
    (codes "LIBRARY", kw.Library) ∷
    (codes "DESCRIPTION", kw.Description) ∷
    (codes "CODE", kw.Code) ∷
    (codes "DATA", kw.Data) ∷
    (codes "SEGMENTS", kw.Segments) ∷
    (codes "EXPORTS", kw.Exports) ∷
    (codes "IMPORTS", kw.Imports) ∷
    (codes "STACKSIZE", kw.StackSize) ∷
    (codes "HEAPSIZE", kw.HeapSize) ∷
    (codes "BASE", kw.Base) ∷
    (codes "PROTMODE", kw.ProtMode) ∷
    (codes "EXETYPE", kw.ExeType) ∷
    []

-- The words that begin statements which are not read, and those of NAME, LIBRARY, SEGMENTS and EXPORTS.
abbrev pub other_words : List (List ℕ × Keyword)
other_words =
    (codes "STUB", kw.Unread) ∷
    (codes "OLD", kw.Unread) ∷
    (codes "VIRTUAL", kw.Unread) ∷
    (codes "PHYSICAL", kw.Unread) ∷
    (codes "WINDOWAPI", kw.Window) ∷
    (codes "WINDOWCOMPAT", kw.Window) ∷
    (codes "NOTWINDOWCOMPAT", kw.Window) ∷
    (codes "INITGLOBAL", kw.Init false) ∷
    (codes "INITINSTANCE", kw.Init true) ∷
    (codes "TERMGLOBAL", kw.Term false) ∷
    (codes "TERMINSTANCE", kw.Term true) ∷
    (codes "CLASS", kw.Class) ∷
    (codes "RESIDENTNAME", kw.ResidentName) ∷
    (codes "NODATA", kw.NoData) ∷
    []

-- The words of pairs of attributes: SINGLE counts as SHARED, and MULTIPLE as NONSHARED.
abbrev pub attribute_words : List (List ℕ × Keyword)
attribute_words =
    (codes "READWRITE", kw.Attribute pairs.Write true) ∷
    (codes "READONLY", kw.Attribute pairs.Write false) ∷
    (codes "EXECUTEREAD", kw.Attribute pairs.Read true) ∷
    (codes "EXECUTEONLY", kw.Attribute pairs.Read false) ∷
    (codes "SHARED", kw.Attribute pairs.Shared true) ∷
    (codes "SINGLE", kw.Attribute pairs.Shared true) ∷
    (codes "NONSHARED", kw.Attribute pairs.Shared false) ∷
    (codes "MULTIPLE", kw.Attribute pairs.Shared false) ∷
    (codes "PRELOAD", kw.Attribute pairs.Preload true) ∷
    (codes "LOADONCALL", kw.Attribute pairs.Preload false) ∷
    (codes "CONFORMING", kw.Attribute pairs.Conforming true) ∷
    (codes "NONCONFORMING", kw.Attribute pairs.Conforming false) ∷
    (codes "IOPL", kw.Attribute pairs.Iopl true) ∷
    (codes "NOIOPL", kw.Attribute pairs.Iopl false) ∷
    []

-- The words among attributes that change none.
abbrev pub idle_words : List (List ℕ × Keyword)
idle_words =
    (codes "NONE", kw.NoEffect) ∷
    (codes "DISCARDABLE", kw.NoEffect) ∷
    (codes "NONDISCARDABLE", kw.NoEffect) ∷
    (codes "SWAPPABLE", kw.NoEffect) ∷
    (codes "FIXED", kw.NoEffect) ∷
    (codes "MOVEABLE", kw.NoEffect) ∷
    []

-- The keyword of the entry with these letters.
abbrev pub keyword_among : List (List ℕ × Keyword) → List ℕ → Option Keyword
keyword_among entries word = option_map (λ entry. entry.1) (find (λ entry. same_letters entry.0 word) entries)

abbrev pub first_of : Option Keyword → Option Keyword → Option Keyword
first_of (Some keyword) other = Some keyword
first_of None other = other

-- The keyword that is written so.
abbrev pub keyword_of : List ℕ → Option Keyword
keyword_of word =
    first_of (keyword_among statement_words word) (first_of (keyword_among other_words word)
    (first_of (keyword_among attribute_words word) (keyword_among idle_words word)))
