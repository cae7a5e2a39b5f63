-- Which statements are allowed: lengths of names and texts, ranges of numbers, pairs of words, and what stands once.
use Rattle.std.specs.Prelude.{◌≡◌, ◌≢◌, ℕ, ◌≤◌, ◌==◌, Bool, true, false, not, ◌&&◌, List, [], ◌∷◌, Option, Some, None, length, IfSome}
use Rattle.std.specs.List.{list_any, AllByRecursion}
use Rattle.std.specs.Option.{option_map_or}
use Rattle.obj_types.specs.declared.limits.TheConstants.{MAX_DATA}
use Rattle.obj_types.specs.Definition.{IsBase, IsOrdinal}
use Rattle.def_model.specs.declared.keyword.Keyword.{Keyword}
use Rattle.def_model.specs.declared.keyword.Keyword.TheVariants as kw
use Rattle.def_model.specs.declared.keyword.Pair.{Pair}
use Rattle.def_model.specs.declared.keyword.Pair.TheVariants as pairs
use Rattle.def_grammar.specs.Statements.{Written, identifier, quoted, AttributeWord, sets, CallWord, initial, terminal, Segment, Export, Import, named, numbered, Statement, program, library, description, code, plain, segments, exports, imports, stack_size, heap_size, base, protected, exe_type, head}

-- ---- names and texts

abbrev pub bytes_of : Written → List ℕ
bytes_of (identifier bytes) = bytes
bytes_of (quoted bytes) = bytes

-- A text has at most 255 bytes, and a name some besides.
abbrev pub IsText : List ℕ → Type 0
IsText bytes = length bytes ≤ 255

pub record IsName (name : Written) : Type 0 where
  pub some : bytes_of name ≢ []
  pub short : IsText (bytes_of name)

-- ---- words

abbrev pub pair_number : Pair → ℕ
pair_number pairs.Write = 0
pair_number pairs.Read = 1
pair_number pairs.Shared = 2
pair_number pairs.Preload = 3
pair_number pairs.Conforming = 4
pair_number pairs.Iopl = 5

abbrev pub same_pair : Pair → Pair → Bool
same_pair p q = pair_number p == pair_number q

-- The second is the other word of the first one's pair.
abbrev pub other_attribute : AttributeWord → AttributeWord → Bool
other_attribute (sets p true) (sets q on) = same_pair q p && not on
other_attribute (sets p false) (sets q on) = same_pair q p && on
other_attribute _ _ = false

abbrev pub other_call : CallWord → CallWord → Bool
other_call (initial true) (initial each) = not each
other_call (initial false) (initial each) = each
other_call (terminal true) (terminal each) = not each
other_call (terminal false) (terminal each) = each
other_call _ _ = false

-- Both words of a pair do not stand in one list.
abbrev pub AttributesAgree : List AttributeWord → Type 0
AttributesAgree [] = Unit {0}
AttributesAgree (w ∷ before) = (list_any (other_attribute w) before ≡ false) × AttributesAgree before

abbrev pub CallsAgree : List CallWord → Type 0
CallsAgree [] = Unit {0}
CallsAgree (w ∷ before) = (list_any (other_call w) before ≡ false) × CallsAgree before

-- ---- items

pub record IsSegment (s : Segment) : Type 0 where
  pub name : IsName s.name
  pub class : IfSome s.class IsText
  pub words : AttributesAgree s.words

pub record IsExport (e : Export) : Type 0 where
  pub name : IsName e.name
  pub internal : IfSome e.internal IsName
  pub ordinal : IfSome e.ordinal IsOrdinal
  pub words : IfSome e.words (λ n. n ≤ 31)

abbrev pub IsImport : Import → Type 0
IsImport (named internal from entry) = IfSome internal IsName × IsName from × IsName entry
IsImport (numbered internal from ordinal) = IsName internal × IsName from × IsOrdinal ordinal

-- ---- statements

abbrev pub IsStatement : Statement → Type 0
IsStatement (program name window) = IfSome name IsName
IsStatement (library name calls) = IfSome name IsName × CallsAgree calls
IsStatement (description about) = IsText about
IsStatement (code words) = AttributesAgree words
IsStatement (plain words) = AttributesAgree words
IsStatement (segments items) = AllByRecursion IsSegment items
IsStatement (exports items) = AllByRecursion IsExport items
IsStatement (imports items) = AllByRecursion IsImport items
IsStatement (stack_size n) = n ≤ MAX_DATA
IsStatement (heap_size n) = n ≤ 4294967295
IsStatement (base n) = IsBase n
IsStatement protected = Unit {0}
IsStatement (exe_type name) = IsName name

-- The statements that stand once at most, by a number for those that count as one: NAME and LIBRARY do.
abbrev pub single : Keyword → Option ℕ
single kw.Name = Some 1
single kw.Library = Some 1
single kw.Description = Some 2
single kw.Code = Some 3
single kw.Data = Some 4
single kw.StackSize = Some 5
single kw.HeapSize = Some 6
single kw.Base = Some 7
single _ = None

-- The statement counts as one with those of this number.
abbrev pub counts_as : Option ℕ → Statement → Bool
counts_as None s = false
counts_as (Some n) s = option_map_or (λ m. m == n) (single (head s)) false

-- Some statement counts as one with those that begin with the keyword.
abbrev pub stands : Keyword → List Statement → Bool
stands k statements = list_any (counts_as (single k)) statements

-- Each is allowed, and none stands twice that may stand once.
abbrev pub AreStatements : List Statement → Type 0
AreStatements [] = Unit {0}
AreStatements (s ∷ before) = IsStatement s × (stands (head s) before ≡ false) × AreStatements before
