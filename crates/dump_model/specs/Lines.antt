-- The lines of a dump, by their words: flags and bases as eight hexadecimal digits, all other numbers in decimal.
use Rattle.std.specs.Prelude.{ℕ, Bool, true, false, List, [], ◌∷◌, ◌++◌, length, codes, decimal, Option, Some, None}
use Rattle.std.specs.Fmt.{signed_decimal}
use Rattle.lx_types.specs.Escaped.{escaped, hex_address}
use Rattle.lx_types.specs.declared.object.PageKind.TheVariants as kinds
use Rattle.lx_types.specs.declared.fix.Source.{Source}
use Rattle.lx_types.specs.declared.fix.Source.TheVariants as sources
use Rattle.lx_types.specs.declared.fix.FixTarget.{FixTarget}
use Rattle.lx_types.specs.declared.fix.FixTarget.TheVariants as targets
use Rattle.lx_types.specs.declared.fix.Fix.{Fix}
use Rattle.lx_types.specs.declared.entry.EntryHead.{EntryHead}
use Rattle.lx_types.specs.declared.entry.EntryHead.TheVariants as heads
use Rattle.lx_types.specs.declared.entry.FwdKey.{FwdKey}
use Rattle.lx_types.specs.declared.entry.FwdKey.TheVariants as keys
use Rattle.lx_types.specs.declared.object.PageKind.{PageKind}
use Rattle.session_model.specs.Text.{line_of}
use Rattle.dump_model.specs.declared.listing.ListedObject.{ListedObject}
use Rattle.dump_model.specs.declared.listing.ListedPage.{ListedPage}
use Rattle.dump_model.specs.declared.listing.Listing.{Listing}

-- a name with its escapes; the empty one has a word of its own, which stands for no other name
abbrev pub name_word : List ℕ → List ℕ
name_word [] = codes "%"
name_word (b ∷ bs) = escaped (b ∷ bs)

-- ---- the module

abbrev pub kind_word : Bool → List ℕ
kind_word true = codes "library"
kind_word false = codes "program"

abbrev pub start_words : Option (ℕ × ℕ) → List (List ℕ)
start_words None = codes "none" ∷ []
start_words (Some s) = decimal s.0 ∷ decimal s.1 ∷ []

unfoldable pub module_line : Listing → List ℕ
module_line l =
    line_of (codes "module" ∷ name_word l.name ∷ kind_word l.library ∷ codes "flags" ∷ hex_address l.flags ∷ codes "start" ∷ start_words l.start)

-- ---- object k, from 1, and its page i, from 0

unfoldable pub object_line : ℕ → ListedObject → List ℕ
object_line k o =
    line_of
    (codes "object" ∷ decimal k ∷ codes "size" ∷ decimal o.size ∷ codes "base" ∷ hex_address o.base ∷ codes "flags" ∷ hex_address o.flags
    ∷ codes "pages" ∷ decimal (length o.pages) ∷ [])

-- where the data stands, of a page that has some
abbrev pub data_words : PageKind → ℕ → ℕ → List (List ℕ)
data_words kinds.Plain at len = codes "plain" ∷ decimal at ∷ decimal len ∷ []
data_words kinds.Iterated at len = codes "iterated" ∷ decimal at ∷ decimal len ∷ []
data_words kinds.Invalid at len = codes "invalid" ∷ []
data_words kinds.Zero at len = codes "zero" ∷ []

unfoldable pub page_line : ℕ → ℕ → ListedPage → List ℕ
page_line k i p = line_of (codes "page" ∷ decimal k ∷ decimal i ∷ data_words p.kind p.at p.len)

-- ---- a fixup of that page

abbrev pub source_word : Source → List ℕ
source_word sources.Byte = codes "byte"
source_word sources.Sel = codes "sel"
source_word sources.Far16 = codes "far16"
source_word sources.Off16 = codes "off16"
source_word sources.Far32 = codes "far32"
source_word sources.Off32 = codes "off32"
source_word sources.Self32 = codes "self32"

abbrev pub alias_words : Bool → List (List ℕ)
alias_words true = codes "alias" ∷ []
alias_words false = []

abbrev pub target_words : FixTarget → List (List ℕ)
target_words (targets.Internal object offset) = codes "internal" ∷ decimal object ∷ decimal offset ∷ []
target_words (targets.Ordinal import ordinal) = codes "ordinal" ∷ decimal import ∷ decimal ordinal ∷ []
target_words (targets.Named import name_at) = codes "name" ∷ decimal import ∷ decimal name_at ∷ []
target_words (targets.Own ordinal) = codes "own" ∷ decimal ordinal ∷ []

-- an offset may have a minus sign
unfoldable pub fix_line : ℕ → ℕ → Fix → List ℕ
fix_line k i f =
    line_of
    (codes "fix" ∷ decimal k ∷ decimal i ∷ signed_decimal f.offset ∷ source_word f.source
    ∷ (alias_words f.alias ++ (target_words f.target ++ codes "add" ∷ decimal f.additive ∷ [])))

-- ---- import module k, from 1, an entry, and a name

unfoldable pub import_line : ℕ → List ℕ → List ℕ
import_line k name = line_of (codes "import" ∷ decimal k ∷ name_word name ∷ [])

abbrev pub key_words : FwdKey → List (List ℕ)
key_words (keys.Ordinal n) = codes "ordinal" ∷ decimal n ∷ []
key_words (keys.NameAt at) = codes "name" ∷ decimal at ∷ []

abbrev pub head_words : EntryHead → List (List ℕ)
head_words (heads.At object offset) = codes "at" ∷ decimal object ∷ decimal offset ∷ []
head_words (heads.Gate286 object offset) = codes "gate" ∷ decimal object ∷ decimal offset ∷ []
head_words (heads.Forward import key) = codes "forward" ∷ decimal import ∷ key_words key

unfoldable pub entry_line : ℕ × EntryHead → List ℕ
entry_line e = line_of (codes "entry" ∷ decimal e.0 ∷ head_words e.1)

unfoldable pub name_line : List ℕ × ℕ → List ℕ
name_line n = line_of (codes "name" ∷ name_word n.0 ∷ decimal n.1 ∷ [])

abbrev pub end_line : List ℕ
end_line = line_of (codes "end" ∷ [])
