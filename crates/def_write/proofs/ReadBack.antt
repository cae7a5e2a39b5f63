-- What is written for a value is read as the value.
use Rattle.std.proofs.Common.{◌≡◌, ℕ, ◌≤◌, ◌<◌, ◌^◌, List, [], ◌∷◌, ◌++◌, map, refl, ap, sym, ◌∙◌, append_assoc, append-nil, arith, Bool, true, false, cond, Ok, Option, Some, None}
use Rattle.std.specs.Prelude.{IfSome, ◌==◌}
use Rattle.std.specs.List.{All}
use Rattle.std.proofs.lemmas.List.Elements.{All-nil, All-cons, All-append, All-map, All-head, All-tail}
use Rattle.lx_types.specs.declared.entry.EntryKey.{EntryKey}
use Rattle.lx_types.specs.declared.entry.EntryKey.TheVariants.{Ordinal, Named}
use Rattle.lx_types.specs.Names.{IsName}
use Rattle.obj_types.specs.Definition.{WholeDef, WholeExport, WholeImport, IsEntry, IsOrdinal, IsBase}
use Rattle.obj_types.specs.declared.definition.Attrs.{Attrs}
use Rattle.obj_types.specs.declared.definition.DefFile.{DefFile}
use Rattle.obj_types.specs.declared.definition.ModKind.{ModKind}
use Rattle.obj_types.specs.declared.definition.ModKind.TheVariants as modules
use Rattle.obj_types.specs.declared.definition.SegAttrs.{SegAttrs}
use Rattle.obj_types.specs.declared.symbol.Exp.{Exp}
use Rattle.obj_types.specs.declared.symbol.Imp.{Imp}
use Rattle.def_model.specs.declared.keyword.Keyword.{Keyword}
use Rattle.def_model.specs.declared.keyword.Keyword.TheVariants as kw
use Rattle.def_model.specs.declared.keyword.Pair.TheVariants as pairs
use Rattle.def_model.specs.Lexemes.{Lexeme, at, text, number, equals, keyword, ending}
use Rattle.def_model.specs.Tokens.{tokens_of, tokens_after}
use Rattle.def_write.specs.Spelling.{IsQuotable, Spells, line_text}
use Rattle.def_tokens.proofs.LexemeLaws.{lexemes, lexemes-space}
use Rattle.def_write.proofs.SpellingLaws.{line-read}
use Rattle.def_model.specs.declared.draft.Draft.{Draft}
use Rattle.def_model.specs.Draft.{fresh}
use Rattle.def_write.specs.Names.{EachName, SegmentNames, ExportNames, ImportNames, EntryName}
use Rattle.def_model.specs.Reading.{read_of}
use Rattle.def_file.specs.Stated.{Stated}
use Rattle.def_write.specs.Writing.{kind_tokens, attribute_tokens, class_tokens, segment_tokens, ordinal_tokens, flag_tokens, words_tokens, export_tokens, entry_token, import_tokens, statement_text, base_text, items_text, kind_text, text_of}
use Rattle.def_file.proofs.SaysLaws.{says, run-says}
use Rattle.def_write.proofs.ReadHead.{headed, kind-read, description-read, head-read}
use Rattle.def_write.proofs.ReadSegments.{joined, drafted, with_segments, segments-read}
use Rattle.def_write.proofs.ReadExports.{with_exports, exports-read}
use Rattle.def_write.proofs.ReadImports.{with_imports, imports-read, base_tokens, sizes-read}
use Rattle.def_write.proofs.FileLaws.{file-back}

-- ---- each token is read again

abbrev EachSpells : List Lexeme → Type 0
EachSpells [] = Unit {0}
EachSpells (t ∷ ts) = Spells t × EachSpells ts

spells : (ts : List Lexeme) → EachSpells ts → All Spells ts
spells [] h = All-nil Spells
spells (t ∷ ts) h = All-cons Spells t ts h.0 (spells ts h.1)

kind-spells : (kind : ModKind) (name : Option (List ℕ)) (init term : Bool) → IfSome name IsQuotable → All Spells (kind_tokens kind name init term)
kind-spells modules.Program None init term h = spells (keyword kw.Name ∷ []) (tt, tt)
kind-spells modules.Program (Some n) init term h = spells (keyword kw.Name ∷ text n ∷ []) (tt, (h, tt))
kind-spells modules.Library None init term h = spells (keyword kw.Library ∷ keyword (kw.Init init) ∷ keyword (kw.Term term) ∷ []) (tt, (tt, (tt, tt)))
kind-spells modules.Library (Some n) init term h = spells (keyword kw.Library ∷ text n ∷ keyword (kw.Init init) ∷ keyword (kw.Term term) ∷ []) (tt, (h, (tt, (tt, tt))))

execute-spells : (exec read : Bool) → All Spells (cond exec (keyword (kw.Attribute pairs.Read read) ∷ []) [])
execute-spells true read = spells (keyword (kw.Attribute pairs.Read read) ∷ []) (tt, tt)
execute-spells false read = All-nil Spells

attributes-spell : (a : Attrs) → All Spells (attribute_tokens a)
attributes-spell a =
    let others : List Lexeme =
    keyword (kw.Attribute pairs.Write a.write)
    ∷ keyword (kw.Attribute pairs.Shared a.shared)
    ∷ keyword (kw.Attribute pairs.Preload a.preload)
    ∷ keyword (kw.Attribute pairs.Conforming a.conforming)
    ∷ keyword (kw.Attribute pairs.Iopl a.iopl)
    ∷ [] in
    All-append Spells (cond a.exec (keyword (kw.Attribute pairs.Read a.read) ∷ []) []) others (execute-spells a.exec a.read) (spells others (tt, (tt, (tt, (tt, (tt, tt))))))

class-spells : (class : Option (List ℕ)) → IfSome class IsQuotable → All Spells (class_tokens class)
class-spells None h = All-nil Spells
class-spells (Some c) h = spells (keyword kw.Class ∷ text c ∷ []) (tt, (h, tt))

segment-spells : (s : SegAttrs) → SegmentNames IsQuotable s → All Spells (segment_tokens s)
segment-spells s h =
    All-cons Spells (text s.name) (class_tokens s.class ++ attribute_tokens s.attrs) h.name
    (All-append Spells (class_tokens s.class) (attribute_tokens s.attrs) (class-spells s.class h.class) (attributes-spell s.attrs))

ordinal-spells : (ordinal : Option ℕ) → IfSome ordinal IsOrdinal → All Spells (ordinal_tokens ordinal)
ordinal-spells None h = All-nil Spells
ordinal-spells (Some n) h = let small : n < 2 ^ 32 = omega (arith, h.1) in spells (at ∷ number (Some n) ∷ []) (tt, (small, tt))

flag-spells : (holds : Bool) (k : Keyword) → All Spells (flag_tokens holds k)
flag-spells true k = spells (keyword k ∷ []) (tt, tt)
flag-spells false k = All-nil Spells

words-spell : (none : Bool) (words : ℕ) → words ≤ 31 → All Spells (cond none [] (number (Some words) ∷ []))
words-spell true words h = All-nil Spells
words-spell false words h = let small : words < 2 ^ 32 = omega (arith, h) in spells (number (Some words) ∷ []) (small, tt)

export-spells : (e : Exp) → WholeExport e → ExportNames IsQuotable e → All Spells (export_tokens e)
export-spells e whole h =
    All-append Spells (text e.name ∷ equals ∷ text e.internal ∷ [] ++ ordinal_tokens e.ordinal ++ flag_tokens e.resident kw.ResidentName ++ flag_tokens e.nodata kw.NoData) (words_tokens e.words)
    (All-append Spells (text e.name ∷ equals ∷ text e.internal ∷ [] ++ ordinal_tokens e.ordinal ++ flag_tokens e.resident kw.ResidentName) (flag_tokens e.nodata kw.NoData)
    (All-append Spells (text e.name ∷ equals ∷ text e.internal ∷ [] ++ ordinal_tokens e.ordinal) (flag_tokens e.resident kw.ResidentName)
    (All-append Spells (text e.name ∷ equals ∷ text e.internal ∷ []) (ordinal_tokens e.ordinal)
    (spells (text e.name ∷ equals ∷ text e.internal ∷ []) (h.name, (tt, (h.internal, tt)))) (ordinal-spells e.ordinal whole.ordinal))
    (flag-spells e.resident kw.ResidentName)) (flag-spells e.nodata kw.NoData)) (words-spell (e.words == 0) e.words whole.words)

entry-spells : (entry : EntryKey) → IsEntry entry → EntryName IsQuotable entry → Spells (entry_token entry)
entry-spells (Ordinal n) h k = omega (arith, h.1)
entry-spells (Named name) h k = k

import-spells : (i : Imp) → WholeImport i → ImportNames IsQuotable i → All Spells (import_tokens i)
import-spells i whole h = spells (import_tokens i) (h.name, (tt, (h.module, (tt, (entry-spells i.entry whole.entry h.entry, tt)))))

base-spells : (base : ℕ) → IsBase base → All Spells (keyword kw.Base ∷ equals ∷ number (Some base) ∷ [])
base-spells base h = let small : base < 2 ^ 32 = omega (arith, h.2) in spells (keyword kw.Base ∷ equals ∷ number (Some base) ∷ []) (tt, (tt, (small, tt)))

-- ---- the tokens of what is written

items-read : (items : List (List Lexeme)) (rest : List ℕ) → All (λ ts. All Spells ts) items
    → lexemes (items_text items ++ rest) ≡ joined items ++ lexemes rest
items-read [] rest h = refl
items-read (ts ∷ items) rest h =
    lexemes-space ((line_text ts ++ items_text items) ++ rest)
    ∙ ap lexemes (append_assoc (line_text ts) (items_text items) rest)
    ∙ line-read ts (items_text items ++ rest) (All-head (λ ts. All Spells ts) ts items h)
    ∙ ap (λ us. ts ++ us) (items-read items rest (All-tail (λ ts. All Spells ts) ts items h))
    ∙ sym (append_assoc ts (joined items) (lexemes rest))

nothing-read : lexemes [] ≡ ending ∷ []
unfolding tokens_after
nothing-read = refl

base-read : (base : Option ℕ) → IfSome base IsBase → lexemes (base_text base) ≡ base_tokens base ++ ending ∷ []
base-read None h = nothing-read
base-read (Some base) h =
    let ts : List Lexeme = keyword kw.Base ∷ equals ∷ number (Some base) ∷ [] in
    ap lexemes (sym (append-nil (line_text ts))) ∙ line-read ts [] (base-spells base h) ∙ ap (λ us. ts ++ us) nothing-read

grouped : (a b c d e f g h i j k l m : List ℕ)
    → a ++ b ++ c ++ d ++ e ++ f ++ g ++ h ++ i ++ j ++ k ++ l ++ m
    ≡ a ++ (b ++ (c ++ (d ++ (e ++ (f ++ (g ++ (h ++ (i ++ (j ++ (k ++ (l ++ m)))))))))))
grouped a b c d e f g h i j k l m = simp append_assoc

-- A statement's line, and the tokens of what follows it.
line-then : (ts : List Lexeme) (rest : List ℕ) (others : List Lexeme) → All Spells ts → lexemes rest ≡ others
    → lexemes (line_text ts ++ rest) ≡ ts ++ others
line-then ts rest others h k = line-read ts rest h ∙ ap (λ us. ts ++ us) k

items-then : (items : List (List Lexeme)) (rest : List ℕ) (others : List Lexeme) → All (λ ts. All Spells ts) items → lexemes rest ≡ others
    → lexemes (items_text items ++ rest) ≡ joined items ++ others
items-then items rest others h k = items-read items rest h ∙ ap (λ us. joined items ++ us) k

abbrev size_tokens : DefFile → List Lexeme
size_tokens d =
    keyword kw.StackSize ∷ number (Some d.stack) ∷ keyword kw.HeapSize ∷ number (Some d.heap) ∷ (base_tokens d.base ++ ending ∷ [])

abbrev list_tokens : DefFile → List Lexeme
list_tokens d =
    joined (map segment_tokens d.segs)
    ++ keyword kw.Exports ∷ (joined (map export_tokens d.exports)
    ++ keyword kw.Imports ∷ (joined (map import_tokens d.imports) ++ size_tokens d))

abbrev head_tokens : DefFile → List Lexeme
head_tokens d =
    kind_tokens d.kind d.name d.init_each d.term_each
    ++ keyword kw.Description ∷ text d.about ∷ keyword kw.Code
    ∷ (attribute_tokens d.code ++ keyword kw.Data ∷ (attribute_tokens d.plain ++ keyword kw.Segments ∷ list_tokens d))

written-tokens : (d : DefFile) → WholeDef d → EachName IsQuotable d → d.heap < 2 ^ 32 → lexemes (text_of d) ≡ head_tokens d
unfolding text_of
written-tokens d whole names heap =
    let stack : d.stack < 2 ^ 32 = omega (arith, whole.stack) in
    ap lexemes
    (grouped (kind_text d) (statement_text kw.Description (text d.about ∷ [])) (statement_text kw.Code (attribute_tokens d.code))
    (statement_text kw.Data (attribute_tokens d.plain)) (statement_text kw.Segments []) (items_text (map segment_tokens d.segs))
    (statement_text kw.Exports []) (items_text (map export_tokens d.exports)) (statement_text kw.Imports [])
    (items_text (map import_tokens d.imports)) (statement_text kw.StackSize (number (Some d.stack) ∷ []))
    (statement_text kw.HeapSize (number (Some d.heap) ∷ [])) (base_text d.base))
    ∙ line-then (kind_tokens d.kind d.name d.init_each d.term_each) _ _ (kind-spells d.kind d.name d.init_each d.term_each names.name)
    (line-then (keyword kw.Description ∷ text d.about ∷ []) _ _ (spells (keyword kw.Description ∷ text d.about ∷ []) (tt, (names.about, tt)))
    (line-then (keyword kw.Code ∷ attribute_tokens d.code) _ _ (All-cons Spells (keyword kw.Code) (attribute_tokens d.code) tt (attributes-spell d.code))
    (line-then (keyword kw.Data ∷ attribute_tokens d.plain) _ _ (All-cons Spells (keyword kw.Data) (attribute_tokens d.plain) tt (attributes-spell d.plain))
    (line-then (keyword kw.Segments ∷ []) _ _ (spells (keyword kw.Segments ∷ []) (tt, tt))
    (items-then (map segment_tokens d.segs) _ _ (All-map (λ ts. All Spells ts) segment_tokens d.segs (λ k x lt. segment-spells _ (names.segs k x lt)))
    (line-then (keyword kw.Exports ∷ []) _ _ (spells (keyword kw.Exports ∷ []) (tt, tt))
    (items-then (map export_tokens d.exports) _ _ (All-map (λ ts. All Spells ts) export_tokens d.exports (λ k x lt. export-spells _ (whole.exports k x lt) (names.exports k x lt)))
    (line-then (keyword kw.Imports ∷ []) _ _ (spells (keyword kw.Imports ∷ []) (tt, tt))
    (items-then (map import_tokens d.imports) _ _ (All-map (λ ts. All Spells ts) import_tokens d.imports (λ k x lt. import-spells _ (whole.imports k x lt) (names.imports k x lt)))
    (line-then (keyword kw.StackSize ∷ number (Some d.stack) ∷ []) _ _ (spells (keyword kw.StackSize ∷ number (Some d.stack) ∷ []) (tt, (stack, tt)))
    (line-then (keyword kw.HeapSize ∷ number (Some d.heap) ∷ []) _ _ (spells (keyword kw.HeapSize ∷ number (Some d.heap) ∷ []) (tt, (heap, tt))) (base-read d.base whole.base))))))))))))

-- ---- the file

abbrev with_head : DefFile → Draft
with_head d = headed d.kind d.name d.init_each d.term_each d.about d.code d.plain

written-says : (d : DefFile) → WholeDef d → EachName IsName d → d.heap < 2 ^ 32 → Stated d → says fresh (head_tokens d) ≡ Ok d
written-says d whole short heap stated =
    kind-read d.kind d.name d.init_each d.term_each _ whole.name short.name
    ∙ description-read d.kind d.name d.init_each d.term_each d.about _ short.about
    ∙ head-read d.kind d.name d.init_each d.term_each d.about d.code d.plain (list_tokens d)
    ∙ segments-read d.segs (with_head d) [] _ whole.segs short.segs
    ∙ exports-read d.exports (with_segments (with_head d) (map drafted d.segs)) [] _ whole.exports short.exports
    ∙ imports-read d.imports (with_exports (with_segments (with_head d) (map drafted d.segs)) d.exports) [] _ whole.imports short.imports
    ∙ sizes-read d.base (with_imports (with_exports (with_segments (with_head d) (map drafted d.segs)) d.exports) d.imports) d.stack d.heap whole.stack heap whole.base
    ∙ ap Ok (file-back d stated)

pub read-back : (d : DefFile) → WholeDef d → EachName IsQuotable d → EachName IsName d → d.heap < 2 ^ 32 → Stated d → read_of (text_of d) ≡ Ok d
read-back d whole names short heap stated =
    run-says fresh (tokens_of (text_of d)) d
    (ap (λ ts. says fresh ts) (written-tokens d whole names heap) ∙ written-says d whole short heap stated)
