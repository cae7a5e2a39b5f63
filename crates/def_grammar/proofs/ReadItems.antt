-- Words of attributes, items of SEGMENTS and items of IMPORTS are read.
use Rattle.std.proofs.Common.{◌≡◌, ℕ, List, [], ◌∷◌, ◌++◌, refl, ◌∙◌, true}
use Rattle.std.specs.Prelude.{Option, Some, None}
use Rattle.std.specs.List.{list_any, AllByRecursion}
use Rattle.def_model.specs.declared.keyword.Keyword.TheVariants as kw
use Rattle.def_model.specs.Lexemes.{Lexeme, number, equals, dot, text, word, keyword}
use Rattle.def_tokens.proofs.TokenLaws.{if-second}
use Rattle.lx_types.specs.Answers.{◌>>=◌}
use Rattle.def_model.specs.declared.draft.Draft.{Draft}
use Rattle.def_model.specs.declared.draft.Words.{Words}
use Rattle.def_model.specs.declared.draft.Owner.{Owner}
use Rattle.def_model.specs.declared.draft.Owner.TheVariants as owners
use Rattle.def_model.specs.declared.draft.Place.TheVariants as place
use Rattle.def_model.specs.declared.draft.Reading.{Reading}
use Rattle.def_model.specs.Draft.{no_words}
use Rattle.def_model.specs.Reading.{step, token_at}
use Rattle.def_model.specs.Segments as reader
use Rattle.def_model.specs.Imports as imports_reader
use Rattle.def_file.proofs.SaysLaws.{says, name-is, text-is, within-is, goes-on}
use Rattle.def_grammar.specs.Statements.{Written, identifier, quoted, name_token, AttributeWord, sets, idle, attribute_token, attributes_then, Segment, segment_then, segments_then, Import, named, numbered, import_then, imports_then}
use Rattle.def_grammar.specs.Rules.{IsName, bytes_of, other_attribute, AttributesAgree, IsSegment, IsImport}
use Rattle.def_grammar.specs.Sayings.{words_of, segment_of, segments_of, import_of, imports_of}
use Rattle.def_grammar.proofs.Answered.{bound}
use Rattle.def_grammar.proofs.WordLaws.{word_taken}
use Rattle.def_grammar.proofs.After.{answer_at, answered, follows, no_attribute, no_class}

abbrev pub in_list : Draft → Owner → Words → Reading
in_list d list words = record { draft = d; place = place.Attributes list words }

-- ---- words

word_read : (d : Draft) (list : Owner) (w : AttributeWord) (before : List AttributeWord) (rest : List Lexeme) → AttributesAgree (w ∷ before)
    → says (in_list d list (words_of before)) (attribute_token w ∷ rest) ≡ says (in_list d list (words_of (w ∷ before))) rest
unfolding step token_at reader.attributes
word_read d list idle before rest h = refl
word_read d list (sets p on) before rest h =
    goes-on _ (words_of (sets p on ∷ before)) _ _ (word_taken before p on h.1 ∙ if-second (list_any (other_attribute (sets p on)) before) _ _ h.0)

pub words_read : (d : Draft) (list : Owner) (words : List AttributeWord) (rest : List Lexeme) → AttributesAgree words
    → says (in_list d list no_words) (attributes_then words rest) ≡ says (in_list d list (words_of words)) rest
words_read d list [] rest h = refl
words_read d list (w ∷ before) rest h = words_read d list before (attribute_token w ∷ rest) h.1 ∙ word_read d list w before rest h

-- ---- items of SEGMENTS

abbrev pub with_segments : Draft → List Segment → Draft
with_segments d items = record d { segs = segments_of items d.segs }

-- Whatever may follow is judged as after these items.
abbrev pub AfterSegments : Draft → Reading → Type 0
AfterSegments d r = (t : Lexeme) → follows t ≡ true → answer_at r t ≡ reader.segments d t

pub record SegmentsRead (d : Draft) (items : List Segment) : Type 0 where
  pub reading : Reading
  pub after : AfterSegments (with_segments d items) reading
  pub reads : (rest : List Lexeme) → says (record { draft = d; place = place.Segments }) (segments_then items rest) ≡ says reading rest

-- A name where an item may begin.
name_begins : (d : Draft) (r : Reading) (name : Written) (ts : List Lexeme) → AfterSegments d r → IsName name
    → says r (name_token name ∷ ts) ≡ says (record { draft = d; place = place.Segment (bytes_of name) }) ts
unfolding reader.segments
name_begins d r (identifier bytes) ts after h =
    answered r (word bytes) ts _ refl (after (word bytes) refl ∙ bound _ bytes _ (name-is bytes h.some h.short))
name_begins d r (quoted bytes) ts after h =
    answered r (text bytes) ts _ refl (after (text bytes) refl ∙ bound _ bytes _ (name-is bytes h.some h.short))

-- The first word after a name.
first_word : (d : Draft) (name : List ℕ) (words : List AttributeWord) (w : AttributeWord) (rest : List Lexeme)
    → says (record { draft = d; place = place.Segment name }) (attributes_then words (attribute_token w ∷ rest))
    ≡ says (in_list d (owners.Segment name None) no_words) (attributes_then words (attribute_token w ∷ rest))
unfolding step token_at reader.segment
first_word d name [] idle rest = refl
first_word d name [] (sets p on) rest = refl
first_word d name (v ∷ words) w rest = first_word d name words v (attribute_token w ∷ rest)

-- After a list of an item.
after_words : (d : Draft) (name : List ℕ) (class : Option (List ℕ)) (words : Words) (t : Lexeme) → follows t ≡ true
    → answer_at (in_list d (owners.Segment name class) words) t ≡ reader.segments (record d { segs = d.segs ++ record { name = name; class = class; words = words } ∷ [] }) t
unfolding token_at reader.attributes reader.after_list
after_words d name class words t h = no_attribute d (owners.Segment name class) t words h

-- After a name alone.
after_name : (d : Draft) (name : List ℕ) (t : Lexeme) → follows t ≡ true
    → answer_at (record { draft = d; place = place.Segment name }) t ≡ reader.segments (record d { segs = d.segs ++ record { name = name; class = None; words = no_words } ∷ [] }) t
unfolding token_at reader.segment reader.attributes reader.after_list
after_name d name t h = no_class d name t h ∙ no_attribute d (owners.Segment name None) t no_words h

-- One item more, after readings of those before it.
one_segment : (d : Draft) (r : Reading) (name : Written) (class : Option (List ℕ)) (words : List AttributeWord) → AfterSegments d r
    → IsSegment (record { name = name; class = class; words = words })
    → (q : Reading) × AfterSegments (record d { segs = d.segs ++ segment_of (record { name = name; class = class; words = words }) ∷ [] }) q
    × ((rest : List Lexeme) → says r (segment_then (record { name = name; class = class; words = words }) rest) ≡ says q rest)
unfolding step token_at reader.segment reader.class
one_segment d r name None [] after h =
    (record { draft = d; place = place.Segment (bytes_of name) }, after_name d (bytes_of name), λ rest. name_begins d r name rest after h.name)
one_segment d r name None (w ∷ words) after h = (
  in_list d (owners.Segment (bytes_of name) None) (words_of (w ∷ words)),
  after_words d (bytes_of name) None (words_of (w ∷ words)),
  λ rest. name_begins d r name (attributes_then (w ∷ words) rest) after h.name
      ∙ (first_word d (bytes_of name) words w rest
      ∙ words_read d (owners.Segment (bytes_of name) None) (w ∷ words) rest h.words),
)
one_segment d r name (Some class) words after h = (
  in_list d (owners.Segment (bytes_of name) (Some class)) (words_of words),
  after_words d (bytes_of name) (Some class) (words_of words),
  λ rest. name_begins d r name (keyword kw.Class ∷ text class ∷ attributes_then words rest) after h.name
      ∙ (goes-on _ class _ _ (text-is class h.class)
      ∙ words_read d (owners.Segment (bytes_of name) (Some class)) words rest h.words),
)

pub segments_read : (d : Draft) (items : List Segment) → AllByRecursion IsSegment items → SegmentsRead d items
unfolding token_at
segments_read d [] h = record { reading = record { draft = d; place = place.Segments }; after = λ t f. refl; reads = λ rest. refl }
segments_read d (s ∷ before) h =
    let earlier = segments_read d before h.1 in
    let found = one_segment (with_segments d before) earlier.reading s.name s.class s.words earlier.after h.0 in
    record { reading = found.0; after = found.1; reads = λ rest. earlier.reads (segment_then s rest) ∙ found.2 rest }

-- ---- items of IMPORTS

abbrev pub with_imports : Draft → List Import → Draft
with_imports d items = record d { imports = imports_of items d.imports }

abbrev pub in_imports : Draft → Reading
in_imports d = record { draft = d; place = place.Imports }

entry_read : (d : Draft) (internal : Option (List ℕ)) (from : List ℕ) (entry : Written) (rest : List Lexeme) → IsName entry
    → says (record { draft = d; place = place.ImportDot internal from }) (name_token entry ∷ rest)
    ≡ (imports_reader.import_named d internal from (bytes_of entry) >>= (λ next. says next rest))
unfolding step token_at imports_reader.import_dot
entry_read d internal from (identifier bytes) rest h = goes-on _ bytes _ _ (name-is bytes h.some h.short)
entry_read d internal from (quoted bytes) rest h = goes-on _ bytes _ _ (name-is bytes h.some h.short)

first_read : (d : Draft) (name : Written) (rest : List Lexeme) → IsName name
    → says (in_imports d) (name_token name ∷ rest) ≡ says (record { draft = d; place = place.Import (bytes_of name) }) rest
unfolding step token_at imports_reader.imports
first_read d (identifier bytes) rest h = goes-on _ bytes _ _ (name-is bytes h.some h.short)
first_read d (quoted bytes) rest h = goes-on _ bytes _ _ (name-is bytes h.some h.short)

from_read : (d : Draft) (internal : List ℕ) (from : Written) (rest : List Lexeme) → IsName from
    → says (record { draft = d; place = place.ImportEquals internal }) (name_token from ∷ dot ∷ rest)
    ≡ says (record { draft = d; place = place.ImportDot (Some internal) (bytes_of from) }) rest
unfolding step token_at imports_reader.import_equals imports_reader.import_module
from_read d internal (identifier bytes) rest h = goes-on _ bytes _ _ (name-is bytes h.some h.short)
from_read d internal (quoted bytes) rest h = goes-on _ bytes _ _ (name-is bytes h.some h.short)

equated_read : (d : Draft) (internal from : Written) (rest : List Lexeme) → IsName internal → IsName from
    → says (in_imports d) (name_token internal ∷ equals ∷ name_token from ∷ dot ∷ rest)
    ≡ says (record { draft = d; place = place.ImportDot (Some (bytes_of internal)) (bytes_of from) }) rest
unfolding step token_at imports_reader.import_first
equated_read d internal from rest h k = first_read d internal (equals ∷ name_token from ∷ dot ∷ rest) h ∙ from_read d (bytes_of internal) from rest k

import_read : (d : Draft) (i : Import) (rest : List Lexeme) → IsImport i
    → says (in_imports d) (import_then i rest) ≡ says (in_imports (record d { imports = d.imports ++ import_of i ∷ [] })) rest
unfolding step token_at imports_reader.import_first imports_reader.import_dot
import_read d (named None from entry) rest h =
    first_read d from (dot ∷ name_token entry ∷ rest) h.1 ∙ entry_read d None (bytes_of from) entry rest h.2
import_read d (named (Some internal) from entry) rest h =
    equated_read d internal from (name_token entry ∷ rest) h.0 h.1 ∙ entry_read d (Some (bytes_of internal)) (bytes_of from) entry rest h.2
import_read d (numbered internal from ordinal) rest h =
    let range = h.2 in
    equated_read d internal from (number (Some ordinal) ∷ rest) h.0 h.1
    ∙ goes-on _ ordinal _ _ (within-is 1 65535 ordinal range.0 range.1)

pub imports_read : (d : Draft) (items : List Import) (rest : List Lexeme) → AllByRecursion IsImport items
    → says (in_imports d) (imports_then items rest) ≡ says (in_imports (with_imports d items)) rest
imports_read d [] rest h = refl
imports_read d (i ∷ before) rest h =
    imports_read d before (import_then i rest) h.1 ∙ import_read (with_imports d before) i rest h.0
