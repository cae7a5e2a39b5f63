-- One token more among items.
use Rattle.std.proofs.Common.{◌≡◌, ◌≢◌, ℕ, List, [], ◌∷◌, Ok, refl, ap, sym, subst, Bool, true, false}
use Rattle.std.specs.Prelude.{Option, Some, None, IfSome}
use Rattle.std.specs.Option.{option_map}
use Rattle.std.specs.List.{list_any}
use Rattle.obj_types.specs.Definition.{IsOrdinal}
use Rattle.def_model.specs.declared.keyword.Keyword.TheVariants as kw
use Rattle.def_model.specs.Lexemes.{Lexeme, number, equals, at, dot, text, word, keyword}
use Rattle.def_model.specs.declared.refusal.DefKind.TheVariants as kinds
use Rattle.def_model.specs.declared.draft.Owner.TheVariants as owners
use Rattle.def_model.specs.declared.draft.Part.{Part}
use Rattle.def_model.specs.declared.draft.Part.TheVariants as parts
use Rattle.def_model.specs.declared.draft.Reading.{Reading}
use Rattle.def_model.specs.Segments as segments_reader
use Rattle.def_model.specs.Exports as exports_reader
use Rattle.def_model.specs.Imports as imports_reader
use Rattle.def_grammar.specs.Statements.{Written, identifier, quoted, name_token, AttributeWord, sets, idle, Segment, Export, Import, named, numbered, Statement, segments, exports, imports, statements_then}
use Rattle.def_grammar.specs.Rules.{IsName, IsText, bytes_of, other_attribute, AreStatements}
use Rattle.def_grammar.specs.Sayings.{words_of, export_of, said}
use Rattle.def_grammar.proofs.Answered.{good_is, not_good, taken_unless, text_said, name_said, number_given}
use Rattle.def_grammar.proofs.WordLaws.{none_other, word_taken}
use Rattle.def_grammar.proofs.States.{part_of, at_segment, at_class, in_words, in_exports, at_export, at_internal, at_ordinal, in_imports, at_import, at_equals, at_from, at_dot, tokens_then, Lacks, Next, goes}
use Rattle.def_grammar.proofs.Falls.{falls}

-- A name as it was taken.
abbrev pub is_name : (name : Written) → (bytes_of name ≢ []) × IsText (bytes_of name) → IsName name
is_name name h = record { some = h.0; short = h.1 }

-- ---- items of SEGMENTS

pub next_segments : (ss : List Statement) (items : List Segment) → AreStatements (segments items ∷ ss) → (t : Lexeme) (r : Reading)
    → segments_reader.segments (said (segments items ∷ ss)) t ≡ Ok r → Next (statements_then (segments items ∷ ss)) t r
unfolding segments_reader.segments
next_segments ss items fine (word bytes) r h =
    let n = name_said bytes _ r h in goes (at_segment ss items (identifier bytes)) (fine, is_name (identifier bytes) n.fits) (λ rest. refl) (good_is _ r n.goes) refl
next_segments ss items fine (text bytes) r h =
    let n = name_said bytes _ r h in goes (at_segment ss items (quoted bytes)) (fine, is_name (quoted bytes) n.fits) (λ rest. refl) (good_is _ r n.goes) refl
next_segments ss items fine t r h = falls (segments items ∷ ss) fine t r h

abbrev pub with_words : Segment → List AttributeWord → Segment
with_words item words = record { name = item.name; class = item.class; words = words }

pub next_words : (ss : List Statement) (items : List Segment) (item : Segment) → AreStatements (segments (item ∷ items) ∷ ss) → (t : Lexeme) (r : Reading)
    → segments_reader.attributes (said (segments items ∷ ss)) (owners.Segment (bytes_of item.name) item.class) (words_of item.words) t ≡ Ok r
    → Next (statements_then (segments (item ∷ items) ∷ ss)) t r
unfolding segments_reader.attributes segments_reader.after_list
next_words ss items item fine (keyword (kw.Attribute pair on)) r h =
    let all = fine.0 in
    let own = all.0 in
    let taken = taken_unless _ (list_any (other_attribute (sets pair on)) item.words) kinds.Conflict (words_of (sets pair on ∷ item.words)) _ r (word_taken item.words pair on own.words) h in
    goes (in_words ss items (with_words item (sets pair on ∷ item.words)))
    ((record { name = own.name; class = own.class; words = (taken.fits, own.words) }, all.1), fine.1, fine.2)
    (λ rest. refl) (good_is _ r taken.goes) refl
next_words ss items item fine (keyword kw.NoEffect) r h =
    let all = fine.0 in
    let own = all.0 in
    goes (in_words ss items (with_words item (idle ∷ item.words)))
    ((record { name = own.name; class = own.class; words = (none_other item.words, own.words) }, all.1), fine.1, fine.2)
    (λ rest. refl) (good_is _ r h) refl
next_words ss items item fine t r h = next_segments ss (item ∷ items) fine t r h

abbrev pub plain_item : Written → Option (List ℕ) → Segment
plain_item name class = record { name = name; class = class; words = [] }

pub next_segment : (ss : List Statement) (items : List Segment) (name : Written) → AreStatements (segments items ∷ ss) → IsName name → (t : Lexeme) (r : Reading)
    → segments_reader.segment (said (segments items ∷ ss)) (bytes_of name) t ≡ Ok r
    → Next (tokens_then (at_segment ss items name)) t r
unfolding segments_reader.segment
next_segment ss items name fine called_so (keyword kw.Class) r h = goes (at_class ss items name) (fine, called_so) (λ rest. refl) (good_is _ r h) refl
next_segment ss items name fine called_so t r h =
    next_words ss items (plain_item name None) ((record { name = called_so; class = tt; words = tt }, fine.0), fine.1, fine.2) t r h

pub next_class : (ss : List Statement) (items : List Segment) (name : Written) → AreStatements (segments items ∷ ss) → IsName name → (t : Lexeme) (r : Reading)
    → segments_reader.class (said (segments items ∷ ss)) (bytes_of name) t ≡ Ok r
    → Next (tokens_then (at_class ss items name)) t r
unfolding segments_reader.class
next_class ss items name fine called_so (text bytes) r h =
    let n = text_said bytes _ r h in
    goes (in_words ss items (plain_item name (Some bytes))) ((record { name = called_so; class = n.fits; words = tt }, fine.0), fine.1, fine.2)
    (λ rest. refl) (good_is _ r n.goes) refl
next_class ss items name fine called_so t r h = absurd (not_good kinds.Expected r h)

-- ---- items of EXPORTS

pub next_exports : (ss : List Statement) (items : List Export) → AreStatements (exports items ∷ ss) → (t : Lexeme) (r : Reading)
    → exports_reader.exports (said (exports items ∷ ss)) t ≡ Ok r → Next (statements_then (exports items ∷ ss)) t r
unfolding exports_reader.exports
next_exports ss items fine (word bytes) r h =
    let n = name_said bytes _ r h in
    let is = is_name (identifier bytes) n.fits in
    goes (at_export ss items (part_of (identifier bytes) None None false false) parts.Name)
    (((record { name = is; internal = tt; ordinal = tt; words = tt }, fine.0), fine.1, fine.2), refl) (λ rest. refl) (good_is _ r n.goes) refl
next_exports ss items fine (text bytes) r h =
    let n = name_said bytes _ r h in
    let is = is_name (quoted bytes) n.fits in
    goes (at_export ss items (part_of (quoted bytes) None None false false) parts.Name)
    (((record { name = is; internal = tt; ordinal = tt; words = tt }, fine.0), fine.1, fine.2), refl) (λ rest. refl) (good_is _ r n.goes) refl
next_exports ss items fine t r h = falls (exports items ∷ ss) fine t r h

-- The item so far.
pub record IsItem (ss : List Statement) (items : List Export) (name : Written) (internal : Option Written) (ordinal : Option ℕ) : Type 0 where
  pub fine : AreStatements (exports items ∷ ss)
  pub called : IsName name
  pub inner : IfSome internal IsName
  pub numbers : IfSome ordinal IsOrdinal

abbrev pub whole_state : (ss : List Statement) (items : List Export) (name : Written) (internal : Option Written) (ordinal : Option ℕ) (resident nodata : Bool)
    → IsItem ss items name internal ordinal → AreStatements (exports (part_of name internal ordinal resident nodata ∷ items) ∷ ss)
whole_state ss items name internal ordinal resident nodata h =
    let fine = h.fine in
    ((record { name = h.called; internal = h.inner; ordinal = h.numbers; words = tt }, fine.0), fine.1, fine.2)

next_nodata : (ss : List Statement) (items : List Export) (name : Written) (internal : Option Written) (ordinal : Option ℕ) (resident nodata : Bool)
    → IsItem ss items name internal ordinal → (t : Lexeme) (r : Reading)
    → exports_reader.after_nodata (said (exports items ∷ ss)) (export_of (part_of name internal ordinal resident nodata)) t ≡ Ok r
    → Next (statements_then (exports (part_of name internal ordinal resident nodata ∷ items) ∷ ss)) t r
unfolding exports_reader.after_nodata
next_nodata ss items name internal ordinal resident nodata fine (number value) r h =
    let g = number_given 0 31 value _ r h in
    let all = fine.fine in
    goes (in_exports ss (record (part_of name internal ordinal resident nodata) { words = Some g.n } ∷ items))
    ((record { name = fine.called; internal = fine.inner; ordinal = fine.numbers; words = g.below }, all.0), all.1, all.2)
    (λ rest. ap (λ v. statements_then (exports (part_of name internal ordinal resident nodata ∷ items) ∷ ss) (number v ∷ rest)) (sym g.is))
    (good_is _ r g.goes) refl
next_nodata ss items name internal ordinal resident nodata fine t r h =
    next_exports ss (part_of name internal ordinal resident nodata ∷ items) (whole_state ss items name internal ordinal resident nodata fine) t r h

next_resident : (ss : List Statement) (items : List Export) (name : Written) (internal : Option Written) (ordinal : Option ℕ) (resident : Bool)
    → IsItem ss items name internal ordinal → (t : Lexeme) (r : Reading)
    → exports_reader.after_resident (said (exports items ∷ ss)) (export_of (part_of name internal ordinal resident false)) t ≡ Ok r
    → Next (statements_then (exports (part_of name internal ordinal resident false ∷ items) ∷ ss)) t r
unfolding exports_reader.after_resident
next_resident ss items name internal ordinal resident fine (keyword kw.NoData) r h =
    goes (at_export ss items (part_of name internal ordinal resident true) parts.NoData) (whole_state ss items name internal ordinal resident true fine, refl) (λ rest. refl) (good_is _ r h) refl
next_resident ss items name internal ordinal resident fine t r h = next_nodata ss items name internal ordinal resident false fine t r h

next_ordinal : (ss : List Statement) (items : List Export) (name : Written) (internal : Option Written) (ordinal : Option ℕ)
    → IsItem ss items name internal ordinal → (t : Lexeme) (r : Reading)
    → exports_reader.after_ordinal (said (exports items ∷ ss)) (export_of (part_of name internal ordinal false false)) t ≡ Ok r
    → Next (statements_then (exports (part_of name internal ordinal false false ∷ items) ∷ ss)) t r
unfolding exports_reader.after_ordinal
next_ordinal ss items name internal ordinal fine (keyword kw.ResidentName) r h =
    goes (at_export ss items (part_of name internal ordinal true false) parts.Resident) (whole_state ss items name internal ordinal true false fine, refl) (λ rest. refl) (good_is _ r h) refl
next_ordinal ss items name internal ordinal fine t r h = next_resident ss items name internal ordinal false fine t r h

next_internal : (ss : List Statement) (items : List Export) (name : Written) (internal : Option Written)
    → IsItem ss items name internal None → (t : Lexeme) (r : Reading)
    → exports_reader.after_internal (said (exports items ∷ ss)) (export_of (part_of name internal None false false)) t ≡ Ok r
    → Next (statements_then (exports (part_of name internal None false false ∷ items) ∷ ss)) t r
unfolding exports_reader.after_internal
next_internal ss items name internal fine at r h = goes (at_ordinal ss items name internal) (fine.fine, fine.called, fine.inner) (λ rest. refl) (good_is _ r h) refl
next_internal ss items name internal fine t r h = next_ordinal ss items name internal None fine t r h

next_name : (ss : List Statement) (items : List Export) (name : Written)
    → IsItem ss items name None None → (t : Lexeme) (r : Reading)
    → exports_reader.after_name (said (exports items ∷ ss)) (export_of (part_of name None None false false)) t ≡ Ok r
    → Next (statements_then (exports (part_of name None None false false ∷ items) ∷ ss)) t r
unfolding exports_reader.after_name
next_name ss items name fine equals r h = goes (at_internal ss items name) (fine.fine, fine.called) (λ rest. refl) (good_is _ r h) refl
next_name ss items name fine t r h = next_internal ss items name None fine t r h

-- The same of the item as it stands.
abbrev pub NextOf : List Statement → List Export → Lexeme → Reading → Part → Export → Type 0
NextOf ss items t r part e =
    exports_reader.export (said (exports items ∷ ss)) (export_of e) part t ≡ Ok r → Next (statements_then (exports (e ∷ items) ∷ ss)) t r

item_of : (ss : List Statement) (items : List Export) (e : Export) → AreStatements (exports (e ∷ items) ∷ ss) → IsItem ss items e.name e.internal e.ordinal
item_of ss items e fine =
    let all = fine.0 in
    let own = all.0 in
    record { fine = (all.1, fine.1, fine.2); called = own.name; inner = own.internal; numbers = own.ordinal }

pub next_export : (ss : List Statement) (items : List Export) (e : Export) (part : Part) → AreStatements (exports (e ∷ items) ∷ ss) → Lacks e part
    → (t : Lexeme) (r : Reading) → NextOf ss items t r part e
unfolding exports_reader.export
next_export ss items e parts.Name fine lacks t r =
    let own = item_of ss items e fine in
    subst (NextOf ss items t r parts.Name) (sym lacks) (next_name ss items e.name (record { fine = own.fine; called = own.called; inner = tt; numbers = tt }) t r)
next_export ss items e parts.Internal fine lacks t r =
    let own = item_of ss items e fine in
    subst (NextOf ss items t r parts.Internal) (sym lacks) (next_internal ss items e.name e.internal (record { fine = own.fine; called = own.called; inner = own.inner; numbers = tt }) t r)
next_export ss items e parts.Ordinal fine lacks t r =
    subst (NextOf ss items t r parts.Ordinal) (sym lacks) (next_ordinal ss items e.name e.internal e.ordinal (item_of ss items e fine) t r)
next_export ss items e parts.Resident fine lacks t r =
    subst (NextOf ss items t r parts.Resident) (sym lacks) (next_resident ss items e.name e.internal e.ordinal e.resident (item_of ss items e fine) t r)
next_export ss items e parts.NoData fine lacks t r =
    subst (NextOf ss items t r parts.NoData) (sym lacks) (next_nodata ss items e.name e.internal e.ordinal e.resident e.nodata (item_of ss items e fine) t r)

pub next_equated : (ss : List Statement) (items : List Export) (name : Written) → AreStatements (exports items ∷ ss) → IsName name → (t : Lexeme) (r : Reading)
    → exports_reader.internal (said (exports items ∷ ss)) (export_of (part_of name None None false false)) t ≡ Ok r
    → Next (tokens_then (at_internal ss items name)) t r
unfolding exports_reader.internal
next_equated ss items name fine called_so (word bytes) r h =
    let n = name_said bytes _ r h in
    goes (at_export ss items (part_of name (Some (identifier bytes)) None false false) parts.Internal)
    (((record { name = called_so; internal = is_name (identifier bytes) n.fits; ordinal = tt; words = tt }, fine.0), fine.1, fine.2), refl) (λ rest. refl) (good_is _ r n.goes) refl
next_equated ss items name fine called_so (text bytes) r h =
    let n = name_said bytes _ r h in
    goes (at_export ss items (part_of name (Some (quoted bytes)) None false false) parts.Internal)
    (((record { name = called_so; internal = is_name (quoted bytes) n.fits; ordinal = tt; words = tt }, fine.0), fine.1, fine.2), refl) (λ rest. refl) (good_is _ r n.goes) refl
next_equated ss items name fine called_so t r h = absurd (not_good kinds.Expected r h)

pub next_numbered : (ss : List Statement) (items : List Export) (name : Written) (internal : Option Written) → AreStatements (exports items ∷ ss) → IsName name → IfSome internal IsName
    → (t : Lexeme) (r : Reading)
    → exports_reader.ordinal (said (exports items ∷ ss)) (export_of (part_of name internal None false false)) t ≡ Ok r
    → Next (tokens_then (at_ordinal ss items name internal)) t r
unfolding exports_reader.ordinal
next_numbered ss items name internal fine called_so within_it (number value) r h =
    let g = number_given 1 65535 value _ r h in
    goes (at_export ss items (part_of name internal (Some g.n) false false) parts.Ordinal)
    (((record { name = called_so; internal = within_it; ordinal = (g.above, g.below); words = tt }, fine.0), fine.1, fine.2), refl)
    (λ rest. ap (λ v. tokens_then (at_ordinal ss items name internal) (number v ∷ rest)) (sym g.is)) (good_is _ r g.goes) refl
next_numbered ss items name internal fine called_so within_it t r h = absurd (not_good kinds.Expected r h)

-- ---- items of IMPORTS

pub next_imports : (ss : List Statement) (items : List Import) → AreStatements (imports items ∷ ss) → (t : Lexeme) (r : Reading)
    → imports_reader.imports (said (imports items ∷ ss)) t ≡ Ok r → Next (statements_then (imports items ∷ ss)) t r
unfolding imports_reader.imports
next_imports ss items fine (word bytes) r h =
    let n = name_said bytes _ r h in goes (at_import ss items (identifier bytes)) (fine, is_name (identifier bytes) n.fits) (λ rest. refl) (good_is _ r n.goes) refl
next_imports ss items fine (text bytes) r h =
    let n = name_said bytes _ r h in goes (at_import ss items (quoted bytes)) (fine, is_name (quoted bytes) n.fits) (λ rest. refl) (good_is _ r n.goes) refl
next_imports ss items fine t r h = falls (imports items ∷ ss) fine t r h

pub next_import : (ss : List Statement) (items : List Import) (name : Written) → AreStatements (imports items ∷ ss) → IsName name → (t : Lexeme) (r : Reading)
    → imports_reader.import_first (said (imports items ∷ ss)) (bytes_of name) t ≡ Ok r → Next (tokens_then (at_import ss items name)) t r
unfolding imports_reader.import_first
next_import ss items name fine called_so equals r h = goes (at_equals ss items name) (fine, called_so) (λ rest. refl) (good_is _ r h) refl
next_import ss items name fine called_so dot r h = goes (at_dot ss items None name) (fine, tt, called_so) (λ rest. refl) (good_is _ r h) refl
next_import ss items name fine called_so t r h = absurd (not_good kinds.Expected r h)

pub next_equals : (ss : List Statement) (items : List Import) (name : Written) → AreStatements (imports items ∷ ss) → IsName name → (t : Lexeme) (r : Reading)
    → imports_reader.import_equals (said (imports items ∷ ss)) (bytes_of name) t ≡ Ok r → Next (tokens_then (at_equals ss items name)) t r
unfolding imports_reader.import_equals
next_equals ss items name fine called_so (word bytes) r h =
    let n = name_said bytes _ r h in goes (at_from ss items name (identifier bytes)) (fine, called_so, is_name (identifier bytes) n.fits) (λ rest. refl) (good_is _ r n.goes) refl
next_equals ss items name fine called_so (text bytes) r h =
    let n = name_said bytes _ r h in goes (at_from ss items name (quoted bytes)) (fine, called_so, is_name (quoted bytes) n.fits) (λ rest. refl) (good_is _ r n.goes) refl
next_equals ss items name fine called_so t r h = absurd (not_good kinds.Expected r h)

pub next_from : (ss : List Statement) (items : List Import) (internal from : Written) → AreStatements (imports items ∷ ss) → IsName internal → IsName from → (t : Lexeme) (r : Reading)
    → imports_reader.import_module (said (imports items ∷ ss)) (bytes_of internal) (bytes_of from) t ≡ Ok r → Next (tokens_then (at_from ss items internal from)) t r
unfolding imports_reader.import_module
next_from ss items internal from fine called_so led dot r h = goes (at_dot ss items (Some internal) from) (fine, called_so, led) (λ rest. refl) (good_is _ r h) refl
next_from ss items internal from fine called_so led t r h = absurd (not_good kinds.Expected r h)

imported : (ss : List Statement) (items : List Import) (internal : Option Written) (from entry : Written) → AreStatements (imports items ∷ ss) → IfSome internal IsName → IsName from
    → IsName entry → (r : Reading)
    → imports_reader.import_named (said (imports items ∷ ss)) (option_map bytes_of internal) (bytes_of from) (bytes_of entry) ≡ Ok r
    → Next (tokens_then (at_dot ss items internal from)) (name_token entry) r
imported ss items None from (identifier bytes) fine called led is r h =
    goes (in_imports ss (named None from (identifier bytes) ∷ items)) (((called, led, is), fine.0), fine.1, fine.2) (λ rest. refl) (good_is _ r h) refl
imported ss items None from (quoted bytes) fine called led is r h =
    goes (in_imports ss (named None from (quoted bytes) ∷ items)) (((called, led, is), fine.0), fine.1, fine.2) (λ rest. refl) (good_is _ r h) refl
imported ss items (Some i) from (identifier bytes) fine called led is r h =
    goes (in_imports ss (named (Some i) from (identifier bytes) ∷ items)) (((called, led, is), fine.0), fine.1, fine.2) (λ rest. refl) (good_is _ r h) refl
imported ss items (Some i) from (quoted bytes) fine called led is r h =
    goes (in_imports ss (named (Some i) from (quoted bytes) ∷ items)) (((called, led, is), fine.0), fine.1, fine.2) (λ rest. refl) (good_is _ r h) refl

pub next_dot : (ss : List Statement) (items : List Import) (internal : Option Written) (from : Written) → AreStatements (imports items ∷ ss) → IfSome internal IsName → IsName from
    → (t : Lexeme) (r : Reading)
    → imports_reader.import_dot (said (imports items ∷ ss)) (option_map bytes_of internal) (bytes_of from) t ≡ Ok r → Next (tokens_then (at_dot ss items internal from)) t r
unfolding imports_reader.import_dot
next_dot ss items internal from fine called led (word bytes) r h =
    let n = name_said bytes _ r h in imported ss items internal from (identifier bytes) fine called led (is_name (identifier bytes) n.fits) r n.goes
next_dot ss items internal from fine called led (text bytes) r h =
    let n = name_said bytes _ r h in imported ss items internal from (quoted bytes) fine called led (is_name (quoted bytes) n.fits) r n.goes
next_dot ss items None from fine called led (number value) r h = absurd (not_good kinds.Expected r h)
next_dot ss items (Some i) from fine called led (number value) r h =
    let g = number_given 1 65535 value _ r h in
    goes (in_imports ss (numbered i from g.n ∷ items)) (((called, led, (g.above, g.below)), fine.0), fine.1, fine.2)
    (λ rest. ap (λ v. tokens_then (at_dot ss items (Some i) from) (number v ∷ rest)) (sym g.is)) (good_is _ r g.goes) refl
next_dot ss items internal from fine called led t r h = absurd (not_good kinds.Expected r h)
