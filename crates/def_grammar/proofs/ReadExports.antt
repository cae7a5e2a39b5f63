-- Items of EXPORTS are read: each part that may stand, or none.
use Rattle.std.proofs.Common.{◌≡◌, ℕ, List, [], ◌∷◌, Result, refl, ap, ◌∙◌, Bool, true, false, arith}
use Rattle.std.specs.Prelude.{Option, Some, None, IfSome, ◌≤◌}
use Rattle.std.specs.List.{AllByRecursion}
use Rattle.obj_types.specs.Definition.{IsOrdinal}
use Rattle.obj_types.specs.declared.symbol.Exp.{Exp}
use Rattle.def_model.specs.declared.keyword.Keyword.TheVariants as kw
use Rattle.def_model.specs.Lexemes.{Lexeme, number, equals, at, text, word, keyword}
use Rattle.def_model.specs.declared.refusal.DefKind.{DefKind}
use Rattle.def_model.specs.declared.draft.Draft.{Draft}
use Rattle.def_model.specs.declared.draft.Part.{Part}
use Rattle.def_model.specs.declared.draft.Part.TheVariants as parts
use Rattle.def_model.specs.declared.draft.Place.TheVariants as place
use Rattle.def_model.specs.declared.draft.Reading.{Reading}
use Rattle.def_model.specs.Reading.{step, token_at}
use Rattle.def_model.specs.Exports as reader
use Rattle.def_file.proofs.SaysLaws.{says, name-is, within-is, goes-on}
use Rattle.def_grammar.specs.Statements.{Written, identifier, quoted, name_token, Export, internal_then, ordinal_then, word_then, number_then, export_then, exports_then}
use Rattle.def_grammar.specs.Rules.{IsName, bytes_of, IsExport}
use Rattle.def_grammar.specs.Sayings.{export_of, exports_of}
use Rattle.def_grammar.proofs.Answered.{bound}
use Rattle.def_grammar.proofs.After.{answer_at, answered, follows}

-- ---- the tokens that may stand after each part

abbrev pub after_fifth : Lexeme → Bool
after_fifth (number value) = true
after_fifth t = follows t

abbrev pub after_fourth : Lexeme → Bool
after_fourth (keyword kw.NoData) = true
after_fourth t = after_fifth t

abbrev pub after_third : Lexeme → Bool
after_third (keyword kw.ResidentName) = true
after_third t = after_fourth t

abbrev pub after_second : Lexeme → Bool
after_second at = true
after_second t = after_third t

-- ---- a reading that answers such tokens as a part does

abbrev pub Judges : (Lexeme → Bool) → (Lexeme → Result Reading DefKind) → Reading → Type 0
Judges among answer r = (t : Lexeme) → among t ≡ true → answer_at r t ≡ answer t

-- Tokens are read, and what follows is judged so.
pub record Goes (among : Lexeme → Bool) (answer : Lexeme → Result Reading DefKind) (r : Reading) (tokens : List Lexeme → List Lexeme) : Type 0 where
  pub reading : Reading
  pub judges : Judges among answer reading
  pub reads : (rest : List Lexeme) → says r (tokens rest) ≡ says reading rest

abbrev pub item_at : Draft → Exp → Part → Reading
item_at d item part = record { draft = d; place = place.Export item part }

-- ---- = name

equals_passed : (d : Draft) (item : Exp) (t : Lexeme) → after_second t ≡ true → reader.after_name d item t ≡ reader.after_internal d item t
unfolding reader.after_name
equals_passed d item equals h = absurd cc
equals_passed d item t h = refl

internal_named : (d : Draft) (item : Exp) (name : Written) (rest : List Lexeme) → IsName name
    → says (record { draft = d; place = place.Internal item }) (name_token name ∷ rest) ≡ says (item_at d (record item { internal = bytes_of name }) parts.Internal) rest
unfolding step token_at reader.internal
internal_named d item (identifier bytes) rest h = goes-on _ bytes _ _ (name-is bytes h.some h.short)
internal_named d item (quoted bytes) rest h = goes-on _ bytes _ _ (name-is bytes h.some h.short)

abbrev pub with_internal : Exp → Option Written → Exp
with_internal item None = item
with_internal item (Some name) = record item { internal = bytes_of name }

internal_read : (d : Draft) (item : Exp) (name : Option Written) → IfSome name IsName
    → Goes after_second (reader.after_internal d (with_internal item name)) (item_at d item parts.Name) (internal_then name)
unfolding step token_at reader.export reader.after_name
internal_read d item None h = record { reading = item_at d item parts.Name; judges = λ t among. equals_passed d item t among; reads = λ rest. refl }
internal_read d item (Some name) h =
    record {
      reading = item_at d (record item { internal = bytes_of name }) parts.Internal;
      judges = λ t among. refl;
      reads = λ rest. internal_named d item name rest h;
    }

-- ---- @ number

at_passed : (d : Draft) (item : Exp) (t : Lexeme) → after_third t ≡ true → reader.after_internal d item t ≡ reader.after_ordinal d item t
unfolding reader.after_internal
at_passed d item at h = absurd cc
at_passed d item t h = refl

third_second : (t : Lexeme) → after_third t ≡ true → after_second t ≡ true
third_second at h = refl
third_second t h = h

abbrev pub with_ordinal : Exp → Option ℕ → Exp
with_ordinal item None = item
with_ordinal item (Some n) = record item { ordinal = Some n }

ordinal_read : (d : Draft) (item : Exp) (n : Option ℕ) (r : Reading) → Judges after_second (reader.after_internal d item) r → IfSome n IsOrdinal
    → Goes after_third (reader.after_ordinal d (with_ordinal item n)) r (ordinal_then n)
unfolding step token_at reader.export reader.after_internal reader.ordinal
ordinal_read d item None r judges h = record { reading = r; judges = λ t among. judges t (third_second t among) ∙ at_passed d item t among; reads = λ rest. refl }
ordinal_read d item (Some n) r judges h =
    record {
      reading = item_at d (record item { ordinal = Some n }) parts.Ordinal;
      judges = λ t among. refl;
      reads = λ rest. answered r at (number (Some n) ∷ rest) _ refl (judges at refl) ∙ goes-on _ n _ _ (within-is 1 65535 n h.0 h.1);
    }

-- ---- RESIDENTNAME

resident_passed : (d : Draft) (item : Exp) (t : Lexeme) → after_fourth t ≡ true → reader.after_ordinal d item t ≡ reader.after_resident d item t
unfolding reader.after_ordinal
resident_passed d item (keyword kw.ResidentName) h = absurd cc
resident_passed d item t h = refl

fourth_third : (t : Lexeme) → after_fourth t ≡ true → after_third t ≡ true
fourth_third (keyword kw.ResidentName) h = refl
fourth_third t h = h

abbrev pub with_resident : Exp → Bool → Exp
with_resident item true = record item { resident = true }
with_resident item false = item

resident_read : (d : Draft) (item : Exp) (b : Bool) (r : Reading) → Judges after_third (reader.after_ordinal d item) r
    → Goes after_fourth (reader.after_resident d (with_resident item b)) r (word_then kw.ResidentName b)
unfolding step token_at reader.export reader.after_ordinal
resident_read d item false r judges = record { reading = r; judges = λ t among. judges t (fourth_third t among) ∙ resident_passed d item t among; reads = λ rest. refl }
resident_read d item true r judges =
    record {
      reading = item_at d (record item { resident = true }) parts.Resident;
      judges = λ t among. refl;
      reads = λ rest. answered r (keyword kw.ResidentName) rest _ refl (judges (keyword kw.ResidentName) refl);
    }

-- ---- NODATA

nodata_passed : (d : Draft) (item : Exp) (t : Lexeme) → after_fifth t ≡ true → reader.after_resident d item t ≡ reader.after_nodata d item t
unfolding reader.after_resident
nodata_passed d item (keyword kw.NoData) h = absurd cc
nodata_passed d item t h = refl

fifth_fourth : (t : Lexeme) → after_fifth t ≡ true → after_fourth t ≡ true
fifth_fourth (keyword kw.NoData) h = refl
fifth_fourth t h = h

abbrev pub with_nodata : Exp → Bool → Exp
with_nodata item true = record item { nodata = true }
with_nodata item false = item

nodata_read : (d : Draft) (item : Exp) (b : Bool) (r : Reading) → Judges after_fourth (reader.after_resident d item) r
    → Goes after_fifth (reader.after_nodata d (with_nodata item b)) r (word_then kw.NoData b)
unfolding step token_at reader.export reader.after_resident
nodata_read d item false r judges = record { reading = r; judges = λ t among. judges t (fifth_fourth t among) ∙ nodata_passed d item t among; reads = λ rest. refl }
nodata_read d item true r judges =
    record {
      reading = item_at d (record item { nodata = true }) parts.NoData;
      judges = λ t among. refl;
      reads = λ rest. answered r (keyword kw.NoData) rest _ refl (judges (keyword kw.NoData) refl);
    }

-- ---- number

words_passed : (d : Draft) (item : Exp) (t : Lexeme) → follows t ≡ true → reader.after_nodata d item t ≡ reader.exports (reader.with_export d item) t
unfolding reader.after_nodata
words_passed d item (number value) h = absurd cc
words_passed d item t h = refl

follows_fifth : (t : Lexeme) → follows t ≡ true → after_fifth t ≡ true
follows_fifth (number value) h = refl
follows_fifth t h = h

abbrev pub with_words : Exp → Option ℕ → Exp
with_words item None = item
with_words item (Some n) = record item { words = n }

words_read : (d : Draft) (item : Exp) (n : Option ℕ) (r : Reading) → Judges after_fifth (reader.after_nodata d item) r → IfSome n (λ k. k ≤ 31)
    → Goes follows (reader.exports (reader.with_export d (with_words item n))) r (number_then n)
unfolding step token_at reader.after_nodata
words_read d item None r judges h = record { reading = r; judges = λ t among. judges t (follows_fifth t among) ∙ words_passed d item t among; reads = λ rest. refl }
words_read d item (Some n) r judges h =
    record {
      reading = record { draft = reader.with_export d (record item { words = n }); place = place.Exports };
      judges = λ t among. refl;
      reads = λ rest. answered r (number (Some n)) rest _ refl (judges (number (Some n)) refl ∙ bound _ n _ (within-is 0 31 n (omega arith) h));
    }

-- ---- the item

abbrev pub first_of : Export → Exp
first_of e = reader.export_of (bytes_of e.name)

abbrev pub whole_of : Export → Exp
whole_of e = with_words (with_nodata (with_resident (with_ordinal (with_internal (first_of e) e.internal) e.ordinal) e.resident) e.nodata) e.words

whole_by : (name : Written) (internal : Option Written) (ordinal : Option ℕ) (resident nodata : Bool) (words : Option ℕ)
    → let e : Export = record { name = name; internal = internal; ordinal = ordinal; resident = resident; nodata = nodata; words = words } in
    whole_of e ≡ export_of e
whole_by name None None false false None = refl
whole_by name None None false false (Some n) = refl
whole_by name None None false true None = refl
whole_by name None None false true (Some n) = refl
whole_by name None None true false None = refl
whole_by name None None true false (Some n) = refl
whole_by name None None true true None = refl
whole_by name None None true true (Some n) = refl
whole_by name None (Some o) false false None = refl
whole_by name None (Some o) false false (Some n) = refl
whole_by name None (Some o) false true None = refl
whole_by name None (Some o) false true (Some n) = refl
whole_by name None (Some o) true false None = refl
whole_by name None (Some o) true false (Some n) = refl
whole_by name None (Some o) true true None = refl
whole_by name None (Some o) true true (Some n) = refl
whole_by name (Some i) None false false None = refl
whole_by name (Some i) None false false (Some n) = refl
whole_by name (Some i) None false true None = refl
whole_by name (Some i) None false true (Some n) = refl
whole_by name (Some i) None true false None = refl
whole_by name (Some i) None true false (Some n) = refl
whole_by name (Some i) None true true None = refl
whole_by name (Some i) None true true (Some n) = refl
whole_by name (Some i) (Some o) false false None = refl
whole_by name (Some i) (Some o) false false (Some n) = refl
whole_by name (Some i) (Some o) false true None = refl
whole_by name (Some i) (Some o) false true (Some n) = refl
whole_by name (Some i) (Some o) true false None = refl
whole_by name (Some i) (Some o) true false (Some n) = refl
whole_by name (Some i) (Some o) true true None = refl
whole_by name (Some i) (Some o) true true (Some n) = refl

pub whole_is : (e : Export) → whole_of e ≡ export_of e
whole_is e = whole_by e.name e.internal e.ordinal e.resident e.nodata e.words

name_begins : (d : Draft) (r : Reading) (name : Written) (ts : List Lexeme) → Judges follows (reader.exports d) r → IsName name
    → says r (name_token name ∷ ts) ≡ says (item_at d (reader.export_of (bytes_of name)) parts.Name) ts
unfolding reader.exports
name_begins d r (identifier bytes) ts judges h = answered r (word bytes) ts _ refl (judges (word bytes) refl ∙ bound _ bytes _ (name-is bytes h.some h.short))
name_begins d r (quoted bytes) ts judges h = answered r (text bytes) ts _ refl (judges (text bytes) refl ∙ bound _ bytes _ (name-is bytes h.some h.short))

one_export : (d : Draft) (r : Reading) (e : Export) → Judges follows (reader.exports d) r → IsExport e
    → Goes follows (reader.exports (reader.with_export d (whole_of e))) r (export_then e)
one_export d r e judges h =
    let first = internal_read d (first_of e) e.internal h.internal in
    let second = ordinal_read d (with_internal (first_of e) e.internal) e.ordinal first.reading first.judges h.ordinal in
    let third = resident_read d (with_ordinal (with_internal (first_of e) e.internal) e.ordinal) e.resident second.reading second.judges in
    let fourth = nodata_read d (with_resident (with_ordinal (with_internal (first_of e) e.internal) e.ordinal) e.resident) e.nodata third.reading third.judges in
    let fifth = words_read d (with_nodata (with_resident (with_ordinal (with_internal (first_of e) e.internal) e.ordinal) e.resident) e.nodata) e.words fourth.reading fourth.judges h.words in
    record {
      reading = fifth.reading;
      judges = fifth.judges;
      reads = λ rest.
          name_begins d r e.name _ judges h.name
          ∙ (first.reads _ ∙ (second.reads _ ∙ (third.reads _ ∙ (fourth.reads _ ∙ fifth.reads rest))));
    }

abbrev pub with_exports : Draft → List Export → Draft
with_exports d items = record d { exports = exports_of items d.exports }

pub record ExportsRead (d : Draft) (items : List Export) : Type 0 where
  pub reading : Reading
  pub judges : Judges follows (reader.exports (with_exports d items)) reading
  pub reads : (rest : List Lexeme) → says (record { draft = d; place = place.Exports }) (exports_then items rest) ≡ says reading rest

pub exports_read : (d : Draft) (items : List Export) → AllByRecursion IsExport items → ExportsRead d items
unfolding token_at
exports_read d [] h = record { reading = record { draft = d; place = place.Exports }; judges = λ t f. refl; reads = λ rest. refl }
exports_read d (e ∷ before) h =
    let earlier = exports_read d before h.1 in
    let found = one_export (with_exports d before) earlier.reading e earlier.judges h.0 in
    record {
      reading = found.reading;
      judges = λ t among. found.judges t among ∙ ap (λ (x : Exp). reader.exports (reader.with_export (with_exports d before) x) t) (whole_is e);
      reads = λ rest. earlier.reads (export_then e rest) ∙ found.reads rest;
    }
