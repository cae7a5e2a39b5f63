-- The statements before the lists, read again.
use Rattle.std.proofs.Common.{◌≡◌, ◌≢◌, ℕ, List, [], ◌∷◌, ◌++◌, refl, ◌∙◌, Bool, true, false, cond, Option, Some, None}
use Rattle.std.specs.Prelude.{IfSome}
use Rattle.obj_types.specs.declared.definition.Attrs.{Attrs}
use Rattle.obj_types.specs.declared.definition.ModKind.{ModKind}
use Rattle.obj_types.specs.declared.definition.ModKind.TheVariants as modules
use Rattle.lx_types.specs.Names.{IsName}
use Rattle.def_model.specs.declared.keyword.Keyword.TheVariants as kw
use Rattle.def_model.specs.Lexemes.{Lexeme, text, keyword}
use Rattle.def_model.specs.declared.draft.Words.{Words}
use Rattle.def_model.specs.declared.draft.Draft.{Draft}
use Rattle.def_model.specs.declared.draft.Owner.{Owner}
use Rattle.def_model.specs.declared.draft.Owner.TheVariants as owners
use Rattle.def_model.specs.declared.draft.Place.TheVariants as place
use Rattle.def_model.specs.Draft.{fresh, no_statements, no_words}
use Rattle.def_write.specs.Writing.{kind_tokens, attribute_tokens}
use Rattle.def_file.proofs.Compute.{computed}
use Rattle.def_file.proofs.SaysLaws.{says, name-is, text-is, goes-on}

-- ---- NAME and LIBRARY

-- The words on a library's calls.
abbrev pub calls : ModKind → Bool → Option Bool
calls modules.Program each = None
calls modules.Library each = Some each

abbrev pub named : ModKind → Option (List ℕ) → Bool → Bool → Draft
named kind name init term =
    record no_statements { kind = Some kind; name = name; init_each = calls kind init; term_each = calls kind term }

pub kind-read : (kind : ModKind) (name : Option (List ℕ)) (init term : Bool) (rest : List Lexeme)
    → IfSome name (λ n. n ≢ []) → IfSome name IsName
    → says fresh (kind_tokens kind name init term ++ keyword kw.Description ∷ rest)
    ≡ says (record { draft = named kind name init term; place = place.Description }) rest
unfolding computed
kind-read modules.Program None init term rest some short = refl
kind-read modules.Program (Some n) init term rest some short = goes-on _ n _ _ (name-is n some short)
kind-read modules.Library None init term rest some short = refl
kind-read modules.Library (Some n) init term rest some short = goes-on _ n _ _ (name-is n some short)

-- ---- DESCRIPTION

pub description-read : (kind : ModKind) (name : Option (List ℕ)) (init term : Bool) (about : List ℕ) (rest : List Lexeme) → IsName about
    → says (record { draft = named kind name init term; place = place.Description }) (text about ∷ keyword kw.Code ∷ rest)
    ≡ says (record { draft = record (named kind name init term) { about = Some about }; place = place.Attributes owners.Code no_words }) rest
unfolding computed
description-read kind name init term about rest short = goes-on _ about _ _ (text-is about short)

-- ---- attributes

-- The words that are written for attributes.
abbrev pub words_of : Attrs → Words
words_of a =
    record {
      write = Some a.write;
      read = cond a.exec (Some a.read) None;
      shared = Some a.shared;
      preload = Some a.preload;
      conforming = Some a.conforming;
      iopl = Some a.iopl;
    }

attributes-read-at : (exec : Bool) (d : Draft) (list : Owner) (read write shared preload conforming iopl : Bool) (rest : List Lexeme)
    → let a : Attrs = record { read = read; write = write; exec = exec; shared = shared; preload = preload; conforming = conforming; iopl = iopl } in
    says (record { draft = d; place = place.Attributes list no_words }) (attribute_tokens a ++ rest)
    ≡ says (record { draft = d; place = place.Attributes list (words_of a) }) rest
unfolding computed
attributes-read-at true d list read write shared preload conforming iopl rest = refl
attributes-read-at false d list read write shared preload conforming iopl rest = refl

pub attributes-read : (a : Attrs) (d : Draft) (list : Owner) (rest : List Lexeme)
    → says (record { draft = d; place = place.Attributes list no_words }) (attribute_tokens a ++ rest)
    ≡ says (record { draft = d; place = place.Attributes list (words_of a) }) rest
attributes-read a d list rest = attributes-read-at a.exec d list a.read a.write a.shared a.preload a.conforming a.iopl rest

-- ---- CODE and DATA

abbrev pub headed : ModKind → Option (List ℕ) → Bool → Bool → List ℕ → Attrs → Attrs → Draft
headed kind name init term about code plain =
    record (named kind name init term) { about = Some about; code = Some (words_of code); plain = Some (words_of plain) }

pub head-read : (kind : ModKind) (name : Option (List ℕ)) (init term : Bool) (about : List ℕ) (code plain : Attrs) (rest : List Lexeme)
    → says (record { draft = record (named kind name init term) { about = Some about }; place = place.Attributes owners.Code no_words })
    (attribute_tokens code ++ keyword kw.Data ∷ (attribute_tokens plain ++ keyword kw.Segments ∷ rest))
    ≡ says (record { draft = headed kind name init term about code plain; place = place.Segments }) rest
unfolding computed
head-read kind name init term about code plain rest =
    attributes-read code (record (named kind name init term) { about = Some about }) owners.Code (keyword kw.Data ∷ (attribute_tokens plain ++ keyword kw.Segments ∷ rest))
    ∙ attributes-read plain (record (named kind name init term) { about = Some about; code = Some (words_of code) }) owners.Data (keyword kw.Segments ∷ rest)
