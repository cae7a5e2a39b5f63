-- Statements are read.
use Rattle.std.proofs.Common.{◌≡◌, ℕ, List, [], ◌∷◌, refl, ap, ◌∙◌, Bool, true, false, arith}
use Rattle.std.specs.Prelude.{Option, Some, None, IfSome}
use Rattle.std.specs.List.{list_any}
use Rattle.obj_types.specs.declared.limits.TheConstants.{MAX_DATA}
use Rattle.obj_types.specs.declared.definition.ModKind.TheVariants as modules
use Rattle.def_model.specs.declared.keyword.Keyword.TheVariants as kw
use Rattle.def_model.specs.Lexemes.{Lexeme, text, word, keyword, keyword_of_lexeme}
use Rattle.def_tokens.proofs.TokenLaws.{if-second}
use Rattle.lx_types.specs.Answers.{◌>>=◌}
use Rattle.def_model.specs.declared.draft.Draft.{Draft}
use Rattle.def_model.specs.declared.draft.Owner.TheVariants as owners
use Rattle.def_model.specs.declared.draft.Size.TheVariants as sizes
use Rattle.def_model.specs.declared.draft.Place.TheVariants as place
use Rattle.def_model.specs.declared.draft.Place.{Place}
use Rattle.def_model.specs.declared.draft.Reading.{Reading}
use Rattle.def_model.specs.Draft.{fresh, no_words}
use Rattle.def_model.specs.Reading.{step, token_at}
use Rattle.def_model.specs.Statements as reader
use Rattle.def_model.specs.Segments as segments_reader
use Rattle.def_model.specs.Exports as exports_reader
use Rattle.def_model.specs.Imports as imports_reader
use Rattle.def_file.proofs.SaysLaws.{says, name-is, text-is, within-is, goes-on}
use Rattle.def_grammar.specs.Statements.{Written, identifier, quoted, name_token, CallWord, initial, terminal, call_token, calls_then, Statement, program, library, description, code, plain, segments, exports, imports, stack_size, heap_size, base, protected, exe_type, head, body_then, statements_then}
use Rattle.def_grammar.specs.Rules.{IsName, bytes_of, other_call, CallsAgree, IsStatement, AreStatements, stands}
use Rattle.def_grammar.specs.Sayings.{initially, finally, words_of, said, said_with}
use Rattle.def_grammar.proofs.Answered.{base_taken}
use Rattle.def_grammar.proofs.WordLaws.{initially_is, finally_is}
use Rattle.def_grammar.proofs.Standing.{Unnamed, unnamed, begun_program, begun_library, named_library}
use Rattle.def_grammar.proofs.After.{IsAfter, begun, starts, starts_follows, no_window, no_call, no_attribute, answer_at}
use Rattle.def_grammar.proofs.ReadItems.{in_list, words_read, segments_read, imports_read, in_imports}
use Rattle.def_grammar.proofs.ReadExports.{exports_read}

-- After the keyword of a statement, the rest of it is read, and what follows is judged as after it.
pub record BodyRead (d : Draft) (p : Place) (s : Statement) : Type 0 where
  pub reading : Reading
  pub after : IsAfter (said_with d s) reading
  pub reads : (rest : List Lexeme) → says (record { draft = d; place = p }) (body_then s rest) ≡ says reading rest

abbrev pub closed : Draft → Reading
closed d = record { draft = d; place = place.Statement }

after_closed : (d : Draft) → IsAfter d (closed d)
unfolding token_at
after_closed d t h = refl

-- ---- NAME

program_named : (d : Draft) (name : Written) (rest : List Lexeme) → IsName name
    → says (record { draft = d; place = place.Program }) (name_token name ∷ rest) ≡ says (record { draft = said_with d (program (Some name) false); place = place.ProgramName }) rest
unfolding step token_at reader.program
program_named d (identifier bytes) rest h = goes-on _ bytes _ _ (name-is bytes h.some h.short)
program_named d (quoted bytes) rest h = goes-on _ bytes _ _ (name-is bytes h.some h.short)

-- After NAME, what is no name.
program_alone : (d : Draft) (t : Lexeme) → starts t ≡ true
    → answer_at (record { draft = d; place = place.Program }) t ≡ reader.window_word (record d { kind = Some modules.Program }) (keyword_of_lexeme t) t
unfolding token_at reader.program reader.program_name
program_alone d (text bytes) h = absurd cc
program_alone d (word bytes) h = absurd cc
program_alone d t h = refl

program_read : (d : Draft) (name : Option Written) (window : Bool) → Unnamed d → IfSome name IsName → BodyRead d place.Program (program name window)
unfolding step token_at reader.program reader.program_name
program_read d None false none h =
    record {
      reading = record { draft = d; place = place.Program };
      after = λ t s. program_alone d t s ∙ (no_window _ t s ∙ ap (λ (x : Draft). reader.statement x t) (begun_program d none));
      reads = λ rest. refl;
    }
program_read d None true none h =
    record {
      reading = closed (said_with d (program None true));
      after = after_closed _;
      reads = λ rest. ap (λ (x : Draft). says (closed x) rest) (begun_program d none);
    }
program_read d (Some name) false none h =
    record {
      reading = record { draft = said_with d (program (Some name) false); place = place.ProgramName };
      after = λ t s. no_window _ t s;
      reads = λ rest. program_named d name rest h;
    }
program_read d (Some name) true none h =
    record {
      reading = closed (said_with d (program (Some name) true));
      after = after_closed _;
      reads = λ rest. program_named d name (keyword kw.Window ∷ rest) h;
    }

-- ---- LIBRARY

abbrev pub in_library : Draft → Option (List ℕ) → List CallWord → Reading
in_library d name calls =
    record {
      draft = record d { kind = Some modules.Library; name = name; init_each = initially calls; term_each = finally calls };
      place = place.LibraryWords;
    }

call_read : (d : Draft) (name : Option (List ℕ)) (w : CallWord) (before : List CallWord) (rest : List Lexeme) → CallsAgree (w ∷ before)
    → says (in_library d name before) (call_token w ∷ rest) ≡ says (in_library d name (w ∷ before)) rest
unfolding step token_at reader.library_words
call_read d name (initial each) before rest h =
    goes-on _ (Some each) _ _ (initially_is before each h.1 ∙ if-second (list_any (other_call (initial each)) before) _ _ h.0)
call_read d name (terminal each) before rest h =
    goes-on _ (Some each) _ _ (finally_is before each h.1 ∙ if-second (list_any (other_call (terminal each)) before) _ _ h.0)

calls_read : (d : Draft) (name : Option (List ℕ)) (calls : List CallWord) (rest : List Lexeme) → CallsAgree calls
    → says (in_library d name []) (calls_then calls rest) ≡ says (in_library d name calls) rest
calls_read d name [] rest h = refl
calls_read d name (w ∷ before) rest h = calls_read d name before (call_token w ∷ rest) h.1 ∙ call_read d name w before rest h

library_named : (d : Draft) (name : Written) (rest : List Lexeme) → Unnamed d → IsName name
    → says (record { draft = d; place = place.Library }) (name_token name ∷ rest) ≡ says (in_library d (Some (bytes_of name)) []) rest
unfolding step token_at reader.library
library_named d (identifier bytes) rest none h =
    goes-on _ bytes _ _ (name-is bytes h.some h.short) ∙ ap (λ (x : Draft). says (record { draft = x; place = place.LibraryWords }) rest) (named_library d bytes none)
library_named d (quoted bytes) rest none h =
    goes-on _ bytes _ _ (name-is bytes h.some h.short) ∙ ap (λ (x : Draft). says (record { draft = x; place = place.LibraryWords }) rest) (named_library d bytes none)

library_alone : (d : Draft) (t : Lexeme) → starts t ≡ true
    → answer_at (record { draft = d; place = place.Library }) t ≡ reader.library_word (record d { kind = Some modules.Library }) (keyword_of_lexeme t) t
unfolding token_at reader.library reader.library_words
library_alone d (text bytes) h = absurd cc
library_alone d (word bytes) h = absurd cc
library_alone d t h = refl

-- The first word after LIBRARY.
first_call : (d : Draft) (calls : List CallWord) (w : CallWord) (rest : List Lexeme) → Unnamed d
    → says (record { draft = d; place = place.Library }) (calls_then calls (call_token w ∷ rest)) ≡ says (in_library d None []) (calls_then calls (call_token w ∷ rest))
unfolding step token_at reader.library reader.library_words
first_call d [] (initial each) rest none =
    ap (λ (x : Draft). reader.library_word x (Some (kw.Init each)) (keyword (kw.Init each)) >>= (λ next. says next rest)) (begun_library d none)
first_call d [] (terminal each) rest none =
    ap (λ (x : Draft). reader.library_word x (Some (kw.Term each)) (keyword (kw.Term each)) >>= (λ next. says next rest)) (begun_library d none)
first_call d (v ∷ calls) w rest none = first_call d calls v (call_token w ∷ rest) none

library_read : (d : Draft) (name : Option Written) (calls : List CallWord) → Unnamed d → IfSome name IsName → CallsAgree calls → BodyRead d place.Library (library name calls)
unfolding token_at reader.library_words
library_read d None [] none h agree =
    record {
      reading = record { draft = d; place = place.Library };
      after = λ t s. library_alone d t s ∙ (no_call _ t s ∙ ap (λ (x : Draft). reader.statement x t) (begun_library d none));
      reads = λ rest. refl;
    }
library_read d None (w ∷ calls) none h agree =
    record {
      reading = in_library d None (w ∷ calls);
      after = λ t s. no_call _ t s;
      reads = λ rest. first_call d calls w rest none ∙ calls_read d None (w ∷ calls) rest agree;
    }
library_read d (Some name) calls none h agree =
    record {
      reading = in_library d (Some (bytes_of name)) calls;
      after = λ t s. no_call _ t s;
      reads = λ rest. library_named d name (calls_then calls rest) none h ∙ calls_read d (Some (bytes_of name)) calls rest agree;
    }

-- ---- CODE and DATA

code_after : (d : Draft) (words : _) → IsAfter (record d { code = Some words }) (in_list d owners.Code words)
unfolding token_at segments_reader.attributes segments_reader.after_list
code_after d words t s = no_attribute d owners.Code t words (starts_follows t s)

plain_after : (d : Draft) (words : _) → IsAfter (record d { plain = Some words }) (in_list d owners.Data words)
unfolding token_at segments_reader.attributes segments_reader.after_list
plain_after d words t s = no_attribute d owners.Data t words (starts_follows t s)

-- ---- lists of items: what begins a statement begins no item

no_segment : (d : Draft) (t : Lexeme) → starts t ≡ true → segments_reader.segments d t ≡ reader.statement d t
unfolding segments_reader.segments
no_segment d (text bytes) h = absurd cc
no_segment d (word bytes) h = absurd cc
no_segment d t h = refl

no_export : (d : Draft) (t : Lexeme) → starts t ≡ true → exports_reader.exports d t ≡ reader.statement d t
unfolding exports_reader.exports
no_export d (text bytes) h = absurd cc
no_export d (word bytes) h = absurd cc
no_export d t h = refl

no_import : (d : Draft) (t : Lexeme) → starts t ≡ true → imports_reader.imports d t ≡ reader.statement d t
unfolding imports_reader.imports
no_import d (text bytes) h = absurd cc
no_import d (word bytes) h = absurd cc
no_import d t h = refl

-- ---- any statement

-- After which place the body of a statement is read.
abbrev pub place_of : Statement → Place
place_of (program name window) = place.Program
place_of (library name calls) = place.Library
place_of (description about) = place.Description
place_of (code words) = place.Attributes owners.Code no_words
place_of (plain words) = place.Attributes owners.Data no_words
place_of (segments items) = place.Segments
place_of (exports items) = place.Exports
place_of (imports items) = place.Imports
place_of (stack_size n) = place.Size sizes.Stack
place_of (heap_size n) = place.Size sizes.Heap
place_of (base n) = place.Base
place_of protected = place.Statement
place_of (exe_type name) = place.ExeType

place_begun : (s : Statement) → reader.begun_by (head s) ≡ Some (place_of s)
place_begun (program name window) = refl
place_begun (library name calls) = refl
place_begun (description about) = refl
place_begun (code words) = refl
place_begun (plain words) = refl
place_begun (segments items) = refl
place_begun (exports items) = refl
place_begun (imports items) = refl
place_begun (stack_size n) = refl
place_begun (heap_size n) = refl
place_begun (base n) = refl
place_begun protected = refl
place_begun (exe_type name) = refl

exe_type_read : (d : Draft) (name : Written) (rest : List Lexeme) → IsName name
    → says (record { draft = d; place = place.ExeType }) (name_token name ∷ rest) ≡ says (closed d) rest
unfolding step token_at reader.exe_type
exe_type_read d (identifier bytes) rest h = goes-on _ bytes _ _ (name-is bytes h.some h.short)
exe_type_read d (quoted bytes) rest h = goes-on _ bytes _ _ (name-is bytes h.some h.short)

body_read : (ss : List Statement) (s : Statement) → IsStatement s → stands (head s) ss ≡ false → BodyRead (said ss) (place_of s) s
unfolding step token_at reader.description reader.size reader.sized reader.base imports_reader.imports
body_read ss (program name window) h first = program_read (said ss) name window (unnamed ss first) h
body_read ss (library name calls) h first = library_read (said ss) name calls (unnamed ss first) h.0 h.1
body_read ss (description about) h first =
    record { reading = closed _; after = after_closed _; reads = λ rest. goes-on _ about _ _ (text-is about h) }
body_read ss (code words) h first =
    record { reading = in_list (said ss) owners.Code (words_of words); after = code_after (said ss) (words_of words); reads = λ rest. words_read (said ss) owners.Code words rest h }
body_read ss (plain words) h first =
    record { reading = in_list (said ss) owners.Data (words_of words); after = plain_after (said ss) (words_of words); reads = λ rest. words_read (said ss) owners.Data words rest h }
body_read ss (segments items) h first =
    let found = segments_read (said ss) items h in
    record { reading = found.reading; after = λ t s. found.after t (starts_follows t s) ∙ no_segment _ t s; reads = found.reads }
body_read ss (exports items) h first =
    let found = exports_read (said ss) items h in
    record { reading = found.reading; after = λ t s. found.judges t (starts_follows t s) ∙ no_export _ t s; reads = found.reads }
body_read ss (imports items) h first =
    record { reading = in_imports (said_with (said ss) (imports items)); after = λ t s. no_import _ t s; reads = λ rest. imports_read (said ss) items rest h }
body_read ss (stack_size n) h first =
    record { reading = closed _; after = after_closed _; reads = λ rest. goes-on _ n _ _ (within-is 0 MAX_DATA n (omega arith) h) }
body_read ss (heap_size n) h first =
    record { reading = closed _; after = after_closed _; reads = λ rest. goes-on _ n _ _ (within-is 0 4294967295 n (omega arith) h) }
body_read ss (base n) h first =
    record { reading = closed _; after = after_closed _; reads = λ rest. goes-on _ n _ _ (base_taken n h) }
body_read ss protected h first = record { reading = closed _; after = after_closed _; reads = λ rest. refl }
body_read ss (exe_type name) h first =
    record { reading = closed _; after = after_closed _; reads = λ rest. exe_type_read (said ss) name rest h }

-- ---- all statements

pub record StatementsRead (ss : List Statement) : Type 0 where
  pub reading : Reading
  pub after : IsAfter (said ss) reading
  pub reads : (rest : List Lexeme) → says fresh (statements_then ss rest) ≡ says reading rest

pub statements_read : (ss : List Statement) → AreStatements ss → StatementsRead ss
statements_read [] h = record { reading = fresh; after = after_closed _; reads = λ rest. refl }
statements_read (s ∷ ss) h =
    let earlier = statements_read ss h.2 in
    let body = body_read ss s h.0 h.1 in
    record {
      reading = body.reading;
      after = body.after;
      reads = λ rest.
          earlier.reads (keyword (head s) ∷ body_then s rest)
          ∙ (begun ss earlier.reading (head s) (place_of s) (body_then s rest) earlier.after (place_begun s) h.1
          ∙ body.reads rest);
    }
