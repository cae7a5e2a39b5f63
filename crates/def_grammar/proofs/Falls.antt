-- After whole statements: the keyword of the next one, or the file's end.
use Rattle.std.proofs.Common.{◌≡◌, List, [], ◌∷◌, Ok, Err, refl, sym, ◌∙◌, cond, Bool, true, false}
use Rattle.def_model.specs.declared.keyword.Keyword.{Keyword}
use Rattle.def_model.specs.declared.keyword.Keyword.TheVariants as kw
use Rattle.def_model.specs.Lexemes.{Lexeme, keyword, ending}
use Rattle.def_model.specs.declared.refusal.DefKind.TheVariants as kinds
use Rattle.def_model.specs.declared.draft.Owner.TheVariants as owners
use Rattle.def_model.specs.declared.draft.Size.TheVariants as sizes
use Rattle.def_model.specs.declared.draft.Place.{Place}
use Rattle.def_model.specs.declared.draft.Place.TheVariants as place
use Rattle.def_model.specs.declared.draft.Reading.{Reading}
use Rattle.def_model.specs.Draft.{at as at_place, no_words}
use Rattle.def_model.specs.Statements as reader
use Rattle.def_grammar.specs.Statements.{Statement, protected, statements_then}
use Rattle.def_grammar.specs.Rules.{AreStatements, stands}
use Rattle.def_grammar.specs.Sayings.{said}
use Rattle.def_grammar.proofs.Answered.{good_is, not_good}
use Rattle.def_grammar.proofs.Standing.{second_is}
use Rattle.def_grammar.proofs.States.{closed, in_program, in_library, in_description, in_code, in_plain, in_segments, in_exports, in_imports, in_size, in_base, in_exe_type, Next, goes, ends}

-- A statement that may stand is begun.
pub record IsFirst (ss : List Statement) (k : Keyword) (p : Place) (r : Reading) : Type 0 where
  pub first : stands k ss ≡ false
  pub reading : record { draft = said ss; place = p } ≡ r

first_by : (ss : List Statement) (k : Keyword) (p : Place) (r : Reading) (b : Bool) → reader.is_second (said ss) k ≡ b → cond b (Err kinds.Twice) (at_place (said ss) p) ≡ Ok r → IsFirst ss k p r
first_by ss k p r true is h = absurd (not_good kinds.Twice r h)
first_by ss k p r false is h = record { first = sym (second_is ss k) ∙ is; reading = good_is _ r h }

first_begun : (ss : List Statement) (k : Keyword) (p : Place) (r : Reading) → cond (reader.is_second (said ss) k) (Err kinds.Twice) (at_place (said ss) p) ≡ Ok r → IsFirst ss k p r
first_begun ss k p r h = first_by ss k p r (reader.is_second (said ss) k) refl h

begun_by_keyword : (ss : List Statement) → AreStatements ss → (k : Keyword) (r : Reading) → reader.keyword_statement (said ss) k ≡ Ok r → Next (statements_then ss) (keyword k) r
unfolding reader.keyword_statement
begun_by_keyword ss fine kw.Name r h = let b = first_begun ss kw.Name place.Program r h in goes (in_program ss) (b.first, fine) (λ rest. refl) b.reading refl
begun_by_keyword ss fine kw.Library r h = let b = first_begun ss kw.Library place.Library r h in goes (in_library ss) (b.first, fine) (λ rest. refl) b.reading refl
begun_by_keyword ss fine kw.Description r h = let b = first_begun ss kw.Description place.Description r h in goes (in_description ss) (b.first, fine) (λ rest. refl) b.reading refl
begun_by_keyword ss fine kw.Code r h = let b = first_begun ss kw.Code (place.Attributes owners.Code no_words) r h in goes (in_code ss []) (tt, b.first, fine) (λ rest. refl) b.reading refl
begun_by_keyword ss fine kw.Data r h = let b = first_begun ss kw.Data (place.Attributes owners.Data no_words) r h in goes (in_plain ss []) (tt, b.first, fine) (λ rest. refl) b.reading refl
begun_by_keyword ss fine kw.Segments r h = let b = first_begun ss kw.Segments place.Segments r h in goes (in_segments ss []) (tt, b.first, fine) (λ rest. refl) b.reading refl
begun_by_keyword ss fine kw.Exports r h = let b = first_begun ss kw.Exports place.Exports r h in goes (in_exports ss []) (tt, b.first, fine) (λ rest. refl) b.reading refl
begun_by_keyword ss fine kw.Imports r h = let b = first_begun ss kw.Imports place.Imports r h in goes (in_imports ss []) (tt, b.first, fine) (λ rest. refl) b.reading refl
begun_by_keyword ss fine kw.StackSize r h = let b = first_begun ss kw.StackSize (place.Size sizes.Stack) r h in goes (in_size ss sizes.Stack) (b.first, fine) (λ rest. refl) b.reading refl
begun_by_keyword ss fine kw.HeapSize r h = let b = first_begun ss kw.HeapSize (place.Size sizes.Heap) r h in goes (in_size ss sizes.Heap) (b.first, fine) (λ rest. refl) b.reading refl
begun_by_keyword ss fine kw.Base r h = let b = first_begun ss kw.Base place.Base r h in goes (in_base ss) (b.first, fine) (λ rest. refl) b.reading refl
begun_by_keyword ss fine kw.ProtMode r h = let b = first_begun ss kw.ProtMode place.Statement r h in goes (closed (protected ∷ ss)) (tt, b.first, fine) (λ rest. refl) b.reading refl
begun_by_keyword ss fine kw.ExeType r h = let b = first_begun ss kw.ExeType place.ExeType r h in goes (in_exe_type ss) (b.first, fine) (λ rest. refl) b.reading refl
begun_by_keyword ss fine k r h = absurd (not_good kinds.Statement r h)

pub falls : (ss : List Statement) → AreStatements ss → (t : Lexeme) (r : Reading) → reader.statement (said ss) t ≡ Ok r → Next (statements_then ss) t r
unfolding reader.statement
falls ss fine (keyword k) r h = begun_by_keyword ss fine k r h
falls ss fine ending r h = ends ss fine (λ rest. refl) refl (good_is _ r h)
falls ss fine t r h = absurd (not_good kinds.Statement r h)
