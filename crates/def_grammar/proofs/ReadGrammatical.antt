-- What is read is grammatical.
use Rattle.std.proofs.Common.{◌≡◌, ℕ, List, [], ◌∷◌, Result, Ok, Err, refl, ap, sym, subst, ◌∙◌, false}
use Rattle.obj_types.specs.declared.definition.DefFile.{DefFile}
use Rattle.def_model.specs.Lexemes.{Lexeme, ending, is_ending}
use Rattle.def_model.specs.Tokens.{Placed, tokens_of}
use Rattle.lx_types.specs.Answers.{◌>>=◌}
use Rattle.def_model.specs.declared.refusal.DefKind.{DefKind}
use Rattle.def_model.specs.declared.refusal.DefRefusal.{DefRefusal}
use Rattle.def_model.specs.declared.draft.Reading.{Reading}
use Rattle.def_model.specs.Meaning.{file_of}
use Rattle.def_model.specs.Reading.{step, at_line, run}
use Rattle.def_grammar.specs.Statements.{statements_then}
use Rattle.def_grammar.specs.Sentences.{Sentence, bare}
use Rattle.def_grammar.specs.Laws.{ReadAreGrammatical}
use Rattle.def_grammar.proofs.States.{State, closed, tokens_then, reading_of, IsState, Next, goes, ends}
use Rattle.def_grammar.proofs.NextStates.{next}
use Rattle.def_grammar.proofs.Ended.{AreEnded, files_ended}
use Rattle.def_grammar.proofs.Faults.{not_ending}

-- A token that was taken.
pub record IsTaken (answer : Result Reading DefKind) (go : Reading → Result DefFile DefRefusal) (d : DefFile) : Type 0 where
  pub reading : Reading
  pub is : answer ≡ Ok reading
  pub goes : go reading ≡ Ok d

abbrev refused : DefRefusal → Result DefFile DefRefusal
refused f = Err f

abbrev read_as : DefFile → Result DefFile DefRefusal
read_as d = Ok d

not_read : (f : DefRefusal) (d : DefFile) → refused f ≡ Ok d → ⊥
not_read f d h = cc

read_is : (d e : DefFile) → read_as d ≡ Ok e → d ≡ e
read_is d e h = cc

is_taken : (answer : Result Reading DefKind) (line : ℕ) (go : Reading → Result DefFile DefRefusal) (d : DefFile) → (at_line line answer >>= go) ≡ Ok d → IsTaken answer go d
is_taken (Ok r) line go d h = record { reading = r; is = refl; goes = h }
is_taken (Err k) line go d h = absurd (not_read _ d h)

-- The last token.
last : (before : List Lexeme → List Lexeme) (t : Lexeme) (r : Reading) (d : DefFile) → t ≡ ending → file_of r.draft ≡ d → Next before t r → Sentence (before (t ∷ [])) d
last before t r d is says (goes s fine tokens reading other) = absurd (not_ending t is other)
last before t r d is says (ends ss fine tokens end reading) =
    record {
      statements = ss;
      allowed = fine;
      spelled = tokens (t ∷ []) ∙ ap (λ u. statements_then ss (u ∷ [])) is;
      means = sym says ∙ sym (ap (λ (x : Reading). file_of x.draft) reading);
    }

-- Another one.
another : (before : List Lexeme → List Lexeme) (t : Lexeme) (r : Reading) (ts : List Placed) (d : DefFile) → is_ending t ≡ false → run r ts ≡ Ok d
    → ((s : State) → IsState s → run (reading_of s) ts ≡ Ok d → Sentence (tokens_then s (bare ts)) d)
    → Next before t r → Sentence (before (t ∷ bare ts)) d
another before t r ts d is h rest (goes s fine tokens reading other) =
    subst (λ (xs : List Lexeme). Sentence xs d) (tokens (bare ts)) (rest s fine (ap (λ (x : Reading). run x ts) reading ∙ h))
another before t r ts d is h rest (ends ss fine tokens end reading) = absurd (not_ending t end is)

read_from : (ts : List Placed) (s : State) (d : DefFile) → AreEnded ts → IsState s → run (reading_of s) ts ≡ Ok d → Sentence (tokens_then s (bare ts)) d
read_from [] s d ended fine h = absurd ended
read_from (t ∷ []) s d ended fine h =
    let taken = is_taken (step (reading_of s) t.lexeme) t.line (λ r. run r []) d h in
    last (tokens_then s) t.lexeme taken.reading d ended (read_is _ d taken.goes) (next s fine t.lexeme taken.reading taken.is)
read_from (t ∷ u ∷ ts) s d ended fine h =
    let taken = is_taken (step (reading_of s) t.lexeme) t.line (λ r. run r (u ∷ ts)) d h in
    another (tokens_then s) t.lexeme taken.reading (u ∷ ts) d ended.0 taken.goes
    (λ q good k. read_from (u ∷ ts) q d ended.1 good k)
    (next s fine t.lexeme taken.reading taken.is)

pub read_grammatical : ReadAreGrammatical
read_grammatical bytes d h = read_from (tokens_of bytes) (closed []) d (files_ended bytes) tt h
