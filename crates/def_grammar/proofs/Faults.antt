-- The fault that is answered is the first fault of the file.
use Rattle.std.proofs.Common.{◌≡◌, List, [], ◌∷◌, ◌++◌, Result, Ok, Err, refl, ap, sym, subst, ◌∙◌, true, false, inl, inr, append-nil}
use Rattle.obj_types.specs.declared.definition.DefFile.{DefFile}
use Rattle.def_model.specs.Lexemes.{Lexeme, stray, ending, is_stray, is_ending}
use Rattle.def_model.specs.Tokens.{Placed, tokens_of}
use Rattle.lx_types.specs.Answers.{◌>>=◌}
use Rattle.def_model.specs.declared.refusal.DefKind.{DefKind}
use Rattle.def_model.specs.declared.refusal.DefKind.TheVariants as kinds
use Rattle.def_model.specs.declared.refusal.DefRefusal.{DefRefusal}
use Rattle.def_model.specs.declared.draft.Reading.{Reading}
use Rattle.def_model.specs.Draft.{fresh}
use Rattle.def_model.specs.Meaning.{file_of}
use Rattle.def_model.specs.Reading.{step, token_at, at_line, run}
use Rattle.def_file.proofs.SaysLaws.{says}
use Rattle.def_grammar.specs.Statements.{statements_then}
use Rattle.def_grammar.specs.Sentences.{Sentence, bare}
use Rattle.def_grammar.specs.Faults.{Begins, MayStand, AnotherMay, NoneMay, IsCause, IsFirstFault, alike}
use Rattle.def_grammar.specs.Laws.{FaultsAreFirst}
use Rattle.def_grammar.proofs.Grammatical.{sentence_read}
use Rattle.def_grammar.proofs.States.{State, closed, tokens_then, reading_of, IsState, Next, goes, ends}
use Rattle.def_grammar.proofs.NextStates.{next, next_at}
use Rattle.def_grammar.proofs.Ended.{AreEnded, files_ended}
use Rattle.def_grammar.proofs.Completing.{Completed, ended, completed}
use Rattle.def_grammar.proofs.StepCauses.{Takes, TakesAnother, TakesNone, StepCause, kind_is}
use Rattle.def_grammar.proofs.FaultStates.{fault_at}

-- The tokens so far are those of a state, and a reading after them stands there.
pub record Reached (s : State) (before : List Placed) : Type 0 where
  pub fine : IsState s
  pub spelled : (rest : List Lexeme) → bare before ++ rest ≡ tokens_then s rest
  pub reads : (rest : List Lexeme) → says fresh (tokens_then s rest) ≡ says (reading_of s) rest

bare_more : (before : List Placed) (t : Placed) (rest : List Lexeme) → bare (before ++ t ∷ []) ++ rest ≡ bare before ++ t.lexeme ∷ rest
bare_more [] t rest = refl
bare_more (x ∷ before) t rest = ap (λ xs. x.lexeme ∷ xs) (bare_more before t rest)

reached_more : (s q : State) (before : List Placed) (t : Placed) (r : Reading) → Reached s before → step (reading_of s) t.lexeme ≡ Ok r → IsState q
    → ((rest : List Lexeme) → tokens_then q rest ≡ tokens_then s (t.lexeme ∷ rest)) → reading_of q ≡ r → Reached q (before ++ t ∷ [])
reached_more s q before t r h taken fine tokens reading =
    record {
      fine = fine;
      spelled = λ rest. bare_more before t rest ∙ (h.spelled (t.lexeme ∷ rest) ∙ sym (tokens rest));
      reads = λ rest.
          ap (says fresh) (tokens rest)
          ∙ (h.reads (t.lexeme ∷ rest)
          ∙ (ap (λ a. a >>= (λ n. says n rest)) taken
          ∙ ap (λ (x : Reading). says x rest) (sym reading)));
    }

-- ---- what may stand is what is taken

pub one_more : (xs : List Lexeme) (t : Lexeme) (rest : List Lexeme) → (xs ++ t ∷ []) ++ rest ≡ xs ++ t ∷ rest
one_more [] t rest = refl
one_more (x ∷ xs) t rest = ap (λ ys. x ∷ ys) (one_more xs t rest)

begins_by : (tokens : List Lexeme) (before : List Lexeme → List Lexeme) → ((rest : List Lexeme) → tokens ++ rest ≡ before rest) → Completed before → Begins tokens
begins_by tokens before is c =
    record { rest = c.rest; value = c.value; sentence = subst (λ (xs : List Lexeme). Sentence xs c.value) (sym (is c.rest)) c.sentence }

may_by : (s : State) (before : List Placed) (t : Lexeme) (r : Reading) → Reached s before → Next (tokens_then s) t r → MayStand (bare before) t
may_by s before t r h (goes q fine tokens reading other) =
    begins_by (bare before ++ t ∷ []) (tokens_then q) (λ rest. one_more (bare before) t rest ∙ (h.spelled (t ∷ rest) ∙ sym (tokens rest))) (completed q fine)
may_by s before t r h (ends ss fine tokens is reading) =
    begins_by (bare before ++ t ∷ []) (λ rest. tokens_then s (t ∷ rest)) (λ rest. one_more (bare before) t rest ∙ h.spelled (t ∷ rest))
    (ended (λ rest. tokens_then s (t ∷ rest)) [] ss fine (tokens (t ∷ []) ∙ ap (λ u. statements_then ss (u ∷ [])) is))

pub may : (s : State) (before : List Placed) (t : Lexeme) → Reached s before → Takes (reading_of s) t → MayStand (bare before) t
may s before t h taken = may_by s before t taken.reading h (next_at s h.fine t taken.reading taken.is)

abbrev read_as : DefFile → Result DefFile DefKind
read_as d = Ok d

abbrev refused_as : DefKind → Result DefFile DefKind
refused_as k = Err k

not_read : (k : DefKind) (d : DefFile) → refused_as k ≡ Ok d → ⊥
not_read k d h = cc

taken_by : (s : State) (t : Lexeme) (rest : List Lexeme) (d : DefFile) (a : Result Reading DefKind) → token_at (reading_of s).draft (reading_of s).place t ≡ a
    → (a >>= (λ n. says n rest)) ≡ Ok d → Takes (reading_of s) t
taken_by s t rest d (Ok r) is h = record { reading = r; is = is }
taken_by s t rest d (Err k) is h = absurd (not_read k d h)

step_taken : (s : State) (t : Lexeme) (rest : List Lexeme) (d : DefFile) → says (reading_of s) (t ∷ rest) ≡ Ok d → Takes (reading_of s) t
unfolding step
step_taken s stray rest d h = absurd (not_read kinds.Token d h)
step_taken s t rest d h = taken_by s t rest d (token_at (reading_of s).draft (reading_of s).place t) refl h

pub taken : (s : State) (before : List Placed) (t : Lexeme) → Reached s before → MayStand (bare before) t → Takes (reading_of s) t
taken s before t h m =
    let spelled : (bare before ++ t ∷ []) ++ m.rest ≡ tokens_then s (t ∷ m.rest) = one_more (bare before) t m.rest ∙ h.spelled (t ∷ m.rest) in
    step_taken s t m.rest m.value
    (sym (h.reads (t ∷ m.rest)) ∙ (ap (says fresh) (sym spelled) ∙ sentence_read ((bare before ++ t ∷ []) ++ m.rest) m.value m.sentence))

-- ---- the cause

another_may : (s : State) (before : List Placed) (t : Lexeme) → Reached s before → TakesAnother (reading_of s) t → AnotherMay (bare before) t
another_may s before t h a = record { value = a.value; may = may s before (alike t a.value) h a.takes }

none_may : (s : State) (before : List Placed) (t : Lexeme) → Reached s before → TakesNone (reading_of s) t → NoneMay (bare before) t
none_may s before t h none v m = none v (taken s before (alike t v) h m)

spelled_alone : (s : State) (before : List Placed) → Reached s before → bare before ≡ tokens_then s []
spelled_alone s before h = sym (append-nil (bare before)) ∙ h.spelled []

cause_is : (s : State) (before : List Placed) (t : Lexeme) (k : DefKind) → Reached s before → is_stray t ≡ false → StepCause (reading_of s) (tokens_then s) t k → IsCause (bare before) t k
cause_is s before t kinds.Token h sound c = absurd c
cause_is s before t kinds.Statement h sound c = (may s before ending h c.0, c.1, none_may s before t h c.2, sound)
cause_is s before t kinds.Expected h sound (inl c) = (sound, inl ((λ m. c.0 (taken s before ending h m)), none_may s before t h c.1))
cause_is s before t kinds.Expected h sound (inr c) = (sound, inr (c.0, another_may s before t h c.1))
cause_is s before t kinds.Number h sound c = (c.0, another_may s before t h c.1)
cause_is s before t kinds.Conflict h sound c = (c.0, another_may s before t h c.1)
cause_is s before t kinds.Twice h sound c =
    let again = c.1 in (
      may s before ending h c.0,
      record { begun = again.begun; is = again.is; statements = again.statements; allowed = again.allowed; spelled = spelled_alone s before h ∙ again.spelled; again = again.again },
    )
cause_is s before t kinds.TooLong h sound c = (c.0, another_may s before t h c.1)

step_cause : (s : State) (before : List Placed) (t : Lexeme) (k : DefKind) → Reached s before → step (reading_of s) t ≡ Err k → IsCause (bare before) t k
unfolding step
step_cause s before stray k h refused = subst (IsCause (bare before) stray) (kind_is kinds.Token k refused) refl
step_cause s before t k h refused = cause_is s before t k h refl (fault_at s h.fine t k refused)

-- ---- the first fault

abbrev fault_of : DefRefusal → Result DefFile DefRefusal
fault_of f = Err f

abbrev value_of : DefFile → Result DefFile DefRefusal
value_of d = Ok d

no_fault : (d : DefFile) (f : DefRefusal) → value_of d ≡ Err f → ⊥
no_fault d f h = cc

fault_is : (f g : DefRefusal) → fault_of f ≡ Err g → f ≡ g
fault_is f g h = cc

says_stops : (s : State) (t : Lexeme) (k : DefKind) (rest : List Lexeme) (d : DefFile) → step (reading_of s) t ≡ Err k → says (reading_of s) (t ∷ rest) ≡ Ok d → ⊥
says_stops s t k rest d refused h = not_read k d (ap (λ a. a >>= (λ n. says n rest)) (sym refused) ∙ h)

stops : (s : State) (before : List Placed) (t : Lexeme) (k : DefKind) → Reached s before → step (reading_of s) t ≡ Err k → MayStand (bare before) t → ⊥
stops s before t k h refused m =
    let spelled : (bare before ++ t ∷ []) ++ m.rest ≡ tokens_then s (t ∷ m.rest) = one_more (bare before) t m.rest ∙ h.spelled (t ∷ m.rest) in
    says_stops s t k m.rest m.value refused
    (sym (h.reads (t ∷ m.rest)) ∙ (ap (says fresh) (sym spelled) ∙ sentence_read ((bare before ++ t ∷ []) ++ m.rest) m.value m.sentence))

here_is : (s : State) (before : List Placed) (t : Placed) (ts : List Placed) (k : DefKind) (f : DefRefusal) → Reached s before → step (reading_of s) t.lexeme ≡ Err k
    → record { line = t.line; kind = k } ≡ f → IsFirstFault (before ++ t ∷ ts) f
here_is s before t ts k f h refused is =
    record {
      before = before;
      here = t;
      after = ts;
      are = refl;
      begins = begins_by (bare before) (tokens_then s) h.spelled (completed s h.fine);
      stops = stops s before t.lexeme k h refused;
      line = sym (ap (λ (g : DefRefusal). g.line) is);
      cause = subst (λ (g : DefRefusal). IsCause (bare before) t.lexeme g.kind) is (step_cause s before t.lexeme k h refused);
    }

pub not_ending : (t : Lexeme) → t ≡ ending → is_ending t ≡ false → ⊥
not_ending t h k = let yes : is_ending t ≡ true = ap is_ending h in cc

placed_more : (before : List Placed) (t : Placed) (ts : List Placed) → (before ++ t ∷ []) ++ ts ≡ before ++ t ∷ ts
placed_more [] t ts = refl
placed_more (x ∷ before) t ts = ap (λ ys. x ∷ ys) (placed_more before t ts)

later : (s : State) (before : List Placed) (t u : Placed) (ts : List Placed) (r : Reading) (f : DefRefusal) → Reached s before → step (reading_of s) t.lexeme ≡ Ok r
    → is_ending t.lexeme ≡ false → run r (u ∷ ts) ≡ Err f
    → ((q : State) → Reached q (before ++ t ∷ []) → run (reading_of q) (u ∷ ts) ≡ Err f → IsFirstFault ((before ++ t ∷ []) ++ u ∷ ts) f)
    → Next (tokens_then s) t.lexeme r → IsFirstFault (before ++ t ∷ u ∷ ts) f
later s before t u ts r f h taken other refused rest (goes q fine tokens reading is) =
    subst (λ (xs : List Placed). IsFirstFault xs f) (placed_more before t (u ∷ ts))
    (rest q (reached_more s q before t r h taken fine tokens reading) (ap (λ (x : Reading). run x (u ∷ ts)) reading ∙ refused))
later s before t u ts r f h taken other refused rest (ends ss fine tokens is reading) = absurd (not_ending t.lexeme is other)

fault_by : (s : State) (before : List Placed) (t : Placed) (ts : List Placed) (f : DefRefusal) (a : Result Reading DefKind) → Reached s before → AreEnded (t ∷ ts)
    → step (reading_of s) t.lexeme ≡ a
    → (at_line t.line a >>= (λ r. run r ts)) ≡ Err f
    → ((q : State) → AreEnded ts → Reached q (before ++ t ∷ []) → run (reading_of q) ts ≡ Err f → IsFirstFault ((before ++ t ∷ []) ++ ts) f)
    → IsFirstFault (before ++ t ∷ ts) f
fault_by s before t ts f (Err k) h all is refused rest = here_is s before t ts k f h is (fault_is _ f refused)
fault_by s before t [] f (Ok r) h all is refused rest = absurd (no_fault (file_of r.draft) f refused)
fault_by s before t (u ∷ ts) f (Ok r) h all is refused rest =
    later s before t u ts r f h is all.0 refused (λ q reached k. rest q all.1 reached k) (next s h.fine t.lexeme r is)

faults_from : (ts : List Placed) (before : List Placed) (s : State) (f : DefRefusal) → AreEnded ts → Reached s before → run (reading_of s) ts ≡ Err f → IsFirstFault (before ++ ts) f
faults_from [] before s f all h refused = absurd all
faults_from (t ∷ ts) before s f all h refused =
    fault_by s before t ts f (step (reading_of s) t.lexeme) h all refl refused (λ q more reached k. faults_from ts (before ++ t ∷ []) q f more reached k)

pub faults_first : FaultsAreFirst
faults_first bytes f h =
    faults_from (tokens_of bytes) [] (closed []) f (files_ended bytes) (record { fine = tt; spelled = λ rest. refl; reads = λ rest. refl }) h
