-- The first line that is wrong.
use Rattle.std.proofs.Common.{◌≡◌, ℕ, ◌+◌, ◌⊎◌, inl, inr, List, [], ◌∷◌, ◌++◌, length, Option, Some, None, refl, sym, ◌∙◌, ap, subst, append_assoc}
use Rattle.std.proofs.lemmas.List.{append-nil}
use Rattle.session_model.specs.declared.sessions.SessionKind.{SessionKind}
use Rattle.session_model.specs.declared.sessions.SessionRefusal.{SessionRefusal}
use Rattle.session_model.specs.Lines.{lines_in}
use Rattle.session_model.specs.Sessions.{session_of, statements_of, line_fault, SesFault, Ses}
use Rattle.session_model.proofs.LinesAbove.{or_next, fault_from, ses_fault_is}
use Rattle.session_model.specs.Laws.{MeansOne, MeansOrFails, FaultMeansNone, NoneWrong, FirstWrong, FaultIsFirst}

pub means_one : MeansOne
means_one bytes s t a b = a.says ∙ sym b.says

pub means_or_fails : MeansOrFails
means_or_fails bytes = step (SesFault bytes) refl
  where
    step : (o : Option SessionRefusal) → SesFault bytes ≡ o → Ses bytes (session_of (statements_of (lines_in bytes))) ⊎ ((e : SessionRefusal) × (SesFault bytes ≡ Some e))
    step None h = inl (record { good = h; says = refl })
    step (Some e) h = inr (e, h)

none_some : (o : Option SessionRefusal) (e : SessionRefusal) → o ≡ Some e → o ≡ None → ⊥
none_some o e h k = (let wrong : None ≡ Some e = sym k ∙ h in apart e wrong)
  where
    apart : (e : SessionRefusal) → None ≡ Some e → ⊥
    apart e h = cc

pub fault_means_none : FaultMeansNone
fault_means_none bytes s e h a = none_some (SesFault bytes) e h a.good

good_more : (before lines : List (List ℕ)) (line : List ℕ) → NoneWrong before lines → line_fault (before ++ lines) line ≡ None → NoneWrong before (lines ++ line ∷ [])
good_more before [] line good none = (ap (λ b. line_fault b line) (sym (append-nil before)) ∙ none, tt)
good_more before (x ∷ lines) line good none =
    (good.0, good_more (before ++ x ∷ []) lines line good.1 (ap (λ b. line_fault b line) (append_assoc before (x ∷ []) lines) ∙ none))

first_from : (before lines : List (List ℕ)) (e : SessionRefusal) → NoneWrong [] before → fault_from before lines ≡ Some e → FirstWrong (before ++ lines) e
first_from before [] e good h = cc
first_from before (line ∷ lines) e good h =
    step (line_fault before line) refl h (λ none. first_from (before ++ line ∷ []) lines e (good_more [] before line good none))
  where
    step : (k : Option SessionKind) → line_fault before line ≡ k → or_next before k (fault_from (before ++ line ∷ []) lines) ≡ Some e →
        (line_fault before line ≡ None → fault_from (before ++ line ∷ []) lines ≡ Some e → FirstWrong ((before ++ line ∷ []) ++ lines) e) →
        FirstWrong (before ++ line ∷ lines) e
    step (Some kind) is h later =
        let it : SessionRefusal = record { line = length before + 1; kind = kind } in
        let same : it ≡ e = cc in
        record {
          before = before;
          line = line;
          after = lines;
          all = refl;
          number = ap (λ r. r.line) (sym same);
          kind = is ∙ ap (λ r. Some r.kind) same;
          good = good;
        }
    step None is h later = subst (λ xs. FirstWrong xs e) (append_assoc before (line ∷ []) lines) (later is h)

pub fault_is_first : FaultIsFirst
fault_is_first bytes e h = first_from [] (lines_in bytes) e tt (sym (ses_fault_is bytes) ∙ h)
