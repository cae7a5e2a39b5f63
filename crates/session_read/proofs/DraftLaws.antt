-- What statements say together, one by one; and the lines of a session, one by one.
use Rattle.std.proofs.Common.{◌≡◌, ℕ, ◌+◌, ◌<◌, ◌≤◌, List, [], ◌∷◌, ◌++◌, length, Option, Some, None, Result, Ok, Err, refl, sym, ap, subst, ◌∙◌, arith, append_assoc, append-nil, length-append}
use Rattle.std.specs.Prelude.{IsErrAnd}
use Rattle.std.specs.List.{filter_map}
use Rattle.std.proofs.lemmas.List.Elements.{filter_map-append}
use Rattle.std.proofs.lemmas.List.Sums.{fold-append}
use Rattle.lx_types.specs.declared.fail.Fail.{Fail}
use Rattle.lx_types.specs.declared.fail.Fail.TheVariants.{Said, NoMemory}
use Rattle.lx_types.specs.Answers.{Answers}
use Rattle.load_model.specs.declared.commands.Command.{Command}
use Rattle.session_model.specs.declared.sessions.Script.{Script}
use Rattle.session_model.specs.declared.sessions.Session.{Session}
use Rattle.session_model.specs.declared.sessions.SessionKind.{SessionKind}
use Rattle.session_model.specs.declared.sessions.SessionRefusal.{SessionRefusal}
use Rattle.session_model.specs.Lines.{lines_in}
use Rattle.session_model.specs.Statements.{Statement, gives, fails, process, command, Reading, nothing, says, wrong, reading_of}
use Rattle.session_model.specs.Sessions.{module_of, failing_in, commands_of, scripts_of, session_of, statement_in, statements_of, number_or, count_or, last_number, commands_so_far, fault_among, fault_later, line_fault, SesFault, Ses}
use Rattle.session_model.proofs.LinesAbove.{or_next, fault_from, ses_fault_is}
use Rattle.session_read.specs.declared.draft.Draft.{Draft}
use Rattle.session_read.specs.Drafts.{nothing_said, open_with, session_in, fault_after_draft, with_statement, fault_of_reading, with_reading, fail_at}

-- The draft is what the statements say: its scripts are theirs, whatever statements follow.
pub record Holds (ss : List Statement) (d : Draft) : Type 0 where
  pub modules : d.modules ≡ filter_map module_of ss
  pub failing : d.failing ≡ filter_map failing_in ss
  pub number : d.pid ≡ last_number ss
  pub count : length d.commands ≡ commands_so_far ss
  pub scripts : (ts : List Statement) → scripts_of (ss ++ ts) ≡ d.scripts ++ (open_with d.pid (d.commands ++ commands_of ts) ++ scripts_of ts)

pub holds-none : Holds [] nothing_said
holds-none = record { modules = refl; failing = refl; number = refl; count = refl; scripts = λ ts. refl }

-- modules come before all scripts
before-scripts : (o : Option ℕ) (k : Option SessionKind) (kind : SessionKind) → (k ≡ Some kind) → ((last : ℕ) → o ≡ Some last → k ≡ None) → o ≡ None
before-scripts None k kind h none = refl
before-scripts (Some last) k kind h none = absurd (let e = none last refl in let no : ⊥ = cc in no)

none-for-module : (o : Option ℕ) (n : ℕ) (m : _) → fault_among o n (gives m) ≡ None → o ≡ None
none-for-module None n m h = refl
none-for-module (Some last) n m h = absurd (let no : ⊥ = cc in no)

none-for-failing : (o : Option ℕ) (n : ℕ) (f : _) → fault_among o n (fails f) ≡ None → o ≡ None
none-for-failing None n f h = refl
none-for-failing (Some last) n f h = absurd (let no : ⊥ = cc in no)

open-none : (o : Option ℕ) (cs ds : List Command) → o ≡ None → open_with o cs ≡ open_with o ds
open-none None cs ds h = refl
open-none (Some pid) cs ds h = absurd (let no : ⊥ = cc in no)

one-more : (ss : List Statement) (s : Statement) (ts : List Statement) → scripts_of ((ss ++ s ∷ []) ++ ts) ≡ scripts_of (ss ++ (s ∷ ts))
one-more ss s ts = ap scripts_of (append_assoc ss (s ∷ []) ts)

pub numbers-more : (ss : List Statement) (s : Statement) → number_or (last_number ss) s ≡ last_number (ss ++ s ∷ [])
numbers-more ss s = sym (fold-append number_or None ss (s ∷ []))

pub counts-more : (ss : List Statement) (s : Statement) → count_or (commands_so_far ss) s ≡ commands_so_far (ss ++ s ∷ [])
counts-more ss s = sym (fold-append count_or 0 ss (s ∷ []))

pub holds-more : (ss : List Statement) (d : Draft) (s : Statement) → Holds ss d → fault_after_draft d s ≡ None → Holds (ss ++ s ∷ []) (with_statement d s)
holds-more ss d (gives m) h good =
    let none : d.pid ≡ None = none-for-module d.pid (length d.commands) m good in
    record {
      modules = ap (λ ms. ms ++ m ∷ []) h.modules ∙ sym (filter_map-append module_of ss (gives m ∷ []));
      failing = h.failing ∙ sym (append-nil _) ∙ sym (filter_map-append failing_in ss (gives m ∷ []));
      number = h.number ∙ numbers-more ss (gives m);
      count = h.count ∙ counts-more ss (gives m);
      scripts = λ ts.
          one-more ss (gives m) ts ∙ h.scripts (gives m ∷ ts)
          ∙ ap (λ last. d.scripts ++ (last ++ scripts_of ts)) (open-none d.pid (d.commands ++ []) (d.commands ++ commands_of ts) none);
    }
holds-more ss d (fails f) h good =
    let none : d.pid ≡ None = none-for-failing d.pid (length d.commands) f good in
    record {
      modules = h.modules ∙ sym (append-nil _) ∙ sym (filter_map-append module_of ss (fails f ∷ []));
      failing = ap (λ fs. fs ++ f ∷ []) h.failing ∙ sym (filter_map-append failing_in ss (fails f ∷ []));
      number = h.number ∙ numbers-more ss (fails f);
      count = h.count ∙ counts-more ss (fails f);
      scripts = λ ts.
          one-more ss (fails f) ts ∙ h.scripts (fails f ∷ ts)
          ∙ ap (λ last. d.scripts ++ (last ++ scripts_of ts)) (open-none d.pid (d.commands ++ []) (d.commands ++ commands_of ts) none);
    }
holds-more ss d (process n) h good = record {
  modules = h.modules ∙ sym (append-nil _) ∙ sym (filter_map-append module_of ss (process n ∷ []));
  failing = h.failing ∙ sym (append-nil _) ∙ sym (filter_map-append failing_in ss (process n ∷ []));
  number = numbers-more ss (process n);
  count = counts-more ss (process n);
  scripts = λ ts.
      one-more ss (process n) ts ∙ h.scripts (process n ∷ ts)
      ∙ ap (λ cs. d.scripts ++ (open_with d.pid cs ++ scripts_of (process n ∷ ts))) (append-nil d.commands)
      ∙ sym (append_assoc d.scripts (open_with d.pid d.commands) (scripts_of (process n ∷ ts)));
}
holds-more ss d (command c) h good = record {
  modules = h.modules ∙ sym (append-nil _) ∙ sym (filter_map-append module_of ss (command c ∷ []));
  failing = h.failing ∙ sym (append-nil _) ∙ sym (filter_map-append failing_in ss (command c ∷ []));
  number = h.number ∙ numbers-more ss (command c);
  count = length-append d.commands (c ∷ []) ∙ ap (λ n. n + 1) h.count ∙ counts-more ss (command c);
  scripts = λ ts.
      one-more ss (command c) ts ∙ h.scripts (command c ∷ ts)
      ∙ ap (λ cs. d.scripts ++ (open_with d.pid cs ++ scripts_of ts)) (sym (append_assoc d.commands (c ∷ []) (commands_of ts)));
}

-- ---- a line more

reading-more : (done : List (List ℕ)) (line : List ℕ) (d : Draft) (r : Reading) → r ≡ reading_of line
    → Holds (statements_of done) d → fault_of_reading d r ≡ None → Holds (statements_of (done ++ line ∷ [])) (with_reading d r)
reading-more done line d r is h good = subst (λ ss. Holds ss (with_reading d r)) (sym all) (step r good)
  where
    all : statements_of (done ++ line ∷ []) ≡ statements_of done ++ filter_map statement_in (r ∷ [])
    all = filter_map-append (λ line. statement_in (reading_of line)) done (line ∷ []) ∙ ap (λ r. statements_of done ++ filter_map statement_in (r ∷ [])) (sym is)

    step : (r : Reading) → fault_of_reading d r ≡ None → Holds (statements_of done ++ filter_map statement_in (r ∷ [])) (with_reading d r)
    step nothing good = subst (λ ss. Holds ss d) (sym (append-nil (statements_of done))) h
    step (says s) good = holds-more (statements_of done) d s h good
    step (wrong kind) good = absurd (let no : ⊥ = cc in no)

fault-same : (ss : List Statement) (d : Draft) (r : Reading) → Holds ss d → fault_later ss r ≡ fault_of_reading d r
fault-same ss d nothing h = refl
fault-same ss d (wrong kind) h = refl
fault-same ss d (says s) h = ap (λ last. fault_among last (commands_so_far ss) s) (sym h.number) ∙ ap (λ n. fault_among d.pid n s) (sym h.count)

-- So many lines were read, which say the draft. What is wrong with the bytes is in those that are left.
pub record Reached (bytes left : List ℕ) (number : ℕ) (d : Draft) : Type 0 where
  pub done : List (List ℕ)
  pub lines : lines_in bytes ≡ done ++ lines_in left
  pub count : number ≡ length done
  pub few : number + length left ≤ length bytes
  pub fault : SesFault bytes ≡ fault_from done (lines_in left)
  pub holds : Holds (statements_of done) d

pub reached-none : (bytes : List ℕ) (d : Draft) → d ≡ nothing_said → Reached bytes bytes 0 d
reached-none bytes d none = record {
  done = [];
  lines = refl;
  count = refl;
  few = omega arith;
  fault = ses_fault_is bytes;
  holds = subst (λ d. Holds [] d) (sym none) holds-none;
}

fault-next : (done : List (List ℕ)) (line : List ℕ) (after : List (List ℕ)) (o : Option SessionKind) → line_fault done line ≡ o
    → fault_from done (line ∷ after) ≡ or_next done o (fault_from (done ++ line ∷ []) after)
fault-next done line after o h = ap (λ o. or_next done o (fault_from (done ++ line ∷ []) after)) h

fault-of : (done : List (List ℕ)) (line : List ℕ) (d : Draft) → Holds (statements_of done) d → line_fault done line ≡ fault_of_reading d (reading_of line)
unfolding line_fault
fault-of done line d h = fault-same (statements_of done) d (reading_of line) h

pub reached-more : (bytes left after line : List ℕ) (number : ℕ) (d next : Draft) → Reached bytes left number d
    → lines_in left ≡ line ∷ lines_in after → length after < length left
    → fault_of_reading d (reading_of line) ≡ None → next ≡ with_reading d (reading_of line) → Reached bytes after (number + 1) next
reached-more bytes left after line number d next r cut shorter good is = record {
  done = r.done ++ line ∷ [];
  lines = r.lines ∙ ap (λ ls. r.done ++ ls) cut ∙ sym (append_assoc r.done (line ∷ []) (lines_in after));
  count = ap (λ n. n + 1) r.count ∙ sym (length-append r.done (line ∷ []));
  few = omega (arith, r.few, shorter);
  fault = r.fault ∙ ap (fault_from r.done) cut ∙ fault-next r.done line (lines_in after) None (fault-of r.done line d r.holds ∙ good);
  holds = subst (λ d. Holds (statements_of (r.done ++ line ∷ [])) d) (sym is) (reading-more r.done line d (reading_of line) refl r.holds good);
}

pub reached-fault : (bytes left after line : List ℕ) (number : ℕ) (d : Draft) (kind : SessionKind) → Reached bytes left number d
    → lines_in left ≡ line ∷ lines_in after → fault_of_reading d (reading_of line) ≡ Some kind
    → SesFault bytes ≡ Some (record { line = number + 1; kind = kind })
reached-fault bytes left after line number d kind r cut bad =
    r.fault ∙ ap (fault_from r.done) cut ∙ fault-next r.done line (lines_in after) (Some kind) (fault-of r.done line d r.holds ∙ bad)
    ∙ ap (λ n. Some (record { line = n + 1; kind = kind })) (sym r.count)

-- the same, as a call that takes memory tells it
pub reached-told : {A B : Type 0} (bytes left after line : List ℕ) (number : ℕ) (d : Draft) (fail : Fail SessionKind) (told : Fail SessionRefusal)
    (P : A → Type 0) (Q : B → Type 0) → Reached bytes left number d → lines_in left ≡ line ∷ lines_in after
    → Answers (Err fail) P (λ kind. fault_of_reading d (reading_of line) ≡ Some kind) → told ≡ fail_at (number + 1) fail
    → Answers (Err told) Q (λ why. SesFault bytes ≡ Some why)
reached-told bytes left after line number d (Said kind) told P Q r cut bad is =
    subst (λ told. Answers (Err told) Q (λ why. SesFault bytes ≡ Some why)) (sym is) (reached-fault bytes left after line number d kind r cut bad)
reached-told bytes left after line number d NoMemory told P Q r cut bad is =
    subst (λ told. Answers (Err told) Q (λ why. SesFault bytes ≡ Some why)) (sym is) tt

scripts-all : (ss : List Statement) (d : Draft) → Holds ss d → d.scripts ++ open_with d.pid d.commands ≡ scripts_of ss
scripts-all ss d h =
    ap (λ cs. d.scripts ++ open_with d.pid cs) (sym (append-nil d.commands))
    ∙ ap (λ last. d.scripts ++ last) (sym (append-nil (open_with d.pid (d.commands ++ []))))
    ∙ sym (h.scripts []) ∙ ap scripts_of (append-nil ss)

pub session-same : (ms ms' : List _) (fs fs' : List _) (cs cs' : List Script) → ms ≡ ms' → fs ≡ fs' → cs ≡ cs'
    → ◌≡◌ {A = Session} (record { modules = ms; failing = fs; scripts = cs }) (record { modules = ms'; failing = fs'; scripts = cs' })
session-same ms ms' fs fs' cs cs' p q r = (λ i. record { modules = p i; failing = q i; scripts = r i })

pub reached-all : (bytes left : List ℕ) (number : ℕ) (d : Draft) (s : Session) → Reached bytes left number d → length left ≡ 0 → s ≡ session_in d → Ses bytes s
unfolding lines_in session_of
reached-all bytes [] number d s r none is = record {
  good = r.fault;
  says = is ∙ session-same _ _ _ _ _ _ r.holds.modules r.holds.failing (scripts-all (statements_of r.done) d r.holds)
      ∙ ap (λ lines. session_of (statements_of lines)) (sym (append-nil r.done) ∙ sym r.lines);
}
reached-all bytes (b ∷ left) number d s r none is = absurd (omega (arith, none))

-- A refusal that is handed on.
pub refused : {A B : Type 0} (answer : Result B (Fail SessionKind)) (f : Fail SessionKind) (P : A → Type 0) (Q : B → Type 0) (R : SessionKind → Type 0) → IsErrAnd answer (λ e. e ≡ f) → Answers {A = A} (Err f) P R → Answers answer Q R
refused (Ok x) f P Q R is h = absurd is
refused (Err g) (Said kind) P Q R is h = subst (λ (e : Fail SessionKind). Answers (Err e) Q R) (sym is) h
refused (Err g) NoMemory P Q R is h = subst (λ (e : Fail SessionKind). Answers (Err e) Q R) (sym is) tt
