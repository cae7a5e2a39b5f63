-- `check FILE TRANSCRIPT` and contents have one answer at most.
use Rattle.std.proofs.Common.{◌≡◌, ◌⊎◌, ℕ, List, [], ◌∷◌, ◌++◌, inl, inr, refl, ap, sym, subst, ◌∙◌}
use Rattle.std.specs.Prelude.{None}
use Rattle.lx_ports.specs.Calls.{Call}
use Rattle.lx_ports.specs.Files.{Contents}
use Rattle.lx_model.specs.Gathering.{LibraryFault}
use Rattle.session_model.specs.declared.sessions.Session.{Session}
use Rattle.run_model.specs.Sources.{Source, library_of}
use Rattle.check_model.specs.declared.kinds.CheckFault.{CheckFault}
use Rattle.check_model.specs.declared.kinds.CheckKind.{CheckKind}
use Rattle.check_model.specs.declared.kinds.CheckKind.TheVariants as kinds
use Rattle.check_model.specs.Told.{Told, IsTold, told_text}
use Rattle.check_model.specs.TextFault.{TextFault}
use Rattle.check_model.specs.Checks.{Judge, FirstWrong, IsToldWrong, IsRefused as IsWrong}
use Rattle.check_model.specs.Laws.{FirstWrongIsOne, TextFaultIsOne}
use Rattle.transcript_laws.specs.TellsOne.{HasNames, TextsTellOne}
use Rattle.answer_model.specs.declared.said.Said.{Said}
use Rattle.answer_model.specs.CheckAnswer.{Accepts, CheckWords, IsCheck, IsJudged, Refuses, asked_transcript, check_text, judge_of, ok_line}
use Rattle.answer_model.specs.FileLine.{file_line}
use Rattle.answer_model.specs.Items.{Item, raw, session}
use Rattle.answer_model.specs.Loading.{IsRefused}
use Rattle.answer_model.specs.RunAnswer.{AreGiven, IsThrough, SaysRun, SaysSession, asked_session}
use Rattle.answer_laws.specs.CheckLaws.{CheckHasOneAnswer, ChecksAlike, GivesNames}
use Rattle.answer_laws.proofs.Loads.{ap2, AreSound, sound_front, sound_back, read_once, read_or_refused, refused_once as refused_once_at, stops, stops_or_reads}
use Rattle.answer_laws.proofs.RunOnce.{given_once, not_both, run_has_one_answer, session_in, stopped_or_given}

abbrev AreGivenBy : Session → List Call → List Source → Type 0
AreGivenBy s calls sources = AreGiven s.modules calls sources

-- ---- one transcript, judged twice

-- bytes that are refused are no text, or tell what is wrong
either : (j : Judge) (bytes : List ℕ) (number : ℕ) (kind : CheckKind) → IsWrong j bytes number kind →
    ((kind ≡ kinds.Text) × TextFault j.lib bytes number) ⊎ IsToldWrong j bytes number kind
either j bytes number kinds.Text is = inl (refl, is)
either j bytes number kind is = inr is

fault_is : (m n : ℕ) (a b : CheckKind) → m ≡ n → a ≡ b → check_text (record { line = m; kind = a }) ≡ check_text (record { line = n; kind = b })
fault_is m n a b lines kinds_are = ap2 (λ (x : ℕ) (y : CheckKind). check_text (record { line = x; kind = y })) lines kinds_are

module _ (first_one : FirstWrongIsOne) (text_one : TextFaultIsOne) (tells_one : TextsTellOne) (j : Judge) (names : HasNames j.lib) where
  told_once : (bytes : List ℕ) (t u : Told) → IsTold j.lib t → IsTold j.lib u → bytes ≡ told_text j.lib t → bytes ≡ told_text j.lib u → t ≡ u
  told_once bytes t u of with_ is are = tells_one j.lib t u names of with_ (sym is ∙ are)

  accepted_once : (bytes : List ℕ) (said other : Said) → Accepts j bytes said → Accepts j bytes other → said ≡ other
  accepted_once bytes said other h k =
      let same = told_once bytes h.told k.told h.accepted.told k.accepted.told h.accepted.text k.accepted.text in
      h.line ∙ (ap (λ (t : Told). record { status = 0; text = ok_line t.counts }) same ∙ sym k.line)

  not_both_ways : (bytes : List ℕ) (t : Told) (number : ℕ) (kind : CheckKind) → IsTold j.lib t → bytes ≡ told_text j.lib t → ((n : ℕ) (k : CheckKind) → FirstWrong j t n k → ⊥) →
      ((kind ≡ kinds.Text) × TextFault j.lib bytes number) ⊎ IsToldWrong j bytes number kind → ⊥
  not_both_ways bytes t number kind told text fine (inl none) = none.1.none t told text
  not_both_ways bytes t number kind told text fine (inr is) =
      let same = told_once bytes is.it t is.told told is.text text in
      fine number kind (subst (λ (u : Told). FirstWrong j u number kind) same is.wrong)

  accepted_or_refused : (name bytes : List ℕ) (said other : Said) → Accepts j bytes said → Refuses j name bytes other → ⊥
  accepted_or_refused name bytes said other h k =
      not_both_ways bytes h.told k.fault.line k.fault.kind h.accepted.told h.accepted.text (λ n kind wrong. first_one.some j h.told n kind wrong h.accepted.nothing)
      (either j bytes k.fault.line k.fault.kind k.wrong)

  refused_text : (bytes : List ℕ) (m n : ℕ) (a b : CheckKind) → ((a ≡ kinds.Text) × TextFault j.lib bytes m) ⊎ IsToldWrong j bytes m a →
      ((b ≡ kinds.Text) × TextFault j.lib bytes n) ⊎ IsToldWrong j bytes n b → check_text (record { line = m; kind = a }) ≡ check_text (record { line = n; kind = b })
  refused_text bytes m n a b (inl h) (inl k) = fault_is m n a b (text_one j.lib bytes m n h.1 k.1) (h.0 ∙ sym k.0)
  refused_text bytes m n a b (inl h) (inr k) = absurd (h.1.none k.it k.told k.text)
  refused_text bytes m n a b (inr h) (inl k) = absurd (k.1.none h.it h.told h.text)
  refused_text bytes m n a b (inr h) (inr k) =
      let same = told_once bytes h.it k.it h.told k.told h.text k.text in
      let wrong : FirstWrong j k.it m a = subst (λ (u : Told). FirstWrong j u m a) same h.wrong in
      fault_is m n a b (first_one.line j k.it m n a b wrong k.wrong) (first_one.kind j k.it m n a b wrong k.wrong)

  refused_once : (name bytes : List ℕ) (said other : Said) → Refuses j name bytes said → Refuses j name bytes other → said ≡ other
  refused_once name bytes said other h k =
      let same = refused_text bytes h.fault.line k.fault.line h.fault.kind k.fault.kind (either j bytes h.fault.line h.fault.kind h.wrong) (either j bytes k.fault.line k.fault.kind k.wrong) in
      h.told ∙ (ap (λ (text : List ℕ). record { status = 1; text = file_line name text }) same ∙ sym k.told)

  judged_once : (name bytes : List ℕ) (said other : Said) → Accepts j bytes said ⊎ Refuses j name bytes said → Accepts j bytes other ⊎ Refuses j name bytes other → said ≡ other
  judged_once name bytes said other (inl h) (inl k) = accepted_once bytes said other h k
  judged_once name bytes said other (inl h) (inr k) = absurd (accepted_or_refused name bytes said other h k)
  judged_once name bytes said other (inr h) (inl k) = absurd (accepted_or_refused name bytes other said k h)
  judged_once name bytes said other (inr h) (inr k) = refused_once name bytes said other h k

  -- ---- its load

  abbrev SaysLast : List ℕ → Call → Said → Type 0
  SaysLast name call said = IsRefused (asked_transcript name) call said ⊎ IsJudged j name call said

  abbrev bytes_in : List ℕ → Item → List ℕ
  bytes_in d (raw own) = own
  bytes_in d item = d

  both_judged : (contents : Contents) (name : List ℕ) (c d : Call) (said other : Said) → AreSound contents (c ∷ []) → AreSound contents (d ∷ []) → IsJudged j name c said → IsJudged j name d other →
      ChecksAlike (c ∷ []) (d ∷ []) said other
  both_judged contents name c d said other sc sd h k =
      let read = read_once contents (asked_transcript name) c d (raw h.bytes) (raw k.bytes) sc.0 sd.0 h.read k.read in
      let same : h.bytes ≡ k.bytes = ap (bytes_in h.bytes) read.item in
      let first : Accepts j k.bytes said ⊎ Refuses j name k.bytes said = subst (λ (own : List ℕ). Accepts j own said ⊎ Refuses j name own said) same h.judged in
      record { calls = ap (λ (x : Call). x ∷ []) read.call; same = judged_once name k.bytes said other first k.judged }

  last_once : (contents : Contents) (name : List ℕ) (c d : Call) (said other : Said) → AreSound contents (c ∷ []) → AreSound contents (d ∷ []) → SaysLast name c said → SaysLast name d other →
      ChecksAlike (c ∷ []) (d ∷ []) said other
  last_once contents name c d said other sc sd (inl h) (inl k) =
      let stop = refused_once_at contents (asked_transcript name) c d said other sc.0 sd.0 h k in
      record { calls = ap (λ (x : Call). x ∷ []) stop.call; same = stop.said }
  last_once contents name c d said other sc sd (inl h) (inr k) = absurd (read_or_refused contents (asked_transcript name) d c (raw k.bytes) said sd.0 sc.0 k.read h)
  last_once contents name c d said other sc sd (inr h) (inl k) = absurd (read_or_refused contents (asked_transcript name) c d (raw h.bytes) other sc.0 sd.0 h.read k)
  last_once contents name c d said other sc sd (inr h) (inr k) = both_judged contents name c d said other sc sd h k

-- ---- the whole command

module _ (first_one : FirstWrongIsOne) (text_one : TextFaultIsOne) (tells_one : TextsTellOne) (words : CheckWords) (contents : Contents) where
  -- the session was read with the first call, its lines were done with those after it, and the last is left
  record Cut (cs : List Call) (first : Call) (others : List Call) (last : Call) : Type 0 where
    head : AreSound contents (first ∷ others)
    at_end : AreSound contents (last ∷ [])

  cut : (cs : List Call) (first : Call) (others : List Call) (last : Call) → AreSound contents cs → cs ≡ first ∷ others ++ last ∷ [] → Cut cs first others last
  cut cs first others last sound are =
      let all : AreSound contents (first ∷ others ++ last ∷ []) = subst (AreSound contents) are sound in
      record { head = sound_front contents (first ∷ others) (last ∷ []) all; at_end = sound_back contents (first ∷ others) (last ∷ []) all }

  both_checked : (cs ds : List Call) (said other : Said) → GivesNames contents → AreSound contents cs → AreSound contents ds → IsCheck words cs said → IsCheck words ds other →
      ChecksAlike cs ds said other
  both_checked cs ds said other gives sc sd h k =
      let left = cut cs h.first h.others h.last sc h.calls_are in
      let right = cut ds k.first k.others k.last sd k.calls_are in
      let read = read_once contents (asked_session words.session) h.first k.first (session h.session_is) (session k.session_is) left.head.0 right.head.0 h.read k.read in
      let same : k.session_is ≡ h.session_is = sym (ap (session_in h.session_is) read.item) in
      let given = subst (λ (s : Session). AreGivenBy s k.others k.sources) same k.given in
      let lines = given_once contents h.session_is.modules h.others k.others h.sources k.sources left.head.1 right.head.1 h.given given in
      let by : SaysLast first_one text_one tells_one (judge_of h.session_is h.sources) (gives h.session_is.modules h.others h.sources left.head.1 h.given h.fine) words.transcript k.last other =
      subst (λ (p : Session × List Source). IsRefused (asked_transcript words.transcript) k.last other ⊎ IsJudged (judge_of p.0 p.1) words.transcript k.last other)
      (ap2 (λ (s : Session) (xs : List Source). (s, xs)) same (sym lines.sources)) k.says in
      let last = last_once first_one text_one tells_one (judge_of h.session_is h.sources) (gives h.session_is.modules h.others h.sources left.head.1 h.given h.fine) contents words.transcript h.last k.last said other left.at_end right.at_end h.says by in
      record {
        calls = h.calls_are
            ∙ (ap2 (λ (x : List Call) (y : List Call). x ++ y) (ap2 (λ (x : Call) (xs : List Call). x ∷ xs) read.call lines.calls) last.calls ∙ sym k.calls_are);
        same = last.same;
      }

  session_or_check : (s : Session) (cs ds : List Call) (said : Said) (sources : List Source) → AreSound contents cs → AreSound contents ds → SaysSession s cs said None → AreGivenBy s ds sources →
      LibraryFault (library_of sources) ≡ None → ⊥
  session_or_check s cs ds said sources sc sd (inl h) given fine = stopped_or_given contents s.modules cs ds said sources sc sd h given
  session_or_check s cs ds said sources sc sd (inr h) given fine =
      let same = given_once contents s.modules cs ds h.sources sources sc sd h.given given in
      not_both (LibraryFault (library_of h.sources)) h.why (subst (λ (xs : List Source). LibraryFault (library_of xs) ≡ None) (sym same.sources) fine) h.fault

  through_or_check : (cs ds : List Call) (said other : Said) → AreSound contents cs → AreSound contents ds → IsThrough words.session cs said None → IsCheck words ds other → ⊥
  through_or_check cs ds said other sc sd h k =
      let left : AreSound contents (h.first ∷ h.others) = subst (AreSound contents) h.calls_are sc in
      let right = cut ds k.first k.others k.last sd k.calls_are in
      let read = read_once contents (asked_session words.session) h.first k.first (session h.session_is) (session k.session_is) left.0 right.head.0 h.read k.read in
      let same : k.session_is ≡ h.session_is = sym (ap (session_in h.session_is) read.item) in
      session_or_check h.session_is h.others k.others said k.sources left.1 right.head.1 h.says (subst (λ (s : Session). AreGivenBy s k.others k.sources) same k.given) k.fine

  run_or_check : (cs ds : List Call) (said other : Said) → AreSound contents cs → AreSound contents ds → SaysRun words.session cs said None → IsCheck words ds other → ⊥
  run_or_check cs ds said other sc sd (inl h) k =
      let right = cut ds k.first k.others k.last sd k.calls_are in
      stops_or_reads contents (asked_session words.session ∷ []) cs (k.first ∷ []) said (session k.session_is ∷ []) sc (right.head.0, tt)
      (stops (asked_session words.session ∷ []) cs said h.1) (k.read, tt)
  run_or_check cs ds said other sc sd (inr h) k = through_or_check cs ds said other sc sd h k

pub check_has_one_answer : FirstWrongIsOne → TextFaultIsOne → TextsTellOne → CheckHasOneAnswer
check_has_one_answer first_one text_one tells_one words contents cs ds said other gives sc sd (inl h) (inl k) =
    let same = run_has_one_answer words.session contents cs ds said other None None sc sd h k in
    record { calls = same.calls; same = same.refused refl }
check_has_one_answer first_one text_one tells_one words contents cs ds said other gives sc sd (inl h) (inr k) = absurd (run_or_check first_one text_one tells_one words contents cs ds said other sc sd h k)
check_has_one_answer first_one text_one tells_one words contents cs ds said other gives sc sd (inr h) (inl k) = absurd (run_or_check first_one text_one tells_one words contents ds cs other said sd sc k h)
check_has_one_answer first_one text_one tells_one words contents cs ds said other gives sc sd (inr h) (inr k) = both_checked first_one text_one tells_one words contents cs ds said other gives sc sd h k
