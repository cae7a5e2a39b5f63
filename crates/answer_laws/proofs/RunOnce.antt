-- `run FILE` and contents have one answer at most, but for the order in which the scripts' steps are told.
use Rattle.std.proofs.Common.{◌≡◌, ◌⊎◌, ℕ, List, [], ◌∷◌, ◌++◌, inl, inr, refl, ap, sym, subst, ◌∙◌, append_assoc}
use Rattle.std.specs.Prelude.{Option, None, Some, option_map, codes}
use Rattle.lx_ports.specs.Calls.{Call}
use Rattle.lx_ports.specs.Files.{Contents}
use Rattle.link_model.specs.Link.{Link}
use Rattle.link_model.specs.Refusal.{link_refusal}
use Rattle.lx_model.specs.declared.library.LibraryRefusal.{LibraryRefusal}
use Rattle.lx_model.specs.Gathering.{LibraryFault}
use Rattle.gen_laws.proofs.OneLink.{link_once}
use Rattle.session_model.specs.declared.sessions.ModLine.{ModLine}
use Rattle.session_model.specs.declared.sessions.ModLine.TheVariants.{Take, Build}
use Rattle.session_model.specs.declared.sessions.Session.{Session}
use Rattle.session_model.specs.Runs.{Run}
use Rattle.run_model.specs.Sources.{Source, taken, built, library_of}
use Rattle.answer_model.specs.declared.said.Said.{Said}
use Rattle.answer_model.specs.LinkAnswer.{input_with, link_text}
use Rattle.answer_model.specs.FileLine.{file_line}
use Rattle.answer_model.specs.SessionRefusals.{library_text}
use Rattle.answer_model.specs.Loading.{IsStopped}
use Rattle.answer_model.specs.Items.{Item, linked, session}
use Rattle.answer_model.specs.RunLines.{Gives, asked_line}
use Rattle.answer_model.specs.RunAnswer.{AreDone, AreGiven, Fails, IsDoneLine, IsFailedLine, IsRun, IsStoppedLine, IsThrough, IsUngathered, LinkFails, SaysSession, asked_session, together}
use Rattle.answer_laws.specs.RunLaws.{RunHasOneAnswer, RunsAlike}
use Rattle.answer_laws.proofs.Loads.{ap2, AreSound, sound_front, sound_back, read_once, reads_once, SameStop, stops, stops_once, stops_or_reads}

-- ---- one module line

gives_once : (line : ModLine) (items : List Item) (s t : Source) → Gives line items s → Gives line items t → s ≡ t
gives_once (Take file) (linked m ∷ []) (taken p) (taken q) h k = ap taken (h ∙ sym k)
gives_once (Take file) (linked m ∷ []) (taken p) (built l) h k = absurd k
gives_once (Take file) (linked m ∷ []) (built l) t h k = absurd h
gives_once (Take file) items s t h k = absurd h
gives_once (Build stem def files) items (built l) (built m) h k = ap built (link_once (input_with stem items) l m h.0 k.0)
gives_once (Build stem def files) items (built l) (taken p) h k = absurd k
gives_once (Build stem def files) items (taken p) t h k = absurd h

pub record SameDone (cs ds : List Call) (s t : Source) : Type 0 where
  pub calls : cs ≡ ds
  pub source : s ≡ t

done_line_once : (contents : Contents) (line : ModLine) (cs ds : List Call) (s t : Source) → AreSound contents cs → AreSound contents ds → IsDoneLine line cs s
    → IsDoneLine line ds t → SameDone cs ds s t
done_line_once contents line cs ds s t sc sd h k =
    let same = reads_once contents (asked_line line) cs ds h.items k.items sc sd h.read k.read in
    record { calls = same.calls; source = gives_once line h.items s t h.gives (subst (λ (items : List Item). Gives line items t) (sym same.items) k.gives) }

-- The line was not done, at a file that was refused or for its link.
abbrev pub Halts : ModLine → List Call → Said → Type 0
Halts line calls said = IsStopped (asked_line line) calls said ⊎ IsFailedLine line calls said

pub not_both : {A : Type 0} (found : Option A) (x : A) → found ≡ None → found ≡ Some x → ⊥
not_both found x h k = cc

no_text : (l : Link) (text : List ℕ) → link_refusal l ≡ None → option_map link_text (link_refusal l) ≡ Some text → ⊥
no_text l text h k = not_both (option_map link_text (link_refusal l)) text (ap (option_map link_text) h) k

gives_or_fails : (line : ModLine) (items : List Item) (s : Source) (said : Said) → Gives line items s → Fails line items said → ⊥
gives_or_fails (Take file) items s said h k = absurd k
gives_or_fails (Build stem def files) items (built l) said h k =
    let same : k.link ≡ l = link_once (input_with stem items) k.link l k.of_input h.0 in
    no_text l k.text h.1 (subst (λ (x : Link). option_map link_text (link_refusal x) ≡ Some k.text) same k.refused)
gives_or_fails (Build stem def files) items (taken p) said h k = absurd h

done_or_halts : (contents : Contents) (line : ModLine) (cs ds : List Call) (s : Source) (said : Said) → AreSound contents cs → AreSound contents ds → IsDoneLine line cs s
    → Halts line ds said → ⊥
done_or_halts contents line cs ds s said sc sd h (inl k) = stops_or_reads contents (asked_line line) ds cs said h.items sd sc (stops (asked_line line) ds said k) h.read
done_or_halts contents line cs ds s said sc sd h (inr k) =
    let same = reads_once contents (asked_line line) cs ds h.items k.items sc sd h.read k.read in
    gives_or_fails line h.items s said h.gives (subst (λ (items : List Item). Fails line items said) (sym same.items) k.fails)

one_text : {A : Type 0} (found : Option A) (x y : A) → found ≡ Some x → found ≡ Some y → x ≡ y
one_text found x y h k = cc

links_fail_once : (stem : List ℕ) (items : List Item) (s t : Said) → LinkFails stem items s → LinkFails stem items t → s ≡ t
links_fail_once stem items s t h k =
    let same : k.link ≡ h.link = link_once (input_with stem items) k.link h.link k.of_input h.of_input in
    let refused : option_map link_text (link_refusal h.link) ≡ Some k.text = subst (λ (x : Link). option_map link_text (link_refusal x) ≡ Some k.text) same k.refused in
    h.told ∙ (ap (λ (text : List ℕ). record { status = 1; text = file_line stem text }) (one_text (option_map link_text (link_refusal h.link)) h.text k.text h.refused refused) ∙ sym k.told)

fails_once : (line : ModLine) (items : List Item) (s t : Said) → Fails line items s → Fails line items t → s ≡ t
fails_once (Take file) items s t h k = absurd h
fails_once (Build stem def files) items s t h k = links_fail_once stem items s t h k

halts_once : (contents : Contents) (line : ModLine) (cs ds : List Call) (s t : Said) → AreSound contents cs → AreSound contents ds → Halts line cs s → Halts line ds t
    → SameStop cs ds s t
halts_once contents line cs ds s t sc sd (inl h) (inl k) =
    stops_once contents (asked_line line) cs ds s t sc sd (stops (asked_line line) cs s h) (stops (asked_line line) ds t k)
halts_once contents line cs ds s t sc sd (inl h) (inr k) =
    absurd (stops_or_reads contents (asked_line line) cs ds s k.items sc sd (stops (asked_line line) cs s h) k.read)
halts_once contents line cs ds s t sc sd (inr h) (inl k) =
    absurd (stops_or_reads contents (asked_line line) ds cs t h.items sd sc (stops (asked_line line) ds t k) h.read)
halts_once contents line cs ds s t sc sd (inr h) (inr k) =
    let same = reads_once contents (asked_line line) cs ds h.items k.items sc sd h.read k.read in
    record { calls = same.calls; said = fails_once line h.items s t h.fails (subst (λ (items : List Item). Fails line items t) (sym same.items) k.fails) }

-- ---- all module lines

pub record SameDones (cs ds : List (List Call)) (ss ts : List Source) : Type 0 where
  pub calls : cs ≡ ds
  pub sources : ss ≡ ts

done_once : (contents : Contents) (lines : List ModLine) (cs ds : List (List Call)) (ss ts : List Source) → AreSound contents (together cs) → AreSound contents (together ds)
    → AreDone lines cs ss → AreDone lines ds ts → SameDones cs ds ss ts
done_once contents [] [] [] [] [] sc sd h k = record { calls = refl; sources = refl }
done_once contents (line ∷ lines) (c ∷ cs) (d ∷ ds) (s ∷ ss) (t ∷ ts) sc sd h k =
    let first = done_line_once contents line c d s t (sound_front contents c (together cs) sc) (sound_front contents d (together ds) sd) h.0 k.0 in
    let rest = done_once contents lines cs ds ss ts (sound_back contents c (together cs) sc) (sound_back contents d (together ds) sd) h.1 k.1 in
    record { calls = ap2 (λ x xs. x ∷ xs) first.calls rest.calls; sources = ap2 (λ x xs. x ∷ xs) first.source rest.sources }
done_once contents (line ∷ lines) (c ∷ cs) ds (s ∷ ss) ts sc sd h k = absurd k
done_once contents [] [] ds [] ts sc sd h k = absurd k
done_once contents lines cs ds ss ts sc sd h k = absurd h

-- A line was done, with the first of the calls, and the others go on from there.
record GoesOn (line : ModLine) (calls : List Call) (Rest : List Call → Type 0) : Type 0 where
  own : List Call
  rest : List Call
  source : Source
  calls_are : calls ≡ own ++ rest
  done : IsDoneLine line own source
  goes : Rest rest

-- The lines up to the first that was not done, line by line.
abbrev HaltsIn : List ModLine → List Call → Said → Type 0
HaltsIn [] calls said = ⊥
HaltsIn (line ∷ lines) calls said = Halts line calls said ⊎ GoesOn line calls (λ rest. HaltsIn lines rest said)

halts_from : (before : List ModLine) (here : ModLine) (after : List ModLine) (earlier : List (List Call)) (sources : List Source) (own : List Call) (said : Said)
    → AreDone before earlier sources → Halts here own said → HaltsIn (before ++ here ∷ after) (together earlier ++ own) said
halts_from [] here after [] [] own said h k = inl k
halts_from (b ∷ before) here after (c ∷ earlier) (s ∷ sources) own said h k = inr (record {
  own = c;
  rest = together earlier ++ own;
  source = s;
  calls_are = append_assoc c (together earlier) own;
  done = h.0;
  goes = halts_from before here after earlier sources own said h.1 k;
})
halts_from before here after earlier sources own said h k = absurd h

halts_in : (lines : List ModLine) (calls : List Call) (said : Said) → IsStoppedLine lines calls said → HaltsIn lines calls said
halts_in lines calls said h =
    subst (λ (p : List ModLine × List Call). HaltsIn p.0 p.1 said) (sym (ap2 (λ (x : List ModLine) (y : List Call). (x, y)) h.are h.calls_are))
    (halts_from h.before h.here h.after h.earlier h.sources h.own said h.done h.stopped)

halts_in_once : (contents : Contents) (lines : List ModLine) (cs ds : List Call) (s t : Said) → AreSound contents cs → AreSound contents ds → HaltsIn lines cs s
    → HaltsIn lines ds t → SameStop cs ds s t
halts_in_once contents [] cs ds s t sc sd h k = absurd h
halts_in_once contents (line ∷ lines) cs ds s t sc sd (inl h) (inl k) = halts_once contents line cs ds s t sc sd h k
halts_in_once contents (line ∷ lines) cs ds s t sc sd (inl h) (inr k) =
    let sound = subst (AreSound contents) k.calls_are sd in
    absurd (done_or_halts contents line k.own cs k.source s (sound_front contents k.own k.rest sound) sc k.done h)
halts_in_once contents (line ∷ lines) cs ds s t sc sd (inr h) (inl k) =
    let sound = subst (AreSound contents) h.calls_are sc in
    absurd (done_or_halts contents line h.own ds h.source t (sound_front contents h.own h.rest sound) sd h.done k)
halts_in_once contents (line ∷ lines) cs ds s t sc sd (inr h) (inr k) =
    let left = subst (AreSound contents) h.calls_are sc in
    let right = subst (AreSound contents) k.calls_are sd in
    let first = done_line_once contents line h.own k.own h.source k.source (sound_front contents h.own h.rest left) (sound_front contents k.own k.rest right) h.done k.done in
    let others = halts_in_once contents lines h.rest k.rest s t (sound_back contents h.own h.rest left) (sound_back contents k.own k.rest right) h.goes k.goes in
    record {
      calls = h.calls_are ∙ (ap2 (λ (x : List Call) (y : List Call). x ++ y) first.calls others.calls ∙ sym k.calls_are);
      said = others.said;
    }

halts_or_done : (contents : Contents) (lines : List ModLine) (cs : List Call) (each : List (List Call)) (sources : List Source) (said : Said) → AreSound contents cs
    → AreSound contents (together each) → HaltsIn lines cs said → AreDone lines each sources → ⊥
halts_or_done contents [] cs each sources said sc sd h k = absurd h
halts_or_done contents (line ∷ lines) cs (own ∷ each) (s ∷ sources) said sc sd (inl h) k =
    done_or_halts contents line own cs s said (sound_front contents own (together each) sd) sc k.0 h
halts_or_done contents (line ∷ lines) cs (own ∷ each) (s ∷ sources) said sc sd (inr h) k =
    let left = subst (AreSound contents) h.calls_are sc in
    halts_or_done contents lines h.rest each sources said (sound_back contents h.own h.rest left) (sound_back contents own (together each) sd) h.goes k.1
halts_or_done contents (line ∷ lines) cs each sources said sc sd h k = absurd k

-- ---- all lines given

pub record SameGiven (cs ds : List Call) (ss ts : List Source) : Type 0 where
  pub calls : cs ≡ ds
  pub sources : ss ≡ ts

pub given_once : (contents : Contents) (lines : List ModLine) (cs ds : List Call) (ss ts : List Source) → AreSound contents cs → AreSound contents ds → AreGiven lines cs ss
    → AreGiven lines ds ts → SameGiven cs ds ss ts
given_once contents lines cs ds ss ts sc sd h k =
    let same = done_once contents lines h.each k.each ss ts (subst (AreSound contents) h.calls_are sc) (subst (AreSound contents) k.calls_are sd) h.done k.done in
    record { calls = h.calls_are ∙ (ap together same.calls ∙ sym k.calls_are); sources = same.sources }

pub stopped_or_given : (contents : Contents) (lines : List ModLine) (cs ds : List Call) (said : Said) (sources : List Source) → AreSound contents cs → AreSound contents ds
    → IsStoppedLine lines cs said → AreGiven lines ds sources → ⊥
stopped_or_given contents lines cs ds said sources sc sd h k =
    halts_or_done contents lines cs k.each sources said sc (subst (AreSound contents) k.calls_are sd) (halts_in lines cs said h) k.done

-- ---- the session

zero_or_one : (n : ℕ) → n ≡ 0 → n ≡ 1 → ⊥
zero_or_one n h k = cc

alike_same : (cs ds : List Call) (s t : Said) (ran : Option Run) → cs ≡ ds → s ≡ t → RunsAlike cs ds s t ran
alike_same cs ds s t ran h k = record { calls = h; status = ap (λ (x : Said). x.status) k; line = λ _. k; refused = λ _. k }

ungathered_once : (contents : Contents) (s : Session) (cs ds : List Call) (said other : Said) → AreSound contents cs → AreSound contents ds → IsUngathered s cs said
    → IsUngathered s ds other → RunsAlike cs ds said other None
ungathered_once contents s cs ds said other sc sd h k =
    let same = given_once contents s.modules cs ds h.sources k.sources sc sd h.given k.given in
    let fault : LibraryFault (library_of h.sources) ≡ Some k.why = subst (λ (xs : List Source). LibraryFault (library_of xs) ≡ Some k.why) (sym same.sources) k.fault in
    let why = one_text (LibraryFault (library_of h.sources)) h.why k.why h.fault fault in
    alike_same cs ds said other None same.calls (h.told ∙ (ap (λ (w : LibraryRefusal). record { status = 1; text = file_line (codes "session") (library_text w) }) why ∙ sym k.told))

ungathered_or_run : (contents : Contents) (s : Session) (cs ds : List Call) (said other : Said) (run : Run) → AreSound contents cs → AreSound contents ds
    → IsUngathered s cs said → IsRun s ds other run → ⊥
ungathered_or_run contents s cs ds said other run sc sd h k =
    let same = given_once contents s.modules cs ds h.sources k.sources sc sd h.given k.given in
    not_both (LibraryFault (library_of h.sources)) h.why (subst (λ (xs : List Source). LibraryFault (library_of xs) ≡ None) (sym same.sources) k.fine) h.fault

run_once : (contents : Contents) (s : Session) (cs ds : List Call) (said other : Said) (one run : Run) → AreSound contents cs → AreSound contents ds
    → IsRun s cs said one → IsRun s ds other run → RunsAlike cs ds said other (Some one)
run_once contents s cs ds said other one run sc sd h k =
    let same = given_once contents s.modules cs ds h.sources k.sources sc sd h.given k.given in
    record {
      calls = same.calls;
      status = ap (λ (x : Said). x.status) h.told ∙ sym (ap (λ (x : Said). x.status) k.told);
      line = λ is. absurd (zero_or_one said.status (ap (λ (x : Said). x.status) h.told) is);
      refused = λ is. absurd (not_both (Some one) one is refl);
    }

session_once : (contents : Contents) (s : Session) (cs ds : List Call) (said other : Said) (ran run : Option Run) → AreSound contents cs → AreSound contents ds
    → SaysSession s cs said ran → SaysSession s ds other run → RunsAlike cs ds said other ran
session_once contents s cs ds said other None None sc sd (inl h) (inl k) =
    let same = halts_in_once contents s.modules cs ds said other sc sd (halts_in s.modules cs said h) (halts_in s.modules ds other k) in
    alike_same cs ds said other None same.calls same.said
session_once contents s cs ds said other None None sc sd (inl h) (inr k) = absurd (stopped_or_given contents s.modules cs ds said k.sources sc sd h k.given)
session_once contents s cs ds said other None None sc sd (inr h) (inl k) = absurd (stopped_or_given contents s.modules ds cs other h.sources sd sc k h.given)
session_once contents s cs ds said other None None sc sd (inr h) (inr k) = ungathered_once contents s cs ds said other sc sd h k
session_once contents s cs ds said other None (Some run) sc sd (inl h) k = absurd (stopped_or_given contents s.modules cs ds said k.sources sc sd h k.given)
session_once contents s cs ds said other None (Some run) sc sd (inr h) k = absurd (ungathered_or_run contents s cs ds said other run sc sd h k)
session_once contents s cs ds said other (Some one) None sc sd h (inl k) = absurd (stopped_or_given contents s.modules ds cs other h.sources sd sc k h.given)
session_once contents s cs ds said other (Some one) None sc sd h (inr k) = absurd (ungathered_or_run contents s ds cs other said one sd sc k h)
session_once contents s cs ds said other (Some one) (Some run) sc sd h k = run_once contents s cs ds said other one run sc sd h k

-- ---- the whole command

abbrev pub session_in : Session → Item → Session
session_in d (session s) = s
session_in d item = d

through_once : (file : List ℕ) (contents : Contents) (cs ds : List Call) (said other : Said) (ran run : Option Run) → AreSound contents cs → AreSound contents ds
    → IsThrough file cs said ran → IsThrough file ds other run → RunsAlike cs ds said other ran
through_once file contents cs ds said other ran run sc sd h k =
    let left : AreSound contents (h.first ∷ h.others) = subst (AreSound contents) h.calls_are sc in
    let right : AreSound contents (k.first ∷ k.others) = subst (AreSound contents) k.calls_are sd in
    let read = read_once contents (asked_session file) h.first k.first (session h.session_is) (session k.session_is) left.0 right.0 h.read k.read in
    let same : h.session_is ≡ k.session_is = ap (session_in h.session_is) read.item in
    let says : SaysSession h.session_is k.others other run = subst (λ (s : Session). SaysSession s k.others other run) (sym same) k.says in
    let rest = session_once contents h.session_is h.others k.others said other ran run left.1 right.1 h.says says in
    record {
      calls = h.calls_are ∙ (ap2 (λ (x : Call) (xs : List Call). x ∷ xs) read.call rest.calls ∙ sym k.calls_are);
      status = rest.status;
      line = rest.line;
      refused = rest.refused;
    }

stopped_or_through : (file : List ℕ) (contents : Contents) (cs ds : List Call) (said other : Said) (run : Option Run) → AreSound contents cs → AreSound contents ds
    → IsStopped (asked_session file ∷ []) cs said → IsThrough file ds other run → ⊥
stopped_or_through file contents cs ds said other run sc sd h k =
    let right : AreSound contents (k.first ∷ k.others) = subst (AreSound contents) k.calls_are sd in
    stops_or_reads contents (asked_session file ∷ []) cs (k.first ∷ []) said (session k.session_is ∷ []) sc (right.0, tt)
    (stops (asked_session file ∷ []) cs said h) (k.read, tt)

pub run_has_one_answer : RunHasOneAnswer
run_has_one_answer file contents cs ds said other ran run sc sd (inl h) (inl k) =
    let same = stops_once contents (asked_session file ∷ []) cs ds said other sc sd (stops (asked_session file ∷ []) cs said h.1) (stops (asked_session file ∷ []) ds other k.1) in
    alike_same cs ds said other ran same.calls same.said
run_has_one_answer file contents cs ds said other ran run sc sd (inl h) (inr k) = absurd (stopped_or_through file contents cs ds said other run sc sd h.1 k)
run_has_one_answer file contents cs ds said other ran run sc sd (inr h) (inl k) = absurd (stopped_or_through file contents ds cs other said ran sd sc k.1 h)
run_has_one_answer file contents cs ds said other ran run sc sd (inr h) (inr k) = through_once file contents cs ds said other ran run sc sd h k
