-- Words and contents have one answer at most.
use Rattle.std.proofs.Common.{◌≡◌, ◌⊎◌, ℕ, List, [], ◌∷◌, ◌++◌, inl, inr, ap, sym, subst, ◌∙◌}
use Rattle.std.specs.Prelude.{Result, Ok, Option, None, Some, option_map}
use Rattle.std.specs.List.{flat_map}
use Rattle.std.proofs.lemmas.List.{append-nil}
use Rattle.lx_ports.specs.Calls.{Call, save}
use Rattle.lx_ports.specs.Files.{Contents}
use Rattle.lx_ports.specs.declared.files.SaveFault.{SaveFault}
use Rattle.obj_types.specs.declared.input.LinkInput.{LinkInput}
use Rattle.link_model.specs.Link.{Link}
use Rattle.link_model.specs.OneSegment.{alone}
use Rattle.link_model.specs.Refusal.{link_refusal}
use Rattle.image_model.specs.Linked.{called}
use Rattle.lx_model.specs.Gathering.{LibraryFault}
use Rattle.map_model.specs.MapLaws.{MapsAreOne}
use Rattle.gen_laws.proofs.OneLink.{link_once}
use Rattle.answer_model.specs.Answer.{saves_in}
use Rattle.answer_model.specs.ImageAnswer.{NAME, image_outcome}
use Rattle.answer_model.specs.LinkAnswer.{input_of, input_with, link_outcome, link_text}
use Rattle.answer_model.specs.MemoryAnswer.{first_name, modules_in}
use Rattle.answer_model.specs.MapAnswer.{MapsInput, ShowsMap, NAME as MAP}
use Rattle.answer_model.specs.Outcome.{Outcome, Saved, shown}
use Rattle.answer_model.specs.Items.{Item, object, linked, resources}
use Rattle.answer_model.specs.Loading.{IsStopped}
use Rattle.answer_model.specs.Says.{ComesTo, Finishes, IsDone, SaysCommand, asked_files, said_after}
use Rattle.answer_model.specs.Words.{Command, command_of, image, link, implib, bind, gen, dump, link_map, memory, show}
use Rattle.answer_model.specs.declared.said.Said.{Said}
use Rattle.answer_laws.specs.AnswerLaws.{AreSame, OneAnswer}
use Rattle.answer_laws.proofs.GeneratedOnce.{gen_files_once, gen_said_once}
use Rattle.answer_laws.proofs.Memories.{memory_once}
use Rattle.answer_laws.proofs.ShownFiles.{AreShownOnce, show_once}
use Rattle.answer_laws.proofs.Loads.{ap2, AreSound, sound_front, sound_back, SameReads, reads_once, SameStop, stops, stops_once, stops_or_reads}

-- ---- what the items come to

map_shown_once : MapsAreOne → (l : Link) (why : Option (List ℕ)) (o p : Outcome) → ShowsMap l why o → ShowsMap l why p → o ≡ p
map_shown_once one l None o p h k = h.2 ∙ (ap (λ text. shown text) (one (called l) l h.0 k.0 h.1 k.1) ∙ sym k.2)
map_shown_once one l (Some why) o p h k = h ∙ sym k

map_once : MapsAreOne → (input : LinkInput) (o p : Outcome) → MapsInput input o → MapsInput input p → o ≡ p
map_once one input o p h k =
    let same : h.link ≡ k.link = link_once input h.link k.link h.of_input k.of_input in
    let Q : Link → Type 0 = λ l. ShowsMap l (option_map link_text (link_refusal l)) p in
    map_shown_once one h.link (option_map link_text (link_refusal h.link)) o p h.shows (subst Q (sym same) k.shows)

-- All commands but `show`, whose text is in a form alone.
abbrev IsExact : Command → Type 0
IsExact (show file) = ⊥
IsExact _ = Unit {0}

comes_once : MapsAreOne → (command : Command) → IsExact command → (items : List Item) (o p : Outcome) → ComesTo command items o → ComesTo command items p → o ≡ p
comes_once one (image file base) by (object m ∷ []) o p h k =
    h.comes_to ∙ (ap image_outcome (link_once (alone m NAME base) h.link k.link h.of_input k.of_input) ∙ sym k.comes_to)
comes_once one (image file base) by items o p h k = absurd h
comes_once one (link out definition inputs) by items o p h k =
    h.comes_to ∙ (ap (link_outcome out) (link_once (input_of out items) h.link k.link h.of_input k.of_input) ∙ sym k.comes_to)
comes_once one (implib out inputs) by items o p h k = h ∙ sym k
comes_once one (bind out target file) by (linked m ∷ resources xs ∷ []) o p h k = h ∙ sym k
comes_once one (bind out target file) by items o p h k = absurd h
comes_once one (gen count prefix) by items o p h k = absurd h
comes_once one (dump file) by (linked m ∷ []) o p h k = h ∙ sym k
comes_once one (dump file) by items o p h k = absurd h
comes_once one (link_map definition inputs) by items o p h k = map_once one (input_with MAP items) o p h k
comes_once one (show file) by items o p h k = absurd by
comes_once one (memory names) by items o p h k = let lib = flat_map modules_in items in memory_once (first_name names) lib (LibraryFault lib) o p h k

-- ---- the save

sound_save : (contents : Contents) (name bytes : List ℕ) (answer : Result (Unit {0}) SaveFault) (calls : List Call)
    → calls ≡ save name bytes answer ∷ [] → AreSound contents calls → answer ≡ Ok tt
sound_save contents name bytes answer calls is sound = let one : AreSound contents (save name bytes answer ∷ []) = subst (AreSound contents) is sound in one.0

finishes_once : (contents : Contents) (saved : Option Saved) (o : Outcome) (cs ds : List Call) (s t : Said) → AreSound contents cs → AreSound contents ds
    → Finishes saved o cs s → Finishes saved o ds t → SameStop cs ds s t
finishes_once contents None o cs ds s t sc sd h k = record { calls = h.0 ∙ sym k.0; said = h.1 ∙ sym k.1 }
finishes_once contents (Some saved) o cs ds s t sc sd h k =
    let left = sound_save contents saved.name saved.bytes h.answer cs h.calls_are sc in
    let right = sound_save contents saved.name saved.bytes k.answer ds k.calls_are sd in
    let same : h.answer ≡ k.answer = left ∙ sym right in
    record {
      calls = h.calls_are ∙ (ap (λ answer. save saved.name saved.bytes answer ∷ []) same ∙ sym k.calls_are);
      said = h.is_said ∙ (ap (said_after o saved.name) same ∙ sym k.is_said);
    }

-- ---- the whole command

done_once : MapsAreOne → (contents : Contents) (command : Command) → IsExact command → (cs ds : List Call) (s t : Said) → AreSound contents cs → AreSound contents ds
    → IsDone command cs s → IsDone command ds t → SameStop cs ds s t
done_once one contents command by cs ds s t sc sd h k =
    let sc2 : AreSound contents (h.loads ++ h.saves) = subst (AreSound contents) h.calls_are sc in
    let sd2 : AreSound contents (k.loads ++ k.saves) = subst (AreSound contents) k.calls_are sd in
    let loads : SameReads h.loads k.loads h.items k.items =
    reads_once contents (asked_files command) h.loads k.loads h.items k.items (sound_front contents h.loads h.saves sc2) (sound_front contents k.loads k.saves sd2) h.read k.read in
    let same : h.outcome ≡ k.outcome = comes_once one command by h.items h.outcome k.outcome h.comes_to (subst (λ items. ComesTo command items k.outcome) (sym loads.items) k.comes_to) in
    let end : Finishes h.outcome.saved h.outcome k.saves t = subst (λ (o : Outcome). Finishes o.saved o k.saves t) (sym same) k.finished in
    let saves = finishes_once contents h.outcome.saved h.outcome h.saves k.saves s t (sound_back contents h.loads h.saves sc2) (sound_back contents k.loads k.saves sd2) h.finished end in
    record {
      calls = h.calls_are ∙ (ap2 (λ (x : List Call) (y : List Call). x ++ y) loads.calls saves.calls ∙ sym k.calls_are);
      said = saves.said;
    }

abbrev pub SaysRead : Command → List Call → Said → Type 0
SaysRead command calls said = IsStopped (asked_files command) calls said ⊎ IsDone command calls said

done_not_stopped : MapsAreOne → (contents : Contents) (command : Command) → IsExact command → (cs ds : List Call) (s t : Said) → AreSound contents cs → AreSound contents ds
    → IsDone command cs s → SaysRead command ds t → SameStop cs ds s t
done_not_stopped one contents command by cs ds s t sc sd h (inl k) =
    let sc2 : AreSound contents (h.loads ++ h.saves) = subst (AreSound contents) h.calls_are sc in
    absurd (stops_or_reads contents (asked_files command) ds h.loads t h.items sd (sound_front contents h.loads h.saves sc2) (stops (asked_files command) ds t k) h.read)
done_not_stopped one contents command by cs ds s t sc sd h (inr k) = done_once one contents command by cs ds s t sc sd h k

read_once : MapsAreOne → (contents : Contents) (command : Command) → IsExact command → (cs ds : List Call) (s t : Said) → AreSound contents cs → AreSound contents ds
    → SaysRead command cs s → SaysRead command ds t → SameStop cs ds s t
read_once one contents command by cs ds s t sc sd (inr h) k = done_not_stopped one contents command by cs ds s t sc sd h k
read_once one contents command by cs ds s t sc sd (inl h) (inl k) =
    stops_once contents (asked_files command) cs ds s t sc sd (stops (asked_files command) cs s h) (stops (asked_files command) ds t k)
read_once one contents command by cs ds s t sc sd (inl h) (inr k) =
    let back = done_not_stopped one contents command by ds cs t s sd sc k (inl h) in
    record { calls = sym back.calls; said = sym back.said }

-- ---- `show`

record IsSameStatus (cs ds : List Call) (s t : Said) : Type 0 where
  calls : cs ≡ ds
  status : s.status ≡ t.status

-- Nothing is saved.
abbrev Unsaved : List Call → Outcome → List Call → Said → Type 0
Unsaved loads o calls said = (calls ≡ loads) × (said ≡ o.said)

unsaved_end : (loads saves calls : List Call) (o : Outcome) (said : Said) (saved : Option Saved) → saved ≡ None → calls ≡ loads ++ saves → Finishes saved o saves said → Unsaved loads o calls said
unsaved_end loads saves calls o said None none are h = (are ∙ ap (λ (xs : List Call). loads ++ xs) h.0 ∙ append-nil loads, h.1)
unsaved_end loads saves calls o said (Some saved) some are h = absurd cc

show_done_once : (contents : Contents) (file : List ℕ) (cs ds : List Call) (s t : Said) → AreSound contents cs → AreSound contents ds
    → IsDone (show file) cs s → IsDone (show file) ds t → IsSameStatus cs ds s t
show_done_once contents file cs ds s t sc sd h k =
    let sc2 : AreSound contents (h.loads ++ h.saves) = subst (AreSound contents) h.calls_are sc in
    let sd2 : AreSound contents (k.loads ++ k.saves) = subst (AreSound contents) k.calls_are sd in
    let loads : SameReads h.loads k.loads h.items k.items =
    reads_once contents (asked_files (show file)) h.loads k.loads h.items k.items (sound_front contents h.loads h.saves sc2) (sound_front contents k.loads k.saves sd2) h.read k.read in
    let same : AreShownOnce h.outcome k.outcome =
    show_once file h.items h.outcome k.outcome h.comes_to (subst (λ items. ComesTo (show file) items k.outcome) (sym loads.items) k.comes_to) in
    let left = unsaved_end h.loads h.saves cs h.outcome s h.outcome.saved same.unsaved h.calls_are h.finished in
    let right = unsaved_end k.loads k.saves ds k.outcome t k.outcome.saved same.other k.calls_are k.finished in
    record {
      calls = left.0 ∙ loads.calls ∙ sym right.0;
      status = ap (λ (x : Said). x.status) left.1 ∙ same.status ∙ sym (ap (λ (x : Said). x.status) right.1);
    }

show_not_stopped : (contents : Contents) (file : List ℕ) (cs ds : List Call) (s t : Said) → AreSound contents cs → AreSound contents ds
    → IsDone (show file) cs s → SaysRead (show file) ds t → IsSameStatus cs ds s t
show_not_stopped contents file cs ds s t sc sd h (inl k) =
    let sc2 : AreSound contents (h.loads ++ h.saves) = subst (AreSound contents) h.calls_are sc in
    absurd (stops_or_reads contents (asked_files (show file)) ds h.loads t h.items sd (sound_front contents h.loads h.saves sc2) (stops (asked_files (show file)) ds t k) h.read)
show_not_stopped contents file cs ds s t sc sd h (inr k) = show_done_once contents file cs ds s t sc sd h k

status_once : (contents : Contents) (file : List ℕ) (cs ds : List Call) (s t : Said) → AreSound contents cs → AreSound contents ds
    → SaysRead (show file) cs s → SaysRead (show file) ds t → IsSameStatus cs ds s t
status_once contents file cs ds s t sc sd (inr h) k = show_not_stopped contents file cs ds s t sc sd h k
status_once contents file cs ds s t sc sd (inl h) (inl k) =
    let same = stops_once contents (asked_files (show file)) cs ds s t sc sd (stops (asked_files (show file)) cs s h) (stops (asked_files (show file)) ds t k) in
    record { calls = same.calls; status = ap (λ (x : Said). x.status) same.said }
status_once contents file cs ds s t sc sd (inl h) (inr k) =
    let back = show_not_stopped contents file ds cs t s sd sc k (inl h) in
    record { calls = sym back.calls; status = sym back.status }

-- ---- all

module _ (one : MapsAreOne) (contents : Contents) (cs ds : List Call) (s t : Said) (sc : AreSound contents cs) (sd : AreSound contents ds) where
  saves_once : (stop : SameStop cs ds s t) → saves_in cs ≡ saves_in ds
  saves_once stop = ap saves_in stop.calls

  says_once : (command : Option Command) → SaysCommand command cs s → SaysCommand command ds t → AreSame command (saves_in cs) (saves_in ds) s t
  says_once None h k = record { files = ap saves_in (h.0 ∙ sym k.0); answer = h.1 ∙ sym k.1 }
  says_once (Some (image file base)) h k = let same = read_once one contents (image file base) tt cs ds s t sc sd h k in record { files = saves_once same; answer = same.said }
  says_once (Some (link out definition inputs)) h k = let same = read_once one contents (link out definition inputs) tt cs ds s t sc sd h k in record { files = saves_once same; answer = same.said }
  says_once (Some (implib out inputs)) h k = let same = read_once one contents (implib out inputs) tt cs ds s t sc sd h k in record { files = saves_once same; answer = same.said }
  says_once (Some (bind out target file)) h k = let same = read_once one contents (bind out target file) tt cs ds s t sc sd h k in record { files = saves_once same; answer = same.said }
  says_once (Some (dump file)) h k = let same = read_once one contents (dump file) tt cs ds s t sc sd h k in record { files = saves_once same; answer = same.said }
  says_once (Some (link_map d names)) h k = let same = read_once one contents (link_map d names) tt cs ds s t sc sd h k in record { files = saves_once same; answer = same.said }
  says_once (Some (memory names)) h k = let same = read_once one contents (memory names) tt cs ds s t sc sd h k in record { files = saves_once same; answer = same.said }
  says_once (Some (show file)) h k = let same = status_once contents file cs ds s t sc sd h k in record { files = ap saves_in same.calls; answer = same.status }
  says_once (Some (gen count prefix)) h k = record {
    files = gen_files_once contents (record { count = count; prefix = prefix }) cs ds s t sc sd h k;
    answer = gen_said_once contents (record { count = count; prefix = prefix }) cs ds s t sc sd h k;
  }

pub one_answer : MapsAreOne → OneAnswer
one_answer one words contents saves others said other h k =
    let command = command_of words in
    let same = says_once one contents h.calls k.calls said other h.sound k.sound command h.says k.says in
    subst (λ (fs : List Saved). AreSame command fs others said other) (sym h.saves_are) (subst (λ (fs : List Saved). AreSame command (saves_in h.calls) fs said other) (sym k.saves_are) same)
