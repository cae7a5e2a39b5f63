-- Words and contents have an answer.
use Rattle.std.proofs.Common.{◌≡◌, ◌⊎◌, ℕ, List, [], ◌∷◌, ◌++◌, inl, inr, refl, sym, subst}
use Rattle.std.specs.Prelude.{Result, Ok, Err, Option, None, Some, option_map}
use Rattle.std.specs.List.{flat_map}
use Rattle.std.proofs.lemmas.List.{append-nil}
use Rattle.lx_ports.specs.Calls.{Call, load, save}
use Rattle.lx_ports.specs.Files.{Contents}
use Rattle.lx_ports.specs.declared.files.LoadFault.{LoadFault}
use Rattle.link_model.specs.Link.{Link}
use Rattle.link_model.specs.OneSegment.{alone}
use Rattle.link_model.specs.Refusal.{link_refusal}
use Rattle.image_model.specs.Linked.{called}
use Rattle.lx_model.specs.Gathering.{LibraryFault}
use Rattle.map_model.specs.MapLaws.{LinksHaveMaps}
use Rattle.answer_model.specs.Answer.{saves_in}
use Rattle.answer_model.specs.FileLine.{usage_line}
use Rattle.dump_model.specs.Dumps.{Dump}
use Rattle.dump_model.specs.Listings.{listing_of}
use Rattle.answer_model.specs.DumpAnswer.{DumpAnswer}
use Rattle.answer_model.specs.BindAnswer.{BindAnswer, bind_outcome}
use Rattle.answer_model.specs.ImageAnswer.{NAME, ImageAnswer, image_outcome}
use Rattle.answer_model.specs.ImplibAnswer.{all_imports, implib_outcome}
use Rattle.answer_model.specs.LinkAnswer.{input_of, input_with, link_outcome, link_text}
use Rattle.answer_model.specs.Loading.{AreRead, IsRead, IsStopped, ReadsAnswer}
use Rattle.answer_model.specs.AskedFiles.{Asked}
use Rattle.answer_model.specs.MemoryAnswer.{first_name, modules_in}
use Rattle.answer_model.specs.MapAnswer.{MapAnswer, ShowsMap, NAME as MAP}
use Rattle.answer_model.specs.Outcome.{Outcome, Saved, says_only, shown, refused}
use Rattle.answer_model.specs.Items.{Item, object, object_file, linked, module_file, resources, resource_file}
use Rattle.answer_model.specs.Says.{ComesTo, Finishes, IsDone, SaysCommand, asked_files, said_after}
use Rattle.answer_model.specs.Stem.{stem_of}
use Rattle.answer_model.specs.Words.{Command, command_of, image, link, implib, bind, gen, dump, link_map, memory, show}
use Rattle.answer_model.specs.declared.said.Said.{Said}
use Rattle.lx_types.specs.declared.parts.Parts.{Parts}
use Rattle.obj_types.specs.declared.object.ObjModule.{ObjModule}
use Rattle.res_model.specs.declared.item.ResItem.{ResItem}
use Rattle.gen_laws.specs.Laws.{FirstHaveTotals, ObjectsHaveFiles}
use Rattle.answer_laws.specs.AnswerLaws.{HasBytes, SomeAnswer}
use Rattle.answer_laws.proofs.GeneratedSome.{IsCounted, all_counted, generated}
use Rattle.answer_laws.proofs.Links.{some_link}
use Rattle.answer_laws.proofs.Memories.{memory_some}
use Rattle.answer_laws.proofs.ShownFiles.{show_some}
use Rattle.answer_laws.proofs.Loads.{AreSound, sound_both, IsLoaded, reads, stopped, all_loaded}

-- All commands but `gen` and `show`.
abbrev ReadsFiles : Command → Type 0
ReadsFiles (gen count prefix) = ⊥
ReadsFiles (show file) = ⊥
ReadsFiles _ = Unit {0}

-- ---- what the items come to

pub record HasOutcome (command : Command) (items : List Item) : Type 0 where
  pub outcome : Outcome
  pub comes_to : ComesTo command items outcome

record IsOneItem (a : Asked) (items : List Item) : Type 0 where
  answer : Result (List ℕ) LoadFault
  item : Item
  reads : ReadsAnswer a answer item
  are : items ≡ item ∷ []

-- one file is one item
one_item : (a : Asked) (calls : List Call) (items : List Item) → AreRead (a ∷ []) calls items → IsOneItem a items
one_item a (load name answer ∷ []) (i ∷ []) h = let first = h.0 in record { answer = answer; item = i; reads = first.1; are = refl }
one_item a (save name bytes answer ∷ []) (i ∷ []) h = let first = h.0 in absurd first
one_item a (c ∷ d ∷ calls) (i ∷ []) h = absurd h.1
one_item a (c ∷ []) (i ∷ j ∷ items) h = absurd h.1
one_item a (c ∷ d ∷ calls) (i ∷ j ∷ items) h = absurd h.1
one_item a [] items h = absurd h
one_item a (c ∷ calls) [] h = absurd h

object_is : (file : List ℕ) (r : Result (List ℕ) LoadFault) (i : Item) → ReadsAnswer (record { kind = object_file; name = file }) r i → (m : ObjModule) × (i ≡ object m)
object_is file (Ok bytes) (object m) h = (m, refl)
object_is file (Ok bytes) i h = absurd h.1
object_is file (Err f) i h = absurd h

shown_of : (base : ℕ) (file : List ℕ) (calls : List Call) (items : List Item) → AreRead (record { kind = object_file; name = file } ∷ []) calls items → (o : Outcome) × ImageAnswer base items o
shown_of base file calls items h =
    let one = one_item (record { kind = object_file; name = file }) calls items h in
    let m = object_is file one.answer one.item one.reads in
    let found = some_link (alone m.0 NAME base) in
    let o = image_outcome found.link in (
      o,
      subst (λ xs. ImageAnswer base xs o) (sym one.are)
          (subst (λ x. ImageAnswer base (x ∷ []) o) (sym m.1) (record { link = found.link; of_input = found.of_input; comes_to = refl })),
    )

-- what is read as a module, and as a resource file
module_is : (target : List ℕ) (r : Result (List ℕ) LoadFault) (i : Item) → ReadsAnswer (record { kind = module_file; name = target }) r i → (m : Parts) × (i ≡ linked m)
module_is target (Ok bytes) (linked m) h = (m, refl)
module_is target (Ok bytes) i h = absurd h.1
module_is target (Err f) i h = absurd h

items_are : (file : List ℕ) (r : Result (List ℕ) LoadFault) (i : Item) → ReadsAnswer (record { kind = resource_file; name = file }) r i → (xs : List ResItem) × (i ≡ resources xs)
items_are file (Ok bytes) (resources xs) h = (xs, refl)
items_are file (Ok bytes) i h = absurd h.1
items_are file (Err f) i h = absurd h

one_load : (a : Asked) (call : Call) (i : Item) → IsRead a call i → (r : Result (List ℕ) LoadFault) × ReadsAnswer a r i
one_load a (load name answer) i h = (answer, h.1)
one_load a (save name bytes answer) i h = absurd h

bound_of : (out target file : List ℕ) (calls : List Call) (items : List Item)
    → AreRead (record { kind = module_file; name = target } ∷ record { kind = resource_file; name = file } ∷ []) calls items → (o : Outcome) × BindAnswer out items o
bound_of out target file (c ∷ d ∷ []) (i ∷ j ∷ []) h =
    let first = one_load (record { kind = module_file; name = target }) c i h.0 in
    let second = one_load (record { kind = resource_file; name = file }) d j h.1.0 in
    let m = module_is target first.0 i first.1 in
    let xs = items_are file second.0 j second.1 in
    let o = bind_outcome out m.0.file xs.0 in
    (o, subst (λ x. BindAnswer out (x ∷ j ∷ []) o) (sym m.1) (subst (λ x. BindAnswer out (linked m.0 ∷ x ∷ []) o) (sym xs.1) refl))
bound_of out target file (c ∷ d ∷ e ∷ calls) (i ∷ j ∷ []) h = absurd h.1.1
bound_of out target file (c ∷ d ∷ []) (i ∷ j ∷ k ∷ items) h = absurd h.1.1
bound_of out target file (c ∷ d ∷ e ∷ calls) (i ∷ j ∷ k ∷ items) h = absurd h.1.1
bound_of out target file (c ∷ []) (i ∷ items) h = absurd h.1
bound_of out target file (c ∷ d ∷ calls) (i ∷ []) h = absurd h.1
bound_of out target file [] items h = absurd h
bound_of out target file (c ∷ calls) [] h = absurd h

dumped_of : (file : List ℕ) (calls : List Call) (items : List Item) → AreRead (record { kind = module_file; name = file } ∷ []) calls items → (o : Outcome) × DumpAnswer items o
dumped_of file calls items h =
    let one = one_item (record { kind = module_file; name = file }) calls items h in
    let m = module_is file one.answer one.item one.reads in
    let o = shown (Dump (listing_of m.0)) in
    (o, subst (λ xs. DumpAnswer xs o) (sym one.are) (subst (λ x. DumpAnswer (x ∷ []) o) (sym m.1) refl))

map_some : LinksHaveMaps → (l : Link) (why : Option (List ℕ)) → (o : Outcome) × ShowsMap l why o
map_some have l (Some why) = (refused MAP why, refl)
map_some have l None = let found = have (called l) l in (shown found.0, (found.0, found.1, refl))

mapped_of : LinksHaveMaps → (items : List Item) → (o : Outcome) × MapAnswer items o
mapped_of have items =
    let found = some_link (input_with MAP items) in
    let some = map_some have found.link (option_map link_text (link_refusal found.link)) in
    (some.0, record { link = found.link; of_input = found.of_input; shows = some.1 })

comes_to_some : LinksHaveMaps → (command : Command) → ReadsFiles command → (calls : List Call) (items : List Item) → AreRead (asked_files command) calls items → HasOutcome command items
comes_to_some have (image file base) by calls items h = let found = shown_of base file calls items h in record { outcome = found.0; comes_to = found.1 }
comes_to_some have (link out definition inputs) by calls items h =
    let found = some_link (input_of out items) in
    record { outcome = link_outcome out found.link; comes_to = record { link = found.link; of_input = found.of_input; comes_to = refl } }
comes_to_some have (implib out inputs) by calls items h = record { outcome = implib_outcome out (all_imports (stem_of out) items); comes_to = refl }
comes_to_some have (bind out target file) by calls items h = let found = bound_of out target file calls items h in record { outcome = found.0; comes_to = found.1 }
comes_to_some have (gen count prefix) by calls items h = absurd by
comes_to_some have (show file) by calls items h = absurd by
comes_to_some have (link_map definition inputs) by calls items h = let found = mapped_of have items in record { outcome = found.0; comes_to = found.1 }
comes_to_some have (memory names) by calls items h =
    let lib = flat_map modules_in items in
    let found = memory_some (first_name names) lib (LibraryFault lib) in
    record { outcome = found.0; comes_to = found.1 }
comes_to_some have (dump file) by calls items h = let found = dumped_of file calls items h in record { outcome = found.0; comes_to = found.1 }

-- ---- the save

pub record IsFinished (contents : Contents) (saved : Option Saved) (o : Outcome) : Type 0 where
  pub saves : List Call
  pub sound : AreSound contents saves
  pub said : Said
  pub finished : Finishes saved o saves said

finished : (contents : Contents) (saved : Option Saved) (o : Outcome) → IsFinished contents saved o
finished contents None o = record { saves = []; sound = tt; said = o.said; finished = (refl, refl) }
finished contents (Some saved) o =
    record {
      saves = save saved.name saved.bytes (Ok tt) ∷ [];
      sound = (refl, tt);
      said = said_after o saved.name (Ok tt);
      finished = record { answer = Ok tt; calls_are = refl; is_said = refl };
    }

-- ---- the whole command

pub record IsSaid (contents : Contents) (command : Option Command) : Type 0 where
  pub calls : List Call
  pub sound : AreSound contents calls
  pub said : Said
  pub says : SaysCommand command calls said

says_of : (command : Command) → ReadsFiles command → (calls : List Call) (said : Said) → IsStopped (asked_files command) calls said ⊎ IsDone command calls said → SaysCommand (Some command) calls said
says_of (image file base) by calls said h = h
says_of (link out definition inputs) by calls said h = h
says_of (implib out inputs) by calls said h = h
says_of (bind out target file) by calls said h = h
says_of (gen count prefix) by calls said h = absurd by
says_of (show file) by calls said h = absurd by
says_of (dump file) by calls said h = h
says_of (link_map definition inputs) by calls said h = h
says_of (memory names) by calls said h = h

said_later : LinksHaveMaps → (contents : Contents) (command : Command) → ReadsFiles command → IsLoaded contents (asked_files command) → IsSaid contents (Some command)
said_later have contents command by (stopped calls said sound stop) = record { calls = calls; sound = sound; said = said; says = says_of command by calls said (inl stop) }
said_later have contents command by (reads calls items sound read) =
    let found = comes_to_some have command by calls items read in
    let end = finished contents found.outcome.saved found.outcome in
    record {
      calls = calls ++ end.saves;
      sound = sound_both contents calls end.saves sound end.sound;
      said = end.said;
      says = says_of command by (calls ++ end.saves) end.said (inr (record {
        loads = calls;
        items = items;
        read = read;
        outcome = found.outcome;
        comes_to = found.comes_to;
        saves = end.saves;
        finished = end.finished;
        calls_are = refl;
      }));
    }

said_by_files : LinksHaveMaps → (contents : Contents) → HasBytes contents → (command : Command) → ReadsFiles command → IsSaid contents (Some command)
said_by_files have contents h command by = said_later have contents command by (all_loaded contents h (asked_files command))

shown_said : (contents : Contents) → HasBytes contents → (file : List ℕ) → IsLoaded contents (asked_files (show file)) → IsSaid contents (Some (show file))
shown_said contents h file (stopped calls said sound stop) = record { calls = calls; sound = sound; said = said; says = inl stop }
shown_said contents h file (reads calls items sound read) =
    let found = show_some contents h file calls items sound read in
    record {
      calls = calls;
      sound = sound;
      said = found.0;
      says = inr (record {
        loads = calls;
        items = items;
        read = read;
        outcome = says_only found.0;
        comes_to = found.1;
        saves = [];
        finished = (refl, refl);
        calls_are = sym (append-nil calls);
      });
    }

all_said : LinksHaveMaps → ObjectsHaveFiles → FirstHaveTotals → (contents : Contents) → HasBytes contents → (command : Option Command) → IsCounted command → IsSaid contents command
all_said maps have told contents h None counted = record { calls = []; sound = tt; said = record { status = 2; text = usage_line }; says = (refl, refl) }
all_said maps have told contents h (Some (image file base)) counted = said_by_files maps contents h (image file base) tt
all_said maps have told contents h (Some (link out definition inputs)) counted = said_by_files maps contents h (link out definition inputs) tt
all_said maps have told contents h (Some (implib out inputs)) counted = said_by_files maps contents h (implib out inputs) tt
all_said maps have told contents h (Some (bind out target file)) counted = said_by_files maps contents h (bind out target file) tt
all_said maps have told contents h (Some (dump file)) counted = said_by_files maps contents h (dump file) tt
all_said maps have told contents h (Some (link_map definition inputs)) counted = said_by_files maps contents h (link_map definition inputs) tt
all_said maps have told contents h (Some (memory names)) counted = said_by_files maps contents h (memory names) tt
all_said maps have told contents h (Some (show file)) counted = shown_said contents h file (all_loaded contents h (asked_files (show file)))
all_said maps have told contents h (Some (gen count prefix)) counted =
    let found = generated have told contents count prefix counted in
    record { calls = found.calls; sound = found.sound; said = found.said; says = found.says }

pub some_answer : LinksHaveMaps → ObjectsHaveFiles → FirstHaveTotals → SomeAnswer
some_answer maps have told words contents h =
    let found = all_said maps have told contents h (command_of words) (all_counted words) in
    record {
      saves = saves_in found.calls;
      said = found.said;
      answer = record { calls = found.calls; sound = found.sound; says = found.says; saves_are = refl };
    }
