-- From what the steps of a command do to what the command does.
use Rattle.std.proofs.Common.{◌≡◌, ◌⊎◌, ℕ, List, [], ◌∷◌, ◌++◌, Option, Some, None, Result, Ok, Err, ◌∙◌, ap, sym, subst, refl, inl, inr, append_assoc}
use Rattle.std.proofs.lemmas.List.{append-nil}
use Rattle.std.specs.Prelude.{IfOk, IfSome, MatchResult}
use Rattle.std.specs.List.{AllByRecursion}
use Rattle.lx_types.specs.declared.fail.NoMemory.{NoMemory}
use Rattle.lx_types.proofs.Lists.{all_joined}
use Rattle.lx_ports.specs.Calls.{Call, save}
use Rattle.lx_ports.specs.Files.{Contents, FilesState}
use Rattle.answer_model.specs.declared.said.Said.{Said}
use Rattle.answer_model.specs.Answer.{saves_in}
use Rattle.answer_model.specs.Ends.{Holds, IsTold, AreSaves, outputs_of}
use Rattle.answer_model.specs.FileLine.{usage_line}
use Rattle.answer_model.specs.Loading.{AreBegun, AreRead, IsStopped}
use Rattle.answer_model.specs.AskedFiles.{Asked}
use Rattle.answer_model.specs.Outcome.{Outcome, Saved}
use Rattle.answer_model.specs.Items.{Item}
use Rattle.answer_model.specs.Says.{ComesTo, Finishes, IsDone, SaysCommand, asked_files}
use Rattle.answer_model.specs.Words.{Command, image, link, implib, bind, gen, dump, link_map, memory, show}
use Rattle.tool_read.specs.Steps.{AreLoads}
use Rattle.tool_read.proofs.Walk.{read_begun}
use Rattle.session_files.proofs.Lines.{stopped_begun}
use Rattle.file_commands.specs.Doing.{Does, DoesOutcome, DoesWords, Keeps, Runs}
use Rattle.file_commands.proofs.Begun.{begun_loads, holds_later, no_saves}

-- ---- what is said, by the files that are read

none_asked : (before after : List Asked) (here : Asked) → [] ≡ before ++ here ∷ after → ⊥
none_asked [] after here is = cc
none_asked (a ∷ before) after here is = cc

-- `gen` reads no file.
says_by_files : (command : Command) (calls : List Call) (said : Said) → IsStopped (asked_files command) calls said ⊎ IsDone command calls said → SaysCommand (Some command) calls said
says_by_files (image object base) calls said says = says
says_by_files (link out definition inputs) calls said says = says
says_by_files (implib out inputs) calls said says = says
says_by_files (bind out target resources) calls said says = says
says_by_files (dump file) calls said says = says
says_by_files (link_map definition inputs) calls said says = says
says_by_files (memory names) calls said says = says
says_by_files (show file) calls said says = says
says_by_files (gen count prefix) calls said (inl stopped) = absurd (none_asked stopped.before stopped.after stopped.here stopped.are)
says_by_files (gen count prefix) calls said (inr done) = absurd done.comes_to

-- ---- loads alone

loads_run : (command : Command) (calls : List Call) (before now : FilesState) → AreLoads calls before now → AreBegun (asked_files command) calls → Runs (Some command) calls before now
loads_run command calls before now loads begun =
    let P : Option Contents → Type 0 = λ has. Holds before.contents calls has in
    let same : now.contents ≡ before.contents = ap (λ (s : FilesState). s.contents) loads.files in
    let Q : List Call → Type 0 = λ cs. Holds before.contents cs before.contents in
    record {
      had = ap (λ (s : FilesState). s.calls) loads.files;
      named = record { loads = calls; begun = begun; saves = []; saved = tt; are = sym (append-nil calls) };
      told = loads.told;
      held = subst P (sym same) (subst Q (append-nil calls) (holds_later calls [] before.contents before.contents (begun_loads (asked_files command) calls begun) refl));
    }

loads_save_nothing : (command : Command) (calls : List Call) → AreBegun (asked_files command) calls → saves_in calls ≡ []
loads_save_nothing command calls begun =
    let P : List Call → Type 0 = λ cs. saves_in cs ≡ [] in
    subst P (append-nil calls) (no_saves calls [] (begun_loads (asked_files command) calls begun))

pub done_stopped : (command : Command) (calls : List Call) (before now : FilesState) (said : Said) → AreLoads calls before now → IsStopped (asked_files command) calls said → Does command before now (Ok said)
done_stopped command calls before now said loads stopped = record {
  calls = calls;
  runs = loads_run command calls before now loads (stopped_begun (asked_files command) calls said stopped);
  says = says_by_files command calls said (inl stopped);
}

pub done_begun : (command : Command) (calls : List Call) (before now : FilesState) (why : NoMemory) → AreLoads calls before now → AreBegun (asked_files command) calls → Does command before now (Err why)
done_begun command calls before now why loads begun = record {
  calls = calls;
  runs = loads_run command calls before now loads begun;
  says = loads_save_nothing command calls begun;
}

-- ---- loads, and what is saved after them

-- What an outcome saves is the command's one output.
abbrev pub SavesAs : List (List ℕ) → Option Saved → Type 0
SavesAs outputs None = Unit {0}
SavesAs outputs (Some saved) = outputs ≡ saved.name ∷ []

are_saves : (outputs : List (List ℕ)) (saved : Option Saved) (outcome : Outcome) (saves : List Call) (said : Said) → SavesAs outputs saved → Finishes saved outcome saves said
    → AreSaves outputs saves
are_saves outputs None outcome saves said fits finished =
    let P : List Call → Type 0 = λ cs. AreSaves outputs cs in
    subst P (sym finished.0) tt
are_saves outputs (Some saved) outcome saves said fits finished =
    let P : List Call → Type 0 = λ cs. AreSaves outputs cs in
    let Q : List (List ℕ) → Type 0 = λ names. AreSaves names (save saved.name saved.bytes finished.answer ∷ []) in
    subst P (sym finished.calls_are) (subst Q (sym fits) refl)

saves_told : (c : Contents) (saved : Option Saved) (outcome : Outcome) (saves : List Call) (said : Said) → Finishes saved outcome saves said → AllByRecursion (IsTold c) saves
saves_told c None outcome saves said finished =
    let P : List Call → Type 0 = λ cs. AllByRecursion (IsTold c) cs in
    subst P (sym finished.0) tt
saves_told c (Some saved) outcome saves said finished =
    let P : List Call → Type 0 = λ cs. AllByRecursion (IsTold c) cs in
    subst P (sym finished.calls_are) (tt, tt)

told_after : (had : Option Contents) (loads saves : List Call) (saved : Option Saved) (outcome : Outcome) (said : Said) → Finishes saved outcome saves said
    → IfSome had (λ c. AllByRecursion (IsTold c) loads) → IfSome had (λ c. AllByRecursion (IsTold c) (loads ++ saves))
told_after None loads saves saved outcome said finished told = tt
told_after (Some c) loads saves saved outcome said finished told = all_joined (IsTold c) loads saves told (saves_told c saved outcome saves said finished)

module _ (command : Command) (loads : List Call) (items : List Item) (outcome : Outcome) (before between : FilesState) (are : AreLoads loads before between)
    (read : AreRead (asked_files command) loads items) (comes_to : ComesTo command items outcome) (fits : SavesAs (outputs_of command) outcome.saved) where
  kept : (now : FilesState) (said : Said) → Keeps outcome between now said → Does command before now (Ok said)
  kept now said keeps =
      let begun : AreBegun (asked_files command) loads = read_begun (asked_files command) loads items read in
      let P : Option Contents → Type 0 = λ has. Holds has keeps.saves now.contents in
      let same : between.contents ≡ before.contents = ap (λ (s : FilesState). s.contents) are.files in
      record {
        calls = loads ++ keeps.saves;
        runs = record {
          had = keeps.had ∙ ap (λ (s : FilesState). s.calls ++ keeps.saves) are.files ∙ append_assoc before.calls loads keeps.saves;
          named = record {
            loads = loads;
            begun = begun;
            saves = keeps.saves;
            saved = are_saves (outputs_of command) outcome.saved outcome keeps.saves said fits keeps.finished;
            are = refl;
          };
          told = told_after before.contents loads keeps.saves outcome.saved outcome said keeps.finished are.told;
          held = holds_later loads keeps.saves before.contents now.contents (begun_loads (asked_files command) loads begun) (subst P same keeps.held);
        };
        says = says_by_files command (loads ++ keeps.saves) said (inr (record {
          loads = loads;
          items = items;
          read = read;
          outcome = outcome;
          comes_to = comes_to;
          saves = keeps.saves;
          finished = keeps.finished;
          calls_are = refl;
        }));
      }

  pub done_kept : (now : FilesState) (r : Result Said NoMemory) → DoesOutcome outcome between now r → Does command before now r
  done_kept now (Ok said) does = kept now said does
  done_kept now (Err why) does =
      let P : FilesState → Type 0 = λ s. AreLoads loads before s in
      done_begun command loads before now why (subst P (sym does) are) (read_begun (asked_files command) loads items read)

-- ---- words that are no command

usage_said : (r : Result Said NoMemory) → IfOk r (λ said. said ≡ record { status = 2; text = usage_line }) → MatchResult r (λ said. SaysCommand None [] said) (λ _. saves_in [] ≡ [])
usage_said (Ok said) is = (refl, is)
usage_said (Err why) is = refl

told_nothing : (told : Option Contents) → IfSome told (λ contents. AllByRecursion (IsTold contents) [])
told_nothing None = tt
told_nothing (Some contents) = tt

pub done_usage : (state : FilesState) (r : Result Said NoMemory) → IfOk r (λ said. said ≡ record { status = 2; text = usage_line }) → DoesWords None state state r
done_usage state r is = record {
  calls = [];
  runs = record { had = sym (append-nil state.calls); named = refl; told = told_nothing state.contents; held = refl };
  says = usage_said r is;
}

-- ---- words that are a command

pub done_words : (command words : Option Command) (before now : FilesState) (r : Result Said NoMemory) → command ≡ words → DoesWords command before now r → DoesWords words before now r
done_words command words before now r same does = subst (λ (c : Option Command). DoesWords c before now r) same does
