-- What `gen` does, from what the generator does.
use Rattle.std.proofs.Common.{◌≡◌, ◌⊎◌, ℕ, suc, ◌+◌, ◌<◌, true, false, List, [], ◌∷◌, ◌++◌, length, map, Option, Some, None, Result, Ok, Err, ◌∙◌, ap, sym, subst, refl, inl, inr, arith}
use Rattle.std.proofs.lemmas.List.{append-nil}
use Rattle.std.specs.Prelude.{IfSome, codes}
use Rattle.std.specs.List.{AllByRecursion, enumerate_from, flat_map, range_with_len}
use Rattle.lx_types.specs.declared.fail.NoMemory.{NoMemory}
use Rattle.lx_ports.specs.Calls.{Call, load, save}
use Rattle.lx_ports.specs.Files.{Contents, FilesState}
use Rattle.lx_ports.specs.declared.files.SaveFault.{SaveFault}
use Rattle.gen_model.specs.Sessions.{object_name, definition_name, session_name}
use Rattle.gen_core.specs.Doing.{DoesGen, Generates}
use Rattle.answer_model.specs.declared.said.Said.{Said}
use Rattle.answer_model.specs.Answer.{saves_in}
use Rattle.answer_model.specs.Ends.{AreSaves, IsTold, is_failed_save, save_faults}
use Rattle.answer_model.specs.FileLine.{file_line}
use Rattle.answer_model.specs.GenAnswer.{GenAnswer, GenWords, IsSavedWith, SavesInTurn, files_with, module_files, names_of, session_file}
use Rattle.answer_model.specs.Outcome.{Saved}
use Rattle.answer_model.specs.Words.{Command, gen}
use Rattle.file_commands.specs.Doing.{Does}
use Rattle.file_commands.proofs.Begun.{IsPlain}
use Rattle.lx_tool.proofs.Counts.{count_after}

abbrev WRITE_FAILED : List ℕ → Said
WRITE_FAILED name = record { status = 4; text = file_line name (codes "write failed") }

-- ---- the names of the files

abbrev name_of : Saved → List ℕ
name_of saved = saved.name

abbrev pair_names : List ℕ → ℕ → List (List ℕ)
pair_names prefix k = object_name prefix k ∷ definition_name prefix k ∷ []

names_from : (prefix : List ℕ) (count : ℕ) (k : ℕ) (objects : List (List ℕ))
    → map name_of (flat_map (module_files prefix) (enumerate_from k objects) ++ session_file count prefix ∷ [])
    ≡ flat_map (pair_names prefix) (range_with_len k (length objects)) ++ session_name prefix ∷ []
names_from prefix count k [] = refl
names_from prefix count k (bytes ∷ objects) = ap (λ (names : List (List ℕ)). object_name prefix k ∷ definition_name prefix k ∷ names) (names_from prefix count (k + 1) objects)

-- The files of the answer have the names of the command's outputs.
files_named : (count : ℕ) (prefix text : List ℕ) (files : List Saved) → GenAnswer (record { count = count; prefix = prefix }) files text → map name_of files ≡ names_of count prefix
files_named count prefix text files answer =
    ap (λ (fs : List Saved). map name_of fs) answer.files_are
    ∙ names_from prefix count 1 answer.objects
    ∙ ap (λ (n : ℕ). names_of n prefix) answer.each

-- ---- the saves

pub record TurnSays (files : List Saved) (calls : List Call) (said : Said) : Type 0 where
  pub named : AreSaves (map name_of files) calls
  pub told : (contents : Contents) → AllByRecursion (IsTold contents) calls
  pub plain : AllByRecursion IsPlain calls
  pub low : (said.status ≡ 0) ⊎ ((said.status ≡ 4) × (0 < save_faults calls))

no_calls : (files : List Saved) (calls : List Call) (said : Said) → calls ≡ [] → said.status ≡ 0 → TurnSays files calls said
no_calls files [] said is zero = record { named = tt; told = λ contents. tt; plain = tt; low = inl zero }
no_calls files (call ∷ calls) said is zero = absurd cc

-- one save more in front, which was good
one_more : (file : Saved) (files : List Saved) (calls : List Call) (said : Said) → TurnSays files calls said → TurnSays (file ∷ files) (save file.name file.bytes (Ok tt) ∷ calls) said
one_more file files [] said rest =
    record {
      named = refl;
      told = λ contents. (tt, tt);
      plain = (tt, tt);
      low = elim rest.low [ inl zero ↦ inl zero | inr four ↦ absurd (let some = four.1 in omega (arith, some)) ];
    }
one_more file files (call ∷ calls) said rest =
    record {
      named = (refl, refl, rest.named);
      told = λ contents. (tt, rest.told contents);
      plain = (tt, rest.plain);
      low = elim rest.low [ inl zero ↦ inl zero | inr four ↦ inr (four.0, count_after is_failed_save (save file.name file.bytes (Ok tt)) (call ∷ calls) four.1) ];
    }

last_failed : (file : Saved) (files : List Saved) (why : SaveFault) (calls : List Call) (said : Said) → calls ≡ [] → said ≡ WRITE_FAILED file.name
    → TurnSays (file ∷ files) (save file.name file.bytes (Err why) ∷ calls) said
last_failed file files why [] said none is = record { named = refl; told = λ contents. (tt, tt); plain = (tt, tt); low = inr (ap (λ (s : Said). s.status) is, omega arith) }
last_failed file files why (call ∷ calls) said none is = absurd cc

saved_with : (file : Saved) (files : List Saved) (text : List ℕ) (answer : Result (Unit {0}) SaveFault) (calls : List Call) (said : Said) → IsSavedWith (SavesInTurn files text) file answer calls said
    → (SavesInTurn files text calls said → TurnSays files calls said) → TurnSays (file ∷ files) (save file.name file.bytes answer ∷ calls) said
saved_with file files text (Ok u) calls said is rest = one_more file files calls said (rest is)
saved_with file files text (Err why) calls said is rest = last_failed file files why calls said is.0 is.1

pub saves_say : (files : List Saved) (text : List ℕ) (calls : List Call) (said : Said) → SavesInTurn files text calls said → TurnSays files calls said
saves_say [] text calls said is = no_calls [] calls said is.0 (ap (λ (s : Said). s.status) is.1)
saves_say (file ∷ files) text [] said is = absurd is
saves_say (file ∷ files) text (call ∷ calls) said is =
    subst (λ (c : Call). TurnSays (file ∷ files) (c ∷ calls) said) (sym is.1) (saved_with file files text is.0 calls said is.2 (saves_say files text calls said))

-- ---- the whole command

told_where : (has : Option Contents) (calls : List Call) → ((contents : Contents) → AllByRecursion (IsTold contents) calls) → IfSome has (λ contents. AllByRecursion (IsTold contents) calls)
told_where None calls told = tt
told_where (Some contents) calls told = told contents

generated : (count : ℕ) (prefix : List ℕ) (before now : FilesState) (said : Said) → Generates (record { count = count; prefix = prefix }) before now said → Does (gen count prefix) before now (Ok said)
generated count prefix before now said does =
    let turn = saves_say does.says.files does.says.text does.saves said does.says.saves in
    record {
      calls = does.saves;
      runs = record {
        had = does.had;
        named = record {
          loads = [];
          begun = tt;
          saves = does.saves;
          saved = subst (λ (names : List (List ℕ)). AreSaves names does.saves) (files_named count prefix does.says.text does.says.files does.says.answer) turn.named;
          are = refl;
        };
        told = told_where before.contents does.saves turn.told;
        held = does.held;
      };
      says = does.says;
    }

nothing_done : (count : ℕ) (prefix : List ℕ) (state : FilesState) (why : NoMemory) → Does (gen count prefix) state state (Err why)
nothing_done count prefix state why = record {
  calls = [];
  runs = record {
    had = sym (append-nil state.calls);
    named = record { loads = []; begun = tt; saves = []; saved = tt; are = refl };
    told = told_where state.contents [] (λ contents. tt);
    held = refl;
  };
  says = refl;
}

pub gen_done : (count : ℕ) (prefix : List ℕ) (before now : FilesState) (r : Result Said NoMemory) → DoesGen (record { count = count; prefix = prefix }) before now r → Does (gen count prefix) before now r
gen_done count prefix before now (Ok said) does = generated count prefix before now said does
gen_done count prefix before now (Err why) does =
    subst (λ (s : FilesState). Does (gen count prefix) before s (Err why)) (sym does) (nothing_done count prefix before why)
