-- Which command of its script a process has to do next, by how many it has done.
use Rattle.std.specs.Prelude.{◌≡◌, ℕ, zero, suc, ◌+◌, List, length, filter, Option, Some, None, if◌then◌else◌, slice_get, slice_index, slice_set}
use Rattle.load_model.specs.declared.commands.Command.{Command}
use Rattle.load_model.specs.Modules.{Library}
use Rattle.session_model.specs.declared.sessions.Script.{Script}
use Rattle.session_model.specs.Merging.{Item, is_command_of, IsFor}
use Rattle.check_model.specs.Checks.{Judge, AreForFirst, commands_of, process_of}

-- how many commands a process has done, which counts from 1; of another, none
abbrev pub done_of : List ℕ → ℕ → ℕ
done_of done zero = 0
done_of done (suc k) = slice_index done k

abbrev pub next_command : List Script → List ℕ → ℕ → Option Command
next_command scripts done pid = slice_get (commands_of scripts pid) (done_of done pid)

-- an item is for the command, where there is one
abbrev pub IsForNext : Library → Option Command → Item → Type 0
IsForNext lib None item = ⊥
IsForNext lib (Some command) item = IsFor lib item command

-- Of these items those of each process are for the first commands of its script, as many as it has done.
pub record AreDone (j : Judge) (before : List Item) (done : List ℕ) : Type 0 where
  pub scripts : length done ≡ length j.scripts
  pub first : (pid : ℕ) → AreForFirst j.lib (filter (is_command_of pid) before) (commands_of j.scripts pid)
  pub count : (pid : ℕ) → length (filter (is_command_of pid) before) ≡ done_of done pid

-- one command more of a process
abbrev pub with_one_more : List ℕ → ℕ → List ℕ
with_one_more done zero = done
with_one_more done (suc k) = slice_set done k (slice_index done k + 1)

abbrev pub done_after : List ℕ → Item → List ℕ
done_after done item = if is_command_of (process_of item) item then with_one_more done (process_of item) else done
