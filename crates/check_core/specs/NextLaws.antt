-- What it means for the commands of processes that they are counted.
use Rattle.std.specs.Prelude.{◌≡◌, ◌↔◌, ℕ, true, List, [], ◌∷◌, ◌++◌, length, map}
use Rattle.session_model.specs.declared.sessions.Script.{Script}
use Rattle.session_model.specs.Merging.{Item, is_command_of, AllCommands}
use Rattle.check_model.specs.Checks.{Judge, CommandIsNext, process_of}
use Rattle.check_core.specs.NextCommands.{AreDone, IsForNext, next_command, done_after}

-- Before all items nothing is done.
abbrev pub NothingDone : Type 0
NothingDone = (j : Judge) → AreDone j [] (map (λ script. 0) j.scripts)

-- An item is for the next command exactly where the command that is next by count is its own.
abbrev pub NextIsByCount : Type 0
NextIsByCount =
    (j : Judge) (before : List Item) (done : List ℕ) (item : Item) → AreDone j before done →
    (CommandIsNext j before item
    ↔ (is_command_of (process_of item) item ≡ true → IsForNext j.lib (next_command j.scripts done (process_of item)) item))

-- Then one more is done.
abbrev pub OneMoreDone : Type 0
OneMoreDone =
    (j : Judge) (before : List Item) (done : List ℕ) (item : Item) → AreDone j before done → CommandIsNext j before item →
    AreDone j (before ++ item ∷ []) (done_after done item)

-- how many commands a script has
abbrev pub command_count : Script → ℕ
command_count script = length script.commands

-- At the end no command is left exactly where each script has as many as were done.
abbrev pub AllAreDone : Type 0
AllAreDone =
    (j : Judge) (items : List Item) (done : List ℕ) → AreDone j items done →
    (AllCommands j.lib items j.scripts ↔ (done ≡ map command_count j.scripts))
