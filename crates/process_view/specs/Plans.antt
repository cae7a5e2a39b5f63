-- What commands come to that a view does not refuse.
use Rattle.std.specs.Prelude.{◌≡◌, ◌<◌, ◌⊎◌, ℕ, List, length, Some, None}
use Rattle.load_model.specs.declared.commands.Command.{Command}
use Rattle.load_model.specs.declared.commands.Command.TheVariants as commands
use Rattle.load_model.specs.Modules.{number_of}
use Rattle.load_model.specs.ViewAnswers.{view_refusal}
use Rattle.mod_refs.specs.declared.changes.Leaving.TheVariants.{One, All}
use Rattle.process_view.specs.declared.plans.Plan.{Plan}
use Rattle.process_view.specs.declared.plans.Plan.TheVariants as plans
use Rattle.process_view.specs.ProcessViews.{ProcessView}
use Rattle.process_view.specs.Answering.{enter_command, IsReachedNamed}

-- a command that has an entry, where it is not refused
abbrev pub HasEntry : Command → Type 0
HasEntry (commands.Start name) = Unit {0}
HasEntry (commands.Load name) = Unit {0}
HasEntry (commands.Free name) = Unit {0}
HasEntry (commands.Shared at) = Unit {0}
HasEntry (commands.Write at bytes) = Unit {0}
HasEntry (commands.Debug at bytes) = Unit {0}
HasEntry commands.Exit = Unit {0}
HasEntry (commands.Touch at) = ⊥
HasEntry (commands.Peek at) = ⊥
HasEntry (commands.Query name key) = ⊥
HasEntry (commands.GetRes name ty id) = ⊥

-- the module that a name means, which the library has
abbrev pub IsNamed : ProcessView → List ℕ → ℕ → Type 0
IsNamed v name m = (number_of v.library name ≡ Some m) × (m < length v.library)

-- what a plan says of the command
abbrev pub Means : ProcessView → Command → Plan → Type 0
Means v command (plans.Enter how m) = (name : List ℕ) × (command ≡ enter_command how name) × IsNamed v name m
Means v command (plans.Leave (One m)) = (name : List ℕ) × (command ≡ commands.Free name) × IsNamed v name m
Means v command (plans.Leave All) = command ≡ commands.Exit
Means v command (plans.Put k at bytes) =
    ((command ≡ commands.Write at.now bytes.now) ⊎ (command ≡ commands.Debug at.now bytes.now)) × IsReachedNamed v at.now.«module» k
Means v command (plans.Read k at) = (command ≡ commands.Shared at.now) × IsReachedNamed v at.now.«module» k
Means v command plans.Steady = HasEntry command → ⊥

-- The view does not refuse the command, and the plan says what it comes to.
pub record IsPlan (v : ProcessView) (command : Command) (plan : Plan) : Type 0 where
  pub accepted : view_refusal v.library v.holding command ≡ None
  pub means : Means v command plan
