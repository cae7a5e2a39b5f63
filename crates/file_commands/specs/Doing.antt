-- What the commands of the code do, step by step, to the files that they are handed.
use Rattle.std.specs.Prelude.{◌≡◌, ℕ, List, [], ◌++◌, Option, Some, Result, Ok, Err, IfSome, MatchResult}
use Rattle.std.specs.List.{AllByRecursion}
use Rattle.lx_types.specs.declared.fail.NoMemory.{NoMemory}
use Rattle.obj_types.specs.declared.input.LinkInput.{LinkInput}
use Rattle.link_model.specs.Link.{Link, IsLinkOf}
use Rattle.lx_ports.specs.Calls.{Call}
use Rattle.lx_ports.specs.Files.{FilesState}
use Rattle.answer_model.specs.declared.said.Said.{Said}
use Rattle.answer_model.specs.Answer.{saves_in}
use Rattle.answer_model.specs.Ends.{AreCallsOf, Holds, IsTold}
use Rattle.answer_model.specs.LinkAnswer.{link_outcome}
use Rattle.answer_model.specs.Outcome.{Outcome}
use Rattle.answer_model.specs.Says.{Finishes, SaysCommand}
use Rattle.answer_model.specs.Words.{Command}

-- Between two moments the files had these calls, which are those that the command may make.
pub record Runs (command : Option Command) (calls : List Call) (before now : FilesState) : Type 0 where
  pub had : now.calls ≡ before.calls ++ calls
  pub named : AreCallsOf command calls
  pub told : IfSome before.contents (λ contents. AllByRecursion (IsTold contents) calls)
  pub held : Holds before.contents calls now.contents

-- What is said is what the calls' answers say. Where there was no memory, nothing was saved.
pub record DoesWords (command : Option Command) (before now : FilesState) (result : Result Said NoMemory) : Type 0 where
  pub calls : List Call
  pub runs : Runs command calls before now
  pub says : MatchResult result (λ said. SaysCommand command calls said) (λ _. saves_in calls ≡ [])

abbrev pub Does : Command → FilesState → FilesState → Result Said NoMemory → Type 0
Does command before now result = DoesWords (Some command) before now result

-- ---- after the loads

-- The outcome's file was saved, and its text is said, or that saving failed.
pub record Keeps (outcome : Outcome) (before now : FilesState) (said : Said) : Type 0 where
  pub saves : List Call
  pub finished : Finishes outcome.saved outcome saves said
  pub had : now.calls ≡ before.calls ++ saves
  pub held : Holds before.contents saves now.contents

-- Where there was no memory, the files had no call.
abbrev pub DoesOutcome : Outcome → FilesState → FilesState → Result Said NoMemory → Type 0
DoesOutcome outcome before now (Ok said) = Keeps outcome before now said
DoesOutcome outcome before now (Err _) = now ≡ before

-- The same of the link of an input.
pub record LinksSo (out : List ℕ) (input : LinkInput) (before now : FilesState) (said : Said) : Type 0 where
  pub link : Link
  pub of_input : IsLinkOf input link
  pub kept : Keeps (link_outcome out link) before now said

abbrev pub DoesLink : List ℕ → LinkInput → FilesState → FilesState → Result Said NoMemory → Type 0
DoesLink out input before now (Ok said) = LinksSo out input before now said
DoesLink out input before now (Err _) = now ≡ before
