-- All scripts over one history.
use Rattle.std.proofs.Common.{ℕ, ◌+◌, List, sym, subst}
use Rattle.load_model.specs.declared.commands.Command.{Command}
use Rattle.load_model.specs.declared.deeds.Entry.{Entry}
use Rattle.load_model.specs.Modules.{Library, Held}
use Rattle.load_model.specs.State.{Failing}
use Rattle.session_model.specs.declared.sessions.Line.{Line}
use Rattle.merge_laws.specs.Accounts.{Account}
use Rattle.merge_laws.specs.AccountLaws.{AccountsMerge, AccountGoesOn}
use Rattle.script_laws.specs.Ends.{HasCarriedOut, ScriptsAreRun}

account_of : AccountGoesOn → (lib : Library) (failing : Failing) (contents : Held) (pid : ℕ) (h : List Entry) (lines : List Line) (cs : List Command) →
    HasCarriedOut lib failing contents pid h lines cs → Account lib failing contents pid h lines cs
account_of goes lib failing contents pid h lines cs it =
    subst (λ l. Account lib failing contents pid l lines cs) (sym it.begins)
    (goes lib failing contents pid it.shown it.rest lines cs it.others (subst (λ n. Account lib failing contents n it.shown lines cs) it.number it.progress.account))

pub scripts_are_run : AccountGoesOn → AccountsMerge → ScriptsAreRun
scripts_are_run goes merge lib failing contents h s scripts legal numbers within each = record {
  legal = legal;
  merge =
      merge lib failing contents h s scripts numbers within
      (λ i lines script at_line at_script. account_of goes lib failing contents (1 + i) h lines.lines script.commands (each i lines script at_line at_script));
}
