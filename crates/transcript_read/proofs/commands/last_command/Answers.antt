use Rattle.std.proofs.Common.{◌++◌, sym, ap, ◌∙◌}
use Rattle.std.specs.Option.{option_to_list}
use Rattle.transcript_read.proofs.CommandLaws.{if_some, last_is}
use Rattle.transcript_read.proofs.commands.last_command.Goals as goal

pub returns-clause-some : goal.returns-clause-some
returns-clause-some c =
    if_some c.pop-2.result _
    (λ x is.
    last_is c.args.session c.pop.new.self.items c.in_ok-script.script c.pop-2.new.self.items x (sym c.into_vec-scripts.ensures ∙ c.in_ok-script.ensures.items)
    (sym c.into_vec-commands.ensures ∙ c.pop-2.ensures.items ∙ ap (λ o. c.pop-2.new.self.items ++ option_to_list o) is))
