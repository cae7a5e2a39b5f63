use Rattle.std.proofs.Common.{List, ap}
use Rattle.load_model.specs.declared.commands.Command.{Command}
use Rattle.session_read.proofs.DraftLaws.{refused}
use Rattle.session_read.proofs.draft.Draft.with_command.Goals as goal

pub returns-in_err-push_command : goal.returns-in_err-push_command
returns-in_err-push_command c =
    refused c.from_residual.result c.in_err-push_command.field-0.0 _ _ _ c.from_residual.ensures.1 (c.in_err-push_command.ensures c.args.asked)

pub returns : goal.returns
returns c =
    let taken = c.in_ok-push_command.ensures c.args.asked in
    (taken.0, ap (λ (cs : List Command). record c.args.self { commands = cs }) taken.1)
