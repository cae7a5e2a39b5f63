use Rattle.std.proofs.Common.{◌≡◌, Some, ap}
use Rattle.std.specs.Prelude.{option_copied, option_map}
use Rattle.check_core.specs.ToldItems.{item_of}
use Rattle.check_play.proofs.NextCommands.{command_fits}
use Rattle.check_play.proofs.PlayedAlone.{fault_alone}
use Rattle.check_play.proofs.player.play_entry.Goals as goal

pub returns-in-Some : goal.returns-in-Some
returns-in-Some g c =
    fault_alone c.play_fault.result c.in-Some.at c.args.entry.0.now (option_copied c.args.entry.1) (option_map item_of c.args.entry.2) c.args.standing.now c.play_fault.new.standing c.args.view.now c.play_fault.new.view
    c.in-Some.ensures.found c.play_fault.ensures

pub play_deed-requires-clause-fits : goal.play_deed-requires-clause-fits
play_deed-requires-clause-fits g c =
    let r = c.requires.stands in
    let is : option_copied c.args.entry.1 ≡ Some c.in-Some-command.command.now = ap option_copied c.in-Some-command.is in
    command_fits r.j r.before c.args.entry.0.now (option_copied c.args.entry.1) c.in-Some-command.command.now r.can r.fit is
