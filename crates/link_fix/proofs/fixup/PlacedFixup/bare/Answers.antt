use Rattle.std.proofs.Common.{refl}
use Rattle.link_fix.specs.Shown.{placed_shown}
use Rattle.link_fix.proofs.BareFixups.{bare-accepted}
use Rattle.link_fix.proofs.fixup.PlacedFixup.bare.Goals as goal

pub returns : goal.returns
returns c = record { shown = refl; accepted = bare-accepted (placed_shown c.args.self.now) }
