use Rattle.residence_tests.proofs.SoundCounts.{left_sound}
use Rattle.residence_tests.proofs.keeping.leave.Goals as goal

pub returns : goal.returns
returns c =
    left_sound c.args.lib.now c.args.holding.now.refs c.detach.new.self c.args.holding.now.started.items c.args.pid c.args.what c.requires.sound
    (c.detach.ensures.left c.requires.sound.state c.requires.sound.counts_are) c.detach.ensures.kept
