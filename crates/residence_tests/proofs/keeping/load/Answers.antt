use Rattle.std.proofs.Common.{List, sym, subst}
use Rattle.load_model.specs.ProcessCounts.{ProcessCounts}
use Rattle.residence_tests.specs.Sound.{CountsSound}
use Rattle.residence_tests.proofs.SoundCounts.{either, loaded_sound}
use Rattle.residence_tests.proofs.keeping.load.Goals as goal

pub returns : goal.returns
returns c =
    either c.attach-full.result _ _ _ c.attach-full.ensures.entered c.attach-full.ensures.unchanged
    (λ x done. loaded_sound c.args.lib.now c.args.holding.now.refs c.attach-full.new.self c.args.holding.now.started.items c.args.pid c.args.m c.requires.sound
    (done c.requires.sound.state c.requires.sound.counts_are) c.attach-full.ensures.kept)
    (λ x same. subst (λ (rows : List ProcessCounts). CountsSound c.args.lib.now rows c.args.holding.now.started.items) (sym same) c.requires.sound)
