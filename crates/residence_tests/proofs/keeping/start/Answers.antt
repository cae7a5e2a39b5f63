use Rattle.std.proofs.Common.{List, ◌++◌, ◌∷◌, [], sym, subst}
use Rattle.load_model.specs.ProcessCounts.{ProcessCounts}
use Rattle.residence_tests.specs.Sound.{CountsSound}
use Rattle.residence_tests.proofs.SoundCounts.{either, started_sound, more_started}
use Rattle.residence_tests.proofs.keeping.start.Goals as goal

pub returns-in_ok-push : goal.returns-in_ok-push
returns-in_ok-push c =
    subst (CountsSound c.args.lib.now c.attach-full.new.self) (sym c.in_ok-push.ensures.items)
    (either c.attach-full.result _ _ _ c.attach-full.ensures.entered c.attach-full.ensures.unchanged
    (λ x done. started_sound c.args.lib.now c.args.holding.now.refs c.attach-full.new.self c.args.holding.now.started.items c.args.pid c.args.m c.requires.sound
    (done c.requires.sound.state c.requires.sound.counts_are) c.attach-full.ensures.kept)
    (λ x same. subst (λ (rows : List ProcessCounts). CountsSound c.args.lib.now rows (c.args.holding.now.started.items ++ c.args.pid ∷ [])) (sym same)
    (more_started c.args.lib.now c.args.holding.now.refs c.args.holding.now.started.items c.args.pid c.requires.sound)))
