use Rattle.std.proofs.Common.{[], sym, subst}
use Rattle.residence_tests.specs.Sound.{CountsSound}
use Rattle.residence_tests.proofs.SoundCounts.{nothing_sound}
use Rattle.residence_tests.proofs.keeping.nothing_held.Goals as goal

pub returns : goal.returns
returns c =
    subst (CountsSound c.args.lib.now c.in_ok-make.field-0) (sym c.new.ensures.items) (nothing_sound c.args.lib.now c.in_ok-make.field-0 (c.in_ok-make.ensures.all_counts []) c.in_ok-make.ensures.kept)
