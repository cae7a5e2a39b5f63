use Rattle.std.proofs.Common.{◌∙◌}
use Rattle.comdat_core.proofs.AsideLists.{put_again}
use Rattle.comdat_core.proofs.aside.put_back.Goals as goal

pub returns : goal.returns
returns c = λ whole is of.
    (λ i. record c.args.input.now { objects = c.put_lists.ensures i; libs = c.put_lists-2.ensures i }) ∙ put_again c.args.input.now whole c.args.aside is of
