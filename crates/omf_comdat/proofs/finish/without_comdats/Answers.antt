use Rattle.std.proofs.Common.{◌∙◌}
use Rattle.omf_comdat.proofs.Indexed.{without-comdats}
use Rattle.omf_comdat.proofs.finish.without_comdats.Goals as goal

pub returns : goal.returns
returns c = (λ i. record c.args.parts.module { comdats = c.new.ensures i }) ∙ without-comdats c.args.parts c.requires.none c.requires.whole
