use Rattle.std.proofs.Common.{◌∙◌}
use Rattle.lx_write.proofs.Forms.{zeros_left}
use Rattle.lx_write.proofs.pages.filled.Goals as goal

pub returns : goal.returns
returns c = c.put_front.ensures ∙ zeros_left c.args.bytes.now
