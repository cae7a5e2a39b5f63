use Rattle.std.proofs.Common.{length}
use Rattle.lx_write.proofs.Zeros.{zero_page}
use Rattle.lx_write.proofs.pages.is_zero.Goals as goal

pub returns-then-page-le4096 : goal.returns-then-page-le4096
returns-then-page-le4096 c = zero_page c.args.page.now (length c.args.page.now) 4096 c.eq.result c.eq.ensures
