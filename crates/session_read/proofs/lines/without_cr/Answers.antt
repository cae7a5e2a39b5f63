use Rattle.std.proofs.Common.{◌-◌, length, arith}
use Rattle.session_read.proofs.LineLaws.{cr_cut, cr_none, cr_empty}
use Rattle.session_read.proofs.lines.without_cr.Goals.{else-len-gt0-via-then-len-gt0+else-line-len-eq13, else-len-gt0-via-else-len-gt0}
use Rattle.session_read.proofs.lines.without_cr.Goals as goal

pub returns-then-line-len-eq13 : goal.returns-then-line-len-eq13
returns-then-line-len-eq13 c = cr_cut c.args.line.now (length c.args.line.now - 1) (omega (arith, c.if-len-gt0.true)) c.if-line-len-eq13.true

pub returns-else-len-gt0 : goal.returns-else-len-gt0
returns-else-len-gt0 c =
    elim c.else-len-gt0.branch [
      | else-len-gt0-via-then-len-gt0+else-line-len-eq13 w ↦
          cr_none c.args.line.now (length c.args.line.now - 1) (omega (arith, w.if-len-gt0.true)) w.if-line-len-eq13.false
      | else-len-gt0-via-else-len-gt0 w ↦ cr_empty c.args.line.now (omega (arith, w.if-len-gt0.false))
    ]
