use Rattle.std.proofs.Common.{◌+◌, ◌*◌}
use Rattle.lx_model.specs.Reading.{short_at}
use Rattle.lx_read.proofs.TableLoop.{IsLeft}
use Rattle.lx_read.proofs.fields.whole_doublewords.Given as goal

-- the doublewords so far are in the file
abbrev pub invariant-loop-k : goal.invariant-loop-k
invariant-loop-k l = IsLeft (λ i. short_at 4 l.file (l.at + 4 * i)) l.count l.k
