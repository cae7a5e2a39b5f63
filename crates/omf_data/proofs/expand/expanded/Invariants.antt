use Rattle.std.proofs.Common.{◌≡◌, [], length}
use Rattle.omf_data.proofs.Expanded.{all_at}
use Rattle.omf_data.proofs.expand.expanded.Given as goal

abbrev pub invariant-all : goal.invariant-all
invariant-all l = all_at l.wide l.bytes.items l.fields ≡ all_at l.wide [] l.initial.fields

abbrev pub decreases-all : goal.decreases-all
decreases-all l = length l.fields.left
