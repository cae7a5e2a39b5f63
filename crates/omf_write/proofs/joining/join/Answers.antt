use Rattle.std.proofs.Common.{List, ℕ, sym, subst}
use Rattle.std.specs.List.{AllByRecursion}
use Rattle.omf_write.specs.Joined.{HasEnds}
use Rattle.omf_write.proofs.JoinedRead.{all_ends, joined_answer}
use Rattle.omf_write.proofs.joining.join.Goals as goal

pub joined-requires : goal.joined-requires
joined-requires c = subst (λ (x : List (List ℕ)). AllByRecursion HasEnds x) (sym c.requires.1) (all_ends c.requires.0)

pub returns : goal.returns
returns c = λ each is. joined_answer (λ bytes. bytes.items) c.args.libraries.now each c.joined.result is c.joined.ensures
