use Rattle.session_read.proofs.threads.+fn-read_in_parts-join+arg2+fn-read_in_parts-join+arg3+read_in_parts.Given as goal

abbrev pub decreases-join+arg2 : goal.decreases-join+arg2
decreases-join+arg2 g l = l.left

abbrev pub decreases-join+arg3 : goal.decreases-join+arg3
decreases-join+arg3 g l = l.left

abbrev pub decreases-read_in_parts : goal.decreases-read_in_parts
decreases-read_in_parts g l = l.halvings
