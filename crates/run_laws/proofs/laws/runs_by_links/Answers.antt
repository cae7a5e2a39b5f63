use Rattle.run_laws.proofs.Agreeing.{runs_by_links}
use Rattle.run_laws.proofs.laws.runs_by_links.Goals as goal

pub returns : goal.returns
returns c =
    runs_by_links c.linked_bytes_are_loaded.ensures c.linked_files_are_read.ensures c.reached_modules_stand.ensures c.histories_grow.ensures.shrinks
    c.agreement_is_enough.ensures.histories c.agreement_is_enough-2.ensures
