use Rattle.script_laws.proofs.Steady.{begins}
use Rattle.script_laws.proofs.laws.progress_begins.Goals as goal

pub returns : goal.returns
returns c = begins c.histories_grow.ensures.nothing c.views_stand.ensures.new c.account_grows.ensures.begins c.touched_pages_are_followed.ensures.nothing
