use Rattle.script_laws.proofs.OneByOne.{scripts_have_a_run}
use Rattle.script_laws.proofs.laws.scripts_have_a_run.Goals as goal

pub returns : goal.returns
returns c = scripts_have_a_run (record {
  entries = record {
    legal = c.histories_grow.ensures.grows;
    accepted = c.commands_are_asked.ensures.accepted;
    apart = c.commands_are_asked.ensures.touched;
    follows = c.commands_are_asked.ensures.follows;
    known = c.names_are_known.ensures;
    quiet = c.views_stand.ensures.quiet;
    written = c.views_stand.ensures.written;
    entered = c.views_stand.ensures.entered;
    left = c.views_stand.ensures.left;
    kept = c.views_stand.ensures.touched;
    pages = c.views_touch.ensures.written;
    goes = c.entries_go_on.ensures;
  };
  touches = record {
    legal = c.histories_grow.ensures.grows;
    serials = c.serials_rise.ensures.own;
    quiet = c.views_stand.ensures.quiet;
    mapped = c.views_stand.ensures.mapped;
    goes = c.touches_go_on.ensures;
  };
  nothing = c.histories_grow.ensures.nothing;
  refusals = c.views_answer.ensures.refusals;
  stands = c.views_stand.ensures.on;
  account = c.account_goes_on.ensures.account;
  touched = c.account_goes_on.ensures.touched;
  begins = c.progress_begins.ensures;
  refused = c.steady_lines_go_on.ensures.refused;
  read = c.steady_lines_go_on.ensures.read;
  ends = c.scripts_are_run.ensures;
})
