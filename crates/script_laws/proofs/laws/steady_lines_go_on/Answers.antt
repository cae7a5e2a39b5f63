use Rattle.script_laws.proofs.Steady.{read_goes_on, refused_goes_on}
use Rattle.script_laws.proofs.laws.steady_lines_go_on.Goals as goal

pub returns : goal.returns
returns c = record {
  refused = refused_goes_on c.account_grows.ensures.line c.touched_pages_are_followed.ensures.lines c.views_account.ensures.refusals;
  read = read_goes_on c.account_grows.ensures.line c.touched_pages_are_followed.ensures.lines c.views_account.ensures.replies;
}
