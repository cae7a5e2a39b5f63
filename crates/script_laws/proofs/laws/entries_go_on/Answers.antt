use Rattle.script_laws.proofs.Entered.{entry_goes_on}
use Rattle.script_laws.proofs.laws.entries_go_on.Goals as goal

pub returns : goal.returns
returns c =
    entry_goes_on c.account_grows.ensures.entry c.account_goes_on.ensures.account c.own_states_are_the_historys.ensures.replies c.touched_pages_are_followed.ensures.entries
    c.account_goes_on.ensures.touched c.touched_pages_are_followed.ensures.decide
