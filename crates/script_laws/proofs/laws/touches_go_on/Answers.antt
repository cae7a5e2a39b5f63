use Rattle.script_laws.proofs.Touched.{touch_goes_on}
use Rattle.script_laws.proofs.laws.touches_go_on.Goals as goal

pub returns : goal.returns
returns c =
    touch_goes_on c.histories_grow.ensures.shrinks c.histories_grow.ensures.follows c.views_stand.ensures.on c.views_stand.ensures.quiet c.touch_grows.ensures.begins c.touch_grows.ensures.waits
    c.touch_grows.ensures.faults c.touch_grows.ensures.ends c.views_touch.ensures.accepted c.views_touch.ensures.fixed c.views_touch.ensures.faults c.views_touch.ensures.mapped
    c.own_states_are_the_historys.ensures.replies c.account_goes_on.ensures.touched c.touched_pages_are_followed.ensures.entries
