use Rattle.play_laws.proofs.MappedPages.{nothing_mapped, mapped_is_touched, mapped_after_entry, mapped_after_line, mapped_after_touch, mapped_after_fault, mapped_after_others}
use Rattle.play_laws.proofs.laws.mapped_pages_move.Goals as goal

pub returns-clause-nothing : goal.returns-clause-nothing
returns-clause-nothing c = nothing_mapped c.touched_pages_decide_places.ensures.items

pub returns-clause-touched : goal.returns-clause-touched
returns-clause-touched c = mapped_is_touched

pub returns-clause-entry : goal.returns-clause-entry
returns-clause-entry c = mapped_after_entry c.touched_pages_decide_places.ensures.items

pub returns-clause-line : goal.returns-clause-line
returns-clause-line c = mapped_after_line c.touched_pages_decide_places.ensures.items

pub returns-clause-touch : goal.returns-clause-touch
returns-clause-touch c = mapped_after_touch c.touched_pages_decide_places.ensures.items

pub returns-clause-fault : goal.returns-clause-fault
returns-clause-fault c = mapped_after_fault

pub returns-clause-others : goal.returns-clause-others
returns-clause-others c = mapped_after_others c.touched_pages_decide_places.ensures.items c.others_leave_alike.ensures.alike
