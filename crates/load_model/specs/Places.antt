-- Where a place lies among the pages of its object.
use Rattle.std.specs.Prelude.{◌+◌, ◌%◌, ◌≤◌}
use Rattle.lx_types.specs.declared.object.TheConstants.{PAGE_SIZE}
use Rattle.load_model.specs.declared.commands.Place.{Place}

-- it crosses no end of a page
abbrev pub LiesInPage : Place → Type 0
LiesInPage at = at.offset % PAGE_SIZE + at.len ≤ PAGE_SIZE
