use Rattle.std.proofs.Common.{map, sym}
use Rattle.seg_parts.specs.Members.{member_shown}
use Rattle.seg_merge.proofs.LinkGroups.{names-apart}
use Rattle.seg_merge.proofs.layout.lay_segments.Goals as goal

pub tables_of-requires : goal.tables_of-requires
tables_of-requires c = names-apart c.requires.order.0 c.args.standing.now.names (sym c.requires.order.1.names_are)

pub lay_tables-requires-clause-stand : goal.lay_tables-requires-clause-stand
lay_tables-requires-clause-stand c =
    (c.requires.order.0, record { members = map member_shown c.args.members.now; in_order = c.requires.order.1; tables = c.in_ok-tables.ensures })

pub returns : goal.returns
returns c =
    λ l i. c.lay_tables.ensures l (record { members = map member_shown c.args.members.now; in_order = i; tables = c.in_ok-tables.ensures })
