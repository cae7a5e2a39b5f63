-- What is known of the logical segments and the groups of a link.
use Rattle.std.specs.Prelude.{◌≡◌, map}
use Rattle.link_model.specs.Link.{Link}
use Rattle.link_model.specs.Groups.{group_names}
use Rattle.link_model.specs.Communals.{parts}
use Rattle.seg_parts.specs.Members.{member_shown, all_memberships}
use Rattle.seg_merge.specs.declared.grouped.Grouped.{Grouped}

-- These are the parts, the names of groups and what is in groups of a link.
pub record AreGrouped (l : Link) (g : Grouped) : Type 0 where
  pub parts_are : g.segments ≡ parts l
  pub names_are : g.names ≡ group_names l
  pub members_are : map member_shown g.members.items ≡ all_memberships l
