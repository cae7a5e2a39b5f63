-- The logical segments and the groups of a link.
use Rattle.std.specs.Prelude.{◌≡◌, ℕ, List}
use Rattle.obj_types.specs.declared.definition.DefFile.{DefFile}
use Rattle.link_model.specs.declared.keys.SegmentKey.{SegmentKey}
use Rattle.link_model.specs.Link.{Link}
use Rattle.link_model.specs.Groups.{group_names}
use Rattle.link_model.specs.Parts.{Part}
use Rattle.link_model.specs.Communals.{parts}
use Rattle.seg_parts.specs.Members.{all_memberships}

-- These are the definition file, the parts, the names of groups and what is in groups of a link.
pub record AreOf (l : Link) (def : DefFile) (ps : List Part) (names : List (List ℕ)) (members : List (List ℕ × SegmentKey)) : Type 0 where
  pub def_is : l.def ≡ def
  pub parts_are : parts l ≡ ps
  pub names_are : group_names l ≡ names
  pub members_are : all_memberships l ≡ members
