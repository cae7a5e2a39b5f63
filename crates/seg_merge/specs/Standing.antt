-- How the lists of a link stand while its parts are placed.
use Rattle.std.specs.Prelude.{◌≡◌, ℕ, List, ◌++◌, Some, None, map}
use Rattle.obj_types.specs.declared.object.ObjModule.{ObjModule}
use Rattle.link_model.specs.Link.{Link}
use Rattle.link_model.specs.Parts.{Part}
use Rattle.link_model.specs.Communals.{parts}
use Rattle.link_model.specs.Groups.{group_names, in_group}
use Rattle.link_model.specs.Order.{own_stacks}
use Rattle.link_model.specs.Rows.{row_of}
use Rattle.link_model.specs.LayoutRefusals.{too_large}
use Rattle.seg_parts.specs.declared.rows.Placed.{Placed}
use Rattle.seg_parts.specs.LogicalSegments.{heads_of}
use Rattle.seg_parts.specs.Placing.{placed_shown}
use Rattle.seg_merge.specs.Membership.{AreGroupsOf}

-- These are all parts of a link, the linker's own stack last, and the row of each logical segment by its number. None
-- passes a limit.
pub record RowsStand (l : Link) (ps : List Part) (rows : List Placed) : Type 0 where
  pub parts_are : ps ≡ parts l ++ own_stacks l
  pub rows_are : map (row_of l) (heads_of ps) ≡ map (λ r. Some (placed_shown r)) rows
  pub none_too_large : too_large l ≡ None

-- With them these are the chosen modules, the names of the groups, and the groups of each logical segment by its number.
pub record StandsSo (l : Link) (modules : List ObjModule) (ps : List Part) (rows : List Placed) (names : List (List ℕ)) (groups : List (List ℕ)) : Type 0 where
  pub modules_are : modules ≡ l.modules
  pub rows_stand : RowsStand l ps rows
  pub names_are : names ≡ group_names l
  pub groups_are : AreGroupsOf (in_group l) names (heads_of ps) groups
