-- Whether the parts of logical segments and of groups are use32.
use Rattle.std.specs.Prelude.{◌≡◌, ℕ, ◌<◌, ◌==◌, Bool, false, not, List, Option, Some, None, Result, length, get_or, slice_set, if◌then◌else◌}
use Rattle.std.specs.List.{list_any}
use Rattle.std.specs.Bool.{beq}
use Rattle.lx_types.specs.Answers.{Answers}
use Rattle.lx_types.specs.declared.fail.Fail.{Fail}
use Rattle.link_model.specs.declared.refusals.LayRefusal.{LayRefusal}
use Rattle.link_model.specs.Link.{Link}
use Rattle.link_model.specs.Parts.{Part}
use Rattle.link_model.specs.Communals.{parts}
use Rattle.link_model.specs.Groups.{group_names, in_group}
use Rattle.link_model.specs.LayoutRefusals.{use_mixed}
use Rattle.seg_parts.specs.LogicalSegments.{heads_of}
use Rattle.seg_merge.specs.Membership.{AreGroupsOf}

-- A use that is known is not this one.
abbrev pub conflicts : Bool → Option Bool → Bool
conflicts wide None = false
conflicts wide (Some other) = not (beq other wide)

-- A part of this use is mixed with others of its logical segment, of whose use this is known, or where it is the first
-- part with others of these groups.
abbrev pub mixed_by : Bool → List ℕ → List (Option Bool) → Option Bool → Bool
mixed_by wide groups uses None = list_any (λ g. conflicts wide (get_or uses g None)) groups
mixed_by wide groups uses (Some other) = not (beq other wide)

-- These groups got this use.
pub record AreSet (wide : Bool) (groups : List ℕ) (old new : List (Option Bool)) : Type 0 where
  pub as_many : length new ≡ length old
  pub each : (g : ℕ) → g < length old → get_or new g None ≡ (if list_any (λ j. j == g) groups then Some wide else get_or old g None)

-- A logical segment without use, of which this was known before, got this one, and its groups with it; all else stayed.
abbrev pub AddsAfter : Bool → ℕ → List ℕ → List (Option Bool) → List (Option Bool) → List (Option Bool) → List (Option Bool) → Option Bool → Type 0
AddsAfter wide segment groups segs uses new_segs new_uses None =
    (new_segs ≡ slice_set segs segment (Some wide)) × AreSet wide groups uses new_uses
AddsAfter wide segment groups segs uses new_segs new_uses (Some other) = (new_segs ≡ segs) × (new_uses ≡ uses)

-- In any link of these parts with these groups of each logical segment, this is the answer to mixed use.
abbrev pub ChecksUse : List Part → List (List ℕ) → ℕ → Result (Unit {0}) (Fail LayRefusal) → Type 0
ChecksUse ps lists count result =
    (l : Link) → parts l ≡ ps → AreGroupsOf (in_group l) (group_names l) (heads_of ps) lists → length (group_names l) ≡ count
    → Answers result (λ _. use_mixed l ≡ None) (λ refusal. use_mixed l ≡ Some refusal)
