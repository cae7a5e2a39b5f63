-- Which groups are split, by the places of logical segments' groups and the flags of logical segments.
use Rattle.std.specs.Prelude.{◌≡◌, ℕ, ◌<◌, ◌==◌, Bool, false, not, ◌&&◌, ◌||◌, List, [], Option, Some, None, Result, nat_lt, map, length, get_or, if◌then◌else◌}
use Rattle.std.specs.List.{list_any, find, enumerate_from, range_with_len}
use Rattle.std.specs.Option.{option_map, unwrap_or}
use Rattle.lx_types.specs.Answers.{Answers}
use Rattle.lx_types.specs.declared.fail.Fail.{Fail}
use Rattle.link_model.specs.declared.refusals.LayRefusal.{LayRefusal}
use Rattle.link_model.specs.declared.refusals.LayRefusal.TheVariants.{GroupSplit}
use Rattle.link_model.specs.Link.{Link}
use Rattle.link_model.specs.Groups.{group_names, in_group}
use Rattle.link_model.specs.Order.{segments}
use Rattle.link_model.specs.Flags.{flags_of}
use Rattle.link_model.specs.LayoutRefusals.{use_mixed, group_split}
use Rattle.seg_merge.specs.Membership.{AreGroupsOf}

-- Flags that are known are not these.
abbrev pub differ : Option ℕ → ℕ → Bool
differ None flags = false
differ (Some known) flags = not (known == flags)

abbrev pub has : ℕ → List ℕ → Bool
has g groups = list_any (λ j. j == g) groups

-- The groups of each logical segment with its flags.
abbrev pub first_with_flags : ℕ → List (List ℕ) → List ℕ → List (List ℕ × ℕ)
first_with_flags count lists flags = map (λ k. (get_or lists k [], get_or flags k 0)) (range_with_len 0 count)

abbrev pub with_flags : List (List ℕ) → List ℕ → List (List ℕ × ℕ)
with_flags lists flags = first_with_flags (length lists) lists flags

-- The flags of the first logical segment of a group.
abbrev pub first_flags : ℕ → List (List ℕ × ℕ) → Option ℕ
first_flags g qs = option_map (λ q. q.1) (find (λ q. has g q.0) qs)

-- A logical segment splits a group of it that is not its first, or whose flags are known to be others.
abbrev pub splits : ℕ → Option ℕ → List ℕ × ℕ → Bool
splits g known q = has g q.0 && (list_any (λ j. nat_lt j g) q.0 || differ known q.1)

abbrev pub is_split : ℕ → List (List ℕ × ℕ) → Bool
is_split g qs = list_any (splits g (first_flags g qs)) qs

-- `GroupSplit`: the first group that is split.
abbrev pub split_group : List (List ℕ) → List (List ℕ × ℕ) → Option LayRefusal
split_group names qs = option_map (λ q. GroupSplit q.1) (find (λ q. is_split q.0 qs) (enumerate_from 0 names))

-- The first group that is marked.
abbrev pub marked_group : List (List ℕ) → List Bool → Option LayRefusal
marked_group names split = option_map (λ q. GroupSplit q.1) (find (λ q. get_or split q.0 false) (enumerate_from 0 names))

-- These groups without flags got these.
pub record AreFlagged (flags : ℕ) (groups : List ℕ) (old new : List (Option ℕ)) : Type 0 where
  pub as_many : length new ≡ length old
  pub each : (g : ℕ) → g < length old → get_or new g None ≡ (if has g groups then Some (unwrap_or (get_or old g None) flags) else get_or old g None)

-- These groups are split where they are not the first, or where other flags are known.
pub record AreMarked (flags first : ℕ) (known : List (Option ℕ)) (groups : List ℕ) (old new : List Bool) : Type 0 where
  pub as_many : length new ≡ length old
  pub each : (g : ℕ) → g < length old → get_or new g false ≡ (get_or old g false || (has g groups && (nat_lt first g || differ (get_or known g None) flags)))

pub record HaveFlags (count : ℕ) (qs : List (List ℕ × ℕ)) (known : List (Option ℕ)) : Type 0 where
  pub as_many : length known ≡ count
  pub each : (g : ℕ) → g < count → get_or known g None ≡ first_flags g qs

pub record AreSplit (count : ℕ) (known : List (Option ℕ)) (qs : List (List ℕ × ℕ)) (split : List Bool) : Type 0 where
  pub as_many : length split ≡ count
  pub each : (g : ℕ) → g < count → get_or split g false ≡ list_any (splits g (get_or known g None)) qs

-- In any link with these groups of each logical segment, these flags and no mixed use, this is the answer to split groups.
abbrev pub ChecksGroups : List (List ℕ) → List (List ℕ) → List ℕ → Result (Unit {0}) (Fail LayRefusal) → Type 0
ChecksGroups names lists flags result =
    (l : Link) → group_names l ≡ names → AreGroupsOf (in_group l) names (segments l) lists → flags ≡ map (flags_of l) (segments l) → use_mixed l ≡ None
    → Answers result (λ _. group_split l ≡ None) (λ refusal. group_split l ≡ Some refusal)
