-- Where a fixup's goal, frame and location lie.
use Rattle.std.specs.Prelude.{ℕ, ◌+◌, List, Option, Some, None, if◌then◌else◌, bytes_eq, find}
use Rattle.std.specs.Option.{option_map, option_and_then, option_map_or}
use Rattle.obj_types.specs.declared.object.FixAt.{FixAt}
use Rattle.obj_types.specs.declared.object.Frame.{Frame}
use Rattle.obj_types.specs.declared.object.Frame.TheVariants as frames
use Rattle.obj_types.specs.declared.object.Goal.{Goal}
use Rattle.obj_types.specs.declared.object.Goal.TheVariants as goals
use Rattle.link_model.specs.declared.symbols.SymDef.{SymDef}
use Rattle.link_model.specs.declared.symbols.SymDef.TheVariants as means
use Rattle.obj_types.specs.Items.{item}
use Rattle.link_model.specs.Words.{wrapped}
use Rattle.link_model.specs.Link.{Link, chosen_module}
use Rattle.link_model.specs.Symbols.{Sym}
use Rattle.link_model.specs.Groups.{FLAT, in_group}
use Rattle.link_model.specs.Communals.{parts}
use Rattle.link_model.specs.Layout.{object_of, spot, common_spot}

-- What a goal is: a place in an object, a number, or an entry point of another module.
pub data Target : Type 0 where
  Internal : (object offset : ℕ) → Target
  Constant : (value : ℕ) → Target
  Entry : (slot : ℕ) → Target

abbrev pub internal : Option (ℕ × ℕ) → Option Target
internal place = option_map (λ q. Internal q.0 q.1) place

-- The place so many bytes on. It may pass its segment, so it is wrapped.
abbrev pub shifted : ℕ → ℕ × ℕ → ℕ × ℕ
shifted offset q = (q.0, wrapped (q.1 + offset))

abbrev pub of_symbol : Link → SymDef → Option Target
of_symbol l (means.In n seg offset) = internal (option_map (shifted offset) (spot l n seg))
of_symbol l (means.Const value) = Some (Constant value)
of_symbol l (means.Common slot) = internal (common_spot l slot)
of_symbol l (means.Import slot) = Some (Entry slot)

abbrev pub of_external : Link → ℕ → ℕ → Option Target
of_external l n index =
    option_and_then (λ m. option_and_then (λ e. option_and_then (of_symbol l) (Sym l n e)) (item m.exts index)) (chosen_module l n)

abbrev pub group_name : Link → ℕ → ℕ → Option (List ℕ)
group_name l n index = option_and_then (λ m. option_map (λ g. g.name) (item m.groups index)) (chosen_module l n)

-- The object of a group: none for FLAT and for a group without members.
abbrev pub object_of_group : Link → List ℕ → Option ℕ
object_of_group l g =
    if bytes_eq g FLAT then None else option_and_then (object_of l) (find (in_group l g) (parts l))

-- A segment goal is its contribution's start, and a group goal its object's start. FLAT and a group without
-- members are the constant 0.
unfoldable pub target_of : Link → ℕ → Goal → Option Target
target_of l n (goals.Seg index) = internal (spot l n index)
target_of l n (goals.Ext index) = of_external l n index
target_of l n (goals.Group index) =
    option_map (λ g. option_map_or (λ o. Internal o 0) (object_of_group l g) (Constant 0)) (group_name l n index)

-- A fixup's location.
abbrev pub location : Link → ℕ → FixAt → Option (ℕ × ℕ)
location l n f = option_map (shifted f.offset) (spot l n f.seg)

-- The object of a target.
abbrev pub object_of_target : Target → Option ℕ
object_of_target (Internal o offset) = Some o
object_of_target (Constant value) = None
object_of_target (Entry slot) = None

-- The object that a frame names. FLAT, a group without members, an import, a constant and the target's own frame
-- name none.
abbrev pub object_of_frame : Link → ℕ → FixAt → Frame → Option ℕ
object_of_frame l n f (frames.Seg index) = option_map (λ q. q.0) (spot l n index)
object_of_frame l n f (frames.Group index) = option_and_then (object_of_group l) (group_name l n index)
object_of_frame l n f (frames.Ext index) = option_and_then object_of_target (of_external l n index)
object_of_frame l n f frames.Here = option_map (λ q. q.0) (spot l n f.seg)
object_of_frame l n f frames.OfTarget = None
