-- The start of a linked module.
use Rattle.std.specs.Prelude.{ℕ, Bool, false, Option, Some, None, map, if◌then◌else◌, nat_lt, is_some}
use Rattle.std.specs.List.{enumerate_from}
use Rattle.std.specs.Option.{option_map, option_and_then, option_map_or}
use Rattle.obj_types.specs.declared.object.ObjModule.{ObjModule}
use Rattle.obj_types.specs.declared.object.StartAt.{StartAt}
use Rattle.obj_types.specs.Items.{item}
use Rattle.link_model.specs.declared.refusals.FixRefusal.{FixRefusal}
use Rattle.link_model.specs.declared.refusals.FixRefusal.TheVariants.{StartOutside}
use Rattle.link_model.specs.Words.{first_of}
use Rattle.link_model.specs.Link.{Link}
use Rattle.link_model.specs.Layout.{objects}
use Rattle.link_model.specs.Goals.{Target, Internal, Constant, Entry, shifted, target_of}

-- The start address of the first chosen module that has one, with the module's number. Its frame is not judged.
abbrev pub start_of : ℕ × ObjModule → Option (ℕ × StartAt)
start_of q = option_map (λ s. (q.0, s)) q.1.start

abbrev pub first_start : Link → Option (ℕ × StartAt)
first_start l = first_of (map start_of (enumerate_from 1 l.modules))

-- A start lies below the size of its object.
abbrev pub in_object : Link → ℕ × ℕ → Bool
in_object l q = option_map_or (λ o. nat_lt q.1 o.size) (item (objects l) q.0) false

abbrev pub start_place : Link → StartAt → Target → Option (ℕ × ℕ)
start_place l s (Internal o offset) =
    let q = shifted s.disp (o, offset) in if in_object l q then Some q else None
start_place l s (Constant value) = None
start_place l s (Entry slot) = None

abbrev pub place_of_start : Link → ℕ × StartAt → Option (ℕ × ℕ)
place_of_start l q = option_and_then (start_place l q.1) (target_of l q.0 q.1.goal)

-- The start's object and offset.
unfoldable pub Start : Link → Option (ℕ × ℕ)
Start l = option_and_then (place_of_start l) (first_start l)

-- `StartOutside`: the start is in no object.
unfoldable pub start_outside : Link → Option FixRefusal
start_outside l =
    option_and_then (λ q. if is_some (place_of_start l q) then None else Some (StartOutside q.0)) (first_start l)
