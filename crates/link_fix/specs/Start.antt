-- The start of a module, where these are its objects.
use Rattle.std.specs.Prelude.{ℕ, Bool, false, List, Option, Some, None, if◌then◌else◌, nat_lt}
use Rattle.std.specs.Option.{option_map_or}
use Rattle.obj_types.specs.Items.{item}
use Rattle.obj_types.specs.declared.object.StartAt.{StartAt}
use Rattle.link_model.specs.declared.symbols.LaidObject.{LaidObject}
use Rattle.link_model.specs.Goals.{Target, Internal, Constant, Entry, shifted}

abbrev pub is_among : List LaidObject → ℕ × ℕ → Bool
is_among objects q = option_map_or (λ o. nat_lt q.1 o.size) (item objects q.0) false

abbrev pub start_among : List LaidObject → StartAt → Target → Option (ℕ × ℕ)
start_among objects s (Internal o offset) =
    let q = shifted s.disp (o, offset) in if is_among objects q then Some q else None
start_among objects s (Constant value) = None
start_among objects s (Entry slot) = None
