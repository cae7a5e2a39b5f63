-- Targets, places and frames, where these are a link's places and meanings.
use Rattle.std.specs.Prelude.{ℕ, List, Option, Some, None}
use Rattle.std.specs.Option.{option_map, option_and_then, option_map_or}
use Rattle.std.specs.List.{filter_map, flat_map, enumerate_from}
use Rattle.obj_types.specs.Items.{item}
use Rattle.obj_types.specs.declared.object.FixAt.{FixAt}
use Rattle.obj_types.specs.declared.object.ObjModule.{ObjModule}
use Rattle.obj_types.specs.declared.object.Frame.{Frame}
use Rattle.obj_types.specs.declared.object.Frame.TheVariants as frames
use Rattle.obj_types.specs.declared.object.Goal.{Goal}
use Rattle.obj_types.specs.declared.object.Goal.TheVariants as goals
use Rattle.link_model.specs.declared.symbols.SymDef.{SymDef}
use Rattle.link_model.specs.declared.symbols.SymDef.TheVariants as means
use Rattle.link_model.specs.Goals.{Target, Internal, Constant, Entry, internal, shifted, object_of_target}
use Rattle.link_model.specs.Fixups.{Fixup, is_narrow, standing_in}
use Rattle.link_types.specs.Symbols.{SymbolTable}
use Rattle.link_types.specs.declared.places.Places.{Places}
use Rattle.link_types.specs.Places.{spot_in, common_in, group_in}

abbrev pub symbol_at : Places → SymDef → Option Target
symbol_at p (means.In n seg offset) = internal (option_map (shifted offset) (spot_in p n seg))
symbol_at p (means.Const value) = Some (Constant value)
symbol_at p (means.Common slot) = internal (common_in p slot)
symbol_at p (means.Import slot) = Some (Entry slot)

abbrev pub external_at : Places → SymbolTable → ℕ → ℕ → Option Target
external_at p s n index = option_and_then (symbol_at p) (option_and_then (λ row. item row index) (item s.meanings n))

abbrev pub group_target : Option ℕ → Target
group_target o = option_map_or (λ o. Internal o 0) o (Constant 0)

abbrev pub target_at : Places → SymbolTable → ℕ → Goal → Option Target
target_at p s n (goals.Seg index) = internal (spot_in p n index)
target_at p s n (goals.Ext index) = external_at p s n index
target_at p s n (goals.Group index) = option_map group_target (group_in p n index)

abbrev pub location_at : Places → ℕ → FixAt → Option (ℕ × ℕ)
location_at p n f = option_map (shifted f.offset) (spot_in p n f.seg)

abbrev pub frame_at : Places → SymbolTable → ℕ → FixAt → Frame → Option ℕ
frame_at p s n f (frames.Seg index) = option_map (λ q. q.0) (spot_in p n index)
frame_at p s n f (frames.Group index) = option_and_then (λ o. o) (group_in p n index)
frame_at p s n f (frames.Ext index) = option_and_then object_of_target (external_at p s n index)
frame_at p s n f frames.Here = option_map (λ q. q.0) (spot_in p n f.seg)
frame_at p s n f frames.OfTarget = None

-- A fixup of a module, with the number that stands in it.
abbrev pub fixup_at : Places → SymbolTable → ℕ → ObjModule → FixAt → ℕ → Option Fixup
fixup_at p s n m f standing =
    option_and_then
    (λ target. option_map
    (λ q. record {
      by = n;
      fix = f;
      object = q.0;
      offset = q.1;
      narrow = is_narrow m f.seg;
      target = target;
      frame = frame_at p s n f f.frame;
      standing = standing;
    }) (location_at p n f))
    (target_at p s n f.goal)

-- The fixups of a module.
abbrev pub fixups_in : Places → SymbolTable → ℕ → ObjModule → List Fixup
fixups_in p s n m = filter_map (λ f. fixup_at p s n m f (standing_in m f)) m.fixes

-- The fixups of these modules, which count from 1.
abbrev pub fixups_by : Places → SymbolTable → List ObjModule → List Fixup
fixups_by p s ms = flat_map (λ q. fixups_in p s q.0 q.1) (enumerate_from 1 ms)
