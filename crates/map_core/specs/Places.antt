-- The lines and the publics of modules, by the places and the objects of a layout.
use Rattle.std.specs.Prelude.{ℕ, List, [], Option, Some, None, if◌then◌else◌}
use Rattle.std.specs.List.{filter_map, flat_map, enumerate_from}
use Rattle.std.specs.Option.{option_map, option_and_then}
use Rattle.obj_types.specs.declared.object.Seg.{Seg}
use Rattle.obj_types.specs.declared.object.ObjModule.{ObjModule}
use Rattle.obj_types.specs.declared.symbol.Pub.{Pub}
use Rattle.obj_types.specs.declared.symbol.Common.{Common}
use Rattle.link_model.specs.Symbols.{at_place}
use Rattle.link_model.specs.Goals.{Target}
use Rattle.map_model.specs.Listed.{address_among, Contribution, contribution, Listed, placed, valued}
use Rattle.map_model.specs.Lines.{segment_line, common_line}
use Rattle.link_types.specs.declared.layout.Layout.{Layout}
use Rattle.link_types.specs.Places.{spot_in, common_in}
use Rattle.link_place.specs.Fixed.{symbol_at}

-- ---- lines

abbrev pub text_of : Option (List ℕ) → List ℕ
text_of None = []
text_of (Some line) = line

abbrev pub segment_in : Layout → Contribution → Option (List ℕ)
segment_in lay c = option_map (λ place. segment_line c (address_among lay.objects place)) (spot_in lay.places c.by c.index)

-- The line of a segment of module n, where it is not debug.
abbrev pub segment_text : Layout → ℕ → ℕ × Seg → List ℕ
segment_text lay n q = if q.1.debug then [] else text_of (segment_in lay (contribution n q))

abbrev pub module_text : Layout → ℕ × ObjModule → List ℕ
module_text lay q = flat_map (segment_text lay q.0) (enumerate_from 1 q.1.segs)

abbrev pub common_of : Layout → ℕ × (List ℕ × Common) → Option (List ℕ)
common_of lay q = option_map (λ place. common_line q.1 (address_among lay.objects place)) (common_in lay.places q.0)

abbrev pub common_text : Layout → ℕ × (List ℕ × Common) → List ℕ
common_text lay q = text_of (common_of lay q)

-- ---- publics

-- What a public of module n stands for, where it is not local.
abbrev pub meaning_in : Layout → ℕ → Pub → Option Target
meaning_in lay n p = if p.local then None else symbol_at lay.places (at_place n p.place)

abbrev pub placed_in : Layout → ℕ → Pub → Option Listed
placed_in lay n p = option_and_then (placed lay.objects p.name) (meaning_in lay n p)

abbrev pub valued_in : Layout → ℕ → Pub → Option Listed
valued_in lay n p = option_and_then (valued p.name) (meaning_in lay n p)

abbrev pub placed_in_module : Layout → ℕ × ObjModule → List Listed
placed_in_module lay q = filter_map (placed_in lay q.0) q.1.pubs

abbrev pub valued_in_module : Layout → ℕ × ObjModule → List Listed
valued_in_module lay q = filter_map (valued_in lay q.0) q.1.pubs
