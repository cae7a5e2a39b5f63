-- The places of parts, of segments and of groups while they are told.
use Rattle.std.specs.Prelude.{◌≡◌, ℕ, Bool, true, false, not, List, ◌++◌, Option, Some, None, map, filter, drop, get_or, position, bytes_eq, if◌then◌else◌}
use Rattle.std.specs.List.{enumerate_from, flat_map}
use Rattle.std.specs.Option.{option_and_then}
use Rattle.obj_types.specs.declared.object.Seg.{Seg}
use Rattle.obj_types.specs.declared.object.ObjModule.{ObjModule}
use Rattle.link_model.specs.declared.keys.Origin.{Origin}
use Rattle.link_model.specs.declared.keys.Origin.TheVariants.{Segment, Communal, OwnStack}
use Rattle.link_model.specs.Parts.{Part, of_seg, contributions_in}

-- Each of these parts has a place, and these are they.
abbrev pub ArePlacesOf : (Part → Option (ℕ × ℕ)) → List Part → List (ℕ × ℕ) → Type 0
ArePlacesOf place ps places = map (λ q. Some q) places ≡ map place ps

-- The place of a segment of a module: none for a debug segment.
abbrev pub seg_place : (Part → Option (ℕ × ℕ)) → ℕ → ℕ × Seg → Option (ℕ × ℕ)
seg_place place n q = if q.1.debug then None else place (of_seg n q.0 q.1)

abbrev pub seg_places : (Part → Option (ℕ × ℕ)) → ℕ → List Seg → List (Option (ℕ × ℕ))
seg_places place n segs = map (seg_place place n) (enumerate_from 1 segs)

-- Where the places from `old` on begin with those of the contributions of a module with these segments, the segments have
-- these, and those from `new` on are the others.
abbrev pub TakesPlaces : List Seg → List (ℕ × ℕ) → ℕ → ℕ → List (Option (ℕ × ℕ)) → Type 0
TakesPlaces segs places old new row =
    (place : Part → Option (ℕ × ℕ)) (n : ℕ) (rest : List Part)
    → ArePlacesOf place (map (λ q. of_seg n q.0 q.1) (filter (λ q. not q.1.debug) (enumerate_from 1 segs)) ++ rest) (drop old places)
    → ArePlacesOf place rest (drop new places) × (row ≡ seg_places place n segs)

-- Where places begin with those of the contributions of modules, their segments have these.
abbrev pub AreSpotsOf : List ObjModule → List (ℕ × ℕ) → List (List (Option (ℕ × ℕ))) → Type 0
AreSpotsOf ms places spots =
    (place : Part → Option (ℕ × ℕ)) (rest : List Part) → ArePlacesOf place (flat_map (λ q. contributions_in q.0 q.1) (enumerate_from 1 ms) ++ rest) places
    → spots ≡ map (λ q. seg_places place q.0 q.1.segs) (enumerate_from 1 ms)

abbrev pub comes_of_communal : Origin → Bool
comes_of_communal (Segment n i) = false
comes_of_communal (Communal slot) = true
comes_of_communal OwnStack = false

-- The object of a group by its name, where the object of each name is known.
abbrev pub object_named : List (List ℕ) → List (Option ℕ) → List ℕ → Option ℕ
object_named names objects g = option_and_then (λ k. get_or objects k None) (position (bytes_eq g) names)
