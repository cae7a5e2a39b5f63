-- What holds of maps.
use Rattle.std.specs.Prelude.{◌≡◌, ℕ, ◌+◌, ◌==◌, List, ◌++◌, Some, map, length, IsPermutation, count_by}
use Rattle.std.specs.List.{filter_map, enumerate_from}
use Rattle.link_model.specs.Link.{Link}
use Rattle.link_model.specs.Layout.{objects}
use Rattle.link_model.specs.Symbols.{commons, imports}
use Rattle.link_model.specs.NothingDropped.{WholeLink}
use Rattle.map_model.specs.Listed.{contributions, publics, placed_publics, constants}
use Rattle.map_model.specs.Maps.{line_of_contribution, line_of_common, IsMap}

-- ---- all is told, and nothing else

-- The lines of a text: each ends with LF.
abbrev pub line_count : List ℕ → ℕ
line_count text = count_by (λ b. b == 0x0A) text

-- Each contribution and each communal has its line; each public is among those with a place or among the others; and there
-- are no other lines but the first one, those of the objects and those of the import pairs.
pub record TellsAll (l : Link) (text : List ℕ) : Type 0 where
  pub segments : map Some (filter_map (line_of_contribution l) (contributions l)) ≡ map (line_of_contribution l) (contributions l)
  pub communals : map Some (filter_map (line_of_common l) (enumerate_from 0 (commons l))) ≡ map (line_of_common l) (enumerate_from 0 (commons l))
  pub names : IsPermutation (map (λ q. q.1.name) (publics l)) (map (λ p. p.name) (placed_publics l) ++ map (λ p. p.name) (constants l))
  pub lines : line_count text
      ≡ 1 + (length (objects l) + (length (contributions l) + (length (commons l) + (length (publics l) + length (imports l)))))

-- The map of a link of whole modules tells all of it.
abbrev pub MapsTellAll : Type 0
MapsTellAll = (name : List ℕ) (l : Link) (text : List ℕ) → WholeLink l → IsMap name l text → TellsAll l text

-- ---- there is one

abbrev pub MapsAreOne : Type 0
MapsAreOne = (name : List ℕ) (l : Link) (text other : List ℕ) → IsMap name l text → IsMap name l other → text ≡ other

abbrev pub LinksHaveMaps : Type 0
LinksHaveMaps = (name : List ℕ) (l : Link) → (text : List ℕ) × IsMap name l text
