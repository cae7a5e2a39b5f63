-- Groups by their names and by the keys of logical segments.
use Rattle.std.specs.Prelude.{ℕ, not, List, map, filter, bytes_eq}
use Rattle.obj_types.specs.declared.object.Group.{Group}
use Rattle.link_model.specs.Groups.{FLAT}

-- The table of these names.
abbrev pub name_entries : List (List ℕ) → List (List ℕ × Unit {0})
name_entries names = map (λ n. (n, tt)) names

-- The names of these groups but FLAT.
abbrev pub named_by : List Group → List (List ℕ)
named_by groups = filter (λ g. not (bytes_eq g FLAT)) (map (λ g. g.name) groups)
