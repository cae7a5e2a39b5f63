-- Tables of names: each entry has a name and a value.
use Rattle.std.specs.Prelude.{ℕ, Bool, List, [], ◌∷◌, ◌++◌, Option, if◌then◌else◌, bytes_eq}
use Rattle.std.specs.List.{find, list_any}
use Rattle.std.specs.Option.{option_map}

abbrev pub is_named : {V : Type 0} → List ℕ → (List ℕ × V) → Bool
is_named name e = bytes_eq name e.0

-- The value of the first entry of a name.
abbrev pub value_named : {V : Type 0} → List ℕ → List (List ℕ × V) → Option V
value_named name entries = option_map (λ e. e.1) (find (is_named name) entries)

-- One more entry goes last, unless its name is there.
abbrev pub with_entry : {V : Type 0} → List (List ℕ × V) → List ℕ → V → List (List ℕ × V)
with_entry entries name value =
    if list_any (is_named name) entries then entries else entries ++ (name, value) ∷ []

-- A name's first entry with this value; a new name goes last.
abbrev pub with_value : {V : Type 0} → List (List ℕ × V) → List ℕ → V → List (List ℕ × V)
with_value [] name value = (name, value) ∷ []
with_value (e ∷ es) name value = if bytes_eq name e.0 then (e.0, value) ∷ es else e ∷ with_value es name value
