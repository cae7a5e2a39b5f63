-- Communals, from COMDEFs that are lent.
use Rattle.std.specs.Prelude.{◌≡◌, ℕ, List, map, max, filter, bytes_eq, unwrap_or}
use Rattle.std.specs.List.{fold, enumerate_from}
use Rattle.obj_types.specs.declared.symbol.Common.{Common}
use Rattle.link_model.specs.declared.symbols.SymDef.{SymDef}
use Rattle.link_model.specs.declared.symbols.SymDef.TheVariants as means
use Rattle.name_table.specs.Entries.{value_named}
use Rattle.sym_table.specs.declared.communals.Comdef.{Comdef}

abbrev pub comdef_shown : Comdef → List ℕ × Common
comdef_shown c = (c.name.now, c.common)

-- The length of the longest of these COMDEFs of a name.
abbrev pub greatest_of : List (List ℕ × Common) → List ℕ → ℕ
greatest_of comdefs name = fold (λ len c. max len c.1.len) 0 (filter (λ q. bytes_eq q.0 name) comdefs)

-- A communal is as long as the longest of these COMDEFs of its name.
abbrev pub with_greatest : List (List ℕ × Common) → (List ℕ × Common) → List ℕ × Common
with_greatest comdefs c = (c.0, record { far = c.1.far; len = greatest_of comdefs c.0 })

-- The table has for each name the length of the longest of these COMDEFs.
abbrev pub AreGreatest : List (List ℕ × Common) → List (List ℕ × ℕ) → Type 0
AreGreatest comdefs lens = (name : List ℕ) → unwrap_or (value_named name lens) 0 ≡ greatest_of comdefs name

-- A COMDEF's storage, with the length that the table has for its name.
abbrev pub long_as : List (List ℕ × ℕ) → Comdef → Common
long_as lens c = record { far = c.common.far; len = unwrap_or (value_named c.name.now lens) 0 }

-- Each name with its slot.
abbrev pub slotted : List (List ℕ × Common) → List (List ℕ × SymDef)
slotted communals = map (λ q. (q.1.0, means.Common q.0)) (enumerate_from 0 communals)
