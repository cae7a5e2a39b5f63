-- The numbers of chosen modules by their places, and the clash of one COMDAT.
use Rattle.std.specs.Prelude.{◌≡◌, ℕ, List, Option}
use Rattle.std.specs.Ordering.{nat_cmp}
use Rattle.std.specs.BTreeMap.{BTreeMap, get}
use Rattle.obj_types.specs.declared.input.LinkInput.{LinkInput}
use Rattle.link_model.specs.declared.symbols.Pick.{Pick}
use Rattle.link_model.specs.declared.refusals.ComdatRefusal.{ComdatRefusal}
use Rattle.link_model.specs.Clash.{chosen_number, clash_with}
use Rattle.comdat_core.specs.declared.taking.Taken.{Taken}
use Rattle.comdat_core.specs.Taking.{shown, placed}

-- The clash of a COMDAT that is taken out of chosen module n.
abbrev pub clash_by : LinkInput → List Pick → ℕ → Taken → Option ComdatRefusal
clash_by input picks n t = clash_with input picks n (shown t.own) (placed t.first)

-- Of each place the number of the chosen module that stands there.
abbrev pub HasNumbers : LinkInput → List Pick → BTreeMap ℕ ℕ → Type 0
HasNumbers input picks numbers = (place : ℕ) → get nat_cmp numbers place ≡ chosen_number input picks place
