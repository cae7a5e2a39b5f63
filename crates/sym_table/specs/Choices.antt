-- Choosing as it goes on: what is known of the modules that are chosen so far.
use Rattle.std.specs.Prelude.{◌≡◌, ℕ, List, is_some}
use Rattle.std.specs.Ordering.{nat_cmp}
use Rattle.std.specs.BTreeSet.{contains}
use Rattle.obj_types.specs.declared.input.LinkInput.{LinkInput}
use Rattle.link_model.specs.Choosing.{is_defined, modules_of}
use Rattle.name_table.specs.Entries.{value_named}
use Rattle.sym_table.specs.declared.choosing.Choice.{Choice}
use Rattle.sym_table.specs.Leading.{leader, waits}

-- The table has for each name the first library module that defines it.
abbrev pub AreLeaders : LinkInput → List (List ℕ × ℕ) → Type 0
AreLeaders input leaders = (name : List ℕ) → value_named name leaders ≡ leader input.libs name

-- The tables beside the picks have what the modules of these picks define and what they wait for.
pub record IsChoice (input : LinkInput) (c : Choice) : Type 0 where
  pub defined : (name : List ℕ) → is_some (value_named name c.defined) ≡ is_defined (modules_of input c.picks) input.def name
  pub waiting : (k : ℕ) → contains nat_cmp c.waiting k ≡ waits input c.picks k
