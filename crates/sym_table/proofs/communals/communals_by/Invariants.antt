use Rattle.std.proofs.Common.{◌≡◌, map, take, ℕ, List}
use Rattle.obj_types.specs.declared.symbol.Common.{Common}
use Rattle.link_model.specs.Appearance.{firsts}
use Rattle.sym_table.specs.Firsts.{same_name}
use Rattle.sym_table.specs.Communals.{comdef_shown, with_greatest, AreGreatest, slotted}
use Rattle.sym_table.proofs.communals.communals_by.Given as goal

abbrev pub invariant-loop-comdef : goal.invariant-loop-comdef
invariant-loop-comdef l =
    ((all : List (List ℕ × Common)) → AreGreatest all l.lens → l.communals.list ≡ map (with_greatest all) (firsts same_name (map comdef_shown (take l.comdef-index l.comdefs))))
    × (l.communals.slots ≡ slotted l.communals.list)
