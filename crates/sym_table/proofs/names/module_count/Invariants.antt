use Rattle.std.proofs.Common.{◌≡◌, map, take}
use Rattle.lx_types.specs.Names.{uppercase}
use Rattle.link_model.specs.Appearance.{firsts}
use Rattle.sym_table.specs.Firsts.{same_name}
use Rattle.sym_table.proofs.names.module_count.Given as goal

abbrev pub invariant-loop-import : goal.invariant-loop-import
invariant-loop-import l = l.modules ≡ firsts same_name (map (λ i. (uppercase i.module, tt)) (take l.import-index l.imports))
