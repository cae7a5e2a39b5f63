-- How many import modules there are.
use Rattle.std.specs.Prelude.{List, Option, Some, None, map, length, bytes_eq, nat_lt, if◌then◌else◌}
use Rattle.lx_types.specs.Names.{uppercase}
use Rattle.obj_types.specs.declared.symbol.Imp.{Imp}
use Rattle.link_model.specs.declared.limits.TheConstants.{MAX_NUMBER}
use Rattle.link_model.specs.declared.refusals.SymRefusal.{SymRefusal}
use Rattle.link_model.specs.declared.refusals.SymRefusal.TheVariants.{ImportsMany}
use Rattle.link_model.specs.Appearance.{firsts}

-- `ImportsMany` of these import pairs.
abbrev pub imports_many_of : List Imp → Option SymRefusal
imports_many_of imports =
    let count = length (firsts bytes_eq (map (λ i. uppercase i.module) imports)) in
    if nat_lt MAX_NUMBER count then Some (ImportsMany count) else None
