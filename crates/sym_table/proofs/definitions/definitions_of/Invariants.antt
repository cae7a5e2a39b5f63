use Rattle.std.proofs.Common.{◌≡◌, map, take}
use Rattle.link_model.specs.Link.{of_modules}
use Rattle.link_model.specs.Symbols.{definitions_in}
use Rattle.link_types.specs.Links.{link_with}
use Rattle.sym_table.specs.Definitions.{shown}
use Rattle.sym_table.proofs.definitions.definitions_of.Given as goal

abbrev pub invariant-loop-index : goal.invariant-loop-index
invariant-loop-index l =
    map shown l.found.items ≡ of_modules (link_with l.input (take l.index l.modules)) definitions_in
