use Rattle.std.proofs.Common.{◌≡◌, [], map, drop}
use Rattle.std.specs.Prelude.{bytes_eq}
use Rattle.link_model.specs.Words.{first_conflict}
use Rattle.lx_exports.specs.Exports.{names_of}
use Rattle.lx_exports.proofs.name_writing.check_names.Given as goal

abbrev pub invariant-loop-export : goal.invariant-loop-export
invariant-loop-export l = first_conflict bytes_eq (map (λ e. e.0) l.names) (names_of (drop l.export-index l.exports)) ≡ first_conflict bytes_eq [] (names_of l.exports)
