use Rattle.std.proofs.Common.{subst, sym}
use Rattle.std.proofs.lemmas.List.{nil_from_length}
use Rattle.dump_read.specs.Names.{EndsWithin}
use Rattle.dump_read.proofs.NameLaws.{nothing-ends}
use Rattle.dump_read.proofs.names.front_of.Goals as goal

pub returns-in_default : goal.returns-in_default
returns-in_default c = subst EndsWithin (sym (nil_from_length c.args.word.now c.in_default.ensures.cases)) nothing-ends
