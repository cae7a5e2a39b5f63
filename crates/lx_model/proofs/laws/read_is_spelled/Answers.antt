use Rattle.std.proofs.Common.{arith, sym, ap, length}
use Rattle.lx_model.proofs.BundlesTaken.{table_taken as bundles_taken}
use Rattle.lx_model.proofs.ImportsRead.{names_taken}
use Rattle.lx_model.proofs.PageRecords.{records_are_spelled}
use Rattle.lx_model.proofs.RecordsTaken.{record_taken}
use Rattle.lx_model.proofs.TablesTaken.{table_taken, data_taken}
use Rattle.lx_model.proofs.laws.read_is_spelled.Goals as goal

pub returns-clause-record_spelled : goal.returns-clause-record_spelled
returns-clause-record_spelled c = λ a b fixes h e. let t = record_taken a b fixes h e in (t.written, t.fits, t.means, t.taken.parts)

pub returns-clause-names_spelled : goal.returns-clause-names_spelled
returns-clause-names_spelled c = λ bytes ns h e. let t = table_taken bytes ns h e in (t.end.left, t.all.fits, t.all.taken.parts)

pub returns-clause-groups_spelled : goal.returns-clause-groups_spelled
returns-clause-groups_spelled c =
    λ bytes given h e. let t = data_taken bytes given h e in let few =
    t.all.few (omega arith) in let same = ap length t.means in (t.groups, t.all.fits, t.all.parts, sym t.means, (omega (arith, few, same)))

pub returns-clause-imports_spelled : goal.returns-clause-imports_spelled
returns-clause-imports_spelled c = λ n bytes names h e. let t = names_taken n bytes names h e in (t.end.left, t.all.fits, t.all.taken.parts)

pub returns-clause-entries_spelled : goal.returns-clause-entries_spelled
returns-clause-entries_spelled c =
    λ objects imports bytes es h e. let t = bundles_taken objects imports bytes es h e in let room =
    t.all.room in (t.all.bundles, t.end.left, t.all.fits, omega (arith, room), t.all.means, t.all.taken.parts)

pub returns-clause-records_spelled : goal.returns-clause-records_spelled
returns-clause-records_spelled c = records_are_spelled
