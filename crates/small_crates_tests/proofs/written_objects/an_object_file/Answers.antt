use Rattle.std.proofs.Common.{sym, subst}
use Rattle.omf_write.specs.Writable.{IsWritable}
use Rattle.small_crates_tests.proofs.SampleFits.{sample_fits}
use Rattle.small_crates_tests.proofs.written_objects.an_object_file.Goals as goal

pub object-requires : goal.object-requires
object-requires g c = subst IsWritable (sym c.in_ok-m.ensures) sample_fits
