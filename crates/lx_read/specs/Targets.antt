-- What targets may name, as the definitions have it.
use Rattle.std.specs.Prelude.{◌<◌, ◌^◌, length, AllPairs}
use Rattle.lx_model.specs.Module as model
use Rattle.lx_read.specs.declared.targets.Targets.{Targets}
use Rattle.lx_read.specs.Headers.{IsNear}

abbrev pub targets : Targets → model.Targets
targets t = record { objects = t.objects; imports = t.imports; file = t.file.now; procs_at = t.import_procedures; entries = t.entries.now }

-- places in the file have 32 bits, the import procedures are offset by a number of 32 bits, and the ordinals rise
pub record AreTargets (t : Targets) : Type 0 where
  pub short : length t.file.now < 2 ^ 32
  pub near : IsNear t.import_procedures
  pub rising : AllPairs (λ a b. a.0 < b.0) t.entries.now
