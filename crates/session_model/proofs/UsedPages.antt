-- Of touched pages an entry uses which they are.
use Rattle.std.proofs.Common.{refl, ap, length}
use Rattle.std.specs.Prelude.{is_none}
use Rattle.load_model.specs.declared.deeds.Deed.TheVariants as deeds
use Rattle.load_model.proofs.Touched.{untouched_by_pages}
use Rattle.session_model.specs.MergeLaws.{UsesByPages}

pub uses_by_pages : UsesByPages
uses_by_pages e a b pid (deeds.Write serial m object offset bytes) same = ap is_none (untouched_by_pages (e.processes pid) (a pid) (b pid) serial object offset (length bytes) same)
uses_by_pages e a b pid (deeds.Debug serial m object offset bytes) same = ap is_none (untouched_by_pages (e.processes pid) (a pid) (b pid) serial object offset (length bytes) same)
uses_by_pages e a b pid (deeds.Shared serial m object offset bytes) same = ap is_none (untouched_by_pages (e.processes pid) (a pid) (b pid) serial object offset (length bytes) same)
uses_by_pages e a b pid (deeds.Enter how m fresh calls) same = refl
uses_by_pages e a b pid (deeds.Full how m of object size) same = refl
uses_by_pages e a b pid (deeds.Failed how m by fresh calls gone) same = refl
uses_by_pages e a b pid (deeds.Free m calls gone) same = refl
uses_by_pages e a b pid (deeds.Exit calls gone) same = refl
uses_by_pages e a b pid (deeds.Fault serial m p) same = refl
