-- The parts of lines that are read by themselves: which of their values are in range.
use Rattle.std.specs.Prelude.{ℕ}
use Rattle.std.specs.List.{AllByRecursion}
use Rattle.lx_types.specs.declared.resource.ResSpot.{ResSpot}
use Rattle.load_model.specs.declared.deeds.Deed.{Deed}
use Rattle.load_model.specs.declared.deeds.Deed.TheVariants as deeds
use Rattle.load_model.specs.Modules.{Library}
use Rattle.check_model.specs.Told.{IsByte, Has32, Has64, IsModuleOf, IsResidence, IsDeed}
use Rattle.transcript_read.specs.declared.deeds.Entered.{Entered}
use Rattle.transcript_read.specs.declared.deeds.FullAt.{FullAt}
use Rattle.transcript_read.specs.declared.deeds.FailedBy.{FailedBy}
use Rattle.transcript_read.specs.declared.deeds.FaultAt.{FaultAt}
use Rattle.transcript_read.specs.declared.deeds.BytesAt.{BytesAt}
use Rattle.transcript_read.specs.declared.lines.BareEntry.{BareEntry}
use Rattle.transcript_lines.specs.Lines.{IsProcess, IsBare}

abbrev pub IsEntered : Library → Entered → Type 0
IsEntered lib x = IsModuleOf lib x.«module»

abbrev pub IsFull : Library → FullAt → Type 0
IsFull lib x = IsModuleOf lib x.«module» × IsModuleOf lib x.of × Has32 x.object × Has32 x.size

abbrev pub IsFailed : Library → FailedBy → Type 0
IsFailed lib x = IsModuleOf lib x.«module» × IsModuleOf lib x.by

abbrev pub IsFaulted : Library → FaultAt → Type 0
IsFaulted lib x = IsResidence lib x.serial x.«module» × Has32 x.page.object × Has32 x.page.page

abbrev pub AreBytes : Library → BytesAt → Type 0
AreBytes lib x = IsResidence lib x.serial x.«module» × Has32 x.object × Has32 x.offset × AllByRecursion IsByte x.bytes

-- what was done, without the lines below it
abbrev pub IsBareDeed : Library → Deed → Type 0
IsBareDeed lib d = IsDeed lib d × IsBare d

abbrev pub IsBareEntry : Library → BareEntry → Type 0
IsBareEntry lib x = Has64 x.number × IsProcess x.process × IsBareDeed lib x.deed

abbrev pub IsSpot : ResSpot → Type 0
IsSpot spot = Has32 spot.object × Has32 spot.offset × Has32 spot.len

abbrev pub IsFreed : Library → ℕ → Type 0
IsFreed lib m = IsModuleOf lib m

-- bytes were written or read
abbrev pub HasBytes : Library → Deed → Type 0
HasBytes lib (deeds.Write serial m object offset bytes) = IsDeed lib (deeds.Write serial m object offset bytes)
HasBytes lib (deeds.Debug serial m object offset bytes) = IsDeed lib (deeds.Debug serial m object offset bytes)
HasBytes lib (deeds.Shared serial m object offset bytes) = IsDeed lib (deeds.Shared serial m object offset bytes)
HasBytes lib deed = ⊥

-- a start or a load that was not
abbrev pub IsUnmade : Library → Deed → Type 0
IsUnmade lib (deeds.Full how m of object size) = IsBareDeed lib (deeds.Full how m of object size)
IsUnmade lib (deeds.Failed how m by fresh calls gone) = IsBareDeed lib (deeds.Failed how m by fresh calls gone)
IsUnmade lib deed = ⊥
