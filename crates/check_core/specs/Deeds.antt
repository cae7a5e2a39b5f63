-- Kinds of deeds and of refusals, as they are compared.
use Rattle.load_model.specs.declared.commands.Refusal.{Refusal}
use Rattle.load_model.specs.declared.commands.Refusal.TheVariants as why
use Rattle.load_model.specs.declared.deeds.Deed.{Deed}
use Rattle.load_model.specs.declared.deeds.Deed.TheVariants as deeds

-- a start or a load, which was done or had no place
abbrev pub IsEntering : Deed → Type 0
IsEntering (deeds.Enter how m fresh calls) = Unit {0}
IsEntering (deeds.Full how m of object size) = Unit {0}
IsEntering deed = ⊥

-- a start or a load whose initialisation failed
abbrev pub IsFailing : Deed → Type 0
IsFailing (deeds.Failed how m by fresh calls gone) = Unit {0}
IsFailing deed = ⊥

abbrev pub IsLeaving : Deed → Type 0
IsLeaving (deeds.Free m calls gone) = Unit {0}
IsLeaving (deeds.Exit calls gone) = Unit {0}
IsLeaving deed = ⊥

abbrev pub IsFaulting : Deed → Type 0
IsFaulting (deeds.Fault serial m p) = Unit {0}
IsFaulting deed = ⊥

-- a write to data or to code
abbrev pub IsWriting : Deed → Type 0
IsWriting (deeds.Write serial m object offset bytes) = Unit {0}
IsWriting (deeds.Debug serial m object offset bytes) = Unit {0}
IsWriting deed = ⊥

-- a read of bytes that all share
abbrev pub IsReading : Deed → Type 0
IsReading (deeds.Shared serial m object offset bytes) = Unit {0}
IsReading deed = ⊥

-- ---- refusals

-- that are told by an entry
abbrev pub IsToldByEntry : Refusal → Type 0
IsToldByEntry (why.ArenaFull number of object size) = Unit {0}
IsToldByEntry (why.InitFailed number by) = Unit {0}
IsToldByEntry refusal = ⊥

-- of a place
abbrev pub IsOfPlace : Refusal → Type 0
IsOfPlace why.Range = Unit {0}
IsOfPlace why.ReadOnly = Unit {0}
IsOfPlace why.IsShared = Unit {0}
IsOfPlace why.NotShared = Unit {0}
IsOfPlace why.NotCode = Unit {0}
IsOfPlace why.Invalid = Unit {0}
IsOfPlace (why.NotTouched page) = Unit {0}
IsOfPlace refusal = ⊥

-- of a module, by what it is, or by what the process holds or did
abbrev pub IsOfModule : Refusal → Type 0
IsOfModule why.Ended = Unit {0}
IsOfModule why.Worn = Unit {0}
IsOfModule why.Started = Unit {0}
IsOfModule why.NoModule = Unit {0}
IsOfModule why.NotLibrary = Unit {0}
IsOfModule why.NotProgram = Unit {0}
IsOfModule why.NoEntry = Unit {0}
IsOfModule why.ForwardLoop = Unit {0}
IsOfModule why.Gate286 = Unit {0}
IsOfModule why.CountFull = Unit {0}
IsOfModule why.NotHeld = Unit {0}
IsOfModule why.NotAttached = Unit {0}
IsOfModule why.NoResource = Unit {0}
IsOfModule refusal = ⊥
