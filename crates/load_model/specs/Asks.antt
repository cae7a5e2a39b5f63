-- What an entry asks of the loader, and what the loader does then. Asks have names of their own here: a write and a
-- debugger's write are `put` and `patch`, a read of shared bytes is `get`; their deeds are Write, Debug and Shared.
use Rattle.std.specs.Prelude.{ℕ, ◌*◌, ◌==◌, ◌&&◌, not, Bool, true, false, List, [], map, length, Option, Some, None, is_none, nat_lt}
use Rattle.lx_types.specs.Object.{class_of}
use Rattle.lx_types.specs.declared.object.Class.{Class}
use Rattle.lx_types.specs.declared.object.Class.TheVariants as classes
use Rattle.lx_types.specs.declared.object.PageId.{PageId}
use Rattle.lx_types.specs.declared.object.TheConstants.{PAGE_SIZE}
use Rattle.load_model.specs.declared.commands.Ask.{Ask}
use Rattle.load_model.specs.declared.commands.Ask.TheVariants.{Enter as enter, Free as free, Exit as exit, Fault as fault, Write as put, Debug as patch, Shared as get}
use Rattle.load_model.specs.declared.deeds.Deed.{Deed}
use Rattle.load_model.specs.declared.deeds.Deed.TheVariants.{Enter, Full, Failed, Free, Exit, Fault, Write, Debug, Shared}
use Rattle.load_model.specs.Modules.{Library, Held, module_count, object_at}
use Rattle.load_model.specs.State.{Written, Residence, Eager, with_process, attached_residence}
use Rattle.load_model.specs.Entering.{after_entering}
use Rattle.load_model.specs.Initialising.{enter_deed, after_failing}
use Rattle.load_model.specs.Leaving.{freeing, exiting, leaving_calls, gone, after_leaving}
use Rattle.load_model.specs.Memory.{Bytes, writing, with_write}
use Rattle.load_model.specs.Refusals.{Purpose, write, share, touch, debug, enter_refusal, free_refusal, span_refusal}

abbrev pub ask_in : Deed → Ask
ask_in (Enter how m fresh calls) = enter how m
ask_in (Full how m of object size) = enter how m
ask_in (Failed how m by fresh calls gone) = enter how m
ask_in (Free m calls gone) = free m
ask_in (Exit calls gone) = exit
ask_in (Fault serial m p) = fault serial m p
ask_in (Write serial m object offset bytes) = put serial m object offset bytes
ask_in (Debug serial m object offset bytes) = patch serial m object offset bytes
ask_in (Shared serial m object offset bytes) = get serial m object offset (length bytes)

-- ---- what is done

abbrev pub bytes_at : Library → Held → Eager → ℕ → ℕ → ℕ → ℕ → Option Residence → List ℕ
bytes_at lib contents e pid object offset len None = []
bytes_at lib contents e pid object offset len (Some r) = Bytes lib contents e pid r object offset len

-- the entry of what a process asks
unfoldable pub deed_of : Library → Held → Eager → ℕ → Ask → Deed
deed_of lib contents e pid (enter how m) = enter_deed lib e pid how m
deed_of lib contents e pid (free m) =
    let p = freeing m (e.processes pid) in Free m (leaving_calls lib e pid p) (gone lib e pid p)
deed_of lib contents e pid exit =
    let p = exiting (e.processes pid) in Exit (leaving_calls lib e pid p) (gone lib e pid p)
deed_of lib contents e pid (fault serial m p) = Fault serial m p
deed_of lib contents e pid (put serial m object offset bytes) = Write serial m object offset bytes
deed_of lib contents e pid (patch serial m object offset bytes) = Debug serial m object offset bytes
deed_of lib contents e pid (get serial m object offset len) =
    Shared serial m object offset (bytes_at lib contents e pid object offset len (attached_residence lib e pid m))

-- ---- when it may be asked, whatever was touched

abbrev pub is_serial : ℕ → Option Residence → Bool
is_serial serial None = false
is_serial serial (Some r) = r.serial == serial

-- the process reaches this residence of the module
abbrev pub is_attached : Library → Eager → ℕ → ℕ → ℕ → Bool
is_attached lib e pid serial m = is_serial serial (attached_residence lib e pid m)

abbrev pub is_own : Class → Bool
is_own classes.Private = true
is_own classes.Code = false
is_own classes.Shared = false

-- a page that may be touched has its fault as it is, where its object is not private
abbrev pub may_fault : Library → ℕ → PageId → Bool
may_fault lib m p = not (is_own (class_of (object_at lib m p.object)))

-- the bytes may be used so, and the process has not ended
abbrev pub may_use : Library → Eager → ℕ → Purpose → ℕ → ℕ → ℕ → ℕ → ℕ → Bool
may_use lib e pid purpose serial m object offset len = is_attached lib e pid serial m && is_none (span_refusal lib purpose m object offset len)

unfoldable pub may_ask : Library → Eager → ℕ → Ask → Bool
may_ask lib e pid (enter how m) = nat_lt m (module_count lib) && is_none (enter_refusal lib (e.processes pid) how (Some m))
may_ask lib e pid (free m) = is_none (free_refusal (e.processes pid) (Some m))
may_ask lib e pid exit = not (e.processes pid).ended
may_ask lib e pid (fault serial m p) = not (e.processes pid).ended && may_use lib e pid touch serial m p.object (p.page * PAGE_SIZE) 1 && may_fault lib m p
may_ask lib e pid (put serial m object offset bytes) = not (e.processes pid).ended && may_use lib e pid write serial m object offset (length bytes)
may_ask lib e pid (patch serial m object offset bytes) = not (e.processes pid).ended && may_use lib e pid debug serial m object offset (length bytes)
may_ask lib e pid (get serial m object offset len) = not (e.processes pid).ended && may_use lib e pid share serial m object offset len

-- ---- the state after it

-- a write to a private object is the process's own, one to a shared object is the residence's
abbrev pub after_write : Eager → ℕ → ℕ → Written → Class → Eager
after_write e pid serial w classes.Code = e
after_write e pid serial w classes.Private = with_process e pid (writing serial w (e.processes pid))
after_write e pid serial w classes.Shared = record e { residences = map (with_write serial w) e.residences }

-- a write to code is the process's own, as one to a private object is
abbrev pub after_debug : Eager → ℕ → ℕ → Written → Eager
after_debug e pid serial w = with_process e pid (writing serial w (e.processes pid))

-- the state after an entry of a process
unfoldable pub after_deed : Library → Eager → ℕ → Deed → Eager
after_deed lib e pid (Enter how m fresh calls) = after_entering lib e pid how m fresh
after_deed lib e pid (Failed how m by fresh calls gone) = after_failing e fresh
after_deed lib e pid (Free m calls gone) = after_leaving lib e pid (freeing m (e.processes pid))
after_deed lib e pid (Exit calls gone) = after_leaving lib e pid (exiting (e.processes pid))
after_deed lib e pid (Write serial m object offset bytes) =
    after_write e pid serial (record { object = object; offset = offset; bytes = bytes }) (class_of (object_at lib m object))
after_deed lib e pid (Debug serial m object offset bytes) = after_debug e pid serial (record { object = object; offset = offset; bytes = bytes })
after_deed lib e pid deed = e
