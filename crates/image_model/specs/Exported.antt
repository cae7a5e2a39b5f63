-- The exports of a linked module as its tables tell them.
-- "32-bit Linear eXecutable Module Format": "Entry Table".
use Rattle.std.specs.Prelude.{List, Option, Some, None}
use Rattle.std.specs.List.{filter_map}
use Rattle.std.specs.Option.{option_map, option_and_then}
use Rattle.lx_types.specs.declared.entry.EntryHead.{EntryHead}
use Rattle.lx_types.specs.declared.entry.EntryHead.TheVariants as heads
use Rattle.lx_types.specs.declared.entry.FwdKey.TheVariants as keys
use Rattle.lx_types.specs.declared.fix.FixTarget.{FixTarget}
use Rattle.lx_types.specs.declared.fix.FixTarget.TheVariants.{Internal, Ordinal, Named, Own}
use Rattle.link_model.specs.Link.{Link}
use Rattle.link_model.specs.Exports.{Export, ExportTarget, At, Forward, Out}
use Rattle.link_model.specs.ImportTables.{link_pairs, procs_in, import_target, with_offset}
use Rattle.lx_model.specs.ExportTables.{Exported}

-- A forwarder names its entry point as a fixup would.
abbrev pub forwarder_to : FixTarget → Option EntryHead
forwarder_to (Internal object offset) = None
forwarder_to (Ordinal import ordinal) = Some (heads.Forward import (keys.Ordinal ordinal))
forwarder_to (Named import name_at) = Some (heads.Forward import (keys.NameAt name_at))
forwarder_to (Own ordinal) = None

abbrev pub head_of : Link → ExportTarget → Option EntryHead
head_of l (At object offset) = Some (heads.At object offset)
head_of l (Forward pair) =
    option_and_then (λ target. forwarder_to (with_offset (procs_in (link_pairs l)) target)) (import_target (link_pairs l) pair)

abbrev pub exported : Link → Export → Option Exported
exported l x =
    option_map (λ head. record { name = x.name; ordinal = x.ordinal; resident = x.resident; words = x.words; head = head; wide = x.wide }) (head_of l x.target)

-- The exports, each with what its entry says.
unfoldable pub exported_of : Link → List Exported
exported_of l = filter_map (exported l) (Out l)
