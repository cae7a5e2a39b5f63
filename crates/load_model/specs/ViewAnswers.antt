-- What a process's own view answers.
use Rattle.std.specs.Prelude.{ℕ, ◌/◌, ◌%◌, ◌==◌, ◌&&◌, not, Bool, false, List, [], map, find, Option, Some, None, option_map, nat_le, slice_index, Result, Ok, Err}
use Rattle.std.specs.List.{range_with_len}
use Rattle.lx_types.specs.declared.object.PageId.{PageId}
use Rattle.lx_types.specs.declared.object.TheConstants.{PAGE_SIZE}
use Rattle.load_model.specs.declared.commands.Place.{Place}
use Rattle.load_model.specs.declared.commands.Command.{Command}
use Rattle.load_model.specs.declared.commands.Command.TheVariants as commands
use Rattle.load_model.specs.declared.commands.Refusal.{Refusal}
use Rattle.load_model.specs.declared.commands.Refusal.TheVariants.{Ended, NoModule, NotLibrary, NotProgram, CountFull, NotHeld}
use Rattle.load_model.specs.declared.commands.Reply.{Reply}
use Rattle.load_model.specs.declared.commands.Reply.TheVariants as replies
use Rattle.load_model.specs.declared.deeds.How.{How}
use Rattle.load_model.specs.declared.deeds.How.TheVariants.{Start, Load}
use Rattle.load_model.specs.Modules.{Spot, EntryFault, Library, number_of, is_library, unfit, entry_spot, address_in}
use Rattle.load_model.specs.State.{Residence, Process, new_process, bases_of}
use Rattle.load_model.specs.Step.{meant, resource_named}
use Rattle.load_model.specs.Entering.{residence_from}
use Rattle.load_model.specs.Memory.{is_page, page}
use Rattle.load_model.specs.Refusals.{Purpose, touch, write, share, peek, debug, when, ◌orelse◌, started_refusal, residence_refusal, key_refusal, found_refusal}
use Rattle.load_model.specs.Views.{Mapped, Holding, mapped_pages, reached_of}
use Rattle.lx_types.specs.declared.limits.TheConstants.{MAX_LOADS}

-- ---- refusals

-- what counts of a process for its refusals, its loads left out: they are counted apart
abbrev pub seen_process : Holding → Process
seen_process v = record new_process { started = v.counts.started; ended = v.ended; touched = mapped_pages v }

abbrev pub view_module_refusal : Library → Holding → How → ℕ → Option Refusal
view_module_refusal lib v Start m = when (is_library lib m) NotProgram orelse unfit lib m
view_module_refusal lib v Load m =
    when (not (is_library lib m)) NotLibrary
    orelse unfit lib m
    orelse when (nat_le MAX_LOADS (slice_index v.counts.loads m)) CountFull

abbrev pub view_module_or_none : Library → Holding → How → Option ℕ → Option Refusal
view_module_or_none lib v how None = Some NoModule
view_module_or_none lib v how (Some m) = view_module_refusal lib v how m

abbrev pub view_enter_refusal : Library → Holding → How → Option ℕ → Option Refusal
view_enter_refusal lib v how m = when v.ended Ended orelse started_refusal (seen_process v) how orelse view_module_or_none lib v how m

abbrev pub is_held_in : Holding → Option ℕ → Bool
is_held_in v None = false
is_held_in v (Some m) = not (slice_index v.counts.loads m == 0)

abbrev pub view_free_refusal : Holding → Option ℕ → Option Refusal
view_free_refusal v m = when v.ended Ended orelse when (not (is_held_in v m)) NotHeld

-- the residence of a module by name, as the view has it
abbrev pub reached_if : Holding → Option ℕ → Option Residence
reached_if v None = None
reached_if v (Some m) = option_map residence_from (reached_of v m)

abbrev pub reached_named : Library → Holding → List ℕ → Option Residence
reached_named lib v name = reached_if v (number_of lib name)

abbrev pub view_place_refusal : Library → Holding → Purpose → Place → Option Refusal
view_place_refusal lib v purpose at = when v.ended Ended orelse residence_refusal lib (seen_process v) purpose at (reached_named lib v at.«module»)

-- The refusal of a command that the view decides: every one but want of a place, and an initialisation that fails.
unfoldable pub view_refusal : Library → Holding → Command → Option Refusal
view_refusal lib v (commands.Start name) = view_enter_refusal lib v Start (number_of lib name)
view_refusal lib v (commands.Load name) = view_enter_refusal lib v Load (number_of lib name)
view_refusal lib v (commands.Free name) = view_free_refusal v (number_of lib name)
view_refusal lib v (commands.Touch at) = view_place_refusal lib v touch at
view_refusal lib v (commands.Peek at) = view_place_refusal lib v peek at
view_refusal lib v (commands.Shared at) = view_place_refusal lib v share at
view_refusal lib v (commands.Write at bytes) = view_place_refusal lib v write at
view_refusal lib v (commands.Debug at bytes) = view_place_refusal lib v debug at
view_refusal lib v (commands.Query name key) = when v.ended Ended orelse key_refusal lib key (reached_named lib v name)
view_refusal lib v (commands.GetRes name ty id) = when v.ended Ended orelse found_refusal lib ty id (reached_named lib v name)
view_refusal lib v commands.Exit = when v.ended Ended

-- ---- replies

abbrev pub is_mapped_at : ℕ → PageId → Mapped → Bool
is_mapped_at serial q p = (p.of.serial == serial) && is_page p.of.page q

abbrev pub bytes_in : Option Mapped → List ℕ
bytes_in None = []
bytes_in (Some p) = p.bytes

-- the bytes of a page that is mapped
abbrev pub page_bytes : Holding → ℕ → PageId → List ℕ
page_bytes v serial q = bytes_in (find (is_mapped_at serial q) v.mapped)

abbrev pub view_byte : Holding → ℕ → ℕ → ℕ → ℕ
view_byte v serial object x = slice_index (page_bytes v serial (page object (x / PAGE_SIZE))) (x % PAGE_SIZE)

abbrev pub view_bytes : Holding → Place → Option Residence → List ℕ
view_bytes v at None = []
view_bytes v at (Some r) = map (view_byte v r.serial at.object) (range_with_len at.offset at.len)

abbrev pub view_address : Holding → Result Spot EntryFault → ℕ
view_address v (Ok s) = address_in (bases_of (reached_if v (Some s.«module»))) s.object s.offset
view_address v (Err fault) = 0

-- what a command is answered that is not refused and has no entry
abbrev pub view_reply : Library → Holding → Command → Option Reply
view_reply lib v (commands.Touch at) = Some replies.Fine
view_reply lib v (commands.Peek at) = Some (replies.Bytes (view_bytes v at (reached_named lib v at.«module»)))
view_reply lib v (commands.Query name key) = Some (replies.Address (view_address v (entry_spot lib (meant lib name) key)))
view_reply lib v (commands.GetRes name ty id) = Some (replies.Spot (resource_named lib name ty id))
view_reply lib v (commands.Start name) = None
view_reply lib v (commands.Load name) = None
view_reply lib v (commands.Free name) = None
view_reply lib v (commands.Shared at) = None
view_reply lib v (commands.Write at bytes) = None
view_reply lib v (commands.Debug at bytes) = None
view_reply lib v commands.Exit = None
