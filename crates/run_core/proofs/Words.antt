-- The words that the proofs of this crate speak in: of the crates below, and of its own definitions.
pub use Rattle.std.proofs.Common.{false, length, map, subst, sym, ◌*◌, ◌++◌, ◌<◌, ◌∙◌, ◌≡◌, ◌≤◌}
pub use Rattle.std.proofs.lemmas.Bool.{lt-leb}
pub use Rattle.std.proofs.lemmas.List.{length-map, length-take, ext_get_or, get_or-map}
pub use Rattle.std.proofs.lemmas.List.FromFn.{length-range_with_len, get_or-range_with_len}
pub use Rattle.std.specs.Arc.{arc_value}
pub use Rattle.std.specs.List.{AllByRecursion, range_with_len, list_any}
pub use Rattle.std.specs.Prelude.{IfOk, is_err, OnOk}
pub use Rattle.lx_types.specs.declared.fail.NoMemory.{NoMemory}
pub use Rattle.load_model.specs.Histories.{Legal, state_after}
pub use Rattle.load_model.specs.Memory.{first_untouched, is_page, page, pages_over}
pub use Rattle.load_model.specs.Modules.{entry_spot, EntryFault, HealthOf, is_library, Library, object_at, refusal_of_health, resource_of, Spot, fixed_bytes}
unfoldable pub use Rattle.load_model.specs.Modules.{number_of, unfit}
pub use Rattle.load_model.specs.Outcomes.{done, IsTold, Outcome, told}
pub use Rattle.load_model.specs.Refusals.{class_refusal, covers_invalid, debug, found_refusal, is_outside, key_refusal, peek, Purpose, residence_refusal, share, spot_refusal, started_refusal, touch, touch_refusal, when, write}
pub use Rattle.load_model.specs.Refusals.{◌orelse◌}
unfoldable pub use Rattle.load_model.specs.Refusals.{span_refusal}
pub use Rattle.load_model.specs.State.{Process, Residence, Failing, PageOf, is_among, pids}
pub use Rattle.load_model.specs.Step.{FitsPlace, meant}
pub use Rattle.load_model.specs.Views.{Holding, mapped_pages, StandsFor, new_holding}
pub use Rattle.load_model.specs.declared.commands.Command.{Command}
pub use Rattle.load_model.specs.declared.commands.Place.{Place}
pub use Rattle.load_model.specs.declared.commands.Refusal.TheVariants.{CountFull, Ended, Invalid, NoResource, NotHeld, NotLibrary, NotProgram, NotTouched, Range, Worn}
pub use Rattle.load_model.specs.declared.commands.Reply.{Reply}
pub use Rattle.load_model.specs.declared.commands.Reply.TheVariants.{Fine, Refused}
pub use Rattle.load_model.specs.declared.deeds.Deed.{Deed}
pub use Rattle.load_model.specs.declared.deeds.Entry.{Entry}
pub use Rattle.process_view.specs.ProcessViews.{ProcessView}
pub use Rattle.proc_core.specs.Calls.{call_refusal, IsAnswered, IsRefused, IsSamePass, Made}
pub use Rattle.proc_core.specs.Closing.{AreAll, AreMade, AreOf, GoesOn, IsHistoryOf, IsNew}
pub use Rattle.proc_core.specs.Procs.{ProcState, failing_in, Holds, IsOf}
pub use Rattle.proc_core.specs.Touches.{IsTouchAnswered, AreMapped, IsNewFault, IsSeenInTouch, IsTouched, most_turns, needs_fault, newly_mapped, touched_pages}
pub use Rattle.proc_core.specs.declared.deeds.TheConstants.{MAX_TICKETS}
pub use Rattle.proc_core.specs.declared.kept.About.{About}
pub use Rattle.run_core.specs.Carrying.{has_entry, IsCarriedOut, IsLineOf, IsRefusedLine, IsTouchLine, IsReadLine, line_if, line_with, Reached}
pub use Rattle.run_core.specs.Sessions.{HaveRun, IsRanOf, run_in}
pub use Rattle.run_core.specs.Tasks.{IsSameProcess, IsReady, IsRunOut, IsRunWhole, lines_of, proc_of, task_with}
pub use Rattle.run_core.specs.declared.tasks.TheConstants.{MAX_TURNS}
pub use Rattle.script_laws.specs.Commands.{EntryGoesOn, ReadGoesOn, RefusedGoesOn, TouchGoesOn, ProgressBegins}
pub use Rattle.script_laws.specs.Progress.{Enters, IsFaultOfPlace, line_at, Touches, Progress}
pub use Rattle.session_model.specs.Bounds.{IsCommand, IsPlace, IsScript}
unfoldable pub use Rattle.session_model.specs.FailingPairs.{failing_pairs}
pub use Rattle.session_model.specs.Merging.{uses_touched, numbers_of}
pub use Rattle.session_model.specs.declared.sessions.Script.{Script}
pub use Rattle.session_model.specs.declared.sessions.Session.{Session}
pub use Rattle.turn_lock.specs.declared.known.Known.{Known}
