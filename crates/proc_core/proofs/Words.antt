-- The words that the proofs of this crate speak in: of the crates below, and of its own definitions.
pub use Rattle.atomic_table.specs.Seated.{TableId}
pub use Rattle.atomic_table.specs.declared.shared.Seat.{Seat}
pub use Rattle.load_core.specs.BoardState.{BoardState, entry_of, IsLegal, with_entry}
pub use Rattle.load_core.specs.declared.answers.Claim.{Claim}
pub use Rattle.load_model.proofs.Bytes.{left_none}
pub use Rattle.load_model.proofs.ViewReplies.{residence_is}
pub use Rattle.load_model.specs.Accepted.{AcceptedMayAsk, TouchedIsApart}
pub use Rattle.load_model.specs.Alike.{Alike, BasesAreAlike, OthersLeaveAlike}
pub use Rattle.load_model.specs.Asks.{is_own, may_ask}
pub use Rattle.load_model.specs.Histories.{after_entry, is_fault_of, Legal, state_after}
pub use Rattle.load_model.specs.Laws.{EachFollows, NothingIsLegal, OneMoreIsAfter, OneMoreIsLegal, PrefixIsLegal}
pub use Rattle.load_model.specs.Memory.{is_page, page, pages_over}
pub use Rattle.load_model.specs.Modules.{fixed_bytes, Held, is_invalid, Library, number_of, source_count}
pub use Rattle.load_model.specs.Outcomes.{done, NamesAreKnown, Outcome, RefusedIsTold, told}
pub use Rattle.load_model.specs.Refusals.{covers_invalid, debug, found_refusal, is_outside, key_refusal, ◌orelse◌, peek, refusal_of, residence_refusal, share, started_refusal, touch, touch_refusal, when, write}
pub use Rattle.load_model.specs.ResidenceBases.{ResidentsFit}
pub use Rattle.load_model.specs.State.{Eager, Failing, is_among, PageOf, pids, serial_of}
pub use Rattle.load_model.specs.Step.{answer_of, FitsPlace, meant, steady}
pub use Rattle.load_model.specs.TouchSteps.{entry_steps, FaultCounts, mapped_steps, MappedCounts, OthersCountNothing}
pub use Rattle.load_model.specs.TouchedPages.{has_page, touched_after}
pub use Rattle.load_model.specs.ViewAnswers.{is_held_in, reached_named, seen_process, view_module_or_none, view_place_refusal, view_reply}
pub use Rattle.load_model.specs.ViewLaws.{AnsweredByView, NewStands, RefusedByView, StandsOn}
pub use Rattle.load_model.specs.Views.{Holding, Mapped, mapped_pages, state_for}
pub use Rattle.load_model.specs.declared.commands.Ask.{Ask}
pub use Rattle.load_model.specs.declared.commands.Command.{Command}
pub use Rattle.load_model.specs.declared.commands.Command.TheVariants.{Touch}
pub use Rattle.load_model.specs.declared.commands.Place.{Place}
pub use Rattle.load_model.specs.declared.commands.Refusal.{Refusal}
pub use Rattle.load_model.specs.declared.commands.Refusal.TheVariants.{Ended, Invalid, NotHeld, Range, Worn}
pub use Rattle.load_model.specs.declared.commands.Reply.{Reply}
pub use Rattle.load_model.specs.declared.commands.Reply.TheVariants.{Refused}
pub use Rattle.load_model.specs.declared.deeds.Deed.{Deed}
pub use Rattle.load_model.specs.declared.deeds.Entry.{Entry}
pub use Rattle.lx_model.proofs.Each.{each_more}
pub use Rattle.lx_model.specs.Library.{module_of}
pub use Rattle.lx_model.specs.ModuleBytes.{fixed_page}
pub use Rattle.lx_types.proofs.Lists.{all_joined}
pub use Rattle.lx_types.specs.Object.{class_of, pages_of}
pub use Rattle.lx_types.specs.Parts.{object_of}
pub use Rattle.lx_types.specs.Sound.{IsNumberOf}
pub use Rattle.lx_types.specs.declared.fail.Fail.{Fail}
pub use Rattle.lx_types.specs.declared.fail.Fail.TheVariants.{NoMemory, Said}
pub use Rattle.lx_types.specs.declared.object.Class.{Class}
pub use Rattle.lx_types.specs.declared.object.PageId.{PageId}
pub use Rattle.lx_types.specs.declared.parts.Parts.{Parts}
pub use Rattle.merge_laws.specs.PageStates.{has_pages, serial_seen, state_with}
pub use Rattle.page_fix.specs.Fixable.{has_shared_pages, is_fixable}
pub use Rattle.page_fix.specs.Rights.{PageRight}
pub use Rattle.page_frames.specs.Residences.{ResidenceFor}
pub use Rattle.proc_core.specs.Calls.{AreOthers, call_refusal, IsAnswerAtFront, IsReadLast, IsRefusedAtFront, IsRefusedCall, IsReplied, IsSamePass, IsWorn, Made, Waited}
pub use Rattle.proc_core.specs.Claiming.{HasFewTurns, is_there, IsClaim, IsOnePage, IsTurn, residence_at}
pub use Rattle.proc_core.specs.Closing.{AreAll, AreMade, AreOf, GoesOn, IsHistoryOf, IsNew}
pub use Rattle.proc_core.specs.Joining.{Begins, Joined, Owns}
pub use Rattle.proc_core.specs.Procs.{about_of, failing_in, front_of, Holds, IsOf, proc_state, ProcState}
pub use Rattle.proc_core.specs.Touches.{AreMapped, IsNewFault, IsPage, IsPageAnswered, IsPageOf, IsSeenForPage, IsSeenInTouch, IsTouchAnswered, IsTouched, needs_fault, newly_mapped, news_of, page_in, touched_pages}
pub use Rattle.proc_core.specs.Turns.{HasCome, in_turn, IsActed, IsToldBy}
pub use Rattle.proc_core.specs.declared.answers.Acted.{Acted}
pub use Rattle.proc_core.specs.declared.deeds.TheConstants.{MAX_TICKETS}
pub use Rattle.proc_core.specs.declared.kept.About.{About}
pub use Rattle.proc_core.specs.declared.kept.Kept.{Kept}
pub use Rattle.process_pages.specs.ReachedResidences.{page_with}
pub use Rattle.process_view.proofs.Claims.{shared_by}
pub use Rattle.process_view.proofs.Insides.{IsInside, page_inside}
pub use Rattle.process_view.proofs.Lookups.{place_by_residence, span_is_inside}
pub use Rattle.process_view.proofs.Shown.{attached, shown_at, stands_under}
pub use Rattle.process_view.proofs.ShownAlike.{AreReached, reached_alike, residences_reached, shown_alike_by}
pub use Rattle.process_view.specs.Answering.{IsReachedNamed}
pub use Rattle.process_view.specs.Deeds.{bytes_read, CanMap, Did, fault_of, fixed_of, IsClaimedIn, IsDone, IsFixedIn, IsIdle, IsLastRead, IsSharedPage, with_page}
pub use Rattle.process_view.specs.PageLaws.{PagesStand}
pub use Rattle.process_view.specs.ProcessViews.{AreShown, at_front, new_view, ProcessView, StandsAt, without_room}
pub use Rattle.script_laws.proofs.Asked.{asks_for, Entered, entered_by}
pub use Rattle.session_model.specs.Merging.{AsksFor, uses_touched}
pub use Rattle.std.proofs.Common.{◌&&◌, ◌*◌, ◌+◌, ◌++◌, ◌-◌, ◌<◌, ◌==◌, [], ◌^◌, add-one, ap, append-nil, append_assoc, arith, Bool, Bor, count_by, drop, eq-eqb, Err, false, filter, get_or, if◌then◌else◌, inl, inr, length, List}
pub use Rattle.std.proofs.Common.{map, MatchResult, nat_le, ne_eqb, None, not, Ok, Option, refl, Result, rules, Some, subst, suc, sym, take, true, zero, ◌||◌, ℕ, ◌∙◌, ◌∷◌, ◌≡◌, ◌≢◌, ◌≤◌, ◌⊎◌}
pub use Rattle.std.proofs.Math.Bool.{or-true}
pub use Rattle.std.proofs.lemmas.Bool.{and_from, leb-false, leb-true, not-false, not-true, or_from, or_left, or_parts, or_right}
pub use Rattle.std.proofs.lemmas.Bool.Decides.{nat_tests}
pub use Rattle.std.proofs.lemmas.Grind.{common_steps}
pub use Rattle.std.proofs.lemmas.Iterator.Adapters.{YieldsList-from_vec}
pub use Rattle.std.proofs.lemmas.Iterator.Consumers.{YieldsList-turn}
pub use Rattle.std.proofs.lemmas.List.{append_cancel_left, get_or_append_left, get_or_default, get_or_push, length_push, map-append, take-append-drop, take_all}
pub use Rattle.std.proofs.lemmas.List.Elements.{filter-append}
pub use Rattle.std.proofs.lemmas.List.Folds.{list_any-append}
pub use Rattle.std.proofs.lemmas.List.FromFn.{length-map-range_with_len}
pub use Rattle.std.proofs.lemmas.List.Sums.{count_by-le-length, sum_by-append}
pub use Rattle.std.proofs.lemmas.Option.{same_Some}
pub use Rattle.std.proofs.lemmas.Result.{err_from_is_err_and}
pub use Rattle.std.specs.Arc.{arc_value}
pub use Rattle.std.specs.List.{AllByRecursion, list_all, list_any, range_with_len, remove}
pub use Rattle.std.specs.Prelude.{unwrap_or}
pub use Rattle.std.specs.Result.{result_err}
pub use Rattle.turn_lock.specs.Passes.{AllDealt, at_start, Idle, IsDealt, live_of}
pub use Rattle.turn_lock.specs.Turns.{Adds, by_pid, drawing, ended_of, giving, joining, own_of, seeing}
pub use Rattle.turn_lock.specs.declared.known.Known.{Known}
pub use mathlib.Core.List.{IsPrefix}
pub use mathlib.Core.Logic.{dite}
pub use native.Mathlib.Decide.{ℕ_discrete}
pub use Rattle.process_view.proofs.Words.{nowhere}
