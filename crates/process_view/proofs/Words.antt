-- The words that the proofs of this crate speak in: of the crates below, and of its own definitions.
pub use Rattle.std.proofs.Common.{ap, arith, Bool, Err, false, get_or, inl, inr, length, List, map, None, not, Ok, Option, option_copied, refl, slice_index_or}
pub use Rattle.std.proofs.Common.{Some, subst, sym, true, ℕ, [], ◌+◌, ◌-◌, ◌<◌, ◌∙◌, ◌∷◌, ◌≡◌}
pub use Rattle.std.proofs.lemmas.Bool.{cases_lt, not-true}
pub use Rattle.std.proofs.lemmas.Bool.Decides.{nat_tests}
pub use Rattle.std.proofs.lemmas.List.{reverse-append, get_or_default, map-append, get_or-map, length-map, take_at}
pub use Rattle.std.proofs.lemmas.List.Elements.{filter_map-append, All-from_get_or, All-map, Contains-get_or, All-contains_itself, recursion_from_All}
pub use Rattle.std.proofs.lemmas.List.Elements.{All-get_or, All-push, All-filter}
pub use Rattle.std.proofs.lemmas.List.Folds.{find-append, list_any_at}
pub use Rattle.std.proofs.lemmas.List.FromFn.{get_or-map-range_with_len, length-map-range_with_len}
pub use Rattle.std.proofs.lemmas.List.Kept.{AllPairs-filter}
pub use Rattle.std.proofs.lemmas.List.Quantifiers.{position-Some, all_pairs_push}
pub use Rattle.std.proofs.lemmas.Option.{slice_get-map, slice_get_read, slice_get_past, slice_get-get_or}
pub use Rattle.std.specs.Arc.{arc_value}
pub use Rattle.std.specs.Box.{box_value}
pub use Rattle.std.specs.Iterator.Adapters.{zip_first, zip_second}
pub use Rattle.std.specs.Option.{ForSome}
pub use Rattle.std.specs.List.{find, range_with_len, AllByRecursion, list_all, list_any}
pub use Rattle.std.specs.Prelude.{is_none, position, filter_map, nat_le, nat_lt, slice_get, All, is_some, AllPairs, Contains, vec_len, vec_capacity}
pub use Rattle.lx_types.proofs.Lists.{all_joined, any_map}
pub use Rattle.lx_types.specs.Addresses.{address}
pub use Rattle.lx_types.specs.Object.{class_of, pages_of}
pub use Rattle.lx_types.specs.Parts.{object_of, page_at}
pub use Rattle.lx_types.specs.Sound.{IsNumberOf}
pub use Rattle.lx_types.specs.declared.bases.Bases.{Bases}
pub use Rattle.lx_types.specs.declared.object.Class.{Class}
pub use Rattle.lx_types.specs.declared.object.PageId.{PageId}
pub use Rattle.lx_types.specs.declared.parts.Parts.{Parts}
pub use Rattle.lx_model.specs.Fixed.{Fixed, base_of, sources_of}
pub use Rattle.lx_model.specs.Laws.{OrderEndsWithItself, OrderHasEachOnce, OrderIsInLibrary}
pub use Rattle.lx_model.specs.Library.{module_of, module_named}
pub use Rattle.lx_model.specs.ModuleBytes.{fixed_page}
pub use Rattle.lx_model.specs.Reach.{Order}
pub use Rattle.page_fix.specs.Fixable.{has_shared_pages, is_page_of}
unfoldable pub use Rattle.page_fix.specs.Fixable.{is_fixable}
pub use Rattle.page_frames.specs.Residences.{ResidenceFor}
pub use Rattle.load_model.proofs.Bools.{and_left, and_right, and_true, or_true, and_false}
pub use Rattle.load_model.proofs.Bytes.{attached_is}
pub use Rattle.load_model.proofs.Growing.{one_more_is_after, one_more_is_legal}
pub use Rattle.load_model.proofs.Orders.{one_reaches, among_contains}
pub use Rattle.load_model.proofs.Residents.{reached_is_resident, legal_kept}
pub use Rattle.load_model.proofs.SerialsOwn.{serials_are_own}
pub use Rattle.load_model.proofs.ViewLoads.{stay_is, attached_grows, entering_process}
pub use Rattle.load_model.proofs.ViewReplies.{residence_is, attached_is_resident}
pub use Rattle.load_model.specs.Alike.{BasesSeenStay}
pub use Rattle.load_model.specs.Asks.{is_attached, is_own, is_serial, may_fault}
unfoldable pub use Rattle.load_model.specs.Asks.{deed_of, may_ask, after_deed}
pub use Rattle.load_model.specs.Entering.{residence_from, after_entering, attaching, holding, NoRoom, placing}
unfoldable pub use Rattle.load_model.specs.Entering.{joined}
pub use Rattle.load_model.specs.Histories.{Follows, has_fault, after_entry, state_after}
pub use Rattle.load_model.specs.Initialising.{enter_by, entered, failing_module}
unfoldable pub use Rattle.load_model.specs.Initialising.{enter_deed}
pub use Rattle.load_model.specs.Laws.{ResidenceStays, unwritten_of}
pub use Rattle.load_model.specs.Leaving.{keeping, left_serials, freeing}
unfoldable pub use Rattle.load_model.specs.Leaving.{after_leaving}
pub use Rattle.load_model.specs.Memory.{page, pages_over, first_or, put_at, writes_of_class, is_page}
unfoldable pub use Rattle.load_model.specs.Memory.{bases_seen, Byte, writes_seen}
pub use Rattle.load_model.specs.Modules.{address_in, entry_spot, EntryFault, Library, resource_of, Spot, Held, is_library, unfit}
unfoldable pub use Rattle.load_model.specs.Modules.{number_of, fixed_bytes, is_invalid, object_at, objects_of, order_of, source_count}
pub use Rattle.load_model.specs.Outcomes.{done, is_done, IsTold, Outcome, arena_full, init_failed, told}
pub use Rattle.load_model.specs.ProcessCounts.{AreCountsOf, ProcessCounts, unreached, new_counts}
pub use Rattle.load_model.specs.Refusals.{found_refusal, key_refusal, spot_refusal, when, ◌orelse◌, class_refusal, covers_invalid, is_outside, residence_if}
pub use Rattle.load_model.specs.Refusals.{enter_refusal, started_refusal, Purpose, touch_refusal}
unfoldable pub use Rattle.load_model.specs.Refusals.{span_refusal, residence_named}
pub use Rattle.load_model.specs.State.{Eager, is_among, OwnWrite, PageOf, pids, Residence, Written, serial_of, bases_of, is_reached, Process, new_process}
pub use Rattle.load_model.specs.State.{Failing, nothing_yet}
unfoldable pub use Rattle.load_model.specs.State.{attached_residence, reaches, residence_of, with_process}
pub use Rattle.load_model.specs.Step.{no_spot, ask_by, FitsPlace, meant, serial_named}
pub use Rattle.load_model.specs.TouchedPages.{has_page, touched_after}
pub use Rattle.load_model.specs.ViewAnswers.{bytes_in, is_mapped_at, reached_named, view_address, view_byte, view_bytes, view_place_refusal, view_reply}
pub use Rattle.load_model.specs.ViewAnswers.{seen_process, view_module_or_none, view_free_refusal, reached_if}
unfoldable pub use Rattle.load_model.specs.ViewAnswers.{view_refusal}
pub use Rattle.load_model.specs.ViewLaws.{StandsQuiet, IsQuiet, WritesOwn, StandsEntered}
pub use Rattle.load_model.specs.Views.{Holding, Mapped, is_covered, IsMapped, lying_byte, mapped_pages, WasFixed, state_for, fresh_of, StandsFor}
pub use Rattle.load_model.specs.WrittenPages.{written_over}
pub use Rattle.load_model.specs.declared.commands.Ask.{Ask}
pub use Rattle.load_model.specs.declared.commands.Ask.TheVariants.{Fault as fault, Enter as enter, Exit as exit, Free as free, Shared as get, Debug as patch}
pub use Rattle.load_model.specs.declared.commands.Ask.TheVariants.{Write as put}
pub use Rattle.load_model.specs.declared.commands.Command.{Command}
pub use Rattle.load_model.specs.declared.commands.Place.{Place}
pub use Rattle.load_model.specs.declared.commands.Refusal.{Refusal}
pub use Rattle.load_model.specs.declared.commands.Refusal.TheVariants.{Ended, NoResource, NotAttached, Invalid, Range, ArenaFull, InitFailed, CountFull}
pub use Rattle.load_model.specs.declared.commands.Refusal.TheVariants.{NotLibrary, Started, NotTouched}
pub use Rattle.load_model.specs.declared.commands.Reply.TheVariants.{Refused}
pub use Rattle.load_model.specs.declared.deeds.Call.{Call}
pub use Rattle.load_model.specs.declared.deeds.Deed.{Deed}
pub use Rattle.load_model.specs.declared.deeds.Entry.{Entry}
pub use Rattle.load_model.specs.declared.deeds.Fresh.{Fresh}
pub use Rattle.load_model.specs.declared.deeds.Gone.{Gone}
pub use Rattle.load_model.specs.declared.deeds.How.{How}
pub use Rattle.mod_refs.specs.CountLaws.{CountsHaveRoom, HeldIsCounted}
pub use Rattle.mod_refs.specs.declared.changes.Leaving.{Leaving}
pub use Rattle.mod_refs.specs.declared.changes.Leaving.TheVariants.{One, All as Everything}
pub use Rattle.process_pages.proofs.Copies.{some_bytes, pages_stay, placed_written}
pub use Rattle.process_pages.proofs.Owned.{all_kept, filter_whole, no_pages, pages_joined, pages_kept, pages_pushed, pages_written}
pub use Rattle.process_pages.proofs.Placing.{same_number, same_page, placed_with, kept_pages, kept_residences, reach_kept}
pub use Rattle.process_pages.proofs.Placing.{mapped_by_place, not_placed, mapped_as_placed, residences_set}
pub use Rattle.process_pages.proofs.Positions.{at_place, found_at_place, position_map, one_more}
pub use Rattle.process_pages.specs.PageRows.{ArePlaces, PagePlaces, place_in, HaveNone, with_place}
pub use Rattle.process_pages.specs.ReachedResidences.{residence_in, residences_in, page_with, AreApart, ArePagesOf, IsPlaced, pages_with}
pub use Rattle.process_pages.specs.Reading.{AreThere, byte_by, bytes_at}
pub use Rattle.process_pages.specs.Writing.{IsFound, IsWriteTo}
pub use Rattle.process_pages.specs.declared.reached_residences.ReachedResidence.{ReachedResidence}
pub use Rattle.load_core.specs.BoardState.{BoardState, entry_of, IsLegal, MayAsk, state_of, with_entry, Adds}
pub use Rattle.load_core.specs.Leaves.{asked_by}
pub use Rattle.load_core.specs.Told.{residence_shown, IsLoaded, IsToldOf, fixed_run, read_run, IsGiven}
pub use Rattle.process_view.specs.Answering.{base_if, IsReachedAt, IsReachedNamed, residence_with, enter_command, touch_refusal_by}
pub use Rattle.process_view.specs.Counting.{CanCount, IsFree, with_counts}
pub use Rattle.process_view.specs.Deeds.{CanMap, fault_of, fixed_of, IsSharedPage, bytes_read, Did, IsDone, own_write, with_own, with_write, write_ask, written_to}
pub use Rattle.process_view.specs.Deeds.{with_page, with_residence}
pub use Rattle.process_view.specs.Joining.{CanJoin, IsNewTo, modules_of, with_residences, AreEmpty}
pub use Rattle.process_view.specs.Kept.{Keeps, view_of}
pub use Rattle.process_view.specs.Plans.{IsPlan}
pub use Rattle.process_view.specs.ProcessViews.{fresh_shown, ProcessView, at_front, StandsAt, AreShown, new_view, freed_view}
pub use Rattle.process_view.specs.Purposes.{purpose_of}

-- where there is no residence
abbrev pub nowhere : ResidenceFor
nowhere = record { library = []; serial = 0; «module» = 0; bases = record { mods = [] }; keeper = 0 }
