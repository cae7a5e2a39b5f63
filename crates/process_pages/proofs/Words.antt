-- The words that the proofs of this crate speak in: of the crates below, and of its own definitions.
pub use Rattle.std.proofs.Common.{ap, arith, false, get_or, length, List, map, None, Option, refl, replicate, rules, slice_index, slice_index_or, Some, subst}
pub use Rattle.std.proofs.Common.{sym, take, true, ℕ, [], ◌%◌, ◌*◌, ◌++◌, ◌+◌, ◌-◌, ◌/◌, ◌<◌, ◌==◌, ◌∙◌, ◌∷◌, ◌≡◌, ◌≤◌}
pub use Rattle.std.proofs.lemmas.Bool.{cases_lt, eq-eqb, cases_eq, lt-ltb, cases_order, ltb-true, le-leb, lt-leb}
pub use Rattle.std.proofs.lemmas.Bool.Decides.{nat_tests}
pub use Rattle.std.proofs.lemmas.Fn.{filter_same}
pub use Rattle.std.proofs.lemmas.List.{get_or-drop, get_or-take, length-drop, length-take, get_or_default, get_or-map, length-map, get_or_past, length-take-le}
pub use Rattle.std.proofs.lemmas.List.{take_all, take_more}
pub use Rattle.std.proofs.lemmas.List.Folds.{list_any-append, list_any_at, map_fixed}
pub use Rattle.std.proofs.lemmas.List.FromFn.{length-map-range_with_len}
pub use Rattle.std.proofs.lemmas.List.Kept.{AllPairs-filter}
pub use Rattle.std.proofs.lemmas.List.Quantifiers.{all_pairs_push, position-Some}
pub use Rattle.std.proofs.lemmas.List.Sums.{length-filter}
pub use Rattle.std.proofs.lemmas.Option.{slice_get_past}
pub use Rattle.std.proofs.lemmas.Simd.{map-map}
pub use Rattle.std.proofs.Math.Bool.{and-true}
pub use Rattle.std.proofs.lemmas.List.Elements.{All-weaker, All-from_get_or, All-get_or, All-filter, All-head, All-map, All-push, All-tail, filter_passes}
pub use Rattle.std.specs.List.{find, range_with_len, position_or_len, AllByRecursion, list_any}
pub use Rattle.std.specs.Prelude.{All, bytes_eq, if◌then◌else◌, is_some, nat_le, nat_lt, position, is_none, slice_get}
pub use borrow.Rule.Slice.PartMut.{mid_of}
pub use Rattle.lx_types.specs.Object.{pages_of}
pub use Rattle.lx_types.specs.Parts.{object_of}
pub use Rattle.lx_types.specs.declared.object.PageId.{PageId}
pub use Rattle.lx_types.specs.declared.parts.Parts.{Parts}
pub use Rattle.lx_model.specs.Library.{has_name, module_named, module_of, no_module}
pub use Rattle.page_frames.specs.Residences.{ResidenceFor}
pub use Rattle.load_model.specs.Memory.{first_or, last_put, page, pages_over, put_at, is_page}
pub use Rattle.load_model.specs.State.{PageOf, Written, Eager, Process}
unfoldable pub use Rattle.load_model.specs.State.{reaches}
pub use Rattle.load_model.specs.ViewAnswers.{is_mapped_at, bytes_in}
pub use Rattle.load_model.specs.Views.{Mapped}
pub use Rattle.load_model.specs.WrittenPages.{over_page, written_over}
pub use Rattle.write_overlay.specs.Laid.{bytes_under, replaced, writes_to}
pub use Rattle.process_pages.specs.PageRows.{PagePlaces, place_in, ArePlaces, Cover, has_number, with_first_place, with_place, HaveNone}
pub use Rattle.process_pages.specs.ReachedResidences.{ArePagesOf, IsPlaced, residence_in, AreApart, page_with, pages_with, residences_in, StandOnce, without_places}
pub use Rattle.process_pages.specs.Reading.{byte_by, bytes_at, AreThere, IsThere}
pub use Rattle.process_pages.specs.ResidenceFinders.{AreRight, IsRight}
pub use Rattle.process_pages.specs.Writing.{IsFound, written_at}
pub use Rattle.process_pages.specs.declared.reached_residences.ReachedResidence.{ReachedResidence}
pub use Rattle.process_pages.specs.declared.residence_finder.KnownPosition.{KnownPosition}
pub use Rattle.process_pages.specs.declared.residence_finder.KnownPosition.TheVariants.{At, Nowhere, Unknown}
