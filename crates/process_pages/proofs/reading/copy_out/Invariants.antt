use Rattle.process_pages.proofs.Words.{byte_by, slice_index, ℕ, ◌+◌, ◌-◌, ◌<◌, ◌≡◌, ◌≤◌}
use Rattle.process_pages.proofs.reading.copy_out.Given as goal

abbrev pub invariant-loop-done : goal.invariant-loop-done
invariant-loop-done l = (l.done ≤ l.place.len) × ((i : ℕ) → i < l.done → slice_index l.into i ≡ byte_by l.places l.pages l.place.object (l.place.offset + i))

abbrev pub decreases-loop-done : goal.decreases-loop-done
decreases-loop-done l = l.place.len - l.done
