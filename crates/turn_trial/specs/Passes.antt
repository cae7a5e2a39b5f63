-- A pass between its turns.
use Rattle.std.specs.Prelude.{◌≡◌, ℕ, Option}
use Rattle.atomic_table.specs.Seated.{TableId}
use Rattle.atomic_table.specs.declared.shared.Seat.{Seat}
use Rattle.turn_lock.specs.declared.known.Known.{Known}
use Rattle.turn_lock.specs.Passes.{Idle}
use Rattle.turn_trial.specs.declared.notes.Note.{Note}
use Rattle.turn_trial.specs.declared.notes.Notes.{Notes}

-- The pass is of this lock, holds nothing, and knows what the notes are about.
abbrev pub Rests : TableId → Seat (Option Notes) (Known Note ℕ) → Type 0
Rests id p = (p.table_id ≡ id) × Idle p.me
