-- The items of a transcript, as code has them, in the order in which they are judged.
use Rattle.std.specs.Prelude.{◌≡◌, ℕ, ◌+◌, ◌<◌, ◌==◌, Bool, false, List, [], length, filter, map, flat_map, find, drop, slice_get, slice_index, slice_index_or}
use Rattle.session_model.specs.Merging.{Item, entry, line, is_command_of}
use Rattle.check_model.specs.Places.{NumberedLine, Numbered, numbered_line}
use Rattle.check_model.specs.Checks.{process_of}
use Rattle.check_core.specs.declared.items.ToldLine.{ToldLine}
use Rattle.check_core.specs.declared.items.ToldItem.{ToldItem}
use Rattle.check_core.specs.declared.items.ToldItem.TheVariants as told

abbrev pub line_shown : ToldLine → Numbered
line_shown l = record { number = l.number; low = l.low; item = line l.pid l.line.now }

abbrev pub item_shown : ToldItem → Numbered
item_shown (told.Entry x) = record { number = x.number; low = 0; item = entry x.entry.now }
item_shown (told.Line l) = line_shown l

abbrev pub item_of : ToldItem → Item
item_of x = (item_shown x).item

-- ---- lines

-- all lines, process by process
abbrev pub all_lines : List (ℕ × List NumberedLine) → List Numbered
all_lines s = flat_map (λ (x : ℕ × List NumberedLine). map (numbered_line x.0) x.1) s

-- a line with so many entries in front
abbrev pub has_front : ℕ → Item → Bool
has_front front (line pid l) = l.front == front
has_front front (entry x) = false

abbrev pub is_line_at : ℕ → Numbered → Bool
is_line_at front x = has_front front x.item

-- Lists of the lines with each number of entries in front below a count.
abbrev pub AreByFront : List (List Numbered) → ℕ → List Numbered → Type 0
AreByFront lists count all = (front : ℕ) → front < count → slice_index_or lists front [] ≡ filter (is_line_at front) all

-- ---- what a process does next

-- By the places of items, what the process of an item does next that is for a command; it has nothing more to do, where the place is
-- that after all.
pub record AreNext (items : List Item) (next : List ℕ) : Type 0 where
  pub each : length next ≡ length items
  pub next_is :
      (place : ℕ) (d : Item) → place < length items →
      slice_get items (slice_index next place) ≡ find (is_command_of (process_of (slice_index_or items place d))) (drop (place + 1) items)
