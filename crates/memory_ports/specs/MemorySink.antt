-- A sink in memory, and the puts of it that are to fail.
use Rattle.std.specs.Prelude.{◌≡◌, ℕ, ◌-◌, ◌≤◌, min, List, [], length, Contains, if◌then◌else◌, ◌==◌}
use Rattle.lx_ports.specs.Counts.{next}
use Rattle.memory_ports.specs.declared.memory_sink.MemSink.{MemSink}

-- The bytes that it took.
abbrev pub text_of : MemSink → List ℕ
text_of sink = sink.bytes.items

-- It took nothing yet, with this room, at most this much of a piece, and these puts to fail.
pub record IsNew (sink : MemSink) (room most : ℕ) (failing : List ℕ) : Type 0 where
  pub nothing : text_of sink ≡ []
  pub puts : sink.puts ≡ 0
  pub room_is : sink.room ≡ room
  pub most_is : sink.most ≡ most
  pub failing_is : sink.failing.items ≡ failing

-- It has no room left.
abbrev pub IsFull : MemSink → Type 0
IsFull sink = sink.room ≤ length (text_of sink)

-- How much it takes of a piece of this size.
abbrev pub share : MemSink → ℕ → ℕ
share sink size = min (min size sink.most) (sink.room - length (text_of sink))

-- The next put of a piece that is not empty is one of those that are to fail.
abbrev pub PutIsToFail : MemSink → Type 0
PutIsToFail sink = Contains sink.failing.items (next sink.puts)

-- The put of a piece of this size has been counted, unless it was empty, and all else is as it was.
pub record IsOnePutLater (size : ℕ) (old new : MemSink) : Type 0 where
  pub puts : new.puts ≡ (if size == 0 then old.puts else next old.puts)
  pub room : new.room ≡ old.room
  pub most : new.most ≡ old.most
  pub failing : new.failing.items ≡ old.failing.items
