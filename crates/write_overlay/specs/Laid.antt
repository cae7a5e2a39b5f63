-- Bytes of an object under what was written to it.
use Rattle.std.specs.Prelude.{ℕ, ◌+◌, ◌-◌, ◌==◌, ◌&&◌, List, map, filter, length, nat_le, nat_lt, slice_index, if◌then◌else◌, unwrap_or}
use Rattle.std.specs.List.{range_with_len}
use Rattle.load_model.specs.State.{Written}
use Rattle.load_model.specs.Memory.{last_put, put_at}
use Rattle.write_overlay.specs.declared.write.Write.TheInside.{Inside}

abbrev pub written_of : Inside → Written
written_of w = record { object = w.object; offset = w.offset; bytes = w.bytes }

-- those of the writes that are to an object
abbrev pub writes_to : ℕ → List Written → List Written
writes_to object writes = filter (λ w. w.object == object) writes

-- The bytes of an object from an offset on, where these are what it held before the writes, the oldest of which is the first.
abbrev pub bytes_under : List Written → ℕ → ℕ → List ℕ → List ℕ
bytes_under writes object offset before =
    map (λ x. last_put (writes_to object writes) x (slice_index before (x - offset))) (range_with_len offset (length before))

-- byte k from an offset on, after one write
abbrev pub byte_under : Written → ℕ → ℕ → ℕ → ℕ
byte_under w offset k before = unwrap_or (put_at (offset + k) w) before

-- byte k where a run took the place of others
abbrev pub replaced : ℕ → List ℕ → List ℕ → ℕ → ℕ
replaced place run before k = if nat_le place k && nat_lt k (place + length run) then slice_index run (k - place) else slice_index before k
