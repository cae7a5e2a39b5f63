-- Iterated data: groups of bytes that are repeated, and what they give.
-- "32-bit Linear eXecutable Module Format": "Iterated Data Pages".
use Rattle.std.specs.Prelude.{ℕ, ◌+◌, ◌*◌, ◌<◌, ◌^◌, ◌==◌, List, ◌++◌, length, Some, Result, Ok, Err, nat_lt, if◌then◌else◌}
use Rattle.std.specs.List.{repeat, flat_map}
use Rattle.lx_bytes.specs.Cursor.{Cursor}
use Rattle.lx_bytes.specs.LittleEndian.{little_bytes}
use Rattle.lx_types.specs.declared.refusal.LxRefusal.{LxRefusal}
use Rattle.lx_types.specs.declared.refusal.LxKind.TheVariants.{TooLong}
use Rattle.lx_types.specs.declared.object.TheConstants.{PAGE_SIZE}
use Rattle.lx_model.specs.Reading.{fault, cursor, text, number, Read, ◌>>=◌, Step, ends, many, whole}

-- ---- what is written

-- bytes, and how many times they stand there
pub record Group : Type 0 where
  pub times : ℕ
  pub bytes : List ℕ

-- a count word, a length word, and the bytes
abbrev pub group_spelling : Group → List ℕ
group_spelling g = little_bytes 2 g.times ++ little_bytes 2 (length g.bytes) ++ g.bytes

abbrev pub groups_spelling : List Group → List ℕ
groups_spelling gs = flat_map group_spelling gs

-- the bytes that the groups give
abbrev pub group_data : Group → List ℕ
group_data g = repeat g.times g.bytes

abbrev pub groups_data : List Group → List ℕ
groups_data gs = flat_map group_data gs

-- what has a spelling
pub record GroupFits (g : Group) : Type 0 where
  pub times : g.times < 2 ^ 16
  pub bytes : length g.bytes < 2 ^ 16

-- ---- what is read

-- a count word, a length word, and as many bytes
unfoldable pub group_fields : Cursor → Read Group
group_fields c = do
  times ← number 2 c
  len ← number 2 times.1
  bytes ← text len.0 len.1
  Ok (record { times = times.0; bytes = bytes.0 }, bytes.1)

-- a fault of a part stands where the whole begins
abbrev pub fault_at : {A : Type 0} → ℕ → Result A LxRefusal → Result A LxRefusal
fault_at at (Ok x) = Ok x
fault_at at (Err e) = Err (fault e.kind at)

-- A group, of so many bytes that are given before it. One that passes the end of the data is short; then one
-- with which there are more bytes than a page has is too long. The data ends with its last group.
unfoldable pub group_at : Step ℕ Group
group_at before c =
    if length c.left == 0 then ends c else do
      group ← fault_at c.at (group_fields c)
      let given = before + group.0.times * length group.0.bytes in
          if nat_lt PAGE_SIZE given then Err (fault TooLong c.at) else Ok (Some (group.0, given), group.1)

-- the bytes that iterated data gives; places are places in the data
abbrev pub expansion : List ℕ → Result (List ℕ) LxRefusal
expansion bytes = whole (many group_at 0 (cursor 0 bytes)) >>= λ groups. Ok (groups_data groups)
