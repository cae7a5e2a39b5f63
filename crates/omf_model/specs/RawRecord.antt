-- Reading the bytes of a record. "Record Format".
use Rattle.omf_frame.specs.declared.refusal.FrameRefusal.{FrameRefusal}
use Rattle.omf_frame.specs.declared.refusal.FrameRefusal.TheVariants as framing
use Rattle.std.specs.Prelude.{ℕ, ◌+◌, ◌-◌, Bool, ◌&&◌, ◌||◌, not, List, length, take, drop, slice_index, Result, Ok, Err, nat_le, ◌==◌, if◌then◌else◌}
use Rattle.lx_bytes.specs.Cursor.{Cursor, advance}
use Rattle.lx_bytes.specs.LittleEndian.{little}
use Rattle.omf_frame.specs.RecordType.{is_record_type}
use Rattle.omf_frame.specs.Frame.{record_sum}
use Rattle.obj_types.specs.declared.refusal.OmfRefusal.{OmfRefusal}
use Rattle.obj_types.specs.declared.refusal.OmfRefusal.TheVariants.{Short, BadChecksum, UnknownType}
use Rattle.lx_types.specs.Answers.{◌>>=◌}
use Rattle.omf_fields.specs.Fields.{check}

-- A record's bytes: its first place, its type, its contents, its checksum byte, and what is after it.
pub record RawRecord : Type 0 where
  pub at : ℕ
  pub ty : ℕ
  pub contents : List ℕ
  pub checksum : ℕ
  pub after : Cursor

-- The bytes of a record with this length word: a type byte, the word, contents and a checksum byte.
abbrev pub raw_of : ℕ → Cursor → RawRecord
raw_of len c = record {
  at = c.at;
  ty = slice_index c.left 0;
  contents = take (len - 1) (drop 3 c.left);
  checksum = slice_index c.left (len + 2);
  after = advance (3 + len) c;
}

-- A record that is cut off, or one of length 0, is Short at its first byte.
abbrev pub is_whole : ℕ → List ℕ → Bool
is_whole len bytes = nat_le 3 (length bytes) && not (len == 0) && nat_le (3 + len) (length bytes)

unfoldable pub whole_at : Cursor → Result RawRecord OmfRefusal
whole_at c =
    let len : ℕ = little (take 2 (drop 1 c.left)) in
    if is_whole len c.left then Ok (raw_of len c) else Err (Short c.at)

abbrev pub sum_of : RawRecord → ℕ
sum_of f = record_sum f.ty f.contents f.checksum

-- The next record's bytes: whole, of a known type, and with all bytes' sum 0 modulo 256 or a checksum 0.
unfoldable pub raw_at : Cursor → Result RawRecord OmfRefusal
raw_at c = do
  f ← whole_at c
  _ ← check (is_record_type f.ty) (UnknownType c.at f.ty)
  _ ← check (f.checksum == 0 || sum_of f == 0) (BadChecksum c.at (sum_of f))
  Ok f

-- A frame's refusal as one of the file.
abbrev pub as_omf : FrameRefusal → OmfRefusal
as_omf (framing.Short at) = Short at
as_omf (framing.UnknownType at ty) = UnknownType at ty
as_omf (framing.BadChecksum at total) = BadChecksum at total
