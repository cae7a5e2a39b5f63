-- Files with COMDATs, as bytes, and what they mean.
use Rattle.std.specs.Prelude.{ℕ, List, [], ◌∷◌, ◌++◌, false, codes}
use Rattle.obj_types.specs.declared.object.Selection.TheVariants.{Any}
use Rattle.obj_types.specs.declared.object.ObjModule.{ObjModule}
use Rattle.obj_types.specs.declared.refusal.OmfRefusal.{OmfRefusal}
use Rattle.obj_types.specs.declared.refusal.OmfRefusal.TheVariants.{BadField, BadIndex, DataRange}
use Rattle.obj_types.specs.declared.symbol.Pub.{Pub}
use Rattle.obj_types.specs.declared.symbol.PubPlace.TheVariants.{In}
use Rattle.obj_types.specs.Fresh.{empty_module}
use Rattle.omf_model.specs.Examples.{start, code_segment, module_a}

-- THEADR a; LNAMES with the empty name and f.
abbrev pub begin : List ℕ
begin = 0x80 ∷ 0x03 ∷ 0x00 ∷ 0x01 ∷ 0x61 ∷ 0x00 ∷ 0x96 ∷ 0x04 ∷ 0x00 ∷ 0x00 ∷ 0x01 ∷ 0x66 ∷ 0x00 ∷ []

-- COMDAT f: any may stand, code32, doubleword, AA BB CC DD at 0.
abbrev pub four_bytes : List ℕ
four_bytes = 0xC3 ∷ 0x0E ∷ 0x00 ∷ 0x00 ∷ 0x13 ∷ 0x05 ∷ 0x00 ∷ 0x00 ∷ 0x00 ∷ 0x00 ∷ 0x00 ∷ 0x02 ∷ 0xAA ∷ 0xBB ∷ 0xCC ∷ 0xDD ∷ 0x00 ∷ []

abbrev pub public_f : ℕ → Pub
public_f seg = record { name = codes "f"; local = false; place = In seg 0 }

abbrev pub with_four_bytes : ObjModule
with_four_bytes = record empty_module {
  name = codes "a";
  segs = code_segment 4 ∷ [];
  pubs = public_f 1 ∷ [];
  pieces = (record { seg = 1; offset = 0; bytes = 0xAA ∷ 0xBB ∷ 0xCC ∷ 0xDD ∷ [] }) ∷ [];
  comdats = (record { name = codes "f"; seg = 1; selection = Any }) ∷ [];
}

-- ---- a segment of 8 bytes, and a COMDAT named CODE in two records, the second of which is a continuation at 4

-- Explicit: in the group FLAT, as the segment, with its alignment.
abbrev pub first_part : List ℕ
first_part = 0xC2 ∷ 0x0C ∷ 0x00 ∷ 0x00 ∷ 0x10 ∷ 0x00 ∷ 0x00 ∷ 0x00 ∷ 0x00 ∷ 0x01 ∷ 0x01 ∷ 0x03 ∷ 0xAA ∷ 0xBB ∷ 0x00 ∷ []

abbrev pub second_part : List ℕ
second_part = 0xC2 ∷ 0x0B ∷ 0x00 ∷ 0x01 ∷ 0x10 ∷ 0x00 ∷ 0x04 ∷ 0x00 ∷ 0x00 ∷ 0x01 ∷ 0x01 ∷ 0x03 ∷ 0xCC ∷ 0x00 ∷ []

-- The COMDAT's segment stands after one that comes later in the file.
abbrev pub other_segment : List ℕ
other_segment = 0x99 ∷ 0x09 ∷ 0x00 ∷ 0xA9 ∷ 0x02 ∷ 0x00 ∷ 0x00 ∷ 0x00 ∷ 0x02 ∷ 0x03 ∷ 0x01 ∷ 0x00 ∷ []

abbrev pub in_two_parts : ObjModule
in_two_parts = record (module_a 8 [] []) {
  segs = code_segment 8 ∷ code_segment 2 ∷ code_segment 5 ∷ [];
  pubs = (record { name = codes "CODE"; local = false; place = In 3 0 }) ∷ [];
  pieces =
      (record { seg = 3; offset = 0; bytes = 0xAA ∷ 0xBB ∷ [] })
      ∷ (record { seg = 3; offset = 4; bytes = 0xCC ∷ [] }) ∷ [];
  comdats = (record { name = codes "CODE"; seg = 3; selection = Any }) ∷ [];
}

-- ---- a file for each fault. The records after the segment and the group begin at 45.

-- One record with these contents, and what is told.
abbrev pub faults : List (List ℕ × OmfRefusal)
faults =
    -- iterated data; a flag that is none; selection 4; allocation 5; alignment 6
    (start 8 ++ 0xC2 ∷ 0x02 ∷ 0x00 ∷ 0x02 ∷ 0x00 ∷ [], BadField 48)
    ∷ (start 8 ++ 0xC2 ∷ 0x02 ∷ 0x00 ∷ 0x10 ∷ 0x00 ∷ [], BadField 48)
    ∷ (start 8 ++ 0xC2 ∷ 0x03 ∷ 0x00 ∷ 0x00 ∷ 0x40 ∷ 0x00 ∷ [], BadField 49)
    ∷ (start 8 ++ 0xC2 ∷ 0x03 ∷ 0x00 ∷ 0x00 ∷ 0x05 ∷ 0x00 ∷ [], BadField 49)
    ∷ (start 8 ++ 0xC2 ∷ 0x04 ∷ 0x00 ∷ 0x00 ∷ 0x03 ∷ 0x06 ∷ 0x00 ∷ [], BadField 50)
    -- segment 0; segment 2 of 1; a continuation of none, whose data is past the limit
    ∷ (start 8 ++ 0xC2 ∷ 0x09 ∷ 0x00 ∷ 0x00 ∷ 0x10 ∷ 0x00 ∷ 0x00 ∷ 0x00 ∷ 0x00 ∷ 0x00 ∷ 0x00 ∷ 0x00 ∷ [], BadField 55)
    ∷ (start 8 ++ 0xC2 ∷ 0x09 ∷ 0x00 ∷ 0x00 ∷ 0x10 ∷ 0x00 ∷ 0x00 ∷ 0x00 ∷ 0x00 ∷ 0x00 ∷ 0x02 ∷ 0x00 ∷ [], BadIndex 55 2 1)
    ∷ (start 8 ++ 0xC3 ∷ 0x0B ∷ 0x00 ∷ 0x01 ∷ 0x13 ∷ 0x05 ∷ 0x00 ∷ 0x00 ∷ 0x00 ∷ 0x01 ∷ 0x00 ∷ 0x03 ∷ 0xAA ∷ 0x00 ∷ [], BadField 45)
    -- one byte past the limit; a second record that is no continuation
    ∷ (start 8 ++ 0xC3 ∷ 0x0B ∷ 0x00 ∷ 0x00 ∷ 0x13 ∷ 0x05 ∷ 0x00 ∷ 0x00 ∷ 0x00 ∷ 0x01 ∷ 0x00 ∷ 0x03 ∷ 0xAA ∷ 0x00 ∷ [], DataRange 51)
    ∷ (start 8 ++ first_part ++ first_part, BadField 60)
    ∷ []
