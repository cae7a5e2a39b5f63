-- Contents with two faults each, and the one that is told. They begin at 3, in a record that begins at 0.
use Rattle.std.specs.Prelude.{ℕ, List, [], ◌∷◌, true, codes}
use Rattle.std.specs.List.{AllByRecursion}
use Rattle.obj_types.specs.declared.refusal.OmfRefusal.{OmfRefusal}
use Rattle.obj_types.specs.declared.refusal.OmfRefusal.TheVariants.{Short, UnknownType, BadIndex, BadField, DataRange, NoThread, BadLocation, NoData}
use Rattle.obj_types.specs.declared.object.Seg.{Seg}
use Rattle.obj_types.specs.declared.parts.LastData.TheVariants as datas
use Rattle.obj_types.specs.declared.parts.ObjParts.{ObjParts}
use Rattle.obj_types.specs.Fresh.{empty_module, fresh_parts}
use Rattle.omf_model.specs.Examples.{code_segment, fix_at}
use Rattle.omf_faults.specs.WrongContents.{WrongContents}

-- Four names, a segment of 8 bytes, a debug segment, and no group. The last data record fills the segment, and a fixup is on
-- its bytes 4 to 7.
abbrev pub symbols_segment : Seg
symbols_segment = record (code_segment 8) { name = codes "$$SYMBOLS"; class = codes "DEBSYM"; debug = true }

abbrev pub some_parts : ObjParts
some_parts = record fresh_parts {
  names = [] ∷ codes "CODE32" ∷ codes "CODE" ∷ codes "FLAT" ∷ [];
  «module» = record empty_module { segs = code_segment 8 ∷ symbols_segment ∷ []; fixes = fix_at 9 4 ∷ [] };
  last = datas.Straight 1 0 8;
}

-- A type, contents, and what is told.
abbrev pub two_faults : List (ℕ × List ℕ × OmfRefusal)
two_faults =
    -- SEGDEF: alignment 6, and nothing after it; a big length that is cut off; a big length of 0, and the name 9 of 4
    (0x98, 0xC0 ∷ [], BadField 3)
    ∷ (0x99, 0x2B ∷ 0x00 ∷ 0x00 ∷ [], Short 4)
    ∷ (0x99, 0x2B ∷ 0x00 ∷ 0x00 ∷ 0x00 ∷ 0x00 ∷ 0x09 ∷ [], BadField 3)
    -- GRPDEF: the name 9 of 4, and FEh; FEh, and no index
    ∷ (0x9A, 0x09 ∷ 0xFE ∷ [], BadIndex 3 9 4)
    ∷ (0x9A, 0x04 ∷ 0xFE ∷ [], BadField 4)
    -- PUBDEF: group 5 of none, and segment 9 of 2; the debug segment, and a name that is cut off
    ∷ (0x90, 0x05 ∷ 0x09 ∷ [], BadIndex 3 5 0)
    ∷ (0x90, 0x00 ∷ 0x02 ∷ 0x09 ∷ [], BadIndex 4 2 2)
    -- EXTDEF: a type, and a second name that is cut off
    ∷ (0x8C, 0x01 ∷ 0x78 ∷ 0x01 ∷ 0x05 ∷ [], BadIndex 5 1 0)
    -- COMDEF: so many elements that any size would be too long, and a size that is none; a size over the limit, and a second
    -- name that is cut off
    ∷ (0xB0, 0x01 ∷ 0x78 ∷ 0x00 ∷ 0x61 ∷ 0x88 ∷ 0x00 ∷ 0x00 ∷ 0x00 ∷ 0xFF ∷ 0x90 ∷ [], BadField 12)
    ∷ (0xB0, 0x01 ∷ 0x78 ∷ 0x00 ∷ 0x62 ∷ 0x88 ∷ 0x01 ∷ 0x00 ∷ 0x00 ∷ 0x01 ∷ 0x09 ∷ [], BadField 7)
    -- IMPDEF: an empty module name, and no entry after it. EXPDEF: an empty name, and an internal one that is cut off
    ∷ (0x88, 0x00 ∷ 0xA0 ∷ 0x01 ∷ 0x00 ∷ 0x00 ∷ 0x00 ∷ [], BadField 8)
    ∷ (0x88, 0x00 ∷ 0xA0 ∷ 0x02 ∷ 0x00 ∷ 0x00 ∷ 0x05 ∷ [], BadField 7)
    -- LEDATA: past the segment, and on the fixup
    ∷ (0xA0, 0x01 ∷ 0x04 ∷ 0x00 ∷ 0x01 ∷ 0x02 ∷ 0x03 ∷ 0x04 ∷ 0x05 ∷ [], DataRange 4)
    -- LIDATA: nine times two bytes, past the segment, of which the second is cut off
    ∷ (0xA2, 0x01 ∷ 0x00 ∷ 0x00 ∷ 0x09 ∷ 0x00 ∷ 0x00 ∷ 0x00 ∷ 0x02 ∷ 0xAA ∷ [], Short 11)
    -- COMDAT: iterated, and nothing after it; selection 4, allocation 5 and alignment 6, and nothing after each; a type, and no
    -- base; group 5 of none, and segment 9 of 2; segment 0, segment 9 of 2 and the debug segment, and no name
    ∷ (0xC2, 0x02 ∷ [], BadField 3)
    ∷ (0xC2, 0x00 ∷ 0x40 ∷ [], BadField 4)
    ∷ (0xC2, 0x00 ∷ 0x05 ∷ [], BadField 4)
    ∷ (0xC2, 0x00 ∷ 0x10 ∷ 0x06 ∷ [], BadField 5)
    ∷ (0xC2, 0x00 ∷ 0x10 ∷ 0x00 ∷ 0x00 ∷ 0x00 ∷ 0x01 ∷ [], BadIndex 8 1 0)
    ∷ (0xC2, 0x00 ∷ 0x10 ∷ 0x00 ∷ 0x00 ∷ 0x00 ∷ 0x00 ∷ 0x05 ∷ 0x09 ∷ [], BadIndex 9 5 0)
    ∷ (0xC2, 0x00 ∷ 0x10 ∷ 0x00 ∷ 0x00 ∷ 0x00 ∷ 0x00 ∷ 0x00 ∷ 0x00 ∷ [], BadField 10)
    ∷ (0xC2, 0x00 ∷ 0x10 ∷ 0x00 ∷ 0x00 ∷ 0x00 ∷ 0x00 ∷ 0x00 ∷ 0x09 ∷ [], BadIndex 10 9 2)
    ∷ (0xC2, 0x00 ∷ 0x10 ∷ 0x00 ∷ 0x00 ∷ 0x00 ∷ 0x00 ∷ 0x00 ∷ 0x02 ∷ [], BadIndex 10 2 2)
    -- a continuation of none, past the limit
    ∷ (0xC3, 0x01 ∷ 0x13 ∷ 0x05 ∷ 0x00 ∷ 0x00 ∷ 0x00 ∷ 0x01 ∷ 0x00 ∷ 0x02 ∷ 0xAA ∷ [], BadField 0)
    ∷ (0xC3, 0x00 ∷ 0x13 ∷ 0x05 ∷ 0x00 ∷ 0x00 ∷ 0x00 ∷ 0x01 ∷ 0x00 ∷ 0x02 ∷ 0xAA ∷ [], DataRange 6)
    -- FIXUPP: a THREAD of the frame method 3, and no index; location 4, and no second byte; a thread that is not set, and the target
    -- method 3; the group 1 of none, on the fixup; past the data, and on the fixup
    ∷ (0x9D, 0x4C ∷ [], BadField 3)
    ∷ (0x9D, 0x90 ∷ [], BadLocation 3 4)
    ∷ (0x9D, 0xE4 ∷ 0x04 ∷ 0x83 ∷ [], NoThread 5)
    ∷ (0x9D, 0xE4 ∷ 0x04 ∷ 0x14 ∷ 0x01 ∷ 0x01 ∷ [], BadIndex 6 1 0)
    ∷ (0x9D, 0xE4 ∷ 0x06 ∷ 0x54 ∷ 0x01 ∷ [], NoData 3)
    -- MODEND: a thread that is not set, and the target method 3
    ∷ (0x8A, 0x40 ∷ 0x83 ∷ [], NoThread 4)
    -- no type, and no contents
    ∷ (0xAB, [], UnknownType 0 171)
    ∷ []

abbrev pub IsTold : ℕ × List ℕ × OmfRefusal → Type 0
IsTold row = WrongContents row.0 some_parts 0 (record { at = 3; left = row.1 }) row.2

abbrev pub EachIsTold : Type 0
EachIsTold = AllByRecursion IsTold two_faults
