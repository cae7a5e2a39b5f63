-- Files with a fault each, and the fault. Records after the segment and the group begin at 45.
use Rattle.std.specs.Prelude.{ℕ, List, [], ◌∷◌, ◌++◌, replicate}
use Rattle.std.specs.List.{repeat}
use Rattle.obj_types.specs.declared.refusal.OmfRefusal.{OmfRefusal}
use Rattle.obj_types.specs.declared.refusal.OmfRefusal.TheVariants.{Short, BadChecksum, UnknownType, BadIndex, BadField, DataRange, Nested, NoThread, BadLocation, NoData, FixOverlap, DataOverFix, TooMany}
use Rattle.omf_model.specs.Examples.{names, segment, start, zero_data, fixup_record, unset_thread}

abbrev pub faults : List (List ℕ × OmfRefusal)
faults =
    -- the next record is missing; a name passes its record's end
    (start 8, Short 45)
    ∷ (start 8 ++ 0x96 ∷ 0x03 ∷ 0x00 ∷ 0x05 ∷ 0x41 ∷ 0x00 ∷ [], Short 48)
    ∷ (0x80 ∷ 0x03 ∷ 0x00 ∷ 0x01 ∷ 0x61 ∷ 0x1C ∷ [], BadChecksum 0 1)
    ∷ (start 8 ++ 0xAB ∷ 0x02 ∷ 0x00 ∷ 0x00 ∷ 0x00 ∷ [], UnknownType 45 171)
    -- SEGDEF with the name 5 of 4; a type that is not 0
    ∷ (start 8 ++ 0x98 ∷ 0x07 ∷ 0x00 ∷ 0x28 ∷ 0x04 ∷ 0x00 ∷ 0x05 ∷ 0x03 ∷ 0x01 ∷ 0x00 ∷ [], BadIndex 51 5 4)
    ∷ (start 8 ++ 0x8C ∷ 0x04 ∷ 0x00 ∷ 0x01 ∷ 0x78 ∷ 0x01 ∷ 0x00 ∷ [], BadIndex 50 1 0)
    -- the first record is no THEADR; GRPDEF with FEh in place of FFh; SEGDEF 99h, big with length 0
    ∷ (0x96 ∷ 0x02 ∷ 0x00 ∷ 0x00 ∷ 0x00 ∷ [], BadField 0)
    ∷ (start 8 ++ 0x9A ∷ 0x04 ∷ 0x00 ∷ 0x04 ∷ 0xFE ∷ 0x01 ∷ 0x00 ∷ [], BadField 49)
    ∷ (start 8 ++ 0x99 ∷ 0x09 ∷ 0x00 ∷ 0x2B ∷ 0x00 ∷ 0x00 ∷ 0x00 ∷ 0x00 ∷ 0x02 ∷ 0x03 ∷ 0x01 ∷ 0x00 ∷ [], BadField 48)
    -- 8 bytes of data for a segment of 4; more than 2^32 times 255 bytes
    ∷ (start 4 ++ zero_data, DataRange 49)
    ∷ (start 8 ++ 0xA3 ∷ 0x0C ∷ 0x01 ∷ 0x01 ∷ replicate 4 0 ++ replicate 4 0xFF ++ 0x00 ∷ 0x00 ∷ 0xFF ∷ replicate 255 0xEE ++ 0x00 ∷ [], DataRange 49)
    ∷ (start 8 ++ 0xA2 ∷ 0x48 ∷ 0x00 ∷ 0x01 ∷ 0x00 ∷ 0x00 ∷ repeat 17 (0x01 ∷ 0x00 ∷ 0x01 ∷ 0x00 ∷ []) ++ 0x00 ∷ [], Nested 115)
    ∷ (start 8 ++ zero_data ++ unset_thread, NoThread 67)
    ∷ (start 8 ++ zero_data ++ 0x9D ∷ 0x06 ∷ 0x00 ∷ 0xD0 ∷ 0x04 ∷ 0x14 ∷ 0x01 ∷ 0x01 ∷ 0x00 ∷ [], BadLocation 65 4)
    -- past the data; no data record yet
    ∷ (start 8 ++ zero_data ++ 0x9D ∷ 0x06 ∷ 0x00 ∷ 0xE4 ∷ 0x05 ∷ 0x14 ∷ 0x01 ∷ 0x01 ∷ 0x00 ∷ [], NoData 65)
    ∷ (start 8 ++ fixup_record, NoData 48)
    -- 4 to 7, then 2 to 5
    ∷ (start 8 ++ zero_data ++ 0x9D ∷ 0x0B ∷ 0x00 ∷ 0xE4 ∷ 0x04 ∷ 0x14 ∷ 0x01 ∷ 0x01 ∷ 0xE4 ∷ 0x02 ∷ 0x14 ∷ 0x01 ∷ 0x01 ∷ 0x00 ∷ [], FixOverlap 70)
    ∷ (start 8 ++ zero_data ++ fixup_record ++ zero_data, DataOverFix 75)
    -- 16,777,217 times one byte, in a segment as long
    ∷ (
      names ++ segment (0x01 ∷ 0x00 ∷ 0x00 ∷ 0x01 ∷ []) ++ 0xA3 ∷ 0x0E ∷ 0x00 ∷ 0x01 ∷ replicate 4 0
          ++ 0x01 ∷ 0x00 ∷ 0x00 ∷ 0x01 ∷ 0x00 ∷ 0x00 ∷ 0x01 ∷ 0xAA ∷ 0x00 ∷ [],
      TooMany 45,
    )
    ∷ []
