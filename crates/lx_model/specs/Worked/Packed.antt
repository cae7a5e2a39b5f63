-- Worked values: pages and the iterated data that they are written in.
use Rattle.std.specs.Prelude.{◌≡◌, [], ◌∷◌, ◌++◌, replicate, Some, None}
use Rattle.std.specs.List.{repeat}
use Rattle.lx_model.specs.Packed.{packed}

pub record WorkedPacking : Type 0 where
  -- four bytes 1,024 times, one byte 4,096 times, and no byte that is not 0
  pub pattern : packed (repeat 1024 (0xDE ∷ 0xAD ∷ 0xBE ∷ 0xEF ∷ [])) ≡ Some (0x00 ∷ 0x04 ∷ 0x04 ∷ 0x00 ∷ 0xDE ∷ 0xAD ∷ 0xBE ∷ 0xEF ∷ [])
  pub same : packed (replicate 4096 0x90) ≡ Some (0x00 ∷ 0x10 ∷ 0x01 ∷ 0x00 ∷ 0x90 ∷ [])
  pub zeros : packed (replicate 4096 0) ≡ None
  -- the shortest pattern is taken, and zeros after the last other byte are none of it
  pub shortest : packed (replicate 12 0x41 ++ replicate 4 0) ≡ Some (0x0C ∷ 0x00 ∷ 0x01 ∷ 0x00 ∷ 0x41 ∷ [])
  -- a run of 16 between bytes that stand once, among them a run of 7
  pub runs : packed (0x41 ∷ replicate 7 0x42 ++ replicate 16 0x43 ++ 0x44 ∷ 0 ∷ [])
      ≡ Some (0x01 ∷ 0x00 ∷ 0x08 ∷ 0x00 ∷ 0x41 ∷ replicate 7 0x42 ++ 0x10 ∷ 0x00 ∷ 0x01 ∷ 0x00 ∷ 0x43 ∷ 0x01 ∷ 0x00 ∷ 0x01 ∷ 0x00 ∷ 0x44 ∷ [])
  -- a run of 8 has a group of its own, also where the data get longer by it
  pub eight : packed (replicate 24 0x41 ++ 0x42 ∷ replicate 8 0x43 ++ 0x44 ∷ [])
      ≡ Some (0x18 ∷ 0x00 ∷ 0x01 ∷ 0x00 ∷ 0x41 ∷ 0x01 ∷ 0x00 ∷ 0x01 ∷ 0x00 ∷ 0x42 ∷ 0x08 ∷ 0x00 ∷ 0x01 ∷ 0x00 ∷ 0x43 ∷ 0x01 ∷ 0x00 ∷ 0x01 ∷ 0x00 ∷ 0x44 ∷ [])
  -- sixteen bytes are a pattern that stands once, which is no shorter, though their runs would be
  pub once : packed (replicate 15 0x41 ++ 0x42 ∷ []) ≡ None
  pub longer : packed (0x41 ∷ 0x42 ∷ 0x43 ∷ []) ≡ None
