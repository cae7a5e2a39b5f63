-- Worked values of the line.
use Rattle.std.specs.Prelude.{◌≡◌, [], ◌∷◌, ◌++◌, codes, slice_index}
use Rattle.gen_model.specs.Sums.{word_at, totals_line}

pub record WorkedSums : Type 0 where
  -- the lowest byte stands first
  pub word : word_at (slice_index (9 ∷ 1 ∷ 2 ∷ 3 ∷ 4 ∷ [])) 1 ≡ 0x04030201
  pub line : totals_line (record { modules = 2; pages = 4; sources = 4096; sum = 150921216 })
      ≡ codes "gen 2 modules 2 pages 4 sources 4096 sum 150921216" ++ 10 ∷ []
