-- Serial numbers by module.
use Rattle.std.specs.Prelude.{◌≡◌, ℕ, ◌<◌, List, [], ◌∷◌, length, Some, slice_index, slice_set}
use Rattle.load_model.specs.declared.deeds.Fresh.{Fresh}
use Rattle.load_model.specs.declared.deeds.Deed.{Deed}
use Rattle.load_model.specs.declared.deeds.Deed.TheVariants as deeds
use Rattle.load_model.specs.Modules.{Library}
use Rattle.load_model.specs.State.{Residence, Eager, residence_of}

-- A number for each module of a library: where a residence of the module stands in the state, it is that one's.
pub record AreSerialsOf (lib : Library) (e : Eager) (last : List ℕ) : Type 0 where
  pub count : length last ≡ length lib
  pub stand : (m : ℕ) (r : Residence) → m < length lib → residence_of e m ≡ Some r → slice_index last m ≡ r.serial

-- with the numbers of residences that begin; of a module that is there twice the first counts
abbrev pub serials_with : List Fresh → List ℕ → List ℕ
serials_with [] last = last
serials_with (f ∷ others) last = slice_set (serials_with others last) f.«module» f.serial

-- those after an entry
abbrev pub serials_after : Deed → List ℕ → List ℕ
serials_after (deeds.Enter how m fresh calls) last = serials_with fresh last
serials_after deed last = last
