-- What "least" means.
use Rattle.std.specs.Prelude.{◌≡◌, ℕ, ◌%◌, ◌≤◌, false, List, find, MatchOption, IsTrue}
use Rattle.lx_types.specs.declared.limits.TheConstants.{BASE_UNIT}
use Rattle.base_pick.specs.declared.occupied.AddressRange.{AddressRange}
use Rattle.base_pick.specs.Places.{is_place, bases_in}

pub record IsLeastPlace (arena : AddressRange) (occupied : List AddressRange) (size base : ℕ) : Type 0 where
  pub free : IsTrue (is_place arena occupied size base)
  pub least : (other : ℕ) → IsTrue (is_place arena occupied size other) → base ≤ other

-- The place that is found is the least free one, and none is found exactly where no place is free.
abbrev pub LeastIsFound : Type 0
LeastIsFound =
    (arena : AddressRange) (occupied : List AddressRange) (size : ℕ) → arena.from % BASE_UNIT ≡ 0 →
    MatchOption (find (is_place arena occupied size) (bases_in arena)) ((other : ℕ) → is_place arena occupied size other ≡ false)
    (IsLeastPlace arena occupied size)
