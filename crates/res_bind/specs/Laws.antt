-- What the definitions say together.
use Rattle.std.specs.Prelude.{◌≡◌, ℕ, ◌+◌, ◌<◌, ◌&&◌, Bool, false, List, length, nat_le, nat_lt, slice_index}
use Rattle.std.specs.List.{list_any}
use Rattle.res_model.specs.declared.item.ResItem.{ResItem}
use Rattle.res_model.specs.Bound.{bound_file}
use Rattle.res_model.specs.Clear.{set_parts}
use Rattle.res_bind.specs.Numbers.{HasHeader}

-- a place lies in one of the header's fields that are set
abbrev pub is_set : List ℕ → ℕ → Bool
is_set file x = list_any (λ p. nat_le p.at x && nat_lt x (p.at + p.len)) (set_parts file)

-- Every other byte of the old file stands where it stood.
abbrev pub OldBytesStand : Type 0
OldBytesStand = (file : List ℕ) (items : List ResItem) (x : ℕ) → HasHeader file → x < length file → is_set file x ≡ false →
    slice_index (bound_file file items) x ≡ slice_index file x
