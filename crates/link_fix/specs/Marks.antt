-- Marks on the bytes of objects.
use Rattle.std.specs.Prelude.{◌≡◌, ℕ, zero, suc, ◌+◌, ◌<◌, Bool, false, not, ◌||◌, List, if◌then◌else◌, ◌==◌, map}
use Rattle.std.specs.List.{list_any}
use Rattle.obj_types.specs.Location.{location_len}
use Rattle.link_model.specs.Mean.{fixup_covers}
use Rattle.link_fix.specs.declared.fixup.Fixup.{Fixup}
use Rattle.link_fix.specs.declared.images.Images.{Images}
use Rattle.link_fix.specs.Images.{byte_of}
use Rattle.link_fix.specs.Shown.{shown}

-- One of n bytes from x on has a mark.
abbrev pub any_mark : (ℕ → ℕ) → ℕ → ℕ → Bool
any_mark mark x zero = false
any_mark mark x (suc n) = not (mark x == 0) || any_mark mark (x + 1) n

-- A byte has a mark exactly where one of these fixups covers it.
abbrev pub AreMarked : Images → List Fixup → Type 0
AreMarked marks qs =
    (n : ℕ) (x : ℕ) → byte_of marks n x ≡ (if list_any (fixup_covers n x) (map shown qs) then 1 else 0)

-- A location that there is.
abbrev pub HasBytes : Fixup → Type 0
HasBytes q = 0 < location_len q.loc
