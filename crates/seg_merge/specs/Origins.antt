-- Origins of parts, and where parts stand in their logical segments.
use Rattle.std.specs.Prelude.{◌≡◌, ℕ, ◌<◌, false, AllPairs, take, length, get_or}
use Rattle.link_model.specs.Link.{Link}
use Rattle.link_model.specs.Parts.{Part, same_origin, is_common}
use Rattle.link_model.specs.Communals.{parts}
use Rattle.link_model.specs.Order.{parts_of}
use Rattle.link_model.specs.Rows.{Row, aligned, end_of_parts, offset_in}

-- No two parts of a link have the same origin.
abbrev pub OriginsApart : Type 0
OriginsApart = (l : Link) → AllPairs (λ a b. same_origin a.origin b.origin ≡ false) (parts l)

-- Each part of a logical segment that is not common stands after those before it.
abbrev pub OffsetsAre : Type 0
OffsetsAre =
    (l : Link) (r : Row) (i : ℕ) (d : Part) → i < length (parts_of l r.segment) → is_common r.segment ≡ false
    → offset_in l r (get_or (parts_of l r.segment) i d)
    ≡ aligned (end_of_parts r.start (take i (parts_of l r.segment))) (get_or (parts_of l r.segment) i d)
