-- Ends that are counted up to 16 MiB, and one logical segment where its parts are known.
use Rattle.std.specs.Prelude.{ℕ, ◌+◌, List, Option, Some, None, max, if◌then◌else◌, nat_lt}
use Rattle.std.specs.Int.{next_multiple_of}
use Rattle.link_model.specs.declared.limits.TheConstants.{MAX_MEMORY}
use Rattle.link_model.specs.Parts.{Part, is_common}
use Rattle.link_model.specs.Rows.{aligned, end_of_parts, greatest_alignment, longest}

-- An end, unless it passes 16 MiB.
abbrev pub limited : ℕ → Option ℕ
limited end = if nat_lt MAX_MEMORY end then None else Some end

-- The start of a logical segment of these parts, after what ends at `at`.
abbrev pub start_of : ℕ → Part → List Part → ℕ
start_of at s ps = if is_common s then next_multiple_of at (greatest_alignment ps) else aligned at s

-- Its end, at least so many bytes after its start.
abbrev pub end_of : ℕ → Part → List Part → ℕ → ℕ
end_of start s ps least =
    max (if is_common s then start + longest ps else end_of_parts start ps) (start + least)
