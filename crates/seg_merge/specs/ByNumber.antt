-- Rows by the numbers of their logical segments.
use Rattle.std.specs.Prelude.{ℕ, List, get_or}
use Rattle.link_model.specs.Order.{own_stack}
use Rattle.link_model.specs.Rows.{Row}

abbrev pub no_row : Row
no_row = record { segment = own_stack; object = 0; start = 0; end = 0 }

-- The first of the rows at these places.
abbrev pub row_at : List Row → List ℕ → Row
row_at rows places = get_or rows (get_or places 0 0) no_row
