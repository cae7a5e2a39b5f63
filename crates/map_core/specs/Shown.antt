-- Publics as they are put in order: by address or by name first.
use Rattle.std.specs.Prelude.{ℕ, List}
use Rattle.std.specs.Borrow.{Bor}
use Rattle.map_model.specs.Listed.{Listed}

abbrev pub by_address : ℕ × Bor (List ℕ) → Listed
by_address p = record { number = p.0; name = p.1.now }

abbrev pub by_name : Bor (List ℕ) × ℕ → Listed
by_name p = record { number = p.1; name = p.0.now }
