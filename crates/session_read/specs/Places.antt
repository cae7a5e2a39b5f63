-- Bytes of an object of a module.
use Rattle.std.specs.Prelude.{ℕ, List}
use Rattle.load_model.specs.declared.commands.Place.{Place}
use Rattle.session_model.specs.Statements.{place_of}
use Rattle.session_read.specs.declared.places.Span.{Span}

abbrev pub placed : List ℕ → Span → Place
placed name s = place_of name s.object s.offset s.len
