-- What the statements of a definition file say so far.
use Rattle.std.specs.Prelude.{[], None, Result, Ok}
use Rattle.def_model.specs.declared.refusal.DefKind.{DefKind}
use Rattle.def_model.specs.declared.draft.Words.{Words}
use Rattle.def_model.specs.declared.draft.Draft.{Draft}
use Rattle.def_model.specs.declared.draft.Place.{Place}
use Rattle.def_model.specs.declared.draft.Place.TheVariants as place
use Rattle.def_model.specs.declared.draft.Reading.{Reading}

-- A list without attribute words.
abbrev pub no_words : Words
no_words = record { write = None; read = None; shared = None; preload = None; conforming = None; iopl = None }

abbrev pub no_statements : Draft
no_statements =
    record {
      kind = None;
      name = None;
      init_each = None;
      term_each = None;
      about = None;
      stack = None;
      heap = None;
      base = None;
      code = None;
      plain = None;
      segs = [];
      exports = [];
      imports = [];
    }

-- What the statements so far say, and the place that is reached.
abbrev pub reading : Draft → Place → Reading
reading d p = record { draft = d; place = p }

-- Before the first token.
abbrev pub fresh : Reading
fresh = record { draft = no_statements; place = place.Statement }

-- The next token may stand after a place.
abbrev pub at : Draft → Place → Result Reading DefKind
at d p = Ok (record { draft = d; place = p })
