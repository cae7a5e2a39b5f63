-- What the code holds of a line's words, as words.
use Rattle.session_read.specs.declared.arguments.TwoArguments.{TwoArguments}
use Rattle.session_read.specs.declared.arguments.ThreeArguments.{ThreeArguments}
use Rattle.session_read.specs.declared.arguments.FourArguments.{FourArguments}
use Rattle.session_read.specs.Arguments.{Two, Three, Four}

abbrev pub two_seen : TwoArguments → Two
two_seen a = record { first = a.first.now; second = a.second.now }

abbrev pub three_seen : ThreeArguments → Three
three_seen a = record { first = a.first.now; second = a.second.now; third = a.third.now }

abbrev pub four_seen : FourArguments → Four
four_seen a = record { name = a.name.now; object = a.object.now; offset = a.offset.now; last = a.last.now }
