use Rattle.std.proofs.Common.{refl}
use Rattle.session_model.specs.Lines.{lines_in, words_in, number_in, hex_bytes}
use Rattle.session_model.specs.Statements.{reading_of}
use Rattle.session_model.specs.Sessions.{session_of, line_fault, SesFault}
use Rattle.session_model.proofs.worked.sessions_are_read.Goals as goal

pub returns : goal.returns
unfolding lines_in words_in number_in hex_bytes reading_of session_of line_fault SesFault
returns c = record { one = record { good = refl; says = refl }; empty = record { good = refl; says = refl }; kinds = record { good = refl; says = refl } }
