use Rattle.std.proofs.Common.{refl}
use Rattle.session_model.specs.Lines.{lines_in, words_in, number_in, hex_bytes}
use Rattle.session_model.specs.Statements.{reading_of}
use Rattle.session_model.specs.Sessions.{session_of, line_fault, SesFault}
use Rattle.session_model.proofs.worked.faults_are_found.Goals as goal

pub returns : goal.returns
unfolding lines_in words_in number_in hex_bytes reading_of session_of line_fault SesFault
returns c = record { byte = refl; lone_cr = refl; statement = refl; count = refl; long_word = refl; word_fits = refl; number = refl; number_large = refl; number_fits = refl; no_digits = refl; length_0 = refl; length_large = refl; touch_large = refl; ordinal = refl; hex = refl; hex_digit = refl; number_first = refl; hex_large = refl; hex_fits = refl; debug_hex = refl; debug_large = refl; debug_number = refl; type_large = refl; id_large = refl; getres_count = refl; failing_0 = refl; failing_17 = refl; failing_count = refl; failing_late = refl; failing_both = refl; module_late = refl; no_process = refl; process_0 = refl; process_17 = refl; same_process = refl; last_command = refl; too_many = refl; all_commands = refl; one_more = refl; next_script = refl; first = refl }
