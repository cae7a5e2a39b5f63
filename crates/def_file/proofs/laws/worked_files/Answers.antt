use Rattle.std.proofs.Common.{refl}
use Rattle.def_file.proofs.Compute.{computed}
use Rattle.def_file.proofs.laws.worked_files.Goals as goal

pub returns-clause-read : goal.returns-clause-read
unfolding computed
returns-clause-read c = record { empty = refl; program = refl; library = refl; exports = refl; imports = refl; segments = refl }

pub returns-clause-refused : goal.returns-clause-refused
unfolding computed
returns-clause-refused c =
    record {
      no_number = refl;
      unclosed = refl;
      alone = refl;
      stub = refl;
      after_item = refl;
      ended = refl;
      empty_name = refl;
      by_ordinal = refl;
      text_for_number = refl;
      ordinal = refl;
      words = refl;
      stack = refl;
      heap = refl;
      base = refl;
      pair = refl;
      calls = refl;
      two_names = refl;
      both = refl;
      two_lists = refl;
      long_name = refl;
    }
