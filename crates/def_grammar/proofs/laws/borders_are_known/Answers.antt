use Rattle.std.proofs.Common.{refl}
use Rattle.def_file.proofs.Compute.{computed}
use Rattle.def_grammar.proofs.laws.borders_are_known.Goals as goal

pub returns-clause-twice : goal.returns-clause-twice
unfolding computed
returns-clause-twice c =
    record {
      names = refl;
      libraries = refl;
      library_name = refl;
      descriptions = refl;
      two_codes = refl;
      two_datas = refl;
      stacks = refl;
      heaps = refl;
      bases = refl;
      exports = refl;
    }

pub returns-clause-borders : goal.returns-clause-borders
unfolding computed
returns-clause-borders c =
    record {
      second_name = refl;
      second_window = refl;
      window_of_library = refl;
      name_after_call = refl;
      call_of_program = refl;
      second_text = refl;
      identifier_as_text = refl;
      name_after_words = refl;
      class_alone = refl;
      class_after_words = refl;
      identifier_as_class = refl;
      number_of_segment = refl;
      equals_alone = refl;
      at_alone = refl;
      equals_after_ordinal = refl;
      resident_after_nodata = refl;
      second_words = refl;
      statement_as_internal = refl;
      statement_as_ordinal = refl;
      dot_alone = refl;
      two_names = refl;
      statement_as_entry = refl;
      second_equals = refl;
      second_number = refl;
      no_equals = refl;
      name_after_mode = refl;
      statement_as_type = refl;
    }
