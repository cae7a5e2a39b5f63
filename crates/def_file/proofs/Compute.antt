-- The reading of whole files, computed.
use Rattle.std.proofs.Common.{ℕ, List, Result}
use Rattle.obj_types.specs.declared.definition.DefFile.{DefFile}
use Rattle.def_model.specs.Tokens.{tokens_after}
use Rattle.def_model.specs.declared.refusal.DefRefusal.{DefRefusal}
use Rattle.def_model.specs.Attributes.{with_word}
use Rattle.def_model.specs.Statements.{keyword_statement, statement, program_name, program, library_words, library, description, sized, size, base, exe_type}
use Rattle.def_model.specs.Segments.{segments, after_list, attributes, segment, class}
use Rattle.def_model.specs.Exports.{exports, after_nodata, after_resident, after_ordinal, after_internal, after_name, export, internal, ordinal}
use Rattle.def_model.specs.Imports.{imports, import_first, import_equals, import_module, import_dot}
use Rattle.def_model.specs.Reading.{token_at, step, read_of}

-- Names what a file's reading computes by.
unfoldable pub computed : List ℕ → Result DefFile DefRefusal
unfolding tokens_after with_word keyword_statement statement program_name program library_words library description sized size base exe_type segments after_list attributes segment class exports after_nodata after_resident after_ordinal after_internal after_name export internal ordinal imports import_first import_equals import_module import_dot token_at step
computed bytes = read_of bytes
