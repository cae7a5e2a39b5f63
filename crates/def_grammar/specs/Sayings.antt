-- What statements say.
use Rattle.std.specs.Prelude.{Bool, List, [], ◌∷◌, ◌++◌, Option, Some, None, unwrap_or, if◌then◌else◌}
use Rattle.std.specs.Option.{option_map, option_map_or}
use Rattle.lx_types.specs.declared.entry.EntryKey.TheVariants.{Ordinal, Named}
use Rattle.obj_types.specs.declared.symbol.Exp.{Exp}
use Rattle.obj_types.specs.declared.symbol.Imp.{Imp}
use Rattle.obj_types.specs.declared.definition.ModKind.TheVariants as modules
use Rattle.def_model.specs.declared.keyword.Pair.{Pair}
use Rattle.def_model.specs.declared.keyword.Pair.TheVariants as pairs
use Rattle.def_model.specs.declared.draft.Words.{Words}
use Rattle.def_model.specs.declared.draft.SegDraft.{SegDraft}
use Rattle.def_model.specs.declared.draft.Draft.{Draft}
use Rattle.def_model.specs.Draft.{no_statements}
use Rattle.def_grammar.specs.Statements.{AttributeWord, sets, idle, CallWord, initial, terminal, Segment, Export, Import, named, numbered, Statement, program, library, description, code, plain, segments, exports, imports, stack_size, heap_size, base, protected, exe_type}
use Rattle.def_grammar.specs.Rules.{bytes_of, same_pair}

-- ---- words

-- What the words say of a pair, if one of them is of it.
abbrev pub setting : List AttributeWord → Pair → Option Bool
setting [] p = None
setting (idle ∷ before) p = setting before p
setting (sets q on ∷ before) p = if same_pair q p then Some on else setting before p

abbrev pub words_of : List AttributeWord → Words
words_of words =
    record {
      write = setting words pairs.Write;
      read = setting words pairs.Read;
      shared = setting words pairs.Shared;
      preload = setting words pairs.Preload;
      conforming = setting words pairs.Conforming;
      iopl = setting words pairs.Iopl;
    }

abbrev pub initially : List CallWord → Option Bool
initially [] = None
initially (initial each ∷ before) = Some each
initially (terminal each ∷ before) = initially before

abbrev pub finally : List CallWord → Option Bool
finally [] = None
finally (initial each ∷ before) = finally before
finally (terminal each ∷ before) = Some each

-- ---- items

abbrev pub segment_of : Segment → SegDraft
segment_of s = record { name = bytes_of s.name; class = s.class; words = words_of s.words }

abbrev pub segments_of : List Segment → List SegDraft → List SegDraft
segments_of [] others = others
segments_of (s ∷ before) others = segments_of before others ++ segment_of s ∷ []

-- Within the module an export is known by its name where it gives no other.
abbrev pub export_of : Export → Exp
export_of e =
    record {
      name = bytes_of e.name;
      internal = option_map_or bytes_of e.internal (bytes_of e.name);
      ordinal = e.ordinal;
      resident = e.resident;
      nodata = e.nodata;
      words = unwrap_or e.words 0;
    }

abbrev pub exports_of : List Export → List Exp → List Exp
exports_of [] others = others
exports_of (e ∷ before) others = exports_of before others ++ export_of e ∷ []

abbrev pub import_of : Import → Imp
import_of (named internal from entry) =
    record { name = option_map_or bytes_of internal (bytes_of entry); «module» = bytes_of from; entry = Named (bytes_of entry) }
import_of (numbered internal from ordinal) =
    record { name = bytes_of internal; «module» = bytes_of from; entry = Ordinal ordinal }

abbrev pub imports_of : List Import → List Imp → List Imp
imports_of [] others = others
imports_of (i ∷ before) others = imports_of before others ++ import_of i ∷ []

-- ---- statements

-- What was said, and one statement more.
abbrev pub said_with : Draft → Statement → Draft
said_with d (program name window) = record d { kind = Some modules.Program; name = option_map bytes_of name }
said_with d (library name calls) =
    record d { kind = Some modules.Library; name = option_map bytes_of name; init_each = initially calls; term_each = finally calls }
said_with d (description about) = record d { about = Some about }
said_with d (code words) = record d { code = Some (words_of words) }
said_with d (plain words) = record d { plain = Some (words_of words) }
said_with d (segments items) = record d { segs = segments_of items d.segs }
said_with d (exports items) = record d { exports = exports_of items d.exports }
said_with d (imports items) = record d { imports = imports_of items d.imports }
said_with d (stack_size n) = record d { stack = Some n }
said_with d (heap_size n) = record d { heap = Some n }
said_with d (base n) = record d { base = Some n }
said_with d protected = d
said_with d (exe_type name) = d

abbrev pub said : List Statement → Draft
said [] = no_statements
said (s ∷ before) = said_with (said before) s
