-- What a whole definition file says.
use Rattle.std.specs.Prelude.{ℕ, ◌-◌, Bool, ◌&&◌, false, nat_le, List, [], length, drop, map, codes, is_some, unwrap_or, if◌then◌else◌}
use Rattle.std.specs.Option.{option_map_or}
use Rattle.obj_types.specs.declared.definition.Attrs.{Attrs}
use Rattle.obj_types.specs.Defaults.{code_attrs, data_attrs}
use Rattle.obj_types.specs.declared.definition.SegAttrs.{SegAttrs}
use Rattle.obj_types.specs.declared.definition.DefFile.{DefFile}
use Rattle.obj_types.specs.declared.definition.ModKind.TheVariants as modules
use Rattle.def_model.specs.Keywords.{same_letters}
use Rattle.def_model.specs.declared.draft.SegDraft.{SegDraft}
use Rattle.def_model.specs.declared.draft.Draft.{Draft}
use Rattle.def_model.specs.Draft.{no_words}
use Rattle.def_model.specs.Attributes.{attrs_with}

-- The class of a code segment ends in CODE, in any case.
abbrev pub is_code_class : List ℕ → Bool
is_code_class class = nat_le 4 (length class) && same_letters (drop (length class - 4) class) (codes "CODE")

-- An item of SEGMENTS starts from CODE where its class is one of code, or where it names no class and has
-- a word of the pair for reading.
abbrev pub is_code : SegDraft → Bool
is_code s = option_map_or is_code_class s.class (is_some s.words.read)

abbrev pub segment_of : Attrs → Attrs → SegDraft → SegAttrs
segment_of code plain s = record { name = s.name; class = s.class; attrs = attrs_with (if is_code s then code else plain) s.words }

-- Without NAME and LIBRARY the module is a program. Without words a library's calls are global.
abbrev pub file_of : Draft → DefFile
file_of d =
    let code = attrs_with code_attrs (unwrap_or d.code no_words) in
    let plain = attrs_with data_attrs (unwrap_or d.plain no_words) in
    record {
      kind = unwrap_or d.kind modules.Program;
      name = d.name;
      init_each = unwrap_or d.init_each false;
      term_each = unwrap_or d.term_each false;
      about = unwrap_or d.about [];
      stack = unwrap_or d.stack 0;
      heap = unwrap_or d.heap 0;
      base = d.base;
      code = code;
      plain = plain;
      segs = map (segment_of code plain) d.segs;
      exports = d.exports;
      imports = d.imports;
    }
