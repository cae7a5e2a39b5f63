-- What a definition file means that says nothing.
use Rattle.std.specs.Prelude.{ℕ, true, false, [], Option, None}
use Rattle.obj_types.specs.declared.definition.Attrs.{Attrs}
use Rattle.obj_types.specs.declared.definition.DefFile.{DefFile}
use Rattle.obj_types.specs.declared.definition.ModKind.{ModKind}

-- CODE is read and executed.
abbrev pub code_attrs : Attrs
code_attrs =
    record {
      read = true;
      write = false;
      exec = true;
      shared = false;
      preload = false;
      conforming = false;
      iopl = false;
    }

-- DATA is read and written.
abbrev pub data_attrs : Attrs
data_attrs =
    record {
      read = true;
      write = true;
      exec = false;
      shared = false;
      preload = false;
      conforming = false;
      iopl = false;
    }

abbrev pub default_def : ModKind → Option ℕ → DefFile
default_def kind base =
    record {
      kind = kind;
      name = None;
      init_each = false;
      term_each = false;
      about = [];
      stack = 0;
      heap = 0;
      base = base;
      code = code_attrs;
      plain = data_attrs;
      segs = [];
      exports = [];
      imports = [];
    }
