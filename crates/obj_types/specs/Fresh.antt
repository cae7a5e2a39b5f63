-- The unfinished module before its first record.
use Rattle.std.specs.Prelude.{[], None, replicate}
use Rattle.obj_types.specs.declared.object.ObjModule.{ObjModule}
use Rattle.obj_types.specs.declared.parts.ObjParts.{ObjParts}
use Rattle.obj_types.specs.declared.parts.LastData.TheVariants as data_record

-- A module that says nothing.
abbrev pub empty_module : ObjModule
empty_module = record {
  name = [];
  segs = [];
  groups = [];
  pubs = [];
  exts = [];
  pieces = [];
  fixes = [];
  imports = [];
  exports = [];
  deflibs = [];
  start = None;
  comdats = [];
}

-- No names, no data, no thread and no COMDAT so far.
abbrev pub fresh_parts : ObjParts
fresh_parts = record {
  names = [];
  «module» = empty_module;
  last = data_record.None;
  threads = record { frame = replicate 4 None; goal = replicate 4 None };
  comdats = [];
}
