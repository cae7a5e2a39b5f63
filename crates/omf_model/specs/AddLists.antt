-- The same by lists: whatever kind a record is, each list of the module gets the items that the record has
-- for it, and most records have none for most lists.
use Rattle.std.specs.Prelude.{◌≡◌, ℕ, List, ◌++◌, length}
use Rattle.obj_types.specs.declared.object.ObjModule.{ObjModule}
use Rattle.obj_types.specs.declared.parts.Threads.{Threads}
use Rattle.obj_types.specs.declared.parts.ObjParts.{ObjParts}
use Rattle.omf_model.specs.Lists.{collect, latest}
use Rattle.omf_model.specs.Record.{Record}
use Rattle.omf_model.specs.Fixups.{set_threads, fixes_by}
use Rattle.omf_model.specs.Items.{names_in, segs_in, groups_in, pubs_in, exts_in, imports_in, exports_in, deflibs_in, pieces_in, datas_in, begun_in, begun_names, fields_in, header_in, starts_in}

-- The names of the COMDATs that have begun.
abbrev pub begun_so_far : ObjParts → List (List ℕ)
begun_so_far p = begun_names p.comdats

-- The module with the record's items after its own.
unfoldable pub module_with : ObjParts → Record → ObjModule
module_with p r = record {
  name = latest p.module.name (header_in r);
  segs = p.module.segs ++ segs_in p.names r;
  groups = p.module.groups ++ groups_in p.names r;
  pubs = p.module.pubs ++ pubs_in p.names (begun_so_far p) r;
  exts = p.module.exts ++ exts_in r;
  pieces = p.module.pieces ++ pieces_in p.names p.module.segs (begun_so_far p) r;
  fixes = p.module.fixes ++ collect (λ fields f. fixes_by p.last (set_threads p.threads fields) f) (fields_in r);
  imports = p.module.imports ++ imports_in r;
  exports = p.module.exports ++ exports_in r;
  deflibs = p.module.deflibs ++ deflibs_in r;
  start = latest p.module.start (starts_in p.threads r);
  comdats = p.module.comdats;
}

unfoldable pub parts_with : ObjParts → Record → ObjParts
parts_with p r = record {
  names = p.names ++ names_in r;
  «module» = module_with p r;
  last = latest p.last (datas_in p.names p.module.segs (begun_so_far p) r);
  threads = set_threads p.threads (fields_in r);
  comdats = p.comdats ++ begun_in p.names p.module.segs r;
}

-- There are four threads of each kind.
pub record HasFour (ts : Threads) : Type 0 where
  pub frames : length ts.frame ≡ 4
  pub goals : length ts.goal ≡ 4
