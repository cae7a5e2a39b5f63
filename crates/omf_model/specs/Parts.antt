-- What the records of a module say: each list of the module is a filter or a map of the list of records.
use Rattle.std.specs.Prelude.{ℕ, List, [], ◌++◌, Option, None}
use Rattle.std.specs.List.{flat_map}
use Rattle.obj_types.specs.declared.object.Seg.{Seg}
use Rattle.obj_types.specs.declared.object.Group.{Group}
use Rattle.obj_types.specs.declared.object.Piece.{Piece}
use Rattle.obj_types.specs.declared.object.FixAt.{FixAt}
use Rattle.obj_types.specs.declared.object.StartAt.{StartAt}
use Rattle.obj_types.specs.declared.object.ObjModule.{ObjModule}
use Rattle.obj_types.specs.declared.parts.BegunComdat.{BegunComdat}
use Rattle.obj_types.specs.declared.parts.LastData.{LastData}
use Rattle.obj_types.specs.declared.parts.LastData.TheVariants as datas
use Rattle.obj_types.specs.declared.parts.ObjParts.{ObjParts}
use Rattle.obj_types.specs.declared.symbol.Pub.{Pub}
use Rattle.omf_model.specs.Record.{Record, FixField}
use Rattle.omf_model.specs.Fixups.{threads_of, fixes_by}
use Rattle.omf_model.specs.Lists.{collect, latest}
use Rattle.omf_model.specs.Items.{names_in, segs_in, groups_in, pubs_in, exts_in, imports_in, exports_in, deflibs_in, pieces_in, datas_in, begun_in, begun_names, fields_in, header_in, starts_in}

unfoldable pub names_of : List Record → List (List ℕ)
names_of rs = flat_map names_in rs

unfoldable pub segs_of : List Record → List Seg
segs_of rs = collect (λ before r. segs_in (names_of before) r) rs

unfoldable pub groups_of : List Record → List Group
groups_of rs = collect (λ before r. groups_in (names_of before) r) rs

-- The COMDATs, by their first records.
unfoldable pub comdats_of : List Record → List BegunComdat
comdats_of rs = collect (λ before r. begun_in (names_of before) (segs_of before) r) rs

-- The names of the COMDATs that have begun.
abbrev pub begun_names_of : List Record → List (List ℕ)
begun_names_of rs = begun_names (comdats_of rs)

unfoldable pub pubs_of : List Record → List Pub
pubs_of rs = collect (λ before r. pubs_in (names_of before) (begun_names_of before) r) rs

unfoldable pub pieces_of : List Record → List Piece
pieces_of rs = collect (λ before r. pieces_in (names_of before) (segs_of before) (begun_names_of before) r) rs

unfoldable pub last_of : List Record → LastData
last_of rs = latest datas.None (collect (λ before r. datas_in (names_of before) (segs_of before) (begun_names_of before) r) rs)

unfoldable pub fields_of : List Record → List FixField
fields_of rs = flat_map fields_in rs

-- The fixes of a record's fields. Each refers to the last data record before, and its threads are set by
-- the fields before it, of this record and of earlier ones.
unfoldable pub fixes_in : LastData → List FixField → Record → List FixAt
fixes_in last earlier r = collect (λ fields f. fixes_by last (threads_of (earlier ++ fields)) f) (fields_in r)

unfoldable pub fixes_of : List Record → List FixAt
fixes_of rs = collect (λ before r. fixes_in (last_of before) (fields_of before) r) rs

unfoldable pub starts_of : List Record → List (Option StartAt)
starts_of rs = collect (λ before r. starts_in (threads_of (fields_of before)) r) rs

-- The module so far, without its COMDATs: `finished` gives it these.
unfoldable pub module_of : List Record → ObjModule
module_of rs = record {
  name = latest [] (flat_map header_in rs);
  segs = segs_of rs;
  groups = groups_of rs;
  pubs = pubs_of rs;
  exts = flat_map exts_in rs;
  pieces = pieces_of rs;
  fixes = fixes_of rs;
  imports = flat_map imports_in rs;
  exports = flat_map exports_in rs;
  deflibs = flat_map deflibs_in rs;
  start = latest None (starts_of rs);
  comdats = [];
}

-- The unfinished module after some records.
unfoldable pub parts_of : List Record → ObjParts
parts_of rs = record { names = names_of rs; «module» = module_of rs; last = last_of rs; threads = threads_of (fields_of rs); comdats = comdats_of rs }
