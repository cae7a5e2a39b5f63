-- What one more record adds to an unfinished module: each kind of record changes the lists that it is for.
use Rattle.std.specs.Prelude.{ℕ, List, [], ◌∷◌, ◌++◌, map, length, if◌then◌else◌}
use Rattle.obj_types.specs.declared.object.Piece.{Piece}
use Rattle.obj_types.specs.declared.parts.LastData.{LastData}
use Rattle.obj_types.specs.declared.parts.LastData.TheVariants as datas
use Rattle.obj_types.specs.declared.parts.ObjParts.{ObjParts}
use Rattle.omf_model.specs.Blocks.{block_bytes, expanded}
use Rattle.omf_model.specs.Record.{Record, header, passed, comment, default_library, impdef, expdef, lnames, segdef, grpdef, pubdef, extdef, comdef, ledata, lidata, comdat, fixupp, modend, FixField}
use Rattle.omf_model.specs.Comdat.{ComDat, begun_with, number_of, public_with, piece_with, data_with, if_first}
use Rattle.omf_model.specs.Fixups.{set_threads, fixes_by}
use Rattle.omf_model.specs.Items.{name_with, seg_of, group_of, pub_of, ext_of, com_of, import_of, export_of, is_debug_seg, begun_names, start_of}

-- Data: a piece, to which later fixups refer. The data of a debug segment is dropped.
abbrev pub add_data : ObjParts → Piece → LastData → ObjParts
add_data p piece last =
    if is_debug_seg p.module.segs piece.seg then record p { last = datas.Dropped }
    else record p { «module» = record p.module { pieces = p.module.pieces ++ piece ∷ [] }; last = last }

-- Data of a name: of a COMDAT that has begun, or of one that begins here, with its public.
abbrev pub add_named : ObjParts → (name : List ℕ) (number : ℕ) → ComDat → ObjParts
add_named p name number d = record p {
  «module» = record p.module {
    pubs = p.module.pubs ++ if_first d (public_with number name d);
    pieces = p.module.pieces ++ piece_with number d ∷ [];
  };
  last = data_with number d;
  comdats = p.comdats ++ if_first d (begun_with p.module.segs name d);
}

unfoldable pub add_comdat : ObjParts → ComDat → ObjParts
add_comdat p d = add_named p (name_with p.names d.name) (number_of (begun_names p.comdats) (name_with p.names d.name)) d

-- A THREAD or a FIXUP.
unfoldable pub add_field : ObjParts → FixField → ObjParts
add_field p f = record p {
  «module» = record p.module { fixes = p.module.fixes ++ fixes_by p.last p.threads f };
  threads = set_threads p.threads (f ∷ []);
}

unfoldable pub add_fields : ObjParts → List FixField → ObjParts
add_fields p [] = p
add_fields p (f ∷ rest) = add_fields (add_field p f) rest

unfoldable pub add : ObjParts → Record → ObjParts
add p (header name) = record p { «module» = record p.module { name = name } }
add p passed = p
add p comment = p
add p (default_library name) = record p { «module» = record p.module { deflibs = p.module.deflibs ++ name ∷ [] } }
add p (impdef d) = record p { «module» = record p.module { imports = p.module.imports ++ import_of d ∷ [] } }
add p (expdef d) = record p { «module» = record p.module { exports = p.module.exports ++ export_of d ∷ [] } }
add p (lnames names) = record p { names = p.names ++ names }
add p (segdef d) = record p { «module» = record p.module { segs = p.module.segs ++ seg_of p.names d ∷ [] } }
add p (grpdef name members) = record p { «module» = record p.module { groups = p.module.groups ++ group_of (name_with p.names name) members ∷ [] } }
add p (pubdef local group segment frame defs) = record p { «module» = record p.module { pubs = p.module.pubs ++ map (pub_of local segment) defs } }
add p (extdef local defs) = record p { «module» = record p.module { exts = p.module.exts ++ map (ext_of local) defs } }
add p (comdef defs) = record p { «module» = record p.module { exts = p.module.exts ++ map com_of defs } }
add p (ledata seg offset content) = add_data p (record { seg = seg; offset = offset; bytes = content }) (datas.Straight seg offset (length content))
add p (lidata wide seg offset blocks) =
    add_data p (record { seg = seg; offset = offset; bytes = expanded blocks }) (datas.Blocks seg offset wide (block_bytes wide blocks))
add p (comdat d) = add_comdat p d
add p (fixupp fields) = add_fields p fields
add p (modend kind start) = record p { «module» = record p.module { start = start_of p.threads start } }
