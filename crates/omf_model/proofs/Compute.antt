-- The reading of whole files, computed.
use Rattle.std.proofs.Common.{ℕ, List, Result}
use Rattle.obj_types.specs.declared.refusal.OmfRefusal.{OmfRefusal}
use Rattle.obj_types.specs.declared.object.ObjModule.{ObjModule}
use Rattle.omf_fields.specs.Within.{within}
use Rattle.omf_fields.specs.Fields.{index_below, index_or_zero, items_at, list_within}
use Rattle.omf_model.specs.ReadBlocks.{block_at, blocks_at, blocks_in}
use Rattle.omf_model.specs.Fixups.{set_threads, fixes_by}
use Rattle.omf_model.specs.Add.{add, add_comdat, add_field, add_fields}
use Rattle.omf_model.specs.ReadNames.{lnames_at, segdef_at, plain_seg_at, plain_seg_or_zero, member_at, grpdef_at, pub_at, pubdef_at, ext_at, extdef_at, far_at, near_at, communal_at, com_at, comdef_at}
use Rattle.omf_model.specs.ReadComments.{given_name_at, entry_at, impdef_at, expdef_at, extension_at, coment_at}
use Rattle.omf_model.specs.ReadData.{judge_data, ledata_at, lidata_at}
use Rattle.omf_model.specs.ReadComdat.{base_segment_at, base_at, comdat_fields_at, judge_comdat, comdat_at}
use Rattle.omf_model.specs.Finished.{finished}
use Rattle.omf_model.specs.ReadFixups.{fix_data_at, thread_at, judge_fixup, fixup_at, field_at, fields_within, fixupp_at, modend_at}
use Rattle.omf_model.specs.RawRecord.{whole_at, raw_at}
use Rattle.omf_model.specs.ReadModule.{record_at, header_at, rest_within, module_at, object_of, modules_within, library_of}

-- Names what a file's reading computes by.
unfoldable pub computed : List ℕ → Result ObjModule OmfRefusal
unfolding index_below index_or_zero items_at list_within within block_at blocks_at blocks_in set_threads fixes_by add add_comdat add_field add_fields lnames_at segdef_at plain_seg_at plain_seg_or_zero member_at grpdef_at pub_at pubdef_at ext_at extdef_at far_at near_at communal_at com_at comdef_at given_name_at entry_at impdef_at expdef_at extension_at coment_at judge_data ledata_at lidata_at base_segment_at base_at comdat_fields_at judge_comdat comdat_at finished fix_data_at thread_at judge_fixup fixup_at field_at fields_within fixupp_at modend_at whole_at raw_at record_at header_at rest_within module_at object_of modules_within library_of
computed bytes = object_of bytes
