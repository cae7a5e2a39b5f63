-- The contents with two faults each are read, and what is refused is told.
use Rattle.std.proofs.Common.{◌≡◌, ℕ, zero, suc, Bool, true, ltb, List, [], ◌∷◌, map, Result, Err, refl, arith}
use Rattle.std.specs.Prelude.{◌&&◌}
use Rattle.std.specs.List.{AllByRecursion}
use Rattle.std.proofs.lemmas.Bool.{ltb-true}
use Rattle.lx_bytes.specs.LittleEndian.{AreBytes}
use Rattle.obj_types.specs.declared.refusal.OmfRefusal.{OmfRefusal}
use Rattle.omf_fields.specs.Within.{within}
use Rattle.omf_fields.specs.Fields.{index_below, index_or_zero, items_at, list_within}
use Rattle.omf_model.specs.Record.{Record}
use Rattle.omf_model.specs.ReadBlocks.{block_at, blocks_at, blocks_in}
use Rattle.omf_model.specs.Fixups.{set_threads, fixes_by}
use Rattle.omf_model.specs.Add.{add, add_comdat, add_field, add_fields}
use Rattle.omf_model.specs.ReadNames.{lnames_at, segdef_at, plain_seg_at, plain_seg_or_zero, member_at, grpdef_at, pub_at, pubdef_at, ext_at, extdef_at, far_at, near_at, communal_at, com_at, comdef_at}
use Rattle.omf_model.specs.ReadComments.{given_name_at, entry_at, impdef_at, expdef_at, extension_at, coment_at}
use Rattle.omf_model.specs.ReadData.{judge_data, ledata_at, lidata_at}
use Rattle.omf_model.specs.ReadComdat.{base_segment_at, base_at, comdat_fields_at, judge_comdat, comdat_at}
use Rattle.omf_model.specs.ReadFixups.{fix_data_at, thread_at, judge_fixup, fixup_at, field_at, fields_within, fixupp_at, modend_at}
use Rattle.omf_model.specs.ReadModule.{reader_of}
use Rattle.omf_model.proofs.FixLaws.{and_true}
use Rattle.omf_faults.specs.Worked.{some_parts, two_faults, IsTold, EachIsTold}
use Rattle.omf_faults.proofs.TypeTold.{contents_found}

abbrev Row : Type 0
Row = ℕ × List ℕ × OmfRefusal

abbrev read_row : Row → Result Record OmfRefusal
read_row row = reader_of row.0 some_parts 0 (record { at = 3; left = row.1 })

abbrev are_bytes : List ℕ → Bool
are_bytes [] = true
are_bytes (b ∷ bs) = ltb b 256 && are_bytes bs

bytes_so : (bs : List ℕ) → are_bytes bs ≡ true → AreBytes bs
bytes_so [] is i = omega arith
bytes_so (b ∷ bs) is zero = ltb-true b 256 (and_true _ _ is).0
bytes_so (b ∷ bs) is (suc i) = bytes_so bs (and_true _ _ is).1 i

abbrev all_bytes : List Row → Bool
all_bytes [] = true
all_bytes (row ∷ rows) = are_bytes row.1 && all_bytes rows

told_all : (rows : List Row) → all_bytes rows ≡ true → map read_row rows ≡ map (λ (row : Row). Err row.2) rows → AllByRecursion IsTold rows
told_all [] bytes is = tt
told_all (row ∷ rows) bytes is =
    let first : read_row row ≡ Err row.2 = cc in
    let others : map read_row rows ≡ map (λ (r : Row). Err r.2) rows = cc in
    let both = and_true _ _ bytes in
    (contents_found row.0 some_parts 0 (record { at = 3; left = row.1 }) row.2 (bytes_so row.1 both.0) first, told_all rows both.1 others)

rows_read : map read_row two_faults ≡ map (λ (row : Row). Err row.2) two_faults
unfolding index_below index_or_zero items_at list_within within block_at blocks_at blocks_in set_threads fixes_by add add_comdat add_field add_fields lnames_at segdef_at plain_seg_at plain_seg_or_zero member_at grpdef_at pub_at pubdef_at ext_at extdef_at far_at near_at communal_at com_at comdef_at given_name_at entry_at impdef_at expdef_at extension_at coment_at judge_data ledata_at lidata_at base_segment_at base_at comdat_fields_at judge_comdat comdat_at fix_data_at thread_at judge_fixup fixup_at field_at fields_within fixupp_at modend_at
rows_read = refl

pub each_is_told : EachIsTold
each_is_told = told_all two_faults refl rows_read
