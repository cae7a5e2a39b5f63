-- The types of the records of an object module ("Relocatable Object Module Format", "Record Types"). Of a
-- pair of types the second has 32-bit fields. A library's F0h and F1h are not among them.
use Rattle.std.specs.Prelude.{ℕ, Bool, ◌==◌, List, [], ◌∷◌, IsTrue}
use Rattle.std.specs.List.{list_any}
use Rattle.omf_frame.specs.declared.record_type.TheConstants.{THEADR, LHEADR, COMENT, MODEND, MODEND_32, EXTDEF, PUBDEF, PUBDEF_32, LINNUM, LINNUM_32, LNAMES, SEGDEF, SEGDEF_32, GRPDEF, FIXUPP, FIXUPP_32, LEDATA, LEDATA_32, LIDATA, LIDATA_32, COMDEF, LEXTDEF, LEXTDEF_32, LPUBDEF, LPUBDEF_32, COMDAT, COMDAT_32}

abbrev pub record_types : List ℕ
record_types =
    THEADR ∷
    LHEADR ∷
    COMENT ∷
    MODEND ∷ MODEND_32 ∷
    EXTDEF ∷
    PUBDEF ∷ PUBDEF_32 ∷
    LINNUM ∷ LINNUM_32 ∷
    LNAMES ∷
    SEGDEF ∷ SEGDEF_32 ∷
    GRPDEF ∷
    FIXUPP ∷ FIXUPP_32 ∷
    LEDATA ∷ LEDATA_32 ∷
    LIDATA ∷ LIDATA_32 ∷
    COMDEF ∷
    LEXTDEF ∷ LEXTDEF_32 ∷
    LPUBDEF ∷ LPUBDEF_32 ∷
    COMDAT ∷ COMDAT_32 ∷
    []

abbrev pub is_record_type : ℕ → Bool
is_record_type ty = list_any (λ known. known == ty) record_types

abbrev pub IsRecordType : ℕ → Type 0
IsRecordType ty = IsTrue (is_record_type ty)
