-- What is wrong in the contents of a record, by its type. "Relocatable Object Module Format", the sections of the record types.
use Rattle.std.specs.Prelude.{◌≡◌, ℕ, ◌+◌, ◌⊎◌, Bool, true, false}
use Rattle.lx_bytes.specs.Cursor.{Cursor}
use Rattle.obj_types.specs.declared.refusal.OmfRefusal.{OmfRefusal}
use Rattle.obj_types.specs.declared.refusal.OmfRefusal.TheVariants.{UnknownType}
use Rattle.obj_types.specs.declared.parts.ObjParts.{ObjParts}
use Rattle.omf_frame.specs.RecordType.{is_record_type}
use Rattle.omf_faults.specs.NameRecords.{WrongLnames, WrongSegdef, WrongGrpdef, WrongPubdef, WrongExtdef, WrongComdef}
use Rattle.omf_faults.specs.CommentRecords.{WrongComent}
use Rattle.omf_faults.specs.DataRecords.{WrongLedata, WrongLidata}
use Rattle.omf_faults.specs.ComdatRecords.{WrongComdat}
use Rattle.omf_faults.specs.FixupRecords.{WrongFixupp, WrongModend}

-- Of a pair of types the odd one has offsets and lengths of 4 bytes.
abbrev pub OfPair : ℕ → ℕ → (Bool → Type 0) → Type 0
OfPair even ty WrongIf = ((ty ≡ even) × WrongIf false) ⊎ ((ty ≡ even + 1) × WrongIf true)

-- A record that begins at a place and has its contents at a cursor has this fault, after the records before it. THEADR, LHEADR
-- and LINNUM are passed over.
abbrev pub WrongContents : ℕ → ObjParts → (record_at : ℕ) → Cursor → OmfRefusal → Type 0
WrongContents ty p record_at c e =
    ((ty ≡ 0x88) × WrongComent c e)
    ⊎ OfPair 0x8A ty (λ wide. WrongModend wide p c e)
    ⊎ ((ty ≡ 0x8C) × WrongExtdef c e)
    ⊎ OfPair 0x90 ty (λ wide. WrongPubdef wide p c e)
    ⊎ ((ty ≡ 0x96) × WrongLnames c e)
    ⊎ OfPair 0x98 ty (λ wide. WrongSegdef wide p c e)
    ⊎ ((ty ≡ 0x9A) × WrongGrpdef p c e)
    ⊎ OfPair 0x9C ty (λ wide. WrongFixupp wide p record_at c e)
    ⊎ OfPair 0xA0 ty (λ wide. WrongLedata wide p record_at c e)
    ⊎ OfPair 0xA2 ty (λ wide. WrongLidata wide p record_at c e)
    ⊎ ((ty ≡ 0xB0) × WrongComdef c e)
    ⊎ OfPair 0xB4 ty (λ wide. WrongExtdef c e)
    ⊎ OfPair 0xB6 ty (λ wide. WrongPubdef wide p c e)
    ⊎ OfPair 0xC2 ty (λ wide. WrongComdat wide p record_at c e)
    ⊎ ((is_record_type ty ≡ false) × (e ≡ UnknownType record_at ty))
