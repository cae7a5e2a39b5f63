-- The reading of a record's contents, by its type, fails exactly so.
use Rattle.std.proofs.Common.{◌≡◌, ℕ, Bool, true, false, eqb, List, [], ◌∷◌, Ok, Err, refl, sym, ap, subst, ◌∙◌, inl, inr}
use Rattle.std.specs.Prelude.{◌||◌}
use Rattle.std.specs.List.{list_any, AllByRecursion}
use Rattle.std.proofs.lemmas.Bool.{eqb-true, eqb-false, ne_eqb, cases_Bool, or_parts}
use Rattle.lx_bytes.specs.Cursor.{Cursor}
use Rattle.lx_bytes.specs.LittleEndian.{AreBytes}
use Rattle.obj_types.specs.declared.refusal.OmfRefusal.{OmfRefusal}
use Rattle.obj_types.specs.declared.refusal.OmfRefusal.TheVariants.{UnknownType}
use Rattle.obj_types.specs.declared.parts.ObjParts.{ObjParts}
use Rattle.omf_frame.specs.RecordType.{record_types, is_record_type}
use Rattle.omf_model.specs.Record.{Record, passed}
use Rattle.omf_model.specs.ReadModule.{reader_of}
use Rattle.omf_faults.specs.WrongContents.{WrongContents}
use Rattle.omf_faults.proofs.Told.{refused, ok_no_err}
use Rattle.omf_faults.proofs.NameTold.{lnames_told, segdef_told, grpdef_told, pubdef_told, extdef_told, comdef_told}
use Rattle.omf_faults.proofs.CommentTold.{coment_told}
use Rattle.omf_faults.proofs.DataTold.{ledata_told, lidata_told}
use Rattle.omf_faults.proofs.ComdatTold.{comdat_told}
use Rattle.omf_faults.proofs.FixupTold.{fixupp_told, modend_told}

-- ---- by the types that there are

abbrev none : List ℕ → ℕ → Bool
none types ty = list_any (λ known. eqb known ty) types

apart : (types : List ℕ) (ty : ℕ) → none types ty ≡ false → AllByRecursion (λ known. eqb ty known ≡ false) types
apart [] ty is = tt
apart (t ∷ types) ty is =
    let both = or_parts (eqb t ty) (none types ty) is in
    (ne_eqb ty t (λ same. eqb-false t ty both.0 (sym same)), apart types ty both.1)

by_type : (P : ℕ → Type 0) (types : List ℕ) → AllByRecursion P types → (ty : ℕ) → (none types ty ≡ false → P ty) → P ty
by_type P [] each ty otherwise = otherwise refl
by_type P (t ∷ types) each ty otherwise =
    elim (cases_Bool (eqb t ty)) [
      | inl h ↦ subst P (eqb-true t ty h) each.0
      | inr h ↦ by_type P types each.1 ty (λ is. otherwise (ap (λ (b : Bool). b || none types ty) h ∙ is))
    ]

-- ---- what fails is wrong

abbrev Found : ObjParts → ℕ → Cursor → OmfRefusal → ℕ → Type 0
Found p at c e ty = reader_of ty p at c ≡ Err e → WrongContents ty p at c e

passes : (e : OmfRefusal) (X : Type 0) → Ok passed ≡ refused {A = Record} e → X
passes e X is = absurd (ok_no_err passed e is)

at_80 : (p : ObjParts) (at : ℕ) (c : Cursor) (e : OmfRefusal) → AreBytes c.left → Found p at c e 0x80
at_80 p at c e bytes is = passes e _ is

at_82 : (p : ObjParts) (at : ℕ) (c : Cursor) (e : OmfRefusal) → AreBytes c.left → Found p at c e 0x82
at_82 p at c e bytes is = passes e _ is

at_88 : (p : ObjParts) (at : ℕ) (c : Cursor) (e : OmfRefusal) → AreBytes c.left → Found p at c e 0x88
at_88 p at c e bytes is = inl (refl, (coment_told c e bytes).0 is)

at_8a : (p : ObjParts) (at : ℕ) (c : Cursor) (e : OmfRefusal) → AreBytes c.left → Found p at c e 0x8A
at_8a p at c e bytes is = inr (inl (inl (refl, (modend_told false p c e bytes).0 is)))

at_8b : (p : ObjParts) (at : ℕ) (c : Cursor) (e : OmfRefusal) → AreBytes c.left → Found p at c e 0x8B
at_8b p at c e bytes is = inr (inl (inr (refl, (modend_told true p c e bytes).0 is)))

at_8c : (p : ObjParts) (at : ℕ) (c : Cursor) (e : OmfRefusal) → AreBytes c.left → Found p at c e 0x8C
at_8c p at c e bytes is = inr (inr (inl (refl, (extdef_told false c e bytes).0 is)))

at_90 : (p : ObjParts) (at : ℕ) (c : Cursor) (e : OmfRefusal) → AreBytes c.left → Found p at c e 0x90
at_90 p at c e bytes is = inr (inr (inr (inl (inl (refl, (pubdef_told false false p c e bytes).0 is)))))

at_91 : (p : ObjParts) (at : ℕ) (c : Cursor) (e : OmfRefusal) → AreBytes c.left → Found p at c e 0x91
at_91 p at c e bytes is = inr (inr (inr (inl (inr (refl, (pubdef_told false true p c e bytes).0 is)))))

at_94 : (p : ObjParts) (at : ℕ) (c : Cursor) (e : OmfRefusal) → AreBytes c.left → Found p at c e 0x94
at_94 p at c e bytes is = passes e _ is

at_95 : (p : ObjParts) (at : ℕ) (c : Cursor) (e : OmfRefusal) → AreBytes c.left → Found p at c e 0x95
at_95 p at c e bytes is = passes e _ is

at_96 : (p : ObjParts) (at : ℕ) (c : Cursor) (e : OmfRefusal) → AreBytes c.left → Found p at c e 0x96
at_96 p at c e bytes is = inr (inr (inr (inr (inl (refl, (lnames_told c e bytes).0 is)))))

at_98 : (p : ObjParts) (at : ℕ) (c : Cursor) (e : OmfRefusal) → AreBytes c.left → Found p at c e 0x98
at_98 p at c e bytes is = inr (inr (inr (inr (inr (inl (inl (refl, (segdef_told false p c e bytes).0 is)))))))

at_99 : (p : ObjParts) (at : ℕ) (c : Cursor) (e : OmfRefusal) → AreBytes c.left → Found p at c e 0x99
at_99 p at c e bytes is = inr (inr (inr (inr (inr (inl (inr (refl, (segdef_told true p c e bytes).0 is)))))))

at_9a : (p : ObjParts) (at : ℕ) (c : Cursor) (e : OmfRefusal) → AreBytes c.left → Found p at c e 0x9A
at_9a p at c e bytes is = inr (inr (inr (inr (inr (inr (inl (refl, (grpdef_told p c e bytes).0 is)))))))

at_9c : (p : ObjParts) (at : ℕ) (c : Cursor) (e : OmfRefusal) → AreBytes c.left → Found p at c e 0x9C
at_9c p at c e bytes is = inr (inr (inr (inr (inr (inr (inr (inl (inl (refl, (fixupp_told false p at c e bytes).0 is)))))))))

at_9d : (p : ObjParts) (at : ℕ) (c : Cursor) (e : OmfRefusal) → AreBytes c.left → Found p at c e 0x9D
at_9d p at c e bytes is = inr (inr (inr (inr (inr (inr (inr (inl (inr (refl, (fixupp_told true p at c e bytes).0 is)))))))))

at_a0 : (p : ObjParts) (at : ℕ) (c : Cursor) (e : OmfRefusal) → AreBytes c.left → Found p at c e 0xA0
at_a0 p at c e bytes is = inr (inr (inr (inr (inr (inr (inr (inr (inl (inl (refl, (ledata_told false p at c e bytes).0 is))))))))))

at_a1 : (p : ObjParts) (at : ℕ) (c : Cursor) (e : OmfRefusal) → AreBytes c.left → Found p at c e 0xA1
at_a1 p at c e bytes is = inr (inr (inr (inr (inr (inr (inr (inr (inl (inr (refl, (ledata_told true p at c e bytes).0 is))))))))))

at_a2 : (p : ObjParts) (at : ℕ) (c : Cursor) (e : OmfRefusal) → AreBytes c.left → Found p at c e 0xA2
at_a2 p at c e bytes is = inr (inr (inr (inr (inr (inr (inr (inr (inr (inl (inl (refl, (lidata_told false p at c e bytes).0 is)))))))))))

at_a3 : (p : ObjParts) (at : ℕ) (c : Cursor) (e : OmfRefusal) → AreBytes c.left → Found p at c e 0xA3
at_a3 p at c e bytes is = inr (inr (inr (inr (inr (inr (inr (inr (inr (inl (inr (refl, (lidata_told true p at c e bytes).0 is)))))))))))

at_b0 : (p : ObjParts) (at : ℕ) (c : Cursor) (e : OmfRefusal) → AreBytes c.left → Found p at c e 0xB0
at_b0 p at c e bytes is = inr (inr (inr (inr (inr (inr (inr (inr (inr (inr (inl (refl, (comdef_told c e bytes).0 is)))))))))))

at_b4 : (p : ObjParts) (at : ℕ) (c : Cursor) (e : OmfRefusal) → AreBytes c.left → Found p at c e 0xB4
at_b4 p at c e bytes is = inr (inr (inr (inr (inr (inr (inr (inr (inr (inr (inr (inl (inl (refl, (extdef_told true c e bytes).0 is)))))))))))))

at_b5 : (p : ObjParts) (at : ℕ) (c : Cursor) (e : OmfRefusal) → AreBytes c.left → Found p at c e 0xB5
at_b5 p at c e bytes is = inr (inr (inr (inr (inr (inr (inr (inr (inr (inr (inr (inl (inr (refl, (extdef_told true c e bytes).0 is)))))))))))))

at_b6 : (p : ObjParts) (at : ℕ) (c : Cursor) (e : OmfRefusal) → AreBytes c.left → Found p at c e 0xB6
at_b6 p at c e bytes is = inr (inr (inr (inr (inr (inr (inr (inr (inr (inr (inr (inr (inl (inl (refl, (pubdef_told true false p c e bytes).0 is))))))))))))))

at_b7 : (p : ObjParts) (at : ℕ) (c : Cursor) (e : OmfRefusal) → AreBytes c.left → Found p at c e 0xB7
at_b7 p at c e bytes is = inr (inr (inr (inr (inr (inr (inr (inr (inr (inr (inr (inr (inl (inr (refl, (pubdef_told true true p c e bytes).0 is))))))))))))))

at_c2 : (p : ObjParts) (at : ℕ) (c : Cursor) (e : OmfRefusal) → AreBytes c.left → Found p at c e 0xC2
at_c2 p at c e bytes is = inr (inr (inr (inr (inr (inr (inr (inr (inr (inr (inr (inr (inr (inl (inl (refl, (comdat_told false p at c e bytes).0 is)))))))))))))))

at_c3 : (p : ObjParts) (at : ℕ) (c : Cursor) (e : OmfRefusal) → AreBytes c.left → Found p at c e 0xC3
at_c3 p at c e bytes is = inr (inr (inr (inr (inr (inr (inr (inr (inr (inr (inr (inr (inr (inl (inr (refl, (comdat_told true p at c e bytes).0 is)))))))))))))))

-- no type of a record
unknown : (p : ObjParts) (at : ℕ) (c : Cursor) (e : OmfRefusal) (ty : ℕ) → is_record_type ty ≡ false → reader_of ty p at c ≡ refused {A = Record} (UnknownType at ty)
unknown p at c e ty is =
    let a = apart record_types ty is in
    rw (
      a.1.1.0,
      a.1.1.1.0,
      a.1.1.1.1.0,
      a.1.1.1.1.1.0,
      a.1.1.1.1.1.1.0,
      a.1.1.1.1.1.1.1.0,
      a.1.1.1.1.1.1.1.1.1.1.0,
      a.1.1.1.1.1.1.1.1.1.1.1.0,
      a.1.1.1.1.1.1.1.1.1.1.1.1.0,
      a.1.1.1.1.1.1.1.1.1.1.1.1.1.0,
      a.1.1.1.1.1.1.1.1.1.1.1.1.1.1.0,
      a.1.1.1.1.1.1.1.1.1.1.1.1.1.1.1.0,
      a.1.1.1.1.1.1.1.1.1.1.1.1.1.1.1.1.0,
      a.1.1.1.1.1.1.1.1.1.1.1.1.1.1.1.1.1.0,
      a.1.1.1.1.1.1.1.1.1.1.1.1.1.1.1.1.1.1.0,
      a.1.1.1.1.1.1.1.1.1.1.1.1.1.1.1.1.1.1.1.0,
      a.1.1.1.1.1.1.1.1.1.1.1.1.1.1.1.1.1.1.1.1.0,
      a.1.1.1.1.1.1.1.1.1.1.1.1.1.1.1.1.1.1.1.1.1.0,
      a.1.1.1.1.1.1.1.1.1.1.1.1.1.1.1.1.1.1.1.1.1.1.0,
      a.1.1.1.1.1.1.1.1.1.1.1.1.1.1.1.1.1.1.1.1.1.1.1.0,
      a.1.1.1.1.1.1.1.1.1.1.1.1.1.1.1.1.1.1.1.1.1.1.1.1.0,
      a.1.1.1.1.1.1.1.1.1.1.1.1.1.1.1.1.1.1.1.1.1.1.1.1.1.0,
      a.1.1.1.1.1.1.1.1.1.1.1.1.1.1.1.1.1.1.1.1.1.1.1.1.1.1.0,
      a.0,
      a.1.0,
      a.1.1.1.1.1.1.1.1.0,
      a.1.1.1.1.1.1.1.1.1.0,
    ) refl

pub contents_found : (ty : ℕ) (p : ObjParts) (at : ℕ) (c : Cursor) (e : OmfRefusal) → AreBytes c.left → reader_of ty p at c ≡ Err e → WrongContents ty p at c e
contents_found ty p at c e bytes =
    by_type (Found p at c e) record_types (
      at_80 p at c e bytes,
      (
        at_82 p at c e bytes,
        (
          at_88 p at c e bytes,
          (
            at_8a p at c e bytes,
            (
              at_8b p at c e bytes,
              (
                at_8c p at c e bytes,
                (
                  at_90 p at c e bytes,
                  (
                    at_91 p at c e bytes,
                    (
                      at_94 p at c e bytes,
                      (
                        at_95 p at c e bytes,
                        (
                          at_96 p at c e bytes,
                          (
                            at_98 p at c e bytes,
                            (
                              at_99 p at c e bytes,
                              (
                                at_9a p at c e bytes,
                                (
                                  at_9c p at c e bytes,
                                  (
                                    at_9d p at c e bytes,
                                    (
                                      at_a0 p at c e bytes,
                                      (
                                        at_a1 p at c e bytes,
                                        (
                                          at_a2 p at c e bytes,
                                          (
                                            at_a3 p at c e bytes,
                                            (
                                              at_b0 p at c e bytes,
                                              (
                                                at_b4 p at c e bytes,
                                                (
                                                  at_b5 p at c e bytes,
                                                  (
                                                    at_b6 p at c e bytes,
                                                    (
                                                      at_b7 p at c e bytes,
                                                      (
                                                        at_c2 p at c e bytes,
                                                        (
                                                          at_c3 p at c e bytes,
                                                          tt,
                                                        ),
                                                      ),
                                                    ),
                                                  ),
                                                ),
                                              ),
                                            ),
                                          ),
                                        ),
                                      ),
                                    ),
                                  ),
                                ),
                              ),
                            ),
                          ),
                        ),
                      ),
                    ),
                  ),
                ),
              ),
            ),
          ),
        ),
      ),
    ) ty (λ is fails. inr (inr (inr (inr (inr (inr (inr (inr (inr (inr (inr (inr (inr (inr (is, (let same : UnknownType at ty ≡ e = (let both : refused {A = Record} (UnknownType at ty) ≡ Err e = sym (unknown p at c e ty is) ∙ fails in cc) in sym same))))))))))))))))

-- ---- what is wrong fails

abbrev Fails : ObjParts → ℕ → Cursor → OmfRefusal → ℕ → Type 0
Fails p at c e ty = reader_of ty p at c ≡ Err e

fails_as : (p : ObjParts) (at : ℕ) (c : Cursor) (e : OmfRefusal) (ty n : ℕ) → ty ≡ n → Fails p at c e n → Fails p at c e ty
fails_as p at c e ty n is fails = subst (Fails p at c e) (sym is) fails

pub contents_shown : (ty : ℕ) (p : ObjParts) (at : ℕ) (c : Cursor) (e : OmfRefusal) → AreBytes c.left → WrongContents ty p at c e → reader_of ty p at c ≡ Err e
contents_shown ty p at c e bytes (inl w) = fails_as p at c e ty 0x88 w.0 ((coment_told c e bytes).1 w.1)
contents_shown ty p at c e bytes (inr (inl (inl w))) = fails_as p at c e ty 0x8A w.0 ((modend_told false p c e bytes).1 w.1)
contents_shown ty p at c e bytes (inr (inl (inr w))) = fails_as p at c e ty 0x8B w.0 ((modend_told true p c e bytes).1 w.1)
contents_shown ty p at c e bytes (inr (inr (inl w))) = fails_as p at c e ty 0x8C w.0 ((extdef_told false c e bytes).1 w.1)
contents_shown ty p at c e bytes (inr (inr (inr (inl (inl w))))) = fails_as p at c e ty 0x90 w.0 ((pubdef_told false false p c e bytes).1 w.1)
contents_shown ty p at c e bytes (inr (inr (inr (inl (inr w))))) = fails_as p at c e ty 0x91 w.0 ((pubdef_told false true p c e bytes).1 w.1)
contents_shown ty p at c e bytes (inr (inr (inr (inr (inl w))))) = fails_as p at c e ty 0x96 w.0 ((lnames_told c e bytes).1 w.1)
contents_shown ty p at c e bytes (inr (inr (inr (inr (inr (inl (inl w))))))) = fails_as p at c e ty 0x98 w.0 ((segdef_told false p c e bytes).1 w.1)
contents_shown ty p at c e bytes (inr (inr (inr (inr (inr (inl (inr w))))))) = fails_as p at c e ty 0x99 w.0 ((segdef_told true p c e bytes).1 w.1)
contents_shown ty p at c e bytes (inr (inr (inr (inr (inr (inr (inl w))))))) = fails_as p at c e ty 0x9A w.0 ((grpdef_told p c e bytes).1 w.1)
contents_shown ty p at c e bytes (inr (inr (inr (inr (inr (inr (inr (inl (inl w))))))))) = fails_as p at c e ty 0x9C w.0 ((fixupp_told false p at c e bytes).1 w.1)
contents_shown ty p at c e bytes (inr (inr (inr (inr (inr (inr (inr (inl (inr w))))))))) = fails_as p at c e ty 0x9D w.0 ((fixupp_told true p at c e bytes).1 w.1)
contents_shown ty p at c e bytes (inr (inr (inr (inr (inr (inr (inr (inr (inl (inl w)))))))))) = fails_as p at c e ty 0xA0 w.0 ((ledata_told false p at c e bytes).1 w.1)
contents_shown ty p at c e bytes (inr (inr (inr (inr (inr (inr (inr (inr (inl (inr w)))))))))) = fails_as p at c e ty 0xA1 w.0 ((ledata_told true p at c e bytes).1 w.1)
contents_shown ty p at c e bytes (inr (inr (inr (inr (inr (inr (inr (inr (inr (inl (inl w))))))))))) = fails_as p at c e ty 0xA2 w.0 ((lidata_told false p at c e bytes).1 w.1)
contents_shown ty p at c e bytes (inr (inr (inr (inr (inr (inr (inr (inr (inr (inl (inr w))))))))))) = fails_as p at c e ty 0xA3 w.0 ((lidata_told true p at c e bytes).1 w.1)
contents_shown ty p at c e bytes (inr (inr (inr (inr (inr (inr (inr (inr (inr (inr (inl w))))))))))) = fails_as p at c e ty 0xB0 w.0 ((comdef_told c e bytes).1 w.1)
contents_shown ty p at c e bytes (inr (inr (inr (inr (inr (inr (inr (inr (inr (inr (inr (inl (inl w))))))))))))) = fails_as p at c e ty 0xB4 w.0 ((extdef_told true c e bytes).1 w.1)
contents_shown ty p at c e bytes (inr (inr (inr (inr (inr (inr (inr (inr (inr (inr (inr (inl (inr w))))))))))))) = fails_as p at c e ty 0xB5 w.0 ((extdef_told true c e bytes).1 w.1)
contents_shown ty p at c e bytes (inr (inr (inr (inr (inr (inr (inr (inr (inr (inr (inr (inr (inl (inl w)))))))))))))) = fails_as p at c e ty 0xB6 w.0 ((pubdef_told true false p c e bytes).1 w.1)
contents_shown ty p at c e bytes (inr (inr (inr (inr (inr (inr (inr (inr (inr (inr (inr (inr (inl (inr w)))))))))))))) = fails_as p at c e ty 0xB7 w.0 ((pubdef_told true true p c e bytes).1 w.1)
contents_shown ty p at c e bytes (inr (inr (inr (inr (inr (inr (inr (inr (inr (inr (inr (inr (inr (inl (inl w))))))))))))))) = fails_as p at c e ty 0xC2 w.0 ((comdat_told false p at c e bytes).1 w.1)
contents_shown ty p at c e bytes (inr (inr (inr (inr (inr (inr (inr (inr (inr (inr (inr (inr (inr (inl (inr w))))))))))))))) = fails_as p at c e ty 0xC3 w.0 ((comdat_told true p at c e bytes).1 w.1)
contents_shown ty p at c e bytes (inr (inr (inr (inr (inr (inr (inr (inr (inr (inr (inr (inr (inr (inr w)))))))))))))) = unknown p at c e ty w.0 ∙ ap (λ (y : OmfRefusal). refused {A = Record} y) (sym w.1)
