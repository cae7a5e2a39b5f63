-- The comments fail exactly so. "88h COMENT".
use Rattle.std.proofs.Common.{◌≡◌, ◌≢◌, ℕ, Bool, true, false, cond, eqb, leb, ltb, List, [], ◌∷◌, length, Ok, Err, refl, sym, ap, subst, arith}
use Rattle.std.specs.Prelude.{◌↔◌, not}
use Rattle.std.proofs.lemmas.Bool.{eqb-true, eqb-false, eq-eqb, ne_eqb, ltb-true, ltb-false}
use Rattle.lx_bytes.specs.Cursor.{Cursor}
use Rattle.lx_bytes.specs.LittleEndian.{AreBytes}
use Rattle.obj_types.specs.declared.refusal.OmfRefusal.{OmfRefusal}
use Rattle.obj_types.specs.declared.refusal.OmfRefusal.TheVariants.{BadField}
use Rattle.omf_fields.specs.Fields.{byte_at, number_at, name_at}
use Rattle.omf_fields.specs.Forms.{name}
use Rattle.omf_fields.proofs.SpanLaws.{Spans, Sound, Complete, ok_is, step, checked_step}
use Rattle.omf_fields.proofs.FieldLaws.{name_sound, name_complete}
use Rattle.omf_model.specs.Record.{Record, comment, default_library, impdef, expdef, by_ordinal, by_name}
use Rattle.omf_model.specs.ReadComments.{given_name_at, entry_at, impdef_at, expdef_at, extension_at, library_at, coment_at}
use Rattle.omf_faults.specs.FieldParts.{a_number, a_name}
use Rattle.omf_faults.specs.CommentRecords.{given_name, WrongEntry, WrongImpdef, WrongExpdef, WrongLibrary, WrongExtension, WrongComent}
use Rattle.omf_faults.specs.Laws.{FailsAs}
use Rattle.omf_faults.proofs.Told.{Judges, refused, done_tells, part_tells, last_tells, breaks_then, only_judges, choose_tells, either_tells}
use Rattle.omf_faults.proofs.FieldTold.{byte_judges, number_judges, name_judges}
use Rattle.omf_faults.proofs.NameTold.{is_not}

-- ---- names that are not empty

not_empty : (text : List ℕ) → (not (eqb (length text) 0) ≡ true) ↔ (text ≢ [])
not_empty [] = (λ h. absurd cc, λ h. absurd (h refl))
not_empty (b ∷ rest) =
    let filled : eqb (length (b ∷ rest)) 0 ≡ false = ne_eqb _ _ (λ none. omega (arith, none)) in
    (λ h none. absurd cc, λ h. (is_not (eqb (length (b ∷ rest)) 0)).1 filled)

given_sound : Sound given_name_at name (λ text. text ≢ [])
unfolding given_name_at
given_sound c x d bytes e =
    step _ _ _ name_sound c _ (x, d) bytes e λ n c1 t1 f1 b1 e1.
    let h = checked_step (not (eqb (length n) 0)) _ _ (x, d) e1 in
    subst (λ (q : List ℕ × Cursor). Spans (name q.0) c q.1 × (q.0 ≢ [])) (ok_is (n, c1) (x, d) h.1) (t1, (not_empty n).0 h.0)

given_complete : Complete given_name_at name (λ text. text ≢ [])
unfolding given_name_at
given_complete c x d t ok = rw (name_complete c x d t tt, (not_empty x).1 ok) refl

given_tells : (c : Cursor) (e : OmfRefusal) → AreBytes c.left → (given_name_at c ≡ Err e) ↔ given_name.wrong c e
unfolding given_name_at
given_tells c e bytes =
    part_tells name_at _ name_judges c _ e _ bytes λ text d b.
    breaks_then (not (eqb (length text) 0)) _ (not_empty text) (BadField c.at) (text, d) e

given_judges : Judges given_name_at given_name
given_judges = record { sound = given_sound; complete = given_complete; tells = given_tells }

-- ---- IMPDEF, EXPDEF

is_zero : (n : ℕ) → (eqb n 0 ≡ true) ↔ (n ≡ 0)
is_zero n = (λ h. eqb-true n 0 h, λ h. eq-eqb n 0 h)

is_not_zero : (n : ℕ) → (eqb n 0 ≡ false) ↔ (n ≢ 0)
is_not_zero n = (λ h. eqb-false n 0 h, λ h. ne_eqb n 0 h)

entry_tells : (flag : ℕ) (c : Cursor) (e : OmfRefusal) → AreBytes c.left → (entry_at flag c ≡ Err e) ↔ WrongEntry flag c e
unfolding entry_at
entry_tells flag c e bytes =
    choose_tells (eqb flag 0) _ _ (is_zero flag) (is_not_zero flag) _ _ e _ _
    (λ yes_. last_tells name_at a_name name_judges c (λ n. (by_name n.0, n.1)) e bytes)
    (λ no_. last_tells (number_at 2) (a_number 2) (number_judges 2) c (λ n. (by_ordinal n.0, n.1)) e bytes)

impdef_tells : FailsAs impdef_at WrongImpdef
unfolding impdef_at
impdef_tells c e bytes =
    part_tells byte_at _ byte_judges c _ e _ bytes λ flag c1 b1.
    part_tells _ _ name_judges c1 _ e _ b1 λ internal c2 b2.
    part_tells _ _ given_judges c2 _ e _ b2 λ from c3 b3.
    done_tells (entry_at flag c3) (λ entry. impdef (record { flag = flag; internal = internal; from = from; entry = entry.0 })) e _ (entry_tells flag c3 e b3)

expdef_tells : FailsAs expdef_at WrongExpdef
unfolding expdef_at
expdef_tells c e bytes =
    part_tells byte_at _ byte_judges c _ e _ bytes λ flag c1 b1.
    part_tells _ _ given_judges c1 _ e _ b1 λ exported c2 b2.
    part_tells _ _ name_judges c2 _ e _ b2 λ internal c3 b3.
    last_tells _ _ (only_judges (leb 128 flag) (number_at 2) (a_number 2) (number_judges 2)) c3 (λ ordinal. expdef (record { flag = flag; exported = exported; internal = internal; ordinal = ordinal.0 })) e b3

-- ---- the class

library_tells : FailsAs library_at WrongLibrary
library_tells c e bytes = by (ltb 255 (length c.left)) refl
  where
    by : (long : Bool) → ltb 255 (length c.left) ≡ long → (cond long (refused {A = Record} (BadField c.at)) (Ok (default_library c.left)) ≡ Err e) ↔ WrongLibrary c e
    by true is = (
      λ h. (λ fits. omega (arith, fits, ltb-true _ _ is), (let same : BadField c.at ≡ e = cc in sym same)),
      λ w. ap (λ (y : OmfRefusal). refused {A = Record} y) (sym w.1),
    )
    by false is = (λ h. absurd cc, λ w. absurd (w.0 (ltb-false _ _ is)))

extension_tells : FailsAs extension_at WrongExtension
unfolding extension_at
extension_tells c e bytes =
    part_tells byte_at _ byte_judges c _ e _ bytes λ subtype d b.
    either_tells subtype 1 2 (λ same. omega (arith, same)) (impdef_at d) (expdef_at d) comment e _ _ (impdef_tells d e b) (expdef_tells d e b)

pub coment_told : FailsAs coment_at WrongComent
unfolding coment_at
coment_told c e bytes =
    part_tells byte_at _ byte_judges c _ e _ bytes λ flags c1 b1.
    part_tells byte_at _ byte_judges c1 _ e _ b1 λ class c2 b2.
    either_tells class 0x9F 0xA0 (λ same. omega (arith, same)) (library_at c2) (extension_at c2) comment e _ _ (library_tells c2 e b2) (extension_tells c2 e b2)
