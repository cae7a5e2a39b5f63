-- What marks say of new fixes and of a field that was added.
use Rattle.std.proofs.Common.{◌≡◌, ℕ, ◌<◌, true, List, Ok, Err, refl, ap, subst, ◌∙◌}
use Rattle.std.specs.List.{list_any}
use Rattle.std.proofs.lemmas.Bool.{ltb-true, lt-ltb}
use Rattle.std.proofs.Math.Bool.{and-true}
use Rattle.lx_types.proofs.Lists.{any_agree}
use Rattle.lx_bytes.specs.Cursor.{Cursor}
use Rattle.obj_types.specs.declared.object.FixAt.{FixAt}
use Rattle.obj_types.specs.declared.object.StartAt.{StartAt}
use Rattle.obj_types.specs.declared.parts.ObjParts.{ObjParts}
use Rattle.obj_types.specs.Location.{location_len, meets}
use Rattle.omf_fields.specs.Fields.{Reading}
use Rattle.omf_fields.proofs.SpanLaws.{ok_is}
use Rattle.omf_model.specs.Add.{add_field}
use Rattle.omf_model.specs.Fixups.{is_location, touches}
use Rattle.omf_model.specs.Record.{FixField, location_of}
use Rattle.omf_model.proofs.FixLaws.{and_true}
use Rattle.omf_data.specs.declared.marks.Marks.{Marks}
use Rattle.omf_data.specs.Marks.{AreMarks}
use Rattle.omf_data.proofs.Ended.{ends-more}
use Rattle.omf_data.proofs.Stay.{fixes-more}
use Rattle.omf_fix.specs.Field.{then_field}
use Rattle.omf_fix.specs.Placed.{fix_of}

-- ---- new fixes

-- a location that there is has a byte
pub some-bytes : (high : ℕ) → is_location high ≡ true → 0 < location_len (location_of high)
some-bytes high e = ltb-true _ _ (and_true _ _ e).0

-- its bytes are touched where it shares a byte
touch-meets : (g f : FixAt) → 0 < location_len g.loc → touches g.seg g.offset (location_len g.loc) f ≡ meets f g
touch-meets g f some = rw (lt-ltb 0 (location_len g.loc) some, and-true) refl

pub touch-any : (fixes : List FixAt) (seg x size high : ℕ) (what : StartAt) → size ≡ location_len (location_of high) → 0 < location_len (location_of high)
    → list_any (touches seg x size) fixes ≡ list_any (λ f. meets f (fix_of seg x high what)) fixes
touch-any fixes seg x size high what is some =
    ap (λ (n : ℕ). list_any (touches seg x n) fixes) is
    ∙ any_agree (touches seg x (location_len (location_of high))) (λ f. meets f (fix_of seg x high what)) (λ f. touch-meets (fix_of seg x high what) f some) fixes

pub touch-copies : (fixes : List FixAt) (seg size high : ℕ) (what : StartAt) → size ≡ location_len (location_of high) → 0 < location_len (location_of high) → (copies : List ℕ)
    → list_any (λ x. list_any (touches seg x size) fixes) copies ≡ list_any (λ x. list_any (λ f. meets f (fix_of seg x high what)) fixes) copies
touch-copies fixes seg size high what is some = any_agree _ _ (λ x. touch-any fixes seg x size high what is some)

-- ---- a field that was added

field-more : (m : Marks) (p : ObjParts) (f : FixField) → AreMarks m p → AreMarks m (add_field p f)
unfolding add_field
field-more m p f marks = record { pieces = marks.pieces; ends = ends-more m.ends p.module.fixes _ marks.ends; fixes = fixes-more m p.module.fixes _ marks.fixes; begun = marks.begun }

pub adds-more : (m : Marks) (p q : ObjParts) (read : Reading FixField) (d : Cursor) → AreMarks m p → then_field p read ≡ Ok (q, d) → AreMarks m q
adds-more m p q (Ok f) d marks e =
    let same = ok_is (add_field p f.0, f.1) (q, d) e in
    subst (AreMarks m) (λ i. (same i).0) (field-more m p f.0 marks)
adds-more m p q (Err f) d marks e = absurd cc
