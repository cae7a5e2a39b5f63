-- Marks stay marks of what records add to.
use Rattle.std.proofs.Common.{◌≡◌, List, ◌++◌, length, Result, Ok, Err, sym, ap, subst, ◌∙◌, arith, length-append}
use Rattle.std.specs.Prelude.{OnOk}
use Rattle.std.specs.List.{sum_by, list_any}
use Rattle.std.proofs.lemmas.List.{take-append-le}
use Rattle.obj_types.specs.declared.object.Piece.{Piece}
use Rattle.obj_types.specs.declared.object.FixAt.{FixAt}
use Rattle.obj_types.specs.declared.parts.ObjParts.{ObjParts}
use Rattle.obj_types.specs.declared.refusal.OmfRefusal.{OmfRefusal}
use Rattle.omf_frame.specs.declared.omf_record.Rec.{Rec}
use Rattle.omf_model.specs.Record.{Record}
use Rattle.omf_model.specs.Add.{add}
use Rattle.omf_model.specs.AddLists.{parts_with, module_with, HasFour}
use Rattle.omf_model.specs.Begun.{IsBegun}
use Rattle.lx_types.specs.declared.fail.Fail.{Fail}
use Rattle.lx_types.specs.declared.fail.Fail.TheVariants.{Said, NoMemory}
use Rattle.lx_types.specs.Answers.{if_said, Gives}
use Rattle.omf_model.specs.ReadAfter.{then_add, read_after}
use Rattle.omf_model.proofs.BegunLaws.{begun-whole}
use Rattle.omf_model.proofs.PartsLaws.{add-lists}
use Rattle.omf_fields.proofs.SpanLaws.{ok_is}
use Rattle.omf_data.specs.declared.marks.Marks.{Marks}
use Rattle.omf_data.specs.Marks.{HavePieces, HaveFixes, AreMarks, has_byte, touches_bare}
use Rattle.omf_data.proofs.Ended.{ends-more}
use Rattle.omf_data.proofs.Places.{places-more}

-- more after them
pub pieces-more : (m : Marks) (xs ys : List Piece) → HavePieces m xs → HavePieces m (xs ++ ys)
pieces-more m xs ys have = record {
  seen = omega (arith, have.seen, length-append xs ys);
  counted = have.counted ∙ ap (λ (zs : List Piece). sum_by (λ (piece : Piece). length piece.bytes) zs) (sym (take-append-le m.pieces xs ys have.seen));
}

pub fixes-more : (m : Marks) (xs ys : List FixAt) → HaveFixes m xs → HaveFixes m (xs ++ ys)
fixes-more m xs ys have = record {
  seen = omega (arith, have.seen, length-append xs ys);
  located = λ seg x. have.located seg x ∙ ap (list_any (has_byte seg x)) (sym (take-append-le m.fixes xs ys have.seen));
  bare = λ seg start len. have.bare seg start len ∙ ap (list_any (touches_bare seg start len)) (sym (take-append-le m.fixes xs ys have.seen));
}

-- a record more
lists-more : (m : Marks) (p : ObjParts) (r : Record) → AreMarks m p → AreMarks m (parts_with p r)
unfolding parts_with module_with
lists-more m p r marks = record { pieces = pieces-more m p.module.pieces _ marks.pieces; ends = ends-more m.ends p.module.fixes _ marks.ends; fixes = fixes-more m p.module.fixes _ marks.fixes; begun = places-more m.begun p.comdats _ marks.begun }

pub record-more : (m : Marks) (p : ObjParts) (r : Record) → HasFour p.threads → AreMarks m p → AreMarks m (add p r)
record-more m p r four marks = subst (AreMarks m) (sym (add-lists p r four)) (lists-more m p r marks)

-- a record more that was read
pub read-more : (m : Marks) (p q : ObjParts) (rec : Rec) → IsBegun p → read_after p rec ≡ Ok q → AreMarks m p → AreMarks m q
read-more m p q rec begun is marks = from _ is
  where
    from : (read : Result Record OmfRefusal) → then_add p read ≡ Ok q → AreMarks m q
    from (Ok r) e = subst (AreMarks m) (ok_is (add p r) q e) (record-more m p r (begun-whole p begun).four marks)
    from (Err f) e = absurd cc

-- what a call added that took no marks
pub gives-more : (m : Marks) (p q : ObjParts) (rec : Rec) (r : Result (Unit {0}) (Fail OmfRefusal)) → IsBegun p → AreMarks m p → Gives (λ (u : Unit {0}). q) if_said r (read_after p rec) → OnOk r (AreMarks m q)
gives-more m p q rec (Ok u) begun marks is = read-more m p q rec begun is marks
gives-more m p q rec (Err (Said f)) begun marks is = tt
gives-more m p q rec (Err NoMemory) begun marks is = tt
