-- A library is its header and the modules after it.
use Rattle.std.proofs.Common.{◌≡◌, ℕ, ◌+◌, Bool, true, false, List, length, take, drop, Ok, Err, Result, refl, sym, ap, subst, ◌∙◌, arith, take-append-drop, length-drop}
use Rattle.std.specs.Prelude.{◌==◌}
use Rattle.lx_types.specs.Answers.{◌>>=◌, if_said, Gives, Answers}
use Rattle.lx_types.specs.declared.fail.Fail.{Fail}
use Rattle.lx_types.specs.declared.fail.Fail.TheVariants.{Said, NoMemory}
use Rattle.lx_bytes.specs.Cursor.{Cursor, advance}
use Rattle.lx_bytes.specs.LittleEndian.{AreBytes, little}
use Rattle.obj_types.specs.declared.object.ObjModule.{ObjModule}
use Rattle.obj_types.specs.declared.refusal.OmfRefusal.{OmfRefusal}
use Rattle.obj_types.specs.declared.refusal.OmfRefusal.TheVariants.{Short, BadField}
use Rattle.omf_fields.specs.Fields.{check}
use Rattle.omf_fields.proofs.FieldLaws.{guard_so}
use Rattle.omf_fields.proofs.SpanLaws.{bind_ok, cursor_is, ok_is}
use Rattle.omf_model.specs.Library.{Lib, LibraryFault}
use Rattle.omf_model.specs.RawRecord.{RawRecord, raw_of, is_whole, whole_at}
use Rattle.omf_model.specs.ReadModule.{is_page_size, library_of, modules_within, modules_at}
use Rattle.omf_model.proofs.LibraryFaults.{library_faults}
use Rattle.omf_model.proofs.LibraryLaws.{AreBytes-back, library_sound}
use Rattle.omf_model.proofs.TurnLaws.{modules-more}
use Rattle.omf_files.specs.Modules.{page_size_of}

abbrev start : List ℕ → Cursor
start bytes = record { at = 0; left = bytes }

-- what is after a whole record
beyond : (bytes : List ℕ) (f : RawRecord) → whole_at (start bytes) ≡ Ok f → f.after ≡ advance f.after.at (start bytes)
unfolding whole_at
beyond bytes f e =
    let len : ℕ = little (take 2 (drop 1 bytes)) in
    let k = guard_so (is_whole len bytes) (Short 0) (raw_of len (start bytes)) f e in
    subst (λ (g : RawRecord). g.after ≡ advance g.after.at (start bytes)) k.1 (ap (λ (n : ℕ). advance n (start bytes)) (let same : 3 + len ≡ 0 + (3 + len) = omega arith in same))

abbrev judged : {A : Type 0} → (b1 b2 : Bool) (e1 e2 : OmfRefusal) → Result A OmfRefusal → Result A OmfRefusal
judged b1 b2 e1 e2 r = check b1 e1 >>= λ a. check b2 e2 >>= λ b. r

judged-ok : {A B : Type 0} (b1 b2 : Bool) (e1 e2 : OmfRefusal) (x z : A) (y : Result B OmfRefusal) → judged b1 b2 e1 e2 (Ok x) ≡ Ok z → (x ≡ z) × (judged b1 b2 e1 e2 y ≡ y)
judged-ok true true e1 e2 x z y e = (ok_is x z e, refl)
judged-ok true false e1 e2 x z y e = absurd cc
judged-ok false b2 e1 e2 x z y e = absurd cc

err-is : {A B : Type 0} (d f : OmfRefusal) → (let r : Result A OmfRefusal = Err d in r) ≡ Err f → (let r : Result B OmfRefusal = Err d in r) ≡ Err f
err-is {A} {B} d f e = let same : d ≡ f = cc in ap (λ (k : OmfRefusal). Err k) same

judged-err : {A B : Type 0} (b1 b2 : Bool) (e1 e2 f : OmfRefusal) (x : A) (y : Result B OmfRefusal) → judged b1 b2 e1 e2 (Ok x) ≡ Err f → judged b1 b2 e1 e2 y ≡ Err f
judged-err true true e1 e2 f x y e = absurd cc
judged-err {A} {B} true false e1 e2 f x y e = err-is {A = A} e2 f e
judged-err {A} {B} false b2 e1 e2 f x y e = err-is {A = A} e1 f e

by_raw : (most : ℕ) (r : Result RawRecord OmfRefusal) (refusal : OmfRefusal) → (r >>= λ f. judged (f.ty == 0xF0) (is_page_size f.after.at) (BadField 0) (BadField 1) (Ok f.after.at)) ≡ Err refusal
    → (r >>= λ f. judged (f.ty == 0xF0) (is_page_size f.after.at) (BadField 0) (BadField 1) (modules_within most f.after.at f.after)) ≡ Err refusal
by_raw most (Ok f) refusal e = judged-err (f.ty == 0xF0) (is_page_size f.after.at) (BadField 0) (BadField 1) refusal f.after.at (modules_within most f.after.at f.after) e
by_raw most (Err d) refusal e = err-is {A = ℕ} d refusal e

pub refused : (bytes : List ℕ) (refusal : OmfRefusal) → page_size_of bytes ≡ Err refusal → library_of bytes ≡ Err refusal
unfolding page_size_of library_of
refused bytes refusal e = by_raw (length bytes) (whole_at (start bytes)) refusal e

goes : (bytes : List ℕ) (size : ℕ) → page_size_of bytes ≡ Ok size → library_of bytes ≡ modules_within (length bytes) size (advance size (start bytes))
unfolding page_size_of library_of
goes bytes size e =
    let b = bind_ok (whole_at (start bytes)) (λ f. judged (f.ty == 0xF0) (is_page_size f.after.at) (BadField 0) (BadField 1) (Ok f.after.at)) size e in
    let k = judged-ok (b.0.ty == 0xF0) (is_page_size b.0.after.at) (BadField 0) (BadField 1) b.0.after.at size (modules_within (length bytes) b.0.after.at b.0.after) b.2 in
    let there = beyond bytes b.0 b.1 in
    ap (λ (r : Result RawRecord OmfRefusal). r >>= λ f. judged (f.ty == 0xF0) (is_page_size f.after.at) (BadField 0) (BadField 1) (modules_within (length bytes) f.after.at f.after)) b.1
    ∙ k.1
    ∙ ap (λ (c : Cursor). modules_within (length bytes) b.0.after.at c) there
    ∙ ap (λ (n : ℕ). modules_within (length bytes) n (advance n (start bytes))) k.0

pub library : (bytes : List ℕ) (size : ℕ) (c d : Cursor) → AreBytes bytes → page_size_of bytes ≡ Ok size → c.at ≡ 0 → c.left ≡ bytes → d ≡ advance size c → library_of bytes ≡ modules_at size d
library bytes size c d are e place left taken =
    let here : start bytes ≡ c = cursor_is c 0 bytes (sym place) (sym left) in
    let back : AreBytes (drop size bytes) = AreBytes-back (take size bytes) (drop size bytes) 0 bytes (sym (take-append-drop size bytes)) are in
    goes bytes size e
    ∙ modules-more (length bytes) size (advance size (start bytes)) back (omega (arith, length-drop size bytes))
    ∙ ap (λ (k : Cursor). modules_at size (advance size k)) here
    ∙ ap (λ (k : Cursor). modules_at size k) (sym taken)

pub meant : (bytes : List ℕ) (r : Result (List ObjModule) (Fail OmfRefusal)) → AreBytes bytes → Gives (λ (ms : List ObjModule). ms) if_said r (library_of bytes) → Answers r (Lib bytes) (LibraryFault bytes)
meant bytes (Ok ms) are h = library_sound bytes ms are h
meant bytes (Err (Said refusal)) are h = library_faults bytes refusal are h
meant bytes (Err NoMemory) are h = tt
