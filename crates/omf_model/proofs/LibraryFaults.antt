-- The first fault of a library.
use Rattle.std.proofs.Common.{◌≡◌, ℕ, zero, suc, ◌+◌, ◌≤◌, Bool, true, false, eqb, List, [], ◌∷◌, ◌++◌, length, take, drop, Result, Ok, Err, refl, sym, ap, subst, ◌∙◌, arith, inl, inr, length-append}
use Rattle.std.specs.Prelude.{◌⊎◌}
use Rattle.std.proofs.lemmas.Bool.{eqb-true, eqb-false, ne_eqb}
use Rattle.std.proofs.lemmas.List.{nil_from_length, take-append-drop}
use Rattle.lx_bytes.specs.Cursor.{Cursor}
use Rattle.lx_bytes.specs.LittleEndian.{AreBytes}
use Rattle.omf_frame.specs.Frame.{record_bytes, BeginsWhole}
use Rattle.obj_types.specs.declared.refusal.OmfRefusal.{OmfRefusal}
use Rattle.obj_types.specs.declared.refusal.OmfRefusal.TheVariants.{Short, BadField}
use Rattle.obj_types.specs.declared.object.ObjModule.{ObjModule}
use Rattle.omf_fields.specs.Within.{within}
use Rattle.lx_types.specs.Answers.{◌>>=◌}
use Rattle.omf_fields.specs.Fields.{Reading, check}
use Rattle.omf_model.specs.RawRecord.{whole_at, raw_at}
use Rattle.omf_model.specs.ReadModule.{header_at, module_at, is_page_size, up_to_page, ends_library, modules_within, library_of}
use Rattle.omf_model.specs.Object.{FaultAt}
use Rattle.omf_model.specs.Library.{Lib, PageFault, in_module, after_module, LibraryFault, no_record, other_type, no_page, in_modules, after}
use Rattle.omf_fields.proofs.SpanLaws.{Spans, bytes_after}
use Rattle.omf_fields.proofs.FieldLaws.{chosen}
use Rattle.omf_model.proofs.RawLaws.{whole_short, whole_cut, cut_off, whole_sound, whole_complete}
use Rattle.omf_model.proofs.PageLaws.{up_from}
use Rattle.omf_model.proofs.ModuleLaws.{ModuleForm, bind_err, module_sound, module_complete, module_faults, module_meets}
use Rattle.omf_model.proofs.LibraryLaws.{AreBytes-back, module_long, header_begins, header_first, header_place, whole_header, library_sound, library_complete}

-- nothing stands there
nothing_there : (at : ℕ) → module_at (record { at = at; left = [] }) ≡ Err (Short at)
unfolding module_at header_at raw_at whole_at
nothing_there at = refl

module_refused : (at : ℕ) (f : OmfRefusal) → module_at (record { at = at; left = [] }) ≡ Err f → FaultAt at [] f
module_refused at f e = module_faults at [] f (λ i. omega arith) e

pub pages_sound : (most size : ℕ) (c : Cursor) (f : OmfRefusal) → AreBytes c.left → length c.left ≤ most → modules_within most size c ≡ Err f → PageFault size c.at c.left f
unfolding modules_within within
pages_sound zero size c f bytes few e =
    let none : c.left ≡ [] = nil_from_length c.left (omega (arith, few)) in
    let same : Short c.at ≡ f = cc in
    subst (λ (xs : List ℕ). PageFault size c.at xs f) (sym none) (in_module refl (module_refused c.at f (nothing_there c.at ∙ ap (λ (q : OmfRefusal). Err q) same)))
pages_sound (suc most) size c f bytes few e =
    elim (chosen (ends_library c.left) (Ok []) (module_at c >>= λ m. modules_within most size (up_to_page size m.1) >>= λ others. Ok (m.0 ∷ others)) (Err f) e) [
      | inl h ↦ absurd cc
      | inr h ↦ elim (bind_err (module_at c) _ f h.1) [
        | inl k ↦ in_module h.0 (module_faults c.at c.left f bytes k)
        | inr k ↦
            let m = k.0.0 in
            let d = k.0.1 in
            let t = (module_sound c m d bytes k.1).0 in
            elim (bind_err (modules_within most size (up_to_page size d)) _ f k.2) [
              | inl l ↦
                  let shorter : length c.left ≡ length t.front + length d.left = ap (λ (xs : List ℕ). length xs) t.joined ∙ length-append t.front d.left in
                  let cut : length (drop (up_from size d.at) d.left) ≤ length d.left =
                  let parts : length (take (up_from size d.at) d.left ++ drop (up_from size d.at) d.left) ≡ length d.left = ap (λ (xs : List ℕ). length xs) (take-append-drop (up_from size d.at) d.left) in
                  omega (arith, parts, length-append (take (up_from size d.at) d.left) (drop (up_from size d.at) d.left)) in
                  let rest = pages_sound most size (up_to_page size d) f (AreBytes-back (take (up_from size d.at) d.left)
                  (drop (up_from size d.at) d.left) 0 d.left (sym (take-append-drop (up_from size d.at) d.left)) (bytes_after (ModuleForm m) c d t bytes))
                  (omega (arith, few, shorter, cut, module_long m t.front t.so)) l in
                  let place : (let x : Cursor = record { at = d.at; left = d.left } in x) ≡ after c.at t.front d.left = λ i. record { at = t.moved i; left = d.left } in
                  after_module m t.front d.left t.joined t.so (subst (λ (x : Cursor). PageFault size (up_to_page size x).at (up_to_page size x).left f) place rest)
              | inr l ↦ absurd cc
            ]
      ]
    ]

pub pages_complete : (most size : ℕ) (at : ℕ) (bytes : List ℕ) (f : OmfRefusal) → length bytes ≤ most → PageFault size at bytes f → modules_within most size (record { at = at; left = bytes }) ≡ Err f
unfolding modules_within within
pages_complete zero size at bytes f few (in_module opens h) =
    let none : bytes ≡ [] = nil_from_length bytes (omega (arith, few)) in
    let both : module_at (record { at = at; left = [] }) ≡ Err f = subst (λ (xs : List ℕ). module_at (record { at = at; left = xs }) ≡ failed f) none (module_meets at bytes f h) in
    refused (Short at) f (sym (nothing_there at) ∙ both)
  where
    failed : OmfRefusal → Reading ObjModule
    failed q = Err q

    refused : (x y : OmfRefusal) → failed x ≡ failed y → ◌≡◌ {A = Result (List ObjModule) OmfRefusal} (Err x) (Err y)
    refused x y e = let same : x ≡ y = cc in ap (λ (q : OmfRefusal). Err q) same
pages_complete zero size at bytes f few (after_module m body rest joined is h) =
    absurd (omega (arith, few, module_long m body is, ap (λ (xs : List ℕ). length xs) joined, length-append body rest))
pages_complete (suc most) size at bytes f few (in_module opens h) = rw (opens, module_meets at bytes f h) refl
pages_complete (suc most) size at bytes f few (after_module m body rest joined is h) =
    let d : Cursor = after at body rest in
    let t : Spans (ModuleForm m) (record { at = at; left = bytes }) d = record { front = body; joined = joined; moved = refl; so = is } in
    let opens : ends_library bytes ≡ false = subst (λ (xs : List ℕ). ends_library xs ≡ false) (sym joined) (header_first m body rest is) in
    let shorter : length bytes ≡ length body + length rest = ap (λ (xs : List ℕ). length xs) joined ∙ length-append body rest in
    let cut : length (drop (up_from size d.at) rest) ≤ length rest =
    let parts : length (take (up_from size d.at) rest ++ drop (up_from size d.at) rest) ≡ length rest = ap (λ (xs : List ℕ). length xs) (take-append-drop (up_from size d.at) rest) in
    omega (arith, parts, length-append (take (up_from size d.at) rest) (drop (up_from size d.at) rest)) in
    let others = pages_complete most size (up_to_page size d).at (up_to_page size d).left f (omega (arith, few, shorter, cut, module_long m body is)) h in
    rw (opens, module_complete (record { at = at; left = bytes }) m d t tt, others) refl

-- ---- the header

check_fault : {B : Type 0} (b : Bool) (refusal : OmfRefusal) (g : Unit {0} → Result B OmfRefusal) (f : OmfRefusal) → (check b refusal >>= g) ≡ Err f → ((b ≡ false) × (refusal ≡ f)) ⊎ ((b ≡ true) × (g tt ≡ Err f))
check_fault true refusal g f e = inr (refl, e)
check_fault false refusal g f e = inl (refl, cc)

pub library_faults : (bytes : List ℕ) (f : OmfRefusal) → AreBytes bytes → library_of bytes ≡ Err f → LibraryFault bytes f
unfolding library_of
library_faults bytes f are e =
    let start : Cursor = record { at = 0; left = bytes } in
    elim (bind_err (whole_at start) _ f e) [
      | inl h ↦ subst (λ (q : OmfRefusal). LibraryFault bytes q) (whole_short start f h) (no_record (whole_cut start f h))
      | inr h ↦
          let x = h.0 in
          let w = whole_sound start x are h.1 in
          elim (check_fault (eqb x.ty 0xF0) (BadField 0) _ f h.2) [
            | inl k ↦ subst (λ (q : OmfRefusal). LibraryFault bytes q) k.1 (other_type x.ty x.contents x.checksum x.after.left w.whole (λ same. eqb-false x.ty 0xF0 k.0 same))
            | inr k ↦
                let is : BeginsWhole bytes 0xF0 x.contents x.checksum x.after.left = subst (λ (ty : ℕ). BeginsWhole bytes ty x.contents x.checksum x.after.left) (eqb-true x.ty 0xF0 k.0) w.whole in
                let place : x.after.at ≡ 4 + length x.contents = omega (arith, w.after) in
                elim (check_fault (is_page_size x.after.at) (BadField 1) _ f k.1) [
                  | inl l ↦ subst (λ (q : OmfRefusal). LibraryFault bytes q) l.1 (no_page x.contents x.checksum x.after.left is (subst (λ (n : ℕ). is_page_size n ≡ false) place l.0))
                  | inr l ↦
                      let header = whole_header bytes x.contents x.checksum x.after.left is (subst (λ (n : ℕ). is_page_size n ≡ true) place l.0) in
                      let few : length x.after.left ≤ length bytes =
                      let all : length bytes ≡ length (record_bytes 0xF0 x.contents x.checksum) + length x.after.left =
                      ap (λ (xs : List ℕ). length xs) is.joined ∙ length-append (record_bytes 0xF0 x.contents x.checksum) x.after.left in
                      omega (arith, all) in
                      let rest = pages_sound (length bytes) x.after.at x.after f (AreBytes-back (record_bytes 0xF0 x.contents x.checksum) x.after.left 0 bytes is.joined are) few l.1 in
                      in_modules (4 + length x.contents) (record_bytes 0xF0 x.contents x.checksum) x.after.left is.joined header
                      (subst (λ (n : ℕ). PageFault n n x.after.left f) place rest)
                ]
          ]
    ]

pub library_meets : (bytes : List ℕ) (f : OmfRefusal) → LibraryFault bytes f → library_of bytes ≡ Err f
unfolding library_of
library_meets bytes f (no_record cut) = rw (cut_off (record { at = 0; left = bytes }) cut) refl
library_meets bytes f (other_type ty body checksum rest w other) = rw (whole_complete (record { at = 0; left = bytes }) ty body checksum rest w, ne_eqb ty 0xF0 other) refl
library_meets bytes f (no_page body checksum rest w bad) =
    let place : is_page_size (0 + 4 + length body) ≡ false = subst (λ (n : ℕ). is_page_size n ≡ false) (let e : 4 + length body ≡ 0 + 4 + length body = omega arith in e) bad in
    rw (whole_complete (record { at = 0; left = bytes }) 0xF0 body checksum rest w, place) refl
library_meets bytes f (in_modules size front back joined header fault) =
    let place = header_place size front header in
    let whole = header_begins bytes size front back joined header in
    let few : length back ≤ length bytes =
    let all : length bytes ≡ length front + length back = ap (λ (xs : List ℕ). length xs) joined ∙ length-append front back in
    omega (arith, all) in
    rw (whole_complete (record { at = 0; left = bytes }) 0xF0 _ _ back whole, place, header.page, pages_complete (length bytes) size size back f few fault) refl

pub library_fault_one : (bytes : List ℕ) (f g : OmfRefusal) → LibraryFault bytes f → LibraryFault bytes g → f ≡ g
library_fault_one bytes f g h k = same f g (sym (library_meets bytes f h) ∙ library_meets bytes g k)
  where
    same : (x y : OmfRefusal) → (let r : Result (List ObjModule) OmfRefusal = Err x in r) ≡ Err y → x ≡ y
    same x y e = cc

pub library_either : (bytes : List ℕ) → AreBytes bytes → ((ms : List ObjModule) × Lib bytes ms) ⊎ ((f : OmfRefusal) × LibraryFault bytes f)
library_either bytes are = by (library_of bytes) refl
  where
    by : (r : Result (List ObjModule) OmfRefusal) → library_of bytes ≡ r → ((ms : List ObjModule) × Lib bytes ms) ⊎ ((f : OmfRefusal) × LibraryFault bytes f)
    by (Ok ms) e = inl (ms, library_sound bytes ms are e)
    by (Err f) e = inr (f, library_faults bytes f are e)

pub library_not_both : (bytes : List ℕ) (ms : List ObjModule) (f : OmfRefusal) → Lib bytes ms → LibraryFault bytes f → ⊥
library_not_both bytes ms f h k = apart (sym (library_complete bytes ms h) ∙ library_meets bytes f k)
  where
    apart : (let r : Result (List ObjModule) OmfRefusal = Ok ms in r) ≡ Err f → ⊥
    apart e = absurd cc
