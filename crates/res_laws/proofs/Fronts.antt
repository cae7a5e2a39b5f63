-- Bytes at the front of what a file has from a place on, which stand in the bound file.
use Rattle.std.proofs.Common.{◌≡◌, ℕ, ◌+◌, ◌-◌, ◌<◌, ◌≤◌, inl, inr, true, List, [], ◌∷◌, ◌++◌, length, take, drop, Result, Ok, Err, refl, sym, subst, ap, ◌∙◌, append_assoc, arith, length-append}
use Rattle.std.proofs.Math.Seq.{take-append-add}
use Rattle.std.proofs.lemmas.Bool.{cases_lt}
use Rattle.std.proofs.lemmas.List.{length-take, length-drop, take-append-drop, take_at, get_or-drop, get_or-take, get_or_past}
use Rattle.lx_bytes.specs.Cursor.{Cursor}
use Rattle.lx_bytes.specs.LittleEndian.{AreBytes}
use Rattle.lx_types.specs.declared.refusal.LxRefusal.{LxRefusal}
use Rattle.lx_model.specs.Reading.{cursor, Many}
use Rattle.res_model.specs.declared.item.ResItem.{ResItem}
use Rattle.res_model.specs.Clear.{part, taken}
use Rattle.res_laws.proofs.Lists.{Same, take_same}
use Rattle.res_laws.proofs.Standing.{extended, part_stands}
use Rattle.res_laws.proofs.Clear.{is_free}
use Rattle.res_laws.proofs.Layouts.{CanExtend}
use Rattle.res_laws.proofs.HeaderNow.{long_of, longer}

pub bytes_from : (file : List ℕ) (at : ℕ) → AreBytes file → AreBytes (drop at file)
bytes_from file at h i = subst (λ (b : ℕ). b < 256) (sym (get_or-drop at file i 0)) (h (at + i))

pub bytes_up_to : (file : List ℕ) (n : ℕ) → AreBytes file → AreBytes (take n file)
bytes_up_to file n h i = elim (cases_lt i n) [
  | inl lt ↦ subst (λ (b : ℕ). b < 256) (sym (get_or-take n file i 0 lt)) (h i)
  | inr ge ↦ let size = length-take n file in subst (λ (b : ℕ). b < 256) (sym (get_or_past (take n file) i 0 (omega (arith, size, ge)))) (omega arith)
]

-- what a file has from a place on begins with these bytes
abbrev pub BeginsWith : List ℕ → ℕ → List ℕ → Type 0
BeginsWith file at p = (rest : List ℕ) × (drop at file ≡ p ++ rest)

still_front : (file now : List ℕ) (at : ℕ) (p : List ℕ) → BeginsWith file at p → length file ≤ length now → (at + length p ≤ length file → Same file now at (length p)) → BeginsWith now at p
still_front file now at [] begins long same = (drop at now, refl)
still_front file now at (x ∷ xs) begins long same =
    let p = x ∷ xs in
    let n = length p in
    let rest = begins.0 in
    let left = length-drop at file in
    let parts : length (drop at file) ≡ n + length rest = ap length begins.1 ∙ length-append p rest in
    let there : at + n ≤ length file = omega (arith, left, parts) in
    let front : take n (drop at now) ≡ p = take_same file now at n there long (same there) ∙ ap (take n) begins.1 ∙ take_at p rest n refl in
    (drop n (drop at now), sym (take-append-drop n (drop at now)) ∙ ap (λ (ys : List ℕ). ys ++ drop n (drop at now)) front)

-- bytes that are apart from the fields that are set stand at the front
pub front_stands : (file : List ℕ) (items : List ResItem) (at : ℕ) (p : List ℕ) → CanExtend file items → is_free file (part at (length p)) ≡ true → BeginsWith file at p → BeginsWith (extended file items) at p
front_stands file items at p can free begins =
    still_front file (extended file items) at p begins (longer file items can) (λ there. part_stands file items at (length p) (long_of file items can) there free)

-- ---- tables up to their end

-- the part of a table that is read whole
pub taken_is : {A : Type 0} (at a : ℕ) (bytes p rest : List ℕ) (m : Many A) → bytes ≡ p ++ rest → m.end ≡ Ok (cursor a rest) → taken at bytes m ≡ part at (length p)
taken_is at a bytes p rest m is end =
    let parts : length bytes ≡ length p + length rest = ap length is ∙ length-append p rest in
    let size : length bytes - length rest ≡ length p = omega (arith, parts) in
    ap (λ (r : Result Cursor LxRefusal). elim r [ Ok end ↦ part at (length bytes - length end.left) | Err e ↦ part at (length bytes) ]) end ∙ ap (part at) size

-- a part of so many bytes of it
pub take_begins : (n : ℕ) (bytes p rest : List ℕ) → take n bytes ≡ p ++ rest → (more : List ℕ) × (bytes ≡ p ++ more)
take_begins n bytes p rest is = (rest ++ drop n bytes, sym (take-append-drop n bytes) ∙ ap (λ (xs : List ℕ). xs ++ drop n bytes) is ∙ append_assoc p rest (drop n bytes))

pub begins_take : (n : ℕ) (bytes p more : List ℕ) → length p ≤ n → bytes ≡ p ++ more → (rest : List ℕ) × (take n bytes ≡ p ++ rest)
begins_take n bytes p more le is =
    let whole : n ≡ length p + (n - length p) = omega (arith, le) in
    (take (n - length p) more, ap (take n) is ∙ ap (λ (k : ℕ). take k (p ++ more)) whole ∙ take-append-add p more (n - length p))
