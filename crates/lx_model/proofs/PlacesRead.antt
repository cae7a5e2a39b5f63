-- Tables of entries of one length, and the header, are read as they were written.
use Rattle.std.proofs.Common.{◌≡◌, ℕ, ◌+◌, ◌*◌, ◌<◌, ◌^◌, true, List, [], ◌∷◌, ◌++◌, map, length, take, drop, Option, Some, refl, sym, subst, ap, ◌∙◌, append_assoc, zero-add, arith, length-append}
use Rattle.std.specs.Prelude.{replicate, option_map}
use Rattle.std.specs.List.{flat_map, range_with_len, AllByRecursion as Each}
use Rattle.std.proofs.lemmas.List.{take_at, drop_at}
use Rattle.lx_bytes.specs.LittleEndian.{little, little_bytes}
use Rattle.lx_bytes.proofs.Numbers.{length-little_bytes, little-little_bytes}
use Rattle.lx_types.specs.declared.object.ObjHead.{ObjHead}
use Rattle.lx_types.specs.declared.object.PageHead.{PageHead}
use Rattle.lx_types.specs.declared.object.PageKind.{PageKind}
use Rattle.lx_types.specs.declared.object.PageKind.TheVariants.{Plain, Iterated, Invalid, Zero}
use Rattle.lx_model.specs.declared.lengths.TheConstants.{OBJECT_ENTRY_LEN, PAGE_ENTRY_LEN}
use Rattle.lx_model.specs.declared.header_fields.TheConstants.{LX_SIGNATURE}
use Rattle.lx_model.specs.Reading.{number_at}
use Rattle.lx_model.specs.Header.{is_lx_at, header_place, field, header_fields}
use Rattle.lx_model.specs.Tables.{object_entry, page_kind}
use Rattle.lx_model.specs.TableSpelling.{doublewords, AreDoublewords, header_spelling, object_spelling, objects_spelling, ObjectHeadFits, page_flags, page_fields, page_spelling, pages_spelling, PageHeadFits}
use Rattle.lx_model.specs.TableLaws.{DoublewordsReadAgain, ObjectsReadAgain, PagesReadAgain, HeaderReadAgain}

-- ---- a number at a place

-- the number in n bytes after others
number_read : (n x : ℕ) (before front rest : List ℕ) (skip : ℕ) → length front ≡ skip → x < 256 ^ n → number_at n (before ++ (front ++ (little_bytes n x ++ rest))) (length before + skip) ≡ x
number_read n x before front rest skip len fits =
    let whole : before ++ (front ++ (little_bytes n x ++ rest)) ≡ (before ++ front) ++ (little_bytes n x ++ rest) = sym (append_assoc before front (little_bytes n x ++ rest)) in
    let place : length (before ++ front) ≡ length before + skip = omega (arith, len, length-append before front) in
    let size : length (little_bytes n x) ≡ n = length-little_bytes n x in
    ap (λ (file : List ℕ). little (take n (drop (length before + skip) file))) whole
    ∙ ap (λ (ys : List ℕ). little (take n ys)) (drop_at (before ++ front) (little_bytes n x ++ rest) (length before + skip) place)
    ∙ ap little (take_at (little_bytes n x) rest n size) ∙ little-little_bytes n x fits

-- ---- entries of one length

-- an entry is read where it is spelled
abbrev IsRead : {X Y : Type 0} → (X → Type 0) → (X → List ℕ) → (X → Y) → (List ℕ → ℕ → Y) → Type 0
IsRead {X} {Y} Fits spell value entry = (before : List ℕ) (x : X) (rest : List ℕ) → Fits x → entry (before ++ (spell x ++ rest)) (length before) ≡ value x

entries_read : {X Y : Type 0} (Fits : X → Type 0) (spell : X → List ℕ) (value : X → Y) (entry : List ℕ → ℕ → Y) (place : ℕ → ℕ) (size : ℕ) →
    IsRead Fits spell value entry → ((x : X) → length (spell x) ≡ size) → ((a : ℕ) → place (a + 1) ≡ place a + size) →
    (xs : List X) (a : ℕ) (before rest file : List ℕ) → Each Fits xs →
    length before ≡ place a → file ≡ before ++ (flat_map spell xs ++ rest) → map (λ k. entry file (place k)) (range_with_len a (length xs)) ≡ map value xs
entries_read Fits spell value entry place size read sized next [] a before rest file fits at is = refl
entries_read {X} {Y} Fits spell value entry place size read sized next (x ∷ xs) a before rest file fits at is =
    let tail = flat_map spell xs ++ rest in
    let grouped : file ≡ before ++ (spell x ++ tail) = is ∙ ap (λ (ys : List ℕ). before ++ ys) (append_assoc (spell x) (flat_map spell xs) rest) in
    let here : entry file (place a) ≡ value x = ap (λ (n : ℕ). entry file n) (sym at) ∙ ap (λ (ys : List ℕ). entry ys (length before)) grouped ∙ read before x tail fits.0 in
    let step = next a in
    let long = sized x in
    let after : length (before ++ spell x) ≡ place (a + 1) = omega (arith, at, step, long, length-append before (spell x)) in
    let moved : file ≡ (before ++ spell x) ++ tail = grouped ∙ sym (append_assoc before (spell x) tail) in
    let others = entries_read Fits spell value entry place size read sized next xs (a + 1) (before ++ spell x) rest file fits.1 after moved in
    ap (λ (y : Y). y ∷ map (λ k. entry file (place k)) (range_with_len (a + 1) (length xs))) here ∙ ap (λ (ys : List Y). value x ∷ ys) others

map_same : {X : Type 0} (xs : List X) → map (λ x. x) xs ≡ xs
map_same [] = refl
map_same {X} (x ∷ xs) = ap (λ (ys : List X). x ∷ ys) (map_same xs)

-- ---- doublewords

doubleword_read : IsRead (λ n. n < 2 ^ 32) (little_bytes 4) (λ n. n) (λ file at. number_at 4 file at)
doubleword_read before n rest fits =
    let none : length before + 0 ≡ length before = omega arith in
    subst (λ (at : ℕ). number_at 4 (before ++ (little_bytes 4 n ++ rest)) at ≡ n) none (number_read 4 n before [] rest 0 refl fits)

pub doublewords_again : DoublewordsReadAgain
doublewords_again before ns rest fits =
    entries_read (λ n. n < 2 ^ 32) (little_bytes 4) (λ n. n) (λ file at. number_at 4 file at)
    (λ k. length before + 4 * k) 4 doubleword_read (λ x. refl) (λ a. omega arith) ns 0 before rest (before ++ (doublewords ns ++ rest)) fits (omega arith) refl
    ∙ map_same ns

-- ---- objects

abbrev record_of : ℕ → ℕ → ℕ → ℕ → ℕ → ObjHead
record_of a b c d e = record { size = a; base = b; flags = c; first = d; count = e }

object_read : IsRead ObjectHeadFits object_spelling (λ o. o) object_entry
object_read before o rest fits =
    let s = little_bytes 4 o.size in
    let b = little_bytes 4 o.base in
    let f = little_bytes 4 o.flags in
    let i = little_bytes 4 o.first in
    let c = little_bytes 4 o.count in
    let r = little_bytes 4 0 in
    let none : length before + 0 ≡ length before = omega arith in
    let file = before ++ (object_spelling o ++ rest) in
    let size : number_at 4 file (length before) ≡ o.size = subst (λ (at : ℕ). number_at 4 file at ≡ o.size) none (number_read 4 o.size before [] (b ++ (f ++ (i ++ (c ++ (r ++ rest))))) 0 refl fits.size) in
    let base : number_at 4 file (length before + 4) ≡ o.base = number_read 4 o.base before s (f ++ (i ++ (c ++ (r ++ rest)))) 4 refl fits.base in
    let flags : number_at 4 file (length before + 8) ≡ o.flags = number_read 4 o.flags before (s ++ b) (i ++ (c ++ (r ++ rest))) 8 refl fits.flags in
    let first : number_at 4 file (length before + 12) ≡ o.first = number_read 4 o.first before (s ++ b ++ f) (c ++ (r ++ rest)) 12 refl fits.first in
    let count : number_at 4 file (length before + 16) ≡ o.count = number_read 4 o.count before (s ++ b ++ f ++ i) (r ++ rest) 16 refl fits.count in
    same size base flags first count
  where
    same : {a b c d e a' b' c' d' e' : ℕ} → a ≡ a' → b ≡ b' → c ≡ c' → d ≡ d' → e ≡ e' →
        record_of a b c d e ≡ record_of a' b' c' d' e'
    same p q r s t = cc

pub objects_again : ObjectsReadAgain
objects_again before os rest fits =
    entries_read ObjectHeadFits object_spelling (λ o. o) object_entry (λ k. length before + OBJECT_ENTRY_LEN * k) OBJECT_ENTRY_LEN object_read
    (λ x. refl) (λ a. omega arith) os 0 before rest (before ++ (objects_spelling os ++ rest)) fits (omega arith) refl
    ∙ map_same os

-- ---- pages

kind_again : (kind : PageKind) → page_kind (page_flags kind) ≡ Some kind
kind_again Plain = refl
kind_again Iterated = refl
kind_again Invalid = refl
kind_again Zero = refl

flags_small : (kind : PageKind) → page_flags kind < 256 ^ 2
flags_small Plain = omega arith
flags_small Iterated = omega arith
flags_small Invalid = omega arith
flags_small Zero = omega arith

abbrev page_of : PageKind → ℕ → ℕ → PageHead
page_of kind at len = record { kind = kind; at = at; len = len }

page_read : IsRead PageHeadFits page_spelling Some page_fields
page_read before p rest fits =
    let a = little_bytes 4 p.at in
    let l = little_bytes 2 p.len in
    let k = little_bytes 2 (page_flags p.kind) in
    let none : length before + 0 ≡ length before = omega arith in
    let file = before ++ (page_spelling p ++ rest) in
    let at : number_at 4 file (length before) ≡ p.at = subst (λ (n : ℕ). number_at 4 file n ≡ p.at) none (number_read 4 p.at before [] (l ++ (k ++ rest)) 0 refl fits.at) in
    let len : number_at 2 file (length before + 4) ≡ p.len = number_read 2 p.len before a (k ++ rest) 4 refl fits.len in
    let flags : number_at 2 file (length before + 6) ≡ page_flags p.kind = number_read 2 (page_flags p.kind) before (a ++ l) rest 6 refl (flags_small p.kind) in
    let kind : page_kind (number_at 2 file (length before + 6)) ≡ Some p.kind = ap page_kind flags ∙ kind_again p.kind in
    ap (λ (o : Option PageKind). option_map (λ x. page_of x (number_at 4 file (length before)) (number_at 2 file (length before + 4))) o) kind
    ∙ ap (λ (n : ℕ). Some (page_of p.kind n (number_at 2 file (length before + 4)))) at ∙ ap (λ (n : ℕ). Some (page_of p.kind p.at n)) len

pub pages_again : PagesReadAgain
pages_again before ps rest fits =
    entries_read PageHeadFits page_spelling Some page_fields (λ k. length before + PAGE_ENTRY_LEN * k) PAGE_ENTRY_LEN page_read
    (λ x. refl) (λ a. omega arith) ps 0 before rest (before ++ (pages_spelling ps ++ rest)) fits (omega arith) refl

-- ---- the header

at_start : (file : List ℕ) → is_lx_at file 0 ≡ true → header_fields file ≡ map (λ k. number_at 4 file (4 * k)) (range_with_len 0 43)
unfolding header_place field
at_start file is = rw is refl

starts : (others rest : List ℕ) → is_lx_at (header_spelling (LX_SIGNATURE ∷ others) ++ rest) 0 ≡ true
starts others rest = refl

header_by : (others rest : List ℕ) → length others ≡ 42 → AreDoublewords (LX_SIGNATURE ∷ others) → header_fields (header_spelling (LX_SIGNATURE ∷ others) ++ rest) ≡ LX_SIGNATURE ∷ others
header_by others rest count fits =
    let fields = LX_SIGNATURE ∷ others in
    let after = replicate 24 0 ++ rest in
    let file = header_spelling fields ++ rest in
    let grouped : file ≡ doublewords fields ++ after = append_assoc (doublewords fields) (replicate 24 0) rest in
    let number : length fields ≡ 43 = omega (arith, count) in
    let all = doublewords_again [] fields after fits in
    at_start file (starts others rest) ∙ ap (λ (x : List ℕ). map (λ k. number_at 4 x (4 * k)) (range_with_len 0 43)) grouped
    ∙ ap (λ (n : ℕ). map (λ k. number_at 4 (doublewords fields ++ after) (4 * k)) (range_with_len 0 n)) (sym number) ∙ no_front (doublewords fields ++ after) (length fields) ∙ all
  where
    no_front : (file : List ℕ) (n : ℕ) → map (λ k. number_at 4 file (4 * k)) (range_with_len 0 n) ≡ map (λ k. number_at 4 file (0 + 4 * k)) (range_with_len 0 n)
    no_front file n = simp zero-add

pub header_again : HeaderReadAgain
header_again fields rest fits = subst (λ (fs : List ℕ). AreDoublewords fs → header_fields (header_spelling fs ++ rest) ≡ fs) (sym fits.signature) (header_by fits.others rest fits.count) fits.fit
