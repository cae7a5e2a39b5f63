-- Bytes are one list of items, or have one first fault, and not both.
use Rattle.std.proofs.Common.{◌≡◌, ◌⊎◌, inl, inr, ℕ, zero, suc, ◌+◌, ◌-◌, ◌<◌, ◌≤◌, Bool, true, false, cond, eqb, ◌||◌, nat_le, List, [], ◌∷◌, ◌++◌, length, take, drop, get_or, Option, Some, None, refl, sym, subst, ap, ◌∙◌, append-nil, append_assoc, arith, length-append}
use Rattle.std.specs.Prelude.{Result, Ok, Err}
use Rattle.std.specs.List.{list_any, AllByRecursion as Each}
use Rattle.std.proofs.lemmas.Bool.{le-ltb}
use Rattle.std.proofs.lemmas.Bool.Decides.{nat_tests}
use Rattle.std.proofs.Math.Seq.{take-append_seam, drop-append_seam}
use Rattle.lx_bytes.specs.LittleEndian.{AreBytes}
use Rattle.lx_bytes.proofs.Numbers.{little-little_bytes}
use Rattle.lx_model.specs.Reading.{number_at, ◌then◌}
use Rattle.res_model.specs.declared.item.TheConstants.{MARK, FIELDS}
use Rattle.res_model.specs.ItemFields.{type_at, id_at, length_at, item_at, short_field, mark_fault, fields_fault}
use Rattle.res_model.specs.ResFile.{item_spelling, items_spelling, ItemFits, has_key, same_key, AreApart, IsResFile}
use Rattle.res_model.specs.Faults.{FirstFault, item_fault}
use Rattle.res_file.specs.Seen.{AreRead}
use Rattle.res_model.specs.declared.item.ResItem.{ResItem}
use Rattle.res_model.specs.declared.refusal.ResRefusal.{ResRefusal}
use Rattle.res_model.specs.declared.refusal.ResRefusal.TheVariants.{Short, BadItem, Twice}
use Rattle.res_file.proofs.Progress.{nothing_read, one_more, all_read, faulty, fault_of_fields, fault_of_key, turned}

-- ---- the fields of an item as it is spelled

type_is : (i : ResItem) (rest : List ℕ) → ItemFits i → type_at (item_spelling i ++ rest) ≡ i.ty
type_is i rest fits = little-little_bytes 2 i.ty fits.ty

id_is : (i : ResItem) (rest : List ℕ) → ItemFits i → id_at (item_spelling i ++ rest) ≡ i.id
id_is i rest fits = little-little_bytes 2 i.id fits.id

flags_are : (i : ResItem) (rest : List ℕ) → ItemFits i → number_at 2 (item_spelling i ++ rest) 6 ≡ i.flags
flags_are i rest fits = little-little_bytes 2 i.flags fits.flags

length_is : (i : ResItem) (rest : List ℕ) → ItemFits i → length_at (item_spelling i ++ rest) ≡ length i.bytes
length_is i rest fits = little-little_bytes 4 (length i.bytes) fits.bytes

abbrev the-item : ℕ → ℕ → ℕ → List ℕ → ResItem
the-item ty id flags bytes = record { ty = ty; id = id; flags = flags; bytes = bytes }

same_item : {t t' i i' f f' : ℕ} {b b' : List ℕ} → t ≡ t' → i ≡ i' → f ≡ f' → b ≡ b' → the-item t i f b ≡ the-item t' i' f' b'
same_item p q r s = cc

item_is : (i : ResItem) (rest : List ℕ) → ItemFits i → item_at (item_spelling i ++ rest) ≡ i
item_is i rest fits =
    let bytes : take (length_at (item_spelling i ++ rest)) (i.bytes ++ rest) ≡ i.bytes =
    ap (λ (n : ℕ). take n (i.bytes ++ rest)) (length_is i rest fits) ∙ take-append_seam i.bytes rest in
    same_item (type_is i rest fits) (id_is i rest fits) (flags_are i rest fits) bytes

twelve : (n : ℕ) → suc (suc (suc (suc (suc (suc (suc (suc (suc (suc (suc (suc n))))))))))) ≡ 12 + n
twelve n = omega arith

spelled_length : (i : ResItem) → length (item_spelling i) ≡ FIELDS + length i.bytes
spelled_length i = twelve (length i.bytes)

-- what stands after the item
rest_is : (i : ResItem) (rest : List ℕ) → ItemFits i → drop (FIELDS + length_at (item_spelling i ++ rest)) (item_spelling i ++ rest) ≡ rest
rest_is i rest fits =
    ap (λ (n : ℕ). drop (FIELDS + n) (item_spelling i ++ rest)) (length_is i rest fits)
    ∙ ap (λ (n : ℕ). drop n (item_spelling i ++ rest)) (sym (spelled_length i))
    ∙ drop-append_seam (item_spelling i) rest

-- ---- it has no fault

there : (at : ℕ) (left : List ℕ) (offset width : ℕ) → offset + width ≤ length left → short_field at left offset width ≡ None
there at left offset width le = ap (λ (b : Bool). cond b (Some (Short (at + offset))) None) (le-ltb (length left) (offset + width) le)

both_none : {A : Type 0} {a b : Option A} → a ≡ None → b ≡ None → (a then b) ≡ None
both_none {b = b} p q = ap (λ x. x then b) p ∙ q

marked : (at : ℕ) (left : List ℕ) (offset : ℕ) → offset + 1 ≤ length left → get_or left offset 0 ≡ MARK → mark_fault at left offset ≡ None
marked at left offset le is = both_none (there at left offset 1 le) (ap (λ (n : ℕ). cond (eqb n MARK) None (Some (BadItem (at + offset)))) is)

fields_good : (at : ℕ) (i : ResItem) (rest : List ℕ) → ItemFits i → fields_fault at (item_spelling i ++ rest) ≡ None
unfolding fields_fault
fields_good at i rest fits =
    let left = item_spelling i ++ rest in
    let size : length left ≡ FIELDS + (length i.bytes + length rest) = twelve (length (i.bytes ++ rest)) ∙ ap (λ (n : ℕ). FIELDS + n) (length-append i.bytes rest) in
    let whole : FIELDS + length_at left ≤ length left = omega (arith, size, length_is i rest fits) in
    both_none (marked at left 0 (omega (arith, size)) refl)
    (both_none (there at left 1 2 (omega (arith, size)))
    (both_none (marked at left 3 (omega (arith, size)) refl)
    (both_none (there at left 4 2 (omega (arith, size)))
    (both_none (there at left 6 2 (omega (arith, size)))
    (both_none (there at left 8 4 (omega (arith, size))) (there at left FIELDS (length_at left) whole))))))

-- ---- and another key than those before it

either_false : {a b : Bool} → a ≡ false → b ≡ false → (a || b) ≡ false
either_false {b = b} p q = ap (λ x. x || b) p ∙ q

each_at : (P : ResItem → Type 0) (before : List ResItem) (i : ResItem) (items : List ResItem) → Each P (before ++ i ∷ items) → P i
each_at P [] i items h = h.0
each_at P (b ∷ before) i items h = each_at P before i items h.1

new_key : (before : List ResItem) (i : ResItem) (items : List ResItem) → AreApart (before ++ i ∷ items) → list_any (has_key i.ty i.id) before ≡ false
new_key [] i items h = refl
new_key (b ∷ before) i items h =
    let apart : same_key b i ≡ false = each_at (λ other. same_key b other ≡ false) before i items h.0 in
    either_false (turned i.ty b.ty i.id b.id apart) (new_key before i items h.1)

item_good : (before : List ResItem) (at : ℕ) (i : ResItem) (items : List ResItem) (rest : List ℕ) → ItemFits i → AreApart (before ++ i ∷ items) → item_fault before at (item_spelling i ++ rest) ≡ None
item_good before at i items rest fits apart =
    let left = item_spelling i ++ rest in
    let key : list_any (has_key (type_at left) (id_at left)) before ≡ false =
    ap (λ (t : ℕ). list_any (has_key t (id_at left)) before) (type_is i rest fits)
    ∙ ap (λ (d : ℕ). list_any (has_key i.ty d) before) (id_is i rest fits)
    ∙ new_key before i items apart in
    both_none (fields_good at i rest fits) (ap (λ (b : Bool). cond b (Some (Twice at)) None) key)

-- ---- what bytes are read as, after items: items up to their end, or the first fault

abbrev pub Reading : Type 0
Reading = Result (List ResItem) ResRefusal

goes_on : Option ResRefusal → Reading → Reading
goes_on (Some f) others = Err f
goes_on None others = others

reading : ℕ → List ResItem → ℕ → List ℕ → Reading
reading n before at [] = Ok before
reading zero before at (b ∷ left) = Ok before
reading (suc n) before at (b ∷ left) =
    let size = FIELDS + length_at (b ∷ left) in
    goes_on (item_fault before at (b ∷ left)) (reading n (before ++ item_at (b ∷ left) ∷ []) (at + size) (drop size (b ∷ left)))

pub reading_of : List ℕ → Reading
reading_of bytes = reading (suc (length bytes)) [] 0 bytes

-- one item
step : (n : ℕ) (before : List ResItem) (at : ℕ) (i : ResItem) (items : List ResItem) (rest : List ℕ) → ItemFits i → AreApart (before ++ i ∷ items)
    → reading (suc n) before at (item_spelling i ++ rest) ≡ reading n (before ++ i ∷ []) (at + length (item_spelling i)) rest
unfolding reading goes_on
step n before at i items rest fits apart =
    let left = item_spelling i ++ rest in
    let size = FIELDS + length_at left in
    let is : size ≡ length (item_spelling i) = ap (λ (k : ℕ). FIELDS + k) (length_is i rest fits) ∙ sym (spelled_length i) in
    ap (λ (o : Option ResRefusal). goes_on o (reading n (before ++ item_at left ∷ []) (at + size) (drop size left))) (item_good before at i items rest fits apart)
    ∙ ap (λ (x : ResItem). reading n (before ++ x ∷ []) (at + size) (drop size left)) (item_is i rest fits)
    ∙ ap (λ (bytes : List ℕ). reading n (before ++ i ∷ []) (at + size) bytes) (rest_is i rest fits)
    ∙ ap (λ (k : ℕ). reading n (before ++ i ∷ []) (at + k) rest) is

-- all items that stand in front
steps : (items before : List ResItem) (n at : ℕ) (rest : List ℕ) → Each ItemFits items → AreApart (before ++ items)
    → reading (length items + n) before at (items_spelling items ++ rest) ≡ reading n (before ++ items) (at + length (items_spelling items)) rest
steps [] before n at rest fits apart =
    ap (λ (k : ℕ). reading k before at rest) (omega arith) ∙ ap (λ (xs : List ResItem). reading n xs at rest) (sym (append-nil before)) ∙ ap (λ (k : ℕ). reading n (before ++ []) k rest) (omega arith)
steps (i ∷ items) before n at rest fits apart =
    let front = items_spelling items in
    let again = append_assoc before (i ∷ []) items in
    let others = steps items (before ++ i ∷ []) n (at + length (item_spelling i)) rest fits.1 (subst AreApart (sym again) apart) in
    let place : at + length (item_spelling i) + length front ≡ at + length (item_spelling i ++ front) =
    omega (arith, length-append (item_spelling i) front) in
    ap (λ (k : ℕ). reading k before at ((item_spelling i ++ front) ++ rest)) (omega arith)
    ∙ ap (λ (bytes : List ℕ). reading (suc (length items + n)) before at bytes) (append_assoc (item_spelling i) front rest)
    ∙ step (length items + n) before at i items (front ++ rest) fits.0 apart
    ∙ others
    ∙ ap (λ (xs : List ResItem). reading n xs (at + length (item_spelling i) + length front) rest) again
    ∙ ap (λ (k : ℕ). reading n (before ++ i ∷ items) k rest) place

fewer : (items : List ResItem) → length items ≤ length (items_spelling items)
fewer [] = omega arith
fewer (i ∷ items) = omega (arith, fewer items, length-append (item_spelling i) (items_spelling items), spelled_length i)

-- ---- an item file is read as its items, and a first fault is what is read

pub items_read : (bytes : List ℕ) (items : List ResItem) → IsResFile bytes items → reading_of bytes ≡ Ok items
unfolding reading_of reading
items_read bytes items h =
    let n = length bytes - length items in
    let few : length items ≤ length bytes = omega (arith, fewer items, ap length h.spelled) in
    let size : suc (length bytes) ≡ length items + suc n = omega (arith, few) in
    ap (λ (k : ℕ). reading k [] 0 bytes) size
    ∙ ap (λ (xs : List ℕ). reading (length items + suc n) [] 0 xs) (h.spelled ∙ sym (append-nil (items_spelling items)))
    ∙ steps items [] (suc n) 0 [] h.fit h.apart

faulty_step : (n : ℕ) (before : List ResItem) (at : ℕ) (left : List ℕ) (f : ResRefusal) → 0 < length left → item_fault before at left ≡ Some f → reading (suc n) before at left ≡ Err f
unfolding reading goes_on
faulty_step n before at [] f some is = absurd (omega (arith, some))
faulty_step n before at (b ∷ left) f some is =
    let size = FIELDS + length_at (b ∷ left) in
    ap (λ (o : Option ResRefusal). goes_on o (reading n (before ++ item_at (b ∷ left) ∷ []) (at + size) (drop size (b ∷ left)))) is

pub fault_read : (bytes : List ℕ) (f : ResRefusal) → FirstFault bytes f → reading_of bytes ≡ Err f
unfolding reading_of
fault_read bytes f h =
    let items = h.before in
    let n = length bytes - length items in
    let few : length items ≤ length bytes = omega (arith, fewer items, ap length h.spelled, length-append (items_spelling items) h.left) in
    let size : suc (length bytes) ≡ length items + suc n = omega (arith, few) in
    ap (λ (k : ℕ). reading k [] 0 bytes) size
    ∙ ap (λ (xs : List ℕ). reading (length items + suc n) [] 0 xs) h.spelled
    ∙ steps items [] (suc n) 0 h.left h.good.fit h.good.apart
    ∙ ap (λ (k : ℕ). reading (suc n) items k h.left) (omega arith)
    ∙ faulty_step n items (length (items_spelling items)) h.left f h.some h.wrong

-- ---- one of both

abbrev pub IsEither : List ℕ → Type 0
IsEither bytes = ((items : List ResItem) × IsResFile bytes items) ⊎ ((f : ResRefusal) × FirstFault bytes f)

-- What is read after some items, where what stands after them has at most n bytes more.
abbrev ReadsOn : ℕ → List ℕ → Type 0
ReadsOn n bytes = (at : ℕ) (items : List ResItem) → AreRead bytes at items → length bytes ≤ at + n → IsEither bytes

by_key : (n : ℕ) (bytes : List ℕ) (at : ℕ) (items : List ResItem) → AreBytes bytes → AreRead bytes at items → length bytes ≤ at + suc n → at < length bytes → ReadsOn n bytes
    → fields_fault at (drop at bytes) ≡ None → (second : Bool) → list_any (has_key (type_at (drop at bytes)) (id_at (drop at bytes))) items ≡ second → IsEither bytes
by_key n bytes at items are read le lt on good true is = inr (Twice at, faulty bytes at items (Twice at) read lt (fault_of_key items at (drop at bytes) good is))
by_key n bytes at items are read le lt on good false is =
    let left = drop at bytes in
    on (at + (FIELDS + length_at left)) (items ++ item_at left ∷ []) (one_more bytes at items are read good is) (omega (arith, le))

by_fields : (n : ℕ) (bytes : List ℕ) (at : ℕ) (items : List ResItem) → AreBytes bytes → AreRead bytes at items → length bytes ≤ at + suc n → at < length bytes → ReadsOn n bytes
    → (o : Option ResRefusal) → fields_fault at (drop at bytes) ≡ o → IsEither bytes
by_fields n bytes at items are read le lt on (Some f) is = inr (f, faulty bytes at items f read lt (fault_of_fields items at (drop at bytes) f is))
by_fields n bytes at items are read le lt on None is =
    by_key n bytes at items are read le lt on is (list_any (has_key (type_at (drop at bytes)) (id_at (drop at bytes))) items) refl

by_end : (n : ℕ) (bytes : List ℕ) (at : ℕ) (items : List ResItem) → AreBytes bytes → AreRead bytes at items → length bytes ≤ at + suc n → ReadsOn n bytes
    → (ended : Bool) → nat_le (length bytes) at ≡ ended → IsEither bytes
by_end n bytes at items are read le on true is = inl (items, all_read bytes at items read (grind (arith, nat_tests)))
by_end n bytes at items are read le on false is = by_fields n bytes at items are read le (grind (arith, nat_tests)) on (fields_fault at (drop at bytes)) refl

reads_on : (n : ℕ) (bytes : List ℕ) → AreBytes bytes → ReadsOn n bytes
reads_on zero bytes are at items read le = inl (items, all_read bytes at items read (omega (arith, le)))
reads_on (suc n) bytes are at items read le = by_end n bytes at items are read le (reads_on n bytes are) (nat_le (length bytes) at) refl

pub resources_either : (bytes : List ℕ) → AreBytes bytes → IsEither bytes
resources_either bytes are = reads_on (length bytes) bytes are 0 [] (nothing_read bytes) (omega arith)
