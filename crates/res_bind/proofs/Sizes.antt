-- Where items end: never before they begin.
use Rattle.std.proofs.Common.{◌≡◌, ℕ, zero, suc, ◌+◌, ◌-◌, ◌<◌, ◌≤◌, List, [], ◌∷◌, ◌++◌, length, drop, get_or, refl, sym, ap, ◌∙◌, append_assoc, arith}
use Rattle.std.specs.Prelude.{replicate, max}
use Rattle.res_model.specs.declared.item.ResItem.{ResItem}
use Rattle.res_model.specs.Placed.{aligned, end_from, data_from, entry_spelling, entries_from}
use Rattle.res_model.specs.Bound.{ends_above}
use Rattle.lx_types.specs.declared.object.ObjHead.{ObjHead}
use Rattle.res_bind.proofs.Lists.{next_of}

pub aligned_above : (n : ℕ) → n ≤ aligned n
aligned_above n = omega arith

pub end_above : (end : ℕ) (items : List ResItem) → end ≤ end_from end items
end_above end [] = omega arith
end_above end (i ∷ items) =
    let rest = end_above (aligned end + length i.bytes) items in
    let here = aligned_above end in
    omega (arith, rest, here)

-- ---- the next item of a loop

pub size_turn : (items : List ResItem) (k end : ℕ) (i : ResItem) → k < length items → i ≡ get_or items k i → end_from end (drop k items) ≡ end_from (aligned end + length i.bytes) (drop (k + 1) items)
size_turn items k end i lt is = ap (end_from end) (next_of items k i lt is)

pub data_turn : (items : List ResItem) (k end : ℕ) (i : ResItem) → k < length items → i ≡ get_or items k i →
    data_from end (drop k items) ≡ replicate (aligned end - end) 0 ++ i.bytes ++ data_from (aligned end + length i.bytes) (drop (k + 1) items)
data_turn items k end i lt is = ap (data_from end) (next_of items k i lt is)

pub entries_turn : (items : List ResItem) (object k end : ℕ) (i : ResItem) → k < length items → i ≡ get_or items k i →
    entries_from object end (drop k items) ≡ entry_spelling object (record { item = i; offset = aligned end }) ++ entries_from object (aligned end + length i.bytes) (drop (k + 1) items)
entries_turn items object k end i lt is = ap (entries_from object end) (next_of items k i lt is)

-- ---- at the end of a loop nothing is left

pub drop_all : {X : Type 0} (xs : List X) (k : ℕ) → length xs ≤ k → drop k xs ≡ []
drop_all [] zero le = refl
drop_all [] (suc k) le = refl
drop_all (x ∷ xs) zero le = absurd (omega arith)
drop_all (x ∷ xs) (suc k) le = drop_all xs k (omega arith)

pub size_end : (items : List ResItem) (k end : ℕ) → length items ≤ k → end_from end (drop k items) ≡ end
size_end items k end le = ap (end_from end) (drop_all items k le)

pub data_end : (items : List ResItem) (k end : ℕ) → length items ≤ k → data_from end (drop k items) ≡ []
data_end items k end le = ap (data_from end) (drop_all items k le)

pub entries_end : (items : List ResItem) (object k end : ℕ) → length items ≤ k → entries_from object end (drop k items) ≡ []
entries_end items object k end le = ap (entries_from object end) (drop_all items k le)

-- ---- objects

pub ends_turn : (objects : List ObjHead) (k end : ℕ) (o : ObjHead) → k < length objects → o ≡ get_or objects k o → ends_above end (drop k objects) ≡ ends_above (max end (o.base + o.size)) (drop (k + 1) objects)
ends_turn objects k end o lt is = ap (ends_above end) (next_of objects k o lt is)

pub ends_end : (objects : List ObjHead) (k end : ℕ) → length objects ≤ k → ends_above end (drop k objects) ≡ end
ends_end objects k end le = ap (ends_above end) (drop_all objects k le)

-- ---- one turn of a loop, in the words of the code

pub turn_below : (items : List ResItem) (k end : ℕ) (i : ResItem) (total : ℕ) → k < length items → i ≡ get_or items k i → end_from end (drop k items) ≡ total → aligned end + length i.bytes ≤ total
turn_below items k end i total lt is kept =
    let turned = size_turn items k end i lt is in
    let above = end_above (aligned end + length i.bytes) (drop (k + 1) items) in
    omega (arith, turned, above, kept)

pub size_step : (items : List ResItem) (k end next : ℕ) (i : ResItem) (total : ℕ) → k < length items → i ≡ get_or items k i → next ≡ aligned end + length i.bytes →
    end_from end (drop k items) ≡ total → end_from next (drop (k + 1) items) ≡ total
size_step items k end next i total lt is at kept = ap (λ (n : ℕ). end_from n (drop (k + 1) items)) at ∙ sym (size_turn items k end i lt is) ∙ kept

pub entries_step : (items : List ResItem) (object k end offset next : ℕ) (i : ResItem) (out entry after all : List ℕ) → k < length items → i ≡ get_or items k i → offset ≡ aligned end → next ≡ aligned end + length i.bytes →
    entry ≡ entry_spelling object (record { item = i; offset = offset }) → after ≡ out ++ entry → out ++ entries_from object end (drop k items) ≡ all → after ++ entries_from object next (drop (k + 1) items) ≡ all
entries_step items object k end offset next i out entry after all lt is at beyond spelled grown kept =
    let e = entry_spelling object (record { item = i; offset = aligned end }) in
    let tail = entries_from object (aligned end + length i.bytes) (drop (k + 1) items) in
    let same : entry ≡ e = spelled ∙ ap (λ (n : ℕ). entry_spelling object (record { item = i; offset = n })) at in
    ap (λ (m : ℕ). after ++ entries_from object m (drop (k + 1) items)) beyond
    ∙ ap (λ (xs : List ℕ). xs ++ tail) (grown ∙ ap (λ (b : List ℕ). out ++ b) same)
    ∙ append_assoc out e tail
    ∙ ap (λ (t : List ℕ). out ++ t) (sym (entries_turn items object k end i lt is)) ∙ kept
