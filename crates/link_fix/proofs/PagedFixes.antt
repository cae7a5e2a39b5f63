-- One more fixup's records, and one more object's.
use Rattle.std.specs.Prelude.{◌≡◌, ℕ, ◌+◌, ◌-◌, ◌<◌, ◌≤◌, Bool, true, false, cond, not, List, [], ◌∷◌, ◌++◌, Option, Some, None, map, take, drop, length, filter, option_to_list, refl}
use Rattle.std.specs.List.{filter_map, cons_option, enumerate_from}
use Rattle.std.proofs.Common.{ap, sym, ◌∙◌, arith, get_or}
use Rattle.std.proofs.lemmas.List.{drop_more}
use Rattle.lx_types.specs.declared.fix.Fix.{Fix}
use Rattle.obj_types.specs.declared.symbol.Imp.{Imp}
use Rattle.link_model.specs.declared.symbols.LaidObject.{LaidObject}
use Rattle.link_model.specs.Fixups as rules
use Rattle.link_model.specs.Patches.{is_patched}
use Rattle.link_model.specs.Records.{stands_on}
use Rattle.link_fix.specs.declared.fixup.Fixup.{Fixup}
use Rattle.link_fix.specs.Shown.{shown}
use Rattle.link_fix.specs.Paging.{record_among, records_among, recorded_in, records_before}
use Rattle.link_fix.proofs.NumberedLists.{numbered-more}

pub one_option : {Y : Type 0} (o : Option Y) → cons_option o [] ≡ option_to_list o
one_option (Some y) = refl
one_option None = refl

one_before : (imports pairs : List Imp) (q : rules.Fixup) (qs : List rules.Fixup) (n k : ℕ)
    → records_among imports pairs (recorded_in (q ∷ qs)) n k ≡ records_before imports pairs q n k (records_among imports pairs (recorded_in qs) n k)
one_before imports pairs q qs n k = by_patched (is_patched q)
  where
    f : rules.Fixup → Option Fix
    f = record_among imports pairs k

    rest : List rules.Fixup
    rest = recorded_in qs

    by_place : (b : Bool) (rs : List rules.Fixup) → filter_map f (cond b (q ∷ rs) rs) ≡ cond b (cons_option (f q) (filter_map f rs)) (filter_map f rs)
    by_place true rs = refl
    by_place false rs = refl

    by_patched : (b : Bool) → records_among imports pairs (cond (not b) (q ∷ rest) rest) n k
        ≡ cond b (records_among imports pairs rest n k) (cond (stands_on n k q) (cons_option (f q) (records_among imports pairs rest n k)) (records_among imports pairs rest n k))
    by_patched true = refl
    by_patched false = by_place (stands_on n k q) (filter (stands_on n k) rest)

-- One more fixup, whose records come before those of the fixups after it.
pub records-more : (imports pairs : List Imp) (qs : List Fixup) (left : ℕ) (d : Fixup) (n k : ℕ) (before after : List Fix) → 0 < left → left ≤ length qs
    → before ≡ records_among imports pairs (recorded_in (map shown (drop left qs))) n k → after ≡ records_before imports pairs (shown (get_or qs (left - 1) d)) n k before
    → after ≡ records_among imports pairs (recorded_in (map shown (drop (left - 1) qs))) n k
records-more imports pairs qs left d n k before after some within was made =
    let i : ℕ = left - 1 in
    let q : Fixup = get_or qs i d in
    let next : left ≡ i + 1 = omega arith in
    let front : q ∷ drop left qs ≡ drop i qs = ap (λ (j : ℕ). q ∷ drop j qs) next ∙ sym (drop_more qs i d (omega arith)) in
    made
    ∙ ap (records_before imports pairs (shown q) n k) was
    ∙ sym (one_before imports pairs (shown q) (map shown (drop left qs)) n k)
    ∙ ap (λ (ls : List Fixup). records_among imports pairs (recorded_in (map shown ls)) n k) front

pub objects-more : {A : Type 0} (f : ℕ × LaidObject → A) (objects : List LaidObject) (i number : ℕ) (d : LaidObject) (all new : List A) (row : A) → i < length objects → number ≡ i + 1
    → all ≡ map f (enumerate_from 1 (take i objects)) → row ≡ f (number, get_or objects i d) → new ≡ all ++ row ∷ [] → new ≡ map f (enumerate_from 1 (take (i + 1) objects))
objects-more {A} f objects i number d all new row h counted before here made =
    let place : number ≡ 1 + i = omega arith in
    made
    ∙ ap (λ (r : A). all ++ r ∷ []) (here ∙ ap (λ (n : ℕ). f (n, get_or objects i d)) place)
    ∙ ap (λ (rs : List A). rs ++ f (1 + i, get_or objects i d) ∷ []) before
    ∙ sym (numbered-more f 1 i objects d h)
