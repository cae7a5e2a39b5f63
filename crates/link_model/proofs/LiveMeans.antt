-- The bytes of a live fixup's location are those of its value.
use Rattle.std.specs.Prelude.{◌≡◌, ℕ, ◌-◌, Bool, true, false, cond, ◌&&◌, ◌==◌, List, [], ◌∷◌, ◌++◌, Option, Some, None, map, nat_lt, nat_le, is_some, unwrap_or, slice_index, suc, refl}
use Rattle.std.specs.List.{find, list_any, AllPairs, AllByRecursion}
use Rattle.std.specs.Option.{option_map, option_and_then}
use Rattle.std.proofs.Common.{ap, sym, ◌∙◌, arith, true≢false}
use Rattle.std.proofs.lemmas.Bool.{eqb-true, eq-eqb, ltb-true, lt-ltb, leb-true, le-leb, and_parts, and_from}
use Rattle.std.proofs.lemmas.List.Elements.{recursion_from_All}
use Rattle.link_model.specs.Words.{first_of}
use Rattle.link_model.specs.Fixups.{Fixup, fixups, fix_refusal}
use Rattle.link_model.specs.Start.{start_outside}
use Rattle.link_model.specs.Value.{value_bytes, Value}
use Rattle.link_model.specs.Mean.{fixup_end, overlap, live, live_fixups, fixup_covers, live_at, data_at, value_at}
use Rattle.link_model.specs.NothingDropped.{LiveFixupsMean}
use Rattle.link_model.proofs.Rules.{rules}
use Rattle.link_model.proofs.LiveFixups.{live_apart}
use Rattle.link_model.proofs.Members.{In, here, there, in_contained, each_in}
use Rattle.link_model.proofs.ExternalsMean.{neither}

-- ---- one live fixup at most covers a byte

meet : (o x : ℕ) (a b : Fixup) → fixup_covers o x a ≡ true → fixup_covers o x b ≡ true → overlap a b ≡ true
meet o x a b ea eb =
    let a1 = and_parts (a.object == o && nat_le a.offset x) (nat_lt x (fixup_end a)) ea in
    let a2 = and_parts (a.object == o) (nat_le a.offset x) a1.0 in
    let b1 = and_parts (b.object == o && nat_le b.offset x) (nat_lt x (fixup_end b)) eb in
    let b2 = and_parts (b.object == o) (nat_le b.offset x) b1.0 in
    let fa = leb-true a.offset x a2.1 in
    let la = ltb-true x (fixup_end a) a1.1 in
    let fb = leb-true b.offset x b2.1 in
    let lb = ltb-true x (fixup_end b) b1.1 in
    let same : a.object ≡ b.object = eqb-true a.object o a2.0 ∙ sym (eqb-true b.object o b2.0) in
    and_from (a.object == b.object && nat_lt a.offset (fixup_end b)) (nat_lt b.offset (fixup_end a)) (and_from (a.object == b.object) (nat_lt a.offset (fixup_end b))
    (eq-eqb a.object b.object same) (lt-ltb a.offset (fixup_end b) (omega (arith, fa, lb)))) (lt-ltb b.offset (fixup_end a) (omega (arith, fb, la)))

abbrev AllApart : List Fixup → Type 0
AllApart qs = AllPairs (λ a b. overlap a b ≡ false) qs

from_first : (q : Fixup) (qs : List Fixup) → AllApart (q ∷ qs) → AllByRecursion (λ b. overlap q b ≡ false) qs
from_first q qs h =
    recursion_from_All (λ b. overlap q b ≡ false) qs (λ k d lt. h 0 (suc k) d (omega arith) (omega (arith, lt)))

rest_apart : (q : Fixup) (qs : List Fixup) → AllApart (q ∷ qs) → AllApart qs
rest_apart q qs h = λ i j d lt len. h (suc i) (suc j) d (omega (arith, lt)) (omega (arith, len))

only_by : (o x : ℕ) (y : Fixup) (q : Fixup) (qs : List Fixup) (b : Bool) → fixup_covers o x y ≡ b →
    fixup_covers o x q ≡ true → overlap y q ≡ false → find (fixup_covers o x) qs ≡ Some q → cond b (Some y) (find (fixup_covers o x) qs) ≡ Some q
only_by o x y q qs true is covers apart rest = absurd (true≢false (sym (meet o x y q is covers) ∙ apart))
only_by o x y q qs false is covers apart rest = rest

pub only : (o x : ℕ) (qs : List Fixup) {q : Fixup} → In q qs → fixup_covers o x q ≡ true → AllApart qs → find (fixup_covers o x) qs ≡ Some q
only o x [] i covers apart = elim i [ ]
only o x (y ∷ qs) here covers apart = ap (λ (t : Bool). cond t (Some y) (find (fixup_covers o x) qs)) covers
only o x (y ∷ qs) {q} (there i) covers apart =
    only_by o x y q qs (fixup_covers o x y) refl covers (each_in (λ b. overlap y b ≡ false) qs (from_first y qs apart) i) (only o x qs i covers (rest_apart y qs apart))

-- ---- no live fixup is refused

is_live_by : (y : Fixup) (qs rest : List Fixup) (b : Bool) {q : Fixup} → In q (cond b rest (y ∷ rest)) → (In q rest → In q qs) → In q (y ∷ qs)
is_live_by y qs rest true i more = there (more i)
is_live_by y qs rest false here more = here
is_live_by y qs rest false (there i) more = there (more i)

pub is_live : (qs : List Fixup) {q : Fixup} → In q (live qs) → In q qs
is_live [] i = i
is_live (y ∷ qs) i = is_live_by y qs (live qs) (list_any (overlap y) qs) i (λ j. is_live qs j)

pub none_refused : {X : Type 0} (f : Fixup → Option X) (qs : List Fixup) (rest : List (Option X)) → first_of (map f qs ++ rest) ≡ None → AllByRecursion (λ q. f q ≡ None) qs
none_refused f [] rest e = tt
none_refused f (q ∷ qs) rest e =
    let both = neither (f q) (first_of (map f qs ++ rest)) e in (both.0, none_refused f qs rest both.1)

-- ---- the law

pub live_fixups_mean : LiveFixupsMean
unfolding rules
live_fixups_mean l w q x e inside from below =
    let i = in_contained (live_fixups l) q inside in
    let covers : fixup_covers q.object x q ≡ true = and_from (q.object == q.object && nat_le q.offset x) (nat_lt x (fixup_end q))
    (and_from (q.object == q.object) (nat_le q.offset x) (eq-eqb q.object q.object refl) (le-leb q.offset x from)) (lt-ltb x (fixup_end q) below) in
    let at : live_at l q.object x ≡ Some q = only q.object x (live_fixups l) i covers (live_apart (fixups l)) in
    let accepted : fix_refusal q ≡ None = each_in (λ t. fix_refusal t ≡ None) (fixups l) (none_refused fix_refusal (fixups l) (start_outside l ∷ []) e) (is_live (fixups l) i) in
    let value : Value l w q ≡ Some (value_bytes l w q) = ap (λ o. cond (is_some o) None (Some (value_bytes l w q))) accepted in
    ap (λ (o : Option Fixup). unwrap_or (option_and_then (value_at l w x) o) (data_at l q.object x)) at
    ∙ ap (λ (o : Option (List ℕ)). unwrap_or (option_map (λ bytes. slice_index bytes (x - q.offset)) o) (data_at l q.object x)) value
