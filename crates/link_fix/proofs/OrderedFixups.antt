-- Fixups that stand in order are all live.
use Rattle.std.specs.Prelude.{◌≡◌, ℕ, zero, suc, ◌+◌, ◌-◌, ◌<◌, ◌≤◌, Bool, true, false, cond, ◌&&◌, ◌||◌, ◌==◌, nat_lt, List, [], ◌∷◌, map, drop, set, length, slice_index, refl}
use Rattle.std.specs.List.{list_any, All}
use Rattle.std.proofs.Common.{ap, sym, ◌∙◌, arith, get_or, subst}
use Rattle.std.proofs.lemmas.Bool.Decides.{nat_tests}
use Rattle.std.proofs.lemmas.List.{drop_more, drop_all}
use Rattle.std.proofs.lemmas.List.Elements.{All-nil, All-cons, All-head, All-tail}
use Rattle.link_model.specs.Fixups as rules
use Rattle.link_model.specs.Mean.{overlap, live, fixup_end}
use Rattle.link_fix.specs.declared.fixup.Fixup.{Fixup}
use Rattle.link_fix.specs.Shown.{shown}

-- A fixup begins at its object's number in this list or after it.
abbrev pub BeginsBy : List ℕ → Fixup → Type 0
BeginsBy begins r = slice_index begins r.object ≤ r.offset

-- ---- one more number

set_le : (xs : List ℕ) (i j v : ℕ) → v ≤ slice_index xs i → slice_index (set xs i v) j ≤ slice_index xs j
set_le [] i j v h = omega arith
set_le (x ∷ xs) zero zero v h = h
set_le (x ∷ xs) zero (suc j) v h = omega arith
set_le (x ∷ xs) (suc i) zero v h = omega arith
set_le (x ∷ xs) (suc i) (suc j) v h = set_le xs i j v h

set_own : (xs : List ℕ) (i v : ℕ) → slice_index (set xs i v) i ≤ v
set_own [] i v = omega arith
set_own (x ∷ xs) zero v = omega arith
set_own (x ∷ xs) (suc i) v = set_own xs i v

begins-set : (begins : List ℕ) (i v : ℕ) (rs : List Fixup) → v ≤ slice_index begins i → All (BeginsBy begins) rs → All (BeginsBy (set begins i v)) rs
begins-set begins i v [] h all = All-nil (BeginsBy (set begins i v))
begins-set begins i v (r ∷ rs) h all =
    let less : slice_index (set begins i v) r.object ≤ slice_index begins r.object = set_le begins i r.object v h in
    let head : slice_index begins r.object ≤ r.offset = All-head (BeginsBy begins) r rs all in
    All-cons (BeginsBy (set begins i v)) r rs (omega (arith, less, head)) (begins-set begins i v rs h (All-tail (BeginsBy begins) r rs all))

-- ---- none shares a byte

same_number : (a b : ℕ) → (a == b) ≡ true → a ≡ b
same_number a b h = grind (arith, nat_tests)

none_shared : (same : Bool) (a b c d : ℕ) → (same ≡ true → b ≤ c) → (same && nat_lt a d && nat_lt c b) ≡ false
none_shared false a b c d h = refl
none_shared true a b c d h = let past : b ≤ c = h refl in grind (arith, nat_tests)

apart : (begins : List ℕ) (q r : Fixup) → fixup_end (shown q) ≤ slice_index begins q.object → BeginsBy begins r → overlap (shown q) (shown r) ≡ false
apart begins q r ends by =
    none_shared (q.object == r.object) q.offset (fixup_end (shown q)) r.offset (fixup_end (shown r))
    (λ e.
    let here : fixup_end (shown q) ≤ slice_index begins r.object = subst (λ (n : ℕ). fixup_end (shown q) ≤ slice_index begins n) (same_number q.object r.object e) ends in
    let there : slice_index begins r.object ≤ r.offset = by in
    omega (arith, here, there))

all-apart : (begins : List ℕ) (q : Fixup) (rs : List Fixup) → fixup_end (shown q) ≤ slice_index begins q.object → All (BeginsBy begins) rs → list_any (overlap (shown q)) (map shown rs) ≡ false
all-apart begins q [] ends all = refl
all-apart begins q (r ∷ rs) ends all =
    ap (λ (b : Bool). b || list_any (overlap (shown q)) (map shown rs)) (apart begins q r ends (All-head (BeginsBy begins) r rs all))
    ∙ all-apart begins q rs ends (All-tail (BeginsBy begins) r rs all)

-- ---- from the last to the first

-- The fixups from a place on are all live, and begin by these numbers.
pub record InOrder (begins : List ℕ) (qs : List Fixup) : Type 0 where
  pub by : All (BeginsBy begins) qs
  pub live_is : live (map shown qs) ≡ map shown qs

in_order-cons : (begins : List ℕ) (q : Fixup) (rs : List Fixup) → fixup_end (shown q) ≤ slice_index begins q.object → InOrder begins rs → InOrder (set begins q.object q.offset) (q ∷ rs)
in_order-cons begins q rs ends is =
    let after : List ℕ = set begins q.object q.offset in
    let early : q.offset ≤ slice_index begins q.object = omega (arith, ends) in
    record {
      by = All-cons (BeginsBy after) q rs (set_own begins q.object q.offset) (begins-set begins q.object q.offset rs early is.by);
      live_is = ap (λ (b : Bool). cond b (live (map shown rs)) (shown q ∷ live (map shown rs))) (all-apart begins q rs ends is.by) ∙ ap (λ (ls : List rules.Fixup). shown q ∷ ls) is.live_is;
    }

pub in_order-none : (begins : List ℕ) (qs : List Fixup) (left : ℕ) → left ≡ length qs → InOrder begins (drop left qs)
in_order-none begins qs left all =
    let none : drop left qs ≡ [] = drop_all left qs (omega (arith, all)) in
    subst (λ (rs : List Fixup). InOrder begins rs) (sym none) (record { by = All-nil (BeginsBy begins); live_is = refl })

-- One fixup more.
pub in_order-more :
    (begins after : List ℕ) (qs : List Fixup) (left : ℕ) (d : Fixup) → 0 < left → left ≤ length qs → InOrder begins (drop left qs)
    → fixup_end (shown (get_or qs (left - 1) d)) ≤ slice_index begins (get_or qs (left - 1) d).object → after ≡ set begins (get_or qs (left - 1) d).object (get_or qs (left - 1) d).offset → InOrder after (drop (left - 1) qs)
in_order-more begins after qs left d some within is ends noted =
    let i : ℕ = left - 1 in
    let q : Fixup = get_or qs i d in
    let next : left ≡ i + 1 = omega arith in
    let rest : InOrder begins (drop (i + 1) qs) = subst (λ (n : ℕ). InOrder begins (drop n qs)) next is in
    let front : drop i qs ≡ q ∷ drop (i + 1) qs = drop_more qs i d (omega arith) in
    subst (λ (ls : List Fixup). InOrder after ls) (sym front) (subst (λ (bs : List ℕ). InOrder bs (q ∷ drop (i + 1) qs)) (sym noted) (in_order-cons begins q (drop (i + 1) qs) ends rest))

pub in_order-all : (begins : List ℕ) (qs : List Fixup) (left : ℕ) → left ≡ 0 → InOrder begins (drop left qs) → live (map shown qs) ≡ map shown qs
in_order-all begins qs left none is = let whole : InOrder begins (drop 0 qs) = subst (λ (n : ℕ). InOrder begins (drop n qs)) none is in whole.live_is
