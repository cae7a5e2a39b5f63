-- A link's import tables are no longer than the list of modules that it knows, which the format's numbers count.
use Rattle.std.specs.Prelude.{◌≡◌, ℕ, suc, ◌+◌, ◌≤◌, Bool, true, false, cond, not, ◌||◌, nat_lt, List, [], ◌∷◌, Option, Some, None, map, length, filter, slice_get, is_some, unwrap_or, refl}
use Rattle.std.specs.List.{list_any, filter_map, cons_option, zip, AllPairs, AllByRecursion}
use Rattle.std.specs.Option.{option_and_then}
use Rattle.std.specs.Cmp.{IsEquivalence}
use Rattle.std.specs.Cmp.Lexicographic.{nat_list_eq_equiv}
use Rattle.std.proofs.Common.{ap, sym, ◌∙◌, arith, true≢false, subst, inl, inr}
use Rattle.std.proofs.lemmas.Bool.{ltb-false}
use Rattle.std.proofs.lemmas.List.Elements.{recursion_from_All, filter_passes}
use Rattle.std.proofs.lemmas.List.Kept.{AllPairs-filter}
use Rattle.lx_types.specs.Names.{uppercase}
use Rattle.obj_types.specs.declared.symbol.Exp.{Exp}
use Rattle.obj_types.specs.declared.symbol.Imp.{Imp}
use Rattle.link_model.specs.declared.limits.TheConstants.{MAX_NUMBER}
use Rattle.link_model.specs.declared.refusals.SymRefusal.{SymRefusal}
use Rattle.link_model.specs.declared.refusals.SymRefusal.TheVariants.{ImportsMany}
use Rattle.link_model.specs.Words.{first_of}
use Rattle.link_model.specs.Appearance.{firsts}
use Rattle.link_model.specs.Link.{Link, exports}
use Rattle.link_model.specs.Symbols.{imports, global}
use Rattle.link_model.specs.SymbolRefusals.{sym_refusal, twice, missing_external, missing_export, imports_many}
use Rattle.link_model.specs.Goals.{Target, Internal, Constant, Entry, of_symbol}
use Rattle.link_model.specs.Fixups.{Fixup}
use Rattle.link_model.specs.Exports.{ExportTarget, Forward, Export, is_resident, is_wide, export_target, export_of, ordinals, asked_ordinals, Out}
use Rattle.link_model.specs.ImportTables.{pair_used, used_pairs, forwarded, link_pairs, proc_name, modules_in, procs_in}
use Rattle.link_model.specs.Patches.{recorded}
use Rattle.link_model.proofs.Tables.{any-firsts, firsts-apart}
use Rattle.link_model.proofs.Members.{In, here, there, in_map, in_left, in_at, in_either, any_in, all_in, from_map, from_filter}
use Rattle.link_model.proofs.ExternalsMean.{neither}
use Rattle.image_model.proofs.TargetsThere.{through, mapped, from_filter_map}

-- ---- a list of different items that another list has is no longer

abbrev pub export_with : Link → ℕ → Exp → ExportTarget → Export
export_with l ordinal x target =
    record { ordinal = ordinal; name = x.name; resident = is_resident x; words = x.words; wide = is_wide l target; target = target }

abbrev Apart : {X : Type 0} → (X → X → Bool) → List X → Type 0
Apart same xs = AllPairs (λ a b. same a b ≡ false) xs

first_apart : {X : Type 0} (same : X → X → Bool) (x : X) (xs : List X) → Apart same (x ∷ xs) → AllByRecursion (λ b. same x b ≡ false) xs
first_apart same x xs h = recursion_from_All (λ b. same x b ≡ false) xs (λ k d lt. h 0 (suc k) d (omega arith) (omega (arith, lt)))

rest_apart : {X : Type 0} (same : X → X → Bool) (x : X) (xs : List X) → Apart same (x ∷ xs) → Apart same xs
rest_apart same x xs h = λ i j d lt len. h (suc i) (suc j) d (omega (arith, lt)) (omega (arith, len))

-- What an item is not the same as, no item that is the same as it is.
all_kept : {X : Type 0} {same : X → X → Bool} (eqv : IsEquivalence same) (y x : X) (xs : List X) → same y x ≡ true → AllByRecursion (λ b. same x b ≡ false) xs → length (filter (λ z. not (same y z)) xs) ≡ length xs
all_kept eqv y x [] is h = refl
all_kept {X} {same} eqv y x (b ∷ xs) is h =
    let apart : same y b ≡ false = eqv.congr y x b is ∙ h.0 in
    ap (λ (t : Bool). length (cond (not t) (b ∷ filter (λ z. not (same y z)) xs) (filter (λ z. not (same y z)) xs))) apart ∙ ap suc (all_kept eqv y x xs is h.1)

one_less_by : {X : Type 0} {same : X → X → Bool} (eqv : IsEquivalence same) (y x : X) (xs : List X) (b : Bool) → same y x ≡ b → AllByRecursion (λ z. same x z ≡ false) xs → length xs ≤ 1 + length (filter (λ z. not (same y z)) xs)
    → suc (length xs) ≤ 1 + length (cond (not b) (x ∷ filter (λ z. not (same y z)) xs) (filter (λ z. not (same y z)) xs))
one_less_by eqv y x xs true is h rest = let all = all_kept eqv y x xs is h in omega (arith, all)
one_less_by eqv y x xs false is h rest = omega (arith, rest)

-- Without those that are the same as an item there is one less at most.
one_less : {X : Type 0} {same : X → X → Bool} (eqv : IsEquivalence same) (y : X) (xs : List X) → Apart same xs → length xs ≤ 1 + length (filter (λ z. not (same y z)) xs)
one_less eqv y [] h = omega arith
one_less {X} {same} eqv y (x ∷ xs) h =
    one_less_by eqv y x xs (same y x) refl (first_apart same x xs h) (one_less eqv y xs (rest_apart same x xs h))

pub no-longer : {X : Type 0} {same : X → X → Bool} (eqv : IsEquivalence same) (ys xs : List X) → Apart same xs → ((x : X) → In x xs → list_any (same x) ys ≡ true) → length xs ≤ length ys
no-longer eqv [] [] h all = omega arith
no-longer eqv [] (x ∷ xs) h all = absurd (true≢false (sym (all x here)))
no-longer {X} {same} eqv (y ∷ ys) xs h all =
    let keep : X → Bool = λ z. not (same y z) in
    let apart = AllPairs-filter (λ (a : X) (b : X). same a b ≡ false) keep xs h in
    let rest = no-longer eqv ys (filter keep xs) apart (λ z i. elsewhere eqv y z ys (all_in (λ z. keep z ≡ true) (filter keep xs) (filter_passes keep xs) i) (all z (from_filter keep xs i))) in
    let less = one_less eqv y xs h in
    omega (arith, rest, less)
  where
    elsewhere_by : (a b : Bool) → not a ≡ true → (a || b) ≡ true → b ≡ true
    elsewhere_by true b n e = absurd (true≢false (sym n))
    elsewhere_by false b n e = e

    elsewhere : {X : Type 0} {same : X → X → Bool} (eqv : IsEquivalence same) (y z : X) (ys : List X) → not (same y z) ≡ true → list_any (same z) (y ∷ ys) ≡ true → list_any (same z) ys ≡ true
    elsewhere {X} {same} eqv y z ys n e = elsewhere_by (same z y) (list_any (same z) ys) (ap not (eqv.symm z y) ∙ n) e

-- ---- tables by first appearance

from_firsts : {X : Type 0} (same : X → X → Bool) (xs : List X) {x : X} → In x (firsts same xs) → In x xs
from_firsts same [] i = i
from_firsts same (y ∷ xs) here = here
from_firsts same (y ∷ xs) (there i) = there (from_firsts same xs (from_filter (λ z. not (same y z)) (firsts same xs) i))

-- A table of items that others have too is no longer.
pub firsts-no-longer : {X : Type 0} {same : X → X → Bool} (eqv : IsEquivalence same) (xs ys : List X) → ((x : X) → In x xs → In x ys) → length (firsts same xs) ≤ length (firsts same ys)
firsts-no-longer {X} {same} eqv xs ys sub =
    no-longer eqv (firsts same ys) (firsts same xs) (firsts-apart same xs) (λ x i. any-firsts eqv x ys ∙ any_in (same x) (sub x (from_firsts same xs i)) (eqv.refl x))

-- A list of different items is its own table.
kept_all : {X : Type 0} (same : X → X → Bool) (x : X) (xs : List X) → AllByRecursion (λ b. same x b ≡ false) xs → filter (λ y. not (same x y)) xs ≡ xs
kept_all same x [] h = refl
kept_all {X} same x (y ∷ xs) h =
    ap (λ (t : Bool). cond (not t) (y ∷ filter (λ z. not (same x z)) xs) (filter (λ z. not (same x z)) xs)) h.0 ∙ ap (λ (t : List X). y ∷ t) (kept_all same x xs h.1)

firsts_apart : {X : Type 0} (same : X → X → Bool) (xs : List X) → Apart same xs → firsts same xs ≡ xs
firsts_apart same [] h = refl
firsts_apart {X} same (x ∷ xs) h =
    ap (λ (t : List X). x ∷ filter (λ y. not (same x y)) t) (firsts_apart same xs (rest_apart same x xs h)) ∙ ap (λ (t : List X). x ∷ t) (kept_all same x xs (first_apart same x xs h))

pub firsts-again : {X : Type 0} (same : X → X → Bool) (xs : List X) → firsts same (firsts same xs) ≡ firsts same xs
firsts-again same xs = firsts_apart same (firsts same xs) (firsts-apart same xs)

-- ---- the tables of a link

in_picked : {Y : Type 0} (o : Option Y) {y : Y} (ys : List Y) → o ≡ Some y → In y (cons_option o ys)
in_picked None ys e = absurd (true≢false (sym (ap is_some e)))
in_picked {Y} (Some z) {y} ys e = subst (λ (t : Y). In y (t ∷ ys)) (sym (ap (λ (o : Option Y). unwrap_or o y) e)) here

in_further : {Y : Type 0} (o : Option Y) {y : Y} {ys : List Y} → In y ys → In y (cons_option o ys)
in_further None i = i
in_further (Some z) i = there i

pub in-filter_map : {X Y : Type 0} (h : X → Option Y) {x : X} {xs : List X} {y : Y} → In x xs → h x ≡ Some y → In y (filter_map h xs)
in-filter_map h {xs = []} i e = elim i [ ]
in-filter_map h {xs = z ∷ xs} here e = in_picked (h z) (filter_map h xs) e
in-filter_map h {xs = z ∷ xs} (there i) e = in_further (h z) (in-filter_map h i e)

modules_sub : (ps qs : List Imp) → ((p : Imp) → In p ps → In p qs) → length (modules_in ps) ≤ length (modules_in qs)
modules_sub ps qs sub =
    firsts-no-longer nat_list_eq_equiv (map (λ p. uppercase p.module) ps) (map (λ p. uppercase p.module) qs) (λ n i. let r = from_map (λ (p : Imp). uppercase p.module) ps i in subst (λ (t : List ℕ). In t (map (λ p. uppercase p.module) qs)) r.is (in_map (λ (p : Imp). uppercase p.module) (sub r.item r.inside)))

procs_sub : (ps qs : List Imp) → ((p : Imp) → In p ps → In p qs) → length (procs_in ps) ≤ length (procs_in qs)
procs_sub ps qs sub =
    firsts-no-longer nat_list_eq_equiv (filter_map (λ p. proc_name p.entry) ps) (filter_map (λ p. proc_name p.entry) qs) (λ n i. let r = from_filter_map (λ (p : Imp). proc_name p.entry) ps i in in-filter_map (λ (p : Imp). proc_name p.entry) (sub r.item r.inside) r.gives)

pub more-modules : (l : Link) → length (modules_in (used_pairs l)) ≤ length (modules_in (link_pairs l))
unfolding link_pairs
more-modules l = modules_sub (used_pairs l) (link_pairs l) (λ p i. in_left (filter_map (λ x. forwarded x.target) (Out l)) i)

pub more-procs : (l : Link) → length (procs_in (used_pairs l)) ≤ length (procs_in (link_pairs l))
unfolding link_pairs
more-procs l = procs_sub (used_pairs l) (link_pairs l) (λ p i. in_left (filter_map (λ x. forwarded x.target) (Out l)) i)

used_by : (l : Link) (t : Target) (p : Imp) → pair_used l t ≡ Some p → In p (imports l)
used_by l (Internal o offset) p e = absurd (true≢false (sym (ap is_some e)))
used_by l (Constant value) p e = absurd (true≢false (sym (ap is_some e)))
used_by l (Entry slot) p e = in_at (imports l) slot p e

used_in : (l : Link) (p : Imp) → In p (used_pairs l) → In p (imports l)
unfolding used_pairs
used_in l p i = let r = from_filter_map (λ (q : Fixup). pair_used l q.target) (recorded l) i in used_by l r.item.target p r.gives

pair_is : (e : ExportTarget) (p q : Imp) → Forward p ≡ e → forwarded e ≡ Some q → p ≡ q
pair_is e p q is gives = ap (λ (o : Option Imp). unwrap_or o p) (ap forwarded is ∙ gives)

led_by : (l : Link) (t : Target) (e : ExportTarget) (p : Imp) → export_target l t ≡ Some e → forwarded e ≡ Some p → In p (imports l)
led_by l (Internal o offset) e p is gives =
    absurd (true≢false (sym (ap is_some (ap (λ (x : Option ExportTarget). forwarded (unwrap_or x e)) is ∙ gives))))
led_by l (Constant value) e p is gives = absurd (true≢false (sym (ap is_some is)))
led_by l (Entry slot) e p is gives =
    let r = mapped Forward (slice_get (imports l) slot) e is in
    subst (λ (q : Imp). In q (imports l)) (pair_is e r.item p r.gives gives) (in_at (imports l) slot r.item r.is)

forward_in : (l : Link) (p : Imp) → In p (filter_map (λ x. forwarded x.target) (Out l)) → In p (imports l)
unfolding Out
forward_in l p i =
    let x = from_filter_map (λ (x : Export). forwarded x.target) (Out l) i in
    let q = from_filter_map (λ (q : ℕ × Exp). export_of l q.0 q.1) (zip (ordinals (asked_ordinals l)) (exports l)) x.inside in
    let e = mapped (export_with l q.item.0 q.item.1) (option_and_then (export_target l) (option_and_then (of_symbol l) (global l q.item.1.internal))) x.item q.gives in
    let t = through (export_target l) (option_and_then (of_symbol l) (global l q.item.1.internal)) e.item e.is in
    led_by l t.item e.item p t.gives (ap (λ (y : Export). forwarded y.target) e.gives ∙ x.gives)

pub link-pairs-known : (l : Link) (p : Imp) → In p (link_pairs l) → In p (imports l)
unfolding link_pairs
link-pairs-known l p i =
    elim (in_either (used_pairs l) (filter_map (λ x. forwarded x.target) (Out l)) i) as (λ s. In p (imports l)) [ inl j ↦ used_in l p j | inr j ↦ forward_in l p j ]

counted : (b : Bool) (r : SymRefusal) → cond b (Some r) None ≡ None → b ≡ false
counted true r e = absurd (true≢false (ap is_some e))
counted false r e = refl

few_known : (l : Link) → sym_refusal l ≡ None → length (modules_in (imports l)) ≤ MAX_NUMBER
unfolding sym_refusal
few_known l e =
    let first = (neither (twice l) (first_of (missing_external l ∷ missing_export l ∷ imports_many l ∷ [])) e).1 in
    let second = (neither (missing_external l) (first_of (missing_export l ∷ imports_many l ∷ [])) first).1 in
    let third = (neither (missing_export l) (first_of (imports_many l ∷ [])) second).1 in
    let fourth = (neither (imports_many l) (first_of []) third).0 in
    ltb-false MAX_NUMBER (length (modules_in (imports l))) (counted (nat_lt MAX_NUMBER (length (modules_in (imports l)))) (ImportsMany (length (modules_in (imports l)))) fourth)

-- The numbers of import modules have 16 bits.
pub few-modules : (l : Link) → sym_refusal l ≡ None → length (modules_in (link_pairs l)) ≤ MAX_NUMBER
few-modules l e =
    let sub = modules_sub (link_pairs l) (imports l) (λ p i. link-pairs-known l p i) in
    let few = few_known l e in
    omega (arith, sub, few)
