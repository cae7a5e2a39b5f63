-- Each external of a link whose names are not refused has a meaning, and each meaning is there.
use Rattle.std.specs.Prelude.{◌≡◌, Bool, true, false, cond, not, List, [], ◌∷◌, Option, Some, None, IsSome, is_some, is_none, refl}
use Rattle.std.specs.List.{find, AllByRecursion}
use Rattle.std.specs.Option.{option_map, option_or}
use Rattle.std.proofs.Common.{ap, true≢false}
use Rattle.std.proofs.lemmas.Bool.{not-false}
use Rattle.std.proofs.lemmas.List.Elements.{All-from_recursion}
use Rattle.link_model.specs.declared.refusals.SymRefusal.TheVariants.{Missing}
use Rattle.link_model.specs.Words.{first_of}
use Rattle.link_model.specs.Link.{Link, externals, exports}
use Rattle.link_model.specs.Symbols.{Sym, global}
use Rattle.link_model.specs.SymbolRefusals.{sym_refusal, twice, missing_external, missing_export, imports_many, is_exportable}
use Rattle.link_model.specs.NothingDropped.{ExternalsMean}
use Rattle.link_model.proofs.Rules.{rules}

-- ---- where there is none of several

pub neither : {X : Type 0} (a b : Option X) → option_or a b ≡ None → (a ≡ None) × (b ≡ None)
neither None b e = (refl, e)
neither (Some x) b e = absurd (true≢false (ap is_some e))

pub not_mapped : {X Y : Type 0} (f : X → Y) (o : Option X) → option_map f o ≡ None → o ≡ None
not_mapped f None e = refl
not_mapped f (Some x) e = absurd (true≢false (ap is_some e))

pub not_first_by : {X : Type 0} (x : X) (rest : Option X) (b : Bool) → cond b (Some x) rest ≡ None → (b ≡ false) × (rest ≡ None)
not_first_by x rest true e = absurd (true≢false (ap is_some e))
not_first_by x rest false e = (refl, e)

pub none_passes : {X : Type 0} (test : X → Bool) (xs : List X) → find test xs ≡ None → AllByRecursion (λ x. test x ≡ false) xs
none_passes test [] e = tt
none_passes test (x ∷ xs) e = let both = not_first_by x (find test xs) (test x) e in (both.0, none_passes test xs both.1)

-- ---- externals

there_is : {X : Type 0} (o : Option X) → is_none o ≡ false → is_some o ≡ true
there_is None e = absurd (true≢false e)
there_is (Some x) e = refl

each_is : {X Y : Type 0} (f : X → Option Y) (xs : List X) → AllByRecursion (λ x. is_none (f x) ≡ false) xs → AllByRecursion (λ x. IsSome (f x)) xs
each_is f [] h = tt
each_is f (x ∷ xs) h = (there_is (f x) h.0, each_is f xs h.1)

pub externals_by_recursion : (l : Link) → sym_refusal l ≡ None → AllByRecursion (λ q. IsSome (Sym l q.0 q.1)) (externals l)
unfolding rules
externals_by_recursion l e =
    let rest = (neither (twice l) (first_of (missing_external l ∷ missing_export l ∷ imports_many l ∷ [])) e).1 in
    let none = (neither (missing_external l) (first_of (missing_export l ∷ imports_many l ∷ [])) rest).0 in
    each_is (λ q. Sym l q.0 q.1) (externals l) (none_passes (λ q. is_none (Sym l q.0 q.1)) (externals l) (not_mapped (λ q. Missing q.1.name) (find (λ q. is_none (Sym l q.0 q.1)) (externals l)) none))

pub externals_mean : ExternalsMean
unfolding rules
externals_mean l e =
    All-from_recursion (λ q. IsSome (Sym l q.0 q.1)) (externals l) (externals_by_recursion l e)

-- ---- exports

each_passes : {X : Type 0} (test : X → Bool) (xs : List X) → AllByRecursion (λ x. not (test x) ≡ false) xs → AllByRecursion (λ x. test x ≡ true) xs
each_passes test [] h = tt
each_passes test (x ∷ xs) h = (not-false (test x) h.0, each_passes test xs h.1)

pub exports_lead : (l : Link) → sym_refusal l ≡ None → AllByRecursion (λ x. is_exportable (global l x.internal) ≡ true) (exports l)
unfolding rules
exports_lead l e =
    let rest = (neither (twice l) (first_of (missing_external l ∷ missing_export l ∷ imports_many l ∷ [])) e).1 in
    let later = (neither (missing_external l) (first_of (missing_export l ∷ imports_many l ∷ [])) rest).1 in
    let none = (neither (missing_export l) (first_of (imports_many l ∷ [])) later).0 in
    each_passes (λ x. is_exportable (global l x.internal)) (exports l) (none_passes (λ x. not (is_exportable (global l x.internal)))
    (exports l) (not_mapped (λ x. Missing x.internal) (find (λ x. not (is_exportable (global l x.internal))) (exports l)) none))
