-- The exports of a link that is accepted: one for each ordinal and for each name, and each has an entry.
use Rattle.std.specs.Prelude.{◌≡◌, ◌≢◌, ℕ, false, List, [], ◌∷◌, None, map, bytes_eq}
use Rattle.std.specs.List.{AllByRecursion}
use Rattle.std.proofs.Common.{sym, ◌∙◌, true≢false, subst}
use Rattle.std.proofs.lemmas.Slice.Eq.{bytes_eq-Decides}
use Rattle.link_model.specs.declared.limits.TheConstants.{MAX_NUMBER}
use Rattle.link_model.specs.Words.{first_of, first_conflict}
use Rattle.link_model.specs.Link.{Link, exports}
use Rattle.link_model.specs.Exports.{Export, Out, asked_ordinals, wrong_ordinal, ordinal_past, name_twice, entry_refusal}
use Rattle.link_model.proofs.ExternalsMean.{neither, not_mapped}
use Rattle.link_model.proofs.ExportsStay.{exports_stay}
use Rattle.link_model.proofs.Members.{In, here, there}
use Rattle.layer_laws.proofs.Given.{Given}
use Rattle.layer_laws.proofs.Apart.{Apart, one-of-key, no-conflict-apart}
use Rattle.layer_laws.proofs.OrdinalsApart.{ordinals-apart, ordinals-some}

-- ---- what is not refused

record NoneWrong (l : Link) : Type 0 where
  ordinal : wrong_ordinal (asked_ordinals l) ≡ None
  name : name_twice (map (λ x. x.name) (exports l)) ≡ None

none_wrong : (l : Link) → entry_refusal l ≡ None → NoneWrong l
unfolding entry_refusal
none_wrong l e =
    let os = asked_ordinals l in
    let twice = name_twice (map (λ x. x.name) (exports l)) in
    let first = neither (wrong_ordinal os) (first_of (ordinal_past MAX_NUMBER os ∷ twice ∷ [])) e in
    let second = neither (ordinal_past MAX_NUMBER os) (first_of (twice ∷ [])) first.1 in
    record { ordinal = first.0; name = (neither twice (first_of []) second.1).0 }

names_differ : (x y : List ℕ) → bytes_eq x y ≡ false → x ≢ y
names_differ x y e same = absurd (true≢false (sym ((bytes_eq-Decides x y).1 same) ∙ e))

-- ---- one of each

out_ordinals : (l : Link) → Given l → Apart (map (λ (x : Export). x.ordinal) (Out l))
out_ordinals l g = subst (λ (ns : List ℕ). Apart ns) (sym (exports_stay l g.whole g.sym_none).ordinals) (ordinals-apart (asked_ordinals l) (none_wrong l g.entry_none).ordinal)

out_names : (l : Link) → Given l → Apart (map (λ (x : Export). x.name) (Out l))
out_names l g =
    subst (λ (ns : List (List ℕ)). Apart ns) (sym (exports_stay l g.whole g.sym_none).names)
    (no-conflict-apart bytes_eq names_differ [] (map (λ x. x.name) (exports l)) (not_mapped _ (first_conflict bytes_eq [] (map (λ x. x.name) (exports l))) (none_wrong l g.entry_none).name))

pub one-of-ordinal : (l : Link) → Given l → (x y : Export) → In x (Out l) → In y (Out l) → x.ordinal ≡ y.ordinal → x ≡ y
one-of-ordinal l g x y i j e = one-of-key (λ (x : Export). x.ordinal) (Out l) (out_ordinals l g) i j e

pub one-of-name : (l : Link) → Given l → (x y : Export) → In x (Out l) → In y (Out l) → x.name ≡ y.name → x ≡ y
one-of-name l g x y i j e = one-of-key (λ (x : Export). x.name) (Out l) (out_names l g) i j e

of_mapped : {X Y : Type 0} (f : X → Y) (P : Y → Type 0) (xs : List X) {x : X} → AllByRecursion P (map f xs) → In x xs → P (f x)
of_mapped f P [] all i = elim i [ ]
of_mapped f P (x ∷ xs) all here = all.0
of_mapped f P (x ∷ xs) all (there i) = of_mapped f P xs all.1 i

pub some-ordinal : (l : Link) → Given l → (x : Export) → In x (Out l) → x.ordinal ≢ 0
some-ordinal l g x i =
    of_mapped (λ (x : Export). x.ordinal) (λ n. n ≢ 0) (Out l)
    (subst (AllByRecursion (λ n. n ≢ 0)) (sym (exports_stay l g.whole g.sym_none).ordinals) (ordinals-some (asked_ordinals l) (none_wrong l g.entry_none).ordinal)) i
