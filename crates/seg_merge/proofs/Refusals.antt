-- The first refusal of a layout.
use Rattle.std.specs.Prelude.{◌≡◌, ℕ, ◌+◌, ◌==◌, List, [], ◌∷◌, Option, Some, None, map, find, refl}
use Rattle.std.specs.List.{enumerate_from}
use Rattle.std.specs.Option.{option_map, option_or}
use Rattle.std.proofs.Common.{ap, ◌∙◌}
use Rattle.std.proofs.lemmas.List.Folds.{find-append}
use Rattle.lx_types.proofs.Options.{or_none}
use Rattle.obj_types.specs.declared.object.TheConstants.{ALIGN_ABSOLUTE}
use Rattle.obj_types.specs.declared.symbol.Common.{Common}
use Rattle.link_model.specs.declared.refusals.LayRefusal.{LayRefusal}
use Rattle.link_model.specs.declared.refusals.LayRefusal.TheVariants.{AbsoluteSeg}
use Rattle.link_model.specs.Words.{first_of}
use Rattle.link_model.specs.Link.{Link}
use Rattle.link_model.specs.Parts.{Part, contributions}
use Rattle.link_model.specs.Symbols.{commons}
use Rattle.link_model.specs.Communals.{of_common, communals, parts}
use Rattle.link_model.specs.LayoutRefusals.{absolute, use_mixed, group_split, too_large, lay_refusal}
use Rattle.seg_parts.specs.Refusals.{absolute_in}

-- ---- communals are not absolute

no_communal : (l : Link) (s : ℕ) (cs : List (List ℕ × Common)) → find (λ p. p.align == ALIGN_ABSOLUTE) (map (λ q. of_common l q.0 q.1.1) (enumerate_from s cs)) ≡ None
no_communal l s [] = refl
no_communal l s (c ∷ cs) = no_communal l (s + 1) cs

pub absolute-is : (l : Link) → absolute_in (parts l) ≡ absolute l
unfolding parts
absolute-is l =
    ap (option_map (λ (p : Part). AbsoluteSeg p.name))
    (find-append (λ p. p.align == ALIGN_ABSOLUTE) (contributions l) (communals l)
    ∙ ap (option_or (find (λ p. p.align == ALIGN_ABSOLUTE) (contributions l))) (no_communal l 0 (commons l)) ∙ or_none (find (λ p. p.align == ALIGN_ABSOLUTE) (contributions l)))

-- ---- the first of several

pub first-is : {X : Type 0} (a b c : Option X) (x : X) → a ≡ Some x → first_of (a ∷ b ∷ c ∷ []) ≡ Some x
first-is {X} a b c x e = ap (λ (o : Option X). option_or o (first_of (b ∷ c ∷ []))) e

pub later-is : {X : Type 0} (a b c : Option X) (x : X) → a ≡ None → first_of (b ∷ c ∷ []) ≡ Some x → first_of (a ∷ b ∷ c ∷ []) ≡ Some x
later-is {X} a b c x e f = ap (λ (o : Option X). option_or o (first_of (b ∷ c ∷ []))) e ∙ f

pub none-is : {X : Type 0} (a b c : Option X) → a ≡ None → b ≡ None → c ≡ None → first_of (a ∷ b ∷ c ∷ []) ≡ None
none-is {X} a b c e f g =
    ap (λ (o : Option X). option_or o (first_of (b ∷ c ∷ []))) e ∙ ap (λ (o : Option X). option_or o (first_of (c ∷ []))) f ∙ ap (λ (o : Option X). option_or o None) g

pub second-is : {X : Type 0} (a b : Option X) (x : X) → a ≡ None → b ≡ Some x → first_of (a ∷ b ∷ []) ≡ Some x
second-is {X} a b x e f = ap (λ (o : Option X). option_or o (first_of (b ∷ []))) e ∙ ap (λ (o : Option X). option_or o None) f

last_left : {X : Type 0} (a b c d : Option X) → first_of (a ∷ b ∷ c ∷ []) ≡ None → first_of (a ∷ b ∷ c ∷ d ∷ []) ≡ d
last_left (Some a) b c d e = absurd (cc)
last_left None (Some b) c d e = absurd (cc)
last_left None None (Some c) d e = absurd (cc)
last_left None None None d e = or_none d

one_before : {X : Type 0} (a b c d : Option X) (x : X) → first_of (a ∷ b ∷ c ∷ []) ≡ Some x → first_of (a ∷ b ∷ c ∷ d ∷ []) ≡ Some x
one_before (Some a) b c d x e = e
one_before None (Some b) c d x e = e
one_before None None (Some c) d x e = e
one_before None None None d x e = absurd (cc)

abbrev pub earlier : Link → Option LayRefusal
earlier l = first_of (absolute l ∷ use_mixed l ∷ group_split l ∷ [])

pub only-large : (l : Link) → earlier l ≡ None → lay_refusal l ≡ too_large l
unfolding lay_refusal
only-large l e = last_left (absolute l) (use_mixed l) (group_split l) (too_large l) e

pub refused-before : (l : Link) (r : LayRefusal) → earlier l ≡ Some r → lay_refusal l ≡ Some r
unfolding lay_refusal
refused-before l r e = one_before (absolute l) (use_mixed l) (group_split l) (too_large l) r e
