-- Parts of one logical segment have the same flags.
use Rattle.std.specs.Prelude.{◌≡◌, ℕ, zero, suc, ◌<◌, Bool, true, false, cond, not, ◌&&◌, ◌||◌, List, [], ◌∷◌, ◌++◌, Option, Some, None, take, length, get_or, bytes_eq, refl}
use Rattle.std.specs.List.{list_any, find}
use Rattle.std.specs.Bool.{beq}
use Rattle.std.specs.Option.{option_map_or}
use Rattle.std.proofs.Common.{ap, sym, ◌∙◌, arith, append_assoc}
use Rattle.std.proofs.lemmas.Bool.{and_parts}
use Rattle.std.proofs.lemmas.List.{append-nil, get_or-take, length-take-le}
use Rattle.std.proofs.lemmas.Slice.Eq.{bytes_eq-Decides}
use Rattle.lx_types.proofs.Options.{mapped_none}
use Rattle.obj_types.specs.declared.definition.Attrs.{Attrs}
use Rattle.obj_types.specs.declared.definition.SegAttrs.{SegAttrs}
use Rattle.link_model.specs.declared.refusals.LayRefusal.TheVariants.{UseMixed}
use Rattle.link_model.specs.Words.{first_conflict}
use Rattle.link_model.specs.Link.{Link}
use Rattle.link_model.specs.Parts.{Part, same_origin, same_segment, joins, is_private, is_common}
use Rattle.link_model.specs.declared.keys.SegmentKey.{SegmentKey}
use Rattle.link_model.specs.declared.keys.SegmentKey.TheVariants.{Private, Public, Common}
use Rattle.link_model.specs.Communals.{parts}
use Rattle.link_model.specs.Flags.{flags_of, flags_with, is_code_class}
use Rattle.link_model.specs.LayoutRefusals.{differ_in_use}
use Rattle.seg_merge.specs.Agreeing.{FlagsAgree}
use Rattle.seg_merge.proofs.GroupPlaces.{any_get}
use Rattle.seg_merge.proofs.MixedUse.{clash}
use Rattle.seg_merge.proofs.OriginsOfParts.{parts-distinct, earlier-other}

-- ---- without conflict

none_first : {X : Type 0} (b : Bool) (x : X) (rest : Option X) → cond b (Some x) rest ≡ None → (b ≡ false) × (rest ≡ None)
none_first true x rest e = cc
none_first false x rest e = (refl, e)

none_before : {X : Type 0} (c : X → X → Bool) (earlier xs : List X) (k : ℕ) (d : X) → first_conflict c earlier xs ≡ None → k < length xs → list_any (λ y. c y (get_or xs k d)) (earlier ++ take k xs) ≡ false
none_before c earlier [] k d e lt = absurd (omega arith)
none_before {X} c earlier (x ∷ xs) zero d e lt =
    ap (list_any (λ y. c y x)) (append-nil earlier) ∙ (none_first (list_any (λ y. c y x) earlier) x (first_conflict c (earlier ++ x ∷ []) xs) e).0
none_before {X} c earlier (x ∷ xs) (suc k) d e lt =
    ap (list_any (λ y. c y (get_or xs k d))) (sym (append_assoc earlier (x ∷ []) (take k xs)))
    ∙ none_before c (earlier ++ x ∷ []) xs k d (none_first (list_any (λ y. c y x) earlier) x (first_conflict c (earlier ++ x ∷ []) xs) e).1 (omega arith)

pub no-conflict : {X : Type 0} (c : X → X → Bool) (xs : List X) (i j : ℕ) (d : X) → first_conflict c [] xs ≡ None → i < j → j < length xs → c (get_or xs i d) (get_or xs j d) ≡ false
no-conflict {X} c xs i j d e lt below =
    ap (λ (x : X). c x (get_or xs j d)) (sym (get_or-take j xs i d lt))
    ∙ any_get (λ y. c y (get_or xs j d)) (take j xs) i d (none_before c [] xs j d e below) (omega (arith, lt, length-take-le j xs (omega (arith, below))))

-- ---- names and classes

abbrev key : Part → Bool → Bool → SegmentKey
key p private common = cond private (Private p.origin) (cond common (Common p.name p.class) (Public p.name p.class))

names : (a b : Part) → (bytes_eq a.name b.name && bytes_eq a.class b.class) ≡ true → (a.name ≡ b.name) × (a.class ≡ b.class)
names a b f = let two = and_parts (bytes_eq a.name b.name) (bytes_eq a.class b.class) f in ((bytes_eq-Decides a.name b.name).0 two.0, (bytes_eq-Decides a.class b.class).0 two.1)

cases : (a b : Part) (pa pb ca cb : Bool) → same_origin a.origin b.origin ≡ false → same_segment (key a pa ca) (key b pb cb) ≡ true → (a.name ≡ b.name) × (a.class ≡ b.class)
cases a b true true ca cb apart f = absurd (clash f apart)
cases a b true false ca true apart f = absurd (clash f refl)
cases a b true false ca false apart f = absurd (clash f refl)
cases a b false true true cb apart f = absurd (clash f refl)
cases a b false true false cb apart f = absurd (clash f refl)
cases a b false false true true apart f = names a b f
cases a b false false true false apart f = absurd (clash f refl)
cases a b false false false true apart f = absurd (clash f refl)
cases a b false false false false apart f = names a b f

same_names : (a b : Part) → same_origin a.origin b.origin ≡ false → joins a b ≡ true → (a.name ≡ b.name) × (a.class ≡ b.class)
same_names a b apart e = cases a b (is_private a) (is_private b) (is_common a) (is_common b) apart e

flags-same : (l : Link) (a b : Part) → a.name ≡ b.name → a.class ≡ b.class → a.wide ≡ b.wide → flags_of l a ≡ flags_of l b
flags-same l a b e f g =
    let of : List ℕ → List ℕ → Attrs = λ name class. option_map_or (λ item. item.attrs) (find (λ (item : SegAttrs). bytes_eq item.name name && option_map_or (λ c. bytes_eq c class) item.class true) l.def.segs)
    (cond (is_code_class class) l.def.code l.def.plain) in
    ap (λ (n : List ℕ). flags_with (of n a.class) a.wide) e ∙ ap (λ (c : List ℕ). flags_with (of b.name c) a.wide) f ∙ ap (flags_with (of b.name b.class)) g

level : (a b j o : Bool) → (not (beq a b) && (j || o)) ≡ false → j ≡ true → a ≡ b
level true true j o e f = refl
level true false j o e f = absurd (clash (ap (λ (t : Bool). t || o) f) e)
level false true j o e f = absurd (clash (ap (λ (t : Bool). t || o) f) e)
level false false j o e f = refl

pub flags-agree : FlagsAgree
flags-agree l e i j d lt below joined =
    let a : Part = get_or (parts l) i d in
    let b : Part = get_or (parts l) j d in
    let names = same_names a b (earlier-other (parts l) (parts-distinct l) i j d lt below) joined in
    let fits = no-conflict (differ_in_use l) (parts l) i j d (mapped_none (λ (p : Part). UseMixed p.name) (first_conflict (differ_in_use l) [] (parts l)) e) lt below in
    flags-same l a b names.0 names.1 (level a.wide b.wide (joins a b) _ fits joined)
