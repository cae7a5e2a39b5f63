-- The first refusal of fixups, as they come one after another.
use Rattle.std.specs.Prelude.{◌≡◌, ℕ, ◌+◌, ◌<◌, ◌≤◌, List, [], ◌∷◌, ◌++◌, Option, Some, None, map, take, drop, length, option_to_list, refl}
use Rattle.std.specs.Option.{option_or}
use Rattle.std.specs.List.{filter_map, cons_option, flat_map, enumerate_from}
use Rattle.std.specs.Borrow.{Bor}
use Rattle.std.proofs.Common.{ap, sym, ◌∙◌, arith, get_or}
use Rattle.std.proofs.lemmas.List.{append-nil, drop_more, drop_all, map-append}
use Rattle.obj_types.specs.declared.object.FixAt.{FixAt}
use Rattle.obj_types.specs.declared.object.ObjModule.{ObjModule}
use Rattle.link_model.specs.declared.refusals.FixRefusal.{FixRefusal}
use Rattle.link_model.specs.Words.{first_of}
use Rattle.link_model.specs.Fixups.{Fixup, fix_refusal, standing_in}
use Rattle.link_types.specs.Symbols.{SymbolTable}
use Rattle.link_types.specs.declared.places.Places.{Places}
use Rattle.link_fix.specs.Bare.{bare}
use Rattle.link_fix.specs.declared.fixup.Fixup.{Fixup as Left}
use Rattle.link_fix.specs.Shown.{shown}
use Rattle.link_place.specs.Fixed.{fixup_at}
use Rattle.link_place.specs.Judged.{first_refusal, Adds}
use Rattle.link_place.proofs.Growing.{fix-more}

pub first-append : (xs ys : List (Option FixRefusal)) → first_of (xs ++ ys) ≡ option_or (first_of xs) (first_of ys)
first-append [] ys = refl
first-append (Some x ∷ xs) ys = refl
first-append (None ∷ xs) ys = first-append xs ys

pub or-none : (o : Option FixRefusal) → option_or o None ≡ o
or-none None = refl
or-none (Some x) = refl

both : (xs ys : List Fixup) → first_refusal (xs ++ ys) ≡ option_or (first_refusal xs) (first_refusal ys)
both xs ys = ap first_of (map-append fix_refusal xs ys) ∙ first-append (map fix_refusal xs) (map fix_refusal ys)

one_more : (o : Option Fixup) (qs : List Fixup) → cons_option o qs ≡ option_to_list o ++ qs
one_more None qs = refl
one_more (Some q) qs = refl

-- The refusals of the fixups from one on: its own, else that of those after it.
pub fix-split : (F : FixAt → Option Fixup) (xs : List FixAt) (i : ℕ) (d : FixAt) → i < length xs
    → first_refusal (filter_map F (drop i xs)) ≡ option_or (first_refusal (option_to_list (F (get_or xs i d)))) (first_refusal (filter_map F (drop (i + 1) xs)))
fix-split F xs i d h =
    let f : FixAt = get_or xs i d in
    ap (λ (ls : List FixAt). first_refusal (filter_map F ls)) (drop_more xs i d h)
    ∙ ap first_refusal (one_more (F f) (filter_map F (drop (i + 1) xs)))
    ∙ both (option_to_list (F f)) (filter_map F (drop (i + 1) xs))

-- The same of a module's.
pub module-split : (G : ℕ → ObjModule → List Fixup) (ms : List (Bor ObjModule)) (i k : ℕ) (x : Bor ObjModule) → i < length ms → x ≡ get_or ms i x → k ≡ i + 1
    → first_refusal (flat_map (λ q. G q.0 q.1) (enumerate_from (1 + i) (map (λ m. m.now) (drop i ms))))
    ≡ option_or (first_refusal (G k x.now)) (first_refusal (flat_map (λ q. G q.0 q.1) (enumerate_from (1 + (i + 1)) (map (λ m. m.now) (drop (i + 1) ms)))))
module-split G ms i k x h is counted =
    let now : Bor ObjModule → ObjModule = λ b. b.now in
    let rest : List (Bor ObjModule) = drop (i + 1) ms in
    let front : drop i ms ≡ x ∷ rest = drop_more ms i x h ∙ ap (λ (b : Bor ObjModule). b ∷ rest) (sym is) in
    let number : 1 + i ≡ k = omega (arith, counted) in
    let next : 1 + i + 1 ≡ 1 + (i + 1) = omega arith in
    ap (λ (ls : List (Bor ObjModule)). first_refusal (flat_map (λ q. G q.0 q.1) (enumerate_from (1 + i) (map now ls)))) front
    ∙ both (G (1 + i) x.now) (flat_map (λ q. G q.0 q.1) (enumerate_from (1 + i + 1) (map now rest)))
    ∙ ap (λ (n : ℕ). option_or (first_refusal (G n x.now)) (first_refusal (flat_map (λ q. G q.0 q.1) (enumerate_from (1 + i + 1) (map now rest))))) number
    ∙ ap (λ (n : ℕ). option_or (first_refusal (G k x.now)) (first_refusal (flat_map (λ q. G q.0 q.1) (enumerate_from n (map now rest))))) next

-- Where the one that is judged has none, the first refusal is that of those after it.
pub passed : (here rest all whole : Option FixRefusal) → whole ≡ all → whole ≡ option_or here rest → here ≡ None → rest ≡ all
passed here rest all whole same split none = sym (split ∙ ap (λ (o : Option FixRefusal). option_or o rest) none) ∙ same

-- Where it has one, that is the first.
pub refused : (here rest all whole : Option FixRefusal) (r : FixRefusal) → whole ≡ all → whole ≡ option_or here rest → here ≡ Some r → all ≡ Some r
refused here rest all whole r same split some = sym same ∙ split ∙ ap (λ (o : Option FixRefusal). option_or o rest) some

-- A fixup of a module, read from the slice of its fixes, with the number that stands in it.
module _ (p : Places) (s : SymbolTable) (n : ℕ) (m : ObjModule) (standing : ℕ) (lent : List FixAt) (i : ℕ) (d : FixAt) (is : lent ≡ m.fixes) (stands : standing ≡ standing_in m (get_or lent i d)) (h : i < length m.fixes) where
  abbrev found_at : FixAt → Option Fixup
  found_at f = fixup_at p s n m f (standing_in m f)

  read : fixup_at p s n m (get_or lent i d) standing ≡ found_at (get_or m.fixes i d)
  read = ap (fixup_at p s n m (get_or lent i d)) stands ∙ ap (λ (fs : List FixAt). found_at (get_or fs i d)) is

  pub fix-step : (start before new : List Fixup) → before ≡ start ++ map bare (filter_map found_at (take i m.fixes)) → first_refusal (filter_map found_at (drop i m.fixes)) ≡ first_refusal (filter_map found_at m.fixes)
      → first_refusal (option_to_list (fixup_at p s n m (get_or lent i d) standing)) ≡ None → new ≡ before ++ map bare (option_to_list (fixup_at p s n m (get_or lent i d) standing))
      → (new ≡ start ++ map bare (filter_map found_at (take (i + 1) m.fixes))) × (first_refusal (filter_map found_at (drop (i + 1) m.fixes)) ≡ first_refusal (filter_map found_at m.fixes))
  fix-step start before new was judged none made = (
    fix-more found_at m.fixes i d start before new h was (made ∙ ap (λ (o : Option Fixup). before ++ map bare (option_to_list o)) read),
    passed _ _ _ _ judged (fix-split found_at m.fixes i d h) (ap (λ (o : Option Fixup). first_refusal (option_to_list o)) (sym read) ∙ none),
  )

  pub fix-refused : (r : FixRefusal) → first_refusal (filter_map found_at (drop i m.fixes)) ≡ first_refusal (filter_map found_at m.fixes)
      → first_refusal (option_to_list (fixup_at p s n m (get_or lent i d) standing)) ≡ Some r → first_refusal (filter_map found_at m.fixes) ≡ Some r
  fix-refused r judged some = refused _ _ _ _ r judged (fix-split found_at m.fixes i d h) (ap (λ (o : Option Fixup). first_refusal (option_to_list o)) (sym read) ∙ some)

-- Where all are judged, none is refused.
pub all-judged : {X : Type 0} (f : List X → Option FixRefusal) (xs : List X) (i : ℕ) (all : Option FixRefusal) → length xs ≤ i → f [] ≡ None → f (drop i xs) ≡ all → all ≡ None
all-judged f xs i all h none same = sym same ∙ ap f (drop_all i xs h) ∙ none

-- A module without fixups adds none.
pub none-added : (F : FixAt → Option Fixup) (fs : List FixAt) (found : List Left) → length fs ≡ 0 → Adds (filter_map F fs) found found
none-added F [] found none = (refl, sym (append-nil (map shown found)))
none-added F (f ∷ fs) found none = absurd (omega (arith, none))
