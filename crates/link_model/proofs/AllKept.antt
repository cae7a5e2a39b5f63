-- Of an input without COMDATs all is kept, and none of it clashes.
use Rattle.std.specs.Prelude.{◌≡◌, ℕ, ◌+◌, Bool, true, false, not, List, [], ◌∷◌, ◌++◌, Option, Some, None, map, take, filter, slice_get, if◌then◌else◌, refl}
use Rattle.std.specs.List.{flat_map, enumerate_from, AllByRecursion}
use Rattle.std.specs.Option.{option_map_or}
use Rattle.std.proofs.Common.{ap, sym, ◌∙◌}
use Rattle.std.proofs.Math.Bool.{or-false}
use Rattle.std.proofs.lemmas.List.Elements.{recursion_from_All}
use Rattle.obj_types.specs.declared.object.Seg.{Seg}
use Rattle.obj_types.specs.declared.object.Group.{Group}
use Rattle.obj_types.specs.declared.object.Comdat.{Comdat}
use Rattle.obj_types.specs.declared.object.ObjModule.{ObjModule}
use Rattle.obj_types.specs.declared.symbol.Pub.{Pub}
use Rattle.obj_types.specs.declared.symbol.PubPlace.{PubPlace}
use Rattle.obj_types.specs.declared.symbol.PubPlace.TheVariants.{In, Const}
use Rattle.obj_types.specs.declared.input.LinkInput.{LinkInput}
use Rattle.link_model.specs.declared.symbols.Pick.{Pick}
use Rattle.link_model.specs.declared.refusals.ComdatRefusal.{ComdatRefusal}
use Rattle.link_model.specs.Words.{first_of}
use Rattle.link_model.specs.Choosing.{module_of}
use Rattle.link_model.specs.Kept.{is_local, shared, repeated, taken, is_seg_of, seg_without, group_without, is_place_in, without, kept_module, kept_after, Kept}
use Rattle.link_model.specs.Clash.{all_modules, place_of, clash_of, clashes_in, clashes_of, comdat_refusal}
use Rattle.link_model.specs.KeptLaws.{HasNoComdats, AllIsKept, NoneClash}
use Rattle.link_model.proofs.Members.{all_in, in_at}

-- ---- nothing is taken out of a module

abbrev nothing : ℕ → Bool
nothing = is_seg_of []

all_stay : {X : Type 0} (gone : X → Bool) → ((x : X) → gone x ≡ false) → (xs : List X) → filter (λ x. not (gone x)) xs ≡ xs
all_stay gone none [] = refl
all_stay {X} gone none (x ∷ xs) =
    ap (λ (b : Bool). if not b then x ∷ filter (λ x. not (gone x)) xs else filter (λ x. not (gone x)) xs) (none x) ∙ ap (λ (t : List X). x ∷ t) (all_stay gone none xs)

seg_stays : (n : ℕ) (s : Seg) → seg_without nothing n s ≡ s
seg_stays n s = λ i. record s { debug = or-false s.debug i }

segs_stay : (s : ℕ) (segs : List Seg) → map (λ q. seg_without nothing q.0 q.1) (enumerate_from s segs) ≡ segs
segs_stay s [] = refl
segs_stay s (x ∷ xs) = ap (λ (y : Seg). y ∷ map (λ q. seg_without nothing q.0 q.1) (enumerate_from (s + 1) xs)) (seg_stays s x) ∙ ap (λ (t : List Seg). x ∷ t) (segs_stay (s + 1) xs)

group_stays : (g : Group) → group_without nothing g ≡ g
group_stays g = λ i. record g { members = all_stay nothing (λ n. refl) g.members i }

groups_stay : (gs : List Group) → map (group_without nothing) gs ≡ gs
groups_stay [] = refl
groups_stay (g ∷ gs) = ap (λ (y : Group). y ∷ map (group_without nothing) gs) (group_stays g) ∙ ap (λ (t : List Group). g ∷ t) (groups_stay gs)

no_place : (p : PubPlace) → is_place_in nothing p ≡ false
no_place (In seg offset) = refl
no_place (Const value) = refl

without_none : (m : ObjModule) → m.comdats ≡ [] → without nothing m ≡ m
without_none m e = λ i. record m {
  segs = segs_stay 1 m.segs i;
  groups = groups_stay m.groups i;
  pubs = all_stay (λ (p : Pub). is_place_in nothing p.place) (λ p. no_place p.place) m.pubs i;
  pieces = all_stay (λ p. nothing p.seg) (λ p. refl) m.pieces i;
  fixes = all_stay (λ f. nothing f.seg) (λ f. refl) m.fixes i;
  comdats = sym e i;
}

pub none_taken : (before : List ObjModule) (m : ObjModule) → m.comdats ≡ [] → taken before m ≡ []
none_taken before m e = ap (λ (cs : List Comdat). repeated (flat_map shared before) (filter (λ c. not (is_local m c)) cs)) e

pub module_kept : (before : List ObjModule) (m : ObjModule) → m.comdats ≡ [] → kept_module before m ≡ m
module_kept before m e = ap (λ (cs : List Comdat). without (is_seg_of cs) m) (none_taken before m e) ∙ without_none m e

-- ---- nor out of an input

abbrev HasNone : ObjModule → Type 0
HasNone m = m.comdats ≡ []

after_kept : (before ms : List ObjModule) → AllByRecursion HasNone ms → kept_after before ms ≡ ms
after_kept before [] h = refl
after_kept before (m ∷ ms) h =
    ap (λ (n : ObjModule). n ∷ kept_after (before ++ m ∷ []) ms) (module_kept before m h.0) ∙ ap (λ (t : List ObjModule). m ∷ t) (after_kept (before ++ m ∷ []) ms h.1)

pub all_is_kept : AllIsKept
unfolding Kept
all_is_kept input h = λ i. record input {
  objects = after_kept [] input.objects (recursion_from_All HasNone input.objects h.objects) i;
  libs = after_kept input.objects input.libs (recursion_from_All HasNone input.libs h.libs) i;
}

-- ---- none clashes

in_pick : (input : LinkInput) (lib : Bool) (index : ℕ) (m : ObjModule) → HasNoComdats input → slice_get (if lib then input.libs else input.objects) index ≡ Some m → HasNone m
in_pick input true index m h e = all_in HasNone input.libs h.libs (in_at input.libs index m e)
in_pick input false index m h e = all_in HasNone input.objects h.objects (in_at input.objects index m e)

pick_by : (input : LinkInput) (picks : List Pick) (q : ℕ × Pick) (o : Option ObjModule) → ((m : ObjModule) → o ≡ Some m → HasNone m) → option_map_or (clashes_in input picks q.0 (place_of input q.1)) o [] ≡ []
pick_by input picks q None h = refl
pick_by input picks q (Some m) h =
    ap (map (λ c. clash_of input picks q.0 (record { owner = m; comdat = c }))) (none_taken (take (place_of input q.1) (all_modules input)) m (h m refl))

none_in : (input : LinkInput) (picks : List Pick) → HasNoComdats input → (qs : List (ℕ × Pick)) → flat_map (clashes_of input picks) qs ≡ []
none_in input picks h [] = refl
none_in input picks h (q ∷ qs) =
    ap (λ (t : List (Option ComdatRefusal)). t ++ flat_map (clashes_of input picks) qs) (pick_by input picks q (module_of input q.1) (λ m e. in_pick input q.1.lib q.1.index m h e)) ∙ none_in input picks h qs

pub none_clash : NoneClash
unfolding comdat_refusal
none_clash input picks h = ap first_of (none_in input picks h (enumerate_from 1 picks))
