-- The objects that fixups, exports and the start lead to are there.
use Rattle.std.specs.Prelude.{◌≡◌, ℕ, zero, suc, Bool, true, false, cond, nat_lt, List, [], ◌∷◌, Option, Some, None, length, bytes_eq, is_some, unwrap_or, refl}
use Rattle.std.specs.List.{find, filter_map, cons_option, enumerate_from}
use Rattle.std.specs.Option.{option_map, option_and_then, option_map_or}
use Rattle.std.proofs.Common.{ap, sym, arith, true≢false, subst}
use Rattle.lx_types.specs.Sound.{IsNumberOf}
use Rattle.obj_types.specs.Items.{item}
use Rattle.obj_types.specs.declared.object.StartAt.{StartAt}
use Rattle.obj_types.specs.declared.object.Goal.{Goal}
use Rattle.obj_types.specs.declared.object.Goal.TheVariants as goals
use Rattle.obj_types.specs.declared.object.ObjModule.{ObjModule}
use Rattle.link_model.specs.declared.symbols.LaidObject.{LaidObject}
use Rattle.link_model.specs.declared.symbols.SymDef.{SymDef}
use Rattle.link_model.specs.declared.symbols.SymDef.TheVariants as means
use Rattle.link_model.specs.Link.{Link, chosen_module}
use Rattle.link_model.specs.declared.keys.Origin.{Origin}
use Rattle.link_model.specs.declared.keys.Origin.TheVariants.{Segment, Communal}
use Rattle.link_model.specs.Parts.{Part, same_origin, joins}
use Rattle.link_model.specs.Groups.{FLAT, in_group}
use Rattle.link_model.specs.Communals.{parts}
use Rattle.link_model.specs.Rows.{Row, rows, row_of, offset_in}
use Rattle.link_model.specs.Layout.{objects, object_of, place_of_part, place_of_origin, spot, common_spot}
use Rattle.link_model.specs.LayoutRefusals.{lay_refusal}
use Rattle.link_model.specs.Symbols.{Sym}
use Rattle.link_model.specs.Goals.{Target, Internal, Constant, Entry, internal, shifted, of_symbol, group_name, object_of_group, target_of, location}
use Rattle.link_model.specs.Fixups.{Fixup, fixup_at, fixup_of, fixups}
use Rattle.link_model.specs.Start.{first_start, in_object, start_place, place_of_start, Start}
use Rattle.link_model.proofs.Members.{In, here, there, found_as, from_flat_map}
use Rattle.image_model.proofs.ObjectsThere.{IsThere, row_there}

-- ---- through options and filtered maps

pub record Through {X Y : Type 0} (f : X → Option Y) (o : Option X) (y : Y) : Type 0 where
  pub item : X
  pub is : o ≡ Some item
  pub gives : f item ≡ Some y

pub through : {X Y : Type 0} (f : X → Option Y) (o : Option X) (y : Y) → option_and_then f o ≡ Some y → Through f o y
through f None y e = absurd (true≢false (sym (ap is_some e)))
through f (Some x) y e = record { item = x; is = refl; gives = e }

pub record Mapped {X Y : Type 0} (f : X → Y) (o : Option X) (y : Y) : Type 0 where
  pub item : X
  pub is : o ≡ Some item
  pub gives : f item ≡ y

pub mapped : {X Y : Type 0} (f : X → Y) (o : Option X) (y : Y) → option_map f o ≡ Some y → Mapped f o y
mapped f None y e = absurd (true≢false (sym (ap is_some e)))
mapped {X} {Y} f (Some x) y e = record { item = x; is = refl; gives = ap (λ (o : Option Y). unwrap_or o y) e }

pub record Filtered {X Y : Type 0} (h : X → Option Y) (xs : List X) (y : Y) : Type 0 where
  pub item : X
  pub inside : In item xs
  pub gives : h item ≡ Some y

later : {X Y : Type 0} (h : X → Option Y) (x : X) (xs : List X) (y : Y) → Filtered h xs y → Filtered h (x ∷ xs) y
later h x xs y r = record { item = r.item; inside = there r.inside; gives = r.gives }

from_cons : {X Y : Type 0} (h : X → Option Y) (x : X) (xs : List X) (o : Option Y) (ys : List Y) {y : Y} → h x ≡ o → In y (cons_option o ys) → (In y ys → Filtered h xs y) → Filtered h (x ∷ xs) y
from_cons h x xs None ys {y} is i rest = later h x xs y (rest i)
from_cons h x xs (Some z) ys is here rest = record { item = x; inside = here; gives = is }
from_cons h x xs (Some z) ys {y} is (there i) rest = later h x xs y (rest i)

pub from_filter_map : {X Y : Type 0} (h : X → Option Y) (xs : List X) {y : Y} → In y (filter_map h xs) → Filtered h xs y
from_filter_map h [] i = elim i [ ]
from_filter_map h (x ∷ xs) i = from_cons h x xs (h x) (filter_map h xs) refl i (λ j. from_filter_map h xs j)

-- ---- places

row_found : (l : Link) (p : Part) (r : Row) → lay_refusal l ≡ None → row_of l p ≡ Some r → IsThere l r.object
row_found l p r none e = row_there l r none (found_as (λ (q : Row). joins q.segment p) (rows l) r e).inside

origin_there : (l : Link) (o : Origin) (q : ℕ × ℕ) → lay_refusal l ≡ None → place_of_origin l o ≡ Some q → IsThere l q.0
origin_there l o q none e =
    let p = through (place_of_part l) (find (λ p. same_origin p.origin o) (parts l)) q e in
    let r = mapped (λ (r : Row). (r.object, offset_in l r p.item)) (row_of l p.item) q p.gives in
    subst (IsThere l) (ap (λ (t : ℕ × ℕ). t.0) r.gives) (row_found l p.item r.item none r.is)

pub spot_there : (l : Link) (n index : ℕ) (q : ℕ × ℕ) → lay_refusal l ≡ None → spot l n index ≡ Some q → IsThere l q.0
unfolding spot
spot_there l n index q none e = origin_there l (Segment n index) q none e

pub common_there : (l : Link) (slot : ℕ) (q : ℕ × ℕ) → lay_refusal l ≡ None → common_spot l slot ≡ Some q → IsThere l q.0
unfolding common_spot
common_there l slot q none e = origin_there l (Communal slot) q none e

group_by : (l : Link) (g : List ℕ) (o : ℕ) (b : Bool) → lay_refusal l ≡ None → cond b None (option_and_then (object_of l) (find (in_group l g) (parts l))) ≡ Some o → IsThere l o
group_by l g o true none e = absurd (true≢false (sym (ap is_some e)))
group_by l g o false none e =
    let p = through (object_of l) (find (in_group l g) (parts l)) o e in
    let r = mapped (λ (r : Row). r.object) (row_of l p.item) o p.gives in
    subst (IsThere l) r.gives (row_found l p.item r.item none r.is)

pub group_there : (l : Link) (g : List ℕ) (o : ℕ) → lay_refusal l ≡ None → object_of_group l g ≡ Some o → IsThere l o
group_there l g o none e = group_by l g o (bytes_eq g FLAT) none e

-- ---- targets

-- A target in the link is in an object that is there.
abbrev pub LeadsThere : Link → Target → Type 0
LeadsThere l (Internal o offset) = IsThere l o
LeadsThere l (Constant value) = Unit {0}
LeadsThere l (Entry slot) = Unit {0}

place_target : (l : Link) (o : Option (ℕ × ℕ)) (t : Target) → ((q : ℕ × ℕ) → o ≡ Some q → IsThere l q.0) → internal o ≡ Some t → LeadsThere l t
place_target l o t all e =
    let q = mapped (λ (q : ℕ × ℕ). Internal q.0 q.1) o t e in subst (LeadsThere l) q.gives (all q.item q.is)

shifted_there : (l : Link) (n seg offset : ℕ) (q : ℕ × ℕ) → lay_refusal l ≡ None → option_map (shifted offset) (spot l n seg) ≡ Some q → IsThere l q.0
shifted_there l n seg offset q none e =
    let p = mapped (shifted offset) (spot l n seg) q e in
    subst (IsThere l) (ap (λ (t : ℕ × ℕ). t.0) p.gives) (spot_there l n seg p.item none p.is)

pub symbol_there : (l : Link) (d : SymDef) (t : Target) → lay_refusal l ≡ None → of_symbol l d ≡ Some t → LeadsThere l t
symbol_there l (means.In n seg offset) t none e =
    place_target l (option_map (shifted offset) (spot l n seg)) t (λ q is. shifted_there l n seg offset q none is) e
symbol_there l (means.Const value) t none e =
    subst (LeadsThere l) (ap (λ (o : Option Target). unwrap_or o t) e) tt
symbol_there l (means.Common slot) t none e = place_target l (common_spot l slot) t (λ q is. common_there l slot q none is) e
symbol_there l (means.Import slot) t none e =
    subst (LeadsThere l) (ap (λ (o : Option Target). unwrap_or o t) e) tt

in_group_there : (l : Link) (g : List ℕ) (o : Option ℕ) → lay_refusal l ≡ None → object_of_group l g ≡ o → LeadsThere l (option_map_or (λ o. Internal o 0) o (Constant 0))
in_group_there l g None none e = tt
in_group_there l g (Some o) none e = group_there l g o none e

pub goal_there : (l : Link) (n : ℕ) (goal : Goal) (t : Target) → lay_refusal l ≡ None → target_of l n goal ≡ Some t → LeadsThere l t
unfolding target_of
goal_there l n (goals.Seg i) t none e = place_target l (spot l n i) t (λ q is. spot_there l n i q none is) e
goal_there l n (goals.Group i) t none e =
    let g = mapped (λ (g : List ℕ). option_map_or (λ o. Internal o 0) (object_of_group l g) (Constant 0)) (group_name l n i) t e in
    subst (LeadsThere l) g.gives (in_group_there l g.item (object_of_group l g.item) none refl)
goal_there l n (goals.Ext i) t none e =
    let m = through (λ m. option_and_then (λ x. option_and_then (of_symbol l) (Sym l n x)) (item m.exts i)) (chosen_module l n) t e in
    let x = through (λ x. option_and_then (of_symbol l) (Sym l n x)) (item m.item.exts i) t m.gives in
    let d = through (of_symbol l) (Sym l n x.item) t x.gives in
    symbol_there l d.item t none d.gives

-- ---- fixups

pub fixup_there : (l : Link) (q : Fixup) → lay_refusal l ≡ None → In q (fixups l) → LeadsThere l q.target
unfolding fixups
fixup_there l q none i =
    let m = from_flat_map (λ (p : ℕ × ObjModule). filter_map (fixup_of l p.0 p.1) p.1.fixes) (enumerate_from 1 l.modules) i in
    let f = from_filter_map (fixup_of l m.item.0 m.item.1) m.item.1.fixes m.gives in
    let t = through (λ t. option_map (fixup_at l m.item.0 m.item.1 f.item t) (location l m.item.0 f.item)) (target_of l m.item.0 f.item.goal) q f.gives in
    let p = mapped (fixup_at l m.item.0 m.item.1 f.item t.item) (location l m.item.0 f.item) q t.gives in
    subst (LeadsThere l) {x = t.item} (ap (λ (x : Fixup). x.target) p.gives) (goal_there l m.item.0 f.item.goal t.item none t.is)

-- ---- the start

item_number : {X : Type 0} (xs : List X) (n : ℕ) (x : X) → item xs n ≡ Some x → IsNumberOf n (length xs)
item_number xs zero x e = absurd (true≢false (sym (ap is_some e)))
item_number [] (suc n) x e = absurd (true≢false (sym (ap is_some e)))
item_number (y ∷ xs) (suc zero) x e = (omega arith, omega arith)
item_number (y ∷ xs) (suc (suc n)) x e = let r = item_number xs (suc n) x e in (omega arith, omega (arith, r.1))

object_by : (l : Link) (q : ℕ × ℕ) (o : Option LaidObject) → item (objects l) q.0 ≡ o → option_map_or (λ o. nat_lt q.1 o.size) o false ≡ true → IsNumberOf q.0 (length (objects l))
object_by l q None is e = absurd (true≢false (sym e))
object_by l q (Some o) is e = item_number (objects l) q.0 o is

placed_start : (l : Link) (q p : ℕ × ℕ) (b : Bool) → in_object l q ≡ b → cond b (Some q) None ≡ Some p → IsNumberOf p.0 (length (objects l))
placed_start l q p true is e =
    subst (λ (t : ℕ × ℕ). IsNumberOf t.0 (length (objects l))) (ap (λ (o : Option (ℕ × ℕ)). unwrap_or o p) e) (object_by l q (item (objects l) q.0) refl is)
placed_start l q p false is e = absurd (true≢false (sym (ap is_some e)))

start_by : (l : Link) (s : StartAt) (t : Target) (p : ℕ × ℕ) → start_place l s t ≡ Some p → IsNumberOf p.0 (length (objects l))
start_by l s (Internal o offset) p e =
    placed_start l (shifted s.disp (o, offset)) p (in_object l (shifted s.disp (o, offset))) refl e
start_by l s (Constant value) p e = absurd (true≢false (sym (ap is_some e)))
start_by l s (Entry slot) p e = absurd (true≢false (sym (ap is_some e)))

pub start_there : (l : Link) (p : ℕ × ℕ) → Start l ≡ Some p → IsNumberOf p.0 (length (objects l))
unfolding Start
start_there l p e =
    let s = through (place_of_start l) (first_start l) p e in
    let t = through (start_place l s.item.1) (target_of l s.item.0 s.item.1.goal) p s.gives in
    start_by l s.item.1 t.item p t.gives
