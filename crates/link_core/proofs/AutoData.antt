-- The automatic data object, by the groups of modules.
use Rattle.std.specs.Prelude.{◌≡◌, ℕ, zero, suc, ◌+◌, ◌<◌, Bool, true, false, not, ◌&&◌, ◌||◌, List, [], ◌∷◌, ◌++◌, Option, Some, None, map, filter, length, take, bytes_eq, is_some, unwrap_or, cond, refl}
use Rattle.std.specs.List.{find, flat_map, list_any, enumerate_from, position, All, AllByRecursion}
use Rattle.std.specs.Option.{option_map, option_and_then}
use Rattle.std.specs.Borrow.{Bor}
use Rattle.std.specs.Cmp.Lexicographic.{nat_list_eq_equiv}
use Rattle.std.proofs.Common.{ap, sym, ◌∙◌, arith, true≢false, subst, get_or}
use Rattle.std.proofs.lemmas.List.{map-append, take_more}
use Rattle.std.proofs.lemmas.List.Elements.{All-push, recursion_from_All}
use Rattle.std.proofs.lemmas.List.Quantifiers.{position-Some}
use Rattle.std.proofs.lemmas.Slice.Eq.{bytes_eq-Decides}
use Rattle.std.proofs.lemmas.Bool.{or_parts}
use Rattle.std.proofs.lemmas.Option.{slice_get-get_or}
use Rattle.obj_types.specs.Items.{item}
use Rattle.obj_types.specs.declared.object.Group.{Group}
use Rattle.obj_types.specs.declared.object.ObjModule.{ObjModule}
use Rattle.link_model.specs.Link.{Link, chosen_module}
use Rattle.link_model.specs.Groups.{FLAT, DGROUP, group_names, members_in, is_near_bss, has_near, in_group}
use Rattle.link_model.specs.Parts.{Part, joins}
use Rattle.link_model.specs.Communals.{parts}
use Rattle.link_model.specs.Layout.{object_of}
use Rattle.link_model.specs.Goals.{group_name, object_of_group}
use Rattle.link_model.specs.Header.{auto_data}
use Rattle.link_model.proofs.Tables.{any-firsts}
use Rattle.link_model.proofs.Members.{position_is}
use Rattle.link_types.specs.declared.places.Places.{Places}
use Rattle.link_types.specs.Places.{ArePlaces, group_in}

abbrev pub named : Group → Bool
named g = bytes_eq g.name DGROUP

-- The module declares no group of that name.
abbrev pub HasNone : ObjModule → Type 0
HasNone m = list_any named m.groups ≡ false

-- ---- a module that declares it

item_is : {X : Type 0} (xs : List X) (n i : ℕ) (d : X) → n ≡ i + 1 → i < length xs → item xs n ≡ Some (get_or xs i d)
item_is {X} xs n i d e h =
    let same : suc i ≡ n = omega (arith, e) in
    subst (λ (k : ℕ). item xs k ≡ Some (get_or xs i d)) same (slice_get-get_or xs i d h)

mapped_at : (ms : List (Bor ObjModule)) (i : ℕ) (d : Bor ObjModule) → i < length ms → get_or (map (λ m. m.now) ms) i d.now ≡ (get_or ms i d).now
mapped_at [] i d h = absurd (omega (arith, h))
mapped_at (m ∷ ms) zero d h = refl
mapped_at (m ∷ ms) (suc i) d h = mapped_at ms i d (omega (arith, h))

length-lent : (ms : List (Bor ObjModule)) → length (map (λ m. m.now) ms) ≡ length ms
length-lent [] = refl
length-lent (m ∷ ms) = ap suc (length-lent ms)

chosen_is : (l : Link) (ms : List (Bor ObjModule)) (n i : ℕ) (x : Bor ObjModule) → l.modules ≡ map (λ m. m.now) ms → n ≡ i + 1 → i < length ms → x ≡ get_or ms i x → chosen_module l n ≡ Some x.now
chosen_is l ms n i x of e h is =
    let long = length-lent ms in
    ap (λ (xs : List ObjModule). item xs n) of ∙ item_is (map (λ m. m.now) ms) n i x.now e (omega (arith, h, long)) ∙ ap (λ (m : ObjModule). Some m) (mapped_at ms i x h ∙ sym (ap (λ (b : Bor ObjModule). b.now) is))

group_is : (gs : List Group) (i k : ℕ) → i ≡ k + 1 → position named gs ≡ Some k → option_map (λ g. g.name) (item gs i) ≡ Some DGROUP
group_is [] i k e is = absurd (true≢false (sym (ap is_some is)))
group_is (g ∷ gs) i k e is =
    let at = position-Some named (g ∷ gs) k g is in
    let same : (get_or (g ∷ gs) k g).name ≡ DGROUP = (bytes_eq-Decides (get_or (g ∷ gs) k g).name DGROUP).0 at.1 in
    ap (option_map (λ (x : Group). x.name)) (item_is (g ∷ gs) i k g e at.0) ∙ ap (λ (n : List ℕ). Some n) same

pub auto-found : (l : Link) (p : Places) (ms : List (Bor ObjModule)) (x : Bor ObjModule) (index n i k : ℕ) → l.modules ≡ map (λ m. m.now) ms → ArePlaces l p → index < length ms → x ≡ get_or ms index x → n ≡ index + 1 → i ≡ k + 1 → position named x.now.groups ≡ Some k
    → unwrap_or (option_and_then (λ (o : Option ℕ). o) (group_in p n i)) 0 ≡ auto_data l
unfolding auto_data
auto-found l p ms x index n i k of are h is at place found =
    let name : group_name l n i ≡ Some DGROUP = ap (option_and_then (λ (m : ObjModule). option_map (λ (g : Group). g.name) (item m.groups i))) (chosen_is l ms n index x of at h is) ∙ group_is x.now.groups i k place found in
    ap (λ (o : Option (Option ℕ)). unwrap_or (option_and_then (λ (o : Option ℕ). o) o) 0) (are.groups n i ∙ ap (option_map (object_of_group l)) name)

-- ---- none declares it

none_by : (gs : List Group) (b : Bool) → list_any named gs ≡ b → position named gs ≡ None → b ≡ false
none_by gs true e none = absurd (true≢false (ap is_some (sym (position_is named gs e) ∙ none)))
none_by gs false e none = refl

pub has-none : (m : ObjModule) → position named m.groups ≡ None → HasNone m
has-none m none = none_by m.groups (list_any named m.groups) refl none

pub all-more : (P : ObjModule → Type 0) (ms : List (Bor ObjModule)) (i : ℕ) (x : Bor ObjModule) → i < length ms → x ≡ get_or ms i x → All P (map (λ m. m.now) (take i ms)) → P x.now → All P (map (λ m. m.now) (take (i + 1) ms))
all-more P ms i x h is all here =
    let more : map (λ m. m.now) (take i ms) ++ x.now ∷ [] ≡ map (λ m. m.now) (take (i + 1) ms) = sym (map-append (λ (m : Bor ObjModule). m.now) (take i ms) (x ∷ [])) ∙ ap (map (λ (m : Bor ObjModule). m.now)) (ap (λ (b : Bor ObjModule). take i ms ++ b ∷ []) is ∙ sym (take_more ms i x h)) in
    subst (λ (xs : List ObjModule). All P xs) more (All-push P (map (λ m. m.now) (take i ms)) x.now all here)

none_kept : (gs : List Group) → list_any named gs ≡ false → filter named gs ≡ []
none_kept [] e = refl
none_kept (g ∷ gs) e =
    ap (λ (b : Bool). cond b (g ∷ filter named gs) (filter named gs)) (or_parts (named g) (list_any named gs) e).0 ∙ none_kept gs (or_parts (named g) (list_any named gs) e).1

no_members_in : (b : ℕ) (ms : List ObjModule) → AllByRecursion HasNone ms → flat_map (λ q. flat_map (members_in q.0 q.1) (filter named q.1.groups)) (enumerate_from b ms) ≡ []
no_members_in b [] h = refl
no_members_in b (m ∷ ms) h =
    ap (λ (gs : List Group). flat_map (members_in b m) gs ++ flat_map (λ q. flat_map (members_in q.0 q.1) (filter named q.1.groups)) (enumerate_from (b + 1) ms)) (none_kept m.groups h.0) ∙ no_members_in (b + 1) ms h.1

no_name : (gs : List Group) → list_any named gs ≡ false → list_any (bytes_eq DGROUP) (map (λ g. g.name) gs) ≡ false
no_name [] e = refl
no_name (g ∷ gs) e =
    ap (λ (b : Bool). b || list_any (bytes_eq DGROUP) (map (λ g. g.name) gs)) (nat_list_eq_equiv.symm DGROUP g.name ∙ (or_parts (named g) (list_any named gs) e).0) ∙ no_name gs (or_parts (named g) (list_any named gs) e).1

any_append : (xs ys : List (List ℕ)) → list_any (bytes_eq DGROUP) xs ≡ false → list_any (bytes_eq DGROUP) ys ≡ false → list_any (bytes_eq DGROUP) (xs ++ ys) ≡ false
any_append [] ys e f = f
any_append (x ∷ xs) ys e f =
    ap (λ (b : Bool). b || list_any (bytes_eq DGROUP) (xs ++ ys)) (or_parts (bytes_eq DGROUP x) (list_any (bytes_eq DGROUP) xs) e).0 ∙ any_append xs ys (or_parts (bytes_eq DGROUP x) (list_any (bytes_eq DGROUP) xs) e).1 f

no_names : (ms : List ObjModule) → AllByRecursion HasNone ms → list_any (bytes_eq DGROUP) (flat_map (λ m. map (λ g. g.name) m.groups) ms) ≡ false
no_names [] h = refl
no_names (m ∷ ms) h = any_append (map (λ g. g.name) m.groups) (flat_map (λ m. map (λ g. g.name) m.groups) ms) (no_name m.groups h.0) (no_names ms h.1)

filter_none : (keep : List ℕ → Bool) (xs : List (List ℕ)) → list_any (bytes_eq DGROUP) xs ≡ false → list_any (bytes_eq DGROUP) (filter keep xs) ≡ false
filter_none keep [] e = refl
filter_none keep (x ∷ xs) e = kept (keep x) (filter_none keep xs (or_parts (bytes_eq DGROUP x) (list_any (bytes_eq DGROUP) xs) e).1)
  where
    kept : (b : Bool) → list_any (bytes_eq DGROUP) (filter keep xs) ≡ false → list_any (bytes_eq DGROUP) (cond b (x ∷ filter keep xs) (filter keep xs)) ≡ false
    kept true rest = ap (λ (t : Bool). t || list_any (bytes_eq DGROUP) (filter keep xs)) (or_parts (bytes_eq DGROUP x) (list_any (bytes_eq DGROUP) xs) e).0 ∙ rest
    kept false rest = rest

no_group : (l : Link) → AllByRecursion HasNone l.modules → list_any (bytes_eq DGROUP) (group_names l) ≡ false
no_group l h =
    any-firsts nat_list_eq_equiv DGROUP (filter (λ g. not (bytes_eq g FLAT)) (flat_map (λ m. map (λ g. g.name) m.groups) l.modules))
    ∙ filter_none (λ g. not (bytes_eq g FLAT)) (flat_map (λ m. map (λ g. g.name) m.groups) l.modules) (no_names l.modules h)

in_none : (l : Link) (p : Part) → AllByRecursion HasNone l.modules → in_group l DGROUP p ≡ false
in_none l p h =
    ap (λ (ps : List Part). list_any (λ q. joins p q) ps || (bytes_eq DGROUP DGROUP && list_any (bytes_eq DGROUP) (group_names l) && (is_near_bss p && has_near l))) (no_members_in 1 l.modules h)
    ∙ ap (λ (b : Bool). false || (bytes_eq DGROUP DGROUP && b && (is_near_bss p && has_near l))) (no_group l h)

none_found : (test : Part → Bool) (ps : List Part) → ((p : Part) → test p ≡ false) → find test ps ≡ None
none_found test [] h = refl
none_found test (p ∷ ps) h = ap (λ (b : Bool). cond b (Some p) (find test ps)) (h p) ∙ none_found test ps h

pub auto-none : (l : Link) (ms : List ObjModule) → l.modules ≡ ms → All HasNone ms → 0 ≡ auto_data l
unfolding auto_data
auto-none l ms of h =
    let all : AllByRecursion HasNone l.modules = subst (λ (xs : List ObjModule). AllByRecursion HasNone xs) (sym of) (recursion_from_All HasNone ms h) in
    sym (ap (λ (o : Option Part). unwrap_or (option_and_then (object_of l) o) 0) (none_found (in_group l DGROUP) (parts l) (λ p. in_none l p all)))
