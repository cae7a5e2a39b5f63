-- The view of a process that has done nothing, with one page more, and with residences more.
use Rattle.std.proofs.Common.{◌≡◌, ℕ, suc, ◌+◌, ◌*◌, ◌<◌, List, [], ◌∷◌, map, length, Option, None, get_or, refl, ap, ◌∙◌, arith, false, ◌-◌, Bool, ◌++◌, sym, subst, zero, append_assoc}
use Rattle.process_view.proofs.Words.{All, All-get_or, All-push, all_pairs_push, AreApart, AreCountsOf, AreEmpty, Bases, CanJoin, CanMap, Fixed, fixed_page}
use Rattle.process_view.proofs.Words.{fresh_shown, get_or-map, has_page, HaveNone, is_mapped_at, IsFound, IsNewTo, IsNumberOf, IsPlaced, IsReachedNamed}
use Rattle.process_view.proofs.Words.{Keeps, length-map, length-map-range_with_len, Library, Mapped, module_of, modules_of, new_counts, new_process, new_view}
use Rattle.process_view.proofs.Words.{not_placed, object_of, one_more, page, page_with, PageId, PagePlaces, pages_of, Parts, Place, position, ProcessCounts}
use Rattle.process_view.proofs.Words.{ProcessView, Purpose, ReachedResidence, residence_in, ResidenceFor, residences_in, view_of, view_place_refusal}
use Rattle.process_view.proofs.Words.{with_page, with_residence, with_residences}
use Rattle.process_view.proofs.Insides.{IsInside, page_inside}
use Rattle.process_view.proofs.Lookups.{is_used}
use Rattle.process_view.specs.declared.view.View.TheInside.{Inside}

-- ---- the view of a process that has done nothing

-- a list of numbers, each of which is 0
zeros : {X : Type 0} (lib : List X) (counts : List ℕ) → length counts ≡ length lib → ((k : ℕ) → k < length lib → get_or counts k 0 ≡ 0) → counts ≡ map (λ _. 0) lib
zeros [] [] e h = refl
zeros [] (x ∷ xs) e h = absurd (omega (arith, e))
zeros (m ∷ lib) [] e h = absurd (omega (arith, e))
zeros (m ∷ lib) (x ∷ xs) e h =
    let first : x ≡ 0 = h 0 (omega arith) in
    let rest = zeros lib xs (omega (arith, e)) (λ k u. h (suc k) (omega arith)) in
    cc

abbrev row_with : Option ℕ → List ℕ → List ℕ → List ℕ → ProcessCounts
row_with started loads reached attached = record { started = started; loads = loads; reached = reached; attached = attached }

pub row_is_new : (lib : Library) (counts : ProcessCounts) → AreCountsOf lib new_process counts → counts ≡ new_counts lib
row_is_new lib counts is =
    ap (λ (s : Option ℕ). row_with s counts.loads counts.reached counts.attached) is.started
    ∙ ap (λ (ns : List ℕ). row_with None ns counts.reached counts.attached) (zeros lib counts.loads is.loads_are is.loads)
    ∙ ap (λ (ns : List ℕ). row_with None (map (λ _. 0) lib) ns counts.attached) (zeros lib counts.reached is.reached_are is.reached)
    ∙ ap (λ (ns : List ℕ). row_with None (map (λ _. 0) lib) (map (λ _. 0) lib) ns) is.attached

-- what a view is made of that has done nothing
abbrev view_with : Library → ℕ → ProcessCounts → List ReachedResidence → List Mapped → ℕ → ℕ → ProcessView
view_with lib pid counts residences pages n m = record {
  library = lib;
  holding = record { pid = pid; ended = false; counts = counts; residences = map fresh_shown (residences_in residences); mapped = pages; front = 0 };
  residences = residences_in residences;
  page_room = n;
  residence_room = m;
}

pub view_is_new : (lib : Library) (pid : ℕ) (counts : ProcessCounts) (residences : List ReachedResidence) (pages : List Mapped) (n m : ℕ) → AreCountsOf lib new_process counts → residences ≡ [] → pages ≡ [] → n ≡ 0 → m ≡ 0 →
    view_with lib pid counts residences pages n m ≡ new_view lib pid
view_is_new lib pid counts residences pages n m is e f g h =
    ap (λ (r : ProcessCounts). view_with lib pid r residences pages n m) (row_is_new lib counts is) ∙ ap (λ (s : List ReachedResidence). view_with lib pid (new_counts lib) s pages n m) e
    ∙ ap (λ (p : List Mapped). view_with lib pid (new_counts lib) [] p n m) f ∙ ap (λ (k : ℕ). view_with lib pid (new_counts lib) [] [] k m) g ∙ ap (λ (k : ℕ). view_with lib pid (new_counts lib) [] [] 0 k) h

-- ---- the view with one page more

abbrev pub view_made : List Parts → ℕ → Bool → ProcessCounts → List ResidenceFor → List Mapped → ℕ → ℕ → ℕ → ProcessView
view_made lib pid ended counts rs mapped front n m = record {
  library = lib;
  holding = record { pid = pid; ended = ended; counts = counts; residences = map fresh_shown rs; mapped = mapped; front = front };
  residences = rs;
  page_room = n;
  residence_room = m;
}

pub page_kept : (lib : List Parts) (pid : ℕ) (ended : Bool) (counts : ProcessCounts) (rs after : List ResidenceFor) (mapped more : List Mapped) (front n k m : ℕ) (r : ResidenceFor) (p : PageId) (bytes : List ℕ) → after ≡ rs →
    more ≡ mapped ++ page_with r p bytes ∷ [] → k ≡ n - 1 → view_made lib pid ended counts after more front k m ≡ with_page r p bytes (view_made lib pid ended counts rs mapped front n m)
page_kept lib pid ended counts rs after mapped more front n k m r p bytes e f g =
    ap (λ (x : List ResidenceFor). view_made lib pid ended counts x more front k m) e ∙ ap (λ (x : List Mapped). view_made lib pid ended counts rs x front k m) f
    ∙ ap (λ (x : ℕ). view_made lib pid ended counts rs (mapped ++ page_with r p bytes ∷ []) front x m) g

-- ---- where it is kept

-- a residence that is kept at a place, and a page of it that is not mapped
pub record IsKeptAt (i : Inside) (k : ℕ) (s : ReachedResidence) (p : PageId) : Type 0 where
  pub within : k < length i.residences.items
  pub any : (d : ResidenceFor) → get_or (view_of i).residences k d ≡ residence_in s
  pub placed : IsPlaced i.lib i.pages.items s
  pub object : IsNumberOf p.object (length (module_of i.lib (residence_in s).«module»).objects)
  pub page : p.page < pages_of (object_of (module_of i.lib (residence_in s).«module») p.object)
  pub none : position (is_mapped_at (residence_in s).serial p) i.pages.items ≡ None

pub kept_at : (i : Inside) (v : ProcessView) (k : ℕ) (s : ReachedResidence) (p : PageId) → view_of i ≡ v → Keeps i → k < length v.residences → ((d : ResidenceFor) → CanMap v (get_or v.residences k d) p) → s ≡ get_or i.residences.items k s →
    IsKeptAt i k s p
kept_at i v k s p e keeps u can at =
    let residences = i.residences.items in
    let P : ReachedResidence → Type 0 = IsPlaced i.lib i.pages.items in
    let within : k < length residences = omega (arith, u, ap (λ (w : ProcessView). length w.residences) e, length-map residences residence_in) in
    let any = λ (d : ResidenceFor). get_or-map residence_in residences k s d within ∙ ap residence_in (sym at) in
    let it : CanMap (view_of i) (residence_in s) p = rw (any (residence_in s)) at ((rw (← e) at can) (residence_in s)) in
    record {
      within = within;
      any = any;
      placed = subst P (sym at) (All-get_or P residences k s within keeps.placed);
      object = it.object;
      page = it.page;
      none = not_placed (residence_in s).serial i.pages.items p it.apart;
    }

-- a residence that is kept at a place, of which the pages that a place covers are found
pub record IsPutAt (i : Inside) (k : ℕ) (s : ReachedResidence) (at : Place) : Type 0 where
  pub any : (d : ResidenceFor) → get_or (view_of i).residences k d ≡ residence_in s
  pub found : (n : ℕ) → n * 4096 < at.offset + at.len → IsFound (residence_in s).serial s.places i.pages.items (page at.object n)

pub put_at : (i : Inside) (v : ProcessView) (k : ℕ) (s : ReachedResidence) (purpose : Purpose) (at : Place) → view_of i ≡ v → Keeps i → IsReachedNamed v at.«module» k → view_place_refusal v.library v.holding purpose at ≡ None →
    s ≡ get_or i.residences.items k s → IsPutAt i k s at
put_at i v k s purpose at e keeps named none own =
    let residences = i.residences.items in
    let r = residence_in s in
    let P : ReachedResidence → Type 0 = IsPlaced i.lib i.pages.items in
    let reached : IsReachedNamed (view_of i) at.«module» k = rw (← e) at named in
    let within : k < length residences = omega (arith, reached.within, length-map residences residence_in) in
    let any = λ (d : ResidenceFor). get_or-map residence_in residences k s d within ∙ ap residence_in (sym own) in
    let placed : P s = subst P (sym own) (All-get_or P residences k s within keeps.placed) in
    let inside : IsInside i.lib r.«module» at.object at.offset at.len = rw (any r) at (is_used (view_of i) purpose at k r (rw (← e) at none) reached).inside in
    record { any = any; found = λ n before. placed.places at.object n inside.there (page_inside i.lib r.«module» at.object at.offset at.len n inside before) }

-- ---- bytes that are fixed

pub page_long : (lib : List Parts) (m : ℕ) (bases : Bases) (p : PageId) (bytes : List ℕ) → bytes ≡ fixed_page lib m bases p → length bytes ≡ 4096
page_long lib m bases p bytes e = ap (λ (xs : List ℕ). length xs) e ∙ length-map-range_with_len (Fixed lib m bases p) 0 4096

-- by other names for the library, the module and the bases of a residence
pub fixed_in : (v : ProcessView) (r : ResidenceFor) (lib : List Parts) (m : ℕ) (bases : Bases) (p : PageId) → lib ≡ v.library → m ≡ r.«module» → bases ≡ r.bases → fixed_page lib m bases p ≡ fixed_page v.library r.«module» r.bases p
fixed_in v r lib m bases p e f g = cc

-- ---- a residence more that a view keeps

pub placed_none : (lib : List Parts) (mapped : List Mapped) (s : ReachedResidence) → (residence_in s).«module» < length lib → HaveNone (module_of lib (residence_in s).«module») s.places →
    ((p : PageId) → has_page (map (λ x. x.of) mapped) (residence_in s).serial p ≡ false) → IsPlaced lib mapped s
placed_none lib mapped s within none unmapped = record {
  within = within;
  cover = none.cover;
  places = λ object n there inside. none.none (page object n) ∙ sym (not_placed (residence_in s).serial mapped (page object n) (unmapped (page object n)));
}

pub apart_more : (residences : List ReachedResidence) (s : ReachedResidence) → AreApart (residences_in residences) → All (λ r. r.serial ≡ (residence_in s).serial → ⊥) (residences_in residences) → AreApart (residences_in (residences ++ s ∷ []))
apart_more residences s apart all =
    rw (one_more residences s) (all_pairs_push (λ a b. a.serial ≡ b.serial → ⊥) (residences_in residences) (residence_in s) apart all)

pub stay_kept : (lib : List Parts) (pid : ℕ) (ended : Bool) (counts : ProcessCounts) (residences more : List ReachedResidence) (mapped : List Mapped) (front n m j : ℕ) (s : ReachedResidence) → more ≡ residences ++ s ∷ [] → j ≡ m - 1 →
    view_made lib pid ended counts (residences_in more) mapped front n j ≡ with_residence (residence_in s) (view_made lib pid ended counts (residences_in residences) mapped front n m)
stay_kept lib pid ended counts residences more mapped front n m j s e f =
    ap (λ (x : List ReachedResidence). view_made lib pid ended counts (residences_in x) mapped front n j) e ∙ ap (λ (x : List ResidenceFor). view_made lib pid ended counts x mapped front n j) (one_more residences s)
    ∙ ap (λ (x : ℕ). view_made lib pid ended counts (residences_in residences ++ residence_in s ∷ []) mapped front n x) f

-- ---- residences that join a view, one at a time

still_new : (v : ProcessView) (r s : ResidenceFor) → IsNewTo v s → (r.serial ≡ s.serial → ⊥) → IsNewTo (with_residence r v) s
still_new v r s is unlike = record {
  within = is.within;
  unmapped = is.unmapped;
  apart = All-push (λ (old : ResidenceFor). old.serial ≡ s.serial → ⊥) v.residences r is.apart unlike;
}

-- the others can join after it
others_join : (v : ProcessView) (r : ResidenceFor) (rs : List ResidenceFor) → CanJoin v (r ∷ rs) → CanJoin (with_residence r v) rs
others_join v r rs can = record {
  room = omega (arith, can.room);
  new = λ k d u. still_new v r (get_or rs k d) (can.new (suc k) d (omega (arith, u))) (can.apart zero (suc k) d (omega arith) (omega (arith, u)));
  apart = λ i j d below within. can.apart (suc i) (suc j) d (omega (arith, below)) (omega (arith, within));
}

stays_more : (v : ProcessView) (r : ResidenceFor) (rs : List ResidenceFor) → with_residences rs (with_residence r v) ≡ with_residences (r ∷ rs) v
stays_more v r rs =
    let made : List ResidenceFor → ℕ → ProcessView = λ all room. record v { holding = record v.holding { residences = map fresh_shown all }; residences = all; residence_room = room } in
    let room : v.residence_room - 1 - length rs ≡ v.residence_room - suc (length rs) = omega arith in
    ap (λ (all : List ResidenceFor). made all (v.residence_room - 1 - length rs)) (append_assoc v.residences (r ∷ []) rs) ∙ ap (made (v.residences ++ r ∷ rs)) room

-- rows
pub first_empty : (lib : List Parts) (m : ℕ) (ms : List ℕ) (row : PagePlaces) (rows : List PagePlaces) → AreEmpty lib (m ∷ ms) (row ∷ rows) → HaveNone (module_of lib m) row
first_empty lib m ms row rows are = are.none 0 (omega arith)

others_empty : (lib : List Parts) (m : ℕ) (ms : List ℕ) (row : PagePlaces) (rows : List PagePlaces) → AreEmpty lib (m ∷ ms) (row ∷ rows) → AreEmpty lib ms rows
others_empty lib m ms row rows are = record {
  count = omega (arith, are.count);
  none = λ k u. are.none (suc k) (omega (arith, u));
}

-- what is left to join a view, which was at its start when all was left
abbrev pub AreLeft : List ResidenceFor → ProcessView → ProcessView → List ResidenceFor → List PagePlaces → Type 0
AreLeft all start v rs rows = CanJoin v rs × AreEmpty v.library (modules_of rs) rows × (with_residences rs v ≡ with_residences all start)

pub left_after : (all : List ResidenceFor) (start v w : ProcessView) (r : ResidenceFor) (rs : List ResidenceFor) (row : PagePlaces) (rows : List PagePlaces) → w ≡ with_residence r v →
    AreLeft all start v (r ∷ rs) (row ∷ rows) → AreLeft all start w rs rows
left_after all start v w r rs row rows same left =
    subst (λ (x : ProcessView). AreLeft all start x rs rows) (sym same)
    (others_join v r rs left.0, others_empty v.library r.«module» (modules_of rs) row rows left.1, stays_more v r rs ∙ left.2)

pub left_as : (all : List ResidenceFor) (start v : ProcessView) (xs ys : List ResidenceFor) (rows more : List PagePlaces) → xs ≡ ys → rows ≡ more →
    AreLeft all start v xs rows → AreLeft all start v ys more
left_as all start v xs ys rows more e g left =
    subst (λ (n : List PagePlaces). AreLeft all start v ys n) g (subst (λ (zs : List ResidenceFor). AreLeft all start v zs rows) e left)
