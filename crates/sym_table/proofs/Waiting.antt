-- Which library module is chosen next: the first that waits.
use Rattle.std.specs.Prelude.{◌≡◌, ℕ, zero, suc, ◌+◌, ◌<◌, ◌≤◌, Bool, true, false, cond, not, ◌||◌, ◌&&◌, ◌==◌, List, [], ◌∷◌, Option, Some, None, filter, find, slice_get, is_some, bytes_eq, refl}
use Rattle.std.specs.List.{list_any, position_from, enumerate_from, filter_map, flat_map, cons_option}
use Rattle.std.specs.Option.{option_map}
use Rattle.std.proofs.Common.{ap, sym, ◌∙◌, arith, true≢false, subst}
use Rattle.std.proofs.lemmas.Bool.{and_parts, and_from, eqb-true, eq-eqb, false_from_ne_true}
use Rattle.obj_types.specs.declared.object.ObjModule.{ObjModule}
use Rattle.obj_types.specs.declared.input.LinkInput.{LinkInput}
use Rattle.link_model.specs.declared.symbols.Pick.{Pick}
use Rattle.link_model.specs.Words.{option_any}
use Rattle.link_model.specs.Choosing.{wanted, defines, is_defined, undefined, module_of, modules_of, is_picked, is_drawn, next_pick}
use Rattle.link_model.proofs.Members.{In, here, there, found, any_in}
use Rattle.link_model.proofs.Searching.{is_next}
use Rattle.sym_table.specs.Leading.{leader, waits}

-- ---- leaders

-- Where the first item that passes stands, counted from s.
pub record Placed {X : Type 0} (test : X → Bool) (s : ℕ) (xs : List X) (k : ℕ) : Type 0 where
  pub place : ℕ
  pub number : k ≡ s + place
  pub item : X
  pub is : slice_get xs place ≡ Some item
  pub passes : test item ≡ true

placed_by : {X : Type 0} (test : X → Bool) (s : ℕ) (x : X) (xs : List X) (k : ℕ) (b : Bool) → test x ≡ b → cond b (Some s) (position_from test (s + 1) xs) ≡ Some k → (position_from test (s + 1) xs ≡ Some k → Placed test (s + 1) xs k) → Placed test s (x ∷ xs) k
placed_by test s x xs k true is e rest = let same : s ≡ k = cc in record { place = 0; number = omega (arith, same); item = x; is = refl; passes = is }
placed_by test s x xs k false is e rest = let r = rest e in let n = r.number in record { place = suc r.place; number = omega (arith, n); item = r.item; is = r.is; passes = r.passes }

pub placed : {X : Type 0} (test : X → Bool) (s : ℕ) (xs : List X) (k : ℕ) → position_from test s xs ≡ Some k → Placed test s xs k
placed test s [] k e = absurd (true≢false (sym (ap is_some e)))
placed test s (x ∷ xs) k e = placed_by test s x xs k (test x) refl e (placed test (s + 1) xs k)

pub record Earlier {X : Type 0} (test : X → Bool) (s : ℕ) (xs : List X) (p : ℕ) : Type 0 where
  pub first : ℕ
  pub is : position_from test s xs ≡ Some first
  pub below : first ≤ s + p

later_by : {X : Type 0} (test : X → Bool) (s : ℕ) (x : X) (xs : List X) (p : ℕ) (b : Bool) → test x ≡ b → Earlier test (s + 1) xs p → Earlier test s (x ∷ xs) (suc p)
later_by test s x xs p true is r = record { first = s; is = ap (λ (b : Bool). cond b (Some s) (position_from test (s + 1) xs)) is; below = omega arith }
later_by test s x xs p false is r =
    let below = r.below in
    record { first = r.first; is = ap (λ (b : Bool). cond b (Some s) (position_from test (s + 1) xs)) is ∙ r.is; below = omega (arith, below) }

pub earlier : {X : Type 0} (test : X → Bool) (s : ℕ) (xs : List X) (p : ℕ) (m : X) → slice_get xs p ≡ Some m → test m ≡ true → Earlier test s xs p
earlier test s [] p m e t = absurd (true≢false (sym (ap is_some e)))
earlier {X} test s (x ∷ xs) zero m e t =
    let same : x ≡ m = cc in
    record { first = s; is = ap (λ (b : Bool). cond b (Some s) (position_from test (s + 1) xs)) (ap test same ∙ t); below = omega arith }
earlier test s (x ∷ xs) (suc p) m e t = later_by test s x xs p (test x) refl (earlier test (s + 1) xs p m e t)

abbrev pub leads : LinkInput → ℕ → List ℕ → Bool
leads input k name = option_any (λ f. f == k) (leader input.libs name)

pub led : (o : Option ℕ) (k : ℕ) → option_any (λ f. f == k) o ≡ true → o ≡ Some k
led None k e = absurd (true≢false (sym e))
led (Some f) k e = ap Some (eqb-true f k e)

-- ---- lists

passes_by : {X : Type 0} (keep : X → Bool) (x : X) (xs ys : List X) (b : Bool) (y : X) → keep x ≡ b → In y (cond b (x ∷ ys) ys) → (In y ys → keep y ≡ true) → keep y ≡ true
passes_by keep x xs ys true y e here rest = e
passes_by keep x xs ys true y e (there i) rest = rest i
passes_by keep x xs ys false y e i rest = rest i

passes_filter : {X : Type 0} (keep : X → Bool) (xs : List X) (y : X) → In y (filter keep xs) → keep y ≡ true
passes_filter keep [] y i = elim i [ ]
passes_filter keep (x ∷ xs) y i = passes_by keep x xs (filter keep xs) (keep x) y refl i (λ j. passes_filter keep xs y j)

in_option : {X : Type 0} (o : Option X) (y : X) (ys : List X) → o ≡ Some y → In y (cons_option o ys)
in_option (Some x) y ys e = let same : y ≡ x = cc in subst (λ z. In z (x ∷ ys)) (sym same) here
in_option None y ys e = absurd (true≢false (sym (ap is_some e)))

in_after : {X : Type 0} (o : Option X) (y : X) (ys : List X) → In y ys → In y (cons_option o ys)
in_after None y ys i = i
in_after (Some x) y ys i = there i

in_filter_map : {X Y : Type 0} (h : X → Option Y) (x : X) (y : Y) (xs : List X) → In x xs → h x ≡ Some y → In y (filter_map h xs)
in_filter_map h x y [] i e = elim i [ ]
in_filter_map h x y (z ∷ xs) here e = in_option (h z) y (filter_map h xs) e
in_filter_map h x y (z ∷ xs) (there i) e = in_after (h z) y (filter_map h xs) (in_filter_map h x y xs i e)

find_none : {X : Type 0} (t : (ℕ × X) → Bool) (s : ℕ) (xs : List X) → ((i : ℕ) (y : X) → slice_get xs i ≡ Some y → t (s + i, y) ≡ false) → find t (enumerate_from s xs) ≡ None
find_none t s [] never = refl
find_none {X} t s (x ∷ xs) never =
    ap (λ (b : Bool). cond b (Some (s, x)) (find t (enumerate_from (s + 1) xs))) (ap (λ (n : ℕ). t (n, x)) (omega arith) ∙ never 0 x refl)
    ∙ find_none t (s + 1) xs (λ i y e. ap (λ (n : ℕ). t (n, y)) (omega arith) ∙ never (suc i) y e)

find_at : {X : Type 0} (t : (ℕ × X) → Bool) (s : ℕ) (xs : List X) (p : ℕ) (x : X) → slice_get xs p ≡ Some x → t (s + p, x) ≡ true → ((i : ℕ) (y : X) → slice_get xs i ≡ Some y → i < p → t (s + i, y) ≡ false) → find t (enumerate_from s xs) ≡ Some (s + p, x)
find_at t s [] p x e is never = absurd (true≢false (sym (ap is_some e)))
find_at {X} t s (y ∷ xs) zero x e is never =
    let same : y ≡ x = cc in
    let place : s + 0 ≡ s = omega arith in
    ap (λ (b : Bool). cond b (Some (s, y)) (find t (enumerate_from (s + 1) xs))) (ap (λ (z : X). t (s, z)) same ∙ ap (λ (n : ℕ). t (n, x)) (sym place) ∙ is)
    ∙ ap (λ (z : X). let o : Option (ℕ × X) = Some (s, z) in o) same ∙ ap (λ (n : ℕ). let o : Option (ℕ × X) = Some (n, x) in o) (sym place)
find_at {X} t s (y ∷ xs) (suc p) x e is never =
    let next : s + 1 + p ≡ s + suc p = omega arith in
    ap (λ (b : Bool). cond b (Some (s, y)) (find t (enumerate_from (s + 1) xs))) (ap (λ (n : ℕ). t (n, y)) (omega arith) ∙ never 0 y refl (omega arith))
    ∙ find_at t (s + 1) xs p x e (ap (λ (n : ℕ). t (n, x)) next ∙ is) (λ i z f below. ap (λ (n : ℕ). t (n, z)) (omega arith) ∙ never (suc i) z f (omega (arith, below)))
    ∙ ap (λ (n : ℕ). let o : Option (ℕ × X) = Some (n, x) in o) next

-- ---- the next pick

record Wait (input : LinkInput) (picks : List Pick) (i : ℕ) : Type 0 where
  pub first : ℕ
  pub waiting : waits input picks first ≡ true
  pub below : first ≤ i

-- Where a module is drawn, one waits that stands no later.
drawn_waits : (input : LinkInput) (picks : List Pick) (i : ℕ) (m : ObjModule) → slice_get input.libs i ≡ Some m → is_drawn input picks m ≡ true → Wait input picks i
drawn_waits input picks i m at drawn =
    let names = undefined (modules_of input picks) input.def in
    let f = found (defines m) names drawn in
    let r = earlier (λ (o : ObjModule). defines o f.item) 0 input.libs i m at f.passes in
    let below = r.below in
    record {
      first = r.first;
      waiting = any_in (leads input r.first) f.inside (ap (option_any (λ g. g == r.first)) r.is ∙ eq-eqb r.first r.first refl);
      below = omega (arith, below);
    }

record Drawn (input : LinkInput) (picks : List Pick) (j : ℕ) : Type 0 where
  pub object : ObjModule
  pub at : slice_get input.libs j ≡ Some object
  pub drawn : is_drawn input picks object ≡ true
  pub new : is_picked picks j ≡ false

picked_defines : (input : LinkInput) (picks : List Pick) (j : ℕ) (m : ObjModule) (name : List ℕ) → slice_get input.libs j ≡ Some m → defines m name ≡ true → is_picked picks j ≡ true → is_defined (modules_of input picks) input.def name ≡ true
picked_defines input picks j m name at own picked =
    let f = found (λ (pick : Pick). pick.lib && pick.index == j) picks picked in
    let both = and_parts f.item.lib (f.item.index == j) f.passes in
    let of : module_of input f.item ≡ Some m =
    ap (λ (b : Bool). slice_get (cond b input.libs input.objects) f.item.index) both.0 ∙ ap (slice_get input.libs) (eqb-true f.item.index j both.1) ∙ at in
    ap (λ (b : Bool). b || list_any (λ i. bytes_eq i.name name) input.def.imports) (any_in (λ (o : ObjModule). defines o name) (in_filter_map (module_of input) f.item m picks f.inside of) own)

waiting_drawn : (input : LinkInput) (picks : List Pick) (j : ℕ) → waits input picks j ≡ true → Drawn input picks j
waiting_drawn input picks j w =
    let defined : List ℕ → Bool = is_defined (modules_of input picks) input.def in
    let names = undefined (modules_of input picks) input.def in
    let f = found (leads input j) names w in
    let r = placed (λ (o : ObjModule). defines o f.item) 0 input.libs j (led (leader input.libs f.item) j f.passes) in
    let n = r.number in
    let place : r.place ≡ j = omega (arith, n) in
    let at : slice_get input.libs j ≡ Some r.item = ap (slice_get input.libs) (sym place) ∙ r.is in
    let unmet : not (defined f.item) ≡ true = passes_filter (λ name. not (defined name)) (flat_map wanted (modules_of input picks)) f.item f.inside in
    record {
      object = r.item;
      at = at;
      drawn = any_in (defines r.item) f.inside r.passes;
      new = false_from_ne_true (is_picked picks j) (λ picked. true≢false (sym unmet ∙ ap not (picked_defines input picks j r.item f.item at r.passes picked)));
    }

pub next_none : (input : LinkInput) (picks : List Pick) → ((k : ℕ) → waits input picks k ≡ false) → next_pick input picks ≡ None
next_none input picks never =
    ap (option_map (λ (q : ℕ × ObjModule). let p : Pick = record { lib = true; index = q.0 } in p)) (find_none (is_next input picks) 0 input.libs
    (λ i m at. false_from_ne_true (is_next input picks (0 + i, m)) (λ is. let w = drawn_waits input picks i m at (and_parts (not (is_picked picks (0 + i))) (is_drawn input picks m) is).1 in true≢false (sym w.waiting ∙ never w.first))))

pub next_some : (input : LinkInput) (picks : List Pick) (j : ℕ) → waits input picks j ≡ true → ((k : ℕ) → waits input picks k ≡ true → j ≤ k) → next_pick input picks ≡ Some (record { lib = true; index = j })
next_some input picks j w least =
    let d = waiting_drawn input picks j w in
    let zeroth : 0 + j ≡ j = omega arith in
    ap (option_map (λ (q : ℕ × ObjModule). let p : Pick = record { lib = true; index = q.0 } in p)) (find_at (is_next input picks) 0 input.libs j d.object d.at
    (ap (λ (n : ℕ). is_next input picks (n, d.object)) zeroth ∙ and_from (not (is_picked picks j)) (is_drawn input picks d.object) (ap not d.new) d.drawn)
    (λ i m at below. false_from_ne_true (is_next input picks (0 + i, m))
    (λ is. let v = drawn_waits input picks i m at (and_parts (not (is_picked picks (0 + i))) (is_drawn input picks m) is).1 in
    let up = least v.first v.waiting in let down = v.below in absurd (omega (arith, below, up, down)))))
    ∙ ap (λ (n : ℕ). let o : Option Pick = Some (record { lib = true; index = n }) in o) zeroth

-- A module that waits is there.
pub waiting_there : (input : LinkInput) (picks : List Pick) (j : ℕ) → waits input picks j ≡ true → is_some (slice_get input.libs j) ≡ true
waiting_there input picks j w = ap is_some (waiting_drawn input picks j w).at
