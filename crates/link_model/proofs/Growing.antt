-- How the list of chosen modules grows, and why it ends.
use Rattle.std.specs.Prelude.{◌≡◌, ℕ, suc, zero, ◌+◌, ◌<◌, ◌≤◌, ◌≢◌, ◌⊎◌, Bool, true, false, cond, not, ◌&&◌, ◌||◌, List, [], ◌∷◌, ◌++◌, Some, length, take, ◌==◌, slice_get, find, refl}
use Rattle.std.specs.List.{enumerate_from, range_with_len}
use Rattle.std.specs.Option.{option_map}
use Rattle.std.proofs.Common.{ap, sym, ◌∙◌, arith, length-append, inl, inr, subst, true≢false, ne_eqb}
use Rattle.std.proofs.lemmas.Bool.{cases_lt, eq-eqb}
use Rattle.std.proofs.Math.Bool.{and-false, or-false, or-true}
use Rattle.std.proofs.lemmas.List.{take-append-le, length-map}
use Rattle.std.proofs.lemmas.List.FromFn.{length-enumerate_from}
use Rattle.std.proofs.lemmas.List.Folds.{list_any-append}
use Rattle.std.proofs.Math.Seq.{take-length, take-append_seam}
use Rattle.obj_types.specs.declared.object.ObjModule.{ObjModule}
use Rattle.obj_types.specs.declared.input.LinkInput.{LinkInput}
use Rattle.link_model.specs.declared.symbols.Pick.{Pick}
use Rattle.link_model.specs.Choosing.{is_picked, is_drawn, next_pick, object_picks}
use Rattle.link_model.proofs.Searching.{is_next, next_from}

-- The picks so far: all object files, and then each that the rule gives.
pub record IsBegun (input : LinkInput) (picks : List Pick) : Type 0 where
  pub enough : length input.objects ≤ length picks
  pub begins : take (length input.objects) picks ≡ object_picks input
  pub grows : (k : ℕ) → length input.objects ≤ k → k < length picks → next_pick input (take k picks) ≡ slice_get picks k

-- How many pass a test.
abbrev pub passing : (ℕ → Bool) → List ℕ → ℕ
passing test [] = 0
passing test (k ∷ ks) = cond (test k) 1 0 + passing test ks

-- How many library modules are not among them.
abbrev pub unpicked : LinkInput → List Pick → ℕ
unpicked input picks = passing (λ k. not (is_picked picks k)) (range_with_len 0 (length input.libs))

-- ---- growing

pub object_picks-length : (input : LinkInput) → length (object_picks input) ≡ length input.objects
object_picks-length input =
    length-map (enumerate_from 0 input.objects) (λ q. record { lib = false; index = q.0 }) ∙ length-enumerate_from 0 input.objects

pub begun : (input : LinkInput) (picks : List Pick) → picks ≡ object_picks input → IsBegun input picks
begun input picks e =
    let len : length picks ≡ length input.objects = ap length e ∙ object_picks-length input in
    record {
      enough = omega arith;
      begins = ap (λ (n : ℕ). take n picks) (sym len) ∙ (take-length picks ∙ e);
      grows = λ k from below. absurd (omega arith);
    }

slice_get-snoc : (xs : List Pick) (x : Pick) → slice_get (xs ++ x ∷ []) (length xs) ≡ Some x
slice_get-snoc [] x = refl
slice_get-snoc (y ∷ ys) x = slice_get-snoc ys x

slice_get-front : (xs : List Pick) (x : Pick) (k : ℕ) → k < length xs → slice_get (xs ++ x ∷ []) k ≡ slice_get xs k
slice_get-front [] x k h = absurd (omega arith)
slice_get-front (y ∷ ys) x zero h = refl
slice_get-front (y ∷ ys) x (suc k) h = slice_get-front ys x k (omega arith)

grown_at :
    (input : LinkInput) (picks : List Pick) (pick : Pick) (k : ℕ) → IsBegun input picks → next_pick input picks ≡ Some pick →
    length input.objects ≤ k → (k < length picks) ⊎ (k ≡ length picks) → next_pick input (take k (picks ++ pick ∷ [])) ≡ slice_get (picks ++ pick ∷ []) k
grown_at input picks pick k h e from (inl below) =
    ap (next_pick input) (take-append-le k picks (pick ∷ []) (omega arith)) ∙ (h.grows k from below ∙ sym (slice_get-front picks pick k below))
grown_at input picks pick k h e from (inr last) =
    rw last (ap (next_pick input) (take-append_seam picks (pick ∷ [])) ∙ (e ∙ sym (slice_get-snoc picks pick)))

below_or_last : (k n : ℕ) → k < n + 1 → (k < n) ⊎ (k ≡ n)
below_or_last k n h = elim (cases_lt k n) [ inl a ↦ inl a | inr b ↦ inr (omega arith) ]

pub grown :
    (input : LinkInput) (picks : List Pick) (pick : Pick) → IsBegun input picks → next_pick input picks ≡ Some pick → IsBegun input (picks ++ pick ∷ [])
grown input picks pick h e =
    let len = length-append picks (pick ∷ []) in
    let enough = h.enough in
    record {
      enough = omega arith;
      begins = take-append-le (length input.objects) picks (pick ∷ []) h.enough ∙ h.begins;
      grows = λ k from below. grown_at input picks pick k h e from (below_or_last k (length picks) (omega arith));
    }

-- ---- what the next pick is

-- It is a library module, not picked so far, from k on and below k + n.
pub record IsNew (picks : List Pick) (k n : ℕ) (pick : Pick) : Type 0 where
  pub lib : pick.lib ≡ true
  pub new : is_picked picks pick.index ≡ false
  pub from : k ≤ pick.index
  pub below : pick.index < k + n

not_and : (a b : Bool) → (not a && b) ≡ true → a ≡ false
not_and false b e = refl
not_and true b e = absurd (true≢false (sym e))

new_by :
    (input : LinkInput) (picks : List Pick) (k : ℕ) (m : ObjModule) (ms : List ObjModule) (pick : Pick) (b : Bool) → is_next input picks (k, m) ≡ b →
    option_map (λ (q : ℕ × ObjModule). record { lib = true; index = q.0 }) (cond b (Some (k, m)) (find (is_next input picks) (enumerate_from (k + 1) ms)))
    ≡ Some pick → ((next_from input picks (k + 1) ms ≡ Some pick) → IsNew picks (k + 1) (length ms) pick) → IsNew picks k (suc (length ms)) pick
new_by input picks k m ms pick true is found rest =
    let same : record { lib = true; index = k } ≡ pick = cc in
    let new : is_picked picks k ≡ false = not_and (is_picked picks k) (is_drawn input picks m) is in
    subst (IsNew picks k (suc (length ms))) same (record { lib = refl; new = new; from = omega arith; below = omega arith })
new_by input picks k m ms pick false is found rest =
    let later = rest found in
    let from = later.from in
    let below = later.below in
    record { lib = later.lib; new = later.new; from = omega arith; below = omega arith }

pub next_is_new :
    (input : LinkInput) (picks : List Pick) (k : ℕ) (ms : List ObjModule) (pick : Pick) → next_from input picks k ms ≡ Some pick → IsNew picks k (length ms) pick
next_is_new input picks k [] pick e = cc
next_is_new input picks k (m ∷ ms) pick e =
    new_by input picks k m ms pick (is_next input picks (k, m)) refl e (next_is_new input picks (k + 1) ms pick)

-- ---- fewer are left

-- Of a list of numbers, g passes those that f passes, but j.
pub record Loses (f g : ℕ → Bool) (j : ℕ) : Type 0 where
  pub same : (k : ℕ) → k ≢ j → g k ≡ f k
  pub had : f j ≡ true
  pub gone : g j ≡ false

same_above : (f g : ℕ → Bool) (j : ℕ) → Loses f g j → (a n : ℕ) → j < a → passing g (range_with_len a n) ≡ passing f (range_with_len a n)
same_above f g j h a zero above = refl
same_above f g j h a (suc n) above =
    ap (λ (b : Bool). cond b 1 0 + passing g (range_with_len (a + 1) n)) (h.same a (λ e. absurd (omega arith))) ∙ ap (λ (s : ℕ). cond (f a) 1 0 + s) (same_above f g j h (a + 1) n (omega arith))

kept_one : (b : Bool) (gs fs : ℕ) → gs < fs → cond b 1 0 + gs < cond b 1 0 + fs
kept_one true gs fs h = omega arith
kept_one false gs fs h = omega arith

lost_one : (gb fb : Bool) (gs fs : ℕ) → gb ≡ false → fb ≡ true → gs ≡ fs → cond gb 1 0 + gs < cond fb 1 0 + fs
lost_one false true gs fs g f e = omega arith
lost_one true fb gs fs g f e = absurd (true≢false g)
lost_one false false gs fs g f e = absurd (true≢false (sym f))

fewer_by :
    (f g : ℕ → Bool) (j : ℕ) → Loses f g j → (a n : ℕ) → (a < j) ⊎ (j ≡ a) → (a < j → passing g (range_with_len (a + 1) n) < passing f (range_with_len (a + 1) n)) →
    cond (g a) 1 0 + passing g (range_with_len (a + 1) n) < cond (f a) 1 0 + passing f (range_with_len (a + 1) n)
fewer_by f g j h a n (inl lt) rest =
    let fs : ℕ = passing f (range_with_len (a + 1) n) in
    let gs : ℕ = passing g (range_with_len (a + 1) n) in
    subst (λ (b : Bool). cond b 1 0 + gs < cond (f a) 1 0 + fs) (sym (h.same a (λ e. absurd (omega arith)))) (kept_one (f a) gs fs (rest lt))
fewer_by f g j h a n (inr at) rest =
    lost_one (g a) (f a) (passing g (range_with_len (a + 1) n)) (passing f (range_with_len (a + 1) n)) (ap g (sym at) ∙ h.gone) (ap f (sym at) ∙ h.had) (same_above f g j h (a + 1) n (omega arith))

fewer_in :
    (f g : ℕ → Bool) (j : ℕ) → Loses f g j → (a n : ℕ) → a ≤ j → j < a + n → passing g (range_with_len a n) < passing f (range_with_len a n)
fewer_in f g j h a zero from below = absurd (omega arith)
fewer_in f g j h a (suc n) from below =
    fewer_by f g j h a n (elim (cases_lt a j) [ inl lt ↦ inl lt | inr ge ↦ inr (omega arith) ]) (λ lt. fewer_in f g j h (a + 1) n (omega arith) (omega arith))

-- A further pick of a library module.
picked_more : (picks : List Pick) (pick : Pick) (k : ℕ) → is_picked (picks ++ pick ∷ []) k ≡ (is_picked picks k || (pick.lib && pick.index == k || false))
picked_more picks pick k = list_any-append (λ (p : Pick). p.lib && p.index == k) picks (pick ∷ [])

others : (picks : List Pick) (pick : Pick) (k : ℕ) → pick.index == k ≡ false → is_picked (picks ++ pick ∷ []) k ≡ is_picked picks k
others picks pick k e =
    picked_more picks pick k ∙ (ap (λ (b : Bool). is_picked picks k || (pick.lib && b || false)) e ∙ (ap (λ (b : Bool). is_picked picks k || (b || false)) (and-false pick.lib) ∙ or-false (is_picked picks k)))

itself : (picks : List Pick) (pick : Pick) → pick.lib ≡ true → is_picked (picks ++ pick ∷ []) pick.index ≡ true
itself picks pick e =
    picked_more picks pick pick.index ∙ (ap (λ (b : Bool). is_picked picks pick.index || (b && pick.index == pick.index || false)) e
    ∙ (ap (λ (b : Bool). is_picked picks pick.index || (b || false)) (eq-eqb pick.index pick.index refl) ∙ or-true (is_picked picks pick.index)))

loses : (picks : List Pick) (pick : Pick) (n : ℕ) → IsNew picks 0 n pick → Loses (λ k. not (is_picked picks k)) (λ k. not (is_picked (picks ++ pick ∷ []) k)) pick.index
loses picks pick n h =
    record {
      same = λ k ne. ap not (others picks pick k (ne_eqb pick.index k (λ e. ne (sym e))));
      had = ap not h.new;
      gone = ap not (itself picks pick h.lib);
    }

pub fewer :
    (input : LinkInput) (picks : List Pick) (pick : Pick) → next_pick input picks ≡ Some pick → unpicked input (picks ++ pick ∷ []) < unpicked input picks
fewer input picks pick e =
    let h = next_is_new input picks 0 input.libs pick e in
    fewer_in (λ k. not (is_picked picks k)) (λ k. not (is_picked (picks ++ pick ∷ []) k)) pick.index (loses picks pick (length input.libs) h) 0 (length input.libs) h.from h.below
