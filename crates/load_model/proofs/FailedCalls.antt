-- The calls of a load that fails: those up to the first that fails, and the terminations of what was attached before it.
use Rattle.std.proofs.Common.{◌≡◌, ◌==◌, ◌&&◌, ◌||◌, ◌++◌, ℕ, Bool, true, false, cond, List, [], ◌∷◌, find, Option, Some, None, option_map, refl, sym, ◌∙◌, ap, subst}
use Rattle.std.specs.Prelude.{filter_map, option_to_list}
use Rattle.std.specs.List.{list_any, cons_option}
use Rattle.std.proofs.lemmas.Bool.{eqb-true, eq-eqb}
use Rattle.load_model.specs.declared.deeds.How.{How}
use Rattle.load_model.specs.declared.deeds.How.TheVariants.{Start, Load}
use Rattle.load_model.specs.declared.deeds.Call.{Call}
use Rattle.load_model.specs.declared.deeds.CallKind.TheVariants.{Init, Main}
use Rattle.load_model.specs.declared.deeds.Fresh.{Fresh}
use Rattle.load_model.specs.Modules.{Library, is_library, start_of, inits_each}
use Rattle.load_model.specs.State.{Eager, is_among, residence_of}
use Rattle.load_model.specs.Entering.{joined, newcomers, placing, after_entering, call_of, init_of, main_of, entering_calls}
use Rattle.load_model.specs.Initialising.{is_failing, failing_module, up_to, before_number, undoing_calls, failed_calls, enter_deed}
use Rattle.load_model.specs.Asks.{deed_of}
use Rattle.load_model.specs.Histories.{state_after}
use Rattle.load_model.specs.FailedCalls.{CallsOfFailed, FailedCallsTold}
use Rattle.load_model.proofs.FailedLoads.{WasPlaced, failed_step}

-- ---- the first call that fails, and the calls up to it

record Parted (f : Call → Bool) (cs : List Call) (c : Call) : Type 0 where
  pub begun : List Call
  pub not_made : List Call
  pub would : cs ≡ begun ++ c ∷ not_made
  pub none_before : list_any f begun ≡ false
  pub fails : f c ≡ true
  pub made : up_to f cs ≡ begun ++ c ∷ []

parted : (f : Call → Bool) (cs : List Call) (c : Call) → find f cs ≡ Some c → Parted f cs c
parted f [] c h = absurd cc
parted f (x ∷ xs) c h = step (f x) refl (λ e. parted f xs c e) h
  where
    step : (b : Bool) → f x ≡ b → (find f xs ≡ Some c → Parted f xs c) → cond b (Some x) (find f xs) ≡ Some c → Parted f (x ∷ xs) c
    step true is further e =
        let same : x ≡ c = cc in
        record {
          begun = [];
          not_made = xs;
          would = ap (λ y. y ∷ xs) same;
          none_before = refl;
          fails = ap f (sym same) ∙ is;
          made = ap (λ b. cond b (x ∷ []) (x ∷ up_to f xs)) is ∙ ap (λ y. y ∷ []) same;
        }
    step false is further e =
        let rest : Parted f xs c = further e in
        record {
          begun = x ∷ rest.begun;
          not_made = rest.not_made;
          would = ap (λ ys. x ∷ ys) rest.would;
          none_before = ap (λ b. b || list_any f rest.begun) is ∙ rest.none_before;
          fails = rest.fails;
          made = ap (λ b. cond b (x ∷ []) (x ∷ up_to f xs)) is ∙ ap (λ ys. x ∷ ys) rest.made;
        }

-- ---- the module that fails is one that is attached

record Stands (n : ℕ) (xs : List ℕ) : Type 0 where
  pub later : List ℕ
  pub parts : xs ≡ before_number n xs ++ n ∷ later

-- it is the first, or comes after it
first_stands : (n k : ℕ) (xs : List ℕ) → k ≡ n → Stands n (k ∷ xs)
first_stands n k xs same =
    record {
      later = xs;
      parts = ap (λ j. j ∷ xs) same ∙ sym (ap (λ b. cond b [] (k ∷ before_number n xs) ++ n ∷ xs) (eq-eqb k n same));
    }

later_stands : (n k : ℕ) (xs : List ℕ) → Stands n xs → Stands n (k ∷ xs)
later_stands n k xs there = step (k == n) refl
  where
    step : (b : Bool) → (k == n) ≡ b → Stands n (k ∷ xs)
    step true is = first_stands n k xs (eqb-true k n is)
    step false is =
        record {
          later = there.later;
          parts = ap (λ ys. k ∷ ys) there.parts ∙ sym (ap (λ b. cond b [] (k ∷ before_number n xs) ++ n ∷ there.later) is);
        }

init_module : (lib : Library) (after : Eager) (new : List ℕ) (k : ℕ) (c : Call) → init_of lib after new k ≡ Some c → c.«module» ≡ k
init_module lib after new k c h = step (is_library lib k && (inits_each lib k || is_among new k)) (start_of lib k) h
  where
    step : (b : Bool) (s : Option (ℕ × ℕ)) → cond b (option_map (call_of Init (residence_of after k) k) s) None ≡ Some c → c.«module» ≡ k
    step true (Some at) e = (let same : call_of Init (residence_of after k) k at ≡ c = cc in sym (ap (λ d. d.«module») same))
    step true None e = cc
    step false s e = cc

main_fits : (lib : Library) (after e : Eager) (pid : ℕ) (how : How) (m : ℕ) → find (is_failing e pid) (main_of lib after how m) ≡ None
main_fits lib after e pid Load m = refl
main_fits lib after e pid Start m = step (start_of lib m)
  where
    step : (s : Option (ℕ × ℕ)) → find (is_failing e pid) (option_to_list (option_map (call_of Main (residence_of after m) m) s)) ≡ None
    step None = refl
    step (Some at) = refl

called_stands : (lib : Library) (after : Eager) (new : List ℕ) (f : Call → Bool) (ms : List ℕ) (others : List Call) (c : Call) →
    find f others ≡ None → find f (filter_map (init_of lib after new) ms ++ others) ≡ Some c → Stands c.«module» ms
called_stands lib after new f [] others c none h = absurd cc
called_stands lib after new f (k ∷ ms) others c none h = step (init_of lib after new k) refl (λ e. called_stands lib after new f ms others c none e) h
  where
    step : (o : Option Call) → init_of lib after new k ≡ o → (find f (filter_map (init_of lib after new) ms ++ others) ≡ Some c → Stands c.«module» ms) →
        find f (cons_option o (filter_map (init_of lib after new) ms) ++ others) ≡ Some c → Stands c.«module» (k ∷ ms)
    step None is further e = later_stands c.«module» k ms (further e)
    step (Some d) is further e = test (f d) e
      where
        test : (b : Bool) → cond b (Some d) (find f (filter_map (init_of lib after new) ms ++ others)) ≡ Some c → Stands c.«module» (k ∷ ms)
        test true same =
            let one : d ≡ c = cc in
            first_stands c.«module» k ms (sym (init_module lib after new k d is) ∙ ap (λ x. x.«module») one)
        test false same = later_stands c.«module» k ms (further same)

-- ---- all of it

abbrev pub calls_where : Library → Eager → ℕ → How → ℕ → List Fresh → List Call
calls_where lib e pid how m fresh =
    filter_map (init_of lib (after_entering lib e pid how m fresh) (newcomers lib e pid m)) (joined lib e pid m)
    ++ main_of lib (after_entering lib e pid how m fresh) how m

told_by : (lib : Library) (e : Eager) (pid : ℕ) (how : How) (m by : ℕ) (fresh : List Fresh) (calls : List Call) →
    option_map (λ c. c.«module») (find (is_failing e pid) (calls_where lib e pid how m fresh)) ≡ Some by →
    calls ≡ up_to (is_failing e pid) (calls_where lib e pid how m fresh) ++ undoing_calls lib e pid how m by fresh →
    CallsOfFailed lib e pid how m by fresh calls
unfolding entering_calls
told_by lib e pid how m by fresh calls failed are = step (find (is_failing e pid) (calls_where lib e pid how m fresh)) refl failed
  where
    step : (o : Option Call) → find (is_failing e pid) (calls_where lib e pid how m fresh) ≡ o → option_map (λ c. c.«module») o ≡ Some by →
        CallsOfFailed lib e pid how m by fresh calls
    step None is h = absurd cc
    step (Some c) is h =
        let of : c.«module» ≡ by = cc in
        let apart : Parted (is_failing e pid) (calls_where lib e pid how m fresh) c = parted (is_failing e pid) (calls_where lib e pid how m fresh) c is in
        let there : Stands by (joined lib e pid m) =
        subst (λ n. Stands n (joined lib e pid m)) of
        (called_stands lib (after_entering lib e pid how m fresh) (newcomers lib e pid m) (is_failing e pid) (joined lib e pid m)
        (main_of lib (after_entering lib e pid how m fresh) how m) c (main_fits lib (after_entering lib e pid how m fresh) e pid how m) is) in
        record {
          begun = apart.begun;
          last = c;
          not_made = apart.not_made;
          would = apart.would;
          none_before = apart.none_before;
          fails = apart.fails;
          failed = of;
          earlier = before_number by (joined lib e pid m);
          later = there.later;
          attached = there.parts;
          told = are ∙ ap (λ made. made ++ undoing_calls lib e pid how m by fresh) apart.made;
        }

pub failed_calls_told : FailedCallsTold
unfolding deed_of enter_deed placing failing_module failed_calls entering_calls
failed_calls_told lib failing contents h pid how m by fresh calls gone follows =
    let e : Eager = state_after lib failing h in
    let was : WasPlaced lib e pid how m by (placing lib e pid m) fresh calls gone = failed_step lib e pid how m by (placing lib e pid m) fresh calls gone follows.done in
    told_by lib e pid how m by fresh calls was.failed was.called
