-- Failing initialisations: which fail is fixed, and a load that fails leaves nothing.
use Rattle.std.proofs.Common.{◌≡◌, ℕ, Bool, true, false, cond, List, [], ◌∷◌, find, fold, Option, Some, None, option_map, Result, Ok, Err, refl, sym, ◌∙◌, ap}
use Rattle.lx_types.specs.Object.{class_of}
use Rattle.lx_types.specs.declared.object.Class.{Class}
use Rattle.lx_types.specs.declared.object.Class.TheVariants as classes
use Rattle.load_model.specs.declared.deeds.How.{How}
use Rattle.load_model.specs.declared.deeds.Call.{Call}
use Rattle.load_model.specs.declared.deeds.Fresh.{Fresh}
use Rattle.load_model.specs.declared.deeds.Gone.{Gone}
use Rattle.load_model.specs.declared.deeds.Deed.{Deed}
use Rattle.load_model.specs.declared.deeds.Deed.TheVariants as deeds
use Rattle.load_model.specs.declared.deeds.Entry.{Entry}
use Rattle.load_model.specs.Modules.{Library, object_at}
use Rattle.load_model.specs.State.{Written, Eager, nothing_yet, with_process}
use Rattle.load_model.specs.Entering.{NoRoom, newcomers, placing, after_entering, entering_calls}
use Rattle.load_model.specs.Initialising.{fails_in, is_init, is_failing, failing_module, failed_calls, gone_again, entered, enter_by, enter_deed}
use Rattle.load_model.specs.Leaving.{after_leaving}
use Rattle.load_model.specs.Asks.{deed_of, after_write, after_deed}
use Rattle.load_model.specs.Histories.{after_entry, state_after}
use Rattle.load_model.specs.FailedLoads.{FailingStays, FailedLeavesNothing}
use Rattle.load_model.proofs.Bools.{and_right}
use Rattle.load_model.proofs.Kept.{fresh_modules}

-- ---- nothing changes which fail

written_failing : (e : Eager) (pid serial : ℕ) (w : Written) (c : Class) → (after_write e pid serial w c).failing ≡ e.failing
unfolding with_process
written_failing e pid serial w classes.Code = refl
written_failing e pid serial w classes.Private = refl
written_failing e pid serial w classes.Shared = refl

deed_failing : (lib : Library) (e : Eager) (pid : ℕ) (d : Deed) → (after_deed lib e pid d).failing ≡ e.failing
unfolding after_deed after_entering after_leaving with_process
deed_failing lib e pid (deeds.Enter how m fresh calls) = refl
deed_failing lib e pid (deeds.Full how m of object size) = refl
deed_failing lib e pid (deeds.Failed how m by fresh calls gone) = refl
deed_failing lib e pid (deeds.Free m calls gone) = refl
deed_failing lib e pid (deeds.Exit calls gone) = refl
deed_failing lib e pid (deeds.Fault serial m p) = refl
deed_failing lib e pid (deeds.Write serial m object offset bytes) = written_failing e pid serial (record { object = object; offset = offset; bytes = bytes }) (class_of (object_at lib m object))
deed_failing lib e pid (deeds.Debug serial m object offset bytes) = refl
deed_failing lib e pid (deeds.Shared serial m object offset bytes) = refl

failing_along : (lib : Library) (e : Eager) (h : List Entry) → (fold (after_entry lib) e h).failing ≡ e.failing
failing_along lib e [] = refl
failing_along lib e (x ∷ h) = failing_along lib (after_entry lib e x) h ∙ deed_failing lib e x.pid x.deed

pub failing_stays : FailingStays
unfolding state_after
failing_stays lib failing h = failing_along lib (nothing_yet failing) h

-- ---- a load that fails

found : (f : Call → Bool) (cs : List Call) (c : Call) → find f cs ≡ Some c → f c ≡ true
found f [] c h = cc
found f (x ∷ cs) c h = step (f x) refl (found f cs c) h
  where
    step : (b : Bool) → f x ≡ b → (find f cs ≡ Some c → f c ≡ true) → cond b (Some x) (find f cs) ≡ Some c → f c ≡ true
    step true is later e = (let same : x ≡ c = cc in ap f (sym same) ∙ is)
    step false is later e = later e

module_fails : (e : Eager) (pid by : ℕ) (cs : List Call) → option_map (λ c. c.«module») (find (is_failing e pid) cs) ≡ Some by → fails_in e.failing pid by ≡ true
module_fails e pid by cs h = step (find (is_failing e pid) cs) refl h
  where
    step : (o : Option Call) → find (is_failing e pid) cs ≡ o → option_map (λ c. c.«module») o ≡ Some by → fails_in e.failing pid by ≡ true
    step None is h = cc
    step (Some c) is h =
        let same : c.«module» ≡ by = cc in
        ap (fails_in e.failing pid) (sym same) ∙ and_right (is_init c.kind) (fails_in e.failing pid c.«module») (found (is_failing e pid) cs c is)

-- it was placed, and this module failed
pub record WasPlaced (lib : Library) (e : Eager) (pid : ℕ) (how : How) (m by : ℕ) (r : Result (List Fresh) NoRoom) (fresh : List Fresh) (calls : List Call) (gone : List Gone) : Type 0 where
  pub placed : r ≡ Ok fresh
  pub failed : failing_module lib e pid how m fresh ≡ Some by
  pub called : calls ≡ failed_calls lib e pid how m by fresh
  pub ended : gone ≡ gone_again fresh

pub failed_step : (lib : Library) (e : Eager) (pid : ℕ) (how : How) (m by : ℕ) (r : Result (List Fresh) NoRoom) (fresh : List Fresh) (calls : List Call) (gone : List Gone) →
    deeds.Failed how m by fresh calls gone ≡ enter_by lib e pid how m r → WasPlaced lib e pid how m by r fresh calls gone
failed_step lib e pid how m by (Err none) fresh calls gone h = cc
failed_step lib e pid how m by (Ok xs) fresh calls gone h = step (failing_module lib e pid how m xs) refl h
  where
    step : (o : Option ℕ) → failing_module lib e pid how m xs ≡ o → deeds.Failed how m by fresh calls gone ≡ entered lib e pid how m xs o →
        WasPlaced lib e pid how m by (Ok xs) fresh calls gone
    step None is h = cc
    step (Some b) is h =
        let same : xs ≡ fresh = cc in
        let one : b ≡ by = cc in
        let made : calls ≡ failed_calls lib e pid how m b xs = cc in
        let last : gone ≡ gone_again xs = cc in
        record {
          placed = ap Ok same;
          failed = ap (failing_module lib e pid how m) (sym same) ∙ is ∙ ap Some one;
          called = made ∙ ap (failed_calls lib e pid how m b) same ∙ ap (λ n. failed_calls lib e pid how m n fresh) one;
          ended = last ∙ ap gone_again same;
        }

pub failed_leaves_nothing : FailedLeavesNothing
unfolding after_deed deed_of enter_deed placing failing_module
failed_leaves_nothing lib failing contents h pid how m by fresh calls gone follows =
    let e : Eager = state_after lib failing h in
    let was : WasPlaced lib e pid how m by (placing lib e pid m) fresh calls gone = failed_step lib e pid how m by (placing lib e pid m) fresh calls gone follows.done in
    record {
      failed = ap (λ f. fails_in f pid by) (sym (failing_stays lib failing h)) ∙ module_fails e pid by (entering_calls lib e pid how m fresh) was.failed;
      began = fresh_modules lib (newcomers lib e pid m) e.serials _ fresh was.placed;
      ended = was.ended;
      residences = refl;
      processes = refl;
      numbers = refl;
      pairs = refl;
    }
