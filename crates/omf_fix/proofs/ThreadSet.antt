-- A thread that is set in its array is what THREAD says.
use Rattle.std.proofs.Common.{◌≡◌, ℕ, zero, suc, ◌<◌, Bool, true, false, List, [], ◌∷◌, length, map, Option, Some, None, get_or, slice_set, refl, sym, ◌∙◌, arith}
use Rattle.std.specs.Prelude.{◌&&◌, ◌==◌, ◌%◌, if◌then◌else◌, unwrap_or}
use Rattle.std.specs.List.{cons_option}
use Rattle.obj_types.specs.declared.object.Frame.{Frame}
use Rattle.obj_types.specs.declared.object.Goal.{Goal}
use Rattle.obj_types.specs.declared.parts.Threads.{Threads}
use Rattle.omf_model.specs.Lists.{latest}
use Rattle.omf_model.specs.AddLists.{HasFour}
use Rattle.omf_model.specs.Record.{thread, is_frame_thread, thread_method}
use Rattle.omf_model.specs.Fixups.{some, of_each_number, set_threads, frame_by, goal_by}
use Rattle.omf_model.proofs.PartsLaws.{four-items}

-- one of four
one-of-four : {A : Type 0} (xs : List (Option A)) (v : A) (k : ℕ) → length xs ≡ 4 → k < 4
    → slice_set xs k (Some v) ≡ of_each_number (λ n. latest (get_or xs n None) (map some (cons_option (if k == n then Some v else None) [])))
one-of-four [] v k e low = absurd (omega (arith, e))
one-of-four (a ∷ []) v k e low = absurd (omega (arith, e))
one-of-four (a ∷ b ∷ []) v k e low = absurd (omega (arith, e))
one-of-four (a ∷ b ∷ c ∷ []) v k e low = absurd (omega (arith, e))
one-of-four (a ∷ b ∷ c ∷ d ∷ []) v zero e low = refl
one-of-four (a ∷ b ∷ c ∷ d ∷ []) v (suc zero) e low = refl
one-of-four (a ∷ b ∷ c ∷ d ∷ []) v (suc (suc zero)) e low = refl
one-of-four (a ∷ b ∷ c ∷ d ∷ []) v (suc (suc (suc zero))) e low = refl
one-of-four (a ∷ b ∷ c ∷ d ∷ []) v (suc (suc (suc (suc k)))) e low = absurd (omega (arith, low))
one-of-four (a ∷ b ∷ c ∷ d ∷ x ∷ xs) v k e low = absurd (omega (arith, e))

-- what a THREAD of the kind says, and of the other kind
frames-by : (xs : List (Option Frame)) (v : Frame) (k : ℕ) (kind : Bool) → kind ≡ true → length xs ≡ 4 → k < 4
    → slice_set xs k (Some v) ≡ of_each_number (λ n. latest (get_or xs n None) (map some (cons_option (if kind && k == n then Some v else None) [])))
frames-by xs v k kind e four low = rw e (one-of-four xs v k four low)

no-frames : (xs : List (Option Frame)) (v : Frame) (k : ℕ) (kind : Bool) → kind ≡ false → length xs ≡ 4
    → xs ≡ of_each_number (λ n. latest (get_or xs n None) (map some (cons_option (if kind && k == n then Some v else None) [])))
no-frames xs v k kind e four = rw e (sym (four-items xs four))

goals-by : (xs : List (Option Goal)) (v : Goal) (k : ℕ) (kind : Bool) → kind ≡ false → length xs ≡ 4 → k < 4
    → slice_set xs k (Some v) ≡ of_each_number (λ n. latest (get_or xs n None) (map some (cons_option (if kind then None else if k == n then Some v else None) [])))
goals-by xs v k kind e four low = rw e (one-of-four xs v k four low)

no-goals : (xs : List (Option Goal)) (v : Goal) (k : ℕ) (kind : Bool) → kind ≡ true → length xs ≡ 4
    → xs ≡ of_each_number (λ n. latest (get_or xs n None) (map some (cons_option (if kind then None else if k == n then Some v else None) [])))
no-goals xs v k kind e four = rw e (sym (four-items xs four))

frame-at : (ts : Threads) (b : ℕ) (i : Option ℕ) → HasFour ts → is_frame_thread b ≡ true
    → record { frame = slice_set ts.frame (b % 4) (Some (frame_by (thread_method b) (unwrap_or i 0))); goal = ts.goal } ≡ set_threads ts (thread b i ∷ [])
unfolding set_threads
frame-at ts b i four kind = λ j. record {
  frame = frames-by ts.frame (frame_by (thread_method b) (unwrap_or i 0)) (b % 4) (is_frame_thread b) kind four.frames (omega arith) j;
  goal = no-goals ts.goal (goal_by (thread_method b) (unwrap_or i 0)) (b % 4) (is_frame_thread b) kind four.goals j;
}

goal-at : (ts : Threads) (b : ℕ) (i : Option ℕ) → HasFour ts → is_frame_thread b ≡ false
    → record { frame = ts.frame; goal = slice_set ts.goal (b % 4) (Some (goal_by (thread_method b) (unwrap_or i 0))) } ≡ set_threads ts (thread b i ∷ [])
unfolding set_threads
goal-at ts b i four kind = λ j. record {
  frame = no-frames ts.frame (frame_by (thread_method b) (unwrap_or i 0)) (b % 4) (is_frame_thread b) kind four.frames j;
  goal = goals-by ts.goal (goal_by (thread_method b) (unwrap_or i 0)) (b % 4) (is_frame_thread b) kind four.goals (omega arith) j;
}

pub frame-set : (ts : Threads) (b : ℕ) (i : Option ℕ) (number : ℕ) (v : Frame) → HasFour ts → is_frame_thread b ≡ true → number ≡ b % 4 → v ≡ frame_by (thread_method b) (unwrap_or i 0)
    → record { frame = slice_set ts.frame number (Some v); goal = ts.goal } ≡ set_threads ts (thread b i ∷ [])
frame-set ts b i number v four kind low is = (λ j. record { frame = slice_set ts.frame (low j) (Some (is j)); goal = ts.goal }) ∙ frame-at ts b i four kind

pub goal-set : (ts : Threads) (b : ℕ) (i : Option ℕ) (number : ℕ) (v : Goal) → HasFour ts → is_frame_thread b ≡ false → number ≡ b % 4 → v ≡ goal_by (thread_method b) (unwrap_or i 0)
    → record { frame = ts.frame; goal = slice_set ts.goal number (Some v) } ≡ set_threads ts (thread b i ∷ [])
goal-set ts b i number v four kind low is = (λ j. record { frame = ts.frame; goal = slice_set ts.goal (low j) (Some (is j)) }) ∙ goal-at ts b i four kind
