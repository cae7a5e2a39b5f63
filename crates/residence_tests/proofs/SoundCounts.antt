-- What processes hold goes on.
use Rattle.std.proofs.Common.{◌≡◌, ℕ, ◌==◌, ◌||◌, true, false, cond, inl, inr, List, [], ◌∷◌, ◌++◌, None, Result, Ok, Err, refl, sym, ◌∙◌, ap}
use Rattle.std.specs.Prelude.{IfOk, IfErr}
use Rattle.std.proofs.lemmas.Bool.{cases_eq, eq-eqb, ne_eqb, or_parts}
use Rattle.std.proofs.lemmas.List.Folds.{list_any-append}
use Rattle.std.proofs.Math.Bool.{or-true}
use Rattle.load_model.specs.declared.deeds.How.TheVariants.{Start, Load}
use Rattle.load_model.specs.Modules.{Library}
use Rattle.load_model.specs.State.{Process, Eager, with_process, nothing_yet, is_among}
use Rattle.load_model.specs.Leaving.{keeping}
use Rattle.load_model.specs.ProcessCounts.{ProcessCounts}
use Rattle.mod_refs.specs.declared.changes.Leaving.{Leaving}
use Rattle.mod_refs.specs.declared.changes.Leaving.TheVariants.{One, All}
use Rattle.mod_refs.specs.AllCounts.{AreCountsOfAll, AreKept}
use Rattle.mod_refs.specs.Changes.{with_entered, with_given_up, given_up}
use Rattle.residence_tests.specs.Sound.{CountsSound}

-- a call that is done, or refused
pub either : {A E : Type 0} (r : Result A E) (P : A → Type 0) (Q : E → Type 0) (X : Type 0) → IfOk r P → IfErr r Q → ((x : A) → P x → X) → ((e : E) → Q e → X) → X
either (Ok x) P Q X done refused on_done on_refused = on_done x done
either (Err e) P Q X done refused on_done on_refused = on_refused e refused

idle_with : (e : Eager) (pid : ℕ) (p : Process) (q : ℕ) → (q ≡ pid → p.started ≡ None) → (e.processes q).started ≡ None → ((with_process e pid p).processes q).started ≡ None
unfolding with_process
idle_with e pid p q own other = elim (cases_eq q pid) [
  | inl same ↦ ap (λ b. (cond b p (e.processes q)).started) (eq-eqb q pid same) ∙ own same
  | inr apart ↦ ap (λ b. (cond b p (e.processes q)).started) (ne_eqb q pid apart) ∙ other
]

pub nothing_sound : (lib : Library) (rows : List ProcessCounts) → AreCountsOfAll lib (nothing_yet []) rows → AreKept lib rows → CountsSound lib rows []
nothing_sound lib rows are kept = record { state = nothing_yet []; counts_are = are; kept = kept; idle = λ pid none. refl }

pub loaded_sound : (lib : Library) (rows new : List ProcessCounts) (started : List ℕ) (pid m : ℕ) → (sound : CountsSound lib rows started) → AreCountsOfAll lib (with_entered lib sound.state pid Load m) new →
    AreKept lib new → CountsSound lib new started
loaded_sound lib rows new started pid m sound are kept = record {
  state = with_entered lib sound.state pid Load m;
  counts_are = are;
  kept = kept;
  idle = λ q none. idle_with sound.state pid _ q (λ same. ap (λ k. (sound.state.processes k).started) (sym same) ∙ sound.idle q none) (sound.idle q none);
}

among_last : (started : List ℕ) (pid : ℕ) → is_among (started ++ pid ∷ []) pid ≡ true
among_last started pid =
    list_any-append (λ other. other == pid) started (pid ∷ []) ∙ ap (λ b. is_among started pid || (b || false)) (eq-eqb pid pid refl) ∙ or-true (is_among started pid)

among_fewer : (started : List ℕ) (pid q : ℕ) → is_among (started ++ pid ∷ []) q ≡ false → is_among started q ≡ false
among_fewer started pid q none = (or_parts (is_among started q) (is_among (pid ∷ []) q) (sym (list_any-append (λ other. other == q) started (pid ∷ [])) ∙ none)).0

pub more_started : (lib : Library) (rows : List ProcessCounts) (started : List ℕ) (pid : ℕ) → CountsSound lib rows started → CountsSound lib rows (started ++ pid ∷ [])
more_started lib rows started pid sound = record {
  state = sound.state;
  counts_are = sound.counts_are;
  kept = sound.kept;
  idle = λ q none. sound.idle q (among_fewer started pid q none);
}

pub started_sound : (lib : Library) (rows new : List ProcessCounts) (started : List ℕ) (pid m : ℕ) → (sound : CountsSound lib rows started) → AreCountsOfAll lib (with_entered lib sound.state pid Start m) new →
    AreKept lib new → CountsSound lib new (started ++ pid ∷ [])
started_sound lib rows new started pid m sound are kept = record {
  state = with_entered lib sound.state pid Start m;
  counts_are = are;
  kept = kept;
  idle = λ q none. idle_with sound.state pid _ q
      (λ same. (let wrong : true ≡ false = sym (among_last started pid) ∙ ap (is_among (started ++ pid ∷ [])) (sym same) ∙ none in cc)) (sound.idle q (among_fewer started pid q none));
}

given_up_idle : (what : Leaving) (p : Process) → p.started ≡ None → (given_up what p).started ≡ None
given_up_idle (One m) p none = none
given_up_idle All p none = refl

pub left_sound : (lib : Library) (rows new : List ProcessCounts) (started : List ℕ) (pid : ℕ) (what : Leaving) → (sound : CountsSound lib rows started) → AreCountsOfAll lib (with_given_up lib sound.state pid what) new →
    AreKept lib new → CountsSound lib new started
unfolding keeping
left_sound lib rows new started pid what sound are kept = record {
  state = with_given_up lib sound.state pid what;
  counts_are = are;
  kept = kept;
  idle = λ q none. idle_with sound.state pid _ q
      (λ same. given_up_idle what (sound.state.processes pid) (ap (λ k. (sound.state.processes k).started) (sym same) ∙ sound.idle q none)) (sound.idle q none);
}
