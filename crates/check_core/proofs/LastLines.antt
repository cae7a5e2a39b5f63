-- The place of the last line.
use Rattle.std.proofs.Common.{◌≡◌, ◌↔◌, IsTrue, ℕ, Bool, true, false, inl, inr, List, [], ◌∷◌, map, Some, None, refl, sym, ◌∙◌, ap}
use Rattle.std.proofs.lemmas.Bool.{false≢true}
use Rattle.session_model.specs.declared.sessions.Script.{Script}
use Rattle.session_model.specs.Merging.{merge_of, AllCommands}
use Rattle.check_model.specs.declared.kinds.CheckKind.TheVariants as kinds
use Rattle.check_model.specs.Told.{Told, counts_of}
use Rattle.check_model.specs.Places.{summary}
use Rattle.check_model.specs.Checks.{Judge}
use Rattle.check_core.specs.Judged.{IsJudged}
use Rattle.check_core.specs.NextCommands.{AreDone}
use Rattle.check_core.specs.NextLaws.{command_count}
use Rattle.check_core.specs.ToldRun.{summary_of}
use Rattle.check_core.proofs.NextCommands.{all_are_done}

module _ (j : Judge) (t : Told) (line : ℕ) (scripts : List Script) (done : List ℕ) (is : j.scripts ≡ scripts) (d : AreDone j (merge_of t.run.history t.run.steady) done) where
  all_of : done ≡ map command_count scripts → AllCommands j.lib (merge_of t.run.history t.run.steady) j.scripts
  all_of e = (all_are_done j (merge_of t.run.history t.run.steady) done d).1 (e ∙ ap (map command_count) (sym is))

  pub command_left : (done ≡ map command_count scripts → ⊥) → IsJudged j t (record { number = line; what = summary } ∷ []) (Some (record { line = line; kind = kinds.Command }))
  command_left not =
      let none : AllCommands j.lib (merge_of t.run.history t.run.steady) j.scripts → ⊥ =
      (λ all. not ((all_are_done j (merge_of t.run.history t.run.steady) done d).0 all ∙ ap (map command_count) is)) in
      inl (record { number_is = refl; kind_is = inr (tt, inr (tt, inl (refl, none))) })

  pub count_differs : done ≡ map command_count scripts → (t.counts ≡ counts_of t.run → ⊥) →
      IsJudged j t (record { number = line; what = summary } ∷ []) (Some (record { line = line; kind = kinds.Count }))
  count_differs e not =
      inl (record { number_is = refl; kind_is = inr (tt, inr (tt, inr (all_of e, inr (tt, inr (tt, inr (tt, inr (tt, inr (tt, inl (refl, not))))))))) })

  pub summary_is_fine : done ≡ map command_count scripts → t.counts ≡ counts_of t.run → IsJudged j t (record { number = line; what = summary } ∷ []) None
  summary_is_fine e counts = ((tt, (tt, (all_of e, (tt, (tt, (tt, (tt, (tt, (counts, tt))))))))), tt)

  pub summary_judged : (a b : Bool) → (IsTrue a ↔ (done ≡ map command_count scripts)) → (IsTrue b ↔ (t.counts ≡ counts_of t.run)) →
      IsJudged j t (record { number = line; what = summary } ∷ []) (summary_of line a b)
  summary_judged false b h g = command_left (λ e. false≢true (h.1 e))
  summary_judged true false h g = count_differs (h.0 refl) (λ e. false≢true (g.1 e))
  summary_judged true true h g = summary_is_fine (h.0 refl) (g.0 refl)
