-- How many entries a view was shown decides none of its refusals.
use Rattle.std.proofs.Common.{◌≡◌, ℕ, None, refl, sym, ◌∙◌, subst}
use Rattle.load_model.specs.declared.commands.Command.{Command}
use Rattle.load_model.specs.declared.commands.Command.TheVariants as commands
use Rattle.load_model.specs.Modules.{Library}
use Rattle.load_model.specs.Views.{Holding}
use Rattle.load_model.specs.ViewAnswers.{view_refusal}
use Rattle.process_view.specs.ProcessViews.{ProcessView, at_front}

pub fronts_alike : (lib : Library) (v : Holding) (n : ℕ) (command : Command) → view_refusal lib (record v { front = n }) command ≡ view_refusal lib v command
unfolding view_refusal
fronts_alike lib v n (commands.Start name) = refl
fronts_alike lib v n (commands.Load name) = refl
fronts_alike lib v n (commands.Free name) = refl
fronts_alike lib v n (commands.Touch at) = refl
fronts_alike lib v n (commands.Peek at) = refl
fronts_alike lib v n (commands.Shared at) = refl
fronts_alike lib v n (commands.Write at bytes) = refl
fronts_alike lib v n (commands.Debug at bytes) = refl
fronts_alike lib v n (commands.Query name key) = refl
fronts_alike lib v n (commands.GetRes name ty id) = refl
fronts_alike lib v n commands.Exit = refl

pub accepted_now : (v u : ProcessView) (n : ℕ) (command : Command) → u ≡ at_front n v → view_refusal v.library v.holding command ≡ None → view_refusal u.library u.holding command ≡ None
accepted_now v u n command shown fine =
    subst (λ (x : ProcessView). view_refusal x.library x.holding command ≡ None) (sym shown) (fronts_alike v.library v.holding n command ∙ fine)
