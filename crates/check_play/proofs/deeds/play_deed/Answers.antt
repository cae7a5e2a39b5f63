use Rattle.std.proofs.Common.{◌≡◌, ◌&&◌, ℕ, false, Some, refl, sym, ap, ◌∙◌}
use Rattle.load_model.specs.declared.commands.Refusal.{Refusal}
use Rattle.load_model.specs.declared.commands.Refusal.TheVariants.{NotTouched}
use Rattle.load_model.specs.declared.deeds.Entry.{Entry}
use Rattle.load_model.specs.ViewAnswers.{view_refusal}
use Rattle.load_model.proofs.Bools.{and_false}
use Rattle.load_core.specs.BoardState.{BoardState, state_of}
use Rattle.process_view.specs.ProcessViews.{ProcessView}
use Rattle.play_laws.specs.CommandAsks.{is_usable, names_its_residence}
use Rattle.check_play.proofs.PlayedEntries.{refused_by}
use Rattle.check_play.proofs.deeds.play_deed.Goals as goal

-- what stands against a command but an untouched page
other_refusal : (r : Refusal) → ((n : ℕ) → r ≡ NotTouched n → ⊥) → is_usable (Some r) ≡ false
other_refusal (NotTouched n) other = absurd (other n refl)
other_refusal r other = refl

pub returns-then-not-is_reached : goal.returns-then-not-is_reached
returns-then-not-is_reached g c j before after can stands =
    let b : BoardState = c.args.standing.now.board in
    let v : ProcessView = c.args.view.now in
    let x : Entry = c.args.entry.0.now in
    let off : names_its_residence b.library (state_of b) v.holding.pid x.deed ≡ false =
    ap (λ (n : ℕ). names_its_residence b.library (state_of b) n x.deed) (sym c.pid.ensures.number) ∙ (sym c.is_reached.ensures ∙ c.if-not-is_reached.true) in
    record {
      judged =
          refused_by c.entries_by_refusals.ensures c.merges_are_histories.ensures.states c.views_answer_at_places.ensures c.mapped_pages_move.ensures.touched j before after b v x c.args.entry.1.now c.requires.asks
          c.requires.fits stands.board stands.view
          (ap (λ s. is_usable (view_refusal v.library v.holding c.args.entry.1.now) && s) off ∙ and_false (is_usable (view_refusal v.library v.holding c.args.entry.1.now)));
      stands = λ none. cc;
    }

pub returns-in_default : goal.returns-in_default
returns-in_default g c j before after can stands =
    let b : BoardState = c.args.standing.now.board in
    let v : ProcessView = c.args.view.now in
    let x : Entry = c.args.entry.0.now in
    let off : is_usable (view_refusal v.library v.holding c.args.entry.1.now) ≡ false =
    ap is_usable (sym c.refusal.ensures ∙ c.in-Some.is) ∙ other_refusal c.in-Some.refusal (λ n is. c.in_default.not-NotTouched n is) in
    record {
      judged =
          refused_by c.entries_by_refusals.ensures c.merges_are_histories.ensures.states c.views_answer_at_places.ensures c.mapped_pages_move.ensures.touched j before after b v x c.args.entry.1.now c.requires.asks
          c.requires.fits stands.board stands.view (ap (λ u. u && names_its_residence b.library (state_of b) v.holding.pid x.deed) off);
      stands = λ none. cc;
    }
