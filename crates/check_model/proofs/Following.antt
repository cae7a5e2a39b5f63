-- A history is legal exactly where each entry of a merge follows the entries before it; and what may be asked and is done after a history,
-- may be and is after the items that have it.
use Rattle.std.proofs.Common.{◌≡◌, ℕ, List, [], ◌∷◌, ◌++◌, sym, ◌∙◌, ap, subst, append-nil}
use Rattle.load_model.specs.declared.commands.Ask.{Ask}
use Rattle.load_model.specs.Modules.{Library, Held}
use Rattle.load_model.specs.State.{Failing}
use Rattle.load_model.specs.Asks.{deed_of, may_ask}
use Rattle.load_model.specs.Histories.{state_after, Follows, AllFollow}
use Rattle.load_model.proofs.Retouched.{touched_is_apart}
use Rattle.session_model.specs.Merging.{Item, entry, line, state_after_items, AllPlaces}
use Rattle.session_model.specs.MergeLaws.{entries_in, touched_in}
use Rattle.session_model.proofs.MergeStates.{entries_append, states_are_the_historys}

module _ (lib : Library) (failing : Failing) (contents : Held) where
  abbrev pub FollowsAt : List Item → Item → List Item → Type 0
  FollowsAt before (entry x) after = Follows lib failing contents (entries_in before) x
  FollowsAt before (line pid l) after = Unit {0}

  pub all_follow : (before items : List Item) → AllPlaces FollowsAt before items → AllFollow lib failing contents (entries_in before) (entries_in items)
  all_follow before [] a = tt
  all_follow before (entry x ∷ items) a =
      (a.0, subst (λ h. AllFollow lib failing contents h (entries_in items)) (entries_append before (entry x ∷ [])) (all_follow (before ++ entry x ∷ []) items a.1))
  all_follow before (line pid l ∷ items) a =
      subst (λ h. AllFollow lib failing contents h (entries_in items)) (entries_append before (line pid l ∷ []) ∙ append-nil (entries_in before))
      (all_follow (before ++ line pid l ∷ []) items a.1)

  pub each_follows : (before items : List Item) → AllFollow lib failing contents (entries_in before) (entries_in items) → AllPlaces FollowsAt before items
  each_follows before [] a = tt
  each_follows before (entry x ∷ items) a =
      (a.0, each_follows (before ++ entry x ∷ []) items (subst (λ h. AllFollow lib failing contents h (entries_in items)) (sym (entries_append before (entry x ∷ []))) a.1))
  each_follows before (line pid l ∷ items) a = (
    tt,
    each_follows (before ++ line pid l ∷ []) items
        (subst (λ h. AllFollow lib failing contents h (entries_in items)) (sym (entries_append before (line pid l ∷ []) ∙ append-nil (entries_in before))) a),
  )

  pub may_alike : (before : List Item) (pid : ℕ) (ask : Ask) →
      may_ask lib (state_after_items lib failing before) pid ask ≡ may_ask lib (state_after lib failing (entries_in before)) pid ask
  may_alike before pid ask =
      ap (λ e. may_ask lib e pid ask) (states_are_the_historys lib failing before)
      ∙ (touched_is_apart lib contents (state_after lib failing (entries_in before)) (touched_in (state_after_items lib failing before)) pid ask).0

  pub done_alike : (before : List Item) (pid : ℕ) (ask : Ask) →
      deed_of lib contents (state_after_items lib failing before) pid ask ≡ deed_of lib contents (state_after lib failing (entries_in before)) pid ask
  done_alike before pid ask =
      ap (λ e. deed_of lib contents e pid ask) (states_are_the_historys lib failing before)
      ∙ (touched_is_apart lib contents (state_after lib failing (entries_in before)) (touched_in (state_after_items lib failing before)) pid ask).1
