-- A command that had an entry.
use Rattle.std.proofs.Common.{◌≡◌, true, List, [], ◌∷◌, ◌++◌, IsTrue, sym, ◌∙◌, ap, subst}
use Rattle.load_model.specs.declared.deeds.Entry.{Entry}
use Rattle.load_model.specs.State.{PageOf, Eager, is_among, pids}
use Rattle.load_model.specs.Histories.{state_after}
use Rattle.load_model.specs.Views.{mapped_pages}
use Rattle.load_model.specs.TouchedPages.{touched_after}
use Rattle.session_model.specs.Merging.{uses_touched}
use Rattle.merge_laws.specs.Accounts.{Account, own_state}
use Rattle.merge_laws.specs.AccountLaws.{OwnEntryAdds, AccountGoesOn}
use Rattle.merge_laws.specs.OwnStates.{HasTouched, FollowingReplies, TouchedAfterEntry, TouchedGoesOn, TouchedDecides}
use Rattle.script_laws.specs.Commands.{EntryGoesOn}

pub entry_goes_on : OwnEntryAdds → AccountGoesOn → FollowingReplies → TouchedAfterEntry → TouchedGoesOn → TouchedDecides → EntryGoesOn
entry_goes_on adds goes replies after touched decides lib failing contents v w h k lines done c legal stands it p =
    let at : List Entry = h ++ it.more in
    let x : Entry = it.entry in
    let pages : List PageOf = mapped_pages v in
    let e : Eager = state_after lib failing at in
    let own : Eager = own_state lib failing v.pid at lines in
    let so_far : Account lib failing contents v.pid at lines done = goes lib failing contents v.pid h it.more lines done it.others p.account in
    let has : HasTouched lib failing v.pid at lines pages = touched lib failing v.pid h it.more lines pages p.account.fronts it.others p.touched in
    let uses : IsTrue (uses_touched own x.pid x.deed) =
    subst (λ n. IsTrue (uses_touched own n x.deed)) (sym it.own) ((decides lib failing contents v.pid at lines pages has).uses x.deed ∙ it.uses)
    in
    let account : Account lib failing contents v.pid (at ++ x ∷ []) lines (done ++ c ∷ []) =
    adds lib failing contents v.pid at lines done x c it.own it.plain it.asked (replies lib failing contents v.pid at lines x it.follows uses) so_far
    in
    let kept : HasTouched lib failing v.pid (at ++ x ∷ []) lines (mapped_pages w) =
    subst (HasTouched lib failing v.pid (at ++ x ∷ []) lines)
    (ap (λ n. touched_after lib e n x.deed (λ q. pages) v.pid) it.own ∙ sym it.mapped)
    (after lib failing v.pid at lines pages x so_far.fronts has)
    in
    record {
      process = subst (λ n. is_among pids n ≡ true) (sym it.same) p.process;
      legal = legal;
      stands = stands;
      account = subst (λ n. Account lib failing contents n k lines (done ++ c ∷ [])) (sym it.same) (subst (λ l. Account lib failing contents v.pid l lines (done ++ c ∷ [])) (sym it.shown) account);
      touched = subst (λ n. HasTouched lib failing n k lines (mapped_pages w)) (sym it.same) (subst (λ l. HasTouched lib failing v.pid l lines (mapped_pages w)) (sym it.shown) kept);
    }
