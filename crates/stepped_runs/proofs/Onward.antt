-- The process of a view goes on.
use Rattle.std.proofs.Common.{◌≡◌, ℕ, List, [], ◌∷◌, ◌++◌, length, Bool, None, true, false, Result, Ok, Err, refl, sym, ap, ◌∙◌, subst, append_assoc, append-nil}
use Rattle.std.specs.List.{AllByRecursion}
use Rattle.lx_types.specs.declared.fail.Fail.{Fail}
use Rattle.lx_types.specs.declared.fail.Fail.TheVariants.{Said, NoMemory}
use Rattle.lx_types.proofs.Lists.{all_joined}
use Rattle.load_model.specs.declared.commands.Command.{Command}
use Rattle.load_model.specs.declared.commands.Refusal.{Refusal}
use Rattle.load_model.specs.declared.deeds.Entry.{Entry}
use Rattle.load_model.specs.ViewAnswers.{view_refusal}
use Rattle.load_model.specs.Outcomes.{Outcome}
use Rattle.load_model.specs.State.{pids, is_among}
use Rattle.load_core.specs.BoardState.{BoardState, entry_of}
use Rattle.process_view.specs.ProcessViews.{ProcessView, StandsAt, at_front, without_room}
use Rattle.process_view.specs.Deeds.{Did, IsDone, IsIdle}
use Rattle.proc_core.proofs.Made.{roomless, fronts_alike}
use Rattle.stepped_runs.specs.OneThread.{StandsShown, CanGoOn, WentOn, MappedMore}

-- a view that stands for all that was done was shown it
pub shown_again : (c : BoardState) (w : ProcessView) → StandsAt c w → StandsShown c w
shown_again c w stands = subst (λ (n : ℕ). StandsAt c (at_front n w)) stands.stands.front stands

-- ---- nothing was done

pub stayed : (b : BoardState) (v : ProcessView) → CanGoOn b v → WentOn b b v v
stayed b v can = record { library = refl; failing = refl; more = []; history = sym (append-nil b.history); own = tt; pid = refl; stands = can.stands }

pub mapped_none : (b : BoardState) (v : ProcessView) → CanGoOn b v → MappedMore b b v v
mapped_none b v can = record { went = stayed b v can; library = refl; residences = refl; ended = refl }

-- ---- one thing after another

still_own : (a b : ℕ) (xs : List Entry) → b ≡ a → AllByRecursion (λ (x : Entry). x.pid ≡ b) xs → AllByRecursion (λ (x : Entry). x.pid ≡ a) xs
still_own a b [] e all = tt
still_own a b (x ∷ xs) e all = (all.0 ∙ e, still_own a b xs e all.1)

pub went_further : (a b c : BoardState) (u v w : ProcessView) → WentOn a b u v → WentOn b c v w → WentOn a c u w
went_further a b c u v w first second = record {
  library = second.library ∙ first.library;
  failing = second.failing ∙ first.failing;
  more = first.more ++ second.more;
  history = second.history ∙ (ap (λ (h : List Entry). h ++ second.more) first.history ∙ append_assoc a.history first.more second.more);
  own = all_joined (λ (x : Entry). x.pid ≡ u.holding.pid) first.more second.more first.own
      (still_own u.holding.pid v.holding.pid second.more first.pid second.own);
  pid = second.pid ∙ first.pid;
  stands = second.stands;
}

pub mapped_further : (a b c : BoardState) (u v w : ProcessView) → MappedMore a b u v → MappedMore b c v w → MappedMore a c u w
mapped_further a b c u v w first second = record {
  went = went_further a b c u v w first.went second.went;
  library = second.library ∙ first.library;
  residences = second.residences ∙ first.residences;
  ended = second.ended ∙ first.ended;
}

-- it can go on after it
pub can_still : (b c : BoardState) (v w : ProcessView) → CanGoOn b v → WentOn b c v w → CanGoOn c w
can_still b c v w can went = record { process = subst (λ (n : ℕ). is_among pids n ≡ true) (sym went.pid) can.process; stands = went.stands }

-- ---- what is done with the board

pub stands_now : (b : BoardState) (v u : ProcessView) → CanGoOn b v → u ≡ at_front (length b.history) v → StandsAt b u
stands_now b v u can shown = subst (StandsAt b) (sym shown) can.stands

pub accepted_now : (v u : ProcessView) (n : ℕ) (command : Command) → u ≡ at_front n v → view_refusal v.library v.holding command ≡ None → view_refusal u.library u.holding command ≡ None
accepted_now v u n command shown fine =
    subst (λ (x : ProcessView). view_refusal x.library x.holding command ≡ None) (sym shown) (fronts_alike v.library v.holding n command ∙ fine)

did_more : (b c : BoardState) (v u w : ProcessView) (command : Command) (outcome : Outcome) → u ≡ at_front (length b.history) v → Did b c u w command outcome → WentOn b c v w
did_more b c v u w command outcome shown did =
    let pid : u.holding.pid ≡ v.holding.pid = ap (λ (x : ProcessView). x.holding.pid) shown in
    record {
      library = ap (λ (l : BoardState). l.library) did.adds;
      failing = ap (λ (l : BoardState). l.failing) did.adds;
      more = entry_of b u.holding.pid did.ask ∷ [];
      history = ap (λ (l : BoardState). l.history) did.adds;
      own = (pid, tt);
      pid = did.pid ∙ pid;
      stands = shown_again c w did.stands;
    }

pub idled : (b c : BoardState) (v u w : ProcessView) → CanGoOn b v → u ≡ at_front (length b.history) v → IsIdle b c u w → WentOn b c v w
idled b c v u w can shown idle =
    let bare : without_room w ≡ without_room (at_front (length b.history) v) = idle.1 ∙ ap without_room shown in
    record {
      library = ap (λ (l : BoardState). l.library) idle.0;
      failing = ap (λ (l : BoardState). l.failing) idle.0;
      more = [];
      history = ap (λ (l : BoardState). l.history) idle.0 ∙ sym (append-nil b.history);
      own = tt;
      pid = ap (λ (x : ProcessView). x.holding.pid) bare;
      stands = subst (λ (l : BoardState). StandsShown l w) (sym idle.0) (shown_again b w (roomless b (at_front (length b.history) v) w bare can.stands));
    }

pub went : (b c : BoardState) (v u w : ProcessView) (command : Command) (r : Result (List ℕ) (Fail Refusal)) → CanGoOn b v → u ≡ at_front (length b.history) v → IsDone b c u w command r → WentOn b c v w
went b c v u w command (Ok bytes) can shown is = did_more b c v u w command _ shown is.0
went b c v u w command (Err (Said refusal)) can shown did = did_more b c v u w command _ shown did
went b c v u w command (Err NoMemory) can shown idle = idled b c v u w can shown idle

-- nothing was done, and so the pages are as they were
pub idled_more : (b c : BoardState) (v u w : ProcessView) → CanGoOn b v → u ≡ at_front (length b.history) v → IsIdle b c u w → MappedMore b c v w
idled_more b c v u w can shown idle =
    let bare : without_room w ≡ without_room (at_front (length b.history) v) = idle.1 ∙ ap without_room shown in
    record {
      went = idled b c v u w can shown idle;
      library = ap (λ (x : ProcessView). x.library) bare;
      residences = ap (λ (x : ProcessView). x.residences) bare;
      ended = ap (λ (x : ProcessView). x.holding.ended) bare;
    }
