-- A touch, with the faults that the process made for it and entries of others between them.
use Rattle.std.proofs.Common.{◌≡◌, ℕ, ◌==◌, Bool, true, false, List, [], ◌∷◌, ◌++◌, length, map, Option, Some, None, IsTrue, refl, sym, ◌∙◌, ap, subst, eqb-true, append-nil, append_assoc}
use Rattle.std.specs.List.{AllByRecursion}
use Rattle.load_model.specs.declared.commands.Command.{Command}
use Rattle.load_model.specs.declared.commands.Command.TheVariants as commands
use Rattle.load_model.specs.declared.commands.Place.{Place}
use Rattle.load_model.specs.declared.commands.Refusal.TheVariants.{Ended}
use Rattle.load_model.specs.declared.commands.Reply.TheVariants as replies
use Rattle.load_model.specs.declared.deeds.Deed.{Deed}
use Rattle.load_model.specs.declared.deeds.Deed.TheVariants as deeds
use Rattle.load_model.specs.declared.deeds.Entry.{Entry}
use Rattle.load_model.specs.Modules.{Library, Held}
use Rattle.load_model.specs.State.{PageOf, Residence, Failing, is_among, pids}
use Rattle.load_model.specs.Refusals.{touch, when, ◌orelse◌, residence_refusal}
use Rattle.load_model.specs.Histories.{state_after, Follows, Legal}
use Rattle.load_model.specs.Laws.{PrefixIsLegal, EachFollows}
use Rattle.load_model.specs.Views.{Mapped, Holding, mapped_pages, StandsFor}
use Rattle.load_model.specs.TouchedPages.{has_page, touched_after}
use Rattle.load_model.specs.ViewAnswers.{seen_process, view_refusal, reached_named}
use Rattle.load_model.specs.ViewLaws.{IsQuiet, StandsOn, StandsQuiet}
use Rattle.session_model.specs.declared.sessions.Line.{Line}
use Rattle.session_model.specs.Merging.{uses_touched}
use Rattle.merge_laws.specs.Accounts.{own_state}
use Rattle.merge_laws.specs.AccountLaws.{TouchBegins, TouchWaits, TouchFaults, TouchEnds}
use Rattle.merge_laws.specs.MidTouch.{IsFaultFor, AccountInTouch}
use Rattle.merge_laws.specs.OwnStates.{HasTouched, FollowingReplies, TouchedAfterEntry, TouchedGoesOn}
use Rattle.merge_laws.specs.PageStates.{pages_at}
use Rattle.merge_laws.specs.ViewAccounts.{TouchAccepted, TouchFixed, FaultForTouch, TouchMapped}
use Rattle.merge_laws.specs.PageStates.{serial_seen, has_pages}
use Rattle.script_laws.specs.Progress.{Progress, line_at, IsFaultOfPlace}
use Rattle.script_laws.specs.Commands.{TouchGoesOn}

-- ---- in the midst of it

-- the process is touching the place, and has mapped what it had before
record Midst (lib : Library) (failing : Failing) (contents : Held) (v : Holding) (at : Place) (h : List Entry) (lines : List Line) (done : List Command) : Type 0 where
  stands : StandsFor lib failing contents (record v { front = length h }) h
  account : AccountInTouch lib failing contents v.pid at h lines done
  touched : HasTouched lib failing v.pid h lines (mapped_pages v)

other_entry : StandsOn → TouchWaits → TouchedGoesOn → (lib : Library) (failing : Failing) (contents : Held) (v : Holding) (at : Place) (h : List Entry) (x : Entry) (lines : List Line) (done : List Command) →
    is_among pids v.pid ≡ true → Legal lib failing contents (h ++ x ∷ []) → (v.pid == x.pid) ≡ false → Midst lib failing contents v at h lines done → Midst lib failing contents v at (h ++ x ∷ []) lines done
other_entry on waits goes lib failing contents v at h x lines done there legal apart m = record {
  stands = on lib failing contents (record v { front = length h }) h (x ∷ []) there m.stands legal (apart, tt);
  account = waits lib failing contents v.pid at h lines done x apart m.account;
  touched = goes lib failing v.pid h (x ∷ []) lines (mapped_pages v) m.account.fronts (apart, tt) m.touched;
}

own_entry : StandsQuiet → FaultForTouch → FollowingReplies → TouchFaults → TouchedAfterEntry → (lib : Library) (failing : Failing) (contents : Held) (v : Holding) (at : Place) (h : List Entry) (x : Entry)
    (lines : List Line) (done : List Command) → Follows lib failing contents h x → x.pid ≡ v.pid → IsFaultOfPlace lib v at x.deed → Midst lib failing contents v at h lines done →
    Midst lib failing contents v at (h ++ x ∷ []) lines done
own_entry quiet for_touch replies faults after lib failing contents v at h x lines done follows own f m =
    let d : Deed = deeds.Fault (serial_seen lib v at) f.«module» f.page_is in
    let is : x.deed ≡ d = f.is in
    let waits : IsFaultFor lib (own_state lib failing v.pid h lines) v.pid at d =
    for_touch lib failing contents (record v { front = length h }) h lines (mapped_pages v) at f.«module» f.page_is m.stands m.touched f.object f.covered f.unmapped
    in
    record {
      stands = quiet lib failing contents (record v { front = length h }) h x own (subst (IsQuiet lib) (sym is) tt) m.stands;
      account =
          faults lib failing contents v.pid at h lines done x own (subst (IsFaultFor lib (own_state lib failing v.pid h lines) v.pid at) (sym is) waits)
          (replies lib failing contents v.pid h lines x follows (subst (λ y. IsTrue (uses_touched (own_state lib failing v.pid h lines) x.pid y)) (sym is) refl)) m.account;
      touched =
          subst (λ y. HasTouched lib failing v.pid (h ++ x ∷ []) lines (touched_after lib (state_after lib failing h) x.pid y (λ q. mapped_pages v) v.pid)) is
          (after lib failing v.pid h lines (mapped_pages v) x m.account.fronts m.touched);
    }

all_entries : PrefixIsLegal → EachFollows → StandsOn → StandsQuiet → TouchWaits → TouchFaults → FaultForTouch → FollowingReplies → TouchedGoesOn → TouchedAfterEntry →
    (lib : Library) (failing : Failing) (contents : Held) (v : Holding) (at : Place) (h more : List Entry) (lines : List Line) (done : List Command) →
    is_among pids v.pid ≡ true → Legal lib failing contents (h ++ more) → AllByRecursion (λ (x : Entry). (v.pid == x.pid) ≡ true → IsFaultOfPlace lib v at x.deed) more →
    Midst lib failing contents v at h lines done → Midst lib failing contents v at (h ++ more) lines done
all_entries shrinks each on quiet waits faults for_touch replies goes after lib failing contents v at h [] lines done there legal all m =
    subst (λ l. Midst lib failing contents v at l lines done) (sym (append-nil h)) m
all_entries shrinks each on quiet waits faults for_touch replies goes after lib failing contents v at h (x ∷ more) lines done there legal all m =
    let whole : Legal lib failing contents ((h ++ x ∷ []) ++ more) = subst (Legal lib failing contents) (sym (append_assoc h (x ∷ []) more)) legal in
    let first : Legal lib failing contents (h ++ x ∷ []) = shrinks lib failing contents (h ++ x ∷ []) more whole in
    let follows : Follows lib failing contents h x = each lib failing contents h x more legal in
    subst (λ l. Midst lib failing contents v at l lines done) (append_assoc h (x ∷ []) more)
    (all_entries shrinks each on quiet waits faults for_touch replies goes after lib failing contents v at (h ++ x ∷ []) more lines done there whole all.1 (step (v.pid == x.pid) refl first follows))
  where
    step : (b : Bool) → (v.pid == x.pid) ≡ b → Legal lib failing contents (h ++ x ∷ []) → Follows lib failing contents h x → Midst lib failing contents v at (h ++ x ∷ []) lines done
    step true is first follows = own_entry quiet for_touch replies faults after lib failing contents v at h x lines done follows (sym (eqb-true v.pid x.pid is)) (all.0 is) m
    step false is first follows = other_entry on waits goes lib failing contents v at h x lines done there first is m

-- ---- its end

touch_refused_alike : (lib : Library) (v : Holding) (ms : List Mapped) (n : ℕ) (at : Place) →
    view_refusal lib (record v { mapped = ms; front = n }) (commands.Touch at) ≡ view_refusal lib v (commands.Touch at)
unfolding view_refusal
touch_refused_alike lib v ms n at = ap (λ r. when v.ended Ended orelse r) (alike (reached_named lib v at.«module»))
  where
    alike : (r : Option Residence) → residence_refusal lib (seen_process (record v { mapped = ms; front = n })) touch at r ≡ residence_refusal lib (seen_process v) touch at r
    alike None = refl
    alike (Some r) = refl

touch_done : TouchEnds → TouchAccepted → TouchFixed → TouchMapped → (lib : Library) (failing : Failing) (contents : Held) (v : Holding) (k : List Entry) (lines : List Line) (done : List Command)
    (at : Place) (ms : List Mapped) (news : List PageOf) → is_among pids v.pid ≡ true → Legal lib failing contents k → StandsFor lib failing contents (record v { mapped = ms; front = length k }) k →
    view_refusal lib v (commands.Touch at) ≡ None → map (λ (p : Mapped). p.of) ms ≡ mapped_pages v ++ news →
    AllByRecursion (λ (t : PageOf). has_page (pages_at (serial_seen lib v at) at) t.serial t.page ≡ true) news → has_pages (map (λ (p : Mapped). p.of) ms) (serial_seen lib v at) at ≡ true →
    Midst lib failing contents v at k lines done →
    Progress lib failing contents (record v { mapped = ms; front = length k }) k (lines ++ line_at k (commands.Touch at) replies.Fine ∷ []) (done ++ commands.Touch at ∷ [])
touch_done ends accepted fixed mapped lib failing contents v k lines done at ms news there legal stands fine is of_place all m =
    let w : Holding = record v { mapped = ms; front = length k } in
    let open_still : view_refusal lib w (commands.Touch at) ≡ None = touch_refused_alike lib v ms (length k) at ∙ fine in
    record {
      process = there;
      legal = legal;
      stands = stands;
      account =
          ends lib failing contents v.pid at k lines done (fixed lib failing contents w k lines at stands open_still all) (accepted lib failing contents w k lines at stands open_still) m.account;
      touched = mapped lib failing contents w k lines (mapped_pages v) news at stands m.touched is of_place all;
    }

pub touch_goes_on : PrefixIsLegal → EachFollows → StandsOn → StandsQuiet → TouchBegins → TouchWaits → TouchFaults → TouchEnds → TouchAccepted → TouchFixed → FaultForTouch → TouchMapped →
    FollowingReplies → TouchedGoesOn → TouchedAfterEntry → TouchGoesOn
touch_goes_on shrinks each on quiet begins waits faults ends accepted fixed for_touch mapped answers goes after lib failing contents v w h k lines done at legal stands it p =
    let at_first : Midst lib failing contents v at h lines done = record {
      stands = subst (λ n. StandsFor lib failing contents (record v { front = n }) h) p.stands.front p.stands;
      account = begins lib failing contents v.pid at h lines done p.account;
      touched = p.touched;
    }
    in
    let end : Midst lib failing contents v at k lines done =
    subst (λ l. Midst lib failing contents v at l lines done) (sym it.shown)
    (all_entries shrinks each on quiet waits faults for_touch answers goes after lib failing contents v at h it.more lines done p.process (subst (Legal lib failing contents) it.shown legal) it.faults
    at_first)
    in
    subst (λ u. Progress lib failing contents u k (lines ++ line_at k (commands.Touch at) replies.Fine ∷ []) (done ++ commands.Touch at ∷ [])) (sym it.view)
    (touch_done ends accepted fixed mapped lib failing contents v k lines done at w.mapped it.news p.process legal (subst (λ u. StandsFor lib failing contents u k) it.view stands) it.accepted
    it.mapped it.of_place it.all end)
