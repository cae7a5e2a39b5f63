-- Commands that are answered without an entry, and the start.
use Rattle.std.proofs.Common.{◌≡◌, ℕ, List, [], ◌∷◌, ◌++◌, IsTrue, refl, subst}
use Rattle.load_model.specs.declared.commands.Command.{Command}
use Rattle.load_model.specs.declared.commands.Command.TheVariants as commands
use Rattle.load_model.specs.declared.commands.Refusal.{Refusal}
use Rattle.load_model.specs.declared.commands.Reply.{Reply}
use Rattle.load_model.specs.declared.commands.Reply.TheVariants as replies
use Rattle.load_model.specs.declared.deeds.Entry.{Entry}
use Rattle.load_model.specs.Modules.{Library, Held}
use Rattle.load_model.specs.State.{PageOf, Failing, Eager}
use Rattle.load_model.specs.Step.{steady, answer_of}
use Rattle.load_model.specs.Histories.{state_after}
use Rattle.load_model.specs.Laws.{NothingIsLegal}
use Rattle.load_model.specs.Views.{Holding, mapped_pages}
use Rattle.load_model.specs.ViewLaws.{NewStands}
use Rattle.session_model.specs.declared.sessions.Line.{Line}
use Rattle.session_model.specs.Merging.{Item, touch_follows}
use Rattle.merge_laws.specs.Accounts.{own_items, own_state}
use Rattle.merge_laws.specs.AccountLaws.{AccountBegins, OwnLineAdds}
use Rattle.merge_laws.specs.OwnStates.{HasTouched, NothingTouched, TouchedAfterLine, pages_after_line}
use Rattle.merge_laws.specs.ViewAccounts.{ViewRefuses, ViewReplies}
use Rattle.script_laws.specs.Progress.{Progress, line_at}
use Rattle.script_laws.specs.Commands.{ProgressBegins, RefusedGoesOn, ReadGoesOn}

pub begins : NothingIsLegal → NewStands → AccountBegins → NothingTouched → ProgressBegins
begins legal stands account touched lib failing contents pid there = record {
  process = there;
  legal = legal lib failing contents;
  stands = stands lib failing contents pid;
  account = account lib failing contents pid;
  touched = touched lib failing pid;
}

-- a line that maps no page
line_goes_on : OwnLineAdds → TouchedAfterLine → (lib : Library) (failing : Failing) (contents : Held) (v : Holding) (h : List Entry) (lines : List Line) (done : List Command) (c : Command) (r : Reply) →
    IsTrue (touch_follows lib failing (own_items v.pid h lines) v.pid c r) → answer_of lib contents (own_state lib failing v.pid h lines) v.pid c ≡ steady r →
    pages_after_line lib (state_after lib failing h) v.pid c r (mapped_pages v) ≡ mapped_pages v → Progress lib failing contents v h lines done →
    Progress lib failing contents v h (lines ++ line_at h c r ∷ []) (done ++ c ∷ [])
line_goes_on adds after lib failing contents v h lines done c r follows answered same p = record {
  process = p.process;
  legal = p.legal;
  stands = p.stands;
  account = adds lib failing contents v.pid h lines done (line_at h c r) refl follows answered p.account;
  touched = subst (HasTouched lib failing v.pid h (lines ++ line_at h c r ∷ [])) same (after lib failing v.pid h lines (mapped_pages v) (line_at h c r) refl p.touched);
}

-- ---- refusals

refused_follows : (lib : Library) (failing : Failing) (items : List Item) (pid : ℕ) (c : Command) (r : Refusal) → IsTrue (touch_follows lib failing items pid c (replies.Refused r))
refused_follows lib failing items pid (commands.Touch at) r = refl
refused_follows lib failing items pid (commands.Peek at) r = refl
refused_follows lib failing items pid (commands.Query name key) r = refl
refused_follows lib failing items pid (commands.GetRes name ty id) r = refl
refused_follows lib failing items pid (commands.Start name) r = refl
refused_follows lib failing items pid (commands.Load name) r = refl
refused_follows lib failing items pid (commands.Free name) r = refl
refused_follows lib failing items pid (commands.Shared at) r = refl
refused_follows lib failing items pid (commands.Write at bytes) r = refl
refused_follows lib failing items pid (commands.Debug at bytes) r = refl
refused_follows lib failing items pid commands.Exit r = refl

refused_pages : (lib : Library) (e : Eager) (pid : ℕ) (c : Command) (r : Refusal) (pages : List PageOf) → pages_after_line lib e pid c (replies.Refused r) pages ≡ pages
refused_pages lib e pid (commands.Touch at) r pages = refl
refused_pages lib e pid (commands.Peek at) r pages = refl
refused_pages lib e pid (commands.Query name key) r pages = refl
refused_pages lib e pid (commands.GetRes name ty id) r pages = refl
refused_pages lib e pid (commands.Start name) r pages = refl
refused_pages lib e pid (commands.Load name) r pages = refl
refused_pages lib e pid (commands.Free name) r pages = refl
refused_pages lib e pid (commands.Shared at) r pages = refl
refused_pages lib e pid (commands.Write at bytes) r pages = refl
refused_pages lib e pid (commands.Debug at bytes) r pages = refl
refused_pages lib e pid commands.Exit r pages = refl

pub refused_goes_on : OwnLineAdds → TouchedAfterLine → ViewRefuses → RefusedGoesOn
refused_goes_on adds after refuses lib failing contents v h lines done c refusal is p =
    line_goes_on adds after lib failing contents v h lines done c (replies.Refused refusal) (refused_follows lib failing (own_items v.pid h lines) v.pid c refusal)
    (refuses lib failing contents v h lines c refusal p.stands p.touched is) (refused_pages lib (state_after lib failing h) v.pid c refusal (mapped_pages v)) p

-- ---- replies

pub read_goes_on : OwnLineAdds → TouchedAfterLine → ViewReplies → ReadGoesOn
read_goes_on adds after replied lib failing contents v h lines done (commands.Peek at) r reads none is p =
    line_goes_on adds after lib failing contents v h lines done (commands.Peek at) r refl (replied lib failing contents v h lines (commands.Peek at) r p.legal p.stands p.touched none is) refl p
read_goes_on adds after replied lib failing contents v h lines done (commands.Query name key) r reads none is p =
    line_goes_on adds after lib failing contents v h lines done (commands.Query name key) r refl
    (replied lib failing contents v h lines (commands.Query name key) r p.legal p.stands p.touched none is) refl p
read_goes_on adds after replied lib failing contents v h lines done (commands.GetRes name ty id) r reads none is p =
    line_goes_on adds after lib failing contents v h lines done (commands.GetRes name ty id) r refl
    (replied lib failing contents v h lines (commands.GetRes name ty id) r p.legal p.stands p.touched none is) refl p
read_goes_on adds after replied lib failing contents v h lines done (commands.Touch at) r reads none is p = absurd reads
read_goes_on adds after replied lib failing contents v h lines done (commands.Start name) r reads none is p = absurd reads
read_goes_on adds after replied lib failing contents v h lines done (commands.Load name) r reads none is p = absurd reads
read_goes_on adds after replied lib failing contents v h lines done (commands.Free name) r reads none is p = absurd reads
read_goes_on adds after replied lib failing contents v h lines done (commands.Shared at) r reads none is p = absurd reads
read_goes_on adds after replied lib failing contents v h lines done (commands.Write at bytes) r reads none is p = absurd reads
read_goes_on adds after replied lib failing contents v h lines done (commands.Debug at bytes) r reads none is p = absurd reads
read_goes_on adds after replied lib failing contents v h lines done commands.Exit r reads none is p = absurd reads
