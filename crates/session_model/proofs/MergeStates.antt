-- The entries of a merge are the history, and its states are the history's but for touched pages.
use Rattle.std.proofs.Common.{◌≡◌, ℕ, ◌+◌, ◌==◌, Bool, true, false, if◌then◌else◌, List, [], ◌∷◌, ◌++◌, map, filter, flat_map, fold, refl, sym, ◌∙◌, ap, eqb-true}
use Rattle.std.specs.List.{enumerate_from}
use Rattle.load_model.specs.declared.commands.Place.{Place}
use Rattle.load_model.specs.declared.commands.Command.{Command}
use Rattle.load_model.specs.declared.commands.Command.TheVariants as commands
use Rattle.load_model.specs.declared.commands.Reply.{Reply}
use Rattle.load_model.specs.declared.commands.Reply.TheVariants as replies
use Rattle.load_model.specs.declared.deeds.Entry.{Entry}
use Rattle.load_model.specs.Modules.{Library}
use Rattle.load_model.specs.State.{PageOf, Eager, nothing_yet, with_process}
use Rattle.load_model.specs.Memory.{page, pages_over, touching}
use Rattle.load_model.specs.Step.{serial_named, after_touch, after_steady}
use Rattle.load_model.specs.Asks.{after_deed}
use Rattle.load_model.specs.Histories.{after_entry, state_after}
use Rattle.load_model.specs.Accepted.{retouched}
use Rattle.load_model.specs.TouchedPages.{touched_after}
use Rattle.load_model.proofs.Touched.{entries_move_touched}
use Rattle.session_model.specs.declared.sessions.Line.{Line}
use Rattle.session_model.specs.declared.sessions.ScriptLines.{ScriptLines}
use Rattle.session_model.specs.Merging.{Item, entry, line, lines_of, lines_at, merge_of, after_item, state_after_items}
use Rattle.session_model.specs.MergeLaws.{entries_in, MergeHasHistory, touched_in, StatesAreTheHistorys}

-- ---- entries

pub entries_append : (a b : List Item) → entries_in (a ++ b) ≡ entries_in a ++ entries_in b
entries_append [] b = refl
entries_append (entry x ∷ a) b = ap (λ xs. x ∷ xs) (entries_append a b)
entries_append (line pid l ∷ a) b = entries_append a b

pub no_entries : (pid : ℕ) (ls : List Line) → entries_in (map (line pid) ls) ≡ []
no_entries pid [] = refl
no_entries pid (l ∷ ls) = no_entries pid ls

lines_have_none : (front : ℕ) (s : List (ℕ × ScriptLines)) → entries_in (flat_map (lines_of front) s) ≡ []
lines_have_none front [] = refl
lines_have_none front (x ∷ s) =
    entries_append (lines_of front x) (flat_map (lines_of front) s) ∙ ap (λ xs. xs ++ entries_in (flat_map (lines_of front) s)) (no_entries x.0 (filter (λ l. l.front == front) x.1.lines))
    ∙ lines_have_none front s

after_entries : (h : List Entry) (n : ℕ) (s : List ScriptLines) → entries_in (flat_map (λ e. entry e.1 ∷ lines_at s e.0) (enumerate_from n h)) ≡ h
after_entries [] n s = refl
after_entries (x ∷ h) n s =
    ap (λ xs. x ∷ xs)
    (entries_append (lines_at s n) (flat_map (λ e. entry e.1 ∷ lines_at s e.0) (enumerate_from (n + 1) h))
    ∙ ap (λ xs. xs ++ entries_in (flat_map (λ e. entry e.1 ∷ lines_at s e.0) (enumerate_from (n + 1) h))) (lines_have_none n (enumerate_from 1 s))
    ∙ after_entries h (n + 1) s)

pub merge_has_history : MergeHasHistory
unfolding merge_of
merge_has_history h s =
    entries_append (lines_at s 0) (flat_map (λ e. entry e.1 ∷ lines_at s e.0) (enumerate_from 1 h))
    ∙ ap (λ xs. xs ++ entries_in (flat_map (λ e. entry e.1 ∷ lines_at s e.0) (enumerate_from 1 h))) (lines_have_none 0 (enumerate_from 1 s)) ∙ after_entries h 1 s

-- ---- states

-- a state that differs from another in touched pages alone
abbrev Differs : Eager → Eager → Type 0
Differs e f = (touched : ℕ → List PageOf) × (f ≡ retouched touched e)

-- the pages of a place in a residence
abbrev pages_at : ℕ → Place → List PageOf
pages_at serial at = map (λ n. record { serial = serial; page = page at.object n }) (pages_over at.offset at.len)

touch_differs : (lib : Library) (e : Eager) (touched : ℕ → List PageOf) (pid : ℕ) (at : Place) → Differs e (after_touch lib (retouched touched e) pid at)
unfolding with_process
touch_differs lib e touched pid at =
    let serial : ℕ = serial_named lib (retouched touched e) pid at in (
      λ q. if q == pid then touched pid ++ pages_at serial at else touched q,
      λ i. record { residences = e.residences; serials = e.serials; processes = λ q. one serial q (q == pid) refl i; failing = e.failing },
    )
  where
    one : (serial q : ℕ) (b : Bool) → (q == pid) ≡ b →
        (if b then touching serial at.object at.offset at.len (record (e.processes pid) { touched = touched pid }) else record (e.processes q) { touched = touched q }) ≡
        record (e.processes q) { touched = if b then touched pid ++ pages_at serial at else touched q }
    one serial q true is = ap (λ k. record (e.processes k) { touched = touched pid ++ pages_at serial at }) (sym (eqb-true q pid is))
    one serial q false is = refl

line_differs : (lib : Library) (e : Eager) (touched : ℕ → List PageOf) (pid : ℕ) (command : Command) (reply : Reply) → Differs e (after_steady lib (retouched touched e) pid command reply)
unfolding after_steady
line_differs lib e touched pid (commands.Touch at) replies.Fine = touch_differs lib e touched pid at
line_differs lib e touched pid command reply = (touched, refl)

items_differ : (lib : Library) (items : List Item) (e f : Eager) → Differs e f → Differs (fold (after_entry lib) e (entries_in items)) (fold (after_item lib) f items)
items_differ lib [] e f d = d
items_differ lib (entry x ∷ items) e f (touched, is) =
    items_differ lib items (after_entry lib e x) (after_deed lib f x.pid x.deed)
    (touched_after lib e x.pid x.deed touched, ap (λ g. after_deed lib g x.pid x.deed) is ∙ entries_move_touched lib e touched x.pid x.deed)
items_differ lib (line pid l ∷ items) e f (touched, is) =
    let step : Differs e (after_steady lib (retouched touched e) pid l.command l.reply) = line_differs lib e touched pid l.command l.reply in
    items_differ lib items e (after_steady lib f pid l.command l.reply) (step.0, ap (λ g. after_steady lib g pid l.command l.reply) is ∙ step.1)

by_its_own : (e f : Eager) → Differs e f → f ≡ retouched (touched_in f) e
by_its_own e f (touched, is) = is ∙ ap (λ g. retouched (touched_in g) e) (sym is)

pub states_are_the_historys : StatesAreTheHistorys
unfolding state_after_items state_after
states_are_the_historys lib failing items =
    by_its_own (fold (after_entry lib) (nothing_yet failing) (entries_in items)) (fold (after_item lib) (nothing_yet failing) items)
    (items_differ lib items (nothing_yet failing) (nothing_yet failing) (λ q. [], refl))
