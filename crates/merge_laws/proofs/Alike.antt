-- States that one process cannot tell apart: they differ in what others touched.
use Rattle.std.proofs.Common.{◌≡◌, ℕ, ◌==◌, Bool, true, false, if◌then◌else◌, List, [], ◌∷◌, ◌++◌, filter, fold, refl, sym, ◌∙◌, ap, subst, eqb-true, eq-eqb, ne_eqb, true≢false}
use Rattle.load_model.specs.declared.commands.Place.{Place}
use Rattle.load_model.specs.declared.commands.Command.{Command}
use Rattle.load_model.specs.declared.commands.Command.TheVariants as commands
use Rattle.load_model.specs.declared.commands.Reply.{Reply}
use Rattle.load_model.specs.declared.commands.Reply.TheVariants as replies
use Rattle.load_model.specs.declared.deeds.Deed.{Deed}
use Rattle.load_model.specs.declared.deeds.Deed.TheVariants as deeds
use Rattle.load_model.specs.Modules.{Library, Held}
use Rattle.load_model.specs.State.{PageOf, Failing, Eager, nothing_yet, with_process, serial_of}
use Rattle.load_model.specs.Leaving.{freeing, exiting}
use Rattle.load_model.specs.Memory.{touching}
use Rattle.load_model.specs.Refusals.{residence_named}
use Rattle.load_model.specs.Asks.{after_deed}
use Rattle.load_model.specs.Step.{serial_named, answer_of, after_touch, after_steady}
use Rattle.load_model.specs.Accepted.{retouched}
use Rattle.load_model.specs.Touched.{SamePages}
use Rattle.load_model.specs.TouchedPages.{has_page, pages_kept, touched_after}
use Rattle.load_model.proofs.Touched.{named_apart, answered_by_pages, entries_move_touched}
use Rattle.session_model.specs.declared.sessions.Line.{Line}
use Rattle.session_model.specs.Merging.{Item, entry, line, after_item, state_after_items}
use Rattle.session_model.specs.MergeLaws.{touched_in}
use Rattle.merge_laws.specs.PageStates.{pages_at}

-- what a process can see of items: the entries, and its own lines
abbrev pub keeps : ℕ → Item → Bool
keeps pid (entry x) = true
keeps pid (line other l) = other == pid

abbrev pub seen_by : ℕ → List Item → List Item
seen_by pid items = filter (keeps pid) items

-- the second state is the first, in which others touched otherwise
pub record SameFor (pid : ℕ) (e f : Eager) : Type 0 where
  pub touched : ℕ → List PageOf
  pub own : touched pid ≡ (e.processes pid).touched
  pub is : f ≡ retouched touched e

-- ---- entries

-- what it touched after an entry follows from what it touched before
after_by_own : (lib : Library) (e : Eager) (q : ℕ) (d : Deed) (a b : ℕ → List PageOf) (pid : ℕ) → a pid ≡ b pid →
    touched_after lib e q d a pid ≡ touched_after lib e q d b pid
after_by_own lib e q (deeds.Free m calls gone) a b pid same = ap (λ ts. if pid == q then pages_kept lib e (freeing m (e.processes q)) ts else ts) same
after_by_own lib e q (deeds.Exit calls gone) a b pid same = ap (λ ts. if pid == q then pages_kept lib e (exiting (e.processes q)) ts else ts) same
after_by_own lib e q (deeds.Enter how m fresh calls) a b pid same = same
after_by_own lib e q (deeds.Full how m of object size) a b pid same = same
after_by_own lib e q (deeds.Failed how m by fresh calls gone) a b pid same = same
after_by_own lib e q (deeds.Fault serial m p) a b pid same = same
after_by_own lib e q (deeds.Write serial m object offset bytes) a b pid same = same
after_by_own lib e q (deeds.Debug serial m object offset bytes) a b pid same = same
after_by_own lib e q (deeds.Shared serial m object offset bytes) a b pid same = same

-- an entry of any process takes two such states to two such states
deed_alike : (lib : Library) (pid q : ℕ) (d : Deed) (e f : Eager) → SameFor pid e f → SameFor pid (after_deed lib e q d) (after_deed lib f q d)
deed_alike lib pid q d e f s = record {
  touched = touched_after lib e q d s.touched;
  own = after_by_own lib e q d s.touched (touched_in e) pid s.own ∙ sym (ap (λ (g : Eager). (g.processes pid).touched) (entries_move_touched lib e (touched_in e) q d));
  is = ap (λ g. after_deed lib g q d) s.is ∙ entries_move_touched lib e s.touched q d;
}

-- ---- lines

-- what is touched after an accepted touch
abbrev pub touched_more : ℕ → ℕ → Place → (ℕ → List PageOf) → ℕ → List PageOf
touched_more pid serial at touched q = if q == pid then touched q ++ pages_at serial at else touched q

pub touch_moves : (lib : Library) (e : Eager) (touched : ℕ → List PageOf) (pid : ℕ) (at : Place) →
    after_touch lib (retouched touched e) pid at ≡ retouched (touched_more pid (serial_named lib e pid at) at touched) e
unfolding with_process
touch_moves lib e touched pid at =
    (λ i. record { residences = e.residences; serials = e.serials; failing = e.failing; processes = λ q. one (serial_named lib (retouched touched e) pid at) q (q == pid) refl i })
    ∙ ap (λ r. retouched (touched_more pid (serial_of r) at touched) e) (named_apart lib e touched pid at.«module»)
  where
    one : (serial q : ℕ) (b : Bool) → (q == pid) ≡ b →
        (if b then touching serial at.object at.offset at.len (record (e.processes pid) { touched = touched pid }) else record (e.processes q) { touched = touched q }) ≡
        record (e.processes q) { touched = if b then touched q ++ pages_at serial at else touched q }
    one serial q true is = ap (λ k. record (e.processes k) { touched = touched k ++ pages_at serial at }) (sym (eqb-true q pid is))
    one serial q false is = refl

touch_mine : (lib : Library) (pid : ℕ) (e f : Eager) (at : Place) → SameFor pid e f → SameFor pid (after_touch lib e pid at) (after_touch lib f pid at)
touch_mine lib pid e f at s =
    let more : (ℕ → List PageOf) → ℕ → List PageOf = touched_more pid (serial_named lib e pid at) at in
    let here : after_touch lib e pid at ≡ retouched (more (touched_in e)) e = touch_moves lib e (touched_in e) pid at in
    record {
      touched = more s.touched;
      own = ap (λ ts. if pid == pid then ts ++ pages_at (serial_named lib e pid at) at else ts) s.own ∙ sym (ap (λ (g : Eager). (g.processes pid).touched) here);
      is = ap (λ g. after_touch lib g pid at) s.is ∙ touch_moves lib e s.touched pid at ∙ sym (ap (retouched (more s.touched)) here);
    }

line_mine : (lib : Library) (pid : ℕ) (e f : Eager) (c : Command) (r : Reply) → SameFor pid e f → SameFor pid (after_steady lib e pid c r) (after_steady lib f pid c r)
unfolding after_steady
line_mine lib pid e f (commands.Touch at) replies.Fine s = touch_mine lib pid e f at s
line_mine lib pid e f c r s = s

-- another's line changes what that process touched alone
line_other : (lib : Library) (pid q : ℕ) (e f : Eager) (c : Command) (r : Reply) → (pid == q) ≡ false → SameFor pid e f → SameFor pid e (after_steady lib f q c r)
unfolding after_steady
line_other lib pid q e f (commands.Touch at) replies.Fine apart s = record {
  touched = touched_more q (serial_named lib e q at) at s.touched;
  own = ap (λ b. if b then s.touched pid ++ pages_at (serial_named lib e q at) at else s.touched pid) apart ∙ s.own;
  is = ap (λ g. after_touch lib g q at) s.is ∙ touch_moves lib e s.touched q at;
}
line_other lib pid q e f c r apart s = s

-- ---- items

pub flip : (q pid : ℕ) → (q == pid) ≡ false → (pid == q) ≡ false
flip q pid h = ne_eqb pid q (λ e. true≢false (sym (eq-eqb q pid (sym e)) ∙ h))

line_step : (lib : Library) (pid q : ℕ) (l : Line) (items : List Item) (e f : Eager) → SameFor pid e f →
    ((a b : Eager) → SameFor pid a b → SameFor pid (fold (after_item lib) a (seen_by pid items)) (fold (after_item lib) b items)) → (b : Bool) → (q == pid) ≡ b →
    SameFor pid (fold (after_item lib) e (if b then line q l ∷ seen_by pid items else seen_by pid items)) (fold (after_item lib) (after_steady lib f q l.command l.reply) items)
line_step lib pid q l items e f s on true is =
    on (after_steady lib e q l.command l.reply) (after_steady lib f q l.command l.reply)
    (subst (λ (k : ℕ). SameFor pid (after_steady lib e k l.command l.reply) (after_steady lib f k l.command l.reply)) (sym (eqb-true q pid is)) (line_mine lib pid e f l.command l.reply s))
line_step lib pid q l items e f s on false is = on e (after_steady lib f q l.command l.reply) (line_other lib pid q e f l.command l.reply (flip q pid is) s)

-- along items, what the process can see of them takes it to a state that it cannot tell apart
items_alike : (lib : Library) (pid : ℕ) (items : List Item) (e f : Eager) → SameFor pid e f →
    SameFor pid (fold (after_item lib) e (seen_by pid items)) (fold (after_item lib) f items)
items_alike lib pid [] e f s = s
items_alike lib pid (entry x ∷ items) e f s = items_alike lib pid items (after_deed lib e x.pid x.deed) (after_deed lib f x.pid x.deed) (deed_alike lib pid x.pid x.deed e f s)
items_alike lib pid (line q l ∷ items) e f s = line_step lib pid q l items e f s (λ a b t. items_alike lib pid items a b t) (q == pid) refl

pub states_alike : (lib : Library) (failing : Failing) (pid : ℕ) (items : List Item) →
    SameFor pid (state_after_items lib failing (seen_by pid items)) (state_after_items lib failing items)
unfolding state_after_items
states_alike lib failing pid items =
    items_alike lib pid items (nothing_yet failing) (nothing_yet failing) (record { touched = λ q. []; own = refl; is = refl })

-- ---- answers

pub same_pages : (a b : List PageOf) → a ≡ b → SamePages a b
same_pages a b same serial q = ap (λ ts. has_page ts serial q) same

pub answer_alike : (lib : Library) (contents : Held) (pid : ℕ) (e f : Eager) (c : Command) → SameFor pid e f →
    answer_of lib contents f pid c ≡ answer_of lib contents e pid c
answer_alike lib contents pid e f c s =
    ap (λ g. answer_of lib contents g pid c) s.is ∙ (answered_by_pages lib contents e s.touched (touched_in e) pid c (same_pages (s.touched pid) (touched_in e pid) s.own)).1

pub named_alike : (lib : Library) (pid : ℕ) (e f : Eager) (name : List ℕ) → SameFor pid e f → residence_named lib f pid name ≡ residence_named lib e pid name
named_alike lib pid e f name s = ap (λ g. residence_named lib g pid name) s.is ∙ named_apart lib e s.touched pid name
