-- Which pages a process has mapped, item by item.
use Rattle.std.proofs.Common.{◌≡◌, ◌⊎◌, inl, inr, ℕ, ◌==◌, ◌&&◌, ◌||◌, Bool, true, false, not, if◌then◌else◌, List, [], ◌∷◌, ◌++◌, map, find, Option, Some, None, refl, sym, ◌∙◌, ap, subst, eqb-true, eq-eqb, true≢false, append-nil}
use Rattle.std.proofs.lemmas.List.Folds.{list_any-append}
use Rattle.std.proofs.lemmas.List.Sums.{fold-append}
use Rattle.lx_types.specs.declared.object.PageId.{PageId}
use Rattle.load_model.specs.declared.commands.Place.{Place}
use Rattle.load_model.specs.declared.commands.Command.{Command}
use Rattle.load_model.specs.declared.commands.Command.TheVariants as commands
use Rattle.load_model.specs.declared.commands.Reply.{Reply}
use Rattle.load_model.specs.declared.commands.Reply.TheVariants as replies
use Rattle.load_model.specs.declared.deeds.Deed.{Deed}
use Rattle.load_model.specs.declared.deeds.Deed.TheVariants as deeds
use Rattle.load_model.specs.declared.deeds.Entry.{Entry}
use Rattle.load_model.specs.Modules.{Library, number_of}
use Rattle.load_model.specs.State.{pids, PageOf, Residence, Process, Eager, is_among, reaches, residence_of, attached_residence, nothing_yet, serial_of}
use Rattle.load_model.specs.Leaving.{freeing, exiting}
use Rattle.load_model.specs.Memory.{is_page, page, pages_over}
use Rattle.load_model.specs.Refusals.{residence_named, residence_if}
use Rattle.load_model.specs.Asks.{after_deed}
use Rattle.load_model.specs.Step.{serial_named}
use Rattle.load_model.specs.Histories.{state_after, after_entry}
use Rattle.load_model.specs.Laws.{unwritten_of}
use Rattle.load_model.specs.Alike.{Alike, OthersLeaveAlike}
use Rattle.load_model.specs.TouchedPages.{has_page, pages_kept, touched_after}
use Rattle.load_model.proofs.Bools.{and_left, and_right, and_false}
use Rattle.load_model.proofs.Touched.{named_apart}
use Rattle.load_model.proofs.Growing.{one_more_is_after}
use Rattle.session_model.specs.Merging.{Item, entry, line, after_item, state_after_items, is_command_of, is_fault, is_first_touch, touches, some_touches, fault_leads}
use Rattle.session_model.specs.MergeLaws.{entries_in, touched_in}
use Rattle.session_model.proofs.MergeStates.{entries_append, states_are_the_historys}
use Rattle.merge_laws.specs.OwnStates.{pages_after_line}
use Rattle.merge_laws.specs.PageStates.{pages_at}
use Rattle.check_model.specs.Checks.{Judge, state_at, process_of}
use Rattle.check_core.specs.PlaceStates.{history_state, HasTouchedAt, TouchedByItems}
use Rattle.play_laws.specs.MappedPages.{HasMapped, accepted_in, accepted_touch, FollowsHistory, NothingMapped, MappedIsTouched, MappedAfterEntry, MappedAfterLine, MappedAfterTouch, MappedAfterFault, MappedAfterOthers}

-- ---- where what is mapped is what is touched

both_so : (a b : Bool) → (a ≡ true → b ≡ true) → (b ≡ true → a ≡ true) → a ≡ b
both_so true true there back = refl
both_so false false there back = refl
both_so true false there back = sym (there refl)
both_so false true there back = back refl

pub settled : (j : Judge) (before after : List Item) (pid : ℕ) (pages : List PageOf) → HasTouchedAt j before pid pages → HasMapped j before after pid pages
settled j before after pid pages has = record {
  touched = λ serial p is. sym (has serial p) ∙ is;
  mapped = λ serial p is. inl (has serial p ∙ is);
}

pub nothing_mapped : TouchedByItems → NothingMapped
nothing_mapped items j pid after = settled j [] after pid [] (items.nothing j pid)

no_first : (lib : Library) (e : Eager) (pid serial : ℕ) (p : PageId) (c : Command) (r : Reply) → accepted_in c r ≡ None → is_first_touch lib e pid serial p c r ≡ false
no_first lib e pid serial p (commands.Touch at) replies.Fine none = cc
no_first lib e pid serial p c r none = refl

not_touching : (lib : Library) (e : Eager) (serial : ℕ) (p : PageId) (item : Item) → accepted_touch item ≡ None → touches lib e serial p item ≡ false
not_touching lib e serial p (entry x) none = refl
not_touching lib e serial p (line q l) none = no_first lib e q serial p l.command l.reply none

found_first : (pid : ℕ) (item : Item) (after : List Item) → is_command_of pid item ≡ true → find (is_command_of pid) (item ∷ after) ≡ Some item
found_first pid item after own = ap (λ b. if b then Some item else find (is_command_of pid) after) own

pub mapped_is_touched : MappedIsTouched
mapped_is_touched j before after item pid pages own none has serial p =
    both_so _ _ (has.touched serial p) (λ is. at_once (has.mapped serial p is))
  where
    at_once : (has_page (touched_in (state_at j before) pid) serial p ≡ true) ⊎ (some_touches j.lib (state_at j before) serial p (find (is_command_of pid) (item ∷ after)) ≡ true) →
        has_page (touched_in (state_at j before) pid) serial p ≡ true
    at_once (inl is) = is
    at_once (inr next) =
        absurd (true≢false (sym next
        ∙ (ap (some_touches j.lib (state_at j before) serial p) (found_first pid item after own) ∙ not_touching j.lib (state_at j before) serial p item none)))

-- ---- an item of its own

pub mapped_after_entry : TouchedByItems → MappedAfterEntry
mapped_after_entry items j before after x pages has =
    settled j (before ++ entry x ∷ []) after x.pid (touched_after j.lib (history_state j before) x.pid x.deed (λ q. pages) x.pid) (items.by_entry j before x.pid pages x has)

same_after : (lib : Library) (e : Eager) (pid : ℕ) (c : Command) (r : Reply) (pages : List PageOf) → accepted_in c r ≡ None → pages_after_line lib e pid c r pages ≡ pages
same_after lib e pid (commands.Touch at) replies.Fine pages none = cc
same_after lib e pid c r pages none = refl

pub mapped_after_line : TouchedByItems → MappedAfterLine
mapped_after_line items j before after pid l pages none has =
    settled j (before ++ line pid l ∷ []) after pid pages
    (subst (HasTouchedAt j (before ++ line pid l ∷ []) pid) (same_after j.lib (history_state j before) pid l.command l.reply pages none) (items.by_line j before pid pages l has))

-- ---- an accepted touch

is_accepted : (c : Command) (r : Reply) (at : Place) → accepted_in c r ≡ Some at → (c ≡ commands.Touch at) × (r ≡ replies.Fine)
is_accepted (commands.Touch at) replies.Fine other is = (let same : at ≡ other = cc in (ap commands.Touch same, refl))
is_accepted c r at is = cc

named_at : (j : Judge) (before : List Item) (pid : ℕ) (at : Place) → serial_named j.lib (state_at j before) pid at ≡ serial_named j.lib (history_state j before) pid at
named_at j before pid at =
    ap (λ g. serial_named j.lib g pid at) (states_are_the_historys j.lib j.failing before)
    ∙ ap serial_of (named_apart j.lib (history_state j before) (touched_in (state_at j before)) pid at.«module»)

among_place : (serial other object : ℕ) (ns : List ℕ) (p : PageId) → (serial == other) ≡ true → (object == p.object) ≡ true → is_among ns p.page ≡ true →
    has_page (map (λ n. record { serial = serial; page = page object n }) ns) other p ≡ true
among_place serial other object [] p s o among = cc
among_place serial other object (n ∷ ns) p s o among = step (n == p.page) refl among (among_place serial other object ns p s o)
  where
    rest : Bool
    rest = has_page (map (λ k. record { serial = serial; page = page object k }) ns) other p

    step : (b : Bool) → (n == p.page) ≡ b → (n == p.page) || is_among ns p.page ≡ true → (is_among ns p.page ≡ true → rest ≡ true) →
        ((serial == other) && ((object == p.object) && (n == p.page))) || rest ≡ true
    step true is found later = ap (λ c. (c && ((object == p.object) && (n == p.page))) || rest) s ∙ (ap (λ c. (c && (n == p.page)) || rest) o ∙ ap (λ c. c || rest) is)
    step false is found later =
        let there : rest ≡ true = later (sym (ap (λ c. c || is_among ns p.page) is) ∙ found) in
        ap (λ c. ((serial == other) && ((object == p.object) && (n == p.page))) || c) there ∙ or_right ((serial == other) && ((object == p.object) && (n == p.page)))
      where
        or_right : (c : Bool) → c || true ≡ true
        or_right true = refl
        or_right false = refl

-- a page that an accepted touch touches first is one of its place
first_is_there : (lib : Library) (e : Eager) (pid serial : ℕ) (p : PageId) (at : Place) → is_first_touch lib e pid serial p (commands.Touch at) replies.Fine ≡ true →
    has_page (pages_at (serial_named lib e pid at) at) serial p ≡ true
first_is_there lib e pid serial p at is =
    let number : Bool = serial_named lib e pid at == serial in
    let object : Bool = at.object == p.object in
    let covered : Bool = is_among (pages_over at.offset at.len) p.page in
    let three : number && object && covered ≡ true = and_left (number && object && covered) (not (has_page (touched_in e pid) serial p)) is in
    let two : number && object ≡ true = and_left (number && object) covered three in
    among_place (serial_named lib e pid at) serial at.object (pages_over at.offset at.len) p
    (and_left number object two) (and_right number object two) (and_right (number && object) covered three)

pub mapped_after_touch : TouchedByItems → MappedAfterTouch
mapped_after_touch items j before after pid l at pages more accepted has same =
    settled j (before ++ line pid l ∷ []) after pid more touched_then
  where
    e : Eager
    e = state_at j before

    mine : List PageOf
    mine = touched_in e pid

    place : List PageOf
    place = pages_at (serial_named j.lib (history_state j before) pid at) at

    is_touch : (l.command ≡ commands.Touch at) × (l.reply ≡ replies.Fine)
    is_touch = is_accepted l.command l.reply at accepted

    own : is_command_of pid (line pid l) ≡ true
    own = eq-eqb pid pid refl

    here : (serial : ℕ) (p : PageId) → some_touches j.lib e serial p (find (is_command_of pid) (line pid l ∷ after)) ≡ true → has_page place serial p ≡ true
    here serial p next =
        let now : is_first_touch j.lib e pid serial p l.command l.reply ≡ true = sym (ap (some_touches j.lib e serial p) (found_first pid (line pid l) after own)) ∙ next in
        let it : is_first_touch j.lib e pid serial p (commands.Touch at) replies.Fine ≡ true =
        sym (ap (λ (c : Command). is_first_touch j.lib e pid serial p c l.reply) is_touch.0 ∙ ap (λ (r : Reply). is_first_touch j.lib e pid serial p (commands.Touch at) r) is_touch.1) ∙ now in
        ap (λ (n : ℕ). has_page (pages_at n at) serial p) (sym (named_at j before pid at)) ∙ first_is_there j.lib e pid serial p at it

    joined : (serial : ℕ) (p : PageId) → has_page (mine ++ place) serial p ≡ has_page (pages ++ place) serial p
    joined serial p =
        let test : PageOf → Bool = λ t. (t.serial == serial) && is_page t.page p in
        list_any-append test mine place ∙ (or_alike (has_page mine serial p) (has_page pages serial p) (has_page place serial p) (has.touched serial p)
        (λ is. back serial p (has.mapped serial p is)) ∙ sym (list_any-append test pages place))
      where
        back : (serial : ℕ) (p : PageId) → (has_page mine serial p ≡ true) ⊎ (some_touches j.lib e serial p (find (is_command_of pid) (line pid l ∷ after)) ≡ true) →
            (has_page mine serial p ≡ true) ⊎ (has_page place serial p ≡ true)
        back serial p (inl is) = inl is
        back serial p (inr next) = inr (here serial p next)

        or_alike : (a b c : Bool) → (a ≡ true → b ≡ true) → (b ≡ true → (a ≡ true) ⊎ (c ≡ true)) → a || c ≡ b || c
        or_alike true true c there back = refl
        or_alike true false c there back = absurd (true≢false (sym (there refl)))
        or_alike false false c there back = refl
        or_alike false true c there back = by_other (back refl)
          where
            by_other : (false ≡ true) ⊎ (c ≡ true) → c ≡ true
            by_other (inl bad) = absurd (true≢false (sym bad))
            by_other (inr is) = is

    after_line : HasTouchedAt j (before ++ line pid l ∷ []) pid (mine ++ place)
    after_line =
        subst (λ (ts : List PageOf). HasTouchedAt j (before ++ line pid l ∷ []) pid ts)
        (ap (λ (c : Command). pages_after_line j.lib (history_state j before) pid c l.reply mine) is_touch.0
        ∙ ap (λ (r : Reply). pages_after_line j.lib (history_state j before) pid (commands.Touch at) r mine) is_touch.1)
        (items.by_line j before pid mine l (λ serial p. refl))

    touched_then : HasTouchedAt j (before ++ line pid l ∷ []) pid more
    touched_then serial p = after_line serial p ∙ (joined serial p ∙ sym (same serial p))

-- ---- a fault

state_end : (j : Judge) (before : List Item) (z : Item) → state_at j (before ++ z ∷ []) ≡ after_item j.lib (state_at j before) z
unfolding state_after_items
state_end j before z = fold-append (after_item j.lib) (nothing_yet j.failing) before (z ∷ [])

after_fault : (lib : Library) (e : Eager) (pid serial m : ℕ) (p : PageId) → after_deed lib e pid (deeds.Fault serial m p) ≡ e
unfolding after_deed
after_fault lib e pid serial m p = refl

state_after_fault : (j : Judge) (before : List Item) (x : Entry) (serial m : ℕ) (p : PageId) → x.deed ≡ deeds.Fault serial m p → state_at j (before ++ entry x ∷ []) ≡ state_at j before
state_after_fault j before x serial m p is =
    state_end j before (entry x) ∙ (ap (after_deed j.lib (state_at j before) x.pid) is ∙ after_fault j.lib (state_at j before) x.pid serial m p)

fault_passed : (pid : ℕ) (x : Entry) (serial m : ℕ) (p : PageId) (after : List Item) → x.deed ≡ deeds.Fault serial m p → find (is_command_of pid) (entry x ∷ after) ≡ find (is_command_of pid) after
fault_passed pid x serial m p after is =
    ap (λ (d : Deed). if (x.pid == pid) && not (is_fault d) then Some (entry x) else find (is_command_of pid) after) is
    ∙ ap (λ b. if b then Some (entry x) else find (is_command_of pid) after) (and_false (x.pid == pid))

page_alone : (a b : PageId) → is_page a b ≡ true → a ≡ b
page_alone a b is = λ i. record {
  object = eqb-true a.object b.object (and_left (a.object == b.object) (a.page == b.page) is) i;
  page = eqb-true a.page b.page (and_right (a.object == b.object) (a.page == b.page) is) i;
}

pub mapped_after_fault : MappedAfterFault
mapped_after_fault j before after x serial m p pages is leads has = record {
  touched = λ s q touched.
      list_any-append (test s q) pages (mine ∷ [])
      ∙ left_there (has_page pages s q) (test s q mine || false) (has.touched s q (sym (ap (λ g. has_page (touched_in g x.pid) s q) state) ∙ touched));
  mapped = λ s q mapped. by_page s q (has_page pages s q) refl (test s q mine) refl (sym (list_any-append (test s q) pages (mine ∷ [])) ∙ mapped);
}
  where
    mine : PageOf
    mine = record { serial = serial; page = p }

    test : ℕ → PageId → PageOf → Bool
    test s q t = (t.serial == s) && is_page t.page q

    state : state_at j (before ++ entry x ∷ []) ≡ state_at j before
    state = state_after_fault j before x serial m p is

    left_there : (a b : Bool) → a ≡ true → a || b ≡ true
    left_there true b e = refl
    left_there false b e = cc

    Next : ℕ → PageId → List Item → Type 0
    Next s q items = some_touches j.lib (state_at j before) s q (find (is_command_of x.pid) items) ≡ true

    this_page : Next serial p after
    this_page = sym (ap (λ (d : Deed). fault_leads j.lib (state_at j before) x.pid d after) is) ∙ leads

    moved : (s : ℕ) (q : PageId) → (has_page (touched_in (state_at j before) x.pid) s q ≡ true) ⊎ Next s q after →
        (has_page (touched_in (state_at j (before ++ entry x ∷ [])) x.pid) s q ≡ true)
        ⊎ (some_touches j.lib (state_at j (before ++ entry x ∷ [])) s q (find (is_command_of x.pid) after) ≡ true)
    moved s q (inl h) = inl (ap (λ g. has_page (touched_in g x.pid) s q) state ∙ h)
    moved s q (inr h) = inr (ap (λ g. some_touches j.lib g s q (find (is_command_of x.pid) after)) state ∙ h)

    passed : (s : ℕ) (q : PageId) → (has_page (touched_in (state_at j before) x.pid) s q ≡ true) ⊎ Next s q (entry x ∷ after) →
        (has_page (touched_in (state_at j before) x.pid) s q ≡ true) ⊎ Next s q after
    passed s q (inl h) = inl h
    passed s q (inr h) = inr (sym (ap (some_touches j.lib (state_at j before) s q) (fault_passed x.pid x serial m p after is)) ∙ h)

    by_page : (s : ℕ) (q : PageId) (a : Bool) → has_page pages s q ≡ a → (b : Bool) → test s q mine ≡ b → has_page pages s q || (test s q mine || false) ≡ true →
        (has_page (touched_in (state_at j (before ++ entry x ∷ [])) x.pid) s q ≡ true)
        ⊎ (some_touches j.lib (state_at j (before ++ entry x ∷ [])) s q (find (is_command_of x.pid) after) ≡ true)
    by_page s q true there b one any = moved s q (passed s q (has.mapped s q there))
    by_page s q false away true one any =
        let number : serial ≡ s = eqb-true serial s (and_left (serial == s) (is_page p q) one) in
        let page_is : p ≡ q = page_alone p q (and_right (serial == s) (is_page p q) one) in
        moved s q (inr (subst (λ (n : ℕ). Next n q after) number (subst (λ (r : PageId). Next serial r after) page_is this_page)))
    by_page s q false away false one any =
        absurd (true≢false (sym any ∙ (ap (λ a. a || (test s q mine || false)) away ∙ ap (λ b. b || false) one)))

-- ---- items of others

other_command : (pid : ℕ) (item : Item) → (pid == process_of item) ≡ false → is_command_of pid item ≡ false
other_command pid (entry x) apart = ap (λ b. b && not (is_fault x.deed)) (flipped pid x.pid apart)
  where
    flipped : (a b : ℕ) → (a == b) ≡ false → (b == a) ≡ false
    flipped a b e = step (b == a) refl
      where
        step : (c : Bool) → (b == a) ≡ c → (b == a) ≡ false
        step false is = is
        step true is = absurd (true≢false (sym (eq-eqb a b (sym (eqb-true b a is))) ∙ e))
other_command pid (line q l) apart = flipped pid q apart
  where
    flipped : (a b : ℕ) → (a == b) ≡ false → (b == a) ≡ false
    flipped a b e = step (b == a) refl
      where
        step : (c : Bool) → (b == a) ≡ c → (b == a) ≡ false
        step false is = is
        step true is = absurd (true≢false (sym (eq-eqb a b (sym (eqb-true b a is))) ∙ e))

other_passed : (pid : ℕ) (item : Item) (after : List Item) → (pid == process_of item) ≡ false → find (is_command_of pid) (item ∷ after) ≡ find (is_command_of pid) after
other_passed pid item after apart = ap (λ b. if b then Some item else find (is_command_of pid) after) (other_command pid item apart)

others_keep : (lib : Library) (e : Eager) (q : ℕ) (d : Deed) (pages : List PageOf) (pid : ℕ) → (pid == q) ≡ false → touched_after lib e q d (λ k. pages) pid ≡ pages
others_keep lib e q (deeds.Free m calls gone) pages pid apart = ap (λ b. if b then pages_kept lib e (freeing m (e.processes q)) pages else pages) apart
others_keep lib e q (deeds.Exit calls gone) pages pid apart = ap (λ b. if b then pages_kept lib e (exiting (e.processes q)) pages else pages) apart
others_keep lib e q (deeds.Enter how m fresh calls) pages pid apart = refl
others_keep lib e q (deeds.Full how m of object size) pages pid apart = refl
others_keep lib e q (deeds.Failed how m by fresh calls gone) pages pid apart = refl
others_keep lib e q (deeds.Fault serial m p) pages pid apart = refl
others_keep lib e q (deeds.Write serial m object offset bytes) pages pid apart = refl
others_keep lib e q (deeds.Debug serial m object offset bytes) pages pid apart = refl
others_keep lib e q (deeds.Shared serial m object offset bytes) pages pid apart = refl

-- it has touched the same
touched_still : TouchedByItems → (j : Judge) (before : List Item) (item : Item) (pid : ℕ) → (pid == process_of item) ≡ false →
    HasTouchedAt j (before ++ item ∷ []) pid (touched_in (state_at j before) pid)
touched_still items j before (entry x) pid apart =
    subst (HasTouchedAt j (before ++ entry x ∷ []) pid) (others_keep j.lib (history_state j before) x.pid x.deed (touched_in (state_at j before) pid) pid apart)
    (items.by_entry j before pid (touched_in (state_at j before) pid) x (λ serial p. refl))
touched_still items j before (line q l) pid apart = items.by_other j before pid q (touched_in (state_at j before) pid) l apart (λ serial p. refl)

serial_bare : (o : Option Residence) → serial_of (unwritten_of o) ≡ serial_of o
serial_bare None = refl
serial_bare (Some r) = refl

reached_alike : (lib : Library) (e after : Eager) (pid m : ℕ) → Alike lib e after pid → serial_of (attached_residence lib after pid m) ≡ serial_of (attached_residence lib e pid m)
unfolding attached_residence
reached_alike lib e after pid m alike =
    ap (λ (p : Process). serial_of (if reaches lib p m then residence_of after m else None)) alike.process ∙ step (reaches lib (e.processes pid) m) refl
  where
    step : (b : Bool) → reaches lib (e.processes pid) m ≡ b →
        serial_of (if reaches lib (e.processes pid) m then residence_of after m else None) ≡ serial_of (if reaches lib (e.processes pid) m then residence_of e m else None)
    step true is =
        ap (λ b. serial_of (if b then residence_of after m else None)) is
        ∙ (sym (serial_bare (residence_of after m)) ∙ (ap serial_of (alike.residences m is) ∙ serial_bare (residence_of e m))
        ∙ sym (ap (λ b. serial_of (if b then residence_of e m else None)) is))
    step false is =
        ap (λ b. serial_of (if b then residence_of after m else None)) is ∙ sym (ap (λ b. serial_of (if b then residence_of e m else None)) is)

named_alike : (lib : Library) (e after : Eager) (pid : ℕ) (at : Place) → Alike lib e after pid → serial_named lib after pid at ≡ serial_named lib e pid at
unfolding residence_named
named_alike lib e after pid at alike = by_number (number_of lib at.«module»)
  where
    by_number : (o : Option ℕ) → serial_of (residence_if lib after pid o) ≡ serial_of (residence_if lib e pid o)
    by_number None = refl
    by_number (Some m) = reached_alike lib e after pid m alike

history_more : (j : Judge) (before : List Item) (x : Entry) → history_state j (before ++ entry x ∷ []) ≡ after_entry j.lib (history_state j before) x
history_more j before x = ap (state_after j.lib j.failing) (entries_append before (entry x ∷ [])) ∙ one_more_is_after j.lib j.failing (entries_in before) x

named_still : OthersLeaveAlike → (j : Judge) (before : List Item) (item : Item) (pid : ℕ) (at : Place) → is_among pids pid ≡ true → (pid == process_of item) ≡ false →
    FollowsHistory j before item → serial_named j.lib (history_state j (before ++ item ∷ [])) pid at ≡ serial_named j.lib (history_state j before) pid at
named_still others j before (entry x) pid at there apart follows =
    ap (λ g. serial_named j.lib g pid at) (history_more j before x)
    ∙ named_alike j.lib (history_state j before) (after_entry j.lib (history_state j before) x) pid at
    (others j.lib j.failing j.contents (entries_in before) x pid follows.0 follows.1 there apart)
named_still others j before (line q l) pid at there apart follows =
    ap (λ h. serial_named j.lib (state_after j.lib j.failing h) pid at) (entries_append before (line q l ∷ []) ∙ append-nil (entries_in before))

-- the pages that a touch of the process touches first are the same
first_still : TouchedByItems → OthersLeaveAlike → (j : Judge) (before : List Item) (item : Item) (pid : ℕ) → is_among pids pid ≡ true → (pid == process_of item) ≡ false →
    FollowsHistory j before item → (serial : ℕ) (p : PageId) (c : Command) (r : Reply) →
    is_first_touch j.lib (state_at j (before ++ item ∷ [])) pid serial p c r ≡ is_first_touch j.lib (state_at j before) pid serial p c r
first_still items others j before item pid there apart follows serial p (commands.Touch at) replies.Fine =
    ap (λ (n : ℕ). (n == serial) && (at.object == p.object) && is_among (pages_over at.offset at.len) p.page && not (has_page (touched_in (state_at j (before ++ item ∷ [])) pid) serial p))
    (named_at j (before ++ item ∷ []) pid at ∙ (named_still others j before item pid at there apart follows ∙ sym (named_at j before pid at)))
    ∙ ap (λ b. (serial_named j.lib (state_at j before) pid at == serial) && (at.object == p.object) && is_among (pages_over at.offset at.len) p.page && not b)
    (touched_still items j before item pid apart serial p)
first_still items others j before item pid there apart follows serial p c r = refl

of_process : (pid : ℕ) (items : List Item) (item : Item) → find (is_command_of pid) items ≡ Some item → is_command_of pid item ≡ true
of_process pid [] item is = cc
of_process pid (x ∷ items) item is = step (is_command_of pid x) refl is (of_process pid items item)
  where
    step : (b : Bool) → is_command_of pid x ≡ b → (if b then Some x else find (is_command_of pid) items) ≡ Some item →
        (find (is_command_of pid) items ≡ Some item → is_command_of pid item ≡ true) → is_command_of pid item ≡ true
    step true own found later = (let same : x ≡ item = cc in subst (λ (z : Item). is_command_of pid z ≡ true) same own)
    step false own found later = later found

next_still : TouchedByItems → OthersLeaveAlike → (j : Judge) (before : List Item) (item : Item) (pid : ℕ) → is_among pids pid ≡ true → (pid == process_of item) ≡ false →
    FollowsHistory j before item → (serial : ℕ) (p : PageId) (o : Option Item) → ((next : Item) → o ≡ Some next → is_command_of pid next ≡ true) →
    some_touches j.lib (state_at j (before ++ item ∷ [])) serial p o ≡ some_touches j.lib (state_at j before) serial p o
next_still items others j before item pid there apart follows serial p None own = refl
next_still items others j before item pid there apart follows serial p (Some (entry x)) own = refl
next_still items others j before item pid there apart follows serial p (Some (line q l)) own =
    let mine : q ≡ pid = eqb-true q pid (own (line q l) refl) in
    subst (λ (k : ℕ). is_first_touch j.lib (state_at j (before ++ item ∷ [])) k serial p l.command l.reply ≡ is_first_touch j.lib (state_at j before) k serial p l.command l.reply)
    (sym mine) (first_still items others j before item pid there apart follows serial p l.command l.reply)

pub mapped_after_others : TouchedByItems → OthersLeaveAlike → MappedAfterOthers
mapped_after_others items others j before after item pid pages there apart follows has = record {
  touched = λ serial p is. has.touched serial p (sym (touched_still items j before item pid apart serial p) ∙ is);
  mapped = λ serial p is. moved serial p (has.mapped serial p is);
}
  where
    moved : (serial : ℕ) (p : PageId) →
        (has_page (touched_in (state_at j before) pid) serial p ≡ true)
        ⊎ (some_touches j.lib (state_at j before) serial p (find (is_command_of pid) (item ∷ after)) ≡ true) →
        (has_page (touched_in (state_at j (before ++ item ∷ [])) pid) serial p ≡ true)
        ⊎ (some_touches j.lib (state_at j (before ++ item ∷ [])) serial p (find (is_command_of pid) after) ≡ true)
    moved serial p (inl is) = inl (touched_still items j before item pid apart serial p ∙ is)
    moved serial p (inr is) =
        inr (next_still items others j before item pid there apart follows serial p (find (is_command_of pid) after) (of_process pid after)
        ∙ (sym (ap (some_touches j.lib (state_at j before) serial p) (other_passed pid item after apart)) ∙ is))
