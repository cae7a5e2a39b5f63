-- Scripts have a run: the first process carries out its script, then the next one, to the last.
use Rattle.std.proofs.Common.{◌≡◌, ◌∙◌, ℕ, zero, suc, ◌+◌, ◌≤◌, ◌<◌, ◌==◌, ◌||◌, Bool, true, false, List, [], ◌∷◌, ◌++◌, length, map, Option, Some, None, refl, sym, ap, subst, append-nil, append_assoc, arith}
use Rattle.std.specs.Prelude.{slice_get}
use Rattle.std.specs.List.{AllByRecursion, range_with_len}
use Rattle.std.proofs.lemmas.Bool.{eqb-false, ne_eqb}
use Rattle.std.proofs.lemmas.Option.{same_Some}
use Rattle.lx_types.proofs.Lists.{all_joined, all_weaker}
use Rattle.lx_types.specs.declared.limits.TheConstants.{MAX_PROCESSES}
use Rattle.load_model.specs.declared.commands.Command.{Command}
use Rattle.load_model.specs.declared.commands.Command.TheVariants as commands
use Rattle.load_model.specs.declared.commands.Refusal.{Refusal}
use Rattle.load_model.specs.declared.deeds.Entry.{Entry}
use Rattle.load_model.specs.Modules.{Library, Held}
use Rattle.load_model.specs.State.{Failing, is_among, pids}
use Rattle.load_model.specs.Step.{FitsPlace}
use Rattle.load_model.specs.Histories.{Legal}
use Rattle.load_model.specs.Views.{Holding, new_holding, mapped_pages}
use Rattle.load_model.specs.ViewAnswers.{view_refusal}
use Rattle.load_model.specs.Laws.{NothingIsLegal}
use Rattle.load_model.specs.ViewLaws.{StandsOn, RefusedByView}
use Rattle.session_model.specs.declared.sessions.Line.{Line}
use Rattle.session_model.specs.declared.sessions.Script.{Script}
use Rattle.session_model.specs.declared.sessions.ScriptLines.{ScriptLines}
use Rattle.session_model.specs.Merging.{numbers_of}
use Rattle.merge_laws.specs.AccountLaws.{AccountGoesOn}
use Rattle.merge_laws.specs.OwnStates.{TouchedGoesOn}
use Rattle.script_laws.specs.Progress.{Progress, AreOthers}
use Rattle.script_laws.specs.Commands.{ProgressBegins, RefusedGoesOn, ReadGoesOn}
use Rattle.script_laws.specs.Ends.{HasCarriedOut, ScriptsAreRun, ScriptsHaveARun}
use Rattle.script_laws.proofs.OwnEntries.{EntryLaws, Next, by_entry}
use Rattle.script_laws.proofs.OwnTouch.{TouchLaws, by_touch}

pub record RunLaws : Type 0 where
  pub entries : EntryLaws
  pub touches : TouchLaws
  pub nothing : NothingIsLegal
  pub refusals : RefusedByView
  pub stands : StandsOn
  pub account : AccountGoesOn
  pub touched : TouchedGoesOn
  pub begins : ProgressBegins
  pub refused : RefusedGoesOn
  pub read : ReadGoesOn
  pub ends : ScriptsAreRun

-- ---- one command

on_line : (lib : Library) (failing : Failing) (contents : Held) (v : Holding) (h : List Entry) (lines : List Line) (done : List Command) (command : Command) →
    Progress lib failing contents v h lines (done ++ command ∷ []) → Next lib failing contents v h done command
on_line lib failing contents v h lines done command p =
    record { view = v; same = refl; whole = h; more = []; is = sym (append-nil h); own = tt; lines = lines; progress = p }

accepted : (laws : RunLaws) (lib : Library) (failing : Failing) (contents : Held) (v : Holding) (h : List Entry) (lines : List Line) (done : List Command) (command : Command) →
    FitsPlace command → view_refusal lib v command ≡ None → Progress lib failing contents v h lines done → Next lib failing contents v h done command
accepted laws lib failing contents v h lines done (commands.Start name) fits fine p =
    by_entry laws.entries lib failing contents v h lines done (commands.Start name) _ fits (laws.refusals lib failing contents v h (commands.Start name) p.stands ∙ fine) refl p
accepted laws lib failing contents v h lines done (commands.Load name) fits fine p =
    by_entry laws.entries lib failing contents v h lines done (commands.Load name) _ fits (laws.refusals lib failing contents v h (commands.Load name) p.stands ∙ fine) refl p
accepted laws lib failing contents v h lines done (commands.Free name) fits fine p =
    by_entry laws.entries lib failing contents v h lines done (commands.Free name) _ fits (laws.refusals lib failing contents v h (commands.Free name) p.stands ∙ fine) refl p
accepted laws lib failing contents v h lines done (commands.Shared at) fits fine p =
    by_entry laws.entries lib failing contents v h lines done (commands.Shared at) _ fits (laws.refusals lib failing contents v h (commands.Shared at) p.stands ∙ fine) refl p
accepted laws lib failing contents v h lines done (commands.Write at bytes) fits fine p =
    by_entry laws.entries lib failing contents v h lines done (commands.Write at bytes) _ fits (laws.refusals lib failing contents v h (commands.Write at bytes) p.stands ∙ fine) refl p
accepted laws lib failing contents v h lines done (commands.Debug at bytes) fits fine p =
    by_entry laws.entries lib failing contents v h lines done (commands.Debug at bytes) _ fits (laws.refusals lib failing contents v h (commands.Debug at bytes) p.stands ∙ fine) refl p
accepted laws lib failing contents v h lines done commands.Exit fits fine p =
    by_entry laws.entries lib failing contents v h lines done commands.Exit _ fits (laws.refusals lib failing contents v h commands.Exit p.stands ∙ fine) refl p
accepted laws lib failing contents v h lines done (commands.Touch at) fits fine p = by_touch laws.touches lib failing contents v h lines done at fine p
accepted laws lib failing contents v h lines done (commands.Peek at) fits fine p =
    on_line lib failing contents v h _ done (commands.Peek at) (laws.read lib failing contents v h lines done (commands.Peek at) _ tt fine refl p)
accepted laws lib failing contents v h lines done (commands.Query name key) fits fine p =
    on_line lib failing contents v h _ done (commands.Query name key) (laws.read lib failing contents v h lines done (commands.Query name key) _ tt fine refl p)
accepted laws lib failing contents v h lines done (commands.GetRes name ty id) fits fine p =
    on_line lib failing contents v h _ done (commands.GetRes name ty id) (laws.read lib failing contents v h lines done (commands.GetRes name ty id) _ tt fine refl p)

next : (laws : RunLaws) (lib : Library) (failing : Failing) (contents : Held) (v : Holding) (h : List Entry) (lines : List Line) (done : List Command) (command : Command) →
    FitsPlace command → Progress lib failing contents v h lines done → Next lib failing contents v h done command
next laws lib failing contents v h lines done command fits p = step (view_refusal lib v command) refl
  where
    step : (o : Option Refusal) → view_refusal lib v command ≡ o → Next lib failing contents v h done command
    step (Some refusal) is = on_line lib failing contents v h _ done command (laws.refused lib failing contents v h lines done command refusal is p)
    step None is = accepted laws lib failing contents v h lines done command fits is p

-- ---- one script

record Carried (lib : Library) (failing : Failing) (contents : Held) (pid : ℕ) (h : List Entry) (done : List Command) : Type 0 where
  view : Holding
  same : view.pid ≡ pid
  whole : List Entry
  more : List Entry
  is : whole ≡ h ++ more
  own : AllByRecursion (λ (x : Entry). x.pid ≡ pid) more
  lines : List Line
  progress : Progress lib failing contents view whole lines done

carried : (laws : RunLaws) (lib : Library) (failing : Failing) (contents : Held) (pid : ℕ) (v : Holding) (h : List Entry) (lines : List Line) (done cs : List Command) → v.pid ≡ pid →
    AllByRecursion FitsPlace cs → Progress lib failing contents v h lines done → Carried lib failing contents pid h (done ++ cs)
carried laws lib failing contents pid v h lines done [] same fits p = record {
  view = v;
  same = same;
  whole = h;
  more = [];
  is = sym (append-nil h);
  own = tt;
  lines = lines;
  progress = subst (Progress lib failing contents v h lines) (sym (append-nil done)) p;
}
carried laws lib failing contents pid v h lines done (c ∷ cs) same fits p =
    let one = next laws lib failing contents v h lines done c fits.0 p in
    let rest = carried laws lib failing contents pid one.view one.whole one.lines (done ++ c ∷ []) cs (one.same ∙ same) fits.1 one.progress in
    record {
      view = rest.view;
      same = rest.same;
      whole = rest.whole;
      more = one.more ++ rest.more;
      is = rest.is ∙ (ap (λ l. l ++ rest.more) one.is ∙ append_assoc h one.more rest.more);
      own = all_joined (λ (x : Entry). x.pid ≡ pid) one.more rest.more (all_weaker (λ (x : Entry). x.pid ≡ v.pid) (λ (x : Entry). x.pid ≡ pid) (λ x is. is ∙ same) one.more one.own) rest.own;
      lines = rest.lines;
      progress = subst (Progress lib failing contents rest.view rest.whole rest.lines) (append_assoc done (c ∷ []) cs) rest.progress;
    }

-- A process begins after a history of others.
begun : (laws : RunLaws) (lib : Library) (failing : Failing) (contents : Held) (pid : ℕ) (h : List Entry) → is_among pids pid ≡ true → Legal lib failing contents h → AreOthers pid h →
    Progress lib failing contents (record (new_holding lib pid) { front = length h }) h [] []
begun laws lib failing contents pid h there legal others =
    let p = laws.begins lib failing contents pid there in
    record {
      process = there;
      legal = legal;
      stands = laws.stands lib failing contents (new_holding lib pid) [] h there p.stands legal others;
      account = laws.account lib failing contents pid [] h [] [] others p.account;
      touched = laws.touched lib failing pid [] h [] (mapped_pages (new_holding lib pid)) p.account.fronts others p.touched;
    }

-- ---- all scripts

among_range : (a len n : ℕ) → a ≤ n → n < a + len → is_among (range_with_len a len) n ≡ true
among_range a zero n low high = absurd (omega (arith, low, high))
among_range a (suc len) n low high = step (a == n) refl (among_range (a + 1) len n)
  where
    step : (b : Bool) → (a == n) ≡ b → (a + 1 ≤ n → n < (a + 1) + len → is_among (range_with_len (a + 1) len) n ≡ true) → b || is_among (range_with_len (a + 1) len) n ≡ true
    step true is later = refl
    step false is later = let apart = eqb-false a n is in later (omega (arith, low, apart)) (omega (arith, high))

abbrev IsUpTo : ℕ → Entry → Type 0
IsUpTo n x = (1 ≤ x.pid) × (x.pid ≤ n)

abbrev IsAfter : ℕ → Entry → Type 0
IsAfter n x = n < x.pid

-- scripts of processes after the n-th one, carried out after a history of the processes up to it
record Ran (lib : Library) (failing : Failing) (contents : Held) (n : ℕ) (h : List Entry) (scripts : List Script) : Type 0 where
  whole : List Entry
  more : List Entry
  is : whole ≡ h ++ more
  legal : Legal lib failing contents whole
  within : AllByRecursion (IsUpTo (n + length scripts)) whole
  later : AllByRecursion (IsAfter n) more
  lines : List ScriptLines
  numbers : numbers_of lines ≡ map (λ (s : Script). s.pid) scripts
  each : (i : ℕ) (l : ScriptLines) (s : Script) → slice_get lines i ≡ Some l → slice_get scripts i ≡ Some s → HasCarriedOut lib failing contents (1 + (n + i)) whole l.lines s.commands

ran : (laws : RunLaws) (lib : Library) (failing : Failing) (contents : Held) (n : ℕ) (h : List Entry) (scripts : List Script) → Legal lib failing contents h →
    AllByRecursion (IsUpTo n) h → n + length scripts ≤ MAX_PROCESSES → AllByRecursion (λ (s : Script). AllByRecursion FitsPlace s.commands) scripts → Ran lib failing contents n h scripts
ran laws lib failing contents n h [] legal within few fits = record {
  whole = h;
  more = [];
  is = sym (append-nil h);
  legal = legal;
  within = subst (λ (k : ℕ). AllByRecursion (IsUpTo k) h) (nothing_more n) within;
  later = tt;
  lines = [];
  numbers = refl;
  each = λ i l s at_line at_script. no_line i l at_line;
}
  where
    nothing_more : (n : ℕ) → n ≡ n + 0
    nothing_more n = omega arith

    no_line : {X : Type 0} (i : ℕ) (l : ScriptLines) → slice_get {X = ScriptLines} [] i ≡ Some l → X
    no_line i l is = cc
ran laws lib failing contents n h (script ∷ scripts) legal within few fits =
    let pid : ℕ = n + 1 in
    let there : is_among pids pid ≡ true = among_range 1 MAX_PROCESSES pid (low n) (high n (length scripts) few) in
    let others : AreOthers pid h = all_weaker (IsUpTo n) (λ (x : Entry). (pid == x.pid) ≡ false) (λ x it. apart pid x.pid (above n x.pid it.1)) h within in
    let v : Holding = record (new_holding lib pid) { front = length h } in
    let one = carried laws lib failing contents pid v h [] [] script.commands refl fits.0 (begun laws lib failing contents pid h there legal others) in
    let up_to : AllByRecursion (IsUpTo pid) one.whole =
    subst (AllByRecursion (IsUpTo pid)) (sym one.is)
    (all_joined (IsUpTo pid) h one.more (all_weaker (IsUpTo n) (IsUpTo pid) (λ x it. (it.0, more_still n x.pid it.1)) h within)
    (all_weaker (λ (x : Entry). x.pid ≡ pid) (IsUpTo pid) (λ x is. is_it n x.pid is) one.more one.own))
    in
    let rest = ran laws lib failing contents pid one.whole scripts one.progress.legal up_to (few_still n (length scripts) few) fits.1 in
    record {
      whole = rest.whole;
      more = one.more ++ rest.more;
      is = rest.is ∙ (ap (λ l. l ++ rest.more) one.is ∙ append_assoc h one.more rest.more);
      legal = rest.legal;
      within = subst (λ (k : ℕ). AllByRecursion (IsUpTo k) rest.whole) (one_more n (length scripts)) rest.within;
      later =
          all_joined (IsAfter n) one.more rest.more (all_weaker (λ (x : Entry). x.pid ≡ pid) (IsAfter n) (λ x is. is_after n x.pid is) one.more one.own)
          (all_weaker (IsAfter pid) (IsAfter n) (λ x it. after_still n x.pid it) rest.more rest.later);
      lines = record { pid = script.pid; lines = one.lines } ∷ rest.lines;
      numbers = ap (λ (ns : List ℕ). script.pid ∷ ns) rest.numbers;
      each = λ i l s at_line at_script. of_each i l s one rest at_line at_script;
    }
  where
    low : (n : ℕ) → 1 ≤ n + 1
    low n = omega arith

    high : (n m : ℕ) → n + suc m ≤ MAX_PROCESSES → n + 1 < 1 + MAX_PROCESSES
    high n m few = omega (arith, few)

    above : (n x : ℕ) → x ≤ n → x < n + 1
    above n x h = omega (arith, h)

    apart : (a b : ℕ) → b < a → (a == b) ≡ false
    apart a b h = ne_eqb a b (λ is. absurd (omega (arith, h, is)))

    more_still : (n x : ℕ) → x ≤ n → x ≤ n + 1
    more_still n x h = omega (arith, h)

    is_it : (n x : ℕ) → x ≡ n + 1 → (1 ≤ x) × (x ≤ n + 1)
    is_it n x is = (omega (arith, is), omega (arith, is))

    few_still : (n m : ℕ) → n + suc m ≤ MAX_PROCESSES → (n + 1) + m ≤ MAX_PROCESSES
    few_still n m few = omega (arith, few)

    one_more : (n m : ℕ) → (n + 1) + m ≡ n + suc m
    one_more n m = omega arith

    is_after : (n x : ℕ) → x ≡ n + 1 → n < x
    is_after n x is = omega (arith, is)

    after_still : (n x : ℕ) → n + 1 < x → n < x
    after_still n x h = omega (arith, h)

    first_number : (n : ℕ) → n + 1 ≡ 1 + (n + 0)
    first_number n = omega arith

    next_number : (n i : ℕ) → 1 + ((n + 1) + i) ≡ 1 + (n + suc i)
    next_number n i = omega arith

    before : (n x : ℕ) → n + 1 < x → ((1 + (n + 0)) == x) ≡ false
    before n x h = ne_eqb (1 + (n + 0)) x (λ is. absurd (omega (arith, h, is)))

    of_each : (i : ℕ) (l : ScriptLines) (s : Script) → (one : Carried lib failing contents (n + 1) h script.commands) → (rest : Ran lib failing contents (n + 1) one.whole scripts) →
        slice_get (record { pid = script.pid; lines = one.lines } ∷ rest.lines) i ≡ Some l → slice_get (script ∷ scripts) i ≡ Some s →
        HasCarriedOut lib failing contents (1 + (n + i)) rest.whole l.lines s.commands
    of_each zero l s one rest at_line at_script =
        let line_is : record { pid = script.pid; lines = one.lines } ≡ l = same_Some _ _ at_line in
        let script_is : script ≡ s = same_Some _ _ at_script in
        subst (λ (x : Script). HasCarriedOut lib failing contents (1 + (n + 0)) rest.whole l.lines x.commands) script_is
        (subst (λ (x : ScriptLines). HasCarriedOut lib failing contents (1 + (n + 0)) rest.whole x.lines script.commands) line_is
        (record {
          view = one.view;
          number = one.same ∙ first_number n;
          shown = one.whole;
          rest = rest.more;
          begins = rest.is;
          others = all_weaker (IsAfter (n + 1)) (λ (x : Entry). ((1 + (n + 0)) == x.pid) ≡ false) (λ x it. before n x.pid it) rest.more rest.later;
          progress = one.progress;
        }))
    of_each (suc i) l s one rest at_line at_script =
        subst (λ (k : ℕ). HasCarriedOut lib failing contents k rest.whole l.lines s.commands) (next_number n i) (rest.each i l s at_line at_script)

pub scripts_have_a_run : RunLaws → ScriptsHaveARun
scripts_have_a_run laws lib failing contents scripts few fits =
    let all = ran laws lib failing contents 0 [] scripts (laws.nothing lib failing contents) tt (from_zero (length scripts) few) fits in (
      record { history = all.whole; steady = all.lines },
      laws.ends lib failing contents all.whole all.lines scripts all.legal all.numbers (subst (λ (k : ℕ). AllByRecursion (IsUpTo k) all.whole) (zero_more (length scripts)) all.within)
          (λ i l s at_line at_script. subst (λ (k : ℕ). HasCarriedOut lib failing contents (1 + k) all.whole l.lines s.commands) (zero_more i) (all.each i l s at_line at_script)),
    )
  where
    from_zero : (n : ℕ) → n ≤ MAX_PROCESSES → 0 + n ≤ MAX_PROCESSES
    from_zero n h = omega (arith, h)

    zero_more : (n : ℕ) → 0 + n ≡ n
    zero_more n = omega arith
