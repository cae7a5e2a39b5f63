-- Where two ways to say what objects hold agree along a history, a merge by one is a merge by the other.
use Rattle.std.proofs.Common.{◌≡◌, ℕ, ◌+◌, ◌≤◌, ◌<◌, ◌==◌, ◌||◌, zero, suc, Bool, true, false, List, [], ◌∷◌, ◌++◌, length, map, filter, flat_map, refl, sym, ◌∙◌, ap, subst, arith, append_assoc, append-nil}
use Rattle.std.proofs.lemmas.Bool.{eqb-false}
use Rattle.std.proofs.lemmas.List.{length-map}
use Rattle.std.specs.List.{enumerate_from, range_with_len, AllByRecursion}
use Rattle.load_model.specs.declared.deeds.Entry.{Entry}
use Rattle.load_model.specs.Modules.{Library, Held}
use Rattle.load_model.specs.State.{PageOf, Failing, Eager, pids, is_among, reaches, is_reached, residence_of}
use Rattle.load_model.specs.Memory.{bases_seen}
use Rattle.load_model.specs.Asks.{ask_in}
use Rattle.load_model.specs.Histories.{state_after}
use Rattle.load_model.specs.Accepted.{retouched}
use Rattle.load_model.specs.Laws.{AgreeAt}
use Rattle.load_model.proofs.Holding.{deed_by, held_answers_alike}
use Rattle.session_model.specs.declared.sessions.Line.{Line}
use Rattle.session_model.specs.declared.sessions.ScriptLines.{ScriptLines}
use Rattle.session_model.specs.Merging.{Item, entry, line, lines_of, lines_at, merge_of, state_after_items, AllPlaces, Replies, numbers_of}
use Rattle.session_model.specs.MergeLaws.{entries_in, touched_in, HeldMergesAlike}
use Rattle.session_model.proofs.MergeStates.{entries_append, merge_has_history, states_are_the_historys}

-- ---- processes count from 1 to 16

abbrev IsPid : ℕ → Type 0
IsPid pid = is_among pids pid ≡ true

abbrev OfPid : Item → Type 0
OfPid (entry x) = IsPid x.pid
OfPid (line pid l) = IsPid pid

in_range : (from len n : ℕ) → from ≤ n → n < from + len → is_among (range_with_len from len) n ≡ true
in_range from zero n low high = absurd (let none : ⊥ = omega arith in none)
in_range from (suc len) n low high = step (from == n) refl (λ more below. in_range (from + 1) len n more below)
  where
    step : (b : Bool) → (from == n) ≡ b → (from + 1 ≤ n → n < (from + 1) + len → is_among (range_with_len (from + 1) len) n ≡ true) →
        b || is_among (range_with_len (from + 1) len) n ≡ true
    step true is later = refl
    step false is later =
        let apart : from ≡ n → ⊥ = eqb-false from n is in
        later (omega arith) (omega arith)

pid_is : (n : ℕ) → 1 ≤ n → n ≤ 16 → IsPid n
pid_is n low high = in_range 1 16 n low (omega arith)

all_append : (a b : List Item) → AllByRecursion OfPid a → AllByRecursion OfPid b → AllByRecursion OfPid (a ++ b)
all_append [] b all more = more
all_append (x ∷ a) b all more = (all.0, all_append a b all.1 more)

of_one : (pid : ℕ) (ls : List Line) → IsPid pid → AllByRecursion OfPid (map (line pid) ls)
of_one pid [] is = tt
of_one pid (l ∷ ls) is = (is, of_one pid ls is)

of_lines : (front n : ℕ) (s : List ScriptLines) → 1 ≤ n → n + length s ≤ 17 → AllByRecursion OfPid (flat_map (lines_of front) (enumerate_from n s))
of_lines front n [] low high = tt
of_lines front n (x ∷ s) low high =
    all_append (lines_of front (n, x)) (flat_map (lines_of front) (enumerate_from (n + 1) s)) (of_one n (filter (λ l. l.front == front) x.lines) (pid_is n low (omega arith)))
    (of_lines front (n + 1) s (omega arith) (omega arith))

of_entries : (h : List Entry) (n most : ℕ) (s : List ScriptLines) → most ≤ 16 → length s ≤ 16 → AllByRecursion (λ (x : Entry). (1 ≤ x.pid) × (x.pid ≤ most)) h →
    AllByRecursion OfPid (flat_map (λ e. entry e.1 ∷ lines_at s e.0) (enumerate_from n h))
of_entries [] n most s few lines all = tt
of_entries (x ∷ h) n most s few lines all =
    let low : 1 ≤ x.pid = all.0.0 in
    let high : x.pid ≤ most = all.0.1 in (
      pid_is x.pid low (omega arith),
      all_append (lines_at s n) (flat_map (λ e. entry e.1 ∷ lines_at s e.0) (enumerate_from (n + 1) h)) (of_lines n 1 s (omega arith) (omega arith)) (of_entries h (n + 1) most s few lines all.1),
    )

of_merge : (h : List Entry) (most : ℕ) (s : List ScriptLines) → most ≤ 16 → length s ≤ 16 → AllByRecursion (λ (x : Entry). (1 ≤ x.pid) × (x.pid ≤ most)) h →
    AllByRecursion OfPid (merge_of h s)
unfolding merge_of
of_merge h most s few lines all =
    all_append (lines_at s 0) (flat_map (λ e. entry e.1 ∷ lines_at s e.0) (enumerate_from 1 h)) (of_lines 0 1 s (omega arith) (omega arith)) (of_entries h 1 most s few lines all)

-- ---- agreement, place by place

agree_touched : (lib : Library) (a b : Held) (e : Eager) (touched : ℕ → List PageOf) → AgreeAt lib a b e → AgreeAt lib a b (retouched touched e)
unfolding is_reached reaches bases_seen residence_of
agree_touched lib a b e touched agree m object x reached there below = agree m object x reached there below

agree_later : (lib : Library) (failing : Failing) (a b : Held) (items : List Item) → AgreeAt lib a b (state_after lib failing (entries_in items)) → AgreeAt lib a b (state_after_items lib failing items)
agree_later lib failing a b items agree =
    subst (λ e. AgreeAt lib a b e) (sym (states_are_the_historys lib failing items)) (agree_touched lib a b (state_after lib failing (entries_in items)) (touched_in (state_after_items lib failing items)) agree)

one_by : (lib : Library) (failing : Failing) (a b : Held) (before : List Item) (item : Item) (after : List Item) → OfPid item → AgreeAt lib a b (state_after_items lib failing before) →
    Replies lib failing a before item after → Replies lib failing b before item after
one_by lib failing a b before (entry x) after there agree r = record {
  may = r.may;
  done = r.done ∙ deed_by lib a b (state_after_items lib failing before) x.pid (ask_in x.deed) there agree r.may;
  touched = r.touched;
}
one_by lib failing a b before (line pid l) after there agree r = sym (held_answers_alike lib a b (state_after_items lib failing before) pid l.command there agree) ∙ r

all_by : (lib : Library) (failing : Failing) (a b : Held) (before items : List Item) → AllByRecursion OfPid items →
    ((first rest : List Item) → items ≡ first ++ rest → AgreeAt lib a b (state_after_items lib failing (before ++ first))) → AllPlaces (Replies lib failing a) before items → AllPlaces (Replies lib failing b) before items
all_by lib failing a b before [] there agree all = tt
all_by lib failing a b before (item ∷ items) there agree all = (
  one_by lib failing a b before item items there.0 (subst (λ z. AgreeAt lib a b (state_after_items lib failing z)) (append-nil before) (agree [] (item ∷ items) refl)) all.0,
  all_by lib failing a b (before ++ item ∷ []) items there.1
      (λ first rest is. subst (λ z. AgreeAt lib a b (state_after_items lib failing z)) (sym (append_assoc before (item ∷ []) first)) (agree (item ∷ first) rest (ap (λ xs. item ∷ xs) is))) all.1,
)

numbers_length : (s : List ScriptLines) → length (numbers_of s) ≡ length s
numbers_length s = length-map s (λ lines. lines.pid)

pub held_merges_alike : HeldMergesAlike
held_merges_alike lib failing a b h s scripts few agree m =
    let same : length s ≡ length scripts =
    sym (numbers_length s) ∙ ap length m.processes ∙ length-map scripts (λ script. script.pid)
    in
    record {
      processes = m.processes;
      entries = m.entries;
      fronts = m.fronts;
      commands = m.commands;
      faults = m.faults;
      touches = m.touches;
      replies = all_by lib failing a b [] (merge_of h s) (of_merge h (length scripts) s few (subst (λ n. n ≤ 16) (sym same) few) m.entries)
          (λ first rest is.
          agree_later lib failing a b first
          (agree (entries_in first) (entries_in rest) (sym (merge_has_history h s) ∙ ap entries_in is ∙ entries_append first rest)))
          m.replies;
    }
