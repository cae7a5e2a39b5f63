-- Where the items of each process are for the commands of its script, each is for the next one; and whose script that is.
use Rattle.std.proofs.Common.{◌≡◌, ℕ, zero, suc, ◌+◌, ◌≤◌, ◌<◌, ◌==◌, List, [], ◌∷◌, ◌++◌, length, map, filter, flat_map, slice_get, refl, ◌∙◌, ap, subst, arith}
use Rattle.std.specs.List.{AllByRecursion, enumerate_from}
use Rattle.std.proofs.lemmas.List.Elements.{filter-append}
use Rattle.lx_types.proofs.Lists.{all_joined}
use Rattle.load_model.specs.declared.commands.Command.{Command}
use Rattle.load_model.specs.declared.deeds.Entry.{Entry}
use Rattle.load_model.specs.Modules.{Library}
use Rattle.session_model.specs.declared.sessions.Line.{Line}
use Rattle.session_model.specs.declared.sessions.Script.{Script}
use Rattle.session_model.specs.declared.sessions.ScriptLines.{ScriptLines}
use Rattle.session_model.specs.Merging.{Item, entry, line, lines_of, lines_at, merge_of, AreFor, CommandsOf, AllCommands, is_command_of}
use Rattle.check_model.specs.Told.{commands_at}
use Rattle.check_model.specs.Checks.{AreForFirst, commands_of, process_of}

-- ---- the next command

are_front : (lib : Library) (xs ys : List Item) (cs : List Command) → AreFor lib (xs ++ ys) cs → AreForFirst lib xs cs
are_front lib [] ys cs a = record { first = []; left = cs; all = refl; are = tt }
are_front lib (x ∷ xs) ys [] a = absurd a
are_front lib (x ∷ xs) ys (c ∷ cs) a =
    let r : AreForFirst lib xs cs = are_front lib xs ys cs a.1 in
    record { first = c ∷ r.first; left = r.left; all = ap (λ l. c ∷ l) r.all; are = (a.0, r.are) }

of_script : (lib : Library) (items : List Item) (n : ℕ) (scripts : List Script) → AllByRecursion (CommandsOf lib items) (enumerate_from n scripts) → (i : ℕ) → i < length scripts →
    AreFor lib (filter (is_command_of (n + i)) items) (commands_at (slice_get scripts i))
of_script lib items n [] a i below = absurd (let none : ⊥ = omega arith in none)
of_script lib items n (c ∷ scripts) a zero below = subst (λ (k : ℕ). AreFor lib (filter (is_command_of k) items) c.commands) (omega arith) a.0
of_script lib items n (c ∷ scripts) a (suc i) below =
    subst (λ (k : ℕ). AreFor lib (filter (is_command_of k) items) (commands_at (slice_get scripts i))) (omega arith) (of_script lib items (n + 1) scripts a.1 i (omega arith))

of_process : (lib : Library) (items : List Item) (scripts : List Script) (pid : ℕ) → AllCommands lib items scripts → 1 ≤ pid → pid ≤ length scripts →
    AreFor lib (filter (is_command_of pid) items) (commands_of scripts pid)
of_process lib items scripts zero a low high = absurd (let none : ⊥ = omega arith in none)
of_process lib items scripts (suc i) a low high =
    subst (λ (k : ℕ). AreFor lib (filter (is_command_of k) items) (commands_at (slice_get scripts i))) (omega arith) (of_script lib items 1 scripts a i (omega arith))

pub command_is_next : (lib : Library) (items before after : List Item) (scripts : List Script) (pid : ℕ) → items ≡ before ++ after → AllCommands lib items scripts → 1 ≤ pid → pid ≤ length scripts →
    AreForFirst lib (filter (is_command_of pid) before) (commands_of scripts pid)
command_is_next lib items before after scripts pid is a low high =
    are_front lib (filter (is_command_of pid) before) (filter (is_command_of pid) after) (commands_of scripts pid)
    (subst (λ l. AreFor lib l (commands_of scripts pid)) (ap (filter (is_command_of pid)) is ∙ filter-append (is_command_of pid) before after) (of_process lib items scripts pid a low high))

-- ---- the processes of items

abbrev pub OfScript : ℕ → Item → Type 0
OfScript n item = (1 ≤ process_of item) × (process_of item ≤ n)

lines_of_script : (n q : ℕ) (ls : List Line) → 1 ≤ q → q ≤ n → AllByRecursion (OfScript n) (map (line q) ls)
lines_of_script n q [] low high = tt
lines_of_script n q (l ∷ ls) low high = ((low, high), lines_of_script n q ls low high)

at_of_script : (n k front : ℕ) (s : List ScriptLines) → 1 ≤ k → k + length s ≤ n + 1 → AllByRecursion (OfScript n) (flat_map (lines_of front) (enumerate_from k s))
at_of_script n k front [] low high = tt
at_of_script n k front (x ∷ s) low high =
    all_joined (OfScript n) (lines_of front (k, x)) (flat_map (lines_of front) (enumerate_from (k + 1) s)) (lines_of_script n k (filter (λ l. l.front == front) x.lines) low (omega arith))
    (at_of_script n (k + 1) front s (omega arith) (omega arith))

entries_of_script : (n k : ℕ) (h : List Entry) (s : List ScriptLines) → length s ≡ n → AllByRecursion (λ (x : Entry). (1 ≤ x.pid) × (x.pid ≤ n)) h →
    AllByRecursion (OfScript n) (flat_map (λ (e : ℕ × Entry). entry e.1 ∷ lines_at s e.0) (enumerate_from k h))
entries_of_script n k [] s len all = tt
entries_of_script n k (x ∷ h) s len all = (
  all.0,
  all_joined (OfScript n) (lines_at s k) (flat_map (λ (e : ℕ × Entry). entry e.1 ∷ lines_at s e.0) (enumerate_from (k + 1) h)) (at_of_script n 1 k s (omega arith) (omega arith))
      (entries_of_script n (k + 1) h s len all.1),
)

pub merge_of_script : (n : ℕ) (h : List Entry) (s : List ScriptLines) → length s ≡ n → AllByRecursion (λ (x : Entry). (1 ≤ x.pid) × (x.pid ≤ n)) h →
    AllByRecursion (OfScript n) (merge_of h s)
unfolding merge_of
merge_of_script n h s len all =
    all_joined (OfScript n) (lines_at s 0) (flat_map (λ (e : ℕ × Entry). entry e.1 ∷ lines_at s e.0) (enumerate_from 1 h)) (at_of_script n 1 0 s (omega arith) (omega arith))
    (entries_of_script n 1 h s len all)
