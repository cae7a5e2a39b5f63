-- Which processes the items of a merge have.
use Rattle.std.proofs.Common.{◌≡◌, ℕ, zero, suc, ◌+◌, ◌≤◌, ◌<◌, ◌==◌, ◌||◌, Bool, true, false, List, [], ◌∷◌, length, refl, sym, subst, arith}
use Rattle.std.specs.List.{AllByRecursion, range_with_len}
use Rattle.std.proofs.lemmas.Bool.{eqb-false}
use Rattle.std.proofs.lemmas.List.{length-map}
use Rattle.load_model.specs.declared.deeds.Entry.{Entry}
use Rattle.load_model.specs.Modules.{Library}
use Rattle.load_model.specs.Serials.{Rise}
use Rattle.load_model.specs.State.{pids, is_among}
use Rattle.session_model.specs.declared.sessions.ScriptLines.{ScriptLines}
use Rattle.session_model.specs.Merging.{Item, numbers_of}
use Rattle.check_model.specs.Told.{Told, IsEntry, IsTold}
use Rattle.check_model.specs.Places.{first_script, numbered_merge, numbered_scripts}
use Rattle.check_model.specs.Checks.{process_of}
use Rattle.check_model.proofs.NextCommands.{OfScript, merge_of_script}
use Rattle.check_model.proofs.NumberedItems.{items_in, merge_items}

-- the process of an item is one of the sixteen
abbrev pub OfPid : Item → Type 0
OfPid item = is_among pids (process_of item) ≡ true

in_range : (from len n : ℕ) → from ≤ n → n < from + len → is_among (range_with_len from len) n ≡ true
in_range from zero n low high = absurd (let none : ⊥ = omega arith in none)
in_range from (suc len) n low high = step (from == n) refl (λ more below. in_range (from + 1) len n more below)
  where
    step : (b : Bool) → (from == n) ≡ b → (from + 1 ≤ n → n < (from + 1) + len → is_among (range_with_len (from + 1) len) n ≡ true) →
        b || is_among (range_with_len (from + 1) len) n ≡ true
    step true is later = refl
    step false is later =
        let apart : from ≡ n → ⊥ = eqb-false from n is in
        later (omega arith) (omega arith)

pid_is : (n : ℕ) → 1 ≤ n → n ≤ 16 → is_among pids n ≡ true
pid_is n low high = in_range 1 16 n low (omega arith)

-- ---- how many processes there are

rise_length : (low : ℕ) (ns : List ℕ) (high : ℕ) → Rise low ns high → low + length ns ≤ high
rise_length low [] high r = let most : low ≤ high = r in omega arith
rise_length low (n ∷ ns) high r =
    let first : low < n = r.0 in
    let rest : n + length ns ≤ high = rise_length n ns high r.1 in
    omega arith

few_processes : (s : List ScriptLines) → Rise 0 (numbers_of s) 16 → length s ≤ 16
few_processes s rising =
    let most : 0 + length (numbers_of s) ≤ 16 = rise_length 0 (numbers_of s) 16 rising in
    let same : length (numbers_of s) ≡ length s = length-map s (λ (lines : ScriptLines). lines.pid) in
    omega arith

-- ---- items

pairs : (lib : Library) (n : ℕ) (h : List Entry) → AllByRecursion (IsEntry lib n) h → AllByRecursion (λ (x : Entry). (1 ≤ x.pid) × (x.pid ≤ n)) h
pairs lib n [] all = tt
pairs lib n (x ∷ h) all = ((all.0.0, all.0.1), pairs lib n h all.1)

each_pid : (n : ℕ) (items : List Item) → n ≤ 16 → AllByRecursion (OfScript n) items → AllByRecursion OfPid items
each_pid n [] few all = tt
each_pid n (item ∷ items) few all =
    let most : process_of item ≤ n = all.0.1 in
    (pid_is (process_of item) all.0.0 (omega arith), each_pid n items few all.1)

pub told_pids : (lib : Library) (t : Told) → IsTold lib t →
    AllByRecursion OfPid (items_in (numbered_merge (numbered_scripts 1 (first_script t.run) t.run.steady) t.run.history))
told_pids lib t told =
    let of = merge_of_script (length t.run.steady) t.run.history t.run.steady refl (pairs lib (length t.run.steady) t.run.history told.entries) in
    subst (AllByRecursion OfPid) (sym (merge_items t.run.history t.run.steady (first_script t.run)))
    (each_pid (length t.run.steady) _ (few_processes t.run.steady told.rising) of)
