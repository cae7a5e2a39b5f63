-- The merge of all, from what each process can say.
use Rattle.std.proofs.Common.{◌≡◌, ℕ, zero, suc, ◌+◌, ◌<◌, ◌≤◌, ◌==◌, true, false, if◌then◌else◌, List, [], ◌∷◌, ◌++◌, length, map, filter, flat_map, Some, slice_get, refl, sym, ◌∙◌, ap, subst, ◌-◌, arith, ne_eqb, eq-eqb, append-nil}
use Rattle.std.specs.List.{enumerate_from, AllByRecursion}
use Rattle.std.proofs.lemmas.List.{length-map}
use Rattle.std.proofs.lemmas.List.Elements.{filter-append}
use Rattle.std.proofs.lemmas.Option.{slice_get_within}
use Rattle.load_model.specs.declared.commands.Command.{Command}
use Rattle.load_model.specs.declared.deeds.Entry.{Entry}
use Rattle.load_model.specs.Modules.{Library, Held}
use Rattle.load_model.specs.State.{Failing}
use Rattle.session_model.specs.declared.sessions.Line.{Line}
use Rattle.session_model.specs.declared.sessions.Script.{Script}
use Rattle.session_model.specs.declared.sessions.ScriptLines.{ScriptLines}
use Rattle.session_model.specs.Merging.{Item, entry, line, lines_of, lines_at, merge_of, FrontsFrom, FrontsRise, AreFor, CommandsOf, is_command_of, FaultLeads, TouchFollows, Replies, AllPlaces, numbers_of}
use Rattle.merge_laws.specs.Accounts.{Claim, Only, lines_after, own_items, Account}
use Rattle.merge_laws.specs.AccountLaws.{AccountsMerge}
use Rattle.merge_laws.proofs.Alike.{keeps, seen_by}
use Rattle.merge_laws.proofs.Seen.{transfers, commands_kept, replies_up, faults_up, touches_up, AllOf, gathers}

-- ---- what a process can see of the merge is its own

seen_flat : {A : Type 0} (k : ℕ) (f : A → List Item) (xs : List A) → seen_by k (flat_map f xs) ≡ flat_map (λ x. seen_by k (f x)) xs
seen_flat k f [] = refl
seen_flat k f (x ∷ xs) = filter-append (keeps k) (f x) (flat_map f xs) ∙ ap (λ l. seen_by k (f x) ++ l) (seen_flat k f xs)

all_kept : (k q : ℕ) (ls : List Line) → (q == k) ≡ true → seen_by k (map (line q) ls) ≡ map (line q) ls
all_kept k q [] is = refl
all_kept k q (l ∷ ls) is = ap (λ b. if b then line q l ∷ seen_by k (map (line q) ls) else seen_by k (map (line q) ls)) is ∙ ap (λ xs. line q l ∷ xs) (all_kept k q ls is)

none_kept : (k q : ℕ) (ls : List Line) → (q == k) ≡ false → seen_by k (map (line q) ls) ≡ []
none_kept k q [] is = refl
none_kept k q (l ∷ ls) is = ap (λ b. if b then line q l ∷ seen_by k (map (line q) ls) else seen_by k (map (line q) ls)) is ∙ none_kept k q ls is

later_none : (k n front : ℕ) (s : List ScriptLines) → k < n → seen_by k (flat_map (lines_of front) (enumerate_from n s)) ≡ []
later_none k n front [] below = refl
later_none k n front (sl ∷ s) below =
    filter-append (keeps k) (lines_of front (n, sl)) (flat_map (lines_of front) (enumerate_from (n + 1) s))
    ∙ (ap (λ l. l ++ seen_by k (flat_map (lines_of front) (enumerate_from (n + 1) s))) (none_kept k n _ (ne_eqb n k (λ e. omega arith)))
    ∙ later_none k (n + 1) front s (omega arith))

own_lines : (k n i front : ℕ) (s : List ScriptLines) (sl : ScriptLines) → slice_get s i ≡ Some sl → k ≡ n + i →
    seen_by k (flat_map (lines_of front) (enumerate_from n s)) ≡ lines_after k sl.lines front
own_lines k n i front [] sl at is = absurd (cc (at))
own_lines k n zero front (x ∷ s) sl at is =
    let here : x ≡ sl = cc (at) in
    let num : n ≡ k = omega arith in
    filter-append (keeps k) (lines_of front (n, x)) (flat_map (lines_of front) (enumerate_from (n + 1) s))
    ∙ (ap (λ l. seen_by k (lines_of front (n, x)) ++ l) (later_none k (n + 1) front s (omega arith))
    ∙ (append-nil (seen_by k (lines_of front (n, x)))
    ∙ (all_kept k n (filter (λ l. l.front == front) x.lines) (eq-eqb n k num)
    ∙ ap (λ (p : ℕ × ScriptLines). lines_of front p) (λ j. (num j, here j)))))
own_lines k n (suc i) front (x ∷ s) sl at is =
    filter-append (keeps k) (lines_of front (n, x)) (flat_map (lines_of front) (enumerate_from (n + 1) s))
    ∙ (ap (λ l. l ++ seen_by k (flat_map (lines_of front) (enumerate_from (n + 1) s))) (none_kept k n _ (ne_eqb n k (λ e. omega arith)))
    ∙ own_lines k (n + 1) i front s sl at (omega arith))

pub seen_of_merge : (k i : ℕ) (h : List Entry) (s : List ScriptLines) (sl : ScriptLines) → slice_get s i ≡ Some sl → k ≡ 1 + i →
    seen_by k (merge_of h s) ≡ own_items k h sl.lines
unfolding merge_of own_items
seen_of_merge k i h s sl at is =
    let front : (n : ℕ) → seen_by k (lines_at s n) ≡ lines_after k sl.lines n = λ n. own_lines k 1 i n s sl at is in
    filter-append (keeps k) (lines_at s 0) (flat_map (λ e. entry e.1 ∷ lines_at s e.0) (enumerate_from 1 h))
    ∙ (ap (λ l. l ++ seen_by k (flat_map (λ e. entry e.1 ∷ lines_at s e.0) (enumerate_from 1 h))) (front 0)
    ∙ ap (λ l. lines_after k sl.lines 0 ++ l)
    (seen_flat k (λ (e : ℕ × Entry). entry e.1 ∷ lines_at s e.0) (enumerate_from 1 h)
    ∙ (λ j. flat_map (λ (e : ℕ × Entry). entry e.1 ∷ front e.0 j) (enumerate_from 1 h))))

-- ---- each process's own items, in the merge of all

module _ (lib : Library) (failing : Failing) (contents : Held) (h : List Entry) (s : List ScriptLines) (k i : ℕ) (sl : ScriptLines) (commands : List Command)
    (at : slice_get s i ≡ Some sl) (is : k ≡ 1 + i) (own : Account lib failing contents k h sl.lines commands) where
  abbrev items : List Item
  items = merge_of h s

  seen : seen_by k items ≡ own_items k h sl.lines
  seen = seen_of_merge k i h s sl at is

  its_commands : AreFor lib (filter (is_command_of k) items) commands
  its_commands = subst (λ l. AreFor lib l commands) (ap (filter (is_command_of k)) (sym seen) ∙ commands_kept k items) own.commands

  its_faults : AllPlaces (Only (FaultLeads lib failing) k) [] items
  its_faults = transfers (FaultLeads lib failing) k (faults_up lib failing contents k) [] items (subst (AllPlaces (Only (FaultLeads lib failing) k) []) (sym seen) own.faults)

  its_touches : AllPlaces (Only (TouchFollows lib failing) k) [] items
  its_touches = transfers (TouchFollows lib failing) k (touches_up lib failing contents k) [] items (subst (AllPlaces (Only (TouchFollows lib failing) k) []) (sym seen) own.touches)

  its_replies : AllPlaces (Only (Replies lib failing contents) k) [] items
  its_replies = transfers (Replies lib failing contents) k (replies_up lib failing contents k) [] items (subst (AllPlaces (Only (Replies lib failing contents) k) []) (sym seen) own.replies)

-- ---- all of it

fronts_rise : (h : List Entry) (s : List ScriptLines) → ((i : ℕ) (sl : ScriptLines) → slice_get s i ≡ Some sl → FrontsFrom 0 (length h) sl.lines) → FrontsRise h s
fronts_rise h [] each = tt
fronts_rise h (sl ∷ s) each = (each 0 sl refl, fronts_rise h s (λ i x e. each (suc i) x e))

all_commands : (lib : Library) (items : List Item) (n : ℕ) (scripts : List Script) →
    ((i : ℕ) (c : Script) → slice_get scripts i ≡ Some c → AreFor lib (filter (is_command_of (n + i)) items) c.commands) →
    AllByRecursion (CommandsOf lib items) (enumerate_from n scripts)
all_commands lib items n [] each = tt
all_commands lib items n (c ∷ scripts) each = (
  subst (λ (k : ℕ). AreFor lib (filter (is_command_of k) items) c.commands) (omega arith) (each 0 c refl),
  all_commands lib items (n + 1) scripts (λ i x e. subst (λ (k : ℕ). AreFor lib (filter (is_command_of k) items) x.commands) (omega arith) (each (suc i) x e)),
)

-- below its length a list has something
there : {A : Type 0} (xs : List A) (i : ℕ) → i < length xs → (x : A) × (slice_get xs i ≡ Some x)
there [] i lt = absurd (omega arith)
there (x ∷ xs) zero lt = (x, refl)
there (x ∷ xs) (suc i) lt = there xs i (omega arith)

-- ---- each item is of one of them

append_of : (n : ℕ) (xs ys : List Item) → AllOf n xs → AllOf n ys → AllOf n (xs ++ ys)
append_of n [] ys a b = b
append_of n (x ∷ xs) ys a b = (a.0, append_of n xs ys a.1 b)

lines_are_of : (n q : ℕ) (ls : List Line) → 1 ≤ q → q ≤ n → AllOf n (map (line q) ls)
lines_are_of n q [] a b = tt
lines_are_of n q (l ∷ ls) a b = ((q, a, b, eq-eqb q q refl), lines_are_of n q ls a b)

at_are_of : (n k front : ℕ) (s : List ScriptLines) → 1 ≤ k → k + length s ≤ n + 1 → AllOf n (flat_map (lines_of front) (enumerate_from k s))
at_are_of n k front [] a b = tt
at_are_of n k front (sl ∷ s) a b = append_of n (lines_of front (k, sl)) _ (lines_are_of n k _ a (omega arith)) (at_are_of n (k + 1) front s (omega arith) (omega arith))

entries_are_of : (n k : ℕ) (h : List Entry) (s : List ScriptLines) → length s ≡ n → AllByRecursion (λ (x : Entry). (1 ≤ x.pid) × (x.pid ≤ n)) h →
    AllOf n (flat_map (λ (e : ℕ × Entry). entry e.1 ∷ lines_at s e.0) (enumerate_from k h))
entries_are_of n k [] s len all = tt
entries_are_of n k (x ∷ h) s len all =
    ((x.pid, all.0.0, all.0.1, eq-eqb x.pid x.pid refl), append_of n (lines_at s k) _ (at_are_of n 1 k s (omega arith) (omega arith)) (entries_are_of n (k + 1) h s len all.1))

merge_is_of : (n : ℕ) (h : List Entry) (s : List ScriptLines) → length s ≡ n → AllByRecursion (λ (x : Entry). (1 ≤ x.pid) × (x.pid ≤ n)) h → AllOf n (merge_of h s)
unfolding merge_of
merge_is_of n h s len all = append_of n (lines_at s 0) _ (at_are_of n 1 0 s (omega arith) (omega arith)) (entries_are_of n 1 h s len all)

-- ---- the theorem

length_numbers : (s : List ScriptLines) (scripts : List Script) → numbers_of s ≡ map (λ script. script.pid) scripts → length s ≡ length scripts
length_numbers s scripts e = sym (length-map s (λ lines. lines.pid)) ∙ (ap length e ∙ length-map scripts (λ script. script.pid))

-- what holds of the items of each process holds of all
gathered : (P : Claim) (h : List Entry) (s : List ScriptLines) (scripts : List Script) → length s ≡ length scripts →
    AllByRecursion (λ (x : Entry). (1 ≤ x.pid) × (x.pid ≤ length scripts)) h →
    ((i : ℕ) (sl : ScriptLines) (c : Script) → slice_get s i ≡ Some sl → slice_get scripts i ≡ Some c → AllPlaces (Only P (1 + i)) [] (merge_of h s)) →
    AllPlaces P [] (merge_of h s)
gathered P h s scripts len entries each = gathers P (length scripts) [] (merge_of h s) (merge_is_of (length scripts) h s len entries) of_process
  where
    of_process : (k : ℕ) → 1 ≤ k → k ≤ length scripts → AllPlaces (Only P k) [] (merge_of h s)
    of_process k low high =
        let sl = there s (k - 1) (omega arith) in
        let c = there scripts (k - 1) (omega arith) in
        let number : 1 + (k - 1) ≡ k = omega arith in
        subst (λ (q : ℕ). AllPlaces (Only P q) [] (merge_of h s)) number (each (k - 1) sl.0 c.0 sl.1 c.1)

pub accounts_merge : AccountsMerge
accounts_merge lib failing contents h s scripts numbers entries each =
    let len : length s ≡ length scripts = length_numbers s scripts numbers in
    record {
      processes = numbers;
      entries = entries;
      fronts = fronts_rise h s (λ i sl at. let lt = slice_get_within s i sl at in let c = there scripts i (omega arith) in (each i sl c.0 at c.1).fronts);
      commands = all_commands lib (merge_of h s) 1 scripts
          (λ i c is. let lt = slice_get_within scripts i c is in let sl = there s i (omega arith) in
          its_commands lib failing contents h s (1 + i) i sl.0 c.commands sl.1 refl (each i sl.0 c sl.1 is));
      faults = gathered (FaultLeads lib failing) h s scripts len entries
          (λ i sl c at is. its_faults lib failing contents h s (1 + i) i sl c.commands at refl (each i sl c at is));
      touches = gathered (TouchFollows lib failing) h s scripts len entries
          (λ i sl c at is. its_touches lib failing contents h s (1 + i) i sl c.commands at refl (each i sl c at is));
      replies = gathered (Replies lib failing contents) h s scripts len entries
          (λ i sl c at is. its_replies lib failing contents h s (1 + i) i sl c.commands at refl (each i sl c at is));
    }
