-- What leaves: a process keeps what it still reaches, and residences that somebody reaches stay.
use Rattle.std.proofs.Common.{◌≡◌, ℕ, ◌==◌, Bool, true, false, if◌then◌else◌, not, ◌&&◌, ◌||◌, List, [], ◌∷◌, ◌++◌, map, filter, Option, Some, None, option_to_list, refl, sym, ◌∙◌, ap}
use Rattle.std.specs.List.{list_any}
use Rattle.lx_types.specs.declared.object.Class.{Class}
use Rattle.lx_types.specs.declared.object.Class.TheVariants as classes
use Rattle.lx_types.proofs.Lists.{any_map}
use Rattle.load_model.specs.Modules.{Library, order_of}
use Rattle.load_model.specs.State.{Residence, Process, Eager, Written, with_process, is_among, pids, reaches, is_reached}
use Rattle.load_model.specs.Leaving.{left, gone_modules, gone_of, gone, keeping, after_leaving, without_one, freeing, exiting}
use Rattle.load_model.specs.Memory.{with_write, writing}
use Rattle.load_model.specs.Asks.{after_write}
use Rattle.load_model.proofs.Bools.{or_true}
use Rattle.load_model.proofs.Among.{any_same, any_filter_at, among_filter, any_reverse}
use Rattle.load_model.proofs.Kept.{Kept, others, reached_apart, reached_with, attached_elsewhere}

-- the process after it gave something up: it has attached what it had, and reaches no more
pub record GivesUp (lib : Library) (before after : Process) : Type 0 where
  pub attached : after.attached ≡ before.attached
  pub reaches : (k : ℕ) → reaches lib after k ≡ true → reaches lib before k ≡ true

without_less : (f : ℕ → Bool) (m : ℕ) (xs : List ℕ) → list_any f (without_one m xs) ≡ true → list_any f xs ≡ true
without_less f m [] h = h
without_less f m (x ∷ xs) h = step (x == m) (without_less f m xs) h
  where
    step : (b : Bool) → (list_any f (without_one m xs) ≡ true → list_any f xs ≡ true) → list_any f (if b then xs else x ∷ without_one m xs) ≡ true → f x || list_any f xs ≡ true
    step true less h = ap (λ b. f x || b) h ∙ or_true (f x)
    step false less h = among (f x) (list_any f (without_one m xs)) (list_any f xs) less h
      where
        among : (a b c : Bool) → (b ≡ true → c ≡ true) → a || b ≡ true → a || c ≡ true
        among true b c less h = refl
        among false b c less h = less h

pub roots_less : (f : ℕ → Bool) (s : Option ℕ) (m : ℕ) (xs : List ℕ) → list_any f (option_to_list s ++ without_one m xs) ≡ true → list_any f (option_to_list s ++ xs) ≡ true
roots_less f None m xs h = without_less f m xs h
roots_less f (Some k) m xs h = among (f k) (list_any f (without_one m xs)) (list_any f xs) (without_less f m xs) h
  where
    among : (a b c : Bool) → (b ≡ true → c ≡ true) → a || b ≡ true → a || c ≡ true
    among true b c less h = refl
    among false b c less h = less h

pub freeing_gives_up : (lib : Library) (m : ℕ) (p : Process) → GivesUp lib p (freeing m p)
unfolding reaches
freeing_gives_up lib m p = record { attached = refl; reaches = λ k h. roots_less (λ root. is_among (order_of lib root) k) p.started m p.loads h }

pub exiting_gives_up : (lib : Library) (p : Process) → GivesUp lib p (exiting p)
unfolding reaches
exiting_gives_up lib p = record { attached = refl; reaches = λ k h. (let wrong : false ≡ true = h in cc) }

-- ---- what leaves

-- o: the process reached it, n: it still does, s: others do
keep_attached : (o n : Bool) → (n ≡ true → o ≡ true) → o && n ≡ n
keep_attached true n h = refl
keep_attached false true h = h refl
keep_attached false false h = refl

keep_resident : (o n s : Bool) → (n ≡ true → o ≡ true) → (o || s) && not ((o && not n) && not (n || s)) ≡ n || s
keep_resident true true s h = refl
keep_resident true false true h = refl
keep_resident true false false h = refl
keep_resident false true s h = (let wrong : false ≡ true = h refl in cc)
keep_resident false false true h = refl
keep_resident false false false h = refl

gone_is : (o n s : Bool) → (o && not n) && not (n || s) ≡ (o || s) && not (n || s)
gone_is true true s = refl
gone_is true false true = refl
gone_is true false false = refl
gone_is false true s = sym (and_false s)
  where
    and_false : (a : Bool) → a && false ≡ false
    and_false true = refl
    and_false false = refl
gone_is false false true = refl
gone_is false false false = refl

pub left_among : (lib : Library) (e : Eager) (pid : ℕ) (p : Process) (k : ℕ) → Kept lib e → GivesUp lib (e.processes pid) p →
    is_among (left lib p) k ≡ reaches lib (e.processes pid) k && not (reaches lib p k)
unfolding left
left_among lib e pid p k kept gives =
    any_reverse (λ x. x == k) _ ∙ among_filter (λ x. not (reaches lib p x)) p.attached k
    ∙ ap (λ xs. is_among xs k && not (reaches lib p k)) gives.attached ∙ ap (λ b. b && not (reaches lib p k)) (kept.attached pid k)

pub gone_among : (lib : Library) (e : Eager) (pid : ℕ) (p : Process) (k : ℕ) → is_among pids pid ≡ true → Kept lib e → GivesUp lib (e.processes pid) p →
    is_among (gone_modules lib e pid p) k ≡ (reaches lib (e.processes pid) k && not (reaches lib p k)) && not (reaches lib p k || others lib e pid k)
unfolding gone_modules
gone_among lib e pid p k there kept gives =
    among_filter (λ x. not (is_reached lib (with_process e pid p) x)) (left lib p) k
    ∙ ap (λ b. b && not (is_reached lib (with_process e pid p) k)) (left_among lib e pid p k kept gives)
    ∙ ap (λ b. (reaches lib (e.processes pid) k && not (reaches lib p k)) && not b) (reached_with lib e pid p k there)

pub reaches_keeping : (lib : Library) (e : Eager) (p : Process) (k : ℕ) → reaches lib (keeping lib e p) k ≡ reaches lib p k
unfolding reaches keeping
reaches_keeping lib e p k = refl

keeping_attached : (lib : Library) (e : Eager) (p : Process) → (keeping lib e p).attached ≡ filter (reaches lib p) p.attached
unfolding keeping
keeping_attached lib e p = refl

-- what is reached afterwards
pub left_reached : (lib : Library) (e : Eager) (pid : ℕ) (p : Process) (k : ℕ) → is_among pids pid ≡ true →
    is_reached lib (after_leaving lib e pid p) k ≡ reaches lib p k || others lib e pid k
unfolding after_leaving is_reached
left_reached lib e pid p k there =
    reached_with lib e pid (keeping lib e p) k there ∙ ap (λ b. b || others lib e pid k) (reaches_keeping lib e p k)

pub left_kept : (lib : Library) (e : Eager) (pid : ℕ) (p : Process) → is_among pids pid ≡ true → GivesUp lib (e.processes pid) p → Kept lib e → Kept lib (after_leaving lib e pid p)
unfolding after_leaving
left_kept lib e pid p there gives kept = record {
  attached =
      attached_elsewhere lib e pid (keeping lib e p)
      (λ k.
      ap (λ xs. is_among xs k) (keeping_attached lib e p) ∙ among_filter (reaches lib p) p.attached k ∙ ap (λ xs. is_among xs k && reaches lib p k) gives.attached
      ∙ ap (λ b. b && reaches lib p k) (kept.attached pid k) ∙ keep_attached (reaches lib (e.processes pid) k) (reaches lib p k) (gives.reaches k)
      ∙ sym (reaches_keeping lib e p k))
      kept.attached;
  resident = λ k.
      any_filter_at (λ r. r.«module») (λ x. not (is_among (gone_modules lib e pid p) x)) k e.residences
      ∙ ap (λ b. b && not (is_among (gone_modules lib e pid p) k)) (kept.resident k ∙ reached_apart lib e pid k there)
      ∙ ap (λ b. (reaches lib (e.processes pid) k || others lib e pid k) && not b) (gone_among lib e pid p k there kept gives)
      ∙ keep_resident (reaches lib (e.processes pid) k) (reaches lib p k) (others lib e pid k) (gives.reaches k)
      ∙ sym (left_reached lib e pid p k there);
}

-- exactly what was resident is gone that nobody reaches any more
pub gone_unreached : (lib : Library) (e : Eager) (pid : ℕ) (p : Process) (k : ℕ) → is_among pids pid ≡ true → GivesUp lib (e.processes pid) p → Kept lib e →
    is_among (map (λ g. g.«module») (gone lib e pid p)) k ≡ list_any (λ r. r.«module» == k) e.residences && not (is_reached lib (after_leaving lib e pid p) k)
unfolding gone
gone_unreached lib e pid p k there gives kept =
    any_map (λ x. x == k) (λ g. g.«module») (map (gone_of e) (gone_modules lib e pid p)) ∙ any_map (λ g. g.«module» == k) (gone_of e) (gone_modules lib e pid p)
    ∙ gone_among lib e pid p k there kept gives ∙ gone_is (reaches lib (e.processes pid) k) (reaches lib p k) (others lib e pid k)
    ∙ ap (λ b. b && not (reaches lib p k || others lib e pid k)) (sym (kept.resident k ∙ reached_apart lib e pid k there))
    ∙ ap (λ b. list_any (λ r. r.«module» == k) e.residences && not b) (sym (left_reached lib e pid p k there))

-- ---- writes

reaches_writing : (lib : Library) (serial : ℕ) (w : Written) (p : Process) (k : ℕ) → reaches lib (writing serial w p) k ≡ reaches lib p k
unfolding reaches
reaches_writing lib serial w p k = refl

shared_reached : (lib : Library) (e : Eager) (serial : ℕ) (w : Written) (k : ℕ) →
    is_reached lib (record e { residences = map (with_write serial w) e.residences }) k ≡ is_reached lib e k
unfolding is_reached
shared_reached lib e serial w k = refl

pub written_reached : (lib : Library) (e : Eager) (pid serial : ℕ) (w : Written) (class : Class) (k : ℕ) → is_among pids pid ≡ true →
    is_reached lib (after_write e pid serial w class) k ≡ is_reached lib e k
written_reached lib e pid serial w classes.Code k there = refl
written_reached lib e pid serial w classes.Private k there =
    reached_with lib e pid (writing serial w (e.processes pid)) k there ∙ ap (λ b. b || others lib e pid k) (reaches_writing lib serial w (e.processes pid) k)
    ∙ sym (reached_apart lib e pid k there)
written_reached lib e pid serial w classes.Shared k there = shared_reached lib e serial w k

same_module : (serial : ℕ) (w : Written) (r : Residence) (k : ℕ) → ((with_write serial w r).«module» == k) ≡ (r.«module» == k)
same_module serial w r k = step (r.serial == serial)
  where
    step : (b : Bool) → ((if b then record r { writes = r.writes ++ w ∷ [] } else r).«module» == k) ≡ (r.«module» == k)
    step true = refl
    step false = refl

same_residences : (e : Eager) (pid : ℕ) (p : Process) (k : ℕ) →
    list_any (λ r. r.«module» == k) (with_process e pid p).residences ≡ list_any (λ r. r.«module» == k) e.residences
unfolding with_process
same_residences e pid p k = refl

pub written_kept : (lib : Library) (e : Eager) (pid serial : ℕ) (w : Written) (class : Class) → is_among pids pid ≡ true → Kept lib e → Kept lib (after_write e pid serial w class)
written_kept lib e pid serial w classes.Code there kept = kept
written_kept lib e pid serial w classes.Private there kept = record {
  attached =
      attached_elsewhere lib e pid (writing serial w (e.processes pid)) (λ k. kept.attached pid k ∙ sym (reaches_writing lib serial w (e.processes pid) k)) kept.attached;
  resident = λ k. same_residences e pid (writing serial w (e.processes pid)) k ∙ kept.resident k ∙ sym (written_reached lib e pid serial w classes.Private k there);
}
written_kept lib e pid serial w classes.Shared there kept = record {
  attached = kept.attached;
  resident = λ k.
      any_map (λ r. r.«module» == k) (with_write serial w) e.residences ∙ any_same _ _ (λ r. same_module serial w r k) e.residences ∙ kept.resident k
      ∙ sym (written_reached lib e pid serial w classes.Shared k there);
}
