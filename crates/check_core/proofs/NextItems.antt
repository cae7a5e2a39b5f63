-- What each process does next, by the places of items.
use Rattle.std.proofs.Common.{◌≡◌, ℕ, zero, suc, ◌+◌, ◌≤◌, ◌<◌, ◌==◌, ◌&&◌, Bool, true, false, not, cond, List, [], ◌∷◌, length, find, drop, get_or, set, replicate, Some, refl, sym, ◌∙◌, ap, arith, eqb-true}
use Rattle.std.specs.List.{slice_get, AllByRecursion}
use Rattle.std.proofs.lemmas.Bool.{ne_eqb, eqb-false}
use Rattle.std.proofs.lemmas.List.{drop_more, drop_all, get_or_default, get_or-replicate, get_or-set_same, get_or-set_other}
use Rattle.std.proofs.lemmas.Option.{slice_get_read, slice_get_past}
use Rattle.lx_types.specs.declared.limits.TheConstants.{MAX_PROCESSES}
use Rattle.session_model.specs.Merging.{Item, entry, line, is_fault, is_command_of}
use Rattle.check_model.specs.Checks.{process_of}

-- the places at which each process has its next item for a command, of those from a place on
abbrev pub AreLatest : List Item → List ℕ → ℕ → Type 0
AreLatest items latest place = (pid : ℕ) → pid ≤ MAX_PROCESSES → slice_get items (get_or latest pid 0) ≡ find (is_command_of pid) (drop place items)

abbrev pub AreNextFrom : List Item → List ℕ → ℕ → Type 0
AreNextFrom items next place =
    (k : ℕ) (d : Item) → place ≤ k → k < length items → slice_get items (get_or next k 0) ≡ find (is_command_of (process_of (get_or items k d))) (drop (k + 1) items)

pub none_latest : (items : List Item) (latest : List ℕ) → latest ≡ replicate (MAX_PROCESSES + 1) (length items) → AreLatest items latest (length items)
none_latest items latest is pid few =
    let below : pid < MAX_PROCESSES + 1 = omega (arith, few) in
    ap (λ (t : List ℕ). slice_get items (get_or t pid 0)) is
    ∙ ap (slice_get items) (get_or-replicate (MAX_PROCESSES + 1) pid (length items) 0 below)
    ∙ slice_get_past items (length items) (let e : length items ≤ length items = omega arith in e)
    ∙ ap (find (is_command_of pid)) (sym (drop_all (length items) items (let e : length items ≤ length items = omega arith in e)))

pub none_next : (items : List Item) (next : List ℕ) → AreNextFrom items next (length items)
none_next items next k d from below = absurd (let none : ⊥ = omega (arith, from, below) in none)

-- ---- one item more in front

pub next_step : (items : List Item) (next latest : List ℕ) (place v : ℕ) (x : Item) → place < length items → length next ≡ length items → x ≡ get_or items place x → process_of x ≤ MAX_PROCESSES →
    v ≡ get_or latest (process_of x) 0 → AreLatest items latest (place + 1) → AreNextFrom items next (place + 1) → AreNextFrom items (set next place v) place
next_step items next latest place v x below long at few was are more k d from inside = each (k == place) refl
  where
    each : (b : Bool) → (k == place) ≡ b → slice_get items (get_or (set next place v) k 0) ≡ find (is_command_of (process_of (get_or items k d))) (drop (k + 1) items)
    each true e =
        let same : k ≡ place = eqb-true k place e in
        let there : place < length next = omega (arith, below, long) in
        let it : x ≡ get_or items k d = at ∙ get_or_default items place x d below ∙ ap (λ (n : ℕ). get_or items n d) (sym same) in
        ap (λ (n : ℕ). slice_get items (get_or (set next place v) n 0)) same
        ∙ ap (slice_get items) (get_or-set_same next place v 0 there ∙ was)
        ∙ are (process_of x) few
        ∙ ap (λ (n : ℕ). find (is_command_of (process_of x)) (drop (n + 1) items)) (sym same)
        ∙ ap (λ (y : Item). find (is_command_of (process_of y)) (drop (k + 1) items)) it
    each false e =
        let apart : k ≡ place → ⊥ = eqb-false k place e in
        let later : place + 1 ≤ k = omega (arith, from, apart) in
        ap (slice_get items) (get_or-set_other next place k v 0 apart) ∙ more k d later inside

other_process : (x : Item) (pid : ℕ) → (pid ≡ process_of x → ⊥) → is_command_of pid x ≡ false
other_process (entry x) pid other = ap (λ (b : Bool). b && not (is_fault x.deed)) (ne_eqb x.pid pid (λ same. other (sym same)))
other_process (line p l) pid other = ne_eqb p pid (λ same. other (sym same))

cut_at : (items : List Item) (place pid : ℕ) (x : Item) (b : Bool) → place < length items → x ≡ get_or items place x → is_command_of pid x ≡ b →
    find (is_command_of pid) (drop place items) ≡ cond b (Some x) (find (is_command_of pid) (drop (place + 1) items))
cut_at items place pid x b below at is =
    ap (find (is_command_of pid)) (drop_more items place x below ∙ ap (λ (y : Item). y ∷ drop (place + 1) items) (sym at))
    ∙ ap (λ (c : Bool). cond c (Some x) (find (is_command_of pid) (drop (place + 1) items))) is

pub latest_kept : (items : List Item) (latest : List ℕ) (place : ℕ) (x : Item) → place < length items → x ≡ get_or items place x → is_command_of (process_of x) x ≡ false →
    AreLatest items latest (place + 1) → AreLatest items latest place
latest_kept items latest place x below at none are pid few = are pid few ∙ sym (cut_at items place pid x false below at (each (pid == process_of x) refl))
  where
    each : (b : Bool) → (pid == process_of x) ≡ b → is_command_of pid x ≡ false
    each true e = ap (λ (n : ℕ). is_command_of n x) (eqb-true pid (process_of x) e) ∙ none
    each false e = other_process x pid (eqb-false pid (process_of x) e)

pub latest_set : (items : List Item) (latest : List ℕ) (place : ℕ) (x : Item) → place < length items → length latest ≡ MAX_PROCESSES + 1 → x ≡ get_or items place x → is_command_of (process_of x) x ≡ true →
    AreLatest items latest (place + 1) → AreLatest items (set latest (process_of x) place) place
latest_set items latest place x below long at is are pid few = each (pid == process_of x) refl
  where
    each : (b : Bool) → (pid == process_of x) ≡ b → slice_get items (get_or (set latest (process_of x) place) pid 0) ≡ find (is_command_of pid) (drop place items)
    each true e =
        let same : pid ≡ process_of x = eqb-true pid (process_of x) e in
        let there : process_of x < length latest = omega (arith, same, few, long) in
        ap (λ (n : ℕ). slice_get items (get_or (set latest (process_of x) place) n 0)) same
        ∙ ap (slice_get items) (get_or-set_same latest (process_of x) place 0 there)
        ∙ slice_get_read items (length items) place x refl below at
        ∙ sym (cut_at items place pid x true below at (ap (λ (n : ℕ). is_command_of n x) same ∙ is))
    each false e =
        let other : pid ≡ process_of x → ⊥ = eqb-false pid (process_of x) e in
        ap (slice_get items) (get_or-set_other latest (process_of x) pid place 0 other) ∙ are pid few ∙ sym (cut_at items place pid x false below at (other_process x pid other))

pub all_at : {X : Type 0} (P : X → Type 0) (xs : List X) (k : ℕ) (d : X) → AllByRecursion P xs → k < length xs → P (get_or xs k d)
all_at P [] k d all below = absurd (let none : ⊥ = omega (arith, below) in none)
all_at P (x ∷ xs) zero d all below = all.0
all_at P (x ∷ xs) (suc k) d all below = all_at P xs k d all.1 (omega (arith, below))
