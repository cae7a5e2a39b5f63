-- Calls by the residences of a table are those of each state that has these.
use Rattle.std.proofs.Common.{◌≡◌, ℕ, ◌<◌, ◌==◌, Bool, true, false, cond, List, [], ◌∷◌, ◌++◌, map, sym, ◌∙◌, ap}
use Rattle.std.specs.Prelude.{All, filter_map, option_map, reverse}
use Rattle.std.proofs.lemmas.List.{append-nil}
use Rattle.std.proofs.lemmas.List.Elements.{All-nil, All-cons, All-head, All-tail}
use Rattle.lx_types.proofs.Lists.{map_agree}
use Rattle.load_model.specs.declared.deeds.Fresh.{Fresh}
use Rattle.load_model.specs.declared.deeds.How.{How}
use Rattle.load_model.specs.Modules.{Library}
use Rattle.load_model.specs.State.{Residence, Process, Eager, with_process, residence_of, serial_of}
use Rattle.load_model.specs.Entering.{joined, newcomers, residence_from, after_entering, init_of, main_of, entering_calls}
use Rattle.load_model.specs.Initialising.{before_number, undoing_calls}
use Rattle.load_model.specs.Leaving.{left, gone_modules, gone, gone_of, term_of, leaving_calls}
use Rattle.residence_table.specs.Residences.{unwritten, unwritten_residences}
use Rattle.residence_table.specs.Placing.{state_with}
use Rattle.residence_table.proofs.CallLists.{filter_map_same, term_same, init_same, main_same}
use Rattle.residence_table.proofs.Resident.{residence_is, standing_with, serial_written}

-- ---- what leaves

stands_alone : (e : Eager) (rs : List Residence) (m : ℕ) → unwritten_residences e ≡ rs → residence_of (state_with (rs ++ map residence_from [])) m ≡ option_map unwritten (residence_of e m)
stands_alone e rs m same = sym (residence_is e (rs ++ []) m (same ∙ sym (append-nil rs)))

pub leaving_is : (lib : Library) (e : Eager) (pid : ℕ) (p : Process) (rs : List Residence) (left_now gone_now : List ℕ) → unwritten_residences e ≡ rs → left_now ≡ left lib p →
    gone_now ≡ gone_modules lib e pid p → filter_map (term_of lib (state_with (rs ++ map residence_from [])) gone_now) left_now ≡ leaving_calls lib e pid p
unfolding leaving_calls
leaving_is lib e pid p rs left_now gone_now same left_is gone_is =
    filter_map_same (term_of lib (state_with (rs ++ map residence_from [])) gone_now) (term_of lib e gone_now)
    (λ m. term_same lib (state_with (rs ++ map residence_from [])) e gone_now m (stands_alone e rs m same)) left_now
    ∙ ap (λ gs. filter_map (term_of lib e gs) left_now) gone_is ∙ ap (filter_map (term_of lib e (gone_modules lib e pid p))) left_is

pub gone_is : (lib : Library) (e : Eager) (pid : ℕ) (p : Process) (rs : List Residence) (gone_now : List ℕ) → unwritten_residences e ≡ rs →
    gone_now ≡ gone_modules lib e pid p → map (gone_of (state_with (rs ++ map residence_from []))) gone_now ≡ gone lib e pid p
unfolding gone
gone_is lib e pid p rs gone_now same is =
    map_agree (gone_of (state_with (rs ++ map residence_from []))) (gone_of e) (λ m. ap (λ n. record { serial = n; «module» = m }) (ap serial_of (stands_alone e rs m same) ∙ serial_written (residence_of e m))) gone_now
    ∙ ap (map (gone_of e)) is

-- ---- a start or a load

stands_after : (lib : Library) (e : Eager) (pid : ℕ) (how : How) (m : ℕ) (fresh : List Fresh) (rs : List Residence) (k : ℕ) → unwritten_residences e ≡ rs →
    residence_of (state_with (rs ++ map residence_from fresh)) k ≡ option_map unwritten (residence_of (after_entering lib e pid how m fresh) k)
unfolding after_entering with_process
stands_after lib e pid how m fresh rs k same =
    sym (residence_is (after_entering lib e pid how m fresh) (rs ++ map residence_from fresh) k (standing_with e.residences fresh ∙ ap (λ xs. xs ++ map residence_from fresh) same))

pub entering_is : (lib : Library) (e : Eager) (pid : ℕ) (how : How) (m : ℕ) (fresh : List Fresh) (rs : List Residence) (joined_now : List ℕ) → unwritten_residences e ≡ rs →
    joined_now ≡ joined lib e pid m → map (λ (f : Fresh). f.«module») fresh ≡ newcomers lib e pid m →
    filter_map (init_of lib (state_with (rs ++ map residence_from fresh)) (map (λ (f : Fresh). f.«module») fresh)) joined_now
    ++ main_of lib (state_with (rs ++ map residence_from fresh)) how m ≡ entering_calls lib e pid how m fresh
unfolding entering_calls
entering_is lib e pid how m fresh rs joined_now same joined_is new_is =
    let after = after_entering lib e pid how m fresh in
    let new = map (λ (f : Fresh). f.«module») fresh in
    let with = state_with (rs ++ map residence_from fresh) in
    let inits =
    filter_map_same (init_of lib (state_with (rs ++ map residence_from fresh)) (map (λ (f : Fresh). f.«module») fresh))
    (init_of lib (after_entering lib e pid how m fresh) (map (λ (f : Fresh). f.«module») fresh))
    (λ k. init_same lib (state_with (rs ++ map residence_from fresh)) (after_entering lib e pid how m fresh) (map (λ (f : Fresh). f.«module») fresh) k
    (stands_after lib e pid how m fresh rs k same)) joined_now
    ∙ ap (λ ns. filter_map (init_of lib (after_entering lib e pid how m fresh) ns) joined_now) new_is
    ∙ ap (filter_map (init_of lib (after_entering lib e pid how m fresh) (newcomers lib e pid m))) joined_is
    in
    ap (λ cs. cs ++ main_of lib (state_with (rs ++ map residence_from fresh)) how m) inits
    ∙ ap (λ cs. filter_map (init_of lib (after_entering lib e pid how m fresh) (newcomers lib e pid m)) (joined lib e pid m) ++ cs)
    (main_same lib (state_with (rs ++ map residence_from fresh)) (after_entering lib e pid how m fresh) how m (stands_after lib e pid how m fresh rs m same))

pub undoing_is : (lib : Library) (e : Eager) (pid : ℕ) (how : How) (m by : ℕ) (fresh : List Fresh) (rs : List Residence) (joined_now before : List ℕ) → unwritten_residences e ≡ rs →
    joined_now ≡ joined lib e pid m → map (λ (f : Fresh). f.«module») fresh ≡ newcomers lib e pid m → before ≡ before_number by joined_now →
    filter_map (term_of lib (state_with (rs ++ map residence_from fresh)) (map (λ (f : Fresh). f.«module») fresh)) (reverse before) ≡ undoing_calls lib e pid how m by fresh
undoing_is lib e pid how m by fresh rs joined_now before same joined_is new_is before_is =
    filter_map_same (term_of lib (state_with (rs ++ map residence_from fresh)) (map (λ (f : Fresh). f.«module») fresh))
    (term_of lib (after_entering lib e pid how m fresh) (map (λ (f : Fresh). f.«module») fresh))
    (λ k. term_same lib (state_with (rs ++ map residence_from fresh)) (after_entering lib e pid how m fresh) (map (λ (f : Fresh). f.«module») fresh) k
    (stands_after lib e pid how m fresh rs k same)) (reverse before)
    ∙ ap (λ ns. filter_map (term_of lib (after_entering lib e pid how m fresh) ns) (reverse before)) new_is
    ∙ ap (λ ks. filter_map (term_of lib (after_entering lib e pid how m fresh) (newcomers lib e pid m)) (reverse ks)) (before_is ∙ ap (before_number by) joined_is)

pub before_within : (n by : ℕ) (xs : List ℕ) → All (λ x. x < n) xs → All (λ x. x < n) (before_number by xs)
before_within n by [] within = within
before_within n by (x ∷ xs) within = by_test (x == by) (before_within n by xs (All-tail (λ y. y < n) x xs within))
  where
    by_test : (b : Bool) → All (λ y. y < n) (before_number by xs) → All (λ y. y < n) (cond b [] (x ∷ before_number by xs))
    by_test true rest = All-nil (λ y. y < n)
    by_test false rest = All-cons (λ y. y < n) x (before_number by xs) (All-head (λ y. y < n) x xs within) rest
