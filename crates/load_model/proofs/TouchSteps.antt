-- The steps of a touch, entry by entry and page by page.
use Rattle.std.proofs.Common.{◌≡◌, ℕ, ◌+◌, ◌==◌, false, if◌then◌else◌, List, [], ◌∷◌, ◌++◌, refl, ap, arith}
use Rattle.std.specs.Prelude.{sum_by}
use Rattle.std.specs.List.{AllByRecursion}
use Rattle.std.proofs.lemmas.Bool.{eq-eqb}
use Rattle.std.proofs.lemmas.List.Sums.{sum_by-append}
use Rattle.load_model.specs.declared.deeds.Deed.TheVariants as deeds
use Rattle.load_model.specs.declared.deeds.Entry.{Entry}
use Rattle.load_model.specs.Modules.{Library, source_count}
use Rattle.load_model.specs.State.{PageOf}
use Rattle.load_model.specs.TouchSteps.{fault_steps, entry_steps, mapped_steps, touch_steps, OthersCountNothing, FaultCounts, MappedCounts}

others_sum : (lib : Library) (pid : ℕ) (shown more : List Entry) → AllByRecursion (λ (x : Entry). (x.pid == pid) ≡ false) more →
    sum_by (entry_steps lib pid) (shown ++ more) ≡ sum_by (entry_steps lib pid) shown
others_sum lib pid shown more others = (let joined = sum_by-append (entry_steps lib pid) shown more in let none = zero_sum more others in omega (arith, joined, none))
  where
    zero_sum : (more : List Entry) → AllByRecursion (λ (x : Entry). (x.pid == pid) ≡ false) more → sum_by (entry_steps lib pid) more ≡ 0
    zero_sum [] others = refl
    zero_sum (x ∷ more) others =
        let head = sum_by-append (entry_steps lib pid) (x ∷ []) more in
        let other : entry_steps lib pid x ≡ 0 = ap (λ b. if b then fault_steps lib x.deed else 0) others.0 in
        let later = zero_sum more others.1 in
        omega (arith, head, other, later)

pub others_count_nothing : OthersCountNothing
unfolding touch_steps
others_count_nothing lib pid m shown more mapped others = ap (λ n. n + sum_by (λ (t : PageOf). mapped_steps lib m t.page) mapped) (others_sum lib pid shown more others)

own_is : (lib : Library) (pid : ℕ) (n : ℕ) → (if pid == pid then n else 0) ≡ n
own_is lib pid n = ap (λ b. if b then n else 0) (eq-eqb pid pid refl)

pub fault_counts : FaultCounts
unfolding touch_steps
fault_counts lib pid m serial p shown mapped =
    let joined = sum_by-append (entry_steps lib pid) shown (record { pid = pid; deed = deeds.Fault serial m p } ∷ []) in
    let own = own_is lib pid (source_count lib m p) in
    omega (arith, joined, own)

pub mapped_counts : MappedCounts
unfolding touch_steps
mapped_counts lib pid m t shown mapped =
    let joined = sum_by-append (λ (u : PageOf). mapped_steps lib m u.page) mapped (t ∷ []) in
    omega (arith, joined)
