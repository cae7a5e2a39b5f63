-- One page, and one object, more; and the modules of an order.
use Rattle.std.specs.Prelude.{◌≡◌, ◌↔◌, ℕ, zero, suc, ◌+◌, ◌<◌, Bool, true, false, IsTrue, Err, List, [], ◌∷◌, ◌++◌, All, Contains, length, map, refl}
use Rattle.std.specs.List.{range_with_len}
use Rattle.std.proofs.Common.{ap, sym, ◌∙◌, arith, subst, get_or, true≢false}
use Rattle.std.proofs.lemmas.List.{get_or-map, length-map}
use Rattle.std.proofs.lemmas.List.Elements.{Contains-get_or}
use Rattle.std.proofs.lemmas.List.FromFn.{map-range_with_len_more}
use Rattle.lx_types.specs.Answers.{Answers}
use Rattle.lx_types.specs.declared.fail.Fail.{Fail}
use Rattle.lx_types.specs.declared.fail.Fail.TheVariants.{Said}
use Rattle.lx_model.specs.Laws.{OrderIsInLibrary}
use Rattle.lx_model.specs.Reach.{Order}
use Rattle.load_model.specs.Entering.{with_fresh_residences}
use Rattle.load_model.specs.Memory.{page}
use Rattle.load_model.specs.Modules.{Library}
use Rattle.load_model.specs.State.{Eager, Residence, bases_of, nothing_yet, residence_of}
use Rattle.load_model.specs.declared.deeds.Fresh.{Fresh}
use Rattle.memory_model.specs.declared.held.ObjectMemory.{ObjectMemory}
use Rattle.memory_model.specs.declared.held.PageMemory.{PageMemory}
use Rattle.module_pages.specs.Placed.{PlacedModule}
use Rattle.residence_table.specs.Called.{IsAt}
use Rattle.residence_table.specs.Residences.{residences, unwritten_residences}
use Rattle.residence_table.specs.declared.placement.Placement.{Placement}
use Rattle.memory_core.specs.Brought.{standing}
use Rattle.memory_core.specs.Objects.{page_held, pages_held, object_held, first_held}

pub page_more : (at : PlacedModule) (object n : ℕ) (old new : List PageMemory) (one : PageMemory) → old ≡ pages_held at object n → one ≡ page_held at (page object n) → new ≡ old ++ one ∷ []
    → new ≡ pages_held at object (n + 1)
page_more at object n old new one before is made =
    made
    ∙ ap (λ (ps : List PageMemory). ps ++ one ∷ []) before
    ∙ ap (λ (p : PageMemory). pages_held at object n ++ p ∷ []) is
    ∙ sym (map-range_with_len_more (λ (p : ℕ). page_held at (page object p)) 0 n n (omega arith))

pub object_more : (at : PlacedModule) (own : List ℕ) (n : ℕ) (old new : List ObjectMemory) (one : ObjectMemory) → old ≡ first_held at own n → one ≡ object_held at own (n + 1) → new ≡ old ++ one ∷ []
    → new ≡ first_held at own (n + 1)
object_more at own n old new one before is made =
    made
    ∙ ap (λ (os : List ObjectMemory). os ++ one ∷ []) before
    ∙ ap (λ (o : ObjectMemory). first_held at own n ++ o ∷ []) is
    ∙ sym (map-range_with_len_more (object_held at own) 1 n (n + 1) (omega arith))

pub order_within : OrderIsInLibrary → (lib : Library) (order : List ℕ) → 0 < length lib → order ≡ Order lib 0 → All (λ m. m < length lib) order
order_within within lib order some is k d below =
    let x = get_or order k d in
    within lib 0 x some (subst (λ (ms : List ℕ). Contains ms x) is (Contains-get_or order k d below))

pub all_within : (lib : Library) (fresh : List Fresh) (order : List ℕ) → map (λ f. f.«module») fresh ≡ order → All (λ m. m < length lib) order → All (λ f. f.«module» < length lib) fresh
all_within lib fresh order is within k d below =
    let same : get_or (map (λ (f : Fresh). f.«module») fresh) k d.«module» ≡ (get_or fresh k d).«module» = get_or-map (λ (f : Fresh). f.«module») fresh k d d.«module» below in
    let long = length-map fresh (λ (f : Fresh). f.«module») in
    let lt = within k d.«module» (subst (λ (n : ℕ). k < n) (ap length is) (omega (arith, long, below))) in
    subst (λ (m : ℕ). m < length lib) (ap (λ (ms : List ℕ). get_or ms k d.«module») (sym is) ∙ same) lt

-- where nothing else stands
pub bases_placed : {T : Type 0} (rows : List (Residence × T)) (fresh : List Fresh) (k : ℕ) (at : Placement) → rows ≡ []
    → ((e : Eager) → unwritten_residences e ≡ residences rows → IsAt at (residence_of (with_fresh_residences e fresh) k)) → at.bases.now ≡ bases_of (residence_of (standing fresh) k)
bases_placed {T} rows fresh k at none stands = (stands (nothing_yet []) (ap (λ (rs : List (Residence × T)). residences rs) (sym none))).bases

-- ---- a library with modules, or without

pub empty_by : (b : Bool) (n : ℕ) → IsTrue b ↔ (n ≡ 0) → b ≡ true → n ≡ 0
empty_by b n both is = both.0 is

pub some_by : (b : Bool) (n : ℕ) → IsTrue b ↔ (n ≡ 0) → b ≡ false → 0 < n
some_by b zero both is = absurd (true≢false (sym (both.1 refl) ∙ is))
some_by b (suc n) both is = omega arith

-- ---- refusals

pub refused_with : {A R : Type 0} (P : A → Type 0) (Q : R → Type 0) (why : Fail R) (refusal : R) → why ≡ Said refusal → Answers {A = A} (Err why) P Q → Q refusal
refused_with {A} {R} P Q why refusal is says = let S : Fail R → Type 0 = λ w. Answers {A = A} (Err w) P Q in subst S is says
