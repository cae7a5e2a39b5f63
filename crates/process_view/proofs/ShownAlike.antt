-- The residences that a process reaches stand as they were shown after an entry of another.
use Rattle.std.proofs.Common.{◌≡◌, ℕ, ◌==◌, Bool, true, false, List, [], ◌∷◌, ◌++◌, map, find, Option, Some, None, option_map, is_some, refl, sym, ap, ◌∙◌, subst, append_assoc, eq-eqb, if◌then◌else◌}
use Rattle.std.specs.List.{AllByRecursion}
use Rattle.lx_types.specs.declared.bases.Bases.{Bases}
use Rattle.load_model.specs.declared.deeds.Fresh.{Fresh}
use Rattle.load_model.specs.Modules.{Library, Held}
use Rattle.load_model.specs.State.{Residence, Process, Eager, reaches, residence_of, serial_of, attached_residence}
use Rattle.load_model.specs.Memory.{bases_seen}
use Rattle.load_model.specs.Alike.{Alike, BasesAreAlike}
use Rattle.load_model.specs.Views.{Holding, fresh_of, reached_of, IsViewOf}
use Rattle.page_frames.specs.Residences.{ResidenceFor}
use Rattle.load_core.specs.Told.{residence_shown}
use Rattle.process_view.specs.ProcessViews.{fresh_shown, AreShown}
use Rattle.process_view.proofs.Shown.{serial_stays}

abbrev pub AreReached : Library → Eager → ℕ → List ResidenceFor → Type 0
AreReached lib e pid rs = AllByRecursion (λ (r : ResidenceFor). reaches lib (e.processes pid) r.«module» ≡ true) rs

-- ---- who has a residence reaches its module

found_or : (p : Fresh → Bool) (b : Bool) (y : Fresh) (rest : Option Fresh) → is_some rest ≡ true → is_some (if b then Some y else rest) ≡ true
found_or p true y rest e = refl
found_or p false y rest e = e

found : (p : Fresh → Bool) (xs : List Fresh) (y : Fresh) (ys : List Fresh) → p y ≡ true → is_some (find p (xs ++ y ∷ ys)) ≡ true
found p [] y ys e = rw e refl
found p (x ∷ xs) y ys e = found_or p (p x) x (find p (xs ++ y ∷ ys)) (found p xs y ys e)

in_residences : (before : List Fresh) (rs : List ResidenceFor) → AllByRecursion (λ (r : ResidenceFor). is_some (find (λ s. s.«module» == r.«module») (before ++ map fresh_shown rs)) ≡ true) rs
in_residences before [] = tt
in_residences before (r ∷ rs) =
    let P : List Fresh → Type 0 = λ all. AllByRecursion (λ (s : ResidenceFor). is_some (find (λ f. f.«module» == s.«module») all) ≡ true) rs in (
      found (λ s. s.«module» == r.«module») before (fresh_shown r) (map fresh_shown rs) (eq-eqb r.«module» r.«module» refl),
      subst P (append_assoc before (fresh_shown r ∷ []) (map fresh_shown rs)) (in_residences (before ++ fresh_shown r ∷ []) rs),
    )

reached_if : (b : Bool) (o : Option Residence) (s : Option Fresh) → s ≡ option_map fresh_of (if b then o else None) → is_some s ≡ true → b ≡ true
reached_if true o s is some = refl
reached_if false o s is some = sym (ap is_some is) ∙ some

reached_at : (lib : Library) (contents : Held) (v : Holding) (e : Eager) (m : ℕ) → IsViewOf lib contents v e → is_some (reached_of v m) ≡ true → reaches lib (e.processes v.pid) m ≡ true
unfolding attached_residence
reached_at lib contents v e m view some = reached_if (reaches lib (e.processes v.pid) m) (residence_of e m) (reached_of v m) (view.residences m) some

all_reached : (lib : Library) (contents : Held) (v : Holding) (e : Eager) (rs : List ResidenceFor) → IsViewOf lib contents v e →
    AllByRecursion (λ (r : ResidenceFor). is_some (find (λ s. s.«module» == r.«module») v.residences) ≡ true) rs → AreReached lib e v.pid rs
all_reached lib contents v e [] view all = tt
all_reached lib contents v e (r ∷ rs) view all = (reached_at lib contents v e r.«module» view all.0, all_reached lib contents v e rs view all.1)

pub residences_reached : (lib : Library) (contents : Held) (v : Holding) (e : Eager) (rs : List ResidenceFor) → IsViewOf lib contents v e → v.residences ≡ map fresh_shown rs → AreReached lib e v.pid rs
residences_reached lib contents v e rs view residences =
    all_reached lib contents v e rs view
    (subst (λ all. AllByRecursion (λ (r : ResidenceFor). is_some (find (λ (s : Fresh). s.«module» == r.«module») all) ≡ true) rs) (sym residences) (in_residences [] rs))

-- ---- an entry of another

alike_shown : (lib : Library) (e after : Eager) (keeper m : ℕ) → serial_of (residence_of after m) ≡ serial_of (residence_of e m) → bases_seen lib after m ≡ bases_seen lib e m →
    residence_shown lib after keeper m ≡ residence_shown lib e keeper m
alike_shown lib e after keeper m serial bases =
    ap (λ (n : ℕ). record { library = lib; serial = n; «module» = m; bases = bases_seen lib after m; keeper = keeper }) serial
    ∙ ap (λ (b : Bases). record { library = lib; serial = serial_of (residence_of e m); «module» = m; bases = b; keeper = keeper }) bases

one_shown : BasesAreAlike → (lib : Library) (e after : Eager) (pid : ℕ) (r : ResidenceFor) → Alike lib e after pid → reaches lib (e.processes pid) r.«module» ≡ true →
    r ≡ residence_shown lib e r.keeper r.«module» → r ≡ residence_shown lib after r.keeper r.«module»
one_shown bases lib e after pid r alike reached shown =
    let m : ℕ = r.«module» in
    let serial : serial_of (residence_of after m) ≡ serial_of (residence_of e m) = sym (serial_stays (residence_of after m)) ∙ (ap serial_of (alike.residences m reached) ∙ serial_stays (residence_of e m)) in
    shown ∙ sym (alike_shown lib e after r.keeper m serial (bases lib e after pid m alike reached))

pub reached_alike : (lib : Library) (e after : Eager) (pid : ℕ) (rs : List ResidenceFor) → Alike lib e after pid → AreReached lib e pid rs → AreReached lib after pid rs
reached_alike lib e after pid rs alike all = subst (λ (p : Process). AllByRecursion (λ (r : ResidenceFor). reaches lib p r.«module» ≡ true) rs) (sym alike.process) all

pub shown_alike_by : BasesAreAlike → (lib : Library) (e after : Eager) (pid : ℕ) (rs : List ResidenceFor) → Alike lib e after pid → AreReached lib e pid rs → AreShown lib e rs → AreShown lib after rs
shown_alike_by bases lib e after pid [] alike reached shown = tt
shown_alike_by bases lib e after pid (r ∷ rs) alike reached shown = (one_shown bases lib e after pid r alike reached.0 shown.0, shown_alike_by bases lib e after pid rs alike reached.1 shown.1)
