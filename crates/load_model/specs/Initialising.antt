-- Initialisations that fail, and the entry of a start or of a load.
-- Control Program reference: DosLoadModule (library initialisation).
use Rattle.std.specs.Prelude.{ℕ, ◌+◌, ◌==◌, ◌&&◌, Bool, true, false, List, [], ◌∷◌, ◌++◌, map, filter_map, reverse, find, length, Option, Some, None, option_map, Result, Ok, Err, if◌then◌else◌}
use Rattle.std.specs.List.{list_any}
use Rattle.load_model.specs.declared.deeds.How.{How}
use Rattle.load_model.specs.declared.deeds.Call.{Call}
use Rattle.load_model.specs.declared.deeds.CallKind.{CallKind}
use Rattle.load_model.specs.declared.deeds.CallKind.TheVariants.{Init, Term, Main}
use Rattle.load_model.specs.declared.deeds.Fresh.{Fresh}
use Rattle.load_model.specs.declared.deeds.Gone.{Gone}
use Rattle.load_model.specs.declared.deeds.Deed.{Deed}
use Rattle.load_model.specs.declared.deeds.Deed.TheVariants.{Enter, Full, Failed}
use Rattle.load_model.specs.Modules.{Library}
use Rattle.load_model.specs.State.{Failing, Eager}
use Rattle.load_model.specs.Entering.{NoRoom, joined, newcomers, placing, after_entering, entering_calls}
use Rattle.load_model.specs.Leaving.{term_of}

-- ---- which call fails

-- the initialisation of a module fails in a process
abbrev pub fails_in : Failing → ℕ → ℕ → Bool
fails_in failing pid m = list_any (λ pair. (pair.0 == pid) && (pair.1 == m)) failing

abbrev pub is_init : CallKind → Bool
is_init Init = true
is_init Term = false
is_init Main = false

abbrev pub is_failing : Eager → ℕ → Call → Bool
is_failing e pid c = is_init c.kind && fails_in e.failing pid c.«module»

-- the module of the first call that fails
unfoldable pub failing_module : Library → Eager → ℕ → How → ℕ → List Fresh → Option ℕ
failing_module lib e pid how m fresh = option_map (λ c. c.«module») (find (is_failing e pid) (entering_calls lib e pid how m fresh))

-- ---- what is called then, and what is gone

-- a list up to the first that passes a test, which is among them
abbrev pub up_to : {A : Type 0} → (A → Bool) → List A → List A
up_to f [] = []
up_to f (x ∷ xs) = if f x then x ∷ [] else x ∷ up_to f xs

-- the numbers of a list before one
abbrev pub before_number : ℕ → List ℕ → List ℕ
before_number n [] = []
before_number n (x ∷ xs) = if x == n then [] else x ∷ before_number n xs

-- What was attached before the one that failed is terminated, the last first, as where it leaves: each in its
-- residence after the newcomers, which all leave.
abbrev pub undoing_calls : Library → Eager → ℕ → How → ℕ → ℕ → List Fresh → List Call
undoing_calls lib e pid how m by fresh =
    filter_map (term_of lib (after_entering lib e pid how m fresh) (newcomers lib e pid m)) (reverse (before_number by (joined lib e pid m)))

-- the calls up to the one that fails, and then those that undo what was done
unfoldable pub failed_calls : Library → Eager → ℕ → How → ℕ → ℕ → List Fresh → List Call
failed_calls lib e pid how m by fresh = up_to (is_failing e pid) (entering_calls lib e pid how m fresh) ++ undoing_calls lib e pid how m by fresh

-- what began ends, the last first
abbrev pub gone_again : List Fresh → List Gone
gone_again fresh = map (λ f. record { serial = f.serial; «module» = f.«module» }) (reverse fresh)

-- ---- the entry

-- with newcomers that have their places, and the module, if any, whose initialisation fails
abbrev pub entered : Library → Eager → ℕ → How → ℕ → List Fresh → Option ℕ → Deed
entered lib e pid how m fresh None = Enter how m fresh (entering_calls lib e pid how m fresh)
entered lib e pid how m fresh (Some by) = Failed how m by fresh (failed_calls lib e pid how m by fresh) (gone_again fresh)

-- the first object that has no place keeps all of it out, before any call
abbrev pub enter_by : Library → Eager → ℕ → How → ℕ → Result (List Fresh) NoRoom → Deed
enter_by lib e pid how m (Ok fresh) = entered lib e pid how m fresh (failing_module lib e pid how m fresh)
enter_by lib e pid how m (Err none) = Full how m none.of none.object.object none.object.size

unfoldable pub enter_deed : Library → Eager → ℕ → How → ℕ → Deed
enter_deed lib e pid how m = enter_by lib e pid how m (placing lib e pid m)

-- ---- the state after a failure

-- the serial numbers stay given, and nothing else is left
abbrev pub after_failing : Eager → List Fresh → Eager
after_failing e fresh = record e { serials = e.serials + length fresh }
