-- What a load and a free change in the counts, in the words of the loader's state.
use Rattle.std.specs.Prelude.{◌≡◌, ℕ, ◌<◌, filter, not, None, slice_index}
use Rattle.load_model.specs.declared.deeds.How.{How}
use Rattle.load_model.specs.declared.deeds.How.TheVariants.{Start, Load}
use Rattle.load_model.specs.Modules.{Library, order_of}
use Rattle.load_model.specs.State.{Process, Eager, with_process, is_reached}
use Rattle.load_model.specs.Entering.{joined, holding, attaching}
use Rattle.load_model.specs.Entering as entering
use Rattle.load_model.specs.Leaving.{freeing, exiting, keeping}
use Rattle.load_model.specs.Leaving as leaving
use Rattle.load_model.specs.ProcessCounts.{ProcessCounts, unreached}
use Rattle.lx_types.specs.declared.limits.TheConstants.{MAX_LOADS}
use Rattle.mod_refs.specs.declared.changes.Leaving.{Leaving}
use Rattle.mod_refs.specs.declared.changes.Leaving.TheVariants.{One, All}
use Rattle.mod_refs.specs.declared.changes.Gained.{Gained}
use Rattle.mod_refs.specs.declared.changes.Lost.{Lost}

-- ---- a start or a load

-- The process has started no program, where it is to start one.
abbrev pub IsIdleFor : How → ProcessCounts → Type 0
IsIdleFor Start counts = counts.started ≡ None
IsIdleFor Load counts = Unit {0}

-- The process holds as many loads of the module as it may, and is to load it once more.
abbrev pub IsFullFor : How → ℕ → ProcessCounts → Type 0
IsFullFor Start m counts = ⊥
IsFullFor Load m counts = slice_index counts.loads m ≡ MAX_LOADS

-- the process that has attached what the module reaches, and holds it
abbrev pub entered : Library → How → ℕ → Process → Process
entered lib how m p = holding how m (attaching (unreached lib p (order_of lib m)) p)

-- What is attached, and what of it no process reaches, in the order of imports.
pub record IsGained (lib : Library) (e : Eager) (pid m : ℕ) (gained : Gained) : Type 0 where
  pub joined : gained.joined.items ≡ entering.joined lib e pid m
  pub fresh : gained.fresh.items ≡ filter (λ k. not (is_reached lib e k)) (entering.joined lib e pid m)

-- the state in which the process has attached that, and holds the module
abbrev pub with_entered : Library → Eager → ℕ → How → ℕ → Eager
with_entered lib e pid how m = with_process e pid (holding how m (attaching (joined lib e pid m) (e.processes pid)))

-- ---- a free or an exit

-- the process that gave this up
abbrev pub given_up : Leaving → Process → Process
given_up (One m) p = freeing m p
given_up All p = exiting p

-- The process holds what it gives up.
abbrev pub IsHeldBy : Leaving → ProcessCounts → Type 0
IsHeldBy (One m) counts = 0 < slice_index counts.loads m
IsHeldBy All counts = Unit {0}

-- What the process no longer reaches, and what of it no process reaches, the last that it attached first.
pub record IsLost (lib : Library) (e : Eager) (pid : ℕ) (what : Leaving) (lost : Lost) : Type 0 where
  pub left : lost.left.items ≡ leaving.left lib (given_up what (e.processes pid))
  pub gone : lost.gone.items ≡ leaving.gone_modules lib e pid (given_up what (e.processes pid))

-- the state in which the process has given it up, and keeps what it still reaches
abbrev pub with_given_up : Library → Eager → ℕ → Leaving → Eager
with_given_up lib e pid what = with_process e pid (keeping lib e (given_up what (e.processes pid)))
