-- The state of a loader with one thread: residences and processes, as plain values. Nothing is kept that
-- can be computed: what a process reaches, and whether a module is resident, follow from who holds what.
-- Control Program reference: DosLoadModule, DosFreeModule.
use Rattle.std.specs.Prelude.{ℕ, ◌==◌, Bool, false, List, [], ◌++◌, find, count_by, Option, Some, None, option_to_list, if◌then◌else◌}
use Rattle.std.specs.List.{list_any, range_with_len}
use Rattle.lx_types.specs.declared.limits.TheConstants.{MAX_PROCESSES}
use Rattle.lx_types.specs.declared.object.PageId.{PageId}
pub use Rattle.lx_model.specs.Reach.{is_among}
use Rattle.load_model.specs.Modules.{Library, order_of}

-- bytes that were written at an offset of an object
pub record Written : Type 0 where
  pub object : ℕ
  pub offset : ℕ
  pub bytes : List ℕ

-- A residence of a module in memory: its serial number, the bases of its objects, and the writes to its shared
-- objects, the oldest first.
pub record Residence : Type 0 where
  pub serial : ℕ
  pub «module» : ℕ
  pub bases : List ℕ
  pub writes : List Written

-- a write of a process's own to a private object, or to code, of a residence
pub record OwnWrite : Type 0 where
  pub serial : ℕ
  pub write : Written

-- a page of a residence
pub record PageOf : Type 0 where
  pub serial : ℕ
  pub page : PageId

-- What a process holds: the program that it started, the libraries that it loaded and has not freed, once
-- for each load, and the modules that it has attached, in the order in which it did; its writes, the oldest
-- first, and the pages that it touched; whether it has ended.
pub record Process : Type 0 where
  pub started : Option ℕ
  pub loads : List ℕ
  pub attached : List ℕ
  pub writes : List OwnWrite
  pub touched : List PageOf
  pub ended : Bool

-- Pairs of a process and a module whose initialisation fails in it.
abbrev pub Failing : Type 0
Failing = List (ℕ × ℕ)

-- the residences, oldest first; how many serials were given; the processes, by number; which initialisations fail,
-- which nothing changes
pub record Eager : Type 0 where
  pub residences : List Residence
  pub serials : ℕ
  pub processes : ℕ → Process
  pub failing : Failing

abbrev pub new_process : Process
new_process = record { started = None; loads = []; attached = []; writes = []; touched = []; ended = false }

-- nothing is resident and no process has done anything
abbrev pub nothing_yet : Failing → Eager
nothing_yet failing = record { residences = []; serials = 0; processes = λ pid. new_process; failing = failing }

-- the state with another process of this number
unfoldable pub with_process : Eager → ℕ → Process → Eager
with_process e pid p = record e { processes = λ other. if other == pid then p else e.processes other }

-- ---- processes

-- their numbers, from 1
abbrev pub pids : List ℕ
pids = range_with_len 1 MAX_PROCESSES

-- ---- what a process reaches

-- the started program and the libraries that are loaded
abbrev pub roots : Process → List ℕ
roots p = option_to_list p.started ++ p.loads

-- how many loads of a module a process holds
abbrev pub count_of : Process → ℕ → ℕ
count_of p m = count_by (λ other. other == m) p.loads

-- a process reaches what its roots reach through imports
unfoldable pub reaches : Library → Process → ℕ → Bool
reaches lib p m = list_any (λ root. is_among (order_of lib root) m) (roots p)

-- some process reaches it
unfoldable pub is_reached : Library → Eager → ℕ → Bool
is_reached lib e m = list_any (λ pid. reaches lib (e.processes pid) m) pids

-- ---- residences

-- the residence of a module
unfoldable pub residence_of : Eager → ℕ → Option Residence
residence_of e m = find (λ r. r.«module» == m) e.residences

abbrev pub serial_of : Option Residence → ℕ
serial_of (Some r) = r.serial
serial_of None = 0

abbrev pub bases_of : Option Residence → List ℕ
bases_of (Some r) = r.bases
bases_of None = []

-- the residence of a module that a process reaches
unfoldable pub attached_residence : Library → Eager → ℕ → ℕ → Option Residence
attached_residence lib e pid m = if reaches lib (e.processes pid) m then residence_of e m else None
