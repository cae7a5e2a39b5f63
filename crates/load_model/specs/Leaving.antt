-- What leaves with a load that is given up, or with a process, and what it calls.
-- Control Program reference: DosFreeModule, DosExit; "32-bit Linear eXecutable Module Format": "LX Header" (per-process
-- termination).
use Rattle.std.specs.Prelude.{ℕ, ◌==◌, ◌&&◌, ◌||◌, not, true, List, [], ◌∷◌, map, filter, filter_map, reverse, Option, None, option_map, if◌then◌else◌}
use Rattle.load_model.specs.declared.deeds.Call.{Call}
use Rattle.load_model.specs.declared.deeds.CallKind.TheVariants.{Term}
use Rattle.load_model.specs.declared.deeds.Gone.{Gone}
use Rattle.load_model.specs.Modules.{Library, is_library, start_of, terms_each}
use Rattle.load_model.specs.State.{Process, Eager, with_process, is_among, reaches, is_reached, residence_of, serial_of}
use Rattle.load_model.specs.Entering.{call_of}

-- ---- what is given up

-- a list without the first that is this one
abbrev pub without_one : ℕ → List ℕ → List ℕ
without_one m [] = []
without_one m (x ∷ xs) = if x == m then xs else x ∷ without_one m xs

abbrev pub freeing : ℕ → Process → Process
freeing m p = record p { loads = without_one m p.loads }

abbrev pub exiting : Process → Process
exiting p = record p { started = None; loads = []; ended = true }

-- ---- what leaves, where the process would be this one afterwards

-- what the process no longer reaches, in the reverse of the order in which it was attached
unfoldable pub left : Library → Process → List ℕ
left lib p = reverse (filter (λ m. not (reaches lib p m)) p.attached)

-- what of it no process reaches
unfoldable pub gone_modules : Library → Eager → ℕ → Process → List ℕ
gone_modules lib e pid p = filter (λ m. not (is_reached lib (with_process e pid p) m)) (left lib p)

abbrev pub gone_of : Eager → ℕ → Gone
gone_of e m = record { serial = serial_of (residence_of e m); «module» = m }

unfoldable pub gone : Library → Eager → ℕ → Process → List Gone
gone lib e pid p = map (gone_of e) (gone_modules lib e pid p)

-- A library with a start address is terminated where it is marked for that in each process, or is gone.
abbrev pub term_of : Library → Eager → List ℕ → ℕ → Option Call
term_of lib e gone m =
    if is_library lib m && (terms_each lib m || is_among gone m) then option_map (call_of Term (residence_of e m) m) (start_of lib m) else None

unfoldable pub leaving_calls : Library → Eager → ℕ → Process → List Call
leaving_calls lib e pid p = filter_map (term_of lib e (gone_modules lib e pid p)) (left lib p)

-- ---- the state after it

-- the serials of the residences that left
abbrev pub left_serials : Library → Eager → Process → List ℕ
left_serials lib e p = map (λ m. serial_of (residence_of e m)) (left lib p)

-- the process keeps what it still reaches, with its writes and its touched pages
unfoldable pub keeping : Library → Eager → Process → Process
keeping lib e p = record p {
  attached = filter (reaches lib p) p.attached;
  writes = filter (λ w. not (is_among (left_serials lib e p) w.serial)) p.writes;
  touched = filter (λ t. not (is_among (left_serials lib e p) t.serial)) p.touched;
}

-- residences that nobody reaches end
unfoldable pub after_leaving : Library → Eager → ℕ → Process → Eager
after_leaving lib e pid p =
    let after = with_process e pid (keeping lib e p) in
    record after { residences = filter (λ r. not (is_among (gone_modules lib e pid p) r.«module»)) e.residences }
