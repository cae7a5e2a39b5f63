-- States that differ in touched pages alone.
use Rattle.std.proofs.Common.{◌≡◌, ℕ, ◌==◌, Bool, true, false, cond, if◌then◌else◌, not, List, [], ◌∷◌, map, filter, Option, Some, None, refl, ◌∙◌, ap}
use Rattle.std.specs.Prelude.{filter_map}
use Rattle.std.specs.List.{range_with_len}
use Rattle.lx_types.specs.Object.{class_of}
use Rattle.lx_types.specs.declared.object.Class.{Class}
use Rattle.lx_types.specs.declared.object.Class.TheVariants as classes
use Rattle.load_model.specs.declared.deeds.How.{How}
use Rattle.load_model.specs.declared.deeds.How.TheVariants.{Start, Load}
use Rattle.load_model.specs.declared.deeds.Deed.TheVariants as deeds
use Rattle.load_model.specs.Modules.{Library, Held, object_at}
use Rattle.load_model.specs.State.{PageOf, Residence, Process, Eager, with_process, reaches, is_reached, pids, residence_of, attached_residence}
use Rattle.load_model.specs.Entering.{joined, newcomers, placing, resident_ranges, after_entering, entering_calls}
use Rattle.load_model.specs.Initialising.{failing_module, failed_calls, enter_deed}
use Rattle.load_model.specs.Leaving.{left, gone_modules, gone, gone_of, term_of, leaving_calls, freeing, exiting}
use Rattle.load_model.specs.Memory.{writes_of_class, last_put, bases_seen, writes_seen, Byte, Bytes}
use Rattle.load_model.specs.Refusals.{enter_refusal, module_refusal}
use Rattle.load_model.specs.declared.commands.Ask.{Ask}
use Rattle.load_model.specs.declared.commands.Ask.TheVariants.{Enter as enter, Free as free, Exit as exit, Fault as fault, Write as put, Debug as patch, Shared as get}
use Rattle.load_model.specs.Asks.{bytes_at, deed_of, may_ask}
use Rattle.load_model.specs.Accepted.{retouched, TouchedIsApart}
use Rattle.load_model.proofs.Among.{any_same}

filter_same : (f g : ℕ → Bool) → ((x : ℕ) → f x ≡ g x) → (xs : List ℕ) → filter f xs ≡ filter g xs
filter_same f g h [] = refl
filter_same f g h (x ∷ xs) = ap (λ b. cond b (x ∷ filter f xs) (filter f xs)) (h x) ∙ ap (λ ys. cond (g x) (x ∷ ys) ys) (filter_same f g h xs)

-- a process that may give something up, whatever was touched
reached_same : (lib : Library) (e : Eager) (touched : ℕ → List PageOf) (pid : ℕ) (p : Process) (ts : List PageOf) (m : ℕ) →
    is_reached lib (with_process (retouched touched e) pid (record p { touched = ts })) m ≡ is_reached lib (with_process e pid p) m
unfolding is_reached with_process reaches
reached_same lib e touched pid p ts m = any_same _ _ (λ q. step q (q == pid)) pids
  where
    step : (q : ℕ) (b : Bool) →
        reaches lib (if b then record p { touched = ts } else record (e.processes q) { touched = touched q }) m ≡ reaches lib (if b then p else e.processes q) m
    step q true = refl
    step q false = refl

pub gone_same : (lib : Library) (e : Eager) (touched : ℕ → List PageOf) (pid : ℕ) (p : Process) (ts : List PageOf) →
    gone_modules lib (retouched touched e) pid (record p { touched = ts }) ≡ gone_modules lib e pid p
unfolding gone_modules left reaches
gone_same lib e touched pid p ts = filter_same _ _ (λ m. ap not (reached_same lib e touched pid p ts m)) (left lib p)

gone_list_same : (lib : Library) (e : Eager) (touched : ℕ → List PageOf) (pid : ℕ) (p : Process) (ts : List PageOf) →
    gone lib (retouched touched e) pid (record p { touched = ts }) ≡ gone lib e pid p
unfolding gone residence_of
gone_list_same lib e touched pid p ts = ap (map (gone_of e)) (gone_same lib e touched pid p ts)

calls_same : (lib : Library) (e : Eager) (touched : ℕ → List PageOf) (pid : ℕ) (p : Process) (ts : List PageOf) →
    leaving_calls lib (retouched touched e) pid (record p { touched = ts }) ≡ leaving_calls lib e pid p
unfolding leaving_calls left reaches residence_of
calls_same lib e touched pid p ts = ap (λ ms. filter_map (term_of lib e ms) (left lib p)) (gone_same lib e touched pid p ts)

may_same : (lib : Library) (e : Eager) (touched : ℕ → List PageOf) (pid : ℕ) (ask : Ask) → may_ask lib (retouched touched e) pid ask ≡ may_ask lib e pid ask
unfolding may_ask enter_refusal module_refusal attached_residence residence_of reaches
may_same lib e touched pid (enter Start m) = refl
may_same lib e touched pid (enter Load m) = refl
may_same lib e touched pid (free m) = refl
may_same lib e touched pid exit = refl
may_same lib e touched pid (fault serial m p) = refl
may_same lib e touched pid (put serial m object offset bytes) = refl
may_same lib e touched pid (patch serial m object offset bytes) = refl
may_same lib e touched pid (get serial m object offset len) = refl

enter_same : (lib : Library) (e : Eager) (touched : ℕ → List PageOf) (pid : ℕ) (how : How) (m : ℕ) → enter_deed lib (retouched touched e) pid how m ≡ enter_deed lib e pid how m
unfolding enter_deed failing_module failed_calls placing resident_ranges newcomers joined entering_calls after_entering with_process reaches residence_of
enter_same lib e touched pid how m = refl

pub class_same : (c : Class) (p : Process) (ts : List PageOf) (r : Residence) → writes_of_class c (record p { touched = ts }) r ≡ writes_of_class c p r
class_same classes.Code p ts r = refl
class_same classes.Private p ts r = refl
class_same classes.Shared p ts r = refl

pub bytes_same : (lib : Library) (contents : Held) (e : Eager) (touched : ℕ → List PageOf) (pid object offset len : ℕ) (r : Option Residence) →
    bytes_at lib contents (retouched touched e) pid object offset len r ≡ bytes_at lib contents e pid object offset len r
unfolding Bytes Byte bases_seen writes_seen residence_of
bytes_same lib contents e touched pid object offset len None = refl
bytes_same lib contents e touched pid object offset len (Some r) =
    ap (λ writes. map (λ x. last_put (filter (λ w. w.object == object) writes) x (contents r.«module» (bases_seen lib e r.«module») object x)) (range_with_len offset len))
    (class_same (class_of (object_at lib r.«module» object)) (e.processes pid) (touched pid) r)

deed_same : (lib : Library) (contents : Held) (e : Eager) (touched : ℕ → List PageOf) (pid : ℕ) (ask : Ask) → deed_of lib contents (retouched touched e) pid ask ≡ deed_of lib contents e pid ask
unfolding deed_of attached_residence residence_of reaches Bytes Byte bases_seen writes_seen
deed_same lib contents e touched pid (enter how m) = enter_same lib e touched pid how m
deed_same lib contents e touched pid (free m) =
    ap (λ calls. deeds.Free m calls (gone lib (retouched touched e) pid (record (freeing m (e.processes pid)) { touched = touched pid })))
    (calls_same lib e touched pid (freeing m (e.processes pid)) (touched pid))
    ∙ ap (deeds.Free m (leaving_calls lib e pid (freeing m (e.processes pid)))) (gone_list_same lib e touched pid (freeing m (e.processes pid)) (touched pid))
deed_same lib contents e touched pid exit =
    ap (λ calls. deeds.Exit calls (gone lib (retouched touched e) pid (record (exiting (e.processes pid)) { touched = touched pid })))
    (calls_same lib e touched pid (exiting (e.processes pid)) (touched pid))
    ∙ ap (deeds.Exit (leaving_calls lib e pid (exiting (e.processes pid)))) (gone_list_same lib e touched pid (exiting (e.processes pid)) (touched pid))
deed_same lib contents e touched pid (fault serial m p) = refl
deed_same lib contents e touched pid (put serial m object offset bytes) = refl
deed_same lib contents e touched pid (patch serial m object offset bytes) = refl
deed_same lib contents e touched pid (get serial m object offset len) =
    ap (deeds.Shared serial m object offset) (bytes_same lib contents e touched pid object offset len (attached_residence lib e pid m))

pub touched_is_apart : TouchedIsApart
touched_is_apart lib contents e touched pid ask = (may_same lib e touched pid ask, deed_same lib contents e touched pid ask)
