-- What a view stands for, through entries of other processes, and what it refuses.
use Rattle.std.proofs.Common.{◌≡◌, ℕ, zero, suc, ◌<◌, ◌==◌, true, false, not, List, [], ◌∷◌, ◌++◌, map, length, Option, Some, None, option_map, refl, sym, ◌∙◌, ap, subst, append_assoc, append-nil}
use Rattle.std.specs.Prelude.{slice_index, nat_le}
use Rattle.std.specs.List.{AllByRecursion}
use Rattle.std.proofs.lemmas.List.{length-map}
use Rattle.std.proofs.lemmas.List.Folds.{list_any-append}
use Rattle.std.proofs.lemmas.List.Quantifiers.{position-Some}
use Rattle.std.proofs.lemmas.Bool.{or_left}
use Rattle.lx_types.specs.Object.{class_of}
use Rattle.lx_types.specs.declared.object.Class.{Class}
use Rattle.lx_types.specs.declared.object.Class.TheVariants as classes
use Rattle.lx_types.specs.declared.entry.EntryKey.{EntryKey}
use Rattle.lx_model.specs.Library.{no_module, has_name}
use Rattle.load_model.specs.declared.commands.Place.{Place}
use Rattle.load_model.specs.declared.commands.Command.{Command}
use Rattle.load_model.specs.declared.commands.Command.TheVariants as commands
use Rattle.load_model.specs.declared.commands.Refusal.TheVariants.{Ended, NotLibrary, CountFull, NotHeld}
use Rattle.load_model.specs.declared.deeds.How.{How}
use Rattle.load_model.specs.declared.deeds.How.TheVariants.{Start, Load}
use Rattle.load_model.specs.declared.deeds.Entry.{Entry}
use Rattle.load_model.specs.Modules.{Library, Held, number_of, is_library, unfit, object_at}
use Rattle.load_model.specs.State.{PageOf, Written, Residence, Process, Failing, Eager, pids, is_among, reaches, attached_residence}
use Rattle.load_model.specs.Entering.{residence_from}
use Rattle.load_model.specs.Refusals.{Purpose, touch, write, share, peek, debug, when, ◌orelse◌, class_refusal, span_refusal, module_refusal, module_or_none, started_refusal, enter_refusal, is_held, free_refusal, touch_refusal, residence_refusal, residence_if, residence_named, place_refusal, key_refusal, query_refusal, found_refusal, resource_refusal, refusal_of}
use Rattle.lx_types.specs.declared.limits.TheConstants.{MAX_LOADS}
use Rattle.load_model.specs.Histories.{after_entry, state_after, is_fault_of, has_fault, Follows, Legal}
use Rattle.load_model.specs.Accepted.{retouched}
use Rattle.load_model.specs.Alike.{Alike}
use Rattle.load_model.specs.Laws.{unwritten_of}
use Rattle.load_model.specs.ProcessCounts.{ProcessCounts, AreCountsOf}
use Rattle.load_model.specs.Views.{Mapped, Holding, mapped_pages, fresh_of, lying_byte, IsMapped, is_covered, IsViewOf, WasFixed, StandsFor}
use Rattle.load_model.specs.ViewAnswers.{seen_process, view_module_refusal, view_module_or_none, view_enter_refusal, is_held_in, view_free_refusal, reached_if, reached_named, view_place_refusal, view_refusal}
use Rattle.load_model.specs.ViewLaws.{NewStands, StandsOn, RefusedByView}
use Rattle.load_model.proofs.Orders.{OrdersNest}
use Rattle.load_model.proofs.Growing.{one_more_is_after, prefix_is_legal, each_follows}
use Rattle.load_model.proofs.Apart.{attached_stays, others_leave_alike, place_by_stay, key_by_stay, found_by_stay}
use Rattle.load_model.proofs.Bytes.{with_writes, same_stay, some_stay, attached_is, bases_alike, byte_alike}
use Rattle.load_model.proofs.Touched.{named_apart}

-- ---- a new view

none_counted : (lib : Library) (m : ℕ) → slice_index (map (λ k. 0) lib) m ≡ 0
none_counted [] m = refl
none_counted (x ∷ lib) zero = refl
none_counted (x ∷ lib) (suc m) = none_counted lib m

pub new_stands : NewStands
unfolding state_after attached_residence reaches
new_stands lib failing contents pid = record {
  front = refl;
  view = record {
    ended = refl;
    counts = record {
      started = refl;
      attached = refl;
      loads_are = length-map lib (λ m. 0);
      loads = λ m below. none_counted lib m;
      reached_are = length-map lib (λ m. 0);
      reached = λ m below. none_counted lib m;
    };
    residences = λ m. refl;
    mapped = tt;
    writes = tt;
  };
  faults = tt;
}

-- ---- entries of other processes

fresh_by_stay : (r : Option Residence) → option_map fresh_of r ≡ option_map fresh_of (unwritten_of r)
fresh_by_stay None = refl
fresh_by_stay (Some r) = refl

fresh_stays : (r s : Option Residence) → unwritten_of r ≡ unwritten_of s → option_map fresh_of r ≡ option_map fresh_of s
fresh_stays r s e = fresh_by_stay r ∙ ap (option_map fresh_of) e ∙ sym (fresh_by_stay s)

lying_alike : OrdersNest → (lib : Library) (contents : Held) (e after : Eager) (q : ℕ) (a : Residence) (ws : List Written) (object x : ℕ) (c : Class) → Alike lib e after q →
    reaches lib (e.processes q) a.«module» ≡ true → class_of (object_at lib a.«module» object) ≡ c →
    lying_byte c lib contents e q a object x ≡ lying_byte c lib contents after q (with_writes a ws) object x
lying_alike nest lib contents e after q a ws object x classes.Code alike reached is = sym (byte_alike nest lib contents e after q a ws object x alike reached (ap (class_refusal peek) is))
lying_alike nest lib contents e after q a ws object x classes.Private alike reached is = sym (byte_alike nest lib contents e after q a ws object x alike reached (ap (class_refusal peek) is))
lying_alike nest lib contents e after q a ws object x classes.Shared alike reached is = ap (λ bases. contents a.«module» bases object x) (sym (bases_alike nest lib e after q a.«module» alike reached))

mapped_alike : OrdersNest → (lib : Library) (contents : Held) (e after : Eager) (q : ℕ) (p : Mapped) → Alike lib e after q → IsMapped lib contents e q p → IsMapped lib contents after q p
mapped_alike nest lib contents e after q p alike it =
    step (attached_residence lib after q it.residence.«module») refl (attached_stays lib e after q it.residence.«module» alike ∙ ap unwritten_of it.there)
  where
    step : (o : Option Residence) → attached_residence lib after q it.residence.«module» ≡ o → unwritten_of (attached_residence lib after q it.residence.«module») ≡ unwritten_of (Some it.residence) →
        IsMapped lib contents after q p
    step None is same = absurd (some_stay it.residence (ap unwritten_of (sym is) ∙ same))
    step (Some b) is same =
        let equal : b ≡ with_writes it.residence b.writes = same_stay it.residence b (ap unwritten_of (sym is) ∙ same) in
        record {
          residence = with_writes it.residence b.writes;
          there = is ∙ ap Some equal;
          serial = it.serial;
          bytes = λ x on below.
              it.bytes x on below
              ∙ lying_alike nest lib contents e after q it.residence b.writes p.of.page.object x (class_of (object_at lib it.residence.«module» p.of.page.object)) alike
              (attached_is lib e q it.residence.«module» it.residence it.there).0 refl;
        }

all_mapped : OrdersNest → (lib : Library) (contents : Held) (e after : Eager) (q : ℕ) (ps : List Mapped) → Alike lib e after q → AllByRecursion (IsMapped lib contents e q) ps →
    AllByRecursion (IsMapped lib contents after q) ps
all_mapped nest lib contents e after q [] alike all = tt
all_mapped nest lib contents e after q (p ∷ ps) alike all = (mapped_alike nest lib contents e after q p alike all.0, all_mapped nest lib contents e after q ps alike all.1)

pub view_alike : OrdersNest → (lib : Library) (contents : Held) (v : Holding) (e after : Eager) → Alike lib e after v.pid → IsViewOf lib contents v e → IsViewOf lib contents v after
view_alike nest lib contents v e after alike view = record {
  ended = view.ended ∙ ap (λ (p : Process). p.ended) (sym alike.process);
  counts = subst (λ p. AreCountsOf lib p v.counts) (sym alike.process) view.counts;
  residences = λ m. view.residences m ∙ sym (fresh_stays (attached_residence lib after v.pid m) (attached_residence lib e v.pid m) (attached_stays lib e after v.pid m alike));
  mapped = all_mapped nest lib contents e after v.pid v.mapped alike view.mapped;
  writes = subst (λ (p : Process). AllByRecursion (λ w. is_covered (mapped_pages v) w ≡ true) p.writes) (sym alike.process) view.writes;
}

pub fixed_more : (lib : Library) (v : Holding) (h : List Entry) (x : Entry) (ps : List Mapped) → AllByRecursion (WasFixed lib v h) ps → AllByRecursion (WasFixed lib v (h ++ x ∷ [])) ps
unfolding has_fault
fixed_more lib v h x [] all = tt
fixed_more lib v h x (p ∷ ps) all = (
  λ m s at same own. list_any-append (λ (entry : Entry). is_fault_of p.of.serial p.of.page entry.deed) h (x ∷ []) ∙ or_left (has_fault h p.of.serial p.of.page) _ (all.0 m s at same own),
  fixed_more lib v h x ps all.1,
)

one_on : OrdersNest → (lib : Library) (failing : Failing) (contents : Held) (v : Holding) (h : List Entry) (x : Entry) → is_among pids v.pid ≡ true → (v.pid == x.pid) ≡ false →
    Legal lib failing contents h → Follows lib failing contents h x → StandsFor lib failing contents v h →
    StandsFor lib failing contents (record v { front = length (h ++ x ∷ []) }) (h ++ x ∷ [])
one_on nest lib failing contents v h x there other legal follows stands =
    let view : IsViewOf lib contents v (after_entry lib (state_after lib failing h) x) =
    view_alike nest lib contents v (state_after lib failing h) _ (others_leave_alike lib failing contents h x v.pid legal follows there other) stands.view
    in
    let later : IsViewOf lib contents v (state_after lib failing (h ++ x ∷ [])) = subst (IsViewOf lib contents v) (sym (one_more_is_after lib failing h x)) view in
    record {
      front = refl;
      view = record { ended = later.ended; counts = later.counts; residences = later.residences; mapped = later.mapped; writes = later.writes };
      faults = fixed_more lib v h x v.mapped stands.faults;
    }

all_on : OrdersNest → (lib : Library) (failing : Failing) (contents : Held) (more : List Entry) (v : Holding) (h : List Entry) → is_among pids v.pid ≡ true →
    StandsFor lib failing contents v h → Legal lib failing contents (h ++ more) → AllByRecursion (λ (x : Entry). (v.pid == x.pid) ≡ false) more →
    StandsFor lib failing contents (record v { front = length (h ++ more) }) (h ++ more)
all_on nest lib failing contents [] v h there stands legal others =
    subst (λ k. StandsFor lib failing contents (record v { front = length k }) k) (sym (append-nil h))
    (subst (λ n. StandsFor lib failing contents (record v { front = n }) h) stands.front stands)
all_on nest lib failing contents (x ∷ more) v h there stands legal others =
    let joined : (h ++ x ∷ []) ++ more ≡ h ++ x ∷ more = append_assoc h (x ∷ []) more in
    subst (λ k. StandsFor lib failing contents (record v { front = length k }) k) joined
    (all_on nest lib failing contents more (record v { front = length (h ++ x ∷ []) }) (h ++ x ∷ []) there
    (one_on nest lib failing contents v h x there others.0 (prefix_is_legal lib failing contents h (x ∷ more) legal) (each_follows lib failing contents h x more legal) stands)
    (subst (Legal lib failing contents) (sym joined) legal) others.1)

pub stands_on : OrdersNest → StandsOn
stands_on nest lib failing contents v h more there stands legal others = all_on nest lib failing contents more v h there stands legal others

-- ---- refusals

-- a name means a module of the library
named_below : (lib : Library) (name : List ℕ) (m : ℕ) → number_of lib name ≡ Some m → m < length lib
unfolding number_of
named_below lib name m is = (position-Some (has_name name) lib m no_module is).0

module_by_view : (lib : Library) (v : Holding) (p : Process) (how : How) (m : ℕ) → AreCountsOf lib p v.counts → m < length lib → module_refusal lib p how m ≡ view_module_refusal lib v how m
unfolding module_refusal
module_by_view lib v p Start m counts below = refl
module_by_view lib v p Load m counts below =
    ap (λ n. when (not (is_library lib m)) NotLibrary orelse unfit lib m orelse when (nat_le MAX_LOADS n) CountFull) (sym (counts.loads m below))

module_or_none_by_view : (lib : Library) (v : Holding) (p : Process) (how : How) (name : List ℕ) (o : Option ℕ) → AreCountsOf lib p v.counts → number_of lib name ≡ o →
    module_or_none lib p how o ≡ view_module_or_none lib v how o
module_or_none_by_view lib v p how name None counts is = refl
module_or_none_by_view lib v p how name (Some m) counts is = module_by_view lib v p how m counts (named_below lib name m is)

started_by_view : (v : Holding) (p : Process) (how : How) → v.counts.started ≡ p.started → started_refusal p how ≡ started_refusal (seen_process v) how
started_by_view v p Start same = ap (λ (o : Option ℕ). started_refusal (record (seen_process v) { started = o }) Start) (sym same)
started_by_view v p Load same = refl

enter_by_view : (lib : Library) (v : Holding) (p : Process) (how : How) (name : List ℕ) → AreCountsOf lib p v.counts → v.ended ≡ p.ended →
    enter_refusal lib p how (number_of lib name) ≡ view_enter_refusal lib v how (number_of lib name)
unfolding enter_refusal
enter_by_view lib v p how name counts ended =
    ap (λ b. when b Ended orelse started_refusal p how orelse module_or_none lib p how (number_of lib name)) (sym ended)
    ∙ ap (λ r. when v.ended Ended orelse r orelse module_or_none lib p how (number_of lib name)) (started_by_view v p how counts.started)
    ∙ ap (λ r. when v.ended Ended orelse started_refusal (seen_process v) how orelse r) (module_or_none_by_view lib v p how name (number_of lib name) counts refl)

held_by_view : (lib : Library) (v : Holding) (p : Process) (name : List ℕ) (o : Option ℕ) → AreCountsOf lib p v.counts → number_of lib name ≡ o → is_held p o ≡ is_held_in v o
held_by_view lib v p name None counts is = refl
held_by_view lib v p name (Some m) counts is = ap (λ n. not (n == 0)) (sym (counts.loads m (named_below lib name m is)))

free_by_view : (lib : Library) (v : Holding) (p : Process) (name : List ℕ) → AreCountsOf lib p v.counts → v.ended ≡ p.ended →
    free_refusal p (number_of lib name) ≡ view_free_refusal v (number_of lib name)
free_by_view lib v p name counts ended =
    ap (λ b. when b Ended orelse when (not (is_held p (number_of lib name))) NotHeld) (sym ended)
    ∙ ap (λ b. when v.ended Ended orelse when (not b) NotHeld) (held_by_view lib v p name (number_of lib name) counts refl)

-- a residence as the view has it: without the writes that are shared
pub seen_stay : (o : Option Residence) → option_map residence_from (option_map fresh_of o) ≡ unwritten_of o
seen_stay None = refl
seen_stay (Some r) = refl

pub named_by_view : (lib : Library) (contents : Held) (v : Holding) (e : Eager) (name : List ℕ) → IsViewOf lib contents v e → unwritten_of (residence_named lib e v.pid name) ≡ reached_named lib v name
unfolding residence_named
named_by_view lib contents v e name view = step (number_of lib name)
  where
    step : (o : Option ℕ) → unwritten_of (residence_if lib e v.pid o) ≡ reached_if v o
    step None = refl
    step (Some m) = sym (seen_stay (attached_residence lib e v.pid m)) ∙ ap (option_map residence_from) (sym (view.residences m))

touched_by_view : (p : Process) (pages : List PageOf) (v : Holding) (how : Purpose) (serial object offset len : ℕ) →
    touch_refusal how (record p { touched = mapped_pages v }) serial object offset len ≡ touch_refusal how (seen_process v) serial object offset len
touched_by_view p pages v touch serial object offset len = refl
touched_by_view p pages v write serial object offset len = refl
touched_by_view p pages v share serial object offset len = refl
touched_by_view p pages v peek serial object offset len = refl
touched_by_view p pages v debug serial object offset len = refl

residence_by_view : (lib : Library) (p : Process) (v : Holding) (how : Purpose) (at : Place) (r : Option Residence) →
    residence_refusal lib (record p { touched = mapped_pages v }) how at r ≡ residence_refusal lib (seen_process v) how at r
residence_by_view lib p v how at None = refl
residence_by_view lib p v how at (Some r) =
    ap (λ x. span_refusal lib how r.«module» at.object at.offset at.len orelse x) (touched_by_view p [] v how r.serial at.object at.offset at.len)

place_by_view : (lib : Library) (contents : Held) (v : Holding) (e : Eager) (how : Purpose) (at : Place) → IsViewOf lib contents v e →
    place_refusal lib (retouched (λ q. mapped_pages v) e) v.pid how at ≡ view_place_refusal lib v how at
unfolding place_refusal
place_by_view lib contents v e how at view =
    ap (λ b. when b Ended orelse residence_refusal lib (record (e.processes v.pid) { touched = mapped_pages v }) how at (residence_named lib (retouched (λ q. mapped_pages v) e) v.pid at.«module»))
    (sym view.ended)
    ∙ ap (λ r. when v.ended Ended orelse r)
    (ap (residence_refusal lib (record (e.processes v.pid) { touched = mapped_pages v }) how at) (named_apart lib e (λ q. mapped_pages v) v.pid at.«module»)
    ∙ residence_by_view lib (e.processes v.pid) v how at (residence_named lib e v.pid at.«module»)
    ∙ place_by_stay lib (seen_process v) how at (residence_named lib e v.pid at.«module»)
    ∙ ap (residence_refusal lib (seen_process v) how at) (named_by_view lib contents v e at.«module» view))

pub query_by_view : (lib : Library) (contents : Held) (v : Holding) (e : Eager) (name : List ℕ) (key : EntryKey) → IsViewOf lib contents v e →
    query_refusal lib (retouched (λ q. mapped_pages v) e) v.pid name key ≡ (when v.ended Ended orelse key_refusal lib key (reached_named lib v name))
unfolding query_refusal
query_by_view lib contents v e name key view =
    ap (λ b. when b Ended orelse key_refusal lib key (residence_named lib (retouched (λ q. mapped_pages v) e) v.pid name)) (sym view.ended)
    ∙ ap (λ r. when v.ended Ended orelse r)
    (ap (key_refusal lib key) (named_apart lib e (λ q. mapped_pages v) v.pid name) ∙ key_by_stay lib key (residence_named lib e v.pid name)
    ∙ ap (key_refusal lib key) (named_by_view lib contents v e name view))

resource_by_view : (lib : Library) (contents : Held) (v : Holding) (e : Eager) (name : List ℕ) (ty id : ℕ) → IsViewOf lib contents v e →
    resource_refusal lib (retouched (λ q. mapped_pages v) e) v.pid name ty id ≡ (when v.ended Ended orelse found_refusal lib ty id (reached_named lib v name))
unfolding resource_refusal
resource_by_view lib contents v e name ty id view =
    ap (λ b. when b Ended orelse found_refusal lib ty id (residence_named lib (retouched (λ q. mapped_pages v) e) v.pid name)) (sym view.ended)
    ∙ ap (λ r. when v.ended Ended orelse r)
    (ap (found_refusal lib ty id) (named_apart lib e (λ q. mapped_pages v) v.pid name) ∙ found_by_stay lib ty id (residence_named lib e v.pid name)
    ∙ ap (found_refusal lib ty id) (named_by_view lib contents v e name view))

row_touched : (lib : Library) (p : Process) (touched : List PageOf) (counts : ProcessCounts) → AreCountsOf lib p counts → AreCountsOf lib (record p { touched = touched }) counts
row_touched lib p touched counts is = record {
  started = is.started;
  attached = is.attached;
  loads_are = is.loads_are;
  loads = is.loads;
  reached_are = is.reached_are;
  reached = is.reached;
}

pub refusals_by_view : (lib : Library) (contents : Held) (v : Holding) (e : Eager) (command : Command) → IsViewOf lib contents v e →
    refusal_of lib (retouched (λ q. mapped_pages v) e) v.pid command ≡ view_refusal lib v command
unfolding refusal_of view_refusal
refusals_by_view lib contents v e (commands.Start name) view = enter_by_view lib v _ Start name (row_touched lib (e.processes v.pid) (mapped_pages v) v.counts view.counts) view.ended
refusals_by_view lib contents v e (commands.Load name) view = enter_by_view lib v _ Load name (row_touched lib (e.processes v.pid) (mapped_pages v) v.counts view.counts) view.ended
refusals_by_view lib contents v e (commands.Free name) view = free_by_view lib v _ name (row_touched lib (e.processes v.pid) (mapped_pages v) v.counts view.counts) view.ended
refusals_by_view lib contents v e (commands.Touch at) view = place_by_view lib contents v e touch at view
refusals_by_view lib contents v e (commands.Peek at) view = place_by_view lib contents v e peek at view
refusals_by_view lib contents v e (commands.Shared at) view = place_by_view lib contents v e share at view
refusals_by_view lib contents v e (commands.Write at bytes) view = place_by_view lib contents v e write at view
refusals_by_view lib contents v e (commands.Debug at bytes) view = place_by_view lib contents v e debug at view
refusals_by_view lib contents v e (commands.Query name key) view = query_by_view lib contents v e name key view
refusals_by_view lib contents v e (commands.GetRes name ty id) view = resource_by_view lib contents v e name ty id view
refusals_by_view lib contents v e commands.Exit view = ap (λ b. when b Ended) (sym view.ended)

pub refused_by_view : RefusedByView
refused_by_view lib failing contents v h command stands = refusals_by_view lib contents v (state_after lib failing h) command stands.view
