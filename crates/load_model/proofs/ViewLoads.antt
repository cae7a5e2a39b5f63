-- A view after a load of its own.
use Rattle.std.proofs.Common.{◌≡◌, ℕ, ◌++◌, ◌==◌, ◌||◌, true, if◌then◌else◌, List, [], ◌∷◌, length, filter, find, Option, Some, None, option_map, is_some, refl, sym, ◌∙◌, ap, subst}
use Rattle.std.specs.Prelude.{is_none, nat_lt}
use Rattle.std.specs.List.{AllByRecursion}
use Rattle.std.proofs.lemmas.Bool.{eq-eqb}
use Rattle.lx_types.specs.Object.{class_of}
use Rattle.lx_types.specs.declared.bases.Bases.{Bases}
use Rattle.lx_types.specs.declared.object.Class.{Class}
use Rattle.lx_types.specs.declared.object.Class.TheVariants as classes
use Rattle.load_model.specs.declared.deeds.How.{How}
use Rattle.load_model.specs.declared.deeds.How.TheVariants.{Start, Load}
use Rattle.load_model.specs.declared.deeds.Call.{Call}
use Rattle.load_model.specs.declared.deeds.Fresh.{Fresh}
use Rattle.load_model.specs.declared.deeds.Deed.TheVariants as deeds
use Rattle.load_model.specs.declared.deeds.Entry.{Entry}
use Rattle.load_model.specs.Modules.{Library, Held, module_count, order_of, object_at}
use Rattle.load_model.specs.State.{OwnWrite, Written, Residence, Process, Failing, Eager, with_process, is_among, reaches, residence_of, attached_residence}
use Rattle.load_model.specs.Entering.{joined, holding, attaching, after_entering}
use Rattle.load_model.specs.Memory.{last_put, writes_of_class, writes_seen, bases_seen, Byte}
use Rattle.load_model.specs.Refusals.{enter_refusal}
use Rattle.load_model.specs.Asks.{ask_in, may_ask, is_own, after_deed}
use Rattle.load_model.specs.Histories.{state_after, Legal}
use Rattle.load_model.specs.ProcessCounts.{ProcessCounts}
use Rattle.load_model.specs.Views.{Mapped, Holding, mapped_pages, reached_of, fresh_of, lying_byte, IsMapped, is_covered, WasFixed}
use Rattle.load_model.specs.ViewLaws.{StandsEntered}
use Rattle.load_model.proofs.Bools.{and_right, or_true}
use Rattle.load_model.proofs.Orders.{OrdersNest}
use Rattle.load_model.proofs.Kept.{reaches_more}
use Rattle.load_model.proofs.Stays.{entered_stays}
use Rattle.load_model.proofs.Bytes.{attached_is}
use Rattle.load_model.proofs.BasesStay.{bases_seen_stay}
use Rattle.load_model.proofs.Growing.{one_more_is_after, one_more_is_legal}
use Rattle.load_model.proofs.SerialsOwn.{serials_are_own}
use Rattle.load_model.proofs.Views.{fixed_more}
use Rattle.load_model.proofs.ViewReplies.{residence_is, attached_is_resident}

-- ---- a page in two states that have its residence and its writes alike

class_same : (c : Class) (p q : Process) (r : Residence) → p.writes ≡ q.writes → writes_of_class c p r ≡ writes_of_class c q r
class_same classes.Code p q r same = ap (λ (ws : List OwnWrite). writes_of_class classes.Code (record p { writes = ws }) r) same
class_same classes.Private p q r same = ap (λ (ws : List OwnWrite). writes_of_class classes.Private (record p { writes = ws }) r) same
class_same classes.Shared p q r same = refl

abbrev filter_object : ℕ → List Written → List Written
filter_object object ws = filter (λ w. w.object == object) ws

byte_same : (lib : Library) (contents : Held) (e after : Eager) (q : ℕ) (r : Residence) (object x : ℕ) →
    ((c : Class) → writes_of_class c (after.processes q) r ≡ writes_of_class c (e.processes q) r) →
    bases_seen lib after r.«module» ≡ bases_seen lib e r.«module» → Byte lib contents e q r object x ≡ Byte lib contents after q r object x
unfolding Byte writes_seen
byte_same lib contents e after q r object x writes bases =
    let F : List Written → Bases → ℕ = λ ws bs. last_put ws x (contents r.«module» bs object x) in
    sym
    (ap (λ ws. F (filter_object object ws) (bases_seen lib after r.«module»)) (writes (class_of (object_at lib r.«module» object)))
    ∙ ap (F (filter_object object (writes_of_class (class_of (object_at lib r.«module» object)) (e.processes q) r))) bases)

lying_same : (c : Class) (lib : Library) (contents : Held) (e after : Eager) (q : ℕ) (r : Residence) (object x : ℕ) →
    ((c : Class) → writes_of_class c (after.processes q) r ≡ writes_of_class c (e.processes q) r) →
    bases_seen lib after r.«module» ≡ bases_seen lib e r.«module» → lying_byte c lib contents e q r object x ≡ lying_byte c lib contents after q r object x
lying_same classes.Code lib contents e after q r object x writes bases = byte_same lib contents e after q r object x writes bases
lying_same classes.Private lib contents e after q r object x writes bases = byte_same lib contents e after q r object x writes bases
lying_same classes.Shared lib contents e after q r object x writes bases = ap (λ bs. contents r.«module» bs object x) (sym bases)

pub page_same : (lib : Library) (contents : Held) (e after : Eager) (q : ℕ) (p : Mapped) (it : IsMapped lib contents e q p) →
    ((c : Class) → writes_of_class c (after.processes q) it.residence ≡ writes_of_class c (e.processes q) it.residence) →
    attached_residence lib after q it.residence.«module» ≡ Some it.residence → bases_seen lib after it.residence.«module» ≡ bases_seen lib e it.residence.«module» →
    IsMapped lib contents after q p
page_same lib contents e after q p it writes there bases = record {
  residence = it.residence;
  there = there;
  serial = it.serial;
  bytes = λ x on below.
      it.bytes x on below
      ∙ lying_same (class_of (object_at lib it.residence.«module» p.of.page.object)) lib contents e after q it.residence p.of.page.object x writes bases;
}

-- ---- the state after a load

pub held_writes : (how : How) (m : ℕ) (js : List ℕ) (p : Process) → (holding how m (attaching js p)).writes ≡ p.writes
held_writes Start m js p = refl
held_writes Load m js p = refl

held_ended : (how : How) (m : ℕ) (js : List ℕ) (p : Process) → (holding how m (attaching js p)).ended ≡ p.ended
held_ended Start m js p = refl
held_ended Load m js p = refl

pub entering_process : (lib : Library) (e : Eager) (q : ℕ) (how : How) (m : ℕ) (fresh : List Fresh) →
    (after_entering lib e q how m fresh).processes q ≡ holding how m (attaching (joined lib e q m) (e.processes q))
unfolding after_entering with_process
entering_process lib e q how m fresh = ap (λ b. if b then holding how m (attaching (joined lib e q m) (e.processes q)) else e.processes q) (eq-eqb q q refl)

pub attached_grows : (lib : Library) (e : Eager) (q : ℕ) (how : How) (m : ℕ) (fresh : List Fresh) (k : ℕ) (r : Residence) → is_none (enter_refusal lib (e.processes q) how (Some m)) ≡ true →
    attached_residence lib e q k ≡ Some r → attached_residence lib (after_entering lib e q how m fresh) q k ≡ Some r
attached_grows lib e q how m fresh k r may is =
    let reached : reaches lib (e.processes q) k ≡ true = (attached_is lib e q k r is).0 in
    let resident : residence_of e k ≡ Some r = residence_is lib e q k r is in
    let still : reaches lib ((after_entering lib e q how m fresh).processes q) k ≡ true =
    ap (λ (p : Process). reaches lib p k) (entering_process lib e q how m fresh) ∙ reaches_more lib (e.processes q) (joined lib e q m) how m k may
    ∙ ap (λ b. is_among (order_of lib m) k || b) reached ∙ or_true (is_among (order_of lib m) k)
    in
    attached_is_resident lib (after_entering lib e q how m fresh) q k still ∙ entered_stays lib e q how m fresh k (ap is_some resident) ∙ resident

may_enter : (lib : Library) (e : Eager) (q : ℕ) (how : How) (m : ℕ) (fresh : List Fresh) (calls : List Call) → may_ask lib e q (ask_in (deeds.Enter how m fresh calls)) ≡ true →
    is_none (enter_refusal lib (e.processes q) how (Some m)) ≡ true
unfolding may_ask
may_enter lib e q how m fresh calls may = and_right (nat_lt m (module_count lib)) _ may

entering_is : (lib : Library) (e : Eager) (q : ℕ) (how : How) (m : ℕ) (fresh : List Fresh) (calls : List Call) →
    after_deed lib e q (deeds.Enter how m fresh calls) ≡ after_entering lib e q how m fresh
unfolding after_deed
entering_is lib e q how m fresh calls = refl

pages_same : (lib : Library) (contents : Held) (e after : Eager) (q : ℕ) (ps : List Mapped) → (after.processes q).writes ≡ (e.processes q).writes →
    ((k : ℕ) (r : Residence) → attached_residence lib e q k ≡ Some r → attached_residence lib after q k ≡ Some r) →
    ((k : ℕ) (r : Residence) → attached_residence lib e q k ≡ Some r → bases_seen lib after k ≡ bases_seen lib e k) →
    AllByRecursion (IsMapped lib contents e q) ps → AllByRecursion (IsMapped lib contents after q) ps
pages_same lib contents e after q [] writes grows bases all = tt
pages_same lib contents e after q (p ∷ ps) writes grows bases all = (
  page_same lib contents e after q p all.0 (λ c. class_same c (after.processes q) (e.processes q) all.0.residence writes)
      (grows all.0.residence.«module» all.0.residence all.0.there) (bases all.0.residence.«module» all.0.residence all.0.there),
  pages_same lib contents e after q ps writes grows bases all.1,
)

-- ---- faults

-- a residence that the view has is one that the process reaches
pub stay_is : (o : Option Residence) (s : Fresh) → option_map fresh_of o ≡ Some s → (r : Residence) × (o ≡ Some r) × (fresh_of r ≡ s)
stay_is None s e = absurd cc
stay_is (Some r) s e = (r, refl, some_same e)
  where
    some_same : Some (fresh_of r) ≡ Some s → fresh_of r ≡ s
    some_same h = cc

fixed_same : (lib : Library) (failing : Failing) (contents : Held) (v : Holding) (h k : List Entry) (counts : ProcessCounts) (residences : List Fresh) (front : ℕ) (ps : List Mapped) → Legal lib failing contents k →
    ((m : ℕ) → find (λ s. s.«module» == m) residences ≡ option_map fresh_of (attached_residence lib (state_after lib failing k) v.pid m)) →
    ((m : ℕ) → reached_of v m ≡ option_map fresh_of (attached_residence lib (state_after lib failing h) v.pid m)) →
    ((m : ℕ) (r : Residence) → attached_residence lib (state_after lib failing h) v.pid m ≡ Some r → attached_residence lib (state_after lib failing k) v.pid m ≡ Some r) →
    AllByRecursion (IsMapped lib contents (state_after lib failing h) v.pid) ps → AllByRecursion (WasFixed lib v k) ps →
    AllByRecursion (WasFixed lib (record v { counts = counts; residences = residences; front = front }) k) ps
fixed_same lib failing contents v h k counts residences front [] legal now before grows mapped all = tt
fixed_same lib failing contents v h k counts residences front (p ∷ ps) legal now before grows mapped all = (
  λ m s at same own.
      (let r : Residence = mapped.0.residence in
      let found : (t : Residence) × (attached_residence lib (state_after lib failing k) v.pid m ≡ Some t) × (fresh_of t ≡ s) = stay_is _ s (sym (now m) ∙ at) in
      let one : r ≡ found.0 =
      serials_are_own lib failing contents k r.«module» m r found.0 legal (residence_is lib (state_after lib failing k) v.pid _ _ (grows r.«module» r mapped.0.there))
      (residence_is lib (state_after lib failing k) v.pid m found.0 found.1) (sym mapped.0.serial ∙ sym same ∙ sym (ap (λ (f : Fresh). f.serial) found.2))
      in
      let module_is : m ≡ r.«module» = sym (attached_is lib (state_after lib failing k) v.pid m found.0 found.1).1 ∙ ap (λ (t : Residence). t.«module») (sym one) in
      all.0 r.«module» (fresh_of r) (before r.«module» ∙ ap (option_map fresh_of) mapped.0.there) (sym mapped.0.serial)
      (ap (λ n. is_own (class_of (object_at lib n p.of.page.object))) (sym module_is) ∙ own)),
  fixed_same lib failing contents v h k counts residences front ps legal now before grows mapped.1 all.1,
)

-- ---- the entry

pub stands_entered : OrdersNest → StandsEntered
stands_entered nest lib failing contents v h x how m fresh calls counts residences legal follows own is rows now stands =
    let e : Eager = state_after lib failing h in
    let k : List Entry = h ++ x ∷ [] in
    let after_is : state_after lib failing k ≡ after_entering lib e v.pid how m fresh =
    one_more_is_after lib failing h x ∙ ap (λ d. after_deed lib e x.pid d) is ∙ ap (λ q. after_deed lib e q (deeds.Enter how m fresh calls)) own ∙ entering_is lib e v.pid how m fresh calls
    in
    let may : is_none (enter_refusal lib (e.processes v.pid) how (Some m)) ≡ true =
    may_enter lib e v.pid how m fresh calls (ap (λ q. may_ask lib e q (ask_in (deeds.Enter how m fresh calls))) (sym own) ∙ ap (λ d. may_ask lib e x.pid (ask_in d)) (sym is) ∙ follows.may)
    in
    let grows : (n : ℕ) (r : Residence) → attached_residence lib e v.pid n ≡ Some r → attached_residence lib (state_after lib failing k) v.pid n ≡ Some r =
    λ n r at. ap (λ f. attached_residence lib f v.pid n) after_is ∙ attached_grows lib e v.pid how m fresh n r may at
    in
    let process : (state_after lib failing k).processes v.pid ≡ holding how m (attaching (joined lib e v.pid m) (e.processes v.pid)) =
    ap (λ (f : Eager). f.processes v.pid) after_is ∙ entering_process lib e v.pid how m fresh
    in
    let writes : ((state_after lib failing k).processes v.pid).writes ≡ (e.processes v.pid).writes =
    ap (λ (p : Process). p.writes) process ∙ held_writes how m (joined lib e v.pid m) (e.processes v.pid)
    in
    let bases : (n : ℕ) (r : Residence) → attached_residence lib e v.pid n ≡ Some r → bases_seen lib (state_after lib failing k) n ≡ bases_seen lib e n =
    λ n r at.
    ap (λ f. bases_seen lib f n) (one_more_is_after lib failing h x)
    ∙ bases_seen_stay nest lib failing contents h x n legal follows (ap is_some (residence_is lib e v.pid n r at))
    (ap (λ (f : Eager). is_some (residence_of f n)) (sym (one_more_is_after lib failing h x)) ∙ ap is_some (residence_is lib (state_after lib failing k) v.pid n r (grows n r at)))
    in
    record {
      front = refl;
      view = record {
        ended = stands.view.ended ∙ sym (ap (λ (p : Process). p.ended) process ∙ held_ended how m (joined lib e v.pid m) (e.processes v.pid));
        counts = rows;
        residences = now;
        mapped = pages_same lib contents e (state_after lib failing k) v.pid v.mapped writes grows bases stands.view.mapped;
        writes = subst (AllByRecursion (λ w. is_covered (mapped_pages v) w ≡ true)) (sym writes) stands.view.writes;
      };
      faults = fixed_same lib failing contents v h k counts residences (length k) v.mapped (one_more_is_legal lib failing contents h x legal follows) now stands.view.residences grows stands.view.mapped
          (fixed_more lib v h x v.mapped stands.faults);
    }
