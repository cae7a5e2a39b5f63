-- A view after a write of its own.
use Rattle.std.proofs.Common.{◌≡◌, ℕ, ◌+◌, ◌*◌, ◌/◌, ◌%◌, ◌<◌, ◌==◌, ◌&&◌, Bool, true, false, cond, if◌then◌else◌, not, List, [], ◌∷◌, ◌++◌, map, filter, filter_map, reverse, length, Option, Some, None, option_map, option_to_list, refl, sym, ◌∙◌, ap, subst, arith}
use Rattle.std.specs.Prelude.{slice_index}
use Rattle.std.specs.List.{AllByRecursion, range_with_len}
use Rattle.std.proofs.lemmas.Bool.{eqb-true, eq-eqb}
use Rattle.std.proofs.lemmas.List.{map-append, reverse-append, append-nil}
use Rattle.std.proofs.lemmas.List.Elements.{filter-append, filter_map-append}
use Rattle.std.proofs.lemmas.List.FromFn.{get_or-map-range_with_len}
use Rattle.std.proofs.Math.Bool.{and-false}
use Rattle.lx_types.specs.Object.{class_of}
use Rattle.lx_types.specs.declared.object.Class.{Class}
use Rattle.lx_types.specs.declared.object.Class.TheVariants as classes
use Rattle.lx_types.specs.declared.object.TheConstants.{PAGE_SIZE}
use Rattle.load_model.specs.declared.deeds.Deed.{Deed}
use Rattle.load_model.specs.declared.deeds.Deed.TheVariants as deeds
use Rattle.load_model.specs.declared.deeds.Entry.{Entry}
use Rattle.load_model.specs.Modules.{Library, Held, object_at}
use Rattle.load_model.specs.State.{PageOf, Written, OwnWrite, Residence, Process, Failing, Eager, with_process, reaches, residence_of, attached_residence}
use Rattle.load_model.specs.Memory.{last_put, first_or, put_at, writes_of_class, writes_seen, bases_seen, Byte, writing}
use Rattle.load_model.specs.Refusals.{peek, class_refusal}
use Rattle.load_model.specs.ProcessCounts.{ProcessCounts, AreCountsOf}
use Rattle.load_model.specs.Asks.{ask_in, may_ask, is_attached, is_serial, after_write, after_deed}
use Rattle.load_model.specs.Histories.{after_entry, state_after, Legal}
use Rattle.load_model.specs.Views.{Mapped, Holding, mapped_pages, fresh_of, lying_byte, IsMapped, is_covered, IsViewOf, WasFixed, StandsFor}
use Rattle.load_model.specs.ViewLaws.{WritesOwn, StandsWritten}
use Rattle.load_model.specs.WrittenPages.{over_page, written_over}
use Rattle.load_model.proofs.Bools.{and_left, and_right}
use Rattle.load_model.proofs.Bytes.{attached_is}
use Rattle.load_model.proofs.Growing.{one_more_is_after}
use Rattle.load_model.proofs.SerialsOwn.{serials_are_own}
use Rattle.load_model.proofs.Views.{fixed_more}
use Rattle.load_model.proofs.ViewReplies.{residence_is, own_byte}

-- ---- the last write

one_put : (h : Written → Option ℕ) (w : Written) (o : Option ℕ) → h w ≡ o → filter_map h (w ∷ []) ≡ option_to_list o
one_put h w None is = rw is refl
one_put h w (Some y) is = rw is refl

put_over : (o : Option ℕ) (b : ℕ) (rest : List ℕ) → first_or b (option_to_list o ++ rest) ≡ first_or (first_or b rest) (option_to_list o)
put_over None b rest = refl
put_over (Some y) b rest = refl

pub last_put_more : (ws : List Written) (w : Written) (x b : ℕ) → last_put (ws ++ w ∷ []) x b ≡ last_put (w ∷ []) x (last_put ws x b)
last_put_more ws w x b =
    ap (λ l. first_or b (filter_map (put_at x) l)) (reverse-append ws (w ∷ []))
    ∙ ap (first_or b) (filter_map-append (put_at x) (w ∷ []) (reverse ws))
    ∙ ap (λ l. first_or b (l ++ filter_map (put_at x) (reverse ws))) (one_put (put_at x) w (put_at x w) refl)
    ∙ put_over (put_at x w) b (filter_map (put_at x) (reverse ws))
    ∙ ap (first_or (last_put ws x b)) (sym (one_put (put_at x) w (put_at x w) refl))

-- ---- the writes that a process sees

if_both : (a b : Bool) (w : Written) → (if b then (if a then w ∷ [] else []) else []) ≡ (if a && b then w ∷ [] else [])
if_both true true w = refl
if_both true false w = refl
if_both false true w = refl
if_both false false w = refl

own_more : (serial : ℕ) (w : Written) (ws : List OwnWrite) (at : ℕ) →
    map (λ (o : OwnWrite). o.write) (filter (λ (o : OwnWrite). o.serial == at) (ws ++ record { serial = serial; write = w } ∷ [])) ≡
    map (λ (o : OwnWrite). o.write) (filter (λ (o : OwnWrite). o.serial == at) ws) ++ (if serial == at then w ∷ [] else [])
own_more serial w ws at =
    ap (map (λ (o : OwnWrite). o.write)) (filter-append (λ (o : OwnWrite). o.serial == at) ws (record { serial = serial; write = w } ∷ []))
    ∙ map-append (λ (o : OwnWrite). o.write) (filter (λ (o : OwnWrite). o.serial == at) ws) (cond (serial == at) (record { serial = serial; write = w } ∷ []) [])
    ∙ ap (λ l. map (λ (o : OwnWrite). o.write) (filter (λ (o : OwnWrite). o.serial == at) ws) ++ l) (one (serial == at))
  where
    one : (b : Bool) → map (λ (o : OwnWrite). o.write) (cond b (record { serial = serial; write = w } ∷ []) []) ≡ (if b then w ∷ [] else [])
    one true = refl
    one false = refl

class_more : (c : Class) (serial : ℕ) (w : Written) (p : Process) (r : Residence) → class_refusal peek c ≡ None →
    writes_of_class c (writing serial w p) r ≡ writes_of_class c p r ++ (if serial == r.serial then w ∷ [] else [])
class_more classes.Code serial w p r own = own_more serial w p.writes r.serial
class_more classes.Private serial w p r own = own_more serial w p.writes r.serial
class_more classes.Shared serial w p r own = cc

seen_more : (lib : Library) (serial : ℕ) (w : Written) (p : Process) (r : Residence) (object : ℕ) → class_refusal peek (class_of (object_at lib r.«module» object)) ≡ None →
    writes_seen lib (writing serial w p) r object ≡ writes_seen lib p r object ++ (if (serial == r.serial) && (w.object == object) then w ∷ [] else [])
unfolding writes_seen
seen_more lib serial w p r object own =
    let c : Class = class_of (object_at lib r.«module» object) in
    ap (filter (λ o. o.object == object)) (class_more c serial w p r own)
    ∙ filter-append (λ o. o.object == object) (writes_of_class c p r) (if serial == r.serial then w ∷ [] else [])
    ∙ ap (λ l. filter (λ o. o.object == object) (writes_of_class c p r) ++ l) (one (serial == r.serial))
  where
    one : (b : Bool) → filter (λ (o : Written). o.object == object) (if b then w ∷ [] else []) ≡ (if b && (w.object == object) then w ∷ [] else [])
    one true = refl
    one false = refl

-- ---- the state after the write

abbrev later_write : Eager → ℕ → ℕ → Written → Eager
later_write e q serial w = with_process e q (writing serial w (e.processes q))

pub own_process : (e : Eager) (q serial : ℕ) (w : Written) → (later_write e q serial w).processes q ≡ writing serial w (e.processes q)
unfolding with_process
own_process e q serial w = ap (λ b. if b then writing serial w (e.processes q) else e.processes q) (eq-eqb q q refl)

pub attached_written : (lib : Library) (e : Eager) (q serial m : ℕ) (w : Written) → attached_residence lib (later_write e q serial w) q m ≡ attached_residence lib e q m
unfolding attached_residence residence_of reaches with_process
attached_written lib e q serial m w = ap (λ (p : Process). if reaches lib p m then residence_of e m else None) (own_process e q serial w)

byte_written : (lib : Library) (contents : Held) (e : Eager) (q serial : ℕ) (w : Written) (r : Residence) (object x : ℕ) →
    class_refusal peek (class_of (object_at lib r.«module» object)) ≡ None → (b : Bool) → ((serial == r.serial) && (w.object == object)) ≡ b →
    Byte lib contents (later_write e q serial w) q r object x ≡ (if b then last_put (w ∷ []) x (Byte lib contents e q r object x) else Byte lib contents e q r object x)
unfolding Byte bases_seen residence_of with_process
byte_written lib contents e q serial w r object x own b is =
    let raw : ℕ = contents r.«module» (bases_seen lib e r.«module») object x in
    ap (λ (p : Process). last_put (writes_seen lib p r object) x raw) (own_process e q serial w)
    ∙ ap (λ ws. last_put ws x raw) (seen_more lib serial w (e.processes q) r object own)
    ∙ ap (λ c. last_put (writes_seen lib (e.processes q) r object ++ (if c then w ∷ [] else [])) x raw) is ∙ step raw b
  where
    step : (raw : ℕ) (c : Bool) → last_put (writes_seen lib (e.processes q) r object ++ (if c then w ∷ [] else [])) x raw ≡
        (if c then last_put (w ∷ []) x (last_put (writes_seen lib (e.processes q) r object) x raw) else last_put (writes_seen lib (e.processes q) r object) x raw)
    step raw true = last_put_more (writes_seen lib (e.processes q) r object) w x raw
    step raw false = ap (λ ws. last_put ws x raw) (append-nil (writes_seen lib (e.processes q) r object))

-- ---- pages

-- the byte that was put on a page
byte_put : (w : Written) (page : ℕ) (bytes : List ℕ) (x : ℕ) → x / PAGE_SIZE ≡ page →
    slice_index (map (λ i. last_put (w ∷ []) (page * PAGE_SIZE + i) (slice_index bytes i)) (range_with_len 0 PAGE_SIZE)) (x % PAGE_SIZE) ≡ last_put (w ∷ []) x (slice_index bytes (x % PAGE_SIZE))
byte_put w page bytes x on =
    get_or-map-range_with_len (λ i. last_put (w ∷ []) (page * PAGE_SIZE + i) (slice_index bytes i)) 0 PAGE_SIZE (x % PAGE_SIZE) (x % PAGE_SIZE) 0 (below x) (same x)
    ∙ ap (λ n. last_put (w ∷ []) n (slice_index bytes (x % PAGE_SIZE))) (whole x page on)
  where
    below : (n : ℕ) → n % PAGE_SIZE < PAGE_SIZE
    below n = omega arith

    same : (n : ℕ) → 0 + n % PAGE_SIZE ≡ n % PAGE_SIZE
    same n = omega arith

    whole : (n p : ℕ) → n / PAGE_SIZE ≡ p → p * PAGE_SIZE + n % PAGE_SIZE ≡ n
    whole n p h = omega (arith, h)

-- a page of another object, or of another residence, lies as it did
other_lies : (c : Class) (lib : Library) (contents : Held) (e : Eager) (q serial : ℕ) (w : Written) (r : Residence) (object x : ℕ) → class_of (object_at lib r.«module» object) ≡ c →
    ((serial == r.serial) && (w.object == object)) ≡ false →
    lying_byte c lib contents e q r object x ≡ lying_byte c lib contents (later_write e q serial w) q r object x
unfolding bases_seen residence_of with_process
other_lies classes.Code lib contents e q serial w r object x is apart = sym (byte_written lib contents e q serial w r object x (ap (class_refusal peek) is) false apart)
other_lies classes.Private lib contents e q serial w r object x is apart = sym (byte_written lib contents e q serial w r object x (ap (class_refusal peek) is) false apart)
other_lies classes.Shared lib contents e q serial w r object x is apart = refl

-- what the write has to do with the residences that the process reaches
abbrev Aims : Library → Eager → ℕ → ℕ → Written → Type 0
Aims lib e q serial w = (m : ℕ) (r : Residence) → attached_residence lib e q m ≡ Some r → r.serial ≡ serial → class_refusal peek (class_of (object_at lib r.«module» w.object)) ≡ None

pub turned : (a b : ℕ) (c : Bool) → (a == b) ≡ c → (b == a) ≡ c
turned a b true is = eq-eqb b a (sym (eqb-true a b is))
turned a b false is = step (b == a) refl
  where
    step : (d : Bool) → (b == a) ≡ d → (b == a) ≡ false
    step false h = h
    step true h = (let wrong : true ≡ false = sym (eq-eqb a b (sym (eqb-true b a h))) ∙ is in cc)

page_stays : (lib : Library) (contents : Held) (e : Eager) (q serial : ℕ) (w : Written) (p : Mapped) (it : IsMapped lib contents e q p) →
    ((serial == it.residence.serial) && (w.object == p.of.page.object)) ≡ false → IsMapped lib contents (later_write e q serial w) q p
page_stays lib contents e q serial w p it apart = record {
  residence = it.residence;
  there = attached_written lib e q serial it.residence.«module» w ∙ it.there;
  serial = it.serial;
  bytes = λ x on below.
      it.bytes x on below
      ∙ other_lies (class_of (object_at lib it.residence.«module» p.of.page.object)) lib contents e q serial w it.residence p.of.page.object x refl apart;
}

page_written : (lib : Library) (contents : Held) (e : Eager) (q serial : ℕ) (w : Written) (p : Mapped) → Aims lib e q serial w → IsMapped lib contents e q p →
    IsMapped lib contents (later_write e q serial w) q (written_over serial w p)
page_written lib contents e q serial w p aims it = step (p.of.serial == serial) (p.of.page.object == w.object) refl refl
  where
    step : (a b : Bool) → (p.of.serial == serial) ≡ a → (p.of.page.object == w.object) ≡ b →
        IsMapped lib contents (later_write e q serial w) q (if a && b then record p { bytes = over_page w p.of.page p.bytes } else p)
    step true true is at =
        let own : class_refusal peek (class_of (object_at lib it.residence.«module» p.of.page.object)) ≡ None =
        subst (λ k. class_refusal peek (class_of (object_at lib it.residence.«module» k)) ≡ None) (sym (eqb-true p.of.page.object w.object at))
        (aims it.residence.«module» it.residence it.there (sym it.serial ∙ eqb-true p.of.serial serial is))
        in
        let hits : ((serial == it.residence.serial) && (w.object == p.of.page.object)) ≡ true =
        ap (λ n. (serial == n) && (w.object == p.of.page.object)) (sym it.serial)
        ∙ ap (λ b. b && (w.object == p.of.page.object)) (turned p.of.serial serial true is) ∙ turned p.of.page.object w.object true at
        in
        record {
          residence = it.residence;
          there = attached_written lib e q serial it.residence.«module» w ∙ it.there;
          serial = it.serial;
          bytes = λ x on below.
              byte_put w p.of.page.page p.bytes x on
              ∙ ap (last_put (w ∷ []) x) (it.bytes x on below ∙ own_byte (class_of (object_at lib it.residence.«module» p.of.page.object)) lib contents e q it.residence p.of.page.object x own)
              ∙ sym (byte_written lib contents e q serial w it.residence p.of.page.object x own true hits)
              ∙ sym (own_byte (class_of (object_at lib it.residence.«module» p.of.page.object)) lib contents (later_write e q serial w) q it.residence p.of.page.object x own);
        }
    step true false is at =
        page_stays lib contents e q serial w p it
        (ap (λ n. (serial == n) && (w.object == p.of.page.object)) (sym it.serial) ∙ ap (λ b. (serial == p.of.serial) && b) (turned p.of.page.object w.object false at) ∙ and-false (serial == p.of.serial))
    step false b is at =
        page_stays lib contents e q serial w p it
        (ap (λ n. (serial == n) && (w.object == p.of.page.object)) (sym it.serial) ∙ ap (λ c. c && (w.object == p.of.page.object)) (turned p.of.serial serial false is))

pages_written : (lib : Library) (contents : Held) (e : Eager) (q serial : ℕ) (w : Written) (ps : List Mapped) → Aims lib e q serial w → AllByRecursion (IsMapped lib contents e q) ps →
    AllByRecursion (IsMapped lib contents (later_write e q serial w) q) (map (written_over serial w) ps)
pages_written lib contents e q serial w [] aims all = tt
pages_written lib contents e q serial w (p ∷ ps) aims all = (page_written lib contents e q serial w p aims all.0, pages_written lib contents e q serial w ps aims all.1)

same_page : (serial : ℕ) (w : Written) (p : Mapped) (b : Bool) → (if b then record p { bytes = over_page w p.of.page p.bytes } else p).of ≡ p.of
same_page serial w p true = refl
same_page serial w p false = refl

same_pages : (serial : ℕ) (w : Written) (ps : List Mapped) → map (λ (p : Mapped). p.of) (map (written_over serial w) ps) ≡ map (λ (p : Mapped). p.of) ps
same_pages serial w [] = refl
same_pages serial w (p ∷ ps) =
    ap (λ (o : PageOf). o ∷ map (λ (q : Mapped). q.of) (map (written_over serial w) ps)) (same_page serial w p ((p.of.serial == serial) && (p.of.page.object == w.object)))
    ∙ ap (λ os. p.of ∷ os) (same_pages serial w ps)

one_more_covered : (pages : List PageOf) (ws : List OwnWrite) (o : OwnWrite) → AllByRecursion (λ w. is_covered pages w ≡ true) ws → is_covered pages o ≡ true →
    AllByRecursion (λ w. is_covered pages w ≡ true) (ws ++ o ∷ [])
one_more_covered pages [] o all one = (one, tt)
one_more_covered pages (w ∷ ws) o all one = (all.0, one_more_covered pages ws o all.1 one)

row_written : (lib : Library) (serial : ℕ) (w : Written) (p : Process) (counts : ProcessCounts) → AreCountsOf lib p counts → AreCountsOf lib (writing serial w p) counts
row_written lib serial w p counts is = record {
  started = is.started;
  attached = is.attached;
  loads_are = is.loads_are;
  loads = is.loads;
  reached_are = is.reached_are;
  reached = is.reached;
}

view_written : (lib : Library) (contents : Held) (v : Holding) (e : Eager) (serial front : ℕ) (w : Written) → Aims lib e v.pid serial w →
    is_covered (mapped_pages v) (record { serial = serial; write = w }) ≡ true → IsViewOf lib contents v e →
    IsViewOf lib contents (record v { mapped = map (written_over serial w) v.mapped; front = front }) (later_write e v.pid serial w)
view_written lib contents v e serial front w aims covered view =
    let own : (later_write e v.pid serial w).processes v.pid ≡ writing serial w (e.processes v.pid) = own_process e v.pid serial w in
    record {
      ended = view.ended ∙ ap (λ (p : Process). p.ended) (sym own);
      counts = subst (λ p. AreCountsOf lib p v.counts) (sym own) (row_written lib serial w (e.processes v.pid) v.counts view.counts);
      residences = λ m. view.residences m ∙ ap (option_map fresh_of) (sym (attached_written lib e v.pid serial m w));
      mapped = pages_written lib contents e v.pid serial w v.mapped aims view.mapped;
      writes = subst (λ (p : Process). AllByRecursion (λ o. is_covered (map (λ (q : Mapped). q.of) (map (written_over serial w) v.mapped)) o ≡ true) p.writes) (sym own)
          (subst (λ pages. AllByRecursion (λ o. is_covered pages o ≡ true) ((e.processes v.pid).writes ++ record { serial = serial; write = w } ∷ [])) (sym (same_pages serial w v.mapped))
          (one_more_covered (mapped_pages v) (e.processes v.pid).writes (record { serial = serial; write = w }) view.writes covered));
    }

-- ---- faults

fixed_written : (lib : Library) (v : Holding) (h : List Entry) (serial front : ℕ) (w : Written) (ps : List Mapped) → AllByRecursion (WasFixed lib v h) ps →
    AllByRecursion (WasFixed lib (record v { mapped = map (written_over serial w) v.mapped; front = front }) h) (map (written_over serial w) ps)
fixed_written lib v h serial front w [] all = tt
fixed_written lib v h serial front w (p ∷ ps) all = (step ((p.of.serial == serial) && (p.of.page.object == w.object)), fixed_written lib v h serial front w ps all.1)
  where
    step : (b : Bool) → WasFixed lib (record v { mapped = map (written_over serial w) v.mapped; front = front }) h (if b then record p { bytes = over_page w p.of.page p.bytes } else p)
    step true = λ m s at same own. all.0 m s at same own
    step false = λ m s at same own. all.0 m s at same own

-- ---- the entry

-- the write is to a private object, or to code, of the one residence that has its number
aims_own : (lib : Library) (failing : Failing) (contents : Held) (h : List Entry) (q serial m : ℕ) (w : Written) (c : Class) → Legal lib failing contents h →
    is_attached lib (state_after lib failing h) q serial m ≡ true → class_of (object_at lib m w.object) ≡ c → class_refusal peek c ≡ None → Aims lib (state_after lib failing h) q serial w
aims_own lib failing contents h q serial m w c legal at class own k r there same = step (attached_residence lib (state_after lib failing h) q m) refl at
  where
    step : (o : Option Residence) → attached_residence lib (state_after lib failing h) q m ≡ o → is_serial serial o ≡ true → class_refusal peek (class_of (object_at lib r.«module» w.object)) ≡ None
    step None is h' = cc
    step (Some s) is h' =
        let one : s ≡ r =
        serials_are_own lib failing contents h m k s r legal (residence_is lib (state_after lib failing h) q m s is) (residence_is lib (state_after lib failing h) q k r there)
        (eqb-true s.serial serial h' ∙ sym same)
        in
        let module_is : m ≡ r.«module» = sym (attached_is lib (state_after lib failing h) q m s is).1 ∙ ap (λ (t : Residence). t.«module») one in
        subst (λ n. class_refusal peek (class_of (object_at lib n w.object)) ≡ None) module_is (ap (class_refusal peek) class ∙ own)

beyond : (lib : Library) (failing : Failing) (contents : Held) (v : Holding) (h : List Entry) (x : Entry) (serial m : ℕ) (w : Written) (c : Class) → Legal lib failing contents h →
    is_attached lib (state_after lib failing h) v.pid serial m ≡ true → class_of (object_at lib m w.object) ≡ c → class_refusal peek c ≡ None →
    after_entry lib (state_after lib failing h) x ≡ later_write (state_after lib failing h) v.pid serial w →
    is_covered (mapped_pages v) (record { serial = serial; write = w }) ≡ true → StandsFor lib failing contents v h →
    StandsFor lib failing contents (record v { mapped = map (written_over serial w) v.mapped; front = length (h ++ x ∷ []) }) (h ++ x ∷ [])
beyond lib failing contents v h x serial m w c legal at class own after covered stands =
    let n : ℕ = length (h ++ x ∷ []) in
    record {
      front = refl;
      view = subst (IsViewOf lib contents (record v { mapped = map (written_over serial w) v.mapped; front = n })) (sym (one_more_is_after lib failing h x ∙ after))
          (view_written lib contents v (state_after lib failing h) serial n w (aims_own lib failing contents h v.pid serial m w c legal at class own) covered stands.view);
      faults = fixed_more lib (record v { mapped = map (written_over serial w) v.mapped; front = n }) h x (map (written_over serial w) v.mapped)
          (fixed_written lib v h serial n w v.mapped stands.faults);
    }

pub attached_in : (lib : Library) (e : Eager) (q : ℕ) (ended : Bool) (a b : Bool) → not ended && (a && b) ≡ true → a ≡ true
attached_in lib e q ended a b may = and_left a b (and_right (not ended) (a && b) may)

class_write : (lib : Library) (e : Eager) (q serial m object offset : ℕ) (bytes : List ℕ) (c : Class) → c ≡ classes.Private →
    after_write e q serial (record { object = object; offset = offset; bytes = bytes }) c ≡ later_write e q serial (record { object = object; offset = offset; bytes = bytes })
class_write lib e q serial m object offset bytes classes.Private is = refl
class_write lib e q serial m object offset bytes classes.Code is = absurd cc
class_write lib e q serial m object offset bytes classes.Shared is = absurd cc

of_deed : (lib : Library) (failing : Failing) (contents : Held) (v : Holding) (h : List Entry) (x : Entry) (serial m : ℕ) (w : Written) (d : Deed) → Legal lib failing contents h →
    x.deed ≡ d → x.pid ≡ v.pid → WritesOwn lib d serial m w → may_ask lib (state_after lib failing h) x.pid (ask_in d) ≡ true →
    is_covered (mapped_pages v) (record { serial = serial; write = w }) ≡ true → StandsFor lib failing contents v h →
    StandsFor lib failing contents (record v { mapped = map (written_over serial w) v.mapped; front = length (h ++ x ∷ []) }) (h ++ x ∷ [])
unfolding after_deed may_ask
of_deed lib failing contents v h x serial m w (deeds.Write s k object offset bytes) legal is own (class, at, in_module, put) may covered stands =
    let e : Eager = state_after lib failing h in
    beyond lib failing contents v h x serial m w classes.Private legal
    (subst (λ n. is_attached lib e v.pid n m ≡ true) (sym at) (subst (λ n. is_attached lib e v.pid s n ≡ true) (sym in_module)
    (subst (λ q. is_attached lib e q s k ≡ true) own (attached_in lib e x.pid (e.processes x.pid).ended _ _ may))))
    (ap (λ n. class_of (object_at lib n w.object)) in_module ∙ ap (λ (u : Written). class_of (object_at lib k u.object)) put ∙ class) refl
    (ap (λ d. after_deed lib e x.pid d) is ∙ class_write lib e x.pid s k object offset bytes (class_of (object_at lib k object)) class
    ∙ ap (λ q. later_write e q s (record { object = object; offset = offset; bytes = bytes })) own
    ∙ ap (λ n. later_write e v.pid n (record { object = object; offset = offset; bytes = bytes })) (sym at) ∙ ap (λ u. later_write e v.pid serial u) (sym put)) covered stands
of_deed lib failing contents v h x serial m w (deeds.Debug s k object offset bytes) legal is own (class, at, in_module, put) may covered stands =
    let e : Eager = state_after lib failing h in
    beyond lib failing contents v h x serial m w classes.Code legal
    (subst (λ n. is_attached lib e v.pid n m ≡ true) (sym at) (subst (λ n. is_attached lib e v.pid s n ≡ true) (sym in_module)
    (subst (λ q. is_attached lib e q s k ≡ true) own (attached_in lib e x.pid (e.processes x.pid).ended _ _ may))))
    (ap (λ n. class_of (object_at lib n w.object)) in_module ∙ ap (λ (u : Written). class_of (object_at lib k u.object)) put ∙ class) refl
    (ap (λ d. after_deed lib e x.pid d) is
    ∙ ap (λ q. later_write e q s (record { object = object; offset = offset; bytes = bytes })) own
    ∙ ap (λ n. later_write e v.pid n (record { object = object; offset = offset; bytes = bytes })) (sym at) ∙ ap (λ u. later_write e v.pid serial u) (sym put)) covered stands
of_deed lib failing contents v h x serial m w d legal is own writes may covered stands = absurd writes

pub stands_written : StandsWritten
unfolding after_deed may_ask
stands_written lib failing contents v h x serial m w legal follows own writes covered stands = by_deed x.deed refl writes follows.may
  where
    by_deed : (d : Deed) → x.deed ≡ d → WritesOwn lib x.deed serial m w → may_ask lib (state_after lib failing h) x.pid (ask_in x.deed) ≡ true →
        StandsFor lib failing contents (record v { mapped = map (written_over serial w) v.mapped; front = length (h ++ x ∷ []) }) (h ++ x ∷ [])
    by_deed d is writes may = of_deed lib failing contents v h x serial m w d legal is own (subst (λ k. WritesOwn lib k serial m w) is writes)
        (ap (λ k. may_ask lib (state_after lib failing h) x.pid (ask_in k)) (sym is) ∙ may) covered stands
