-- The bundles that the ordinals of exports are joined to are the exports' bundles.
use Rattle.std.proofs.Common.{◌≡◌, ℕ, zero, suc, ◌<◌, ◌≤◌, Bool, true, false, List, [], ◌∷◌, ◌++◌, length, map, take, drop, Option, Some, None, refl, sym, subst, ap, ◌∙◌, append_assoc, length-take, length-drop, take-append-drop, arith}
use Rattle.std.specs.Prelude.{◌==◌, if◌then◌else◌, replicate, IsTrue}
use Rattle.std.specs.List.{flat_map, filter_map, range_with_len, AllByRecursion as Each}
use Rattle.lx_types.specs.declared.entry.EntryHead.{EntryHead}
use Rattle.lx_types.specs.declared.entry.EntryHead.TheVariants.{At, Gate286, Forward}
use Rattle.lx_types.specs.declared.entry.FwdKey.TheVariants.{Ordinal, NameAt}
use Rattle.lx_model.specs.Bundles.{AtEntry, GateEntry, ForwardEntry, Bundle, unused, narrow, gates, wide, forwarders, ordinal_count}
use Rattle.lx_model.specs.ExportTables.{Exported, Slot, empty, narrow_at, gate_at, wide_at, forwarder, slots, slots_of, head_slot, slot_or_empty, export_at, greatest, same_kind, AreJoined}
use Rattle.lx_model.specs.declared.limits.TheConstants.{MAX_ENTRIES}
use Rattle.lx_model.specs.JoinedEntries.{joins, Run, before_runs, runs_of, parts_from, parts_of, at_in, gate_in, forwarder_in, bundle_of, bundles_for, BundlesAreJoined}
use Rattle.std.proofs.lemmas.List.{length-map}
use Rattle.std.proofs.lemmas.Bool.{eq-eqb, eqb-true}
use Rattle.lx_types.proofs.Lists.{all_front, all_joined as each_append, all_back}

-- ---- a bundle of slots that join

unused_is : (ss : List Slot) → Each (λ t. joins empty t ≡ true) ss → replicate (length ss) empty ≡ ss
unused_is [] all = refl
unused_is (empty ∷ ss) all = ap (λ (ts : List Slot). empty ∷ ts) (unused_is ss all.1)
unused_is (narrow_at o e ∷ ss) all = absurd cc
unused_is (gate_at o e ∷ ss) all = absurd cc
unused_is (wide_at o e ∷ ss) all = absurd cc
unused_is (forwarder r e ∷ ss) all = absurd cc

narrow_is : (o : ℕ) (a : AtEntry) (ss : List Slot) → Each (λ t. joins (narrow_at o a) t ≡ true) ss → map (narrow_at o) (filter_map at_in ss) ≡ ss
narrow_is o a [] all = refl
narrow_is o a (empty ∷ ss) all = absurd cc
narrow_is o a (narrow_at p e ∷ ss) all =
    ap (λ (n : ℕ). narrow_at n e ∷ map (narrow_at o) (filter_map at_in ss)) (eqb-true o p all.0) ∙ ap (λ (ts : List Slot). narrow_at p e ∷ ts) (narrow_is o a ss all.1)
narrow_is o a (gate_at p e ∷ ss) all = absurd cc
narrow_is o a (wide_at p e ∷ ss) all = absurd cc
narrow_is o a (forwarder p e ∷ ss) all = absurd cc

gate_is : (o : ℕ) (a : GateEntry) (ss : List Slot) → Each (λ t. joins (gate_at o a) t ≡ true) ss → map (gate_at o) (filter_map gate_in ss) ≡ ss
gate_is o a [] all = refl
gate_is o a (empty ∷ ss) all = absurd cc
gate_is o a (narrow_at p e ∷ ss) all = absurd cc
gate_is o a (gate_at p e ∷ ss) all =
    ap (λ (n : ℕ). gate_at n e ∷ map (gate_at o) (filter_map gate_in ss)) (eqb-true o p all.0) ∙ ap (λ (ts : List Slot). gate_at p e ∷ ts) (gate_is o a ss all.1)
gate_is o a (wide_at p e ∷ ss) all = absurd cc
gate_is o a (forwarder p e ∷ ss) all = absurd cc

wide_is : (o : ℕ) (a : AtEntry) (ss : List Slot) → Each (λ t. joins (wide_at o a) t ≡ true) ss → map (wide_at o) (filter_map at_in ss) ≡ ss
wide_is o a [] all = refl
wide_is o a (empty ∷ ss) all = absurd cc
wide_is o a (narrow_at p e ∷ ss) all = absurd cc
wide_is o a (gate_at p e ∷ ss) all = absurd cc
wide_is o a (wide_at p e ∷ ss) all =
    ap (λ (n : ℕ). wide_at n e ∷ map (wide_at o) (filter_map at_in ss)) (eqb-true o p all.0) ∙ ap (λ (ts : List Slot). wide_at p e ∷ ts) (wide_is o a ss all.1)
wide_is o a (forwarder p e ∷ ss) all = absurd cc

forwarder_is : (o : ℕ) (a : ForwardEntry) (ss : List Slot) → Each (λ t. joins (forwarder o a) t ≡ true) ss → map (forwarder o) (filter_map forwarder_in ss) ≡ ss
forwarder_is o a [] all = refl
forwarder_is o a (empty ∷ ss) all = absurd cc
forwarder_is o a (narrow_at p e ∷ ss) all = absurd cc
forwarder_is o a (gate_at p e ∷ ss) all = absurd cc
forwarder_is o a (wide_at p e ∷ ss) all = absurd cc
forwarder_is o a (forwarder p e ∷ ss) all =
    ap (λ (n : ℕ). forwarder n e ∷ map (forwarder o) (filter_map forwarder_in ss)) (eqb-true o p all.0) ∙ ap (λ (ts : List Slot). forwarder p e ∷ ts) (forwarder_is o a ss all.1)

bundle_is : (s : Slot) (ss : List Slot) → Each (λ t. joins s t ≡ true) ss → slots_of (bundle_of s ss) ≡ ss
bundle_is empty ss all = unused_is ss all
bundle_is (narrow_at o a) ss all = narrow_is o a ss all
bundle_is (gate_at o a) ss all = gate_is o a ss all
bundle_is (wide_at o a) ss all = wide_is o a ss all
bundle_is (forwarder o a) ss all = forwarder_is o a ss all

repeated : (n : ℕ) → length (replicate n empty) ≡ n
repeated zero = refl
repeated (suc n) = ap suc (repeated n)

count_is : (b : Bundle) → ordinal_count b ≡ length (slots_of b)
count_is (unused n) = sym (repeated n)
count_is (narrow o es) = sym (length-map es (narrow_at o))
count_is (gates o es) = sym (length-map es (gate_at o))
count_is (wide o es) = sym (length-map es (wide_at o))
count_is (forwarders o es) = sym (length-map es (forwarder o))

counted : (s : Slot) (ss : List Slot) → Each (λ t. joins s t ≡ true) ss → ordinal_count (bundle_of s ss) ≡ length ss
counted s ss all = count_is (bundle_of s ss) ∙ ap length (bundle_is s ss all)

-- ---- slots that join have the same neighbours

narrow_same : (o : ℕ) (e f : AtEntry) (u : Slot) → joins (narrow_at o e) u ≡ joins (narrow_at o f) u
narrow_same o e f empty = refl
narrow_same o e f (narrow_at p g) = refl
narrow_same o e f (gate_at p g) = refl
narrow_same o e f (wide_at p g) = refl
narrow_same o e f (forwarder p g) = refl

gate_same : (o : ℕ) (e f : GateEntry) (u : Slot) → joins (gate_at o e) u ≡ joins (gate_at o f) u
gate_same o e f empty = refl
gate_same o e f (narrow_at p g) = refl
gate_same o e f (gate_at p g) = refl
gate_same o e f (wide_at p g) = refl
gate_same o e f (forwarder p g) = refl

wide_same : (o : ℕ) (e f : AtEntry) (u : Slot) → joins (wide_at o e) u ≡ joins (wide_at o f) u
wide_same o e f empty = refl
wide_same o e f (narrow_at p g) = refl
wide_same o e f (gate_at p g) = refl
wide_same o e f (wide_at p g) = refl
wide_same o e f (forwarder p g) = refl

forwarder_same : (o : ℕ) (e f : ForwardEntry) (u : Slot) → joins (forwarder o e) u ≡ joins (forwarder o f) u
forwarder_same o e f empty = refl
forwarder_same o e f (narrow_at p g) = refl
forwarder_same o e f (gate_at p g) = refl
forwarder_same o e f (wide_at p g) = refl
forwarder_same o e f (forwarder p g) = refl

pub joins_as : (s t u : Slot) → joins s t ≡ true → joins s u ≡ joins t u
joins_as empty empty u is = refl
joins_as (narrow_at o e) (narrow_at p f) u is = ap (λ (n : ℕ). joins (narrow_at n e) u) (eqb-true o p is) ∙ narrow_same p e f u
joins_as (gate_at o e) (gate_at p f) u is = ap (λ (n : ℕ). joins (gate_at n e) u) (eqb-true o p is) ∙ gate_same p e f u
joins_as (wide_at o e) (wide_at p f) u is = ap (λ (n : ℕ). joins (wide_at n e) u) (eqb-true o p is) ∙ wide_same p e f u
joins_as (forwarder o e) (forwarder p f) u is = ap (λ (n : ℕ). joins (forwarder n e) u) (eqb-true o p is) ∙ forwarder_same p e f u
joins_as s t u is = absurd cc

joins_self : (s : Slot) → joins s s ≡ true
joins_self empty = refl
joins_self (narrow_at o e) = eq-eqb o o refl
joins_self (gate_at o e) = eq-eqb o o refl
joins_self (wide_at o e) = eq-eqb o o refl
joins_self (forwarder o e) = eq-eqb o o refl

all_as : (s t : Slot) (us : List Slot) → joins s t ≡ true → Each (λ u. joins t u ≡ true) us → Each (λ u. joins s u ≡ true) us
all_as s t [] is all = tt
all_as s t (u ∷ us) is all = (joins_as s t u is ∙ all.0, all_as s t us is all.1)

-- ---- runs

abbrev slots_in : Run → List Slot
slots_in r = r.first ∷ r.others

abbrev Alike : Run → Type 0
Alike r = Each (λ t. joins r.first t ≡ true) r.others

abbrev Apart : List Run → Type 0
Apart [] = Unit {0}
Apart (r ∷ []) = Unit {0}
Apart (r ∷ q ∷ rs) = (joins r.first q.first ≡ false) × Apart (q ∷ rs)

record AreRuns (ss : List Slot) (rs : List Run) : Type 0 where
  whole : flat_map slots_in rs ≡ ss
  alike_each : Each Alike rs
  apart : Apart rs

abbrev grown : Slot → Run → Run
grown s r = record { first = s; others = r.first ∷ r.others }

abbrev single : Slot → Run
single s = record { first = s; others = [] }

grown_apart : (s : Slot) (r : Run) (rs : List Run) → joins s r.first ≡ true → Apart (r ∷ rs) → Apart (grown s r ∷ rs)
grown_apart s r [] is apart = tt
grown_apart s r (q ∷ rs) is apart = (joins_as s r.first q.first is ∙ apart.0, apart.1)

more_by : (s : Slot) (ss : List Slot) (r : Run) (rs : List Run) (b : Bool) → joins s r.first ≡ b → AreRuns ss (r ∷ rs) → AreRuns (s ∷ ss) (if b then grown s r ∷ rs else single s ∷ r ∷ rs)
more_by s ss r rs true is runs = record {
  whole = ap (λ (ts : List Slot). s ∷ ts) runs.whole;
  alike_each = ((is, all_as s r.first r.others is runs.alike_each.0), runs.alike_each.1);
  apart = grown_apart s r rs is runs.apart;
}
more_by s ss r rs false is runs = record { whole = ap (λ (ts : List Slot). s ∷ ts) runs.whole; alike_each = (tt, runs.alike_each); apart = (is, runs.apart) }

more_runs : (s : Slot) (ss : List Slot) (rs : List Run) → AreRuns ss rs → AreRuns (s ∷ ss) (before_runs s rs)
more_runs s ss [] runs = record { whole = ap (λ (ts : List Slot). s ∷ ts) runs.whole; alike_each = (tt, tt); apart = tt }
more_runs s ss (r ∷ rs) runs = more_by s ss r rs (joins s r.first) refl runs

runs_are : (ss : List Slot) → AreRuns ss (runs_of ss)
runs_are [] = record { whole = refl; alike_each = tt; apart = tt }
runs_are (s ∷ ss) = more_runs s ss (runs_of ss) (runs_are ss)

-- ---- parts

parts_whole : (n : ℕ) (ss : List Slot) → length ss ≤ n → flat_map (λ p. p) (parts_from n ss) ≡ ss
parts_whole zero [] short = refl
parts_whole zero (s ∷ ss) short = absurd (omega (arith, short))
parts_whole (suc n) [] short = refl
parts_whole (suc n) (s ∷ ss) short =
    let whole = s ∷ ss in
    let less : length (drop MAX_ENTRIES whole) ≤ n = omega (arith, short, length-drop MAX_ENTRIES whole) in
    ap (λ (ts : List Slot). take MAX_ENTRIES whole ++ ts) (parts_whole n (drop MAX_ENTRIES whole) less) ∙ take-append-drop MAX_ENTRIES whole

parts_each : (P : Slot → Type 0) (ps : List (List Slot)) → Each P (flat_map (λ p. p) ps) → Each (Each P) ps
parts_each P [] each = tt
parts_each P (p ∷ ps) each = (all_front P p (flat_map (λ q. q) ps) each, parts_each P ps (all_back P p (flat_map (λ q. q) ps) each))

parts_some : (n : ℕ) (ss : List Slot) → Each (λ p. 0 < length p) (parts_from n ss)
parts_some zero ss = tt
parts_some (suc n) [] = tt
parts_some (suc n) (s ∷ ss) = (omega (arith, length-take MAX_ENTRIES (s ∷ ss)), parts_some n (drop MAX_ENTRIES (s ∷ ss)))

parts_most : (n : ℕ) (ss : List Slot) → Each (λ p. length p ≤ MAX_ENTRIES) (parts_from n ss)
parts_most zero ss = tt
parts_most (suc n) [] = tt
parts_most (suc n) (s ∷ ss) = (omega (arith, length-take MAX_ENTRIES (s ∷ ss)), parts_most n (drop MAX_ENTRIES (s ∷ ss)))

abbrev AreFull : List (List Slot) → Type 0
AreFull [] = Unit {0}
AreFull (p ∷ []) = Unit {0}
AreFull (p ∷ q ∷ ps) = (length p ≡ MAX_ENTRIES) × AreFull (q ∷ ps)

full_more : (p : List Slot) (n : ℕ) (rest : List Slot) → (0 < length rest → length p ≡ MAX_ENTRIES) → AreFull (parts_from n rest) → AreFull (p ∷ parts_from n rest)
full_more p zero rest is full = tt
full_more p (suc n) [] is full = tt
full_more p (suc n) (r ∷ rs) is full = (is (omega arith), full)

parts_full : (n : ℕ) (ss : List Slot) → AreFull (parts_from n ss)
parts_full zero ss = tt
parts_full (suc n) [] = tt
parts_full (suc n) (s ∷ ss) =
    let whole = s ∷ ss in
    full_more (take MAX_ENTRIES whole) n (drop MAX_ENTRIES whole) (λ some. omega (arith, some, length-take MAX_ENTRIES whole, length-drop MAX_ENTRIES whole)) (parts_full n (drop MAX_ENTRIES whole))

-- ---- the bundles of a run

abbrev bundles_in : Run → List Bundle
bundles_in r = map (bundle_of r.first) (parts_of (slots_in r))

run_alike : (r : Run) → Alike r → Each (Each (λ t. joins r.first t ≡ true)) (parts_of (slots_in r))
run_alike r all =
    parts_each (λ t. joins r.first t ≡ true) (parts_of (slots_in r))
    (subst (λ (ts : List Slot). Each (λ t. joins r.first t ≡ true) ts) (sym (parts_whole (length (slots_in r)) (slots_in r) (omega arith))) (joins_self r.first, all))

each_is : (s : Slot) (ps : List (List Slot)) → Each (Each (λ t. joins s t ≡ true)) ps → flat_map slots_of (map (bundle_of s) ps) ≡ flat_map (λ p. p) ps
each_is s [] all = refl
each_is s (p ∷ ps) all = ap (λ (ts : List Slot). ts ++ flat_map slots_of (map (bundle_of s) ps)) (bundle_is s p all.0) ∙ ap (λ (ts : List Slot). p ++ ts) (each_is s ps all.1)

counts : (P : ℕ → Type 0) (s : Slot) (ps : List (List Slot)) → Each (Each (λ t. joins s t ≡ true)) ps → Each (λ p. P (length p)) ps → Each (λ b. P (ordinal_count b)) (map (bundle_of s) ps)
counts P s [] all are = tt
counts P s (p ∷ ps) all are = (subst P (sym (counted s p all.0)) are.0, counts P s ps all.1 are.1)

-- ---- all bundles

flat_split : (bs cs : List Bundle) → flat_map slots_of (bs ++ cs) ≡ flat_map slots_of bs ++ flat_map slots_of cs
flat_split [] cs = refl
flat_split (b ∷ bs) cs = ap (λ (ts : List Slot). slots_of b ++ ts) (flat_split bs cs) ∙ sym (append_assoc (slots_of b) (flat_map slots_of bs) (flat_map slots_of cs))

all_slots : (rs : List Run) → Each Alike rs → flat_map slots_of (flat_map bundles_in rs) ≡ flat_map slots_in rs
all_slots [] alike_each = refl
all_slots (r ∷ rs) alike_each =
    flat_split (bundles_in r) (flat_map bundles_in rs)
    ∙ ap (λ (ts : List Slot). ts ++ flat_map slots_of (flat_map bundles_in rs)) (each_is r.first (parts_of (slots_in r)) (run_alike r alike_each.0) ∙ parts_whole (length (slots_in r)) (slots_in r) (omega arith))
    ∙ ap (λ (ts : List Slot). slots_in r ++ ts) (all_slots rs alike_each.1)

all_counts : (P : ℕ → Type 0) (rs : List Run) → ((n : ℕ) (ss : List Slot) → Each (λ p. P (length p)) (parts_from n ss)) → Each Alike rs → Each (λ b. P (ordinal_count b)) (flat_map bundles_in rs)
all_counts P [] are alike_each = tt
all_counts P (r ∷ rs) are alike_each =
    each_append (λ b. P (ordinal_count b)) (bundles_in r) (flat_map bundles_in rs)
    (counts P r.first (parts_of (slots_in r)) (run_alike r alike_each.0) (are (length (slots_in r)) (slots_in r))) (all_counts P rs are alike_each.1)

-- ---- bundles of neighbouring runs differ

abbrev NoReserved : Slot → Type 0
NoReserved empty = Unit {0}
NoReserved (narrow_at o e) = Unit {0}
NoReserved (gate_at o e) = Unit {0}
NoReserved (wide_at o e) = Unit {0}
NoReserved (forwarder r e) = r ≡ 0

differ : (s t : Slot) (p q : List Slot) → NoReserved s → NoReserved t → joins s t ≡ false → same_kind (bundle_of s p) (bundle_of t q) ≡ false
differ empty empty p q u v is = absurd cc
differ (narrow_at o e) (narrow_at r f) p q u v is = is
differ (gate_at o e) (gate_at r f) p q u v is = is
differ (wide_at o e) (wide_at r f) p q u v is = is
differ (forwarder o e) (forwarder r f) p q u v is = let same : (o == r) ≡ true = ap (λ (n : ℕ). n == r) u ∙ ap (λ (n : ℕ). 0 == n) v in absurd cc
differ s t p q u v is = refl

abbrev FirstDiffers : Slot → List Bundle → Type 0
FirstDiffers s [] = Unit {0}
FirstDiffers s (c ∷ cs) = (p : List Slot) → same_kind (bundle_of s p) c ≡ false

never : (b : Bool) (A : Type 0) → b ≡ false → IsTrue b → A
never true A is so = absurd cc
never false A is so = absurd cc

joined_more : (s : Slot) (ps : List (List Slot)) (cs : List Bundle) → AreFull ps → Each (Each (λ t. joins s t ≡ true)) ps → AreJoined cs → FirstDiffers s cs → AreJoined (map (bundle_of s) ps ++ cs)
joined_more s [] cs full all joined first = joined
joined_more s (p ∷ []) [] full all joined first = tt
joined_more s (p ∷ []) (c ∷ cs) full all joined first = (never (same_kind (bundle_of s p) c) (ordinal_count (bundle_of s p) ≡ MAX_ENTRIES) (first p), joined)
joined_more s (p ∷ q ∷ ps) cs full all joined first = (λ so. counted s p all.0 ∙ full.0, joined_more s (q ∷ ps) cs full.1 all.1 joined first)

first_differs : (r : Run) (rs : List Run) → Each (λ q. NoReserved q.first) (r ∷ rs) → Apart (r ∷ rs) → FirstDiffers r.first (flat_map bundles_in rs)
first_differs r [] none apart = tt
first_differs r (q ∷ rs) none apart = λ p. differ r.first q.first p (take MAX_ENTRIES (slots_in q)) none.0 none.1.0 apart.0

others_apart : (r : Run) (rs : List Run) → Apart (r ∷ rs) → Apart rs
others_apart r [] apart = tt
others_apart r (q ∷ rs) apart = apart.1

all_joined : (rs : List Run) → Each (λ q. NoReserved q.first) rs → Each Alike rs → Apart rs → AreJoined (flat_map bundles_in rs)
all_joined [] none alike_each apart = tt
all_joined (r ∷ rs) none alike_each apart =
    joined_more r.first (parts_of (slots_in r)) (flat_map bundles_in rs) (parts_full (length (slots_in r)) (slots_in r)) (run_alike r alike_each.0)
    (all_joined rs none.1 alike_each.1 (others_apart r rs apart)) (first_differs r rs none apart)

-- ---- the slots of exports

head_reserves : (words : ℕ) (w : Bool) (head : EntryHead) → NoReserved (head_slot words w head)
head_reserves words true (At object offset) = tt
head_reserves words false (At object offset) = tt
head_reserves words true (Gate286 object offset) = tt
head_reserves words false (Gate286 object offset) = tt
head_reserves words true (Forward import (Ordinal ordinal)) = refl
head_reserves words true (Forward import (NameAt at)) = refl
head_reserves words false (Forward import (Ordinal ordinal)) = refl
head_reserves words false (Forward import (NameAt at)) = refl

slot_reserves : (x : Option Exported) → NoReserved (slot_or_empty x)
slot_reserves None = tt
slot_reserves (Some x) = head_reserves x.words x.wide x.head

slots_reserve : (xs : List Exported) (ns : List ℕ) → Each NoReserved (map (λ n. slot_or_empty (export_at xs n)) ns)
slots_reserve xs [] = tt
slots_reserve xs (n ∷ ns) = (slot_reserves (export_at xs n), slots_reserve xs ns)

firsts : (rs : List Run) → Each NoReserved (flat_map slots_in rs) → Each (λ q. NoReserved q.first) rs
firsts [] none = tt
firsts (r ∷ rs) none = (none.0, firsts rs (all_back NoReserved r.others (flat_map slots_in rs) none.1))

pub bundles_joined : BundlesAreJoined
unfolding bundles_for
bundles_joined xs =
    let rs = runs_of (slots xs) in
    let runs = runs_are (slots xs) in
    let none = firsts rs (subst (λ (ts : List Slot). Each NoReserved ts) (sym runs.whole) (slots_reserve xs (range_with_len 1 (greatest xs)))) in
    record {
      each = all_slots rs runs.alike_each ∙ runs.whole;
      some = all_counts (λ n. 0 < n) rs parts_some runs.alike_each;
      most = all_counts (λ n. n ≤ MAX_ENTRIES) rs parts_most runs.alike_each;
      joined = all_joined rs none runs.alike_each runs.apart;
    }
