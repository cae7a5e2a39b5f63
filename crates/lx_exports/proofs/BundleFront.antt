-- The first bundle of slots, and how it is written.
use Rattle.std.proofs.Common.{◌≡◌, ℕ, zero, suc, ◌+◌, ◌<◌, ◌≤◌, Bool, true, false, List, [], ◌∷◌, ◌++◌, length, map, take, drop, refl, sym, subst, ap, ◌∙◌, append_assoc, length-take, length-drop, length-append, arith}
use Rattle.std.specs.Prelude.{if◌then◌else◌, Option, Some, None, slice_index_or}
use Rattle.std.specs.List.{flat_map, filter_map, cons_option, AllByRecursion as Each}
use Rattle.std.proofs.lemmas.List.{take-append-drop, take_all, length-map, nil_from_length}
use Rattle.std.proofs.lemmas.Bool.{eqb-true}
use Rattle.lx_bytes.specs.LittleEndian.{little_bytes}
use Rattle.lx_model.specs.Bundles.{AtEntry, GateEntry, ForwardEntry, Bundle, bundle_spelling, at_spelling, forward_spelling}
use Rattle.lx_model.specs.ExportTables as tables
use Rattle.lx_model.specs.ExportTables.{empty, narrow_at, gate_at, wide_at, forwarder}
use Rattle.lx_model.specs.declared.limits.TheConstants.{MAX_ENTRIES}
use Rattle.lx_model.specs.JoinedEntries.{joins, Run, before_runs, runs_of, parts_from, parts_of, at_in, forwarder_in, bundle_of}
use Rattle.lx_model.proofs.JoinedBundles.{joins_as}
use Rattle.lx_exports.specs.declared.slots.Slot.{Slot}
use Rattle.lx_exports.specs.declared.slots.Slot.TheVariants.{Empty, Narrow, Wide, Forwarder}
use Rattle.lx_exports.specs.Slots.{shown, bundles_of, BeginBundle, entry_bytes, head_bytes}

-- ---- runs that begin with slots that join

abbrev grown : tables.Slot → List tables.Slot → Run → Run
grown s front r = record { first = s; others = front ++ r.first ∷ r.others }

abbrev alone : tables.Slot → List tables.Slot → Run
alone s front = record { first = s; others = front }

abbrev attached : tables.Slot → List tables.Slot → List Run → List Run
attached s front [] = alone s front ∷ []
attached s front (r ∷ rs) = if joins s r.first then grown s front r ∷ rs else alone s front ∷ r ∷ rs

attached_none : (s : tables.Slot) (rs : List Run) → before_runs s rs ≡ attached s [] rs
attached_none s [] = refl
attached_none s (r ∷ rs) = refl

by_joining : (s t : tables.Slot) (front : List tables.Slot) (r : Run) (rs : List Run) (b : Bool) → joins s t ≡ true →
    before_runs s (if b then grown t front r ∷ rs else alone t front ∷ r ∷ rs) ≡ (if b then grown s (t ∷ front) r ∷ rs else alone s (t ∷ front) ∷ r ∷ rs)
by_joining s t front r rs true is = ap (λ (b : Bool). if b then grown s (t ∷ front) r ∷ rs else alone s [] ∷ grown t front r ∷ rs) is
by_joining s t front r rs false is = ap (λ (b : Bool). if b then alone s (t ∷ front) ∷ r ∷ rs else alone s [] ∷ alone t front ∷ r ∷ rs) is

one_more : (s t : tables.Slot) (front : List tables.Slot) (rs : List Run) → joins s t ≡ true → before_runs s (attached t front rs) ≡ attached s (t ∷ front) rs
one_more s t front [] is = ap (λ (b : Bool). if b then alone s (t ∷ front) ∷ [] else alone s [] ∷ alone t front ∷ []) is
one_more s t front (r ∷ rs) is =
    by_joining s t front r rs (joins t r.first) is
    ∙ ap (λ (b : Bool). if b then grown s (t ∷ front) r ∷ rs else alone s (t ∷ front) ∷ r ∷ rs) (sym (joins_as s t r.first is))

all_of : (s t : tables.Slot) (us : List tables.Slot) → joins s t ≡ true → Each (λ u. joins s u ≡ true) us → Each (λ u. joins t u ≡ true) us
all_of s t [] is all = tt
all_of s t (u ∷ us) is all = (sym (joins_as s t u is) ∙ all.0, all_of s t us is all.1)

runs_front : (s : tables.Slot) (front rest : List tables.Slot) → Each (λ t. joins s t ≡ true) front → runs_of (s ∷ front ++ rest) ≡ attached s front (runs_of rest)
runs_front s [] rest all = attached_none s (runs_of rest)
runs_front s (t ∷ front) rest all =
    ap (before_runs s) (runs_front t front rest (all_of s t front all.0 all.1)) ∙ one_more s t front (runs_of rest) all.0

-- ---- parts

no_parts : (n : ℕ) → parts_from n [] ≡ []
no_parts zero = refl
no_parts (suc n) = refl

parts_short : (s : tables.Slot) (ss : List tables.Slot) → length (s ∷ ss) ≤ 255 → parts_of (s ∷ ss) ≡ (s ∷ ss) ∷ []
parts_short s ss short =
    let whole = s ∷ ss in
    let none : drop 255 whole ≡ [] = nil_from_length (drop 255 whole) (omega (arith, short, length-drop 255 whole)) in
    let taken : take 255 whole ≡ whole = take_all 255 whole short in
    ap (λ (ts : List tables.Slot). ts ∷ parts_from (length ss) (drop 255 whole)) taken
    ∙ ap (λ (ts : List tables.Slot). whole ∷ parts_from (length ss) ts) none
    ∙ ap (λ (ps : List (List tables.Slot)). whole ∷ ps) (no_parts (length ss))

enough : (n m : ℕ) (ss : List tables.Slot) → length ss ≤ n → length ss ≤ m → parts_from n ss ≡ parts_from m ss
enough zero m [] a b = sym (no_parts m)
enough zero m (s ∷ ss) a b = absurd (omega (arith, a))
enough (suc n) m [] a b = sym (no_parts m)
enough (suc n) zero (s ∷ ss) a b = absurd (omega (arith, b))
enough (suc n) (suc m) (s ∷ ss) a b =
    let whole = s ∷ ss in
    ap (λ (ps : List (List tables.Slot)). take MAX_ENTRIES whole ∷ ps)
    (enough n m (drop MAX_ENTRIES whole) (omega (arith, a, length-drop MAX_ENTRIES whole)) (omega (arith, b, length-drop MAX_ENTRIES whole)))

cut_off : {A : Type 0} (n : ℕ) (xs ys : List A) → length xs ≡ n → (take n (xs ++ ys) ≡ xs) × (drop n (xs ++ ys) ≡ ys)
cut_off zero [] ys is = (refl, refl)
cut_off zero (x ∷ xs) ys is = absurd (omega (arith, is))
cut_off (suc n) [] ys is = absurd (omega (arith, is))
cut_off {A} (suc n) (x ∷ xs) ys is =
    let rest = cut_off n xs ys (omega (arith, is)) in (ap (λ (zs : List A). x ∷ zs) rest.0, rest.1)

parts_full : (s : tables.Slot) (front : List tables.Slot) (t : tables.Slot) (ts : List tables.Slot) → length (s ∷ front) ≡ 255 → parts_of (s ∷ front ++ t ∷ ts) ≡ (s ∷ front) ∷ parts_of (t ∷ ts)
parts_full s front t ts full =
    let cut = cut_off 255 (s ∷ front) (t ∷ ts) full in
    let fuel = length (front ++ t ∷ ts) in
    let long : length (t ∷ ts) ≤ fuel = omega (arith, length-append front (t ∷ ts)) in
    ap (λ (xs : List tables.Slot). xs ∷ parts_from fuel (drop 255 (s ∷ front ++ t ∷ ts))) cut.0
    ∙ ap (λ (xs : List tables.Slot). (s ∷ front) ∷ parts_from fuel xs) cut.1
    ∙ ap (λ (ps : List (List tables.Slot)). (s ∷ front) ∷ ps) (enough fuel (length (t ∷ ts)) (t ∷ ts) long (omega arith))

-- ---- bundles

same_bundle : (s t : tables.Slot) → joins s t ≡ true → (p : List tables.Slot) → bundle_of s p ≡ bundle_of t p
same_bundle empty empty is p = refl
same_bundle (narrow_at o e) (narrow_at q f) is p = ap (λ (n : ℕ). bundle_of (narrow_at n e) p) (eqb-true o q is)
same_bundle (gate_at o e) (gate_at q f) is p = ap (λ (n : ℕ). bundle_of (gate_at n e) p) (eqb-true o q is)
same_bundle (wide_at o e) (wide_at q f) is p = ap (λ (n : ℕ). bundle_of (wide_at n e) p) (eqb-true o q is)
same_bundle (forwarder o e) (forwarder q f) is p = ap (λ (n : ℕ). bundle_of (forwarder n e) p) (eqb-true o q is)
same_bundle s t is p = absurd cc

same_bundles : (s t : tables.Slot) → joins s t ≡ true → (ps : List (List tables.Slot)) → map (bundle_of s) ps ≡ map (bundle_of t) ps
same_bundles s t is [] = refl
same_bundles s t is (p ∷ ps) =
    ap (λ (b : Bundle). b ∷ map (bundle_of s) ps) (same_bundle s t is p) ∙ ap (λ (bs : List Bundle). bundle_of t p ∷ bs) (same_bundles s t is ps)

abbrev bundles_in : List Run → List Bundle
bundles_in rs = flat_map (λ r. map (bundle_of r.first) (parts_of (r.first ∷ r.others))) rs

begun_by : (s : tables.Slot) (front : List tables.Slot) (r : Run) (rs : List Run) (b : Bool) → joins s r.first ≡ b → length (s ∷ front) ≤ 255 → (b ≡ true → length (s ∷ front) ≡ 255) →
    bundles_in (if b then grown s front r ∷ rs else alone s front ∷ r ∷ rs) ≡ bundle_of s (s ∷ front) ∷ bundles_in (r ∷ rs)
begun_by s front r rs false is short full = ap (λ (ps : List (List tables.Slot)). map (bundle_of s) ps ++ bundles_in (r ∷ rs)) (parts_short s front short)
begun_by s front r rs true is short full =
    let of_r = r.first ∷ r.others in
    ap (λ (ps : List (List tables.Slot)). map (bundle_of s) ps ++ bundles_in rs) (parts_full s front r.first r.others (full refl))
    ∙ ap (λ (bs : List Bundle). bundle_of s (s ∷ front) ∷ bs ++ bundles_in rs) (same_bundles s r.first is (parts_of of_r))

-- what stands after a bundle: it does not join, unless the bundle is full
abbrev pub Stops : tables.Slot → ℕ → List tables.Slot → Type 0
Stops s len [] = Unit {0}
Stops s len (t ∷ ts) = len < 255 → joins s t ≡ false

first_by : (t : tables.Slot) (q : Run) (rs : List Run) (r : Run) (qs : List Run) (b : Bool) → (if b then record { first = t; others = q.first ∷ q.others } ∷ rs else record { first = t; others = [] } ∷ q ∷ rs) ≡ r ∷ qs → r.first ≡ t
first_by t q rs r qs true is = let same : grown t [] q ≡ r = cc in sym (ap (λ (q : Run). q.first) same)
first_by t q rs r qs false is = let same : alone t [] ≡ r = cc in sym (ap (λ (q : Run). q.first) same)

first_is : (t : tables.Slot) (rs : List Run) (r : Run) (qs : List Run) → before_runs t rs ≡ r ∷ qs → r.first ≡ t
first_is t [] r qs is = let same : alone t [] ≡ r = cc in sym (ap (λ (q : Run). q.first) same)
first_is t (q ∷ rs) r qs is = first_by t q rs r qs (joins t q.first) is

no_both : (b : Bool) → b ≡ true → b ≡ false → ⊥
no_both b is not = absurd cc

full : (s : tables.Slot) (front : List tables.Slot) (u t : tables.Slot) → u ≡ t → length (s ∷ front) ≤ 255 → joins s u ≡ true → (length (s ∷ front) < 255 → joins s t ≡ false) → length (s ∷ front) ≡ 255
full s front u t same short joined stops = grind (arith, no_both (joins s t) (ap (joins s) (sym same) ∙ joined), stops, short)

begun_runs : (s : tables.Slot) (front : List tables.Slot) (t : tables.Slot) (ts : List tables.Slot) (rs : List Run) → runs_of (t ∷ ts) ≡ rs → length (s ∷ front) ≤ 255 → (length (s ∷ front) < 255 → joins s t ≡ false) →
    bundles_in (attached s front rs) ≡ bundle_of s (s ∷ front) ∷ bundles_in rs
begun_runs s front t ts [] is short stops = ap (λ (ps : List (List tables.Slot)). map (bundle_of s) ps ++ []) (parts_short s front short)
begun_runs s front t ts (r ∷ rs) is short stops =
    let same : r.first ≡ t = first_is t (runs_of ts) r rs is in
    begun_by s front r rs (joins s r.first) refl short (λ joined. full s front r.first t same short joined stops)

pub bundle_front : (s : tables.Slot) (front rest : List tables.Slot) → Each (λ t. joins s t ≡ true) front → length (s ∷ front) ≤ 255 → Stops s (length (s ∷ front)) rest →
    bundles_of (s ∷ front ++ rest) ≡ bundle_of s (s ∷ front) ∷ bundles_of rest
bundle_front s front [] all short stops =
    ap bundles_in (runs_front s front [] all) ∙ ap (λ (ps : List (List tables.Slot)). map (bundle_of s) ps ++ []) (parts_short s front short)
bundle_front s front (t ∷ ts) all short stops =
    ap bundles_in (runs_front s front (t ∷ ts) all) ∙ begun_runs s front t ts (runs_of (t ∷ ts)) refl short stops

-- ---- how it is written

abbrev Joined : tables.Slot → List Slot → Type 0
Joined s ss = Each (λ t. joins s (shown t) ≡ true) ss

none_bytes : (ss : List Slot) → Joined empty ss → flat_map entry_bytes ss ≡ []
none_bytes [] all = refl
none_bytes (Empty ∷ ss) all = none_bytes ss all.1
none_bytes (Narrow o f e ∷ ss) all = absurd cc
none_bytes (Wide o f e ∷ ss) all = absurd cc
none_bytes (Forwarder f i k ∷ ss) all = absurd cc

abbrev Entries : {E : Type 0} → (tables.Slot → Option E) → (E → List ℕ) → List Slot → Type 0
Entries entry spelling ss = (flat_map entry_bytes ss ≡ flat_map spelling (filter_map entry (map shown ss))) × (length (filter_map entry (map shown ss)) ≡ length ss)

more : {E : Type 0} (entry : tables.Slot → Option E) (spelling : E → List ℕ) (s : Slot) (e : E) (ss : List Slot) → entry (shown s) ≡ Some e → entry_bytes s ≡ spelling e → Entries entry spelling ss → Entries entry spelling (s ∷ ss)
more {E} entry spelling s e ss is bytes rest = (
  ap (λ (xs : List ℕ). xs ++ flat_map entry_bytes ss) bytes
      ∙ ap (λ (xs : List ℕ). spelling e ++ xs) rest.0
      ∙ ap (λ (o : Option E). flat_map spelling (cons_option o (filter_map entry (map shown ss)))) (sym is),
  ap (λ (o : Option E). length (cons_option o (filter_map entry (map shown ss)))) is ∙ ap suc rest.1,
)

narrow_bytes : (o : ℕ) (a : AtEntry) (ss : List Slot) → Joined (narrow_at o a) ss → Entries at_in (at_spelling 2) ss
narrow_bytes o a [] all = (refl, refl)
narrow_bytes o a (Empty ∷ ss) all = absurd cc
narrow_bytes o a (Narrow p f e ∷ ss) all = more at_in (at_spelling 2) (Narrow p f e) (record { flags = f; offset = e }) ss refl refl (narrow_bytes o a ss all.1)
narrow_bytes o a (Wide p f e ∷ ss) all = absurd cc
narrow_bytes o a (Forwarder f i k ∷ ss) all = absurd cc

wide_bytes : (o : ℕ) (a : AtEntry) (ss : List Slot) → Joined (wide_at o a) ss → Entries at_in (at_spelling 4) ss
wide_bytes o a [] all = (refl, refl)
wide_bytes o a (Empty ∷ ss) all = absurd cc
wide_bytes o a (Narrow p f e ∷ ss) all = absurd cc
wide_bytes o a (Wide p f e ∷ ss) all = more at_in (at_spelling 4) (Wide p f e) (record { flags = f; offset = e }) ss refl refl (wide_bytes o a ss all.1)
wide_bytes o a (Forwarder f i k ∷ ss) all = absurd cc

forward_bytes : (o : ℕ) (a : ForwardEntry) (ss : List Slot) → Joined (forwarder o a) ss → Entries forwarder_in forward_spelling ss
forward_bytes o a [] all = (refl, refl)
forward_bytes o a (Empty ∷ ss) all = absurd cc
forward_bytes o a (Narrow p f e ∷ ss) all = absurd cc
forward_bytes o a (Wide p f e ∷ ss) all = absurd cc
forward_bytes o a (Forwarder f i k ∷ ss) all = more forwarder_in forward_spelling (Forwarder f i k) (record { flags = f; import = i; key = k }) ss refl refl (forward_bytes o a ss all.1)

-- The head and the entries of slots that join are their bundle.
pub bundle_bytes : (s : Slot) (ss : List Slot) → Joined (shown s) ss → head_bytes (length ss) s ++ flat_map entry_bytes ss ≡ bundle_spelling (bundle_of (shown s) (map shown ss))
bundle_bytes Empty ss all = ap (λ (xs : List ℕ). length ss ∷ 0 ∷ xs) (none_bytes ss all) ∙ ap (λ (n : ℕ). n ∷ 0 ∷ []) (sym (length-map ss shown))
bundle_bytes (Narrow o f e) ss all =
    let es = narrow_bytes o (record { flags = f; offset = e }) ss all in
    ap (λ (xs : List ℕ). length ss ∷ 1 ∷ little_bytes 2 o ++ xs) es.0
    ∙ ap (λ (n : ℕ). n ∷ 1 ∷ little_bytes 2 o ++ flat_map (at_spelling 2) (filter_map at_in (map shown ss))) (sym es.1)
bundle_bytes (Wide o f e) ss all =
    let es = wide_bytes o (record { flags = f; offset = e }) ss all in
    ap (λ (xs : List ℕ). length ss ∷ 3 ∷ little_bytes 2 o ++ xs) es.0
    ∙ ap (λ (n : ℕ). n ∷ 3 ∷ little_bytes 2 o ++ flat_map (at_spelling 4) (filter_map at_in (map shown ss))) (sym es.1)
bundle_bytes (Forwarder f i k) ss all =
    let es = forward_bytes 0 (record { flags = f; import = i; key = k }) ss all in
    ap (λ (xs : List ℕ). length ss ∷ 4 ∷ little_bytes 2 0 ++ xs) es.0
    ∙ ap (λ (n : ℕ). n ∷ 4 ∷ little_bytes 2 0 ++ flat_map forward_spelling (filter_map forwarder_in (map shown ss))) (sym es.1)

-- ---- the first bundle of slots is written

all_shown : (s : tables.Slot) (ss : List Slot) → Joined s ss → Each (λ t. joins s t ≡ true) (map shown ss)
all_shown s [] all = tt
all_shown s (t ∷ ts) all = (all.0, all_shown s ts all.1)

map_append : (xs ys : List Slot) → map shown (xs ++ ys) ≡ map shown xs ++ map shown ys
map_append [] ys = refl
map_append (x ∷ xs) ys = ap (λ (zs : List tables.Slot). shown x ∷ zs) (map_append xs ys)

stops_at : (s : tables.Slot) (len k : ℕ) (ss : List Slot) → (len < 255 → k < length ss → joins s (shown (slice_index_or ss k Empty)) ≡ false) → Stops s len (map shown (drop k ss))
stops_at s len zero [] whole = tt
stops_at s len zero (t ∷ ts) whole = λ less. whole less (omega arith)
stops_at s len (suc k) [] whole = tt
stops_at s len (suc k) (t ∷ ts) whole = stops_at s len k ts (λ less there. whole less (omega (arith, there)))

written : (s : Slot) (ss : List Slot) (k : ℕ) → BeginBundle (s ∷ ss) (suc k) →
    head_bytes (suc k) s ++ flat_map entry_bytes (take (suc k) (s ∷ ss)) ++ flat_map bundle_spelling (bundles_of (map shown (drop k ss))) ≡ flat_map bundle_spelling (bundles_of (map shown (s ∷ ss)))
written s ss k begin =
    let front = take k ss in
    let rest = drop k ss in
    let size : length (s ∷ front) ≡ suc k = omega (arith, length-take k ss, begin.there) in
    let bytes : head_bytes (suc k) s ++ flat_map entry_bytes (s ∷ front) ≡ bundle_spelling (bundle_of (shown s) (map shown (s ∷ front))) =
    ap (λ (n : ℕ). head_bytes n s ++ flat_map entry_bytes (s ∷ front)) (sym size) ∙ bundle_bytes s (s ∷ front) begin.alike in
    let short : length (shown s ∷ map shown front) ≤ 255 = omega (arith, length-map front shown, size, begin.few) in
    let stop : Stops (shown s) (suc k) (map shown rest) = stops_at (shown s) (suc k) k ss (λ less there. begin.whole less (omega (arith, there))) in
    let front_is = bundle_front (shown s) (map shown front) (map shown rest) (all_shown (shown s) front begin.alike.1) short
    (subst (λ (n : ℕ). Stops (shown s) n (map shown rest)) (omega (arith, length-map front shown, size)) stop) in
    let joined : map shown (s ∷ ss) ≡ shown s ∷ map shown front ++ map shown rest =
    ap (λ (ts : List Slot). map shown (s ∷ ts)) (sym (take-append-drop k ss)) ∙ ap (λ (ts : List tables.Slot). shown s ∷ ts) (map_append front rest) in
    ap (λ (xs : List ℕ). xs ++ flat_map bundle_spelling (bundles_of (map shown rest))) bytes
    ∙ sym (ap (λ (ts : List tables.Slot). flat_map bundle_spelling (bundles_of ts)) joined ∙ ap (flat_map bundle_spelling) front_is)

pub bundle_written : (slots : List Slot) (len : ℕ) → BeginBundle slots len →
    head_bytes len (slice_index_or slots 0 Empty) ++ flat_map entry_bytes (take len slots) ++ flat_map bundle_spelling (bundles_of (map shown (drop len slots))) ≡ flat_map bundle_spelling (bundles_of (map shown slots))
bundle_written [] len begin = absurd (omega (arith, begin.some, begin.there))
bundle_written (s ∷ ss) zero begin = absurd (omega (arith, begin.some))
bundle_written (s ∷ ss) (suc k) begin = written s ss k begin
