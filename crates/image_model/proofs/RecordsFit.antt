-- The fixup records of a link can be written, and what they name is there.
use Rattle.std.specs.Prelude.{◌≡◌, ℕ, suc, pos, negsuc, ◌-ℤ◌, ◌+ℤ◌, ◌≤ℤ◌, ◌+◌, ◌-◌, ◌*◌, ◌≤◌, ◌<◌, Bool, true, false, cond, not, ◌&&◌, ◌||◌, ◌==◌, nat_lt, List, [], ◌∷◌, Option, Some, None, length, filter, slice_get, bytes_eq, is_some, unwrap_or, if◌then◌else◌, refl, ◌⊎◌}
use Rattle.std.specs.List.{filter_map, cons_option, enumerate_from, position, All, AllPairs, AllByRecursion}
use Rattle.std.specs.Option.{option_map, option_and_then}
use Rattle.std.proofs.Common.{ap, sym, ◌∙◌, arith, true≢false, subst, inl, inr}
use Rattle.std.proofs.lemmas.Bool.{agree_below_at, cases_lt, eq-eqb, eqb-true, or_cases, and_parts, ltb-true, ltb-false, and_cases}
use Rattle.std.proofs.lemmas.Int.{ints}
use Rattle.std.proofs.lemmas.List.Elements.{All-from_recursion, recursion_from_All, filter_passes}
use Rattle.std.proofs.lemmas.List.Kept.{AllPairs-cons, AllPairs-filter}
use Rattle.std.proofs.lemmas.List.Quantifiers.{position-Some}
use Rattle.link_model.proofs.ValueLengths.{no_location}
use Rattle.lx_types.specs.Names.{uppercase}
use Rattle.lx_types.specs.Sound.{IsNumberOf}
use Rattle.lx_types.specs.declared.entry.EntryKey.{EntryKey}
use Rattle.lx_types.specs.declared.entry.EntryKey.TheVariants as keys
use Rattle.lx_types.specs.declared.object.TheConstants.{PAGE_SIZE}
use Rattle.lx_types.specs.declared.fix.Fix.{Fix}
use Rattle.lx_types.specs.declared.fix.Source.{Source}
use Rattle.lx_types.specs.declared.fix.Source.TheVariants.{Byte, Sel, Far16, Off16, Far32, Off32, Self32}
use Rattle.lx_types.specs.declared.fix.FixTarget.{FixTarget}
use Rattle.lx_types.specs.declared.fix.FixTarget.TheVariants as leads
use Rattle.obj_types.specs.Location.{location_len}
use Rattle.obj_types.specs.Whole.{WholeFix}
use Rattle.obj_types.specs.declared.object.FixAt.{FixAt}
use Rattle.obj_types.specs.declared.object.ObjModule.{ObjModule}
use Rattle.obj_types.specs.declared.symbol.Imp.{Imp}
use Rattle.lx_model.specs.Sources.{source_size, has_selector}
use Rattle.lx_model.specs.RecordSpelling.{OffsetFits, AliasFits}
use Rattle.link_model.specs.Words.{wrapped}
use Rattle.link_model.specs.Link.{Link}
use Rattle.link_model.specs.Symbols.{imports}
use Rattle.link_model.specs.LayoutRefusals.{lay_refusal}
use Rattle.link_model.specs.Goals.{Target, Internal, Constant, Entry, target_of, location}
use Rattle.link_model.specs.Fixups.{Fixup, fixup_at, fixup_of, fixups}
use Rattle.link_model.specs.Mean.{fixup_end, overlap, live_fixups}
use Rattle.link_model.specs.Patches.{is_patched, recorded}
use Rattle.link_model.specs.ImportTables.{used_pairs, link_pairs, modules_in, procs_in, entry_target, import_target}
use Rattle.link_model.specs.Records.{source_of, has_alias, target_and_additive, offset_on, record_on, stands_on, page_records}
use Rattle.link_model.specs.NothingDropped.{WholeLink}
use Rattle.link_model.proofs.Rules.{rules}
use Rattle.link_model.proofs.Members.{In, here, there, all_in, from_filter, from_flat_map}
use Rattle.link_model.proofs.LiveFixups.{live_apart}
use Rattle.link_model.proofs.LiveMeans.{is_live}
use Rattle.link_model.proofs.FixupsStay.{module_whole, numbered_module}
use Rattle.image_model.proofs.ObjectsThere.{IsThere}
use Rattle.image_model.proofs.TargetsThere.{LeadsThere, fixup_there, through, mapped, from_filter_map}
use Rattle.image_model.proofs.FewImports.{more-modules, more-procs}

-- ---- sources by locations

abbrev source_by : ℕ → Bool → Source
source_by loc selfrel =
    if loc == 0 then Byte
    else if loc == 1 || loc == 5 then Off16
    else if loc == 2 then Sel
    else if loc == 3 then Far16
    else if loc == 11 then Far32
    else if selfrel then Self32
    else Off32

abbrev pub is_sel : Source → Bool
is_sel Byte = false
is_sel Sel = true
is_sel Far16 = false
is_sel Off16 = false
is_sel Far32 = false
is_sel Off32 = false
is_sel Self32 = false

-- Of a location that there is: the source is as long, an alias is that of a selector, and a selector alone is location 2.
abbrev is_right : Bool → Bool → ℕ → Bool
is_right selfrel narrow loc =
    location_len loc == 0 || (source_size (source_by loc selfrel) == location_len loc
    && (not (loc == 3 || loc == 2 && narrow) || has_selector (source_by loc selfrel))
    && (not (is_sel (source_by loc selfrel)) || loc == 2))

all_right : (selfrel narrow : Bool) (loc : ℕ) → loc < 14 → is_right selfrel narrow loc ≡ true
all_right true true loc h = agree_below_at (is_right true true) (λ n. true) 14 loc refl h
all_right true false loc h = agree_below_at (is_right true false) (λ n. true) 14 loc refl h
all_right false true loc h = agree_below_at (is_right false true) (λ n. true) 14 loc refl h
all_right false false loc h = agree_below_at (is_right false false) (λ n. true) 14 loc refl h

record Right (loc : ℕ) (selfrel narrow : Bool) : Type 0 where
  size : source_size (source_by loc selfrel) ≡ location_len loc
  alias : (not (loc == 3 || loc == 2 && narrow) || has_selector (source_by loc selfrel)) ≡ true
  alone : (not (is_sel (source_by loc selfrel)) || loc == 2) ≡ true

right_by : (loc : ℕ) (selfrel narrow : Bool) → 0 < location_len loc → is_right selfrel narrow loc ≡ true → Right loc selfrel narrow
right_by loc selfrel narrow h e =
    elim (or_cases (location_len loc == 0) _ e) as (λ s. Right loc selfrel narrow) [ inl z ↦ absurd (omega (arith, eqb-true (location_len loc) 0 z, h)) | inr s ↦ right_parts s ]
  where
    right_parts : (source_size (source_by loc selfrel) == location_len loc && (not (loc == 3 || loc == 2 && narrow) || has_selector (source_by loc selfrel)) && (not (is_sel (source_by loc selfrel)) || loc == 2)) ≡ true → Right loc selfrel narrow
    right_parts s =
        let last = and_parts (source_size (source_by loc selfrel) == location_len loc && (not (loc == 3 || loc == 2 && narrow) || has_selector (source_by loc selfrel))) (not (is_sel (source_by loc selfrel)) || loc == 2) s in
        let first = and_parts (source_size (source_by loc selfrel) == location_len loc) (not (loc == 3 || loc == 2 && narrow) || has_selector (source_by loc selfrel)) last.0 in
        record { size = eqb-true (source_size (source_by loc selfrel)) (location_len loc) first.0; alias = first.1; alone = last.1 }

right : (loc : ℕ) (selfrel narrow : Bool) → 0 < location_len loc → Right loc selfrel narrow
right loc selfrel narrow h =
    elim (cases_lt loc 14) as (λ s. Right loc selfrel narrow) [ inl below ↦ right_by loc selfrel narrow h (all_right selfrel narrow loc below) | inr past ↦ absurd (omega (arith, no_location loc past, h)) ]

-- ---- offsets

offset_fits : (s : Source) (a b len : ℕ) → source_size s ≡ len → b < a + len → a < b + PAGE_SIZE → OffsetFits s (pos a -ℤ pos b)
offset_fits s a b len size from to =
    elim (cases_lt a b) as (λ t. OffsetFits s (pos a -ℤ pos b)) [
      | inl below ↦ let e : negsuc (b - a - 1) ≡ pos a -ℤ pos b = omega (arith, ints) in let h : b - a - 1 + 1 < source_size s = omega (arith, size, from, below) in subst (OffsetFits s) e h
      | inr past ↦ let e : pos (a - b) ≡ pos a -ℤ pos b = omega (arith, ints) in let h : a - b < PAGE_SIZE = omega (arith, to, past) in subst (OffsetFits s) e h
    ]

alias_fits : (b : Bool) (s : Source) → (not b || has_selector s) ≡ true → AliasFits b s
alias_fits true s e = e
alias_fits false s e = tt

-- ---- targets

-- What a record's target names is there.
abbrev pub NamesThere : Link → FixTarget → Type 0
NamesThere l (leads.Internal o offset) = IsThere l o
NamesThere l (leads.Ordinal import n) = IsNumberOf import (length (modules_in (link_pairs l)))
NamesThere l (leads.Named import k) = IsNumberOf import (length (modules_in (link_pairs l))) × (k < length (procs_in (link_pairs l)))
NamesThere l (leads.Own n) = ⊥

-- The offset of a target in the link.
abbrev pub offset_in_target : FixTarget → ℕ
offset_in_target (leads.Internal o offset) = offset
offset_in_target (leads.Ordinal import n) = 0
offset_in_target (leads.Named import k) = 0
offset_in_target (leads.Own n) = 0

pub record RecordFits (l : Link) (f : Fix) : Type 0 where
  pub offset : OffsetFits f.source f.offset
  pub alias : AliasFits f.alias f.source
  pub names : NamesThere l f.target
  pub alone : is_sel f.source ≡ true → offset_in_target f.target ≡ 0

pub position_below : {X : Type 0} (test : X → Bool) (xs : List X) (k : ℕ) → position test xs ≡ Some k → k < length xs
position_below test [] k e = absurd (true≢false (sym (ap is_some e)))
position_below test (x ∷ xs) k e = (position-Some test (x ∷ xs) k x e).0

-- What an import pair's target names is in the tables of its pairs.
abbrev pub AmongPairs : List Imp → FixTarget → Type 0
AmongPairs pairs (leads.Internal o offset) = ⊥
AmongPairs pairs (leads.Ordinal import n) = IsNumberOf import (length (modules_in pairs))
AmongPairs pairs (leads.Named import k) = IsNumberOf import (length (modules_in pairs)) × (k < length (procs_in pairs))
AmongPairs pairs (leads.Own n) = ⊥

entry_among : (pairs : List Imp) (n : ℕ) (entry : EntryKey) (t : FixTarget) → IsNumberOf n (length (modules_in pairs)) → entry_target pairs n entry ≡ Some t → AmongPairs pairs t
entry_among pairs n (keys.Ordinal o) t h e =
    subst (AmongPairs pairs) (ap (λ (x : Option FixTarget). unwrap_or x t) e) h
entry_among pairs n (keys.Named name) t h e =
    let r = mapped (λ (k : ℕ). leads.Named n k) (position (λ x. bytes_eq name x) (procs_in pairs)) t e in
    subst (AmongPairs pairs) r.gives (h, position_below (λ x. bytes_eq name x) (procs_in pairs) r.item r.is)

pub import-among : (pairs : List Imp) (pair : Imp) (t : FixTarget) → import_target pairs pair ≡ Some t → AmongPairs pairs t
import-among pairs pair t e =
    let k = through (λ k. entry_target pairs (k + 1) pair.entry) (position (λ x. bytes_eq (uppercase pair.module) x) (modules_in pairs)) t e in
    let below = position_below (λ x. bytes_eq (uppercase pair.module) x) (modules_in pairs) k.item k.is in
    entry_among pairs (k.item + 1) pair.entry t (omega arith, omega (arith, below)) k.gives

names_more : (l : Link) (t : FixTarget) → AmongPairs (used_pairs l) t → NamesThere l t
names_more l (leads.Internal o offset) h = absurd h
names_more l (leads.Ordinal import n) h = let more = more-modules l in (h.0, omega (arith, h.1, more))
names_more l (leads.Named import k) h =
    let more = more-modules l in let names = more-procs l in ((h.0.0, omega (arith, h.0.1, more)), omega (arith, h.1, names))
names_more l (leads.Own n) h = absurd h

no_offset : (pairs : List Imp) (t : FixTarget) → AmongPairs pairs t → offset_in_target t ≡ 0
no_offset pairs (leads.Internal o offset) h = absurd h
no_offset pairs (leads.Ordinal import n) h = refl
no_offset pairs (leads.Named import k) h = refl
no_offset pairs (leads.Own n) h = refl

record TargetFits (l : Link) (s : Source) (t : FixTarget) : Type 0 where
  names : NamesThere l t
  alone : is_sel s ≡ true → offset_in_target t ≡ 0

chosen_offset : (l : Link) (s : Source) (b : Bool) (o x y : ℕ) → IsThere l o → (not (is_sel s) || b) ≡ true → TargetFits l s (cond {A = FixTarget × ℕ} b (leads.Internal o 0, y) (leads.Internal o x, 0)).0
chosen_offset l s true o x y h e = record { names = h; alone = λ is. refl }
chosen_offset l s false o x y h e = record { names = h; alone = λ is. absurd (true≢false (sym e ∙ ap (λ (t : Bool). not t || false) is)) }

target_fits : (l : Link) (q : Fixup) (t : Target) (f : FixTarget × ℕ) → LeadsThere l t → (not (is_sel (source_of q)) || q.fix.loc == 2) ≡ true → target_and_additive l q t ≡ Some f → TargetFits l (source_of q) f.0
target_fits l q (Internal o offset) f h alone e =
    subst (λ (p : FixTarget × ℕ). TargetFits l (source_of q) p.0) (ap (λ (x : Option (FixTarget × ℕ)). unwrap_or x f) e) (chosen_offset l (source_of q) (q.fix.loc == 2) o _ _ h alone)
target_fits l q (Constant value) f h alone e = absurd (true≢false (sym (ap is_some e)))
target_fits l q (Entry slot) f h alone e =
    let r = mapped (λ (t : FixTarget). (t, wrapped (q.fix.disp + q.standing))) (option_and_then (import_target (used_pairs l)) (slice_get (imports l) slot)) f e in
    let pair = through (import_target (used_pairs l)) (slice_get (imports l) slot) r.item r.is in
    let among = import-among (used_pairs l) pair.item r.item pair.gives in
    let same : r.item ≡ f.0 = ap (λ (p : FixTarget × ℕ). p.0) r.gives in
    subst (TargetFits l (source_of q)) same (record { names = names_more l r.item among; alone = λ is. no_offset (used_pairs l) r.item among })

-- ---- a record

stands : (object k : ℕ) (q : Fixup) → stands_on object k q ≡ true → (q.object ≡ object) × (k * PAGE_SIZE < fixup_end q) × (q.offset < k * PAGE_SIZE + PAGE_SIZE)
stands object k q e =
    let last = and_parts (q.object == object && nat_lt (k * PAGE_SIZE) (fixup_end q)) (nat_lt q.offset (k * PAGE_SIZE + PAGE_SIZE)) e in
    let first = and_parts (q.object == object) (nat_lt (k * PAGE_SIZE) (fixup_end q)) last.0 in
    (eqb-true q.object object first.0, ltb-true (k * PAGE_SIZE) (fixup_end q) first.1, ltb-true q.offset (k * PAGE_SIZE + PAGE_SIZE) last.1)

abbrev record_with : ℕ → Fixup → FixTarget × ℕ → Fix
record_with k q t = record { source = source_of q; alias = has_alias q; offset = offset_on k q; target = t.0; additive = t.1 }

record_fits : (l : Link) (object k : ℕ) (q : Fixup) (f : Fix) → LeadsThere l q.target → 0 < location_len q.fix.loc → stands_on object k q ≡ true → record_on l k q ≡ Some f → RecordFits l f
record_fits l object k q f led long on e =
    let r = mapped (record_with k q) (target_and_additive l q q.target) f e in
    let at = stands object k q on in
    let is = right q.fix.loc q.fix.selfrel q.narrow long in
    let target = target_fits l q q.target r.item led is.alone r.is in
    subst (RecordFits l) r.gives (record {
      offset = offset_fits (source_of q) q.offset (k * PAGE_SIZE) (location_len q.fix.loc) is.size at.1 at.2;
      alias = alias_fits (has_alias q) (source_of q) is.alias;
      names = target.names;
      alone = target.alone;
    })

-- ---- all records of a page

pub fixup_location : (l : Link) (q : Fixup) → WholeLink l → In q (fixups l) → 0 < location_len q.fix.loc
unfolding fixups
fixup_location l q whole i =
    let m = from_flat_map (λ (p : ℕ × ObjModule). filter_map (fixup_of l p.0 p.1) p.1.fixes) (enumerate_from 1 l.modules) i in
    let f = from_filter_map (fixup_of l m.item.0 m.item.1) m.item.1.fixes m.gives in
    let t = through (λ t. option_map (fixup_at l m.item.0 m.item.1 f.item t) (location l m.item.0 f.item)) (target_of l m.item.0 f.item.goal) q f.gives in
    let p = mapped (fixup_at l m.item.0 m.item.1 f.item t.item) (location l m.item.0 f.item) q t.gives in
    let is = module_whole l m.item.0 m.item.1 whole (numbered_module l m.item m.inside) in
    let fits = all_in (WholeFix m.item.1) m.item.1.fixes is.fixes f.inside in
    let same : f.item ≡ q.fix = ap (λ (x : Fixup). x.fix) p.gives in
    subst (λ (x : FixAt). 0 < location_len x.loc) same fits.location

pub recorded_in : (l : Link) (q : Fixup) → In q (recorded l) → In q (fixups l)
unfolding rules
recorded_in l q i = is_live (fixups l) (from_filter (λ q. not (is_patched q)) (live_fixups l) i)

each_fits : (l : Link) (object k : ℕ) (qs : List Fixup) → lay_refusal l ≡ None → WholeLink l → ((q : Fixup) → In q qs → In q (fixups l)) → AllByRecursion (λ q. stands_on object k q ≡ true) qs → AllByRecursion (RecordFits l) (filter_map (record_on l k) qs)
each_fits l object k [] none whole sub on = tt
each_fits l object k (q ∷ qs) none whole sub on =
    more_by (record_on l k q) refl (each_fits l object k qs none whole (λ p i. sub p (there i)) on.1)
  where
    more_by : (o : Option Fix) → record_on l k q ≡ o → AllByRecursion (RecordFits l) (filter_map (record_on l k) qs) → AllByRecursion (RecordFits l) (cons_option o (filter_map (record_on l k) qs))
    more_by None e rest = rest
    more_by (Some f) e rest =
        (record_fits l object k q f (fixup_there l q none (sub q here)) (fixup_location l q whole (sub q here)) on.0 e, rest)

pub passing : {X : Type 0} (p : X → Bool) (xs : List X) → AllByRecursion (λ x. p x ≡ true) (filter p xs)
passing p xs = recursion_from_All (λ x. p x ≡ true) (filter p xs) (filter_passes p xs)

pub page-fits : (l : Link) (object k : ℕ) → lay_refusal l ≡ None → WholeLink l → All (RecordFits l) (page_records l object k)
unfolding page_records
page-fits l object k none whole =
    All-from_recursion (RecordFits l) (filter_map (record_on l k) (filter (stands_on object k) (recorded l)))
    (each_fits l object k (filter (stands_on object k) (recorded l)) none whole (λ q i. recorded_in l q (from_filter (stands_on object k) (recorded l) i)) (passing (stands_on object k) (recorded l)))

-- ---- no two share a byte

abbrev pub Apart : Fix → Fix → Type 0
Apart f g = ((f.offset +ℤ pos (source_size f.source)) ≤ℤ g.offset) ⊎ ((g.offset +ℤ pos (source_size g.source)) ≤ℤ f.offset)

apart_numbers : (a b m n p : ℕ) → a + m ≤ b ⊎ b + n ≤ a → (((pos a -ℤ pos p) +ℤ pos m) ≤ℤ (pos b -ℤ pos p)) ⊎ (((pos b -ℤ pos p) +ℤ pos n) ≤ℤ (pos a -ℤ pos p))
apart_numbers a b m n p (inl h) = inl (omega (arith, ints, h))
apart_numbers a b m n p (inr h) = inr (omega (arith, ints, h))

-- Two fixups of one object that share no byte.
either_first : (a b : Fixup) → a.object ≡ b.object → overlap a b ≡ false → (fixup_end a ≤ b.offset) ⊎ (fixup_end b ≤ a.offset)
either_first a b same e =
    elim (and_cases (a.object == b.object && nat_lt a.offset (fixup_end b)) (nat_lt b.offset (fixup_end a)) e) as (λ s. (fixup_end a ≤ b.offset) ⊎ (fixup_end b ≤ a.offset)) [
      | inl h ↦ inr (ltb-false a.offset (fixup_end b) (second_false (a.object == b.object) (nat_lt a.offset (fixup_end b)) (eq-eqb a.object b.object same) h))
      | inr h ↦ inl (ltb-false b.offset (fixup_end a) h)
    ]
  where
    second_false : (a b : Bool) → a ≡ true → (a && b) ≡ false → b ≡ false
    second_false true b t e = e
    second_false false b t e = absurd (true≢false (sym t))

records_apart : (l : Link) (object k : ℕ) (a b : Fixup) (f g : Fix) → 0 < location_len a.fix.loc → 0 < location_len b.fix.loc → stands_on object k a ≡ true → stands_on object k b ≡ true → overlap a b ≡ false
    → record_on l k a ≡ Some f → record_on l k b ≡ Some g → Apart f g
records_apart l object k a b f g ha hb on_a on_b apart ea eb =
    let ra = mapped (record_with k a) (target_and_additive l a a.target) f ea in
    let rb = mapped (record_with k b) (target_and_additive l b b.target) g eb in
    let sa = stands object k a on_a in
    let sb = stands object k b on_b in
    let za = (right a.fix.loc a.fix.selfrel a.narrow ha).size in
    let zb = (right b.fix.loc b.fix.selfrel b.narrow hb).size in
    let way = either_first a b (sa.0 ∙ sym sb.0) apart in
    let numbers = apart_numbers a.offset b.offset (location_len a.fix.loc) (location_len b.fix.loc) (k * PAGE_SIZE) way in
    let sized : Apart (record_with k a ra.item) (record_with k b rb.item) = subst (λ (n : ℕ). ((offset_on k a +ℤ pos n) ≤ℤ offset_on k b) ⊎ ((offset_on k b +ℤ pos (source_size (source_of b))) ≤ℤ offset_on k a)) (sym za) (subst (λ (n : ℕ). ((offset_on k a +ℤ pos (location_len a.fix.loc)) ≤ℤ offset_on k b) ⊎ ((offset_on k b +ℤ pos n) ≤ℤ offset_on k a)) (sym zb) numbers) in
    subst (λ (x : Fix). Apart x g) ra.gives (subst (λ (x : Fix). Apart (record_with k a ra.item) x) rb.gives sized)

-- From one record to those after it.
others_apart : (l : Link) (object k : ℕ) (a : Fixup) (f : Fix) (qs : List Fixup) → 0 < location_len a.fix.loc → stands_on object k a ≡ true → record_on l k a ≡ Some f
    → AllByRecursion (λ q. (0 < location_len q.fix.loc) × (stands_on object k q ≡ true) × (overlap a q ≡ false)) qs → AllByRecursion (Apart f) (filter_map (record_on l k) qs)
others_apart l object k a f [] ha on e all = tt
others_apart l object k a f (q ∷ qs) ha on e all = more_by (record_on l k q) refl (others_apart l object k a f qs ha on e all.1)
  where
    more_by : (o : Option Fix) → record_on l k q ≡ o → AllByRecursion (Apart f) (filter_map (record_on l k) qs) → AllByRecursion (Apart f) (cons_option o (filter_map (record_on l k) qs))
    more_by None is rest = rest
    more_by (Some g) is rest = (records_apart l object k a q f g ha all.0.0 on all.0.1 all.0.2 e is, rest)

abbrev Good : ℕ → ℕ → Fixup → Type 0
Good object k q = (0 < location_len q.fix.loc) × (stands_on object k q ≡ true)

abbrev LiveApart : List Fixup → Type 0
LiveApart qs = AllPairs (λ a b. overlap a b ≡ false) qs

with_apart : (object k : ℕ) (a : Fixup) (qs : List Fixup) → AllByRecursion (Good object k) qs → AllByRecursion (λ b. overlap a b ≡ false) qs → AllByRecursion (λ q. (0 < location_len q.fix.loc) × (stands_on object k q ≡ true) × (overlap a q ≡ false)) qs
with_apart object k a [] h g = tt
with_apart object k a (q ∷ qs) h g = ((h.0.0, h.0.1, g.0), with_apart object k a qs h.1 g.1)

all_apart : (l : Link) (object k : ℕ) (qs : List Fixup) → AllByRecursion (Good object k) qs → LiveApart qs → AllPairs Apart (filter_map (record_on l k) qs)
all_apart l object k [] good apart = λ i j d lt below. absurd (omega arith)
all_apart l object k (q ∷ qs) good apart = more_by (record_on l k q) refl (all_apart l object k qs good.1 (λ i j d lt len. apart (suc i) (suc j) d (omega (arith, lt)) (omega (arith, len))))
  where
    firsts : AllByRecursion (λ b. overlap q b ≡ false) qs
    firsts = recursion_from_All (λ b. overlap q b ≡ false) qs (λ i d lt. apart 0 (suc i) d (omega arith) (omega (arith, lt)))

    more_by : (o : Option Fix) → record_on l k q ≡ o → AllPairs Apart (filter_map (record_on l k) qs) → AllPairs Apart (cons_option o (filter_map (record_on l k) qs))
    more_by None is rest = rest
    more_by (Some f) is rest =
        AllPairs-cons Apart f (filter_map (record_on l k) qs) (All-from_recursion (Apart f) (filter_map (record_on l k) qs) (others_apart l object k q f qs good.0.0 good.0.1 is (with_apart object k q qs good.1 firsts))) rest

recorded_apart : (l : Link) → LiveApart (recorded l)
unfolding rules
recorded_apart l = AllPairs-filter (λ (a : Fixup) (b : Fixup). overlap a b ≡ false) (λ q. not (is_patched q)) (live_fixups l) (live_apart (fixups l))

located : (l : Link) (object k : ℕ) (qs : List Fixup) → WholeLink l → ((q : Fixup) → In q qs → In q (fixups l)) → AllByRecursion (λ q. stands_on object k q ≡ true) qs → AllByRecursion (Good object k) qs
located l object k [] whole sub on = tt
located l object k (q ∷ qs) whole sub on =
    ((fixup_location l q whole (sub q here), on.0), located l object k qs whole (λ p i. sub p (there i)) on.1)

pub page-apart : (l : Link) (object k : ℕ) → WholeLink l → AllPairs Apart (page_records l object k)
unfolding page_records
page-apart l object k whole =
    let qs : List Fixup = filter (stands_on object k) (recorded l) in
    all_apart l object k qs (located l object k qs whole (λ q i. recorded_in l q (from_filter (stands_on object k) (recorded l) i)) (passing (stands_on object k) (recorded l)))
    (AllPairs-filter (λ (a : Fixup) (b : Fixup). overlap a b ≡ false) (stands_on object k) (recorded l) (recorded_apart l))
