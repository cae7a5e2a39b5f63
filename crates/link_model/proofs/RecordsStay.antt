-- Each live fixup that is not patched has a record.
use Rattle.std.specs.Prelude.{◌≡◌, ℕ, ℤ, ◌+◌, ◌<◌, Bool, true, false, cond, not, ◌&&◌, ◌||◌, List, [], ◌∷◌, Option, Some, None, IsSome, map, length, filter, is_some, unwrap_or, bytes_eq, refl}
use Rattle.std.specs.List.{filter_map, cons_option, enumerate_from, position}
use Rattle.std.specs.Option.{option_map, option_and_then, option_map_or}
use Rattle.std.specs.Cmp.Lexicographic.{nat_list_eq_equiv}
use Rattle.std.proofs.Common.{ap, sym, ◌∙◌, true≢false, subst}
use Rattle.std.proofs.lemmas.Bool.{not-true}
use Rattle.std.proofs.lemmas.Option.{same_Some}
use Rattle.lx_types.specs.Names.{uppercase}
use Rattle.lx_types.specs.declared.entry.EntryKey.{EntryKey}
use Rattle.lx_types.specs.declared.entry.EntryKey.TheVariants as keys
use Rattle.lx_types.specs.declared.fix.Fix.{Fix}
use Rattle.lx_types.specs.declared.fix.FixTarget.{FixTarget}
use Rattle.lx_types.proofs.Options.{mapped_some}
use Rattle.obj_types.specs.declared.object.FixAt.{FixAt}
use Rattle.obj_types.specs.declared.object.Goal.{Goal}
use Rattle.obj_types.specs.declared.object.Goal.TheVariants as goals
use Rattle.obj_types.specs.declared.object.ObjModule.{ObjModule}
use Rattle.obj_types.specs.declared.symbol.Imp.{Imp}
use Rattle.obj_types.specs.Items.{item}
use Rattle.link_model.specs.declared.symbols.SymDef.{SymDef}
use Rattle.link_model.specs.declared.symbols.SymDef.TheVariants as means
use Rattle.link_model.specs.Appearance.{firsts}
use Rattle.link_model.specs.Link.{Link, chosen_module}
use Rattle.link_model.specs.Symbols.{imports, Sym}
use Rattle.link_model.specs.Layout.{spot, common_spot}
use Rattle.link_model.specs.Goals.{Target, Internal, Constant, Entry, shifted, of_symbol, group_name, object_of_group, target_of, location}
use Rattle.link_model.specs.Fixups.{Fixup, fixup_at, fixup_of, fixups, is_constant, stays_in_object}
use Rattle.link_model.specs.Mean.{live_fixups}
use Rattle.link_model.specs.Patches.{is_patched, recorded}
use Rattle.link_model.specs.ImportTables.{pair_used, used_pairs, proc_name, entry_target, import_target}
use Rattle.link_model.specs.Records.{source_of, has_alias, target_and_additive, record_on, offset_on, stands_on, page_records}
use Rattle.link_model.specs.NothingDropped.{WholeLink, RecordsStay}
use Rattle.link_model.proofs.Rules.{rules}
use Rattle.link_model.proofs.Tables.{any-firsts}
use Rattle.link_model.proofs.Members.{In, here, there, in_map, any_in, position_is, item_at, from_filter, from_flat_map}
use Rattle.link_model.proofs.FixupsStay.{IsThere, sym_there}
use Rattle.link_model.proofs.LiveMeans.{is_live}

-- ---- through options and filtered maps

record Through {X Y : Type 0} (f : X → Option Y) (o : Option X) (y : Y) : Type 0 where
  item : X
  is : o ≡ Some item
  gives : f item ≡ Some y

through : {X Y : Type 0} (f : X → Option Y) (o : Option X) (y : Y) → option_and_then f o ≡ Some y → Through f o y
through f None y e = absurd (true≢false (sym (ap is_some e)))
through f (Some x) y e = record { item = x; is = refl; gives = e }

record FilterMapped {X Y : Type 0} (h : X → Option Y) (xs : List X) (y : Y) : Type 0 where
  item : X
  inside : In item xs
  gives : h item ≡ Some y

later : {X Y : Type 0} (h : X → Option Y) (x : X) (xs : List X) (y : Y) → FilterMapped h xs y → FilterMapped h (x ∷ xs) y
later h x xs y r = record { item = r.item; inside = there r.inside; gives = r.gives }

from_cons : {X Y : Type 0} (h : X → Option Y) (x : X) (xs : List X) (o : Option Y) (ys : List Y) {y : Y} → h x ≡ o → In y (cons_option o ys) → (In y ys → FilterMapped h xs y) → FilterMapped h (x ∷ xs) y
from_cons h x xs None ys {y} is i rest = later h x xs y (rest i)
from_cons h x xs (Some z) ys is here rest = record { item = x; inside = here; gives = is }
from_cons h x xs (Some z) ys {y} is (there i) rest = later h x xs y (rest i)

from_filter_map : {X Y : Type 0} (h : X → Option Y) (xs : List X) {y : Y} → In y (filter_map h xs) → FilterMapped h xs y
from_filter_map h [] i = elim i [ ]
from_filter_map h (x ∷ xs) i = from_cons h x xs (h x) (filter_map h xs) refl i (λ j. from_filter_map h xs j)

in_cons : {Y : Type 0} (o : Option Y) {y : Y} (ys : List Y) → o ≡ Some y → In y (cons_option o ys)
in_cons None ys e = absurd (true≢false (sym (ap is_some e)))
in_cons {Y} (Some z) {y} ys e = subst (λ (t : Y). In y (t ∷ ys)) (sym (ap (λ (o : Option Y). unwrap_or o y) e)) here

in_more : {Y : Type 0} (o : Option Y) {y : Y} {ys : List Y} → In y ys → In y (cons_option o ys)
in_more None i = i
in_more (Some z) i = there i

in_filter_map : {X Y : Type 0} (h : X → Option Y) {x : X} {xs : List X} {y : Y} → In x xs → h x ≡ Some y → In y (filter_map h xs)
in_filter_map h {xs = []} i e = elim i [ ]
in_filter_map h {xs = z ∷ xs} here e = in_cons (h z) (filter_map h xs) e
in_filter_map h {xs = z ∷ xs} (there i) e = in_more (h z) (in_filter_map h i e)

-- ---- a fixup's target is there

abbrev is_entry : Target → Bool
is_entry (Internal o offset) = false
is_entry (Constant value) = false
is_entry (Entry slot) = true

abbrev slot_of : Target → ℕ
slot_of (Internal o offset) = 0
slot_of (Constant value) = 0
slot_of (Entry slot) = slot

abbrev InImports : Link → Target → Type 0
InImports l t = is_entry t ≡ true → slot_of t < length (imports l)

not_there : (l : Link) (t : Target) → is_entry t ≡ false → InImports l t
not_there l t other entry = absurd (true≢false (sym entry ∙ other))

place_target : (l : Link) (o : Option (ℕ × ℕ)) (t : Target) → option_map (λ q. Internal q.0 q.1) o ≡ Some t → InImports l t
place_target l None t e = absurd (true≢false (sym (ap is_some e)))
place_target l (Some q) t e = not_there l t (sym (ap is_entry (same_Some (Internal q.0 q.1) t e)))

symbol_target : (l : Link) (d : SymDef) (t : Target) → IsThere l d → of_symbol l d ≡ Some t → InImports l t
symbol_target l (means.In n seg offset) t h e = place_target l (option_map (shifted offset) (spot l n seg)) t e
symbol_target l (means.Const value) t h e = not_there l t (sym (ap is_entry (same_Some (Constant value) t e)))
symbol_target l (means.Common slot) t h e = place_target l (common_spot l slot) t e
symbol_target l (means.Import slot) t h e = subst (InImports l) (same_Some (Entry slot) t e) (λ entry. h)

group_target : (l : Link) (o : Option ℕ) (t : Target) → option_map_or (λ o. Internal o 0) o (Constant 0) ≡ t → InImports l t
group_target l None t e = not_there l t (sym (ap is_entry e))
group_target l (Some o) t e = not_there l t (sym (ap is_entry e))

named_group_target : (l : Link) (g : Option (List ℕ)) (t : Target) → option_map (λ g. option_map_or (λ o. Internal o 0) (object_of_group l g) (Constant 0)) g ≡ Some t → InImports l t
named_group_target l None t e = absurd (true≢false (sym (ap is_some e)))
named_group_target l (Some g) t e =
    group_target l (object_of_group l g) t (same_Some (option_map_or (λ o. Internal o 0) (object_of_group l g) (Constant 0)) t e)

goal_target : (l : Link) (n : ℕ) (goal : Goal) (t : Target) → WholeLink l → target_of l n goal ≡ Some t → InImports l t
unfolding rules
goal_target l n (goals.Seg i) t whole e = place_target l (spot l n i) t e
goal_target l n (goals.Group i) t whole e = named_group_target l (group_name l n i) t e
goal_target l n (goals.Ext i) t whole e =
    let m = through (λ m. option_and_then (λ x. option_and_then (of_symbol l) (Sym l n x)) (item m.exts i)) (chosen_module l n) t e in
    let x = through (λ x. option_and_then (of_symbol l) (Sym l n x)) (item m.item.exts i) t m.gives in
    let d = through (of_symbol l) (Sym l n x.item) t x.gives in
    symbol_target l d.item t (sym_there l n m.item x.item d.item whole m.is d.is) d.gives

fixup_target_by : (l : Link) (n : ℕ) (m : ObjModule) (f : FixAt) (t : Target) (o : Option (ℕ × ℕ)) (q : Fixup) → option_map (fixup_at l n m f t) o ≡ Some q → t ≡ q.target
fixup_target_by l n m f t None q e = absurd (true≢false (sym (ap is_some e)))
fixup_target_by l n m f t (Some p) q e = ap (λ (o : Option Fixup). (unwrap_or o q).target) e

fixup_target : (l : Link) (q : Fixup) → WholeLink l → In q (fixups l) → InImports l q.target
unfolding rules
fixup_target l q whole i =
    let m = from_flat_map (λ (p : ℕ × ObjModule). filter_map (fixup_of l p.0 p.1) p.1.fixes) (enumerate_from 1 l.modules) i in
    let f = from_filter_map (fixup_of l m.item.0 m.item.1) m.item.1.fixes m.gives in
    let t = through (λ t. option_map (fixup_at l m.item.0 m.item.1 f.item t) (location l m.item.0 f.item)) (target_of l m.item.0 f.item.goal) q f.gives in
    subst (InImports l) {x = t.item} (fixup_target_by l m.item.0 m.item.1 f.item t.item (location l m.item.0 f.item) q t.gives) (goal_target l m.item.0 f.item.goal t.item whole t.is)

-- ---- a pair that a record names is in the tables

pub in_table : (names : List (List ℕ)) (name : List ℕ) → In name names → IsSome (position (bytes_eq name) (firsts bytes_eq names))
in_table names name i =
    ap is_some (position_is (bytes_eq name) (firsts bytes_eq names) (any-firsts nat_list_eq_equiv name names ∙ any_in (bytes_eq name) i (nat_list_eq_equiv.refl name)))

pub entry_there : (pairs : List Imp) (number : ℕ) (pair : Imp) (entry : EntryKey) → In pair pairs → pair.entry ≡ entry → IsSome (entry_target pairs number entry)
entry_there pairs number pair (keys.Ordinal n) i e = refl
entry_there pairs number pair (keys.Named name) i e =
    mapped_some _ _ (in_table (filter_map (λ pair. proc_name pair.entry) pairs) name (in_filter_map (λ (pair : Imp). proc_name pair.entry) i (ap proc_name e)))

pub then_there : {X Y : Type 0} (f : X → Option Y) (o : Option X) → IsSome o → ((x : X) → IsSome (f x)) → IsSome (option_and_then f o)
then_there f None h all = h
then_there f (Some x) h all = all x

pub pair_there : (pairs : List Imp) (pair : Imp) → In pair pairs → IsSome (import_target pairs pair)
pair_there pairs pair i =
    then_there (λ k. entry_target pairs (k + 1) pair.entry) _ (in_table (map (λ p. uppercase p.module) pairs)
    (uppercase pair.module) (in_map (λ (p : Imp). uppercase p.module) i)) (λ k. entry_there pairs (k + 1) pair pair.entry i refl)

-- ---- records

not_patched_by : (b : Bool) (q : Fixup) (xs : List Fixup) {p : Fixup} → not (is_patched q) ≡ b → In p (cond b (q ∷ xs) xs) → (In p xs → is_patched p ≡ false) → is_patched p ≡ false
not_patched_by true q xs is here rest = not-true (is_patched q) is
not_patched_by true q xs is (there i) rest = rest i
not_patched_by false q xs is i rest = rest i

not_patched : (qs : List Fixup) {q : Fixup} → In q (filter (λ q. not (is_patched q)) qs) → is_patched q ≡ false
not_patched [] i = elim i [ ]
not_patched (p ∷ qs) i =
    not_patched_by (not (is_patched p)) p (filter (λ q. not (is_patched q)) qs) refl i (λ j. not_patched qs j)

entry_record : (l : Link) (q : Fixup) (slot : ℕ) → In q (recorded l) → q.target ≡ Entry slot → slot < length (imports l) → IsSome (target_and_additive l q (Entry slot))
unfolding rules
entry_record l q slot i is below =
    let pair = item_at (imports l) slot below in
    let used : In pair.item (used_pairs l) = in_filter_map (λ (q : Fixup). pair_used l q.target) i (ap (pair_used l) is ∙ pair.is) in
    mapped_some _ _ (subst (λ (o : Option Imp). is_some (option_and_then (import_target (used_pairs l)) o) ≡ true) (sym pair.is) (pair_there (used_pairs l) pair.item used))

target_record : (l : Link) (q : Fixup) (t : Target) → In q (recorded l) → q.target ≡ t → is_patched q ≡ false → InImports l t → IsSome (target_and_additive l q t)
target_record l q (Internal o offset) i is kept h = refl
target_record l q (Constant value) i is kept h =
    absurd (true≢false (sym (ap (λ (t : Target). is_constant t || (q.fix.selfrel && stays_in_object q)) is) ∙ kept))
target_record l q (Entry slot) i is kept h = entry_record l q slot i is (h refl)

record_there : (l : Link) (q : Fixup) → WholeLink l → In q (recorded l) → IsSome (target_and_additive l q q.target)
unfolding rules
record_there l q whole i =
    let alive = from_filter (λ q. not (is_patched q)) (live_fixups l) i in
    target_record l q q.target i refl (not_patched (live_fixups l) i) (fixup_target l q whole (is_live (fixups l) alive))

record_by : (l : Link) (k : ℕ) (q : Fixup) (o : Option (FixTarget × ℕ)) (rest : List Fix) (offsets : List ℤ) →
    IsSome o → map (λ r. r.offset) rest ≡ offsets → map (λ r. r.offset) (cons_option
    (option_map (λ t. record { source = source_of q; alias = has_alias q; offset = offset_on k q; target = t.0; additive = t.1 }) o) rest) ≡ offset_on k q ∷ offsets
record_by l k q None rest offsets h e = absurd (true≢false (sym h))
record_by l k q (Some t) rest offsets h e = ap (λ (z : List ℤ). offset_on k q ∷ z) e

all_records : (l : Link) (k : ℕ) (qs : List Fixup) → ((q : Fixup) → In q qs → IsSome (target_and_additive l q q.target)) → map (λ r. r.offset) (filter_map (record_on l k) qs) ≡ map (offset_on k) qs
all_records l k [] all = refl
all_records l k (q ∷ qs) all =
    record_by l k q (target_and_additive l q q.target) (filter_map (record_on l k) qs) (map (offset_on k) qs) (all q here) (all_records l k qs (λ p i. all p (there i)))

pub records_stay : RecordsStay
unfolding page_records
records_stay l object k whole e =
    all_records l k (filter (stands_on object k) (recorded l)) (λ q i. record_there l q whole (from_filter (stands_on object k) (recorded l) i))
