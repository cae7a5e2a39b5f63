-- The tables that are written are read again.
use Rattle.std.proofs.Common.{◌≡◌, ℕ, zero, suc, ◌+◌, ◌*◌, ◌^◌, ◌<◌, ◌≤◌, Bool, true, false, List, [], ◌∷◌, length, map, filter, refl, sym, subst, ap, ◌∙◌, arith, max, inl, inr}
use Rattle.std.specs.Prelude.{Option, Some, None, Ok, not, find, nat_lt, cond, ◌==◌, ◌||◌, IsTrue}
use Rattle.std.specs.List.{list_any, range_with_len, flat_map, AllByRecursion as Each}
use Rattle.std.specs.Option.{option_or}
use Rattle.std.proofs.lemmas.Bool.Decides.{nat_tests}
use Rattle.std.proofs.lemmas.Bool.{cases_Bool}
use Rattle.std.proofs.lemmas.List.{append-nil}
use Rattle.lx_types.proofs.Lists.{all_front, all_back}
use Rattle.lx_types.specs.Names.{IsName, uppercase}
use Rattle.lx_types.specs.declared.entry.EntryHead.{EntryHead}
use Rattle.lx_types.specs.declared.entry.EntryHead.TheVariants.{At, Gate286, Forward}
use Rattle.lx_types.specs.declared.entry.FwdKey.{FwdKey}
use Rattle.lx_types.specs.declared.entry.FwdKey.TheVariants.{Ordinal, NameAt}
use Rattle.lx_model.specs.NameTables.{Named, names_in, names_spelling, NameFits}
use Rattle.lx_model.specs.Bundles.{Bundle, unused, narrow, gates, wide, forwarders, ordinal_count, AtFits, GateFits, ForwardFits, ObjectFits, BodyFits, BundleFits, table_spelling}
use Rattle.lx_model.specs.EntryTable.{entries_in}
use Rattle.lx_model.specs.declared.limits.TheConstants.{MAX_ORDINAL}
use Rattle.lx_model.specs.ExportTables.{Exported, Slot, empty, narrow_at, gate_at, wide_at, forwarder, named, described, resident_table, other_table, forward_slot, head_slot, slot_of, slot_or_empty, export_at, slots, slots_of, greatest, entries_by_ordinal, AreBundlesOf, entry_flags}
use Rattle.lx_model.specs.JoinedEntries.{bundles_for}
use Rattle.lx_model.proofs.NamesRead.{table_reads}
use Rattle.lx_model.proofs.ExportsRead.{exports_again}
use Rattle.lx_model.proofs.JoinedBundles.{bundles_joined}
use Rattle.link_model.specs.Exports.{ordinals, wrong_ordinal, ordinal_past, name_twice}
use Rattle.link_model.specs.declared.limits.TheConstants.{MAX_NUMBER}
use Rattle.link_model.specs.declared.refusals.EntryRefusal.{EntryRefusal}
use Rattle.link_model.specs.declared.refusals.EntryRefusal.TheVariants as refusals
use Rattle.lx_exports.specs.declared.exports.OutEntry.{OutEntry}
use Rattle.lx_exports.specs.declared.exports.Tables.{Tables}
use Rattle.lx_exports.specs.Exports.{asked, names_of, with_ordinals, exported_of, HeadFits, ExportFits}
use Rattle.lx_exports.specs.Writing.{AreTablesOf, HeadIsThere, AreReadAgain, KeyHasRange, HeadHasRange, HasRange}

-- ---- what is known of an export with its ordinal

record Known (objects imports : ℕ) (y : Exported) : Type 0 where
  some : 0 < length y.name
  short : length y.name < 256
  ordinal : y.ordinal < 65536
  words : y.words ≤ 31
  head : HeadFits y.wide y.head
  range : HeadHasRange y.head
  there : HeadIsThere objects imports y.head

known_each : (objects imports : ℕ) (xs : List OutEntry) (ns : List ℕ) → Each ExportFits xs → Each HasRange xs → Each (λ x. HeadIsThere objects imports x.head) xs → list_any (nat_lt 65535) ns ≡ false →
    Each (Known objects imports) (with_ordinals xs ns)
known_each objects imports [] ns fit range there short = tt
known_each objects imports (x ∷ xs) [] fit range there short = tt
known_each objects imports (x ∷ xs) (n ∷ ns) fit range there short =
    let both = neither (nat_lt 65535 n) (list_any (nat_lt 65535) ns) short in (
      record {
        some = fit.0.named;
        short = omega (arith, range.0.name);
        ordinal = in_range n both.0;
        words = fit.0.words;
        head = fit.0.head;
        range = range.0.head;
        there = there.0;
      },
      known_each objects imports xs ns fit.1 range.1 there.1 both.1,
    )
  where
    neither : (a b : Bool) → (a || b) ≡ false → (a ≡ false) × (b ≡ false)
    neither true b is = absurd cc
    neither false b is = (refl, is)

    in_range : (n : ℕ) → nat_lt 65535 n ≡ false → n < 65536
    in_range n is = grind (arith, nat_tests, is)

-- ---- names

some_upper : (name : List ℕ) → length (uppercase name) ≡ length name
some_upper [] = refl
some_upper (b ∷ bs) = ap suc (some_upper bs)

first_fits : (name : List ℕ) → 0 < length name → IsName name → NameFits (uppercase name, 0)
first_fits name some short = record {
  some = omega (arith, some_upper name, some);
  short = omega (arith, some_upper name, short);
  ordinal = omega arith;
}

about_fits : (name about : List ℕ) → 0 < length name → IsName name → IsName about → NameFits (described name about, 0)
about_fits name [] some short brief = first_fits name some short
about_fits name (b ∷ bs) some short brief = record { some = omega arith; short = omega (arith, brief); ordinal = omega arith }

names_fit : (objects imports : ℕ) (test : Exported → Bool) (ys : List Exported) → Each (Known objects imports) ys → Each NameFits (map named (filter test ys))
names_fit objects imports test [] known = tt
names_fit objects imports test (y ∷ ys) known =
    by (test y) (filter test ys) (record { some = known.0.some; short = known.0.short; ordinal = known.0.ordinal }) (names_fit objects imports test ys known.1)
  where
    by : (b : Bool) (zs : List Exported) → NameFits (named y) → Each NameFits (map named zs) → Each NameFits (map named (cond b (y ∷ zs) zs))
    by true zs fits rest = (fits, rest)
    by false zs fits rest = rest

-- ---- bundles

abbrev SlotFits : ℕ → ℕ → Slot → Type 0
SlotFits objects imports empty = Unit {0}
SlotFits objects imports (narrow_at o e) = ObjectFits objects o × AtFits (2 ^ 16) e
SlotFits objects imports (gate_at o e) = ObjectFits objects o × GateFits e
SlotFits objects imports (wide_at o e) = ObjectFits objects o × AtFits (2 ^ 32) e
SlotFits objects imports (forwarder r e) = (r < 2 ^ 16) × ForwardFits imports e

forward_fits : (objects imports import : ℕ) (key : FwdKey) → 0 < import → import ≤ 65535 → import ≤ imports → KeyHasRange key → SlotFits objects imports (forward_slot import key)
forward_fits objects imports import (Ordinal n) some few there range =
    (omega arith, record { flags = omega arith; there = (some, there); import = omega (arith, few); key = range })
forward_fits objects imports import (NameAt n) some few there range =
    (omega arith, record { flags = omega arith; there = (some, there); import = omega (arith, few); key = range })

no_false : IsTrue false → ⊥
no_false is = cc

within_word : (offset : ℕ) → (65535 < offset → IsTrue false) → offset < 65536
within_word offset wide_then = elim (cases_Bool (nat_lt 65535 offset)) [
  | inl more ↦ absurd (no_false (wide_then (grind (arith, nat_tests, more))))
  | inr not_more ↦ grind (arith, nat_tests, not_more)
]

at_fits : (objects imports words : ℕ) (wide_one : Bool) (h : EntryHead) → words ≤ 31 → HeadFits wide_one h → HeadHasRange h → HeadIsThere objects imports h → SlotFits objects imports (head_slot words wide_one h)
at_fits objects imports words true (At object offset) few fit range there =
    (((fit.0, there), omega (arith, fit.1)), record { flags = omega (arith, few); offset = range })
at_fits objects imports words false (At object offset) few fit range there =
    (((fit.0, there), omega (arith, fit.1)), record { flags = omega (arith, few); offset = within_word offset fit.2 })
at_fits objects imports words true (Gate286 object offset) few fit range there = absurd fit
at_fits objects imports words false (Gate286 object offset) few fit range there = absurd fit
at_fits objects imports words true (Forward import key) few fit range there = forward_fits objects imports import key fit.0 fit.1 there range
at_fits objects imports words false (Forward import key) few fit range there = forward_fits objects imports import key fit.0 fit.1 there range

found_fits : (objects imports : ℕ) (n : ℕ) (ys : List Exported) → Each (Known objects imports) ys → SlotFits objects imports (slot_or_empty (export_at ys n))
found_fits objects imports n [] known = tt
found_fits objects imports n (y ∷ ys) known =
    by (y.ordinal == n) (export_at ys n) (at_fits objects imports y.words y.wide y.head known.0.words known.0.head known.0.range known.0.there) (found_fits objects imports n ys known.1)
  where
    by : (b : Bool) (o : Option Exported) → SlotFits objects imports (slot_of y) → SlotFits objects imports (slot_or_empty o) → SlotFits objects imports (slot_or_empty (cond b (Some y) o))
    by true o fits rest = fits
    by false o fits rest = rest

slots_fit : (objects imports a n : ℕ) (ys : List Exported) → Each (Known objects imports) ys → Each (SlotFits objects imports) (map (λ k. slot_or_empty (export_at ys k)) (range_with_len a n))
slots_fit objects imports a zero ys known = tt
slots_fit objects imports a (suc n) ys known = (found_fits objects imports a ys known, slots_fit objects imports (a + 1) n ys known)

entries_fit : {E : Type 0} (objects imports : ℕ) (slot : E → Slot) (P : E → Type 0) → ((e : E) → SlotFits objects imports (slot e) → P e) → (es : List E) → Each (SlotFits objects imports) (map slot es) → Each P es
entries_fit objects imports slot P of [] fit = tt
entries_fit objects imports slot P of (e ∷ es) fit = (of e fit.0, entries_fit objects imports slot P of es fit.1)

body_fits : (objects imports : ℕ) (b : Bundle) → 0 < ordinal_count b → Each (SlotFits objects imports) (slots_of b) → BodyFits objects imports b
body_fits objects imports (unused n) some fit = tt
body_fits objects imports (narrow o []) some fit = absurd (omega (arith, some))
body_fits objects imports (narrow o (e ∷ es)) some fit = (fit.0.0, entries_fit objects imports (narrow_at o) (AtFits (2 ^ 16)) (λ e both. both.1) (e ∷ es) fit)
body_fits objects imports (gates o []) some fit = absurd (omega (arith, some))
body_fits objects imports (gates o (e ∷ es)) some fit = (fit.0.0, entries_fit objects imports (gate_at o) GateFits (λ e both. both.1) (e ∷ es) fit)
body_fits objects imports (wide o []) some fit = absurd (omega (arith, some))
body_fits objects imports (wide o (e ∷ es)) some fit = (fit.0.0, entries_fit objects imports (wide_at o) (AtFits (2 ^ 32)) (λ e both. both.1) (e ∷ es) fit)
body_fits objects imports (forwarders r []) some fit = absurd (omega (arith, some))
body_fits objects imports (forwarders r (e ∷ es)) some fit = (fit.0.0, entries_fit objects imports (forwarder r) (ForwardFits imports) (λ e both. both.1) (e ∷ es) fit)

bundles_fit : (objects imports : ℕ) (bs : List Bundle) → Each (λ b. 0 < ordinal_count b) bs → Each (λ b. ordinal_count b ≤ 255) bs → Each (SlotFits objects imports) (flat_map slots_of bs) → Each (BundleFits objects imports) bs
bundles_fit objects imports [] some most fit = tt
bundles_fit objects imports (b ∷ bs) some most fit = (
  record { some = some.0; few = omega (arith, most.0); body = body_fits objects imports b some.0 (all_front (SlotFits objects imports) (slots_of b) (flat_map slots_of bs) fit) },
  bundles_fit objects imports bs some.1 most.1 (all_back (SlotFits objects imports) (slots_of b) (flat_map slots_of bs) fit),
)

greatest_fits : (objects imports : ℕ) (ys : List Exported) → Each (Known objects imports) ys → greatest ys ≤ MAX_ORDINAL
greatest_fits objects imports [] known = omega arith
greatest_fits objects imports (y ∷ ys) known = omega (arith, known.0.ordinal, greatest_fits objects imports ys known.1)

-- ---- the tables

names_again : (ns : List Named) → Each NameFits ns → names_in (names_spelling ns) ≡ Ok ns
names_again ns fit = ap names_in (sym (append-nil (names_spelling ns))) ∙ table_reads ns [] fit

entries_again : (objects imports : ℕ) (ys : List Exported) → Each (Known objects imports) ys → entries_in objects imports (table_spelling (bundles_for ys)) ≡ Ok (entries_by_ordinal ys)
entries_again objects imports ys known =
    let bs = bundles_for ys in
    let are : AreBundlesOf ys bs = bundles_joined ys in
    let fit = bundles_fit objects imports bs are.some are.most (subst (Each (SlotFits objects imports)) (sym are.each) (slots_fit objects imports 1 (greatest ys) ys known)) in
    ap (entries_in objects imports) (sym (append-nil (table_spelling bs))) ∙ exports_again objects imports ys bs [] are fit (greatest_fits objects imports ys known)

no_past : (os : List (Option ℕ)) (wrong twice : Option EntryRefusal) → option_or wrong (option_or (ordinal_past MAX_NUMBER os) twice) ≡ None → list_any (nat_lt 65535) (ordinals os) ≡ false
no_past os wrong twice none = by (list_any (nat_lt 65535) (ordinals os)) wrong none
  where
    by : (b : Bool) (w : Option EntryRefusal) → option_or w (option_or (cond b (Some (refusals.Ordinal 65536)) None) twice) ≡ None → b ≡ false
    by false w is = refl
    by true None is = absurd cc
    by true (Some r) is = absurd cc

pub tables_again : (name about : List ℕ) (exports : List OutEntry) (t : Tables) → 0 < length name → IsName name → IsName about → Each ExportFits exports → Each HasRange exports → AreTablesOf name about exports t →
    (objects imports : ℕ) → Each (λ x. HeadIsThere objects imports x.head) exports → AreReadAgain objects imports name about exports t
tables_again name about exports t some short brief fit range are objects imports there =
    let ns = ordinals (asked exports) in
    let ys = exported_of exports in
    let known : Each (Known objects imports) ys = known_each objects imports exports ns fit range there (no_past (asked exports) (wrong_ordinal (asked exports)) (option_or (name_twice (names_of exports)) None) are.accepted) in
    record {
      resident = ap names_in are.resident ∙ names_again (resident_table name ys) (first_fits name some short, names_fit objects imports (λ x. x.resident) ys known);
      entries = ap (entries_in objects imports) are.entries ∙ entries_again objects imports ys known;
      others = ap names_in are.others ∙ names_again (other_table name about ys) (about_fits name about some short brief, names_fit objects imports (λ x. not x.resident) ys known);
    }
