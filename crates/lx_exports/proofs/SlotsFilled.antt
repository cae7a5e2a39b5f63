-- The slots are filled export by export.
use Rattle.std.proofs.Common.{◌≡◌, ◌≢◌, ℕ, zero, suc, ◌+◌, ◌<◌, ◌≤◌, Bool, true, false, List, [], ◌∷◌, ◌++◌, length, map, get_or, refl, sym, subst, ap, ◌∙◌, append_assoc, length-append, arith, inl, inr, max}
use Rattle.std.specs.Prelude.{◌==◌, Option, Some, None, find, cond, slice_set, replicate}
use Rattle.std.specs.List.{range_with_len, zip, AllByRecursion as Each}
use Rattle.std.specs.Option.{option_or}
use Rattle.std.proofs.lemmas.Bool.Decides.{nat_tests}
use Rattle.std.proofs.lemmas.Bool.{cases_Bool, ne_eqb, eq-eqb}
use Rattle.std.proofs.lemmas.List.{append-nil, get_or_default}
use Rattle.std.proofs.lemmas.List.Folds.{find-append}
use Rattle.std.proofs.lemmas.List.FromFn.{length-map-range_with_len, get_or-map-range_with_len}
use Rattle.lx_model.specs.ExportTables.{Exported, Slot as Place, empty, forward_slot, head_slot, slot_of, slot_or_empty, export_at}
use Rattle.lx_types.specs.declared.entry.EntryHead.{EntryHead}
use Rattle.lx_types.specs.declared.entry.EntryHead.TheVariants.{At, Gate286, Forward}
use Rattle.lx_types.specs.declared.entry.FwdKey.{FwdKey}
use Rattle.lx_types.specs.declared.entry.FwdKey.TheVariants.{Ordinal, NameAt}
use Rattle.lx_types.proofs.Options.{or_none}
use Rattle.lx_exports.specs.declared.exports.OutEntry.{OutEntry}
use Rattle.lx_exports.specs.declared.slots.Slot.{Slot}
use Rattle.lx_exports.specs.declared.slots.Slot.TheVariants.{Empty, Narrow, Wide, Forwarder}
use Rattle.lx_exports.specs.Exports.{ExportFits, numbered, with_ordinals}
use Rattle.lx_exports.specs.Slots.{shown, is_empty, greatest_of, slots_to}

-- What the loop knows: those before the rest stand at their ordinals.
pub record Filled (xs : List OutEntry) (ns : List ℕ) (left : List OutEntry) (ordinals : List ℕ) (slots : List Slot) : Type 0 where
  pub before : List Exported
  pub whole : before ++ with_ordinals left ordinals ≡ with_ordinals xs ns
  pub filled : map shown slots ≡ slots_to (greatest_of ns) before
  pub fit : Each ExportFits left
  pub short : greatest_of ordinals ≤ greatest_of ns

-- ---- lists of places

abbrev at_places : List Exported → ℕ → Place
at_places xs n = slot_or_empty (export_at xs n)

all_empty : (a n : ℕ) → map shown (replicate n Empty) ≡ map (at_places []) (range_with_len a n)
all_empty a zero = refl
all_empty a (suc n) = ap (λ (ps : List Place). empty ∷ ps) (all_empty (a + 1) n)

same_places : (f g : ℕ → Place) (a n : ℕ) → ((k : ℕ) → f k ≡ g k) → map f (range_with_len a n) ≡ map g (range_with_len a n)
same_places f g a zero same = refl
same_places f g a (suc n) same = ap (λ (p : Place). p ∷ map f (range_with_len (a + 1) n)) (same a) ∙ ap (λ (ps : List Place). g a ∷ ps) (same_places f g (a + 1) n same)

after : (f g : ℕ → Place) (a n i : ℕ) → i < a → ((k : ℕ) → k ≢ i → g k ≡ f k) → map f (range_with_len a n) ≡ map g (range_with_len a n)
after f g a zero i less others = refl
after f g a (suc n) i less others =
    ap (λ (p : Place). p ∷ map f (range_with_len (a + 1) n)) (sym (others a (omega (arith, less)))) ∙ ap (λ (ps : List Place). g a ∷ ps) (after f g (a + 1) n i (omega (arith, less)) others)

one_place : (f g : ℕ → Place) (a n i : ℕ) (v : Place) → i < n → g (a + i) ≡ v → ((k : ℕ) → k ≢ a + i → g k ≡ f k) → slice_set (map f (range_with_len a n)) i v ≡ map g (range_with_len a n)
one_place f g a zero i v less at others = absurd (omega (arith, less))
one_place f g a (suc n) zero v less at others =
    let here : a + 0 ≡ a = omega arith in
    ap (λ (p : Place). p ∷ map f (range_with_len (a + 1) n)) (sym at ∙ ap g here)
    ∙ ap (λ (ps : List Place). g a ∷ ps) (after f g (a + 1) n (a + 0) (omega arith) others)
one_place f g a (suc n) (suc i) v less at others =
    let moved : a + 1 + i ≡ a + suc i = omega arith in
    ap (λ (p : Place). p ∷ slice_set (map f (range_with_len (a + 1) n)) i v) (sym (others a (omega arith)))
    ∙ ap (λ (ps : List Place). g a ∷ ps) (one_place f g (a + 1) n i v (omega (arith, less)) (ap g moved ∙ at) (λ k apart. others k (omega (arith, apart, moved))))

shown_set : (slots : List Slot) (i : ℕ) (s : Slot) → map shown (slice_set slots i s) ≡ slice_set (map shown slots) i (shown s)
shown_set [] zero s = refl
shown_set [] (suc i) s = refl
shown_set (t ∷ ts) zero s = refl
shown_set (t ∷ ts) (suc i) s = ap (λ (ps : List Place). shown t ∷ ps) (shown_set ts i s)

shown_at : (slots : List Slot) (i : ℕ) → i < length slots → get_or (map shown slots) i empty ≡ shown (get_or slots i Empty)
shown_at [] i there = absurd (omega (arith, there))
shown_at (t ∷ ts) zero there = refl
shown_at (t ∷ ts) (suc i) there = shown_at ts i (omega (arith, there))

-- ---- an export at its ordinal

not_empty_forward : (import : ℕ) (key : FwdKey) → forward_slot import key ≢ empty
not_empty_forward import (Ordinal n) = λ same. cc
not_empty_forward import (NameAt n) = λ same. cc

not_empty_head : (words : ℕ) (wide : Bool) (h : EntryHead) → head_slot words wide h ≢ empty
not_empty_head words true (At object offset) = λ same. cc
not_empty_head words false (At object offset) = λ same. cc
not_empty_head words true (Gate286 object offset) = λ same. cc
not_empty_head words false (Gate286 object offset) = λ same. cc
not_empty_head words true (Forward import key) = not_empty_forward import key
not_empty_head words false (Forward import key) = not_empty_forward import key

not_empty : (h : Exported) → slot_of h ≢ empty
not_empty h = not_empty_head h.words h.wide h.head

no_empty : (o : Option Exported) → slot_or_empty o ≡ empty → o ≡ None
no_empty None is = refl
no_empty (Some h) is = absurd (not_empty h is)

with_one : (before : List Exported) (y : Exported) (k : ℕ) → export_at (before ++ y ∷ []) k ≡ option_or (export_at before k) (cond (y.ordinal == k) (Some y) None)
with_one before y k = find-append (λ x. x.ordinal == k) before (y ∷ [])

elsewhere : (before : List Exported) (y : Exported) (k : ℕ) → k ≢ y.ordinal → export_at (before ++ y ∷ []) k ≡ export_at before k
elsewhere before y k apart =
    with_one before y k ∙ ap (λ (b : Bool). option_or (export_at before k) (cond b (Some y) None)) (ne_eqb y.ordinal k (λ same. apart (sym same))) ∙ or_none (export_at before k)

kept_at : (before : List Exported) (y : Exported) (k : ℕ) (o : Option Exported) → export_at before k ≡ o → (o ≢ None) → export_at (before ++ y ∷ []) k ≡ export_at before k
kept_at before y k None is some = absurd (some refl)
kept_at before y k (Some h) is some = with_one before y k ∙ ap (λ (o : Option Exported). option_or o (cond (y.ordinal == k) (Some y) None)) is ∙ sym is

anywhere : (before : List Exported) (y : Exported) (n k : ℕ) → export_at before n ≢ None → y.ordinal ≡ n → export_at (before ++ y ∷ []) k ≡ export_at before k
anywhere before y n k there is = elim (cases_Bool (k == n)) [
  | inl same ↦
      let at : k ≡ n = grind (arith, nat_tests, same) in
      kept_at before y k (export_at before k) refl (λ none. there (ap (export_at before) (sym at) ∙ none))
  | inr apart ↦
      let other : k ≢ n = grind (arith, nat_tests, apart) in
      elsewhere before y k (omega (arith, other, is))
]

-- ---- the loop

pub begun : (xs : List OutEntry) (ns : List ℕ) (slots : List Slot) → Each ExportFits xs → slots ≡ replicate (greatest_of ns + 1) Empty → Filled xs ns xs ns slots
begun xs ns slots fit is = record {
  before = [];
  whole = refl;
  filled = ap (map shown) is ∙ all_empty 0 (greatest_of ns + 1);
  fit = fit;
  short = omega arith;
}

pub room : (xs : List OutEntry) (ns : List ℕ) (left : List OutEntry) (ordinals : List ℕ) (slots : List Slot) → Filled xs ns left ordinals slots → length slots ≡ greatest_of ns + 1
room xs ns left ordinals slots known =
    sym (mapped slots) ∙ ap length known.filled ∙ length-map-range_with_len (at_places known.before) 0 (greatest_of ns + 1)
  where
    mapped : (ss : List Slot) → length (map shown ss) ≡ length ss
    mapped [] = refl
    mapped (s ∷ ss) = ap suc (mapped ss)

place_now : (xs : List OutEntry) (ns : List ℕ) (left : List OutEntry) (ordinals : List ℕ) (slots : List Slot) (n : ℕ) → (known : Filled xs ns left ordinals slots) → n ≤ greatest_of ns →
    shown (get_or slots n Empty) ≡ at_places known.before n
place_now xs ns left ordinals slots n known le =
    sym (shown_at slots n (omega (arith, room xs ns left ordinals slots known, le)))
    ∙ ap (λ (ps : List Place). get_or ps n empty) known.filled
    ∙ get_or-map-range_with_len (at_places known.before) 0 (greatest_of ns + 1) n n empty (omega (arith, le)) (omega arith)

step : (xs : List OutEntry) (ns : List ℕ) (x : OutEntry) (n : ℕ) (left : List OutEntry) (ordinals : List ℕ) (slots more : List Slot) → (known : Filled xs ns (x ∷ left) (n ∷ ordinals) slots) →
    map shown more ≡ slots_to (greatest_of ns) (known.before ++ numbered x n ∷ []) → Filled xs ns left ordinals more
step xs ns x n left ordinals slots more known filled = record {
  before = known.before ++ numbered x n ∷ [];
  whole = append_assoc known.before (numbered x n ∷ []) (with_ordinals left ordinals) ∙ known.whole;
  filled = filled;
  fit = known.fit.1;
  short = omega (arith, known.short);
}

pub first_fits : (xs : List OutEntry) (ns : List ℕ) (x : OutEntry) (n : ℕ) (left : List OutEntry) (ordinals : List ℕ) (slots : List Slot) → Filled xs ns (x ∷ left) (n ∷ ordinals) slots → n ≤ greatest_of ns
first_fits xs ns x n left ordinals slots known = omega (arith, known.short)

empty_is : (s : Slot) → is_empty s ≡ true → shown s ≡ empty
empty_is Empty is = refl
empty_is (Narrow o f e) is = absurd cc
empty_is (Wide o f e) is = absurd cc
empty_is (Forwarder f i k) is = absurd cc

filled_is : (s : Slot) → is_empty s ≡ false → shown s ≢ empty
filled_is Empty is = absurd cc
filled_is (Narrow o f e) is = λ same. cc
filled_is (Wide o f e) is = λ same. cc
filled_is (Forwarder f i k) is = λ same. cc

-- An empty slot is filled.
pub put : (xs : List OutEntry) (ns : List ℕ) (x : OutEntry) (n : ℕ) (left : List OutEntry) (ordinals : List ℕ) (slots : List Slot) (s : Slot) → Filled xs ns (x ∷ left) (n ∷ ordinals) slots →
    is_empty (get_or slots n Empty) ≡ true → shown s ≡ slot_of (numbered x n) → Filled xs ns left ordinals (slice_set slots n s)
put xs ns x n left ordinals slots s known free is =
    let y = numbered x n in
    let le = first_fits xs ns x n left ordinals slots known in
    let none : export_at known.before n ≡ None = no_empty (export_at known.before n) (sym (place_now xs ns (x ∷ left) (n ∷ ordinals) slots n known le) ∙ empty_is (get_or slots n Empty) free) in
    let here : at_places (known.before ++ y ∷ []) (0 + n) ≡ shown s =
    ap (at_places (known.before ++ y ∷ [])) (omega arith)
    ∙ ap slot_or_empty (with_one known.before y n ∙ ap (λ (o : Option Exported). option_or o (cond (n == n) (Some y) None)) none ∙ ap (λ (b : Bool). cond b (Some y) None) (eq-eqb n n refl))
    ∙ sym is in
    step xs ns x n left ordinals slots (slice_set slots n s) known
    (shown_set slots n s
    ∙ ap (λ (ps : List Place). slice_set ps n (shown s)) known.filled
    ∙ one_place (at_places known.before) (at_places (known.before ++ y ∷ [])) 0 (greatest_of ns + 1) n (shown s) (omega (arith, le)) here
    (λ k apart. ap slot_or_empty (elsewhere known.before y k (omega (arith, apart)))))

-- A slot that an earlier export fills stays.
pub stays : (xs : List OutEntry) (ns : List ℕ) (x : OutEntry) (n : ℕ) (left : List OutEntry) (ordinals : List ℕ) (slots : List Slot) → Filled xs ns (x ∷ left) (n ∷ ordinals) slots →
    is_empty (get_or slots n Empty) ≡ false → Filled xs ns left ordinals slots
stays xs ns x n left ordinals slots known taken =
    let y = numbered x n in
    let le = first_fits xs ns x n left ordinals slots known in
    let there : export_at known.before n ≢ None = λ none. filled_is (get_or slots n Empty) taken (place_now xs ns (x ∷ left) (n ∷ ordinals) slots n known le ∙ ap slot_or_empty none) in
    step xs ns x n left ordinals slots slots known
    (known.filled ∙ same_places (at_places known.before) (at_places (known.before ++ y ∷ [])) 0 (greatest_of ns + 1) (λ k. ap slot_or_empty (sym (anywhere known.before y n k there refl))))

pub done : (xs : List OutEntry) (ns : List ℕ) (left : List OutEntry) (ordinals : List ℕ) (slots : List Slot) → Filled xs ns left ordinals slots → with_ordinals left ordinals ≡ [] → map shown slots ≡ slots_to (greatest_of ns) (with_ordinals xs ns)
done xs ns left ordinals slots known none =
    known.filled ∙ ap (slots_to (greatest_of ns)) (sym (append-nil known.before) ∙ ap (λ (ys : List Exported). known.before ++ ys) (sym none) ∙ known.whole)

pub no_left : (left : List OutEntry) (ordinals : List ℕ) → length left ≡ 0 → with_ordinals left ordinals ≡ []
no_left [] ordinals none = refl
no_left (x ∷ xs) ordinals none = absurd (omega (arith, none))

pub no_numbers : (left : List OutEntry) (ordinals : List ℕ) → length ordinals ≡ 0 → with_ordinals left ordinals ≡ []
no_numbers [] ordinals none = refl
no_numbers (x ∷ xs) [] none = refl
no_numbers (x ∷ xs) (n ∷ ns) none = absurd (omega (arith, none))

-- ---- what the loop has at hand

pub next_known : (xs : List OutEntry) (ns : List ℕ) (slots : List Slot) (x : OutEntry) (n : ℕ) (left rest : List OutEntry) (ordinals others : List ℕ) → left ≡ x ∷ rest → ordinals ≡ n ∷ others → Filled xs ns left ordinals slots →
    Filled xs ns (x ∷ rest) (n ∷ others) slots
next_known xs ns slots x n left rest ordinals others a b known =
    subst (λ (l : List OutEntry). Filled xs ns l (n ∷ others) slots) a (subst (λ (o : List ℕ). Filled xs ns left o slots) b known)

pub looked_at : (slots : List Slot) (i n : ℕ) (s : Slot) (b : Bool) → i ≡ n → n < length slots → s ≡ get_or slots i s → is_empty s ≡ b → is_empty (get_or slots n Empty) ≡ b
looked_at slots i n s b at there is empty_or =
    ap is_empty (get_or_default slots n Empty s there ∙ ap (λ (k : ℕ). get_or slots k s) (sym at) ∙ sym is) ∙ empty_or

pub in_room : (xs : List OutEntry) (ns : List ℕ) (slots : List Slot) (x : OutEntry) (n i : ℕ) (rest : List OutEntry) (others : List ℕ) → i ≡ n → Filled xs ns (x ∷ rest) (n ∷ others) slots → i < length slots
in_room xs ns slots x n i rest others at known = omega (arith, room xs ns (x ∷ rest) (n ∷ others) slots known, first_fits xs ns x n rest others slots known, at)
