-- The tables of a link's image fit each other.
use Rattle.std.proofs.Common.{◌≡◌, ℕ, zero, suc, ◌+◌, ◌≤◌, Bool, true, false, List, [], ◌∷◌, length, map, refl, sym, ap, ◌∙◌, length-append, arith, inl, inr}
use Rattle.std.specs.Prelude.{◌==◌, if◌then◌else◌, not}
use Rattle.std.specs.List.{flat_map, range_with_len, enumerate_from, AllByRecursion as Each}
use Rattle.std.proofs.lemmas.Bool.{cases_lt}
use Rattle.lx_types.specs.Sound.{HasPages}
use Rattle.lx_model.specs.Header.{is_module_flags}
use Rattle.lx_model.proofs.NamesRead.{not_zero}
use Rattle.obj_types.specs.declared.definition.ModKind.{ModKind}
use Rattle.obj_types.specs.declared.definition.ModKind.TheVariants.{Program, Library}
use Rattle.link_model.specs.declared.symbols.LaidObject.{LaidObject}
use Rattle.link_model.specs.Link.{Link}
use Rattle.link_model.specs.Flags.{flag}
use Rattle.link_model.specs.Layout.{objects}
use Rattle.link_model.specs.Order.{is_program}
use Rattle.lx_types.specs.declared.parts.TheConstants.{MODULE_LIBRARY, MODULE_INIT_EACH, MODULE_TERM_EACH}
use Rattle.link_model.specs.Patches.{page_byte, object_bytes}
use Rattle.link_model.specs.Records.{page_count, page_records, object_records}
use Rattle.image_model.specs.Linked.{page_forms, page_fixes, fixup_records, image_of}
use Rattle.image_model.specs.LinkTables.{LinkTablesFit}
use Rattle.image_model.specs.ObjectTable.{object_head, object_heads_from}
use Rattle.image_model.specs.PageForms.{page_in, pages_in}

-- ---- lengths

pub mapped : {A B : Type 0} (f : A → B) (xs : List A) → length (map f xs) ≡ length xs
mapped f [] = refl
mapped f (x ∷ xs) = ap suc (mapped f xs)

pub ranged : (a n : ℕ) → length (range_with_len a n) ≡ n
ranged a zero = refl
ranged a (suc n) = ap suc (ranged (a + 1) n)

-- how many pages objects have together
pages_of : List LaidObject → ℕ
pages_of [] = 0
pages_of (o ∷ os) = page_count o.size + pages_of os

-- the pages of the first object, and those of the others
pages_long : (l : Link) (os : List LaidObject) (n : ℕ) → length (flat_map pages_in (map (λ q. map (page_byte l q.0) (range_with_len 0 q.1.size)) (enumerate_from n os))) ≡ pages_of os
unfolding pages_of
pages_long l [] n = refl
pages_long l (o ∷ os) n =
    let bytes = map (page_byte l n) (range_with_len 0 o.size) in
    let size : length bytes ≡ o.size = mapped (page_byte l n) (range_with_len 0 o.size) ∙ ranged 0 o.size in
    let here : length (pages_in bytes) ≡ page_count o.size = mapped (page_in bytes) (range_with_len 0 (page_count (length bytes))) ∙ ranged 0 (page_count (length bytes)) ∙ ap page_count size in
    let others = pages_long l os (n + 1) in
    length-append (pages_in bytes) (flat_map pages_in (map (λ q. map (page_byte l q.0) (range_with_len 0 q.1.size)) (enumerate_from (n + 1) os)))
    ∙ ap (λ (k : ℕ). k + length (flat_map pages_in (map (λ q. map (page_byte l q.0) (range_with_len 0 q.1.size)) (enumerate_from (n + 1) os)))) here
    ∙ ap (λ (k : ℕ). page_count o.size + k) others

records_long : (l : Link) (os : List LaidObject) (n : ℕ) → length (flat_map (λ pages. pages) (map (λ q. map (page_records l q.0) (range_with_len 0 (page_count q.1.size))) (enumerate_from n os))) ≡ pages_of os
unfolding pages_of
records_long l [] n = refl
records_long l (o ∷ os) n =
    let pages = map (page_records l n) (range_with_len 0 (page_count o.size)) in
    let here : length pages ≡ page_count o.size = mapped (page_records l n) (range_with_len 0 (page_count o.size)) ∙ ranged 0 (page_count o.size) in
    let others = records_long l os (n + 1) in
    let rest = flat_map (λ ps. ps) (map (λ q. map (page_records l q.0) (range_with_len 0 (page_count q.1.size))) (enumerate_from (n + 1) os)) in
    length-append pages rest ∙ ap (λ (k : ℕ). k + length rest) here ∙ ap (λ (k : ℕ). page_count o.size + k) others

forms_long : (l : Link) → length (page_forms l) ≡ pages_of (objects l)
unfolding page_forms object_bytes
forms_long l = mapped _ _ ∙ pages_long l (objects l) 1

lists_long : (l : Link) → length (fixup_records l) ≡ pages_of (objects l)
unfolding fixup_records page_fixes object_records
lists_long l = mapped _ _ ∙ mapped _ _ ∙ records_long l (objects l) 1

-- ---- the pages of each object

first_of : (b : Bool) (first : ℕ) → b ≡ false → (if b then 0 else first) ≡ first
first_of b first is = ap (λ (c : Bool). if c then 0 else first) is

head_has : (table first : ℕ) (o : LaidObject) → 1 ≤ first → first + page_count o.size ≤ table + 1 → HasPages table (object_head first o)
head_has table first o from within =
    elim (cases_lt 0 (page_count o.size)) [
      | inl some ↦ let same = first_of (page_count o.size == 0) first (not_zero (page_count o.size) some) in inr (omega (arith, same, from), omega (arith, same, within))
      | inr none ↦ inl (omega (arith, none))
    ]

heads_have : (table : ℕ) (os : List LaidObject) (first : ℕ) → 1 ≤ first → first + pages_of os ≤ table + 1 → Each (HasPages table) (object_heads_from first os)
unfolding pages_of
heads_have table [] first from within = tt
heads_have table (o ∷ os) first from within =
    (head_has table first o from (omega (arith, within)), heads_have table os (first + page_count o.size) (omega (arith, from)) (omega (arith, within)))

-- ---- module flags

abbrev flags_by : ModKind → Bool → Bool → ℕ
flags_by kind init_each term_each = flag (not (is_program kind)) MODULE_LIBRARY + flag init_each MODULE_INIT_EACH + flag term_each MODULE_TERM_EACH

kind_fits : (kind : ModKind) (init_each term_each : Bool) → is_module_flags (flags_by kind init_each term_each) ≡ true
kind_fits Program false false = refl
kind_fits Program false true = refl
kind_fits Program true false = refl
kind_fits Program true true = refl
kind_fits Library false false = refl
kind_fits Library false true = refl
kind_fits Library true false = refl
kind_fits Library true true = refl

pub tables_fit : LinkTablesFit
unfolding image_of
tables_fit l = record {
  kind = kind_fits l.def.kind l.def.init_each l.def.term_each;
  each = lists_long l ∙ sym (forms_long l);
  own_pages = heads_have (length (page_forms l)) (objects l) 1 (omega arith) (omega (arith, forms_long l));
}
