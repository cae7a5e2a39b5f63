-- What a page that is added or changed does to the marks.
use Rattle.std.proofs.Common.{◌≡◌, ℕ, ◌+◌, ◌*◌, ◌/◌, ◌%◌, ◌<◌, Bool, true, false, cond, Option, Some, None, refl, sym, ap, subst, ◌∙◌, arith, inl, inr, true≢false}
use Rattle.std.specs.Prelude.{◌||◌, ◌&&◌, ◌==◌, IsSome}
use Rattle.std.specs.Option.{option_map_or}
use Rattle.std.specs.Bool.{Decides}
use Rattle.std.specs.Cmp.{IsEquivalence}
use Rattle.std.proofs.lemmas.Cmp.{and_equiv, nat_eq_equiv, on_equiv}
use Rattle.std.proofs.lemmas.Bool.{eqb-true, eq-eqb, and_from, and_parts, cases_Bool}
use Rattle.indexmap.specs.IndexMap.{Updates, get}
use Rattle.byte_marks.specs.declared.page.Page.{Page}
use Rattle.byte_marks.specs.declared.marks.PageAt.{PageAt}
use Rattle.byte_marks.specs.declared.marks.ByteMarks.{ByteMarks}
use Rattle.byte_marks.specs.Bits.{is_from, is_set}
use Rattle.byte_marks.specs.Marks.{HasPage, is_marked, is_page, page_of}

-- ---- keys

pub same-page : (a b : PageAt) → Decides (is_page a b) (a ≡ b)
same-page a b = (there, back)
  where
    there : is_page a b ≡ true → a ≡ b
    there e =
        let h = and_parts _ _ e in
        let row : a.row ≡ b.row = eqb-true _ _ h.0 in
        let page : a.page ≡ b.page = eqb-true _ _ h.1 in
        λ i. record { row = row i; page = page i }

    back : a ≡ b → is_page a b ≡ true
    back e = and_from _ _ (eq-eqb _ _ (ap (λ (k : PageAt). k.row) e)) (eq-eqb _ _ (ap (λ (k : PageAt). k.page) e))

pub pages-equiv : IsEquivalence is_page
pages-equiv = and_equiv (on_equiv (λ (p : PageAt). p.row) nat_eq_equiv) (on_equiv (λ (p : PageAt). p.page) nat_eq_equiv)

-- ---- a page that is there

pub on-page : (m : ByteMarks) (at : PageAt) (i : ℕ) → i < 4096 → is_marked m at.row (at.page * 4096 + i) ≡ option_map_or (λ (p : Page). is_set p.words i) (get is_page m.pages at) false
on-page m at i small =
    let number : (at.page * 4096 + i) / 4096 ≡ at.page = omega arith in
    let bit : (at.page * 4096 + i) % 4096 ≡ i = omega arith in
    λ j. option_map_or (λ (p : Page). is_set p.words (bit j)) (get is_page m.pages (record { row = at.row; page = number j })) false

-- ---- a page more

-- A page without marks, where there was none.
pub page-added : (m n : ByteMarks) (at : PageAt) (new : Page) → Updates is_page m.pages n.pages at (Some new) → get is_page m.pages at ≡ None → ((x : ℕ) → is_set new.words x ≡ false)
    → (row x : ℕ) → is_marked n row x ≡ is_marked m row x
page-added m n at new updates none empty row x =
    let q = page_of row x in
    elim (cases_Bool (is_page at q)) [
      | inl here ↦
          let same : at ≡ q = (same-page at q).0 here in
          let before : get is_page m.pages q ≡ None = ap (get is_page m.pages) (sym same) ∙ none in
          ap (λ (o : Option Page). option_map_or (λ (p : Page). is_set p.words (x % 4096)) o false) (updates.0 q ∙ ap (λ (b : Bool). cond b (Some new) (get is_page m.pages q)) here)
          ∙ empty (x % 4096)
          ∙ ap (λ (o : Option Page). option_map_or (λ (p : Page). is_set p.words (x % 4096)) o false) (sym before)
      | inr other ↦
          ap (λ (o : Option Page). option_map_or (λ (p : Page). is_set p.words (x % 4096)) o false) (updates.0 q ∙ ap (λ (b : Bool). cond b (Some new) (get is_page m.pages q)) other)
    ]

pub page-stays : (m n : ByteMarks) (at : PageAt) (new : Page) → Updates is_page m.pages n.pages at (Some new) → (other : PageAt) → HasPage m other → HasPage n other
page-stays m n at new updates other has =
    elim (cases_Bool (is_page at other)) [
      | inl here ↦ subst IsSome (sym (updates.0 other ∙ ap (λ (b : Bool). cond b (Some new) (get is_page m.pages other)) here)) refl
      | inr apart ↦ subst IsSome (sym (updates.0 other ∙ ap (λ (b : Bool). cond b (Some new) (get is_page m.pages other)) apart)) has
    ]

-- Bytes of a page that was there.
pub page-marked : (m n : ByteMarks) (at : PageAt) (old new : Page) (from past : ℕ) → Updates is_page m.pages n.pages at (Some new) → get is_page m.pages at ≡ Some old
    → ((x : ℕ) → is_set new.words x ≡ (is_set old.words x || is_from from past x))
    → (row x : ℕ) → is_marked n row x ≡ (is_marked m row x || (row == at.row && x / 4096 == at.page && is_from from past (x % 4096)))
page-marked m n at old new from past updates there marked row x =
    let q = page_of row x in
    elim (cases_Bool (is_page at q)) [
      | inl here ↦
          let same : at ≡ q = (same-page at q).0 here in
          let before : get is_page m.pages q ≡ Some old = ap (get is_page m.pages) (sym same) ∙ there in
          let turned : (row == at.row && x / 4096 == at.page) ≡ true = (same-page q at).1 (sym same) in
          ap (λ (o : Option Page). option_map_or (λ (p : Page). is_set p.words (x % 4096)) o false) (updates.0 q ∙ ap (λ (b : Bool). cond b (Some new) (get is_page m.pages q)) here)
          ∙ marked (x % 4096)
          ∙ (λ j. option_map_or (λ (p : Page). is_set p.words (x % 4096)) (sym before j) false || (sym turned j && is_from from past (x % 4096)))
      | inr apart ↦
          let turned : (row == at.row && x / 4096 == at.page) ≡ false = none-turned q apart in
          ap (λ (o : Option Page). option_map_or (λ (p : Page). is_set p.words (x % 4096)) o false) (updates.0 q ∙ ap (λ (b : Bool). cond b (Some new) (get is_page m.pages q)) apart)
          ∙ or-nothing (is_marked m row x)
          ∙ (λ j. is_marked m row x || (sym turned j && is_from from past (x % 4096)))
    ]
  where
    none-turned : (q : PageAt) → is_page at q ≡ false → is_page q at ≡ false
    none-turned q apart =
        elim (cases_Bool (is_page q at)) [
          | inl e ↦ absurd (true≢false (sym ((same-page at q).1 (sym ((same-page q at).0 e))) ∙ apart))
          | inr e ↦ e
        ]

    or-nothing : (a : Bool) → a ≡ (a || false)
    or-nothing true = refl
    or-nothing false = refl
