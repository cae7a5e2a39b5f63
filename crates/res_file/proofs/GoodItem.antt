-- An item without a fault stands there as it is spelled.
use Rattle.std.proofs.Common.{◌≡◌, ℕ, zero, suc, ◌+◌, ◌<◌, ◌≤◌, ◌^◌, Bool, true, false, cond, ltb, eqb, List, [], ◌∷◌, ◌++◌, length, take, drop, get_or, Some, None, refl, sym, ap, ◌∙◌, arith}
use Rattle.std.proofs.lemmas.Bool.{ltb-false, eqb-true}
use Rattle.std.proofs.lemmas.List.{length-take, length-drop}
use Rattle.lx_bytes.specs.LittleEndian.{AreBytes, little, little_bytes}
use Rattle.lx_bytes.proofs.Numbers.{little_bytes-little}
use Rattle.lx_model.specs.Reading.{number_at, ◌then◌}
use Rattle.lx_model.proofs.Firsts.{then_none}
use Rattle.res_model.specs.declared.item.TheConstants.{MARK, FIELDS}
use Rattle.res_model.specs.ItemFields.{type_at, id_at, length_at, item_at, short_field, mark_fault, fields_fault}
use Rattle.res_model.specs.ResFile.{item_spelling, ItemFits}
use Rattle.res_model.specs.declared.refusal.ResRefusal.{ResRefusal}
use Rattle.res_model.specs.declared.refusal.ResRefusal.TheVariants.{Short, BadItem}

-- ---- what a judgement without a fault says

is_there : (short : Bool) (e : ResRefusal) → cond short (Some e) None ≡ None → short ≡ false
is_there true e none = absurd cc
is_there false e none = refl

is_mark : (good : Bool) (e : ResRefusal) → cond good None (Some e) ≡ None → good ≡ true
is_mark true e none = refl
is_mark false e none = absurd cc

marked : (at : ℕ) (left : List ℕ) (offset : ℕ) → mark_fault at left offset ≡ None → get_or left offset 0 ≡ MARK
marked at left offset none =
    let parts = then_none (short_field at left offset 1) (cond (eqb (get_or left offset 0) MARK) None (Some (BadItem (at + offset)))) none in
    eqb-true (get_or left offset 0) MARK (is_mark (eqb (get_or left offset 0) MARK) (BadItem (at + offset)) parts.1)

long : (at : ℕ) (left : List ℕ) (offset width : ℕ) → short_field at left offset width ≡ None → offset + width ≤ length left
long at left offset width none = ltb-false (length left) (offset + width) (is_there (ltb (length left) (offset + width)) (Short (at + offset)) none)

pub record Good (left : List ℕ) : Type 0 where
  pub first : get_or left 0 0 ≡ MARK
  pub second : get_or left 3 0 ≡ MARK
  pub fields : FIELDS ≤ length left
  pub whole : FIELDS + length_at left ≤ length left

pub good : (at : ℕ) (left : List ℕ) → fields_fault at left ≡ None → Good left
unfolding fields_fault
good at left none =
    let f7 = short_field at left FIELDS (length_at left) in
    let f6 = short_field at left 8 4 then f7 in
    let f5 = short_field at left 6 2 then f6 in
    let f4 = short_field at left 4 2 then f5 in
    let f3 = mark_fault at left 3 then f4 in
    let f2 = short_field at left 1 2 then f3 in
    let a = then_none (mark_fault at left 0) f2 none in
    let b = then_none (short_field at left 1 2) f3 a.1 in
    let c = then_none (mark_fault at left 3) f4 b.1 in
    let d = then_none (short_field at left 4 2) f5 c.1 in
    let e = then_none (short_field at left 6 2) f6 d.1 in
    let f = then_none (short_field at left 8 4) f7 e.1 in
    record {
      first = marked at left 0 a.0;
      second = marked at left 3 c.0;
      fields = long at left 8 4 f.0;
      whole = long at left FIELDS (length_at left) f.1;
    }

-- ---- numbers as they are spelled

two : (a b : ℕ) → a < 256 → b < 256 → AreBytes (a ∷ b ∷ [])
two a b p q zero = p
two a b p q (suc zero) = q
two a b p q (suc (suc i)) = omega arith

four : (a b c d : ℕ) → a < 256 → b < 256 → c < 256 → d < 256 → AreBytes (a ∷ b ∷ c ∷ d ∷ [])
four a b c d p q r s zero = p
four a b c d p q r s (suc zero) = q
four a b c d p q r s (suc (suc zero)) = r
four a b c d p q r s (suc (suc (suc zero))) = s
four a b c d p q r s (suc (suc (suc (suc i)))) = omega arith

abbrev fields_of : List ℕ → List ℕ → List ℕ → List ℕ → List ℕ
fields_of ty id flags len = MARK ∷ ty ++ MARK ∷ id ++ flags ++ len

same_fields : {t t' i i' f f' l l' : List ℕ} → t ≡ t' → i ≡ i' → f ≡ f' → l ≡ l' → fields_of t i f l ≡ fields_of t' i' f' l'
same_fields {t} {t'} {i} {i'} {f} {f'} {l} {l'} p q r s =
    ap (λ (x : List ℕ). fields_of x i f l) p ∙ ap (λ (x : List ℕ). fields_of t' x f l) q ∙ ap (λ (x : List ℕ). fields_of t' i' x l) r ∙ ap (λ (x : List ℕ). fields_of t' i' f' x) s

-- the fields before the data, spelled again
fields_spelled : (left : List ℕ) → FIELDS ≤ length left → AreBytes left → get_or left 0 0 ≡ MARK → get_or left 3 0 ≡ MARK →
    take FIELDS left ≡ fields_of (little_bytes 2 (type_at left)) (little_bytes 2 (id_at left)) (little_bytes 2 (number_at 2 left 6)) (little_bytes 4 (length_at left))
fields_spelled (m ∷ a ∷ b ∷ n ∷ c ∷ d ∷ e ∷ f ∷ g ∷ h ∷ i ∷ j ∷ rest) le bytes p q =
    let ty : little_bytes 2 (little (a ∷ b ∷ [])) ≡ a ∷ b ∷ [] = little_bytes-little (a ∷ b ∷ []) (two a b (bytes 1) (bytes 2)) in
    let id : little_bytes 2 (little (c ∷ d ∷ [])) ≡ c ∷ d ∷ [] = little_bytes-little (c ∷ d ∷ []) (two c d (bytes 4) (bytes 5)) in
    let flags : little_bytes 2 (little (e ∷ f ∷ [])) ≡ e ∷ f ∷ [] = little_bytes-little (e ∷ f ∷ []) (two e f (bytes 6) (bytes 7)) in
    let len : little_bytes 4 (little (g ∷ h ∷ i ∷ j ∷ [])) ≡ g ∷ h ∷ i ∷ j ∷ [] = little_bytes-little (g ∷ h ∷ i ∷ j ∷ []) (four g h i j (bytes 8) (bytes 9) (bytes 10) (bytes 11)) in
    ap (λ (x : ℕ). x ∷ a ∷ b ∷ n ∷ c ∷ d ∷ e ∷ f ∷ g ∷ h ∷ i ∷ j ∷ []) p ∙ ap (λ (x : ℕ). MARK ∷ a ∷ b ∷ x ∷ c ∷ d ∷ e ∷ f ∷ g ∷ h ∷ i ∷ j ∷ []) q
    ∙ sym (same_fields ty id flags len)
fields_spelled _ le bytes p q = absurd (omega arith)

pub take_none : (k : ℕ) → take {A = ℕ} k [] ≡ []
take_none zero = refl
take_none (suc k) = refl

pub take_more : (m n : ℕ) (xs : List ℕ) → take (m + n) xs ≡ take m xs ++ take n (drop m xs)
take_more zero n xs = ap (λ (k : ℕ). take k xs) (omega arith)
take_more (suc m) n [] = take_none (suc m + n) ∙ sym (take_none n)
take_more (suc m) n (x ∷ xs) =
    let more : suc m + n ≡ suc (m + n) = omega arith in
    ap (λ (k : ℕ). take k (x ∷ xs)) more ∙ ap (λ (ys : List ℕ). x ∷ ys) (take_more m n xs)

-- ---- the item

word_small : (a b : ℕ) → a < 256 → b < 256 → little (a ∷ b ∷ []) < 2 ^ 16
word_small a b p q = omega arith

pub record SpellsItem (left : List ℕ) : Type 0 where
  pub fits : ItemFits (item_at left)
  pub spelled : take (FIELDS + length_at left) left ≡ item_spelling (item_at left)

fits_item : (left : List ℕ) → FIELDS ≤ length left → AreBytes left → ItemFits (item_at left)
fits_item (m ∷ a ∷ b ∷ n ∷ c ∷ d ∷ e ∷ f ∷ g ∷ h ∷ i ∷ j ∷ rest) le bytes =
    let size = length-take (little (g ∷ h ∷ i ∷ j ∷ [])) rest in
    let p = bytes 8 in
    let q = bytes 9 in
    let r = bytes 10 in
    let s = bytes 11 in
    let small : little (g ∷ h ∷ i ∷ j ∷ []) < 2 ^ 32 = omega (arith, p, q, r, s) in
    record {
      ty = word_small a b (bytes 1) (bytes 2);
      id = word_small c d (bytes 4) (bytes 5);
      flags = word_small e f (bytes 6) (bytes 7);
      bytes = omega (arith, size, small);
    }
fits_item _ le bytes = absurd (omega arith)

pub spells_item : (at : ℕ) (left : List ℕ) → AreBytes left → fields_fault at left ≡ None → SpellsItem left
spells_item at left bytes none =
    let is = good at left none in
    let size : length (take (length_at left) (drop FIELDS left)) ≡ length_at left = omega (arith, is.whole, is.fields, length-take (length_at left) (drop FIELDS left), length-drop FIELDS left) in
    let ty = little_bytes 2 (type_at left) in
    let id = little_bytes 2 (id_at left) in
    let flags = little_bytes 2 (number_at 2 left 6) in
    let tail = take (length_at left) (drop FIELDS left) in
    record {
      fits = fits_item left is.fields bytes;
      spelled = take_more FIELDS (length_at left) left
          ∙ ap (λ (front : List ℕ). front ++ tail) (fields_spelled left is.fields bytes is.first is.second)
          ∙ ap (λ (n : ℕ). fields_of ty id flags (little_bytes 4 n) ++ tail) (sym size);
    }
