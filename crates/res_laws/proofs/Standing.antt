-- Bytes of the old file that stand: those that no field has that is set.
use Rattle.std.proofs.Common.{◌≡◌, ℕ, ◌+◌, ◌<◌, ◌≤◌, Bool, true, false, ◌&&◌, ◌||◌, leb, ltb, List, [], ◌∷◌, ◌++◌, map, length, get_or, refl, ◌∙◌, arith}
use Rattle.std.specs.List.{list_all, list_any}
use Rattle.std.specs.Prelude.{min, max}
use Rattle.std.proofs.lemmas.Bool.Decides.{nat_tests}
use Rattle.std.proofs.lemmas.List.{get_or_append_left}
use Rattle.std.proofs.lemmas.Bool.{and_parts, or_from}
use Rattle.lx_model.specs.Header.{header_place}
use Rattle.lx_model.specs.FixupPages.{has_records}
use Rattle.res_model.specs.declared.item.ResItem.{ResItem}
use Rattle.res_model.specs.Bound.{with_fields, appended}
use Rattle.res_model.specs.Clear.{Part, part, are_apart, set_offsets, set_parts}
use Rattle.res_bind.specs.Laws.{is_set}
use Rattle.res_bind.proofs.Kept.{fields_stand}
use Rattle.res_laws.proofs.Lists.{Same}

-- the file with an object more
abbrev pub extended : List ℕ → List ResItem → List ℕ
extended file items = with_fields file items ++ appended file items

pub byte_stands : (file : List ℕ) (items : List ResItem) (x : ℕ) → header_place file + 0xAC ≤ length file → x < length file → is_set file x ≡ false → get_or (extended file items) x 0 ≡ get_or file x 0
byte_stands file items x long lt unset =
    let stands = fields_stand file items x long unset in
    let size = stands.long in
    get_or_append_left (with_fields file items) (appended file items) 0 x (omega (arith, lt, size)) ∙ stands.byte

-- ---- parts that are apart from the fields

abbrev has_place : ℕ → Part → Bool
has_place x q = leb q.at x && ltb x (q.at + q.len)

not_in_both : (a m b n x : ℕ) → leb (min (a + m) (b + n)) (max a b) ≡ true → a ≤ x → x < a + m → (leb b x && ltb x (b + n)) ≡ false
not_in_both a m b n x e low high = grind (arith, nat_tests)

in_none : (parts : List Part) (q : Part) (x : ℕ) → list_all (are_apart q) parts ≡ true → q.at ≤ x → x < q.at + q.len → list_any (has_place x) parts ≡ false
in_none [] q x e low high = refl
in_none (r ∷ parts) q x e low high =
    let test = and_parts (are_apart q r) (list_all (are_apart q) parts) e in
    or_from (has_place x r) (list_any (has_place x) parts) (not_in_both q.at q.len r.at r.len x test.0 low high) (in_none parts q x test.1 low high)

-- a part of the file that is apart from the fields stands
pub part_stands : (file : List ℕ) (items : List ResItem) (at len : ℕ) → header_place file + 0xAC ≤ length file → at + len ≤ length file → list_all (are_apart (part at len)) (set_parts file) ≡ true → Same file (extended file items) at len
part_stands file items at len long there e x low high = byte_stands file items x long (omega (arith, high, there)) (in_none (set_parts file) (part at len) x e low high)

-- ---- other fields of the header

-- so many bytes at an offset are apart from four at each of these
abbrev pub lies_free : ℕ → ℕ → List ℕ → Bool
lies_free o w offsets = list_all (λ s. leb (o + w) s || leb (s + 4) o) offsets

not_at : (o w s p x : ℕ) → (leb (o + w) s || leb (s + 4) o) ≡ true → p + o ≤ x → x < p + o + w → (leb (p + s) x && ltb x (p + s + 4)) ≡ false
not_at o w s p x e low high = grind (arith, nat_tests)

at_none : (offsets : List ℕ) (o w p x : ℕ) → lies_free o w offsets ≡ true → p + o ≤ x → x < p + o + w → list_any (has_place x) (map (λ offset. part (p + offset) 4) offsets) ≡ false
at_none [] o w p x e low high = refl
at_none (s ∷ offsets) o w p x e low high =
    let test = and_parts (leb (o + w) s || leb (s + 4) o) (lies_free o w offsets) e in
    or_from (has_place x (part (p + s) 4)) (list_any (has_place x) (map (λ offset. part (p + offset) 4) offsets)) (not_at o w s p x test.0 low high) (at_none offsets o w p x test.1 low high)

either_free : (o w : ℕ) (records : Bool) → lies_free o w (set_offsets true) ≡ true → lies_free o w (set_offsets false) ≡ true → lies_free o w (set_offsets records) ≡ true
either_free o w true e f = e
either_free o w false e f = f

-- a field that is not set stands
pub free_stands : (file : List ℕ) (items : List ResItem) (o w : ℕ) → header_place file + 0xAC ≤ length file → lies_free o w (set_offsets (has_records file)) ≡ true → o + w ≤ 0xAC → Same file (extended file items) (header_place file + o) w
free_stands file items o w long e le x low high =
    byte_stands file items x long (omega (arith, long, le, high)) (at_none (set_offsets (has_records file)) o w (header_place file) x e low high)

pub field_stands : (file : List ℕ) (items : List ResItem) (o w : ℕ) → header_place file + 0xAC ≤ length file → lies_free o w (set_offsets true) ≡ true → lies_free o w (set_offsets false) ≡ true → o + w ≤ 0xAC → Same file (extended file items) (header_place file + o) w
field_stands file items o w long e f le = free_stands file items o w long (either_free o w (has_records file) e f) le

pub front_long : (file : List ℕ) (items : List ResItem) → header_place file + 0xAC ≤ length file → length (with_fields file items) ≡ length file
front_long file items long =
    let p = header_place file in
    (fields_stand file items p long (at_none (set_offsets (has_records file)) 0 1 p p (either_free 0 1 (has_records file) refl refl) (omega arith) (omega arith))).long
