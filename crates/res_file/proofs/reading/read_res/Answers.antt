use Rattle.std.proofs.Common.{◌≡◌, ℕ, ◌+◌, ◌≤◌, Bool, true, false, not, List, [], ◌∷◌, ◌++◌, None, length, drop, refl, sym, subst, ap, ◌∙◌, arith, rules}
use Rattle.std.specs.List.{list_any}
use Rattle.std.specs.HashSet as bag
use Rattle.std.proofs.lemmas.List.{length-take, length-drop, take_rest}
use Rattle.std.proofs.lemmas.Bool.{not-false, not-true}
use Rattle.lx_bytes.specs.LittleEndian.{AreBytes}
use Rattle.res_model.specs.declared.item.TheConstants.{FIELDS}
use Rattle.res_model.specs.ItemFields.{type_at, id_at, length_at, item_at, fields_fault}
use Rattle.res_model.specs.ResFile.{has_key}
use Rattle.res_file.specs.Seen.{AreRead, same}
use Rattle.res_model.specs.declared.item.ResItem.{ResItem}
use Rattle.res_model.specs.declared.refusal.ResRefusal.TheVariants.{Twice}
use Rattle.res_file.proofs.Progress.{one_more, faulty, fault_of_key, keys_more}
use Rattle.res_file.proofs.reading.read_res.Goals as goal

present : (added there : Bool) → added ≡ not there → added ≡ false → there ≡ true
present true there e f = absurd cc
present false true e f = refl
present false false e f = absurd cc

absent : (added there : Bool) → added ≡ not there → added ≡ true → there ≡ false
absent true true e f = absurd cc
absent true false e f = refl
absent false there e f = absurd cc

-- the keys of what stands in the file
key_at : (items : List ResItem) (left : List ℕ) (i : ResItem) (b : Bool) → i ≡ item_at left → list_any (has_key i.ty i.id) items ≡ b → list_any (has_key (type_at left) (id_at left)) items ≡ b
key_at items left i b is h = subst (λ (j : ResItem). list_any (has_key j.ty j.id) items ≡ b) is h

size_of : (left : List ℕ) (i : ResItem) → i ≡ item_at left → FIELDS + length_at left ≤ length left → length i.bytes ≡ length_at left
size_of left i is le = ap (λ (j : ResItem). length j.bytes) is ∙ omega (arith, le, length-take (length_at left) (drop FIELDS left), length-drop FIELDS left)

pub returns-then-not-branch : goal.returns-then-not-branch
returns-then-not-branch c =
    let items = c.items.items.items in
    let left = drop c.items.at c.args.bytes.now in
    let item : ResItem = record { ty = c.in-Ok.item.ty; id = c.in-Ok.item.id; flags = c.in-Ok.item.flags; bytes = c.in-Ok.item.bytes.now } in
    let same_left = take_rest c.args.bytes.now c.items.at in
    let is = subst (λ (l : List ℕ). item ≡ item_at l) same_left c.in-Ok.ensures.item in
    let judged = subst (λ (l : List ℕ). fields_fault c.items.at l ≡ None) same_left c.in-Ok.ensures.judged in
    let old : c.in_ok-insert.field-0 ≡ false = search (rules, not-true) in
    let there = present c.in_ok-insert.field-0 (bag.contains same c.items.seen (item.ty, item.id)) c.in_ok-insert.ensures.added old in
    let second = key_at items left item true is (sym (c.items.invariant.seen (item.ty, item.id)) ∙ there) in
    faulty c.args.bytes.now c.items.at items (Twice c.items.at) c.items.invariant.read c.items-test.true
    (fault_of_key items c.items.at left judged second)

pub items-preserved : goal.items-preserved
items-preserved c =
    let bytes = c.args.bytes.now in
    let at = c.items.at in
    let items = c.items.items.items in
    let left = drop at bytes in
    let item : ResItem = record { ty = c.in-Ok.item.ty; id = c.in-Ok.item.id; flags = c.in-Ok.item.flags; bytes = c.in-Ok.item.bytes.now } in
    let same_left = take_rest bytes at in
    let is = subst (λ (l : List ℕ). item ≡ item_at l) same_left c.in-Ok.ensures.item in
    let judged = subst (λ (l : List ℕ). fields_fault at l ≡ None) same_left c.in-Ok.ensures.judged in
    let there = subst (λ (l : List ℕ). FIELDS + length_at l ≤ length l) same_left c.in-Ok.ensures.there in
    let are : AreBytes bytes = λ i. let byte = c.type_inv.bytes i in omega (arith, byte) in
    let new : c.in_ok-insert.field-0 ≡ true = search (rules, not-false) in
    let none = absent c.in_ok-insert.field-0 (bag.contains same c.items.seen (item.ty, item.id)) c.in_ok-insert.ensures.added new in
    let first = key_at items left item false is (sym (c.items.invariant.seen (item.ty, item.id)) ∙ none) in
    let pushed : c.push.new.self.items ≡ items ++ item ∷ [] = c.in_ok-push.ensures.items ∙ ap (λ (i : ResItem). items ++ i ∷ []) c.in_ok-owned.ensures in
    let whole : c.push.new.self.items ≡ items ++ item_at left ∷ [] = pushed ∙ ap (λ (i : ResItem). items ++ i ∷ []) is in
    let size = size_of left item is there in
    let more = one_more bytes at items are c.items.invariant.read judged first in
    record {
      read = subst (λ (xs : List ResItem). AreRead bytes (at + (12 + length c.in-Ok.item.bytes.now)) xs) (sym whole)
          (subst (λ (n : ℕ). AreRead bytes (at + (12 + n)) (items ++ item_at left ∷ [])) (sym size) more);
      seen = λ k. keys_more items item c.items.seen c.insert.new.self c.items.invariant.seen (λ q. c.in_ok-insert.ensures.updates.0 q) k
          ∙ ap (λ (xs : List ResItem). list_any (has_key k.0 k.1) xs) (sym pushed);
    }
