-- One item more is read.
use Rattle.std.proofs.Common.{◌≡◌, ℕ, ◌+◌, ◌<◌, ◌≤◌, Bool, true, false, cond, eqb, ◌&&◌, ◌||◌, List, [], ◌∷◌, ◌++◌, length, take, drop, Option, Some, None, refl, sym, ap, ◌∙◌, append-nil, append_assoc, zero, suc, arith}
use Rattle.std.specs.List.{list_any}
use Rattle.std.specs.HashSet as bag
use Rattle.std.specs.HashSet.{HashSet}
use Rattle.std.proofs.lemmas.Bool.Decides.{nat_tests}
use Rattle.std.proofs.lemmas.List.{length-drop, length-take, take-append-drop}
use Rattle.std.proofs.lemmas.List.Folds.{list_any-append}
use Rattle.std.proofs.lemmas.Bool.{or_parts}
use Rattle.lx_types.proofs.Lists.{all_joined}
use Rattle.lx_bytes.specs.LittleEndian.{AreBytes}
use Rattle.lx_model.specs.Reading.{◌then◌}
use Rattle.lx_model.proofs.Takes.{AreBytes-drop}
use Rattle.res_model.specs.declared.item.TheConstants.{FIELDS}
use Rattle.res_model.specs.ItemFields.{type_at, id_at, length_at, item_at, fields_fault}
use Rattle.res_model.specs.ResFile.{item_spelling, items_spelling, ItemFits, has_key, same_key, AreApart, IsResFile}
use Rattle.res_model.specs.Faults.{FirstFault, item_fault, is_second}
use Rattle.res_file.specs.Seen.{AreRead, AreKeysOf, Key, same}
use Rattle.res_model.specs.declared.item.ResItem.{ResItem}
use Rattle.res_model.specs.declared.refusal.ResRefusal.{ResRefusal}
use Rattle.res_model.specs.declared.refusal.ResRefusal.TheVariants.{Twice}
use Rattle.res_file.proofs.GoodItem.{take_none, take_more, spells_item, good}

-- ---- apart

pub turned : (a b c d : ℕ) → (eqb a b && eqb c d) ≡ false → (eqb b a && eqb d c) ≡ false
turned a b c d e = grind (arith, nat_tests)

apart_more : (items : List ResItem) (y : ResItem) → AreApart items → list_any (has_key y.ty y.id) items ≡ false → AreApart (items ++ y ∷ [])
apart_more [] y h none = (tt, tt)
apart_more (i ∷ items) y h none =
    let parts = or_parts (has_key y.ty y.id i) (list_any (has_key y.ty y.id) items) none in
    let here : same_key i y ≡ false = turned i.ty y.ty i.id y.id parts.0 in
    (all_joined (λ other. same_key i other ≡ false) items (y ∷ []) h.0 (here, tt), apart_more items y h.1 parts.1)

-- ---- spelled

spelling_more : (items : List ResItem) (y : ResItem) → items_spelling (items ++ y ∷ []) ≡ items_spelling items ++ item_spelling y
spelling_more [] y = append-nil (item_spelling y)
spelling_more (i ∷ items) y = ap (λ (bs : List ℕ). item_spelling i ++ bs) (spelling_more items y) ∙ sym (append_assoc (item_spelling i) (items_spelling items) (item_spelling y))

pub nothing_read : (bytes : List ℕ) → AreRead bytes 0 []
nothing_read bytes = record { within = omega arith; spelled = refl; fit = tt; apart = tt }

pub one_more : (bytes : List ℕ) (at : ℕ) (items : List ResItem) → AreBytes bytes → AreRead bytes at items → fields_fault at (drop at bytes) ≡ None →
    list_any (has_key (type_at (drop at bytes)) (id_at (drop at bytes))) items ≡ false → AreRead bytes (at + (FIELDS + length_at (drop at bytes))) (items ++ item_at (drop at bytes) ∷ [])
one_more bytes at items are read none new =
    let left = drop at bytes in
    let item = spells_item at left (AreBytes-drop at bytes are) none in
    let whole = (good at left none).whole in
    record {
      within = omega (arith, whole, read.within, length-drop at bytes);
      spelled = take_more at (FIELDS + length_at left) bytes
          ∙ ap (λ (front : List ℕ). front ++ take (FIELDS + length_at left) left) read.spelled
          ∙ ap (λ (more : List ℕ). items_spelling items ++ more) item.spelled
          ∙ sym (spelling_more items (item_at left));
      fit = all_joined ItemFits items (item_at left ∷ []) read.fit (item.fits, tt);
      apart = apart_more items (item_at left) read.apart new;
    }

take_all : (n : ℕ) (xs : List ℕ) → length xs ≤ n → take n xs ≡ xs
take_all n [] le = take_none n
take_all zero (x ∷ xs) le = absurd (omega arith)
take_all (suc n) (x ∷ xs) le = ap (λ (ys : List ℕ). x ∷ ys) (take_all n xs (omega arith))

pub all_read : (bytes : List ℕ) (at : ℕ) (items : List ResItem) → AreRead bytes at items → length bytes ≤ at → IsResFile bytes items
all_read bytes at items read le = record { spelled = sym (take_all at bytes le) ∙ read.spelled; fit = read.fit; apart = read.apart }

-- ---- faults

pub faulty : (bytes : List ℕ) (at : ℕ) (items : List ResItem) (told : ResRefusal) → AreRead bytes at items → at < length bytes → item_fault items at (drop at bytes) ≡ Some told → FirstFault bytes told
faulty bytes at items told read lt wrong =
    let size : length (items_spelling items) ≡ at = ap length (sym read.spelled) ∙ omega (arith, read.within, length-take at bytes) in
    record {
      before = items;
      left = drop at bytes;
      good = record { spelled = refl; fit = read.fit; apart = read.apart };
      spelled = sym (take-append-drop at bytes) ∙ ap (λ (front : List ℕ). front ++ drop at bytes) read.spelled;
      some = omega (arith, lt, length-drop at bytes);
      wrong = ap (λ (n : ℕ). item_fault items n (drop at bytes)) size ∙ wrong;
    }

pub fault_of_fields : (items : List ResItem) (at : ℕ) (left : List ℕ) (told : ResRefusal) → fields_fault at left ≡ Some told → item_fault items at left ≡ Some told
fault_of_fields items at left told is = ap (λ (o : Option ResRefusal). o then is_second items left at) is

pub fault_of_key : (items : List ResItem) (at : ℕ) (left : List ℕ) → fields_fault at left ≡ None → list_any (has_key (type_at left) (id_at left)) items ≡ true → item_fault items at left ≡ Some (Twice at)
fault_of_key items at left none second =
    ap (λ (o : Option ResRefusal). o then is_second items left at) none ∙ ap (λ (b : Bool). cond b (Some (Twice at)) None) second

-- ---- keys

pub keys_more : {S : Type 0} (items : List ResItem) (y : ResItem) (seen now : HashSet Key S) → AreKeysOf items seen → ((q : Key) → bag.contains same now q ≡ cond (same (y.ty, y.id) q) true (bag.contains same seen q)) →
    AreKeysOf (items ++ y ∷ []) now
keys_more items y seen now are put k =
    put k ∙ ap (λ (b : Bool). cond (same (y.ty, y.id) k) true b) (are k) ∙ sym (list_any-append (has_key k.0 k.1) items (y ∷ []) ∙ either (list_any (has_key k.0 k.1) items) (has_key k.0 k.1 y))
  where
    either : (a b : Bool) → (a || (b || false)) ≡ cond b true a
    either true true = refl
    either true false = refl
    either false true = refl
    either false false = refl
