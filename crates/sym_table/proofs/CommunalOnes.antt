-- Communals: one more module's COMDEFs, and one more COMDEF without definition.
use Rattle.std.specs.Prelude.{◌≡◌, ℕ, ◌+◌, ◌<◌, Bool, true, false, cond, ◌||◌, List, [], ◌∷◌, ◌++◌, Option, Some, None, map, length, take, nat_lt, bytes_eq, refl}
use Rattle.std.specs.List.{list_any, position_or_len, filter_map, enumerate_from, cons_option}
use Rattle.std.specs.Borrow.{Bor}
use Rattle.std.proofs.Common.{ap, sym, ◌∙◌, arith}
use Rattle.std.proofs.Math.ListN.{get_or}
use Rattle.std.proofs.lemmas.Bool.Decides.{nat_tests}
use Rattle.std.proofs.lemmas.List.{length-map, map-append, take_more, append_assoc, append-nil}
use Rattle.std.proofs.lemmas.List.FromFn.{length-enumerate_from}
use Rattle.std.proofs.lemmas.List.Elements.{filter_map-append}
use Rattle.obj_types.specs.declared.object.ObjModule.{ObjModule}
use Rattle.obj_types.specs.declared.symbol.Common.{Common}
use Rattle.obj_types.specs.declared.symbol.Ext.{Ext}
use Rattle.obj_types.specs.declared.input.LinkInput.{LinkInput}
use Rattle.link_model.specs.declared.symbols.SymDef.{SymDef}
use Rattle.link_model.specs.declared.symbols.SymDef.TheVariants as means
use Rattle.link_model.specs.Appearance.{firsts}
use Rattle.link_model.specs.Link.{externals}
use Rattle.link_model.specs.Symbols.{comdefs, comdef_of}
use Rattle.name_table.specs.Entries.{is_named, with_entry}
use Rattle.name_table.proofs.Shown.{any-place, after}
use Rattle.link_types.specs.Links.{link_with}
use Rattle.sym_table.specs.Firsts.{same_name}
use Rattle.sym_table.specs.declared.communals.Comdef.{Comdef}
use Rattle.sym_table.specs.Communals.{comdef_shown, long_as, AreGreatest, with_greatest, slotted}
use Rattle.sym_table.proofs.FirstOnes.{entry-push}
use Rattle.link_types.proofs.Lists.{map-more, modules-push}

without_number : (n : ℕ) (es : List Ext) → filter_map (λ (q : ℕ × Ext). comdef_of q.1) (map (λ (e : Ext). (n, e)) es) ≡ filter_map comdef_of es
without_number n [] = refl
without_number n (e ∷ es) = ap (λ (t : List (List ℕ × Common)). cons_option (comdef_of e) t) (without_number n es)

pub comdefs-push : (input : LinkInput) (mods : List (Bor ObjModule)) (i : ℕ) (m : Bor ObjModule) → i < length mods → m ≡ get_or mods i m →
    comdefs (link_with input (take (i + 1) mods)) ≡ comdefs (link_with input (take i mods)) ++ filter_map comdef_of m.now.exts
comdefs-push input mods i m there is =
    let of : ℕ → ObjModule → List (ℕ × Ext) = λ n o. map (λ (e : Ext). (n, e)) o.exts in
    ap (filter_map (λ (q : ℕ × Ext). comdef_of q.1)) (modules-push of input mods i m there is)
    ∙ filter_map-append (λ (q : ℕ × Ext). comdef_of q.1) (externals (link_with input (take i mods))) (of (i + 1) m.now)
    ∙ ap (λ (t : List (List ℕ × Common)). comdefs (link_with input (take i mods)) ++ t) (without_number (i + 1) m.now.exts)

-- ---- slots

abbrev slotted_from : ℕ → List (List ℕ × Common) → List (List ℕ × SymDef)
slotted_from s cs = map (λ q. (q.1.0, means.Common q.0)) (enumerate_from s cs)

named_slots : (name : List ℕ) (s : ℕ) (cs : List (List ℕ × Common)) → list_any (is_named {V = SymDef} name) (slotted_from s cs) ≡ list_any (is_named {V = Common} name) cs
named_slots name s [] = refl
named_slots name s (c ∷ cs) = ap (λ (b : Bool). bytes_eq name c.0 || b) (named_slots name (s + 1) cs)

named_greatest : (name : List ℕ) (all cs : List (List ℕ × Common)) → list_any (is_named {V = Common} name) (map (with_greatest all) cs) ≡ list_any (is_named {V = Common} name) cs
named_greatest name all [] = refl
named_greatest name all (c ∷ cs) = ap (λ (b : Bool). bytes_eq name c.0 || b) (named_greatest name all cs)

slotted-push : (s : ℕ) (cs : List (List ℕ × Common)) (c : List ℕ × Common) → slotted_from s (cs ++ c ∷ []) ≡ slotted_from s cs ++ (c.0, means.Common (s + length cs)) ∷ []
slotted-push s [] c = ap (λ (n : ℕ). let e : List ℕ × SymDef = (c.0, means.Common n) in e ∷ []) (omega arith)
slotted-push s (d ∷ cs) c =
    let first : List ℕ × SymDef = (d.0, means.Common s) in
    ap (λ (t : List (List ℕ × SymDef)). first ∷ t) (slotted-push (s + 1) cs c)
    ∙ ap (λ (n : ℕ). let e : List ℕ × SymDef = (c.0, means.Common n) in first ∷ (slotted_from (s + 1) cs ++ e ∷ [])) (omega arith)

length-slotted : (cs : List (List ℕ × Common)) → length (slotted cs) ≡ length cs
length-slotted cs = length-map (enumerate_from 0 cs) (λ q. (q.1.0, means.Common q.0)) ∙ length-enumerate_from 0 cs

not_below : (n m : ℕ) → n ≡ m → nat_lt n m ≡ false
not_below n m e = grind (arith, nat_tests)

absent_by : (name : List ℕ) (slots : List (List ℕ × SymDef)) (place : ℕ) → place ≡ position_or_len (is_named {V = SymDef} name) slots → place ≡ length slots → list_any (is_named {V = SymDef} name) slots ≡ false
absent_by name slots place at last = any-place (is_named {V = SymDef} name) slots ∙ not_below _ _ (sym at ∙ last)

present_by : (name : List ℕ) (slots : List (List ℕ × SymDef)) (place : ℕ) (b : Bool) → list_any (is_named {V = SymDef} name) slots ≡ b → place ≡ position_or_len (is_named {V = SymDef} name) slots → (place ≡ length slots → ⊥) → b ≡ true
present_by name slots place true is at not_last = refl
present_by name slots place false is at not_last = absurd (not_last (at ∙ sym (after (is_named {V = SymDef} name) slots is)))

-- ---- one more communal

abbrev pub slot_entry : List (List ℕ × SymDef) → List ℕ → List (List ℕ × SymDef)
slot_entry slots name = with_entry slots name (means.Common (length slots))

-- A name that has no slot gets the next one.
pub new_slot : (name : List ℕ) (v : Common) (list new : List (List ℕ × Common)) (slots : List (List ℕ × SymDef)) (place : ℕ) → slots ≡ slotted list → place ≡ position_or_len (is_named {V = SymDef} name) slots → place ≡ length slots →
    new ≡ list ++ (name, v) ∷ [] → (new ≡ with_entry list name v) × (slot_entry slots name ≡ slotted new)
new_slot name v list new slots place f at last is =
    let none : list_any (is_named {V = SymDef} name) slots ≡ false = absent_by name slots place at last in
    let own : list_any (is_named {V = Common} name) list ≡ false = sym (ap (list_any (is_named {V = SymDef} name)) f ∙ named_slots name 0 list) ∙ none in
    let entry : List ℕ × Common = (name, v) in
    let slot : List ℕ × SymDef = (name, means.Common (length slots)) in (
      is ∙ sym (ap (λ (b : Bool). cond b list (list ++ entry ∷ [])) own),
      ap (λ (b : Bool). cond b slots (slots ++ slot ∷ [])) none
          ∙ ap (λ (n : ℕ). let e : List ℕ × SymDef = (name, means.Common n) in slots ++ e ∷ []) (ap length f ∙ length-slotted list)
          ∙ ap (λ (t : List (List ℕ × SymDef)). let e : List ℕ × SymDef = (name, means.Common (length list)) in t ++ e ∷ []) f
          ∙ sym (slotted-push 0 list entry ∙ ap (λ (n : ℕ). let e : List ℕ × SymDef = (name, means.Common n) in slotted list ++ e ∷ []) (omega arith))
          ∙ ap slotted (sym is),
    )

-- A name that has a slot keeps it.
pub old_slot : (name : List ℕ) (v : Common) (list : List (List ℕ × Common)) (slots : List (List ℕ × SymDef)) (place : ℕ) → slots ≡ slotted list → place ≡ position_or_len (is_named {V = SymDef} name) slots → (place ≡ length slots → ⊥) →
    (list ≡ with_entry list name v) × (slot_entry slots name ≡ slotted list)
old_slot name v list slots place f at not_last =
    let some : list_any (is_named {V = SymDef} name) slots ≡ true = present_by name slots place (list_any (is_named {V = SymDef} name) slots) refl at not_last in
    let own : list_any (is_named {V = Common} name) list ≡ true = sym (ap (list_any (is_named {V = SymDef} name)) f ∙ named_slots name 0 list) ∙ some in
    let entry : List ℕ × Common = (name, v) in
    let slot : List ℕ × SymDef = (name, means.Common (length slots)) in (
      sym (ap (λ (b : Bool). cond b list (list ++ entry ∷ [])) own),
      ap (λ (b : Bool). cond b slots (slots ++ slot ∷ [])) some ∙ f,
    )

-- One more entry of a list by first appearance, where each has the greatest length of its name.
greatest_entry : (all table : List (List ℕ × Common)) (x : List ℕ × Common) → with_entry (map (with_greatest all) table) x.0 (with_greatest all x).1 ≡ map (with_greatest all) (with_entry table x.0 x.1)
greatest_entry all table x =
    ap (λ (b : Bool). cond b (map (with_greatest all) table) (map (with_greatest all) table ++ with_greatest all x ∷ [])) (named_greatest x.0 all table)
    ∙ by (list_any (is_named {V = Common} x.0) table)
  where
    by : (b : Bool) → cond b (map (with_greatest all) table) (map (with_greatest all) table ++ with_greatest all x ∷ []) ≡ map (with_greatest all) (cond b table (table ++ x ∷ []))
    by true = refl
    by false = sym (map-append (with_greatest all) table (x ∷ []))

pub communal-more : (all : List (List ℕ × Common)) (lens : List (List ℕ × ℕ)) (cs : List Comdef) (i : ℕ) (c : Comdef) (list : List (List ℕ × Common)) → AreGreatest all lens → i < length cs → c ≡ get_or cs i c →
    list ≡ map (with_greatest all) (firsts same_name (map comdef_shown (take i cs))) →
    with_entry list c.name.now (long_as lens c) ≡ map (with_greatest all) (firsts same_name (map comdef_shown (take (i + 1) cs)))
communal-more all lens cs i c list are there is before =
    let x : List ℕ × Common = comdef_shown c in
    let es : List (List ℕ × Common) = map comdef_shown (take i cs) in
    ap (λ (n : ℕ). let v : Common = record { far = c.common.far; len = n } in with_entry list c.name.now v) (are c.name.now)
    ∙ ap (λ (t : List (List ℕ × Common)). with_entry t x.0 (with_greatest all x).1) before
    ∙ greatest_entry all (firsts same_name es) x
    ∙ ap (map (with_greatest all)) (entry-push es x.0 x.1 ∙ ap (firsts same_name) (sym (map-more comdef_shown cs i c there is)))

-- ---- one more external of a module

filter_map-more : {X Y : Type 0} (h : X → Option Y) (xs : List X) (i : ℕ) (x : X) → i < length xs → x ≡ get_or xs i x → filter_map h (take (i + 1) xs) ≡ filter_map h (take i xs) ++ cons_option (h x) []
filter_map-more {X} {Y} h xs i x there is =
    ap (filter_map h) (take_more xs i x there ∙ ap (λ (y : X). take i xs ++ y ∷ []) (sym is)) ∙ filter_map-append h (take i xs) (x ∷ [])

pub added : {X Y : Type 0} (h : X → Option Y) (base now next : List Y) (xs : List X) (i : ℕ) (x : X) (y : Y) → i < length xs → x ≡ get_or xs i x → h x ≡ Some y → now ≡ base ++ filter_map h (take i xs) → next ≡ now ++ y ∷ [] → next ≡ base ++ filter_map h (take (i + 1) xs)
added {X} {Y} h base now next xs i x y there is value e f =
    f ∙ ap (λ (t : List Y). t ++ y ∷ []) e ∙ append_assoc base (filter_map h (take i xs)) (y ∷ [])
    ∙ ap (λ (t : List Y). base ++ t) (sym (filter_map-more h xs i x there is ∙ ap (λ (o : Option Y). filter_map h (take i xs) ++ cons_option o []) value))

pub passed : {X Y : Type 0} (h : X → Option Y) (base now : List Y) (xs : List X) (i : ℕ) (x : X) → i < length xs → x ≡ get_or xs i x → h x ≡ None → now ≡ base ++ filter_map h (take i xs) → now ≡ base ++ filter_map h (take (i + 1) xs)
passed {X} {Y} h base now xs i x there is none e =
    e ∙ ap (λ (t : List Y). base ++ t) (sym (filter_map-more h xs i x there is ∙ (ap (λ (o : Option Y). filter_map h (take i xs) ++ cons_option o []) none ∙ append-nil (filter_map h (take i xs)))))
