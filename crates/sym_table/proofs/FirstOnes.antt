-- The table of first definitions: one more, and what is found in it.
use Rattle.std.specs.Prelude.{◌≡◌, ℕ, Bool, true, false, cond, List, [], ◌∷◌, ◌++◌, Option, Some, None, map, bytes_eq, find, is_some, refl}
use Rattle.std.specs.Option.{option_map}
use Rattle.std.specs.Cmp.Lexicographic.{nat_list_eq_equiv, on_texts_equal}
use Rattle.std.proofs.Common.{ap, sym, ◌∙◌, true≢false}
use Rattle.std.proofs.lemmas.List.{map-append}
use Rattle.std.proofs.lemmas.Slice.Eq.{bytes_eq-Decides}
use Rattle.std.specs.Prelude.{◌+◌, ◌<◌, not, length, take, drop}
use Rattle.std.specs.Option.{option_or, option_and_then}
use Rattle.std.proofs.Math.ListN.{get_or}
use Rattle.std.proofs.lemmas.List.{take_more, take-append-drop}
use Rattle.std.proofs.lemmas.List.Folds.{find-append}
use Rattle.link_model.specs.declared.refusals.SymRefusal.{SymRefusal}
use Rattle.link_model.specs.declared.refusals.SymRefusal.TheVariants.{Twice}
use Rattle.link_model.specs.Words.{first_conflict}
use Rattle.link_model.specs.SymbolRefusals.{counts_once, conflicts}
use Rattle.sym_table.specs.Definitions.{meaning_shown, twice_among}
use Rattle.sym_table.proofs.Conflicts.{late, conflict-push, conflict-front}
use Rattle.name_table.specs.Entries.{is_named, value_named, with_entry}
use Rattle.link_model.specs.Appearance.{firsts}
use Rattle.link_model.specs.Symbols as rules
use Rattle.link_model.proofs.Tables.{firsts-push, find-firsts, OfKey}
use Rattle.sym_table.specs.declared.definitions.Definition.{Definition}
use Rattle.sym_table.specs.Definitions.{shown}
use Rattle.sym_table.specs.Firsts.{same_name, named, firsts_of, second_in}

name_test : {V : Type 0} (name : List ℕ) → OfKey {X = List ℕ × V} same_name (is_named name)
name_test name x y e =
    let same : name ≡ y.0 = (bytes_eq-Decides name y.0).0 e in
    ap (bytes_eq x.0) (sym same) ∙ nat_list_eq_equiv.symm x.0 name

-- A table of names by first appearance, with one more entry.
pub entry-push : {V : Type 0} (es : List (List ℕ × V)) (name : List ℕ) (value : V) → with_entry (firsts same_name es) name value ≡ firsts same_name (es ++ (name, value) ∷ [])
entry-push {V} es name value = sym (firsts-push (on_texts_equal (λ (e : List ℕ × V). e.0)) es (name, value))

-- A name's first value is the one in the table.
pub value-firsts : {V : Type 0} (name : List ℕ) (es : List (List ℕ × V)) → value_named name (firsts same_name es) ≡ value_named name es
value-firsts {V} name es = ap (λ (o : Option (List ℕ × V)). option_map (λ e. e.1) o) (find-firsts same_name (is_named name) (name_test name) es)

found_by : (b : Bool) (d : Definition) (o : Option (List ℕ × Definition)) (p : Option rules.Definition) → option_map shown (option_map (λ (e : List ℕ × Definition). e.1) o) ≡ p →
    option_map shown (option_map (λ (e : List ℕ × Definition). e.1) (cond b (Some (named d)) o)) ≡ cond b (Some (shown d)) p
found_by true d o p e = refl
found_by false d o p e = e

found_among : (name : List ℕ) (ds : List Definition) → option_map shown (value_named name (map named ds)) ≡ find (λ d. bytes_eq d.name name) (map shown ds)
found_among name [] = refl
found_among name (d ∷ ds) =
    found_by (bytes_eq name d.name.now) d (find (is_named name) (map named ds)) (find (λ d. bytes_eq d.name name) (map shown ds)) (found_among name ds)
    ∙ ap (λ (b : Bool). cond b (Some (shown d)) (find (λ d. bytes_eq d.name name) (map shown ds))) (nat_list_eq_equiv.symm name d.name.now)

-- The first definition of a name, in the table.
pub first_found : (name : List ℕ) (ds : List Definition) → option_map shown (value_named name (firsts_of ds)) ≡ find (λ d. bytes_eq d.name name) (map shown ds)
first_found name ds = ap (λ (o : Option Definition). option_map shown o) (value-firsts name (map named ds)) ∙ found_among name ds

-- One more definition.
pub first_push : (ds : List Definition) (d : Definition) → with_entry (firsts_of ds) d.name.now d ≡ firsts_of (ds ++ d ∷ [])
first_push ds d = entry-push (map named ds) d.name.now d ∙ ap (firsts same_name) (sym (map-append named ds (d ∷ [])))

-- ---- one more definition of a list

take_one : (found : List Definition) (i : ℕ) (d : Definition) → i < length found → d ≡ get_or found i d → take (i + 1) found ≡ take i found ++ d ∷ []
take_one found i d there is = take_more found i d there ∙ ap (λ x. take i found ++ x ∷ []) (sym is)

pub first_more : (found : List Definition) (i : ℕ) (d : Definition) → i < length found → d ≡ get_or found i d → with_entry (firsts_of (take i found)) d.name.now d ≡ firsts_of (take (i + 1) found)
first_more found i d there is = first_push (take i found) d ∙ ap firsts_of (sym (take_one found i d there is))

shown_more : (found : List Definition) (i : ℕ) (d : Definition) → i < length found → d ≡ get_or found i d → map shown (take (i + 1) found) ≡ map shown (take i found) ++ shown d ∷ []
shown_more found i d there is = ap (map shown) (take_one found i d there is) ∙ map-append shown (take i found) (d ∷ [])

judged : (found : List Definition) (i : ℕ) (d : Definition) → i < length found → d ≡ get_or found i d → first_conflict conflicts [] (map shown (take i found)) ≡ None →
    first_conflict conflicts [] (map shown (take (i + 1) found)) ≡ cond (late (shown d) (option_map shown (value_named d.name.now (firsts_of (take i found))))) (Some (shown d)) None
judged found i d there is none =
    ap (first_conflict conflicts []) (shown_more found i d there is)
    ∙ conflict-push (map shown (take i found)) (shown d) none
    ∙ ap (λ (o : Option rules.Definition). cond (late (shown d) o) (Some (shown d)) None) (sym (first_found d.name.now (take i found)))

-- It is no second one.
pub no_second : (found : List Definition) (i : ℕ) (d : Definition) → i < length found → d ≡ get_or found i d → first_conflict conflicts [] (map shown (take i found)) ≡ None →
    late (shown d) (option_map shown (value_named d.name.now (firsts_of (take i found)))) ≡ false → first_conflict conflicts [] (map shown (take (i + 1) found)) ≡ None
no_second found i d there is none on_time =
    judged found i d there is none ∙ ap (λ (b : Bool). cond b (Some (shown d)) None) on_time

-- It is the first second one.
second_found : (found : List Definition) (i : ℕ) (d first : Definition) → i < length found → d ≡ get_or found i d → first_conflict conflicts [] (map shown (take i found)) ≡ None →
    value_named d.name.now (firsts_of (take i found)) ≡ Some first → counts_once (meaning_shown first.meaning) (meaning_shown d.meaning) ≡ false → twice_among (map shown found) ≡ Some (Twice d.name.now first.by d.by)
second_found found i d first there is none of_name twice =
    let whole : List rules.Definition = map shown found in
    let test : rules.Definition → Bool = λ e. bytes_eq e.name d.name.now in
    let cut : map shown (take (i + 1) found) ++ map shown (drop (i + 1) found) ≡ whole = sym (map-append shown (take (i + 1) found) (drop (i + 1) found)) ∙ ap (map shown) (take-append-drop (i + 1) found) in
    let before : map shown (take i found) ++ map shown (drop i found) ≡ whole = sym (map-append shown (take i found) (drop i found)) ∙ ap (map shown) (take-append-drop i found) in
    let shown_first : option_map shown (value_named d.name.now (firsts_of (take i found))) ≡ Some (shown first) = ap (option_map shown) of_name in
    let conflict : first_conflict conflicts [] (map shown (take (i + 1) found)) ≡ Some (shown d) =
    judged found i d there is none
    ∙ ap (λ (o : Option rules.Definition). cond (late (shown d) o) (Some (shown d)) None) shown_first
    ∙ ap (λ (b : Bool). cond (not b) (Some (shown d)) None) twice in
    let of_whole : first_conflict conflicts [] whole ≡ Some (shown d) =
    ap (first_conflict conflicts []) (sym cut) ∙ conflict-front (map shown (take (i + 1) found)) (map shown (drop (i + 1) found)) (shown d) conflict in
    let first_of_whole : find test whole ≡ Some (shown first) =
    ap (find test) (sym before) ∙ find-append test (map shown (take i found)) (map shown (drop i found))
    ∙ ap (λ (o : Option rules.Definition). option_or o (find test (map shown (drop i found)))) (sym (first_found d.name.now (take i found)) ∙ shown_first) in
    ap (λ (o : Option rules.Definition). option_and_then (λ (second : rules.Definition). option_map (λ (f : rules.Definition). Twice second.name f.by second.by) (find (λ e. bytes_eq e.name second.name) whole)) o) of_whole
    ∙ ap (λ (o : Option rules.Definition). option_map (λ (f : rules.Definition). Twice d.name.now f.by d.by) o) first_of_whole

-- ---- by what is found beside the first ones

-- What a first definition refuses.
abbrev refused_by : Definition → Bool → Definition → Option SymRefusal
refused_by d once f = cond once None (Some (Twice d.name.now f.by d.by))

pub not_late : (d : Definition) (o : Option Definition) → option_and_then (λ f. refused_by d (counts_once (meaning_shown f.meaning) (meaning_shown d.meaning)) f) o ≡ None → late (shown d) (option_map shown o) ≡ false
not_late d None e = refl
not_late d (Some f) e = by (counts_once (meaning_shown f.meaning) (meaning_shown d.meaning)) e
  where
    by : (once : Bool) → refused_by d once f ≡ None → not once ≡ false
    by true e = refl
    by false e = absurd (true≢false (ap is_some e))

pub first_second : (found : List Definition) (i : ℕ) (d : Definition) (r : SymRefusal) → i < length found → d ≡ get_or found i d → first_conflict conflicts [] (map shown (take i found)) ≡ None →
    second_in (firsts_of (take i found)) d ≡ Some r → twice_among (map shown found) ≡ Some r
first_second found i d r there is none second =
    by_first (value_named d.name.now (firsts_of (take i found))) refl second
  where
    by_once : (f : Definition) (once : Bool) → value_named d.name.now (firsts_of (take i found)) ≡ Some f → counts_once (meaning_shown f.meaning) (meaning_shown d.meaning) ≡ once → refused_by d once f ≡ Some r → twice_among (map shown found) ≡ Some r
    by_once f true at test e = absurd (true≢false (sym (ap is_some e)))
    by_once f false at test e = second_found found i d f there is none at test ∙ e

    by_first : (o : Option Definition) → value_named d.name.now (firsts_of (take i found)) ≡ o → option_and_then (λ f. refused_by d (counts_once (meaning_shown f.meaning) (meaning_shown d.meaning)) f) o ≡ Some r → twice_among (map shown found) ≡ Some r
    by_first None at e = absurd (true≢false (sym (ap is_some e)))
    by_first (Some f) at e = by_once f (counts_once (meaning_shown f.meaning) (meaning_shown d.meaning)) at refl e
