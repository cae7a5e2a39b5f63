-- Tables of names, and one more name.
use Rattle.std.specs.Prelude.{◌≡◌, ℕ, ◌+◌, Bool, true, false, cond, not, ◌||◌, List, [], ◌∷◌, ◌++◌, Some, None, length, nat_lt, position, bytes_eq, refl}
use Rattle.std.specs.List.{list_any, position_or_len}
use Rattle.std.specs.Cmp.Lexicographic.{nat_list_eq_equiv}
use Rattle.std.proofs.Common.{ap, sym, ◌∙◌, arith}
use Rattle.std.proofs.lemmas.Bool.Decides.{nat_tests}
use Rattle.std.proofs.lemmas.List.{length-map, map-append}
use Rattle.link_model.specs.Appearance.{firsts}
use Rattle.link_model.proofs.Tables.{firsts-push}
use Rattle.name_table.specs.Entries.{is_named, with_entry}
use Rattle.name_table.proofs.Shown.{any-place, after}
use Rattle.seg_parts.specs.Groups.{name_entries}

pub any-entries : (name : List ℕ) (ns : List (List ℕ)) → list_any (is_named {V = Unit {0}} name) (name_entries ns) ≡ list_any (bytes_eq name) ns
any-entries name [] = refl
any-entries name (n ∷ ns) = ap (λ (b : Bool). bytes_eq name n || b) (any-entries name ns)

pub place-entries : (name : List ℕ) (ns : List (List ℕ)) → position_or_len (is_named {V = Unit {0}} name) (name_entries ns) ≡ position_or_len (bytes_eq name) ns
place-entries name [] = refl
place-entries name (n ∷ ns) = ap (λ (m : ℕ). cond (not (bytes_eq name n)) (1 + m) 0) (place-entries name ns)

pub position-entries : (name : List ℕ) (ns : List (List ℕ)) → position (is_named {V = Unit {0}} name) (name_entries ns) ≡ position (bytes_eq name) ns
position-entries name ns =
    ap (λ (n : ℕ). cond (nat_lt n (length (name_entries ns))) (Some n) None) (place-entries name ns)
    ∙ ap (λ (n : ℕ). cond (nat_lt (position_or_len (bytes_eq name) ns) n) (Some (position_or_len (bytes_eq name) ns)) None) (length-map ns (λ (n : List ℕ). (n, tt)))

not_below : (n m : ℕ) → n ≡ m → nat_lt n m ≡ false
not_below n m e = grind (arith, nat_tests)

pub absent : {X : Type 0} (p : X → Bool) (xs : List X) (place : ℕ) → place ≡ position_or_len p xs → place ≡ length xs → list_any p xs ≡ false
absent p xs place at last = any-place p xs ∙ not_below _ _ (sym at ∙ last)

pub present : {X : Type 0} (p : X → Bool) (xs : List X) (place : ℕ) (b : Bool) → list_any p xs ≡ b → place ≡ position_or_len p xs → (place ≡ length xs → ⊥) → list_any p xs ≡ true
present p xs place true is at not_last = is
present p xs place false is at not_last = absurd (not_last (at ∙ sym (after p xs is)))

-- A table of names with its list.
pub record AreNames (ks list : List (List ℕ)) (entries : List (List ℕ × Unit {0})) : Type 0 where
  pub list_is : list ≡ firsts bytes_eq ks
  pub entries_are : entries ≡ name_entries list

module _ (ks list : List (List ℕ)) (entries : List (List ℕ × Unit {0})) (name : List ℕ) (place : ℕ) (old : AreNames ks list entries)
    (at : place ≡ position_or_len (is_named {V = Unit {0}} name) entries) where
  there : list_any (is_named {V = Unit {0}} name) entries ≡ list_any (bytes_eq name) list
  there = ap (list_any (is_named {V = Unit {0}} name)) old.entries_are ∙ any-entries name list

  at_list : place ≡ position_or_len (bytes_eq name) list
  at_list = at ∙ ap (position_or_len (is_named {V = Unit {0}} name)) old.entries_are ∙ place-entries name list

  grown : firsts bytes_eq (ks ++ name ∷ []) ≡ cond (list_any (bytes_eq name) list) list (list ++ name ∷ [])
  grown =
      firsts-push nat_list_eq_equiv ks name
      ∙ ap (λ (t : List (List ℕ)). cond (list_any (bytes_eq name) t) t (t ++ name ∷ [])) (sym old.list_is)

  pub new_name : place ≡ length list → AreNames (ks ++ name ∷ []) (list ++ name ∷ []) (with_entry entries name tt)
  new_name last =
      let none : list_any (bytes_eq name) list ≡ false = absent (bytes_eq name) list place at_list last in
      let one : List ℕ × Unit {0} = (name, tt) in
      record {
        list_is = sym (grown ∙ ap (λ (b : Bool). cond b list (list ++ name ∷ [])) none);
        entries_are =
            ap (λ (b : Bool). cond b entries (entries ++ one ∷ [])) (there ∙ none)
            ∙ ap (λ (t : List (List ℕ × Unit {0})). t ++ one ∷ []) old.entries_are
            ∙ sym (map-append (λ (n : List ℕ). (n, tt)) list (name ∷ []));
      }

  pub old_name : (place ≡ length list → ⊥) → AreNames (ks ++ name ∷ []) list (with_entry entries name tt)
  old_name not_last =
      let some : list_any (bytes_eq name) list ≡ true = present (bytes_eq name) list place (list_any (bytes_eq name) list) refl at_list not_last in
      let one : List ℕ × Unit {0} = (name, tt) in
      record {
        list_is = sym (grown ∙ ap (λ (b : Bool). cond b list (list ++ name ∷ [])) some);
        entries_are = ap (λ (b : Bool). cond b entries (entries ++ one ∷ [])) (there ∙ some) ∙ old.entries_are;
      }

pub same_names : {ks ks2 list list2 : List (List ℕ)} {entries entries2 : List (List ℕ × Unit {0})} → ks2 ≡ ks → list2 ≡ list → entries2 ≡ entries → AreNames ks list entries → AreNames ks2 list2 entries2
same_names e f g old =
    record {
      list_is = f ∙ old.list_is ∙ ap (firsts bytes_eq) (sym e);
      entries_are = g ∙ old.entries_are ∙ ap name_entries (sym f);
    }

mapped_by : (list : List (List ℕ)) (name : List ℕ) (b : Bool) → cond b (name_entries list) (let one : List ℕ × Unit {0} = (name, tt) in name_entries list ++ one ∷ []) ≡ name_entries (cond b list (list ++ name ∷ []))
mapped_by list name true = refl
mapped_by list name false = sym (map-append (λ (n : List ℕ). (n, tt)) list (name ∷ []))

pub entries-push : (ks : List (List ℕ)) (name : List ℕ) → with_entry (name_entries (firsts bytes_eq ks)) name tt ≡ name_entries (firsts bytes_eq (ks ++ name ∷ []))
entries-push ks name =
    let list : List (List ℕ) = firsts bytes_eq ks in
    let one : List ℕ × Unit {0} = (name, tt) in
    ap (λ (b : Bool). cond b (name_entries list) (name_entries list ++ one ∷ [])) (any-entries name list)
    ∙ mapped_by list name (list_any (bytes_eq name) list)
    ∙ ap name_entries (sym (firsts-push nat_list_eq_equiv ks name))
