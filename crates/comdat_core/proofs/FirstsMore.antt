-- The table of the first COMDATs with one more of them.
use Rattle.std.specs.Prelude.{◌≡◌, ℕ, Bool, true, false, cond, ◌||◌, List, [], ◌∷◌, ◌++◌, Option, Some, None, map, find, is_some, bytes_eq, refl}
use Rattle.std.specs.List.{list_any}
use Rattle.std.specs.Option.{option_map, option_or}
use Rattle.std.specs.Cmp.Lexicographic.{nat_list_eq_equiv}
use Rattle.std.proofs.Common.{ap, sym, ◌∙◌, true≢false}
use Rattle.std.proofs.lemmas.List.Folds.{find-append}
use Rattle.std.proofs.lemmas.Slice.Eq.{bytes_eq-Decides}
use Rattle.obj_types.specs.declared.object.Comdat.{Comdat}
use Rattle.link_model.specs.Kept.{is_called}
use Rattle.link_model.specs.Clash.{Owned}
use Rattle.name_table.specs.Entries.{value_named}
use Rattle.sym_table.proofs.LeaderTables.{when, more_entry, map-or, map-when}
use Rattle.comdat_core.specs.declared.taking.Placed.{Placed}
use Rattle.comdat_core.specs.Taking.{placed, first_called, AreFirsts, table_with}

or_held : {X : Type 0} (o : Option X) (b : Bool) (x : X) → (b ≡ true → is_some o ≡ true) → option_or o (cond b (Some x) None) ≡ o
or_held (Some y) b x h = refl
or_held None true x h = absurd (true≢false (sym (h refl)))
or_held None false x h = refl

-- One more item makes no difference where the search finds one already.
find_held : {X : Type 0} (p : X → Bool) (xs : List X) (x : X) → (p x ≡ true → is_some (find p xs) ≡ true) → find p (xs ++ x ∷ []) ≡ find p xs
find_held p xs x h = find-append p xs (x ∷ []) ∙ or_held (find p xs) (p x) x h

firsts_by : (all : List (ℕ × Owned)) (table : List (List ℕ × Placed)) (next : Placed) (o : Option Placed) → value_named next.own.comdat.now.name table ≡ o → AreFirsts all table → AreFirsts (all ++ placed next ∷ []) (table_with o table next)
firsts_by all table next (Some first) is are = λ name.
    are name
    ∙ sym (find_held (λ x. is_called name x.1.comdat) all (placed next)
    (λ e. ap is_some (sym (are name) ∙ ap (λ (n : List ℕ). option_map placed (value_named n table)) ((bytes_eq-Decides name next.own.comdat.now.name).0 e) ∙ ap (option_map placed) is)))
firsts_by all table next None is are = λ name.
    let n = next.own.comdat.now.name in
    ap (option_map placed) (more_entry name n next table)
    ∙ map-or placed (value_named name table) (when (bytes_eq n name) next)
    ∙ ap (λ (o : Option (ℕ × Owned)). option_or o (option_map placed (when (bytes_eq n name) next))) (are name)
    ∙ ap (λ (o : Option (ℕ × Owned)). option_or (first_called name all) o) (map-when placed (bytes_eq n name) next ∙ ap (λ (b : Bool). when b (placed next)) (nat_list_eq_equiv.symm n name))
    ∙ sym (find-append (λ x. is_called name x.1.comdat) all (placed next ∷ []))

pub firsts_more : (all : List (ℕ × Owned)) (table : List (List ℕ × Placed)) (next : Placed) → AreFirsts all table → AreFirsts (all ++ placed next ∷ []) (table_with (value_named next.own.comdat.now.name table) table next)
firsts_more all table next are = firsts_by all table next (value_named next.own.comdat.now.name table) refl are

-- ---- whether a name is there

abbrev pub comdat_in : ℕ × Owned → Comdat
comdat_in x = x.1.comdat

any_first : (name : List ℕ) (all : List (ℕ × Owned)) → list_any (is_called name) (map comdat_in all) ≡ is_some (first_called name all)
any_first name [] = refl
any_first name (x ∷ xs) = by (is_called name x.1.comdat) (list_any (is_called name) (map comdat_in xs)) (first_called name xs) (any_first name xs)
  where
    by : (b c : Bool) (o : Option (ℕ × Owned)) → c ≡ is_some o → (b || c) ≡ is_some (cond b (Some x) o)
    by true c o e = refl
    by false c o e = e

mapped_some : {X Y : Type 0} (f : X → Y) (o : Option X) → is_some (option_map f o) ≡ is_some o
mapped_some f None = refl
mapped_some f (Some x) = refl

pub is_there : (all : List (ℕ × Owned)) (table : List (List ℕ × Placed)) (name : List ℕ) → AreFirsts all table → list_any (is_called name) (map comdat_in all) ≡ is_some (value_named name table)
is_there all table name are = any_first name all ∙ ap is_some (sym (are name)) ∙ mapped_some placed (value_named name table)
