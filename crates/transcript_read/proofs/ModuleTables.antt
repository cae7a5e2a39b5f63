-- A table of names with one name more.
use Rattle.std.proofs.Common.{◌≡◌, ℕ, suc, ◌+◌, ◌<◌, ◌≤◌, ◌⊎◌, inl, inr, Bool, true, false, cond, List, [], ◌∷◌, ◌++◌, Option, Some, None, refl, sym, ◌∙◌, ap, arith}
use Rattle.std.specs.Prelude.{bytes_eq, ◌||◌}
use Rattle.std.specs.List.{find, list_any}
use Rattle.std.specs.Option.{option_map, option_or}
use Rattle.std.proofs.Math.Nat.{le-suc_iff}
use Rattle.std.proofs.lemmas.List.Folds.{find-append}
use Rattle.std.proofs.lemmas.Slice.Eq.{bytes_eq-Decides}
use Rattle.name_table.specs.Entries.{is_named, value_named, with_entry}
use Rattle.load_model.specs.Modules.{Library}
use Rattle.session_model.specs.Transcript.{module_text}
use Rattle.check_model.specs.Told.{IsModuleOf}
use Rattle.dump_model.specs.Words.{Tells}
use Rattle.transcript_read.specs.Modules.{NamesSome, NamesAll}

value_longer : (word name : List ℕ) (n : ℕ) (table : List (List ℕ × ℕ)) →
    value_named word (table ++ (name, n) ∷ []) ≡ option_or (value_named word table) (cond (bytes_eq word name) (Some n) None)
value_longer word name n table =
    ap (λ (o : Option (List ℕ × ℕ)). option_map (λ (e : List ℕ × ℕ). e.1) o) (find-append (is_named word) table ((name, n) ∷ [])) ∙ by (find (is_named word) table) (bytes_eq word name)
  where
    by : (o : Option (List ℕ × ℕ)) (b : Bool) →
        option_map (λ (e : List ℕ × ℕ). e.1) (option_or o (cond b (Some (name, n)) None)) ≡ option_or (option_map (λ (e : List ℕ × ℕ). e.1) o) (cond b (Some n) None)
    by (Some e) b = refl
    by None true = refl
    by None false = refl

named_there : (word : List ℕ) (table : List (List ℕ × ℕ)) → list_any (is_named word) table ≡ true → value_named word table ≡ None → ⊥
named_there word [] h none = absurd (cc (h))
named_there word (e ∷ table) h none = by (bytes_eq word e.0) h none (named_there word table)
  where
    by : (b : Bool) → b || list_any (is_named word) table ≡ true → option_map (λ (e : List ℕ × ℕ). e.1) (cond b (Some e) (find (is_named word) table)) ≡ None
        → (list_any (is_named word) table ≡ true → value_named word table ≡ None → ⊥) → ⊥
    by true h none again = absurd (cc (none))
    by false h none again = again h none

pub names_none : (text : ℕ → List ℕ) (all : ℕ) → NamesSome text all 0 []
names_none text all = record { named = λ word m is. absurd (cc (is)); none = λ word _ m lt _. omega (arith, lt) }

last_or : (m n : ℕ) → m < n + 1 → (m < n) ⊎ (m ≡ n)
last_or m n lt = by ((le-suc_iff {m = suc m} {n = n}).0 (omega arith))
  where
    by : (suc m ≤ n) ⊎ (suc m ≡ suc n) → (m < n) ⊎ (m ≡ n)
    by (inl less) = inl less
    by (inr same) = inr (omega (arith, same))

pub names_more : (text : ℕ → List ℕ) (all n : ℕ) (name : List ℕ) (table : List (List ℕ × ℕ)) → n < all → name ≡ text n → NamesSome text all n table
    → NamesSome text all (n + 1) (with_entry table name n)
names_more text all n name table lt is so_far = by (list_any (is_named name) table) refl
  where
    by : (b : Bool) → list_any (is_named name) table ≡ b → NamesSome text all (n + 1) (cond b table (table ++ (name, n) ∷ []))
    by true there = record {
      named = so_far.named;
      none = λ word none m less row. by_last word none m row (last_or m n less);
    }
      where
        by_last : (word : List ℕ) → value_named word table ≡ None → (m : ℕ) → word ≡ text m → (m < n) ⊎ (m ≡ n) → ⊥
        by_last word none m row (inl less) = so_far.none word none m less row
        by_last word none m row (inr last) =
            let same : word ≡ name = row ∙ ap text last ∙ sym is in
            named_there name table there (ap (λ w. value_named w table) (sym same) ∙ none)
    by false there = record {
      named = λ word m found. by_found word m (value_named word table) refl (bytes_eq word name) refl (sym (value_longer word name n table) ∙ found);
      none = λ word none m less row. by_none word m row (value_named word table) refl (bytes_eq word name) refl (sym (value_longer word name n table) ∙ none) (last_or m n less);
    }
      where
        by_found : (word : List ℕ) (m : ℕ) (o : Option ℕ) → value_named word table ≡ o → (b : Bool) → bytes_eq word name ≡ b → option_or o (cond b (Some n) None) ≡ Some m
            → (m < all) × (word ≡ text m)
        by_found word m (Some k) o_is b b_is found = so_far.named word m (o_is ∙ found)
        by_found word m None o_is true b_is found =
            let same : n ≡ m = cc (found) in
            (omega (arith, same, lt), (bytes_eq-Decides word name).0 b_is ∙ is ∙ ap text same)
        by_found word m None o_is false b_is found = absurd (cc (found))

        by_none : (word : List ℕ) (m : ℕ) → word ≡ text m → (o : Option ℕ) → value_named word table ≡ o → (b : Bool) → bytes_eq word name ≡ b
            → option_or o (cond b (Some n) None) ≡ None → (m < n) ⊎ (m ≡ n) → ⊥
        by_none word m row (Some k) o_is b b_is none last = absurd (cc (none))
        by_none word m row None o_is b b_is none (inl less) = so_far.none word o_is m less row
        by_none word m row None o_is true b_is none (inr last) = absurd (cc (none))
        by_none word m row None o_is false b_is none (inr last) =
            let same : bytes_eq word name ≡ true = (bytes_eq-Decides word name).1 (row ∙ ap text last ∙ sym is) in
            absurd (cc (b_is, same))

-- what a table says of a word
pub named_told : (lib : Library) (table : List (List ℕ × ℕ)) (word : List ℕ) (told : Option ℕ) → NamesAll lib table → told ≡ value_named word table
    → Tells (module_text lib) (IsModuleOf lib) told word
named_told lib table word (Some m) all is = all.named word m (sym is)
named_told lib table word None all is = λ m lt row. all.none word (sym is) m lt row
