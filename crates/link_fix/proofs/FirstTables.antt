-- Names that are pushed, each once.
use Rattle.std.specs.Prelude.{◌≡◌, ℕ, suc, ◌+◌, Bool, true, false, cond, not, ◌||◌, List, [], ◌∷◌, ◌++◌, Some, None, map, length, bytes_eq, nat_lt, is_some, refl}
use Rattle.std.specs.List.{list_any, position, position_or_len}
use Rattle.std.specs.Cmp.Lexicographic.{nat_list_eq_equiv}
use Rattle.std.proofs.Common.{ap, sym, ◌∙◌, arith}
use Rattle.std.proofs.lemmas.Bool.Decides.{nat_tests}
use Rattle.std.proofs.lemmas.List.{length-map, map-append}
use Rattle.lx_types.proofs.Bools.{some_by}
use Rattle.name_table.specs.Entries.{is_named, with_entry}
use Rattle.link_model.specs.Appearance.{firsts}
use Rattle.link_model.proofs.Tables.{firsts-push}

abbrev pub Named : Type 0
Named = List ℕ × Unit {0}

abbrev pub named : List ℕ → Named
named n = (n, tt)

place-named : (name : List ℕ) (names : List (List ℕ)) → position_or_len (is_named {V = Unit {0}} name) (map named names) ≡ position_or_len (bytes_eq name) names
place-named name [] = refl
place-named name (n ∷ ns) = ap (λ (k : ℕ). cond (not (bytes_eq name n)) (1 + k) 0) (place-named name ns)

pub position-named : (name : List ℕ) (names : List (List ℕ)) → position (is_named {V = Unit {0}} name) (map named names) ≡ position (bytes_eq name) names
position-named name names =
    ap (λ (n : ℕ). cond (nat_lt n (length (map named names))) (Some n) None) (place-named name names)
    ∙ ap (λ (n : ℕ). cond (nat_lt (position_or_len (bytes_eq name) names) n) (Some (position_or_len (bytes_eq name) names)) None) (length-map names named)

any-named : (name : List ℕ) (names : List (List ℕ)) → list_any (is_named {V = Unit {0}} name) (map named names) ≡ list_any (bytes_eq name) names
any-named name [] = refl
any-named name (n ∷ ns) = ap (λ (b : Bool). bytes_eq name n || b) (any-named name ns)

less_by : (b c : Bool) (k n : ℕ) → c ≡ nat_lt k n → (b || c) ≡ nat_lt (cond (not b) (1 + k) 0) (suc n)
less_by true c k n e = grind (arith, nat_tests)
less_by false c k n e = e ∙ grind (arith, nat_tests)

any-less : (test : List ℕ → Bool) (names : List (List ℕ)) → list_any test names ≡ nat_lt (position_or_len test names) (length names)
any-less test [] = refl
any-less test (n ∷ ns) = less_by (test n) (list_any test ns) (position_or_len test ns) (length ns) (any-less test ns)

pub some-position : (test : List ℕ → Bool) (names : List (List ℕ)) → is_some (position test names) ≡ list_any test names
some-position test names = some_by (nat_lt (position_or_len test names) (length names)) (position_or_len test names) ∙ sym (any-less test names)

-- A name that is not there goes last.
pub names-new : (pushed : List (List ℕ)) (name : List ℕ) → list_any (bytes_eq name) (firsts bytes_eq pushed) ≡ false → firsts bytes_eq pushed ++ name ∷ [] ≡ firsts bytes_eq (pushed ++ name ∷ [])
names-new pushed name e =
    sym (firsts-push nat_list_eq_equiv pushed name ∙ ap (λ (b : Bool). cond b (firsts bytes_eq pushed) (firsts bytes_eq pushed ++ name ∷ [])) e)

pub names-old : (pushed : List (List ℕ)) (name : List ℕ) → list_any (bytes_eq name) (firsts bytes_eq pushed) ≡ true → firsts bytes_eq pushed ≡ firsts bytes_eq (pushed ++ name ∷ [])
names-old pushed name e =
    sym (firsts-push nat_list_eq_equiv pushed name ∙ ap (λ (b : Bool). cond b (firsts bytes_eq pushed) (firsts bytes_eq pushed ++ name ∷ [])) e)

pub places-new : (fs : List (List ℕ)) (name : List ℕ) → list_any (bytes_eq name) fs ≡ false → with_entry (map named fs) name tt ≡ map named (fs ++ name ∷ [])
places-new fs name e =
    ap (λ (b : Bool). cond b (map named fs) (map named fs ++ named name ∷ [])) (any-named name fs ∙ e) ∙ sym (map-append named fs (name ∷ []))
