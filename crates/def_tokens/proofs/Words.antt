-- The words of the statements in one table.
use Rattle.std.specs.Prelude.{◌≡◌, ◌≢◌, ℕ, ◌==◌, Bool, true, false, cond, List, [], ◌∷◌, ◌++◌, length, map, filter, Option, Some, option_map, refl}
use Rattle.std.specs.Borrow.{Bor}
use Rattle.std.specs.Char.{to_ascii_lowercase}
use Rattle.std.specs.List.{find}
use Rattle.std.proofs.Common.{ap, ◌∙◌, sym}
use Rattle.std.proofs.lemmas.Bool.{ne_eqb}
use Rattle.std.proofs.lemmas.Bool.Decides.{Decides-eqb}
use Rattle.std.proofs.lemmas.List.{length-map}
use Rattle.std.proofs.lemmas.Slice.Eq.{bytes_eq-Decides}
use Rattle.def_model.specs.declared.keyword.Keyword.{Keyword}
use Rattle.def_tokens.specs.WordLengths.{reserved_words, words_of_len}
use Rattle.def_model.specs.Keywords.{keyword_among, keyword_of, first_of, same_letters, statement_words, other_words, attribute_words, idle_words}

first_by : (b : Bool) (e : List ℕ × Keyword) (all one : Option (List ℕ × Keyword)) (two : Option Keyword) →
    option_map (λ (e : List ℕ × Keyword). e.1) all ≡ first_of (option_map (λ (e : List ℕ × Keyword). e.1) one) two →
    option_map (λ (e : List ℕ × Keyword). e.1) (cond b (Some e) all) ≡ first_of (option_map (λ (e : List ℕ × Keyword). e.1) (cond b (Some e) one)) two
first_by true e all one two rest = refl
first_by false e all one two rest = rest

-- The keyword of a word in two tables.
among-append : (es fs : List (List ℕ × Keyword)) (word : List ℕ) → keyword_among (es ++ fs) word ≡ first_of (keyword_among es word) (keyword_among fs word)
among-append [] fs word = refl
among-append (e ∷ es) fs word =
    first_by (same_letters e.0 word) e (find (λ (q : List ℕ × Keyword). same_letters q.0 word) (es ++ fs)) (find (λ (q : List ℕ × Keyword). same_letters q.0 word) es) (keyword_among fs word)
    (among-append es fs word)

shown_by : (b : Bool) (e : Bor (List ℕ) × Keyword) (found : Option (Bor (List ℕ) × Keyword)) (shown : Option (List ℕ × Keyword)) →
    option_map (λ (e : Bor (List ℕ) × Keyword). e.1) found ≡ option_map (λ (e : List ℕ × Keyword). e.1) shown →
    option_map (λ (e : Bor (List ℕ) × Keyword). e.1) (cond b (Some e) found) ≡ option_map (λ (e : List ℕ × Keyword). e.1) (cond b (Some (e.0.now, e.1)) shown)
shown_by true e found shown rest = refl
shown_by false e found shown rest = rest

-- The keyword of the entry that is found.
pub among-shown : (entries : List (Bor (List ℕ) × Keyword)) (word : List ℕ) →
    option_map (λ (e : Bor (List ℕ) × Keyword). e.1) (find (λ e. same_letters e.0.now word) entries) ≡ keyword_among (map (λ (e : Bor (List ℕ) × Keyword). (e.0.now, e.1)) entries) word
among-shown [] word = refl
among-shown (e ∷ es) word =
    shown_by (same_letters e.0.now word) e (find (λ (q : Bor (List ℕ) × Keyword). same_letters q.0.now word) es)
    (find (λ (q : List ℕ × Keyword). same_letters q.0 word) (map (λ (q : Bor (List ℕ) × Keyword). (q.0.now, q.1)) es)) (among-shown es word)

-- Words with the same letters are as long as each other.
as_long : (a b : List ℕ) → same_letters a b ≡ true → (length a == length b) ≡ true
as_long a b same =
    (Decides-eqb (length a) (length b)).1
    (sym (length-map a to_ascii_lowercase) ∙ ap (λ (bytes : List ℕ). length bytes) ((bytes_eq-Decides (map to_ascii_lowercase a) (map to_ascii_lowercase b)).0 same) ∙ length-map b to_ascii_lowercase)

-- a word that is looked for is not among those of another length
passed_by : (same long : Bool) (e : List ℕ × Keyword) (kept all : Option (List ℕ × Keyword)) → (same ≡ true → long ≡ true) →
    option_map (λ (e : List ℕ × Keyword). e.1) kept ≡ option_map (λ (e : List ℕ × Keyword). e.1) all → (short : Option (List ℕ × Keyword)) →
    short ≡ cond long (cond same (Some e) kept) kept →
    option_map (λ (e : List ℕ × Keyword). e.1) short ≡ option_map (λ (e : List ℕ × Keyword). e.1) (cond same (Some e) all)
passed_by true true e kept all long rest short is = ap (option_map (λ (e : List ℕ × Keyword). e.1)) is
passed_by true false e kept all long rest short is = let no : false ≡ true = long refl in cc
passed_by false true e kept all long rest short is = ap (option_map (λ (e : List ℕ × Keyword). e.1)) is ∙ rest
passed_by false false e kept all long rest short is = ap (option_map (λ (e : List ℕ × Keyword). e.1)) is ∙ rest

find_if : (p : List ℕ × Keyword → Bool) (long : Bool) (e : List ℕ × Keyword) (es : List (List ℕ × Keyword)) →
    find p (cond long (e ∷ es) es) ≡ cond long (cond (p e) (Some e) (find p es)) (find p es)
find_if p true e es = refl
find_if p false e es = refl

-- The keyword of a word among those of its length.
among-as_long : (es : List (List ℕ × Keyword)) (word : List ℕ) → keyword_among (filter (λ e. length e.0 == length word) es) word ≡ keyword_among es word
among-as_long [] word = refl
among-as_long (e ∷ es) word =
    let long : List (List ℕ × Keyword) = filter (λ q. length q.0 == length word) es in
    passed_by (same_letters e.0 word) (length e.0 == length word) e (find (λ q. same_letters q.0 word) long) (find (λ q. same_letters q.0 word) es) (as_long e.0 word)
    (among-as_long es word) _ (find_if (λ q. same_letters q.0 word) (length e.0 == length word) e long)

-- The keyword of a word in all tables.
of-words : (word : List ℕ) → keyword_among reserved_words word ≡ keyword_of word
of-words word =
    among-append statement_words (other_words ++ (attribute_words ++ idle_words)) word
    ∙ ap (first_of (keyword_among statement_words word))
    (among-append other_words (attribute_words ++ idle_words) word ∙ ap (first_of (keyword_among other_words word)) (among-append attribute_words idle_words word))

-- The keyword of a word among the reserved words of its length.
pub of-len : (word : List ℕ) → keyword_among (words_of_len (length word)) word ≡ keyword_of word
unfolding words_of_len
of-len word = among-as_long reserved_words word ∙ of-words word

-- No reserved word has another length.
pub no-such-len : (n : ℕ) → n ≢ 3 → n ≢ 4 → n ≢ 5 → n ≢ 6 → n ≢ 7 → n ≢ 8 → n ≢ 9 → n ≢ 10 → n ≢ 11 → n ≢ 12 → n ≢ 13 → n ≢ 14 → n ≢ 15 → words_of_len n ≡ []
unfolding words_of_len
no-such-len n h3 h4 h5 h6 h7 h8 h9 h10 h11 h12 h13 h14 h15 =
    rw (ne_eqb 3 n (λ e. h3 (sym e)), ne_eqb 4 n (λ e. h4 (sym e)), ne_eqb 5 n (λ e. h5 (sym e)), ne_eqb 6 n (λ e. h6 (sym e)), ne_eqb 7 n (λ e. h7 (sym e)), ne_eqb 8 n (λ e. h8 (sym e)), ne_eqb 9 n (λ e. h9 (sym e)), ne_eqb 10 n (λ e. h10 (sym e)), ne_eqb 11 n (λ e. h11 (sym e)), ne_eqb 12 n (λ e. h12 (sym e)), ne_eqb 13 n (λ e. h13 (sym e)), ne_eqb 14 n (λ e. h14 (sym e)), ne_eqb 15 n (λ e. h15 (sym e))) refl
