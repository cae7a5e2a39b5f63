-- A file has one first fault.
use Rattle.std.proofs.Common.{◌≡◌, ℕ, ◌<◌, List, [], ◌∷◌, ◌++◌, length, Result, Ok, Err, refl, ap, sym, subst, ◌∙◌, true, false, inl, inr, append_assoc, append-nil, arith}
use Rattle.std.specs.Prelude.{Some, None, is_some}
use Rattle.obj_types.specs.declared.definition.DefFile.{DefFile}
use Rattle.def_model.specs.declared.keyword.Keyword.{Keyword}
use Rattle.def_model.specs.declared.keyword.Keyword.TheVariants as kw
use Rattle.def_model.specs.Lexemes.{Lexeme, number, text, word, keyword, stray, is_stray, name_of_lexeme, number_of_lexeme}
use Rattle.def_model.specs.Tokens.{Placed, tokens_of}
use Rattle.def_model.specs.declared.refusal.DefKind.{DefKind}
use Rattle.def_model.specs.declared.refusal.DefKind.TheVariants as kinds
use Rattle.def_model.specs.declared.refusal.DefRefusal.{DefRefusal}
use Rattle.def_model.specs.Reading.{read_of}
use Rattle.def_grammar.specs.Rules.{stands, counts_as}
use Rattle.def_grammar.specs.Statements.{Statement}
use Rattle.std.specs.List.{list_any}
use Rattle.std.proofs.lemmas.Bool.{both_ways}
use Rattle.def_grammar.specs.Sentences.{Sentence, bare}
use Rattle.def_grammar.specs.Faults.{Begins, MayStand, AnotherMay, NoneMay, StandsAlready, HasBytes, IsCause, IsFirstFault, is_head, begins_statement, is_pair_word}
use Rattle.def_grammar.specs.Laws.{FirstAreFaults}
use Rattle.def_grammar.proofs.Faults.{faults_first, one_more}
use Rattle.def_grammar.proofs.ReadGrammatical.{read_grammatical}

-- ---- one cause

none_or_another : (before : List Lexeme) (t : Lexeme) → NoneMay before t → AnotherMay before t → ⊥
none_or_another before t none a = none a.value a.may

sound : (t : Lexeme) → t ≡ stray → is_stray t ≡ false → ⊥
sound t h k = let yes : is_stray t ≡ true = ap is_stray h in cc

none_counts : (ss : List Statement) → list_any (counts_as None) ss ≡ true → ⊥
none_counts [] h = absurd cc
none_counts (s ∷ ss) h = none_counts ss h

head_of : (k : Keyword) (ss : List Statement) → stands k ss ≡ true → is_head k ≡ true
head_of kw.Name ss h = refl
head_of kw.Library ss h = refl
head_of kw.Description ss h = refl
head_of kw.Code ss h = refl
head_of kw.Data ss h = refl
head_of kw.StackSize ss h = refl
head_of kw.HeapSize ss h = refl
head_of kw.Base ss h = refl
head_of k ss h = absurd (none_counts ss h)

begins : (before : List Lexeme) (t : Lexeme) → StandsAlready before t → begins_statement t ≡ true
begins before t h = ap begins_statement h.is ∙ head_of h.begun h.statements h.again

-- A token is of one sort.
abbrev sort : Lexeme → ℕ
sort (number value) = 1
sort (text bytes) = 2
sort (word bytes) = 2
sort (keyword (kw.Attribute pair on)) = 3
sort (keyword (kw.Init each)) = 3
sort (keyword (kw.Term each)) = 3
sort (keyword k) = 4
sort stray = 5
sort t = 6

of_number : (t : Lexeme) → is_some (number_of_lexeme t) ≡ true → sort t ≡ 1
of_number (number value) h = refl
of_number t h = absurd cc

of_name : (t : Lexeme) (bytes : List ℕ) → name_of_lexeme t ≡ Some bytes → sort t ≡ 2
of_name (text b) bytes h = refl
of_name (word b) bytes h = refl
of_name t bytes h = absurd cc

of_pair : (t : Lexeme) → is_pair_word t ≡ true → sort t ≡ 3
of_pair (keyword (kw.Attribute pair on)) h = refl
of_pair (keyword (kw.Init each)) h = refl
of_pair (keyword (kw.Term each)) h = refl
of_pair t h = absurd cc

of_head : (t : Lexeme) → begins_statement t ≡ true → sort t ≡ 4
of_head (keyword (kw.Attribute pair on)) h = absurd cc
of_head (keyword (kw.Init each)) h = absurd cc
of_head (keyword (kw.Term each)) h = absurd cc
of_head (keyword k) h = refl
of_head t h = absurd cc

apart : (t : Lexeme) (m n : ℕ) → sort t ≡ m → sort t ≡ n → (m ≡ n → ⊥) → ⊥
apart t m n h k other = other (sym h ∙ k)

empty_or_long : (t : Lexeme) → HasBytes t (λ bytes. bytes ≡ []) → HasBytes t (λ bytes. 255 < length bytes) → ⊥
empty_or_long t h k =
    let same : Some h.bytes ≡ Some k.bytes = sym h.is ∙ k.is in
    let bytes : h.bytes ≡ k.bytes = cc in
    let none : length k.bytes ≡ 0 = ap length (sym bytes ∙ h.holds) in
    let more = k.holds in
    omega (arith, none, more)

-- Of two kinds, the one that is written first is tried first; no token has both.
abbrev Two : DefKind → DefKind → Type 0
Two j k = (before : List Lexeme) (t : Lexeme) → IsCause before t j → IsCause before t k → ⊥

token_number : Two kinds.Token kinds.Number
token_number before t h k = apart t 5 1 (ap sort h) (of_number t k.0) (λ e. absurd (omega (arith, e)))

token_conflict : Two kinds.Token kinds.Conflict
token_conflict before t h k = apart t 5 3 (ap sort h) (of_pair t k.0) (λ e. absurd (omega (arith, e)))

token_twice : Two kinds.Token kinds.Twice
token_twice before t h k = apart t 5 4 (ap sort h) (of_head t (begins before t k.1)) (λ e. absurd (omega (arith, e)))

token_long : Two kinds.Token kinds.TooLong
token_long before t h k = let own = k.0 in apart t 5 2 (ap sort h) (of_name t own.bytes own.is) (λ e. absurd (omega (arith, e)))

statement_expected : Two kinds.Statement kinds.Expected
statement_expected before t h k = elim (k.1) [ inl a ↦ a.0 h.0 | inr b ↦ none_or_another before t h.2 b.1 ]

statement_twice : Two kinds.Statement kinds.Twice
statement_twice before t h k = both_ways (begins_statement t) h.1 (begins before t k.1)

expected_number : Two kinds.Expected kinds.Number
expected_number before t h k =
    elim (h.1) [ inl a ↦ none_or_another before t a.1 k.1 | inr b ↦ let own = b.0 in apart t 2 1 (of_name t own.bytes own.is) (of_number t k.0) (λ e. absurd (omega (arith, e))) ]

expected_conflict : Two kinds.Expected kinds.Conflict
expected_conflict before t h k =
    elim (h.1) [ inl a ↦ none_or_another before t a.1 k.1 | inr b ↦ let own = b.0 in apart t 2 3 (of_name t own.bytes own.is) (of_pair t k.0) (λ e. absurd (omega (arith, e))) ]

expected_twice : Two kinds.Expected kinds.Twice
expected_twice before t h k = elim (h.1) [ inl a ↦ a.0 k.0 | inr b ↦ let own = b.0 in apart t 2 4 (of_name t own.bytes own.is) (of_head t (begins before t k.1)) (λ e. absurd (omega (arith, e))) ]

expected_long : Two kinds.Expected kinds.TooLong
expected_long before t h k = elim (h.1) [ inl a ↦ none_or_another before t a.1 k.1 | inr b ↦ empty_or_long t b.0 k.0 ]

number_conflict : Two kinds.Number kinds.Conflict
number_conflict before t h k = apart t 1 3 (of_number t h.0) (of_pair t k.0) (λ e. absurd (omega (arith, e)))

number_twice : Two kinds.Number kinds.Twice
number_twice before t h k = apart t 1 4 (of_number t h.0) (of_head t (begins before t k.1)) (λ e. absurd (omega (arith, e)))

number_long : Two kinds.Number kinds.TooLong
number_long before t h k = let own = k.0 in apart t 1 2 (of_number t h.0) (of_name t own.bytes own.is) (λ e. absurd (omega (arith, e)))

conflict_twice : Two kinds.Conflict kinds.Twice
conflict_twice before t h k = apart t 3 4 (of_pair t h.0) (of_head t (begins before t k.1)) (λ e. absurd (omega (arith, e)))

conflict_long : Two kinds.Conflict kinds.TooLong
conflict_long before t h k = let own = k.0 in apart t 3 2 (of_pair t h.0) (of_name t own.bytes own.is) (λ e. absurd (omega (arith, e)))

twice_long : Two kinds.Twice kinds.TooLong
twice_long before t h k = let own = k.0 in apart t 4 2 (of_head t (begins before t h.1)) (of_name t own.bytes own.is) (λ e. absurd (omega (arith, e)))

cause_once : (before : List Lexeme) (t : Lexeme) (j k : DefKind) → IsCause before t j → IsCause before t k → j ≡ k
cause_once before t kinds.Token kinds.Token h k = refl
cause_once before t kinds.Token kinds.Statement h k = absurd (sound t h k.3)
cause_once before t kinds.Token kinds.Expected h k = absurd (sound t h k.0)
cause_once before t kinds.Token kinds.Number h k = absurd (token_number before t h k)
cause_once before t kinds.Token kinds.Conflict h k = absurd (token_conflict before t h k)
cause_once before t kinds.Token kinds.Twice h k = absurd (token_twice before t h k)
cause_once before t kinds.Token kinds.TooLong h k = absurd (token_long before t h k)
cause_once before t kinds.Statement kinds.Token h k = absurd (sound t k h.3)
cause_once before t kinds.Statement kinds.Statement h k = refl
cause_once before t kinds.Statement kinds.Expected h k = absurd (statement_expected before t h k)
cause_once before t kinds.Statement kinds.Number h k = absurd (none_or_another before t h.2 k.1)
cause_once before t kinds.Statement kinds.Conflict h k = absurd (none_or_another before t h.2 k.1)
cause_once before t kinds.Statement kinds.Twice h k = absurd (statement_twice before t h k)
cause_once before t kinds.Statement kinds.TooLong h k = absurd (none_or_another before t h.2 k.1)
cause_once before t kinds.Expected kinds.Token h k = absurd (sound t k h.0)
cause_once before t kinds.Expected kinds.Statement h k = absurd (statement_expected before t k h)
cause_once before t kinds.Expected kinds.Expected h k = refl
cause_once before t kinds.Expected kinds.Number h k = absurd (expected_number before t h k)
cause_once before t kinds.Expected kinds.Conflict h k = absurd (expected_conflict before t h k)
cause_once before t kinds.Expected kinds.Twice h k = absurd (expected_twice before t h k)
cause_once before t kinds.Expected kinds.TooLong h k = absurd (expected_long before t h k)
cause_once before t kinds.Number kinds.Token h k = absurd (token_number before t k h)
cause_once before t kinds.Number kinds.Statement h k = absurd (none_or_another before t k.2 h.1)
cause_once before t kinds.Number kinds.Expected h k = absurd (expected_number before t k h)
cause_once before t kinds.Number kinds.Number h k = refl
cause_once before t kinds.Number kinds.Conflict h k = absurd (number_conflict before t h k)
cause_once before t kinds.Number kinds.Twice h k = absurd (number_twice before t h k)
cause_once before t kinds.Number kinds.TooLong h k = absurd (number_long before t h k)
cause_once before t kinds.Conflict kinds.Token h k = absurd (token_conflict before t k h)
cause_once before t kinds.Conflict kinds.Statement h k = absurd (none_or_another before t k.2 h.1)
cause_once before t kinds.Conflict kinds.Expected h k = absurd (expected_conflict before t k h)
cause_once before t kinds.Conflict kinds.Number h k = absurd (number_conflict before t k h)
cause_once before t kinds.Conflict kinds.Conflict h k = refl
cause_once before t kinds.Conflict kinds.Twice h k = absurd (conflict_twice before t h k)
cause_once before t kinds.Conflict kinds.TooLong h k = absurd (conflict_long before t h k)
cause_once before t kinds.Twice kinds.Token h k = absurd (token_twice before t k h)
cause_once before t kinds.Twice kinds.Statement h k = absurd (statement_twice before t k h)
cause_once before t kinds.Twice kinds.Expected h k = absurd (expected_twice before t k h)
cause_once before t kinds.Twice kinds.Number h k = absurd (number_twice before t k h)
cause_once before t kinds.Twice kinds.Conflict h k = absurd (conflict_twice before t k h)
cause_once before t kinds.Twice kinds.Twice h k = refl
cause_once before t kinds.Twice kinds.TooLong h k = absurd (twice_long before t h k)
cause_once before t kinds.TooLong kinds.Token h k = absurd (token_long before t k h)
cause_once before t kinds.TooLong kinds.Statement h k = absurd (none_or_another before t k.2 h.1)
cause_once before t kinds.TooLong kinds.Expected h k = absurd (expected_long before t k h)
cause_once before t kinds.TooLong kinds.Number h k = absurd (number_long before t k h)
cause_once before t kinds.TooLong kinds.Conflict h k = absurd (conflict_long before t k h)
cause_once before t kinds.TooLong kinds.Twice h k = absurd (twice_long before t k h)
cause_once before t kinds.TooLong kinds.TooLong h k = refl

-- ---- one place

first_same : (x y : Placed) (xs ys : List Placed) → x ∷ xs ≡ y ∷ ys → x ≡ y
first_same x y xs ys h = cc

rest_same : (x y : Placed) (xs ys : List Placed) → x ∷ xs ≡ y ∷ ys → xs ≡ ys
rest_same x y xs ys h = cc

bare_both : (before : List Placed) (t : Placed) (after : List Placed) → bare (before ++ t ∷ after) ≡ bare before ++ t.lexeme ∷ bare after
bare_both [] t after = refl
bare_both (x ∷ before) t after = ap (λ xs. x.lexeme ∷ xs) (bare_both before t after)

-- What begins a file with more begins one.
fewer : (tokens more : List Lexeme) → Begins (tokens ++ more) → Begins tokens
fewer tokens more h =
    record { rest = more ++ h.rest; value = h.value; sentence = subst (λ (xs : List Lexeme). Sentence xs h.value) (append_assoc tokens more h.rest) h.sentence }

pub record SamePlace (p q : List Placed) (t u : Placed) : Type 0 where
  pub before : p ≡ q
  pub here : t ≡ u

-- After the same tokens c.
place_once : (c : List Lexeme) (p q : List Placed) (t u : Placed) (ps qs : List Placed) → p ++ t ∷ ps ≡ q ++ u ∷ qs
    → Begins (c ++ bare p) → Begins (c ++ bare q) → (MayStand (c ++ bare p) t.lexeme → ⊥) → (MayStand (c ++ bare q) u.lexeme → ⊥) → SamePlace p q t u
place_once c [] [] t u ps qs same bp bq sp sq = record { before = refl; here = first_same t u ps qs same }
place_once c [] (x ∷ q) t u ps qs same bp bq sp sq =
    let here : t ≡ x = first_same t x ps (q ++ u ∷ qs) same in
    absurd (sp (subst (λ (y : Placed). MayStand (c ++ []) y.lexeme) (sym here)
    (subst (λ (ys : List Lexeme). Begins (ys ++ x.lexeme ∷ [])) (sym (append-nil c))
    (fewer (c ++ x.lexeme ∷ []) (bare q) (subst Begins (sym (one_more c x.lexeme (bare q))) bq)))))
place_once c (x ∷ p) [] t u ps qs same bp bq sp sq =
    let here : x ≡ u = first_same x u (p ++ t ∷ ps) qs same in
    absurd (sq (subst (λ (y : Placed). MayStand (c ++ []) y.lexeme) here
    (subst (λ (ys : List Lexeme). Begins (ys ++ x.lexeme ∷ [])) (sym (append-nil c))
    (fewer (c ++ x.lexeme ∷ []) (bare p) (subst Begins (sym (one_more c x.lexeme (bare p))) bp)))))
place_once c (x ∷ p) (y ∷ q) t u ps qs same bp bq sp sq =
    let here : x ≡ y = first_same x y (p ++ t ∷ ps) (q ++ u ∷ qs) same in
    let more : p ++ t ∷ ps ≡ q ++ u ∷ qs = rest_same x y (p ++ t ∷ ps) (q ++ u ∷ qs) same in
    let turned : (zs : List Placed) → (c ++ x.lexeme ∷ []) ++ bare zs ≡ c ++ x.lexeme ∷ bare zs = λ zs. one_more c x.lexeme (bare zs) in
    let other : c ++ y.lexeme ∷ bare q ≡ (c ++ x.lexeme ∷ []) ++ bare q = ap (λ (z : Placed). c ++ z.lexeme ∷ bare q) (sym here) ∙ sym (turned q) in
    let found = place_once (c ++ x.lexeme ∷ []) p q t u ps qs more (subst Begins (sym (turned p)) bp) (subst Begins other bq)
    (λ m. sp (subst (λ (ys : List Lexeme). MayStand ys t.lexeme) (turned p) m))
    (λ m. sq (subst (λ (ys : List Lexeme). MayStand ys u.lexeme) (sym other) m)) in
    record { before = ap (λ (z : Placed). z ∷ p) here ∙ ap (λ (zs : List Placed). y ∷ zs) found.before; here = found.here }

pub fault_once : (tokens : List Placed) (f g : DefRefusal) → IsFirstFault tokens f → IsFirstFault tokens g → f ≡ g
fault_once tokens f g h k =
    let place = place_once [] h.before k.before h.here k.here h.after k.after (sym h.are ∙ k.are) h.begins k.begins h.stops k.stops in
    let same : IsCause (bare h.before) h.here.lexeme g.kind =
    subst (λ (t : Placed). IsCause (bare h.before) t.lexeme g.kind) (sym place.here)
    (subst (λ (p : List Placed). IsCause (bare p) k.here.lexeme g.kind) (sym place.before) k.cause) in
    let kind : f.kind ≡ g.kind = cause_once (bare h.before) h.here.lexeme f.kind g.kind h.cause same in
    let line : f.line ≡ g.line = h.line ∙ (ap (λ (t : Placed). t.line) place.here ∙ sym k.line) in
    ap (λ (n : ℕ). record { line = n; kind = f.kind }) line ∙ ap (λ (x : DefKind). record { line = g.line; kind = x }) kind

-- ---- and the file has it

not_grammatical : (tokens : List Placed) (d : DefFile) (f : DefRefusal) → IsFirstFault tokens f → Sentence (bare tokens) d → ⊥
not_grammatical tokens d f h s =
    h.stops (record {
      rest = bare h.after;
      value = d;
      sentence = subst (λ (xs : List Lexeme). Sentence xs d) (ap bare h.are ∙ (bare_both h.before h.here h.after ∙ sym (one_more (bare h.before) h.here.lexeme (bare h.after)))) s;
    })

by_answer : (bytes : List ℕ) (f : DefRefusal) (answer : Result DefFile DefRefusal) → read_of bytes ≡ answer → IsFirstFault (tokens_of bytes) f → read_of bytes ≡ Err f
by_answer bytes f (Ok d) is h = absurd (not_grammatical (tokens_of bytes) d f h (read_grammatical bytes d is))
by_answer bytes f (Err g) is h = is ∙ ap Err (fault_once (tokens_of bytes) g f (faults_first bytes g is) h)

pub first_are_faults : FirstAreFaults
first_are_faults bytes f h = by_answer bytes f (read_of bytes) refl h
