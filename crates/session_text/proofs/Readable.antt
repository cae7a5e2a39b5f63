-- What a line says has plain names.
use Rattle.std.proofs.Common.{◌≡◌, ℕ, ◌+◌, ◌-◌, ◌*◌, ◌<◌, Bool, true, false, List, [], ◌∷◌, length, Option, Some, None, option_map, option_and_then, refl, sym, ap, subst, arith}
use Rattle.std.specs.Prelude.{codes, nat_lt, nat_le, drop, ◌==◌, ◌&&◌, ◌||◌, not, if◌then◌else◌}
use Rattle.std.specs.List.{list_all, AllByRecursion, filter_map, cons_option}
use Rattle.std.proofs.lemmas.Bool.Decides.{nat_tests}
use Rattle.std.proofs.lemmas.Bool.{and_parts, not-false}
use Rattle.std.proofs.lemmas.Option.{same_Some}
use Rattle.lx_types.specs.declared.entry.EntryKey.{EntryKey}
use Rattle.lx_types.specs.declared.entry.EntryKey.TheVariants.{Ordinal, Named}
use Rattle.load_model.specs.declared.commands.Place.{Place}
use Rattle.load_model.specs.declared.commands.Command.{Command}
use Rattle.load_model.specs.declared.commands.Command.TheVariants.{Start, Load, Free, Touch, Peek, Shared, Write, Debug, Query, GetRes, Exit}
use Rattle.session_model.specs.declared.sessions.ModLine.TheVariants.{Take, Build}
use Rattle.session_model.specs.declared.sessions.Session.{Session}
use Rattle.session_model.specs.declared.sessions.SessionKind.TheVariants as kinds
use Rattle.session_model.specs.Lines.{is_allowed, is_blank, onto_word, lines_in, words_in, number_in, hex_value, hex_bytes}
use Rattle.session_model.specs.Statements.{Statement, gives, fails, process, command, Reading, nothing, says, wrong, or_wrong, place_of, length_in, place_in, begins_with_at, key_in, process_in, word_in, hex_in, write_of, is_word, word_count, has_long, is_within, two_words, failing_of, three_words, four_words, five_words, statement_of, by_count, is_comment, of_words, reading_of}
use Rattle.session_model.specs.declared.limits.TheConstants.{MAX_BYTES}
use Rattle.session_model.specs.Sessions.{module_of, failing_in, commands_of, scripts_of, session_of, statement_in, statements_of, Ses}
use Rattle.session_model.specs.Bounds.{IsSession}
use Rattle.session_model.proofs.Readings.{said, said_is, not_wrong, not_nothing}
use Rattle.session_text.specs.Writable.{IsVisible, IsPlain, HasPlainKey, IsByte, IsPlainCommand, IsPlainModule, IsPlainFailing, IsPlainScript, IsWritable}

-- ---- words of a line

abbrev Plain : List (List ℕ) → Type 0
Plain ws = AllByRecursion IsPlain ws

visible : (b : ℕ) → is_allowed b ≡ true → is_blank b ≡ false → IsVisible b
visible b h k = (grind (arith, nat_tests), grind (arith, nat_tests))

alone : (b : ℕ) → IsVisible b → IsPlain (b ∷ [])
alone b h = record { some = omega arith; visible = (h, tt) }

onto-plain : (b : ℕ) (bytes : List ℕ) (ws : List (List ℕ)) → IsVisible b → Plain ws → Plain (onto_word b bytes ws)
onto-plain b [] ws h p = (alone b h, p)
onto-plain b (c ∷ bytes) [] h p = (alone b h, tt)
onto-plain b (c ∷ bytes) (w ∷ ws) h p = step (is_blank c)
  where
    step : (t : Bool) → Plain (if t then (b ∷ []) ∷ w ∷ ws else (b ∷ w) ∷ ws)
    step true = (alone b h, p)
    step false = (record { some = omega arith; visible = (h, p.0.visible) }, p.1)

words-plain : (line : List ℕ) → list_all is_allowed line ≡ true → Plain (words_in line)
unfolding words_in
words-plain [] h = tt
words-plain (b ∷ bytes) h = step (is_blank b) refl (words-plain bytes (and_parts (is_allowed b) (list_all is_allowed bytes) h).1)
  where
    step : (t : Bool) → is_blank b ≡ t → Plain (words_in bytes) → Plain (if t then words_in bytes else onto_word b bytes (words_in bytes))
    step true is p = p
    step false is p = onto-plain b bytes (words_in bytes) (visible b (and_parts (is_allowed b) (list_all is_allowed bytes) h).0 is) p

-- ---- bytes of a write

digit-small : (b v : ℕ) → hex_value b ≡ Some v → v < 16
digit-small b v h = by (hex_value b) (small b) v h
  where
    SmallOr : Option ℕ → Type 0
    SmallOr None = Unit {0}
    SmallOr (Some v) = v < 16

    chosen : (t : Bool) (x y : Option ℕ) → (t ≡ true → SmallOr x) → SmallOr y → SmallOr (if t then x else y)
    chosen true x y h k = h refl
    chosen false x y h k = k

    decimal : (b : ℕ) → nat_le 0x30 b && nat_le b 0x39 ≡ true → b - 0x30 < 16
    decimal b h = grind (arith, nat_tests)

    upper : (b : ℕ) → nat_le 0x41 b && nat_le b 0x46 ≡ true → b - 0x37 < 16
    upper b h = grind (arith, nat_tests)

    lower : (b : ℕ) → nat_le 0x61 b && nat_le b 0x66 ≡ true → b - 0x57 < 16
    lower b h = grind (arith, nat_tests)

    small : (b : ℕ) → SmallOr (hex_value b)
    small b =
        let third : Option ℕ = if nat_le 0x61 b && nat_le b 0x66 then Some (b - 0x57) else None in
        let second : Option ℕ = if nat_le 0x41 b && nat_le b 0x46 then Some (b - 0x37) else third in
        chosen (nat_le 0x30 b && nat_le b 0x39) (Some (b - 0x30)) second (decimal b)
        (chosen (nat_le 0x41 b && nat_le b 0x46) (Some (b - 0x37)) third (upper b)
        (chosen (nat_le 0x61 b && nat_le b 0x66) (Some (b - 0x57)) None (lower b) tt))

    by : (o : Option ℕ) → SmallOr o → (v : ℕ) → o ≡ Some v → v < 16
    by None p v h = cc
    by (Some x) p v h = (let same : x ≡ v = cc in subst (λ n. n < 16) same p)

hex-bytes_fit : (word bytes : List ℕ) → hex_bytes word ≡ Some bytes → AllByRecursion IsByte bytes
unfolding hex_bytes
hex-bytes_fit [] bytes h = (let same : [] ≡ bytes = cc in subst (λ bs. AllByRecursion IsByte bs) same tt)
hex-bytes_fit (d ∷ []) bytes h = cc
hex-bytes_fit (high ∷ low ∷ rest) bytes h = step (hex_bytes rest) (hex-bytes_fit rest) refl (hex_value high) refl (hex_value low) refl h
  where
    step : (o : Option (List ℕ)) → ((bs : List ℕ) → hex_bytes rest ≡ Some bs → AllByRecursion IsByte bs) → hex_bytes rest ≡ o → (x : Option ℕ) → hex_value high ≡ x → (y : Option ℕ) → hex_value low ≡ y →
        option_and_then (λ bs. option_and_then (λ h. option_map (λ l. (h * 16 + l) ∷ bs) y) x) o ≡ Some bytes → AllByRecursion IsByte bytes
    step None again o_is x x_is y y_is h = cc
    step (Some bs) again o_is None x_is y y_is h = cc
    step (Some bs) again o_is (Some x) x_is None y_is h = cc
    step (Some bs) again o_is (Some x) x_is (Some y) y_is h =
        let same : (x * 16 + y) ∷ bs ≡ bytes = cc in
        let a = digit-small high x x_is in
        let b = digit-small low y y_is in
        subst (λ bs. AllByRecursion IsByte bs) same (omega (arith, a, b), again bs o_is)

-- ---- options and tests

pub record Found {A B : Type 0} (f : A → Option B) (o : Option A) (y : B) : Type 0 where
  pub it : A
  pub there : o ≡ Some it
  pub gives : f it ≡ Some y

bind-some : {A B : Type 0} (f : A → Option B) (o : Option A) (y : B) → option_and_then f o ≡ Some y → Found f o y
bind-some f None y h = cc
bind-some f (Some x) y h = record { it = x; there = refl; gives = h }

map-some : {A B : Type 0} (f : A → B) (o : Option A) (y : B) → option_map f o ≡ Some y → Found (λ x. Some (f x)) o y
map-some f None y h = cc
map-some f (Some x) y h = record { it = x; there = refl; gives = h }

unless-some : {A : Type 0} (b : Bool) (x y : A) → (if b then None else Some x) ≡ Some y → x ≡ y
unless-some true x y h = cc
unless-some false x y h = cc

-- ---- statements

abbrev pub IsPlainStatement : Statement → Type 0
IsPlainStatement (gives m) = IsPlainModule m
IsPlainStatement (fails f) = IsPlainFailing f
IsPlainStatement (process n) = Unit {0}
IsPlainStatement (command c) = IsPlainCommand c

is-said : (x st : Statement) → IsPlainStatement x → says x ≡ says st → IsPlainStatement st
is-said x st plain h = subst IsPlainStatement (said_is x st h) plain

-- a statement of a number, whatever the number is
of-number : {A : Type 0} (f : A → Statement) (o : Option A) (st : Statement) → ((x : A) → o ≡ Some x → IsPlainStatement (f x))
    → or_wrong kinds.Number (option_map f o) ≡ says st → IsPlainStatement st
of-number f o st plain h =
    let it = map-some f o st (said kinds.Number (option_map f o) st h) in
    subst IsPlainStatement (same_Some (f it.it) st it.gives) (plain it.it it.there)

two-plain : (w a : List ℕ) (st : Statement) → IsPlain a → two_words w a ≡ says st → IsPlainStatement st
two-plain w a st p h = one (is_word w (codes "take")) (is_word w (codes "start")) (is_word w (codes "load")) (is_word w (codes "free")) h
  where
    one : (t s l f : Bool) →
        (if t then says (gives (Take a)) else if s then says (command (Start a)) else if l then says (command (Load a)) else if f then says (command (Free a))
        else or_wrong kinds.Number (option_map process (number_in a))) ≡ says st → IsPlainStatement st
    one true s l f h = is-said (gives (Take a)) st p h
    one false true l f h = is-said (command (Start a)) st p h
    one false false true f h = is-said (command (Load a)) st p h
    one false false false true h = is-said (command (Free a)) st p h
    one false false false false h = of-number process (number_in a) st (λ n e. tt) h

key-plain : (word : List ℕ) (key : EntryKey) → IsPlain word → key_in word ≡ Some key → HasPlainKey key
key-plain word key p h = step (begins_with_at word) refl h
  where
    step : (b : Bool) → begins_with_at word ≡ b → (if b then option_map Ordinal (number_in (drop 1 word)) else Some (Named word)) ≡ Some key → HasPlainKey key
    step true is h =
        let f = map-some Ordinal (number_in (drop 1 word)) key h in
        subst HasPlainKey (same_Some (Ordinal f.it) key f.gives) tt
    step false is h = subst HasPlainKey (same_Some (Named word) key h) (record { plain = p; named = is })

three-plain : (w a b : List ℕ) (st : Statement) → IsPlain a → IsPlain b → three_words w a b ≡ says st → IsPlainStatement st
three-plain w a b st p q h = step (is_word w (codes "failing")) h
  where
    step : (f : Bool) →
        (if f then or_wrong kinds.Number (option_map (failing_of a) (process_in b)) else or_wrong kinds.Number (option_map (λ k. command (Query a k)) (key_in b))) ≡ says st →
        IsPlainStatement st
    step true h = of-number (failing_of a) (process_in b) st (λ n e. p) h
    step false h = of-number (λ k. command (Query a k)) (key_in b) st (λ k e. (p, key-plain b k q e)) h

four-plain : (w a b c : List ℕ) (st : Statement) → IsPlain a → IsPlain b → IsPlain c → four_words w a b c ≡ says st → IsPlainStatement st
four-plain w a b c st p q r h = step (is_word w (codes "getres")) h
  where
    step : (g : Bool) →
        (if g then or_wrong kinds.Number (option_and_then (λ ty. option_map (λ id. command (GetRes a ty id)) (word_in c)) (word_in b)) else says (gives (Build a b (c ∷ [])))) ≡ says st →
        IsPlainStatement st
    step true h =
        let f = bind-some (λ ty. option_map (λ id. command (GetRes a ty id)) (word_in c)) (word_in b) st
        (said kinds.Number (option_and_then (λ ty. option_map (λ id. command (GetRes a ty id)) (word_in c)) (word_in b)) st h) in
        let g = map-some (λ id. command (GetRes a f.it id)) (word_in c) st f.gives in
        subst IsPlainStatement (same_Some (command (GetRes a f.it g.it)) st g.gives) p
    step false h = is-said (gives (Build a b (c ∷ []))) st (p, q, (r, tt)) h

-- a place has the name
place-named : (most : Option ℕ) (name object offset len : List ℕ) (p : Place) → place_in most name object offset len ≡ Some p → p.«module» ≡ name
place-named most name object offset len p h =
    let f = bind-some (λ o. option_and_then (λ x. option_map (place_of name o x) (length_in most len)) (number_in offset)) (number_in object) p h in
    let g = bind-some (λ x. option_map (place_of name f.it x) (length_in most len)) (number_in offset) p f.gives in
    let k = map-some (place_of name f.it g.it) (length_in most len) p g.gives in
    sym (ap (λ p. p.«module») (same_Some (place_of name f.it g.it k.it) p k.gives))

written-plain : (kind : Place → List ℕ → Command) (name object offset hex : List ℕ) (st : Statement) →
    ((p : Place) (bytes : List ℕ) → p.«module» ≡ name → AllByRecursion IsByte bytes → IsPlainCommand (kind p bytes)) →
    write_of kind name (number_in object) (number_in offset) (hex_in hex) ≡ says st → IsPlainStatement st
written-plain kind name object offset hex st plain h = step (number_in object) (number_in offset) (hex_in hex) refl h
  where
    fit : (bytes : List ℕ) → hex_in hex ≡ Some bytes → AllByRecursion IsByte bytes
    fit bytes e =
        let f = bind-some (λ bs. if (length bs == 0) || nat_lt MAX_BYTES (length bs) then None else Some bs) (hex_bytes hex) bytes e in
        subst (λ bs. AllByRecursion IsByte bs) (unless-some ((length f.it == 0) || nat_lt MAX_BYTES (length f.it)) f.it bytes f.gives) (hex-bytes_fit hex f.it f.there)

    step : (o x : Option ℕ) (bs : Option (List ℕ)) → hex_in hex ≡ bs → write_of kind name o x bs ≡ says st → IsPlainStatement st
    step None x bs bs_is h = cc
    step (Some o) None bs bs_is h = cc
    step (Some o) (Some x) None bs_is h = cc
    step (Some o) (Some x) (Some bytes) bs_is h =
        is-said (command (kind (place_of name o x (length bytes)) bytes)) st (plain (place_of name o x (length bytes)) bytes refl (fit bytes bs_is)) h

five-plain : (w a b c d : List ℕ) (st : Statement) → IsPlain a → five_words w a b c d ≡ says st → IsPlainStatement st
five-plain w a b c d st p h = one (is_word w (codes "touch")) (is_word w (codes "peek")) (is_word w (codes "shared")) (is_word w (codes "debug")) h
  where
    named : (most : Option ℕ) (q : Place) → place_in most a b c d ≡ Some q → IsPlain q.«module»
    named most q e = subst IsPlain (sym (place-named most a b c d q e)) p

    one : (t k s g : Bool) →
        (if t then or_wrong kinds.Number (option_map (λ q. command (Touch q)) (place_in None a b c d))
        else if k then or_wrong kinds.Number (option_map (λ q. command (Peek q)) (place_in (Some MAX_BYTES) a b c d))
        else if s then or_wrong kinds.Number (option_map (λ q. command (Shared q)) (place_in (Some MAX_BYTES) a b c d))
        else if g then write_of Debug a (number_in b) (number_in c) (hex_in d)
        else write_of Write a (number_in b) (number_in c) (hex_in d)) ≡ says st → IsPlainStatement st
    one true k s g h = of-number (λ q. command (Touch q)) (place_in None a b c d) st (named None) h
    one false true s g h = of-number (λ q. command (Peek q)) (place_in (Some MAX_BYTES) a b c d) st (named (Some MAX_BYTES)) h
    one false false true g h = of-number (λ q. command (Shared q)) (place_in (Some MAX_BYTES) a b c d) st (named (Some MAX_BYTES)) h
    one false false false true h = written-plain Debug a b c d st (λ q bytes e fit. (subst IsPlain (sym e) p, fit)) h
    one false false false false h = written-plain Write a b c d st (λ q bytes e fit. (subst IsPlain (sym e) p, fit)) h

words-said : (ws : List (List ℕ)) (st : Statement) → Plain ws → statement_of ws ≡ says st → IsPlainStatement st
words-said [] st p h = cc
words-said (w ∷ []) st p h = is-said (command Exit) st tt h
words-said (w ∷ a ∷ []) st p h = two-plain w a st p.1.0 h
words-said (w ∷ a ∷ b ∷ []) st p h = three-plain w a b st p.1.0 p.1.1.0 h
words-said (w ∷ a ∷ b ∷ c ∷ []) st p h = four-plain w a b c st p.1.0 p.1.1.0 p.1.1.1.0 h
words-said (w ∷ a ∷ b ∷ c ∷ d ∷ ws) st p h = step (is_word w (codes "build")) h
  where
    step : (g : Bool) → (if g then says (gives (Build a b (c ∷ d ∷ ws))) else five_words w a b c d) ≡ says st → IsPlainStatement st
    step true h = is-said (gives (Build a b (c ∷ d ∷ ws))) st (p.1.0, p.1.1.0, p.1.1.1) h
    step false h = five-plain w a b c d st p.1.0 h

-- ---- lines

counted : (counts : Option (ℕ × Option ℕ)) (ws : List (List ℕ)) (st : Statement) → Plain ws → by_count counts ws ≡ says st → IsPlainStatement st
counted None ws st p h = cc
counted (Some counts) ws st p h =
    words-said ws st p (not_wrong (not (is_within (length ws) counts) || has_long ws) kinds.Count (statement_of ws) st h).1

by-words : (ws : List (List ℕ)) (st : Statement) → Plain ws → of_words ws ≡ says st → IsPlainStatement st
by-words [] st p h = cc
by-words (w ∷ ws) st p h = counted (word_count w) (w ∷ ws) st p (not_nothing (is_comment w) (by_count (word_count w) (w ∷ ws)) st h)

line-plain : (line : List ℕ) (st : Statement) → reading_of line ≡ says st → IsPlainStatement st
unfolding reading_of
line-plain line st h =
    let it = not_wrong (not (list_all is_allowed line)) kinds.Byte (of_words (words_in line)) st h in
    by-words (words_in line) st (words-plain line (not-false (list_all is_allowed line) it.0)) it.1

statements-plain : (lines : List (List ℕ)) → AllByRecursion IsPlainStatement (statements_of lines)
statements-plain [] = tt
statements-plain (line ∷ lines) = step (reading_of line) refl (statements-plain lines)
  where
    step : (r : Reading) → reading_of line ≡ r → AllByRecursion IsPlainStatement (statements_of lines) → AllByRecursion IsPlainStatement (cons_option (statement_in r) (statements_of lines))
    step nothing is more = more
    step (wrong kind) is more = more
    step (says st) is more = (line-plain line st is, more)

-- ---- sessions

modules-plain : (sts : List Statement) → AllByRecursion IsPlainStatement sts → AllByRecursion IsPlainModule (filter_map module_of sts)
modules-plain [] h = tt
modules-plain (gives m ∷ sts) h = (h.0, modules-plain sts h.1)
modules-plain (fails f ∷ sts) h = modules-plain sts h.1
modules-plain (process n ∷ sts) h = modules-plain sts h.1
modules-plain (command c ∷ sts) h = modules-plain sts h.1

failing-plain : (sts : List Statement) → AllByRecursion IsPlainStatement sts → AllByRecursion IsPlainFailing (filter_map failing_in sts)
failing-plain [] h = tt
failing-plain (gives m ∷ sts) h = failing-plain sts h.1
failing-plain (fails f ∷ sts) h = (h.0, failing-plain sts h.1)
failing-plain (process n ∷ sts) h = failing-plain sts h.1
failing-plain (command c ∷ sts) h = failing-plain sts h.1

commands-plain : (sts : List Statement) → AllByRecursion IsPlainStatement sts → AllByRecursion IsPlainCommand (commands_of sts)
commands-plain [] h = tt
commands-plain (gives m ∷ sts) h = tt
commands-plain (fails f ∷ sts) h = tt
commands-plain (process n ∷ sts) h = tt
commands-plain (command c ∷ sts) h = (h.0, commands-plain sts h.1)

scripts-plain : (sts : List Statement) → AllByRecursion IsPlainStatement sts → AllByRecursion IsPlainScript (scripts_of sts)
scripts-plain [] h = tt
scripts-plain (gives m ∷ sts) h = scripts-plain sts h.1
scripts-plain (fails f ∷ sts) h = scripts-plain sts h.1
scripts-plain (process n ∷ sts) h = (commands-plain sts h.1, scripts-plain sts h.1)
scripts-plain (command c ∷ sts) h = scripts-plain sts h.1

-- A session that bytes say, within bounds, can be written.
pub session-writable : (bytes : List ℕ) (s : Session) → Ses bytes s → IsSession s → IsWritable s
unfolding session_of
session-writable bytes s ses bounds =
    let plain = statements-plain (lines_in bytes) in
    record {
      bounds = bounds;
      modules = subst (λ s. AllByRecursion IsPlainModule s.modules) (sym ses.says) (modules-plain (statements_of (lines_in bytes)) plain);
      failing = subst (λ s. AllByRecursion IsPlainFailing s.failing) (sym ses.says) (failing-plain (statements_of (lines_in bytes)) plain);
      scripts = subst (λ s. AllByRecursion IsPlainScript s.scripts) (sym ses.says) (scripts-plain (statements_of (lines_in bytes)) plain);
    }
