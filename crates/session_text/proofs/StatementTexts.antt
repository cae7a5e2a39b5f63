-- The words of a statement, and that they say it.
use Rattle.std.proofs.Common.{◌≡◌, ℕ, suc, ◌^◌, ◌<◌, ◌≤◌, Bool, true, false, cond, List, [], ◌∷◌, length, Option, Some, None, option_map, option_and_then, refl, ap, ◌∙◌, arith, lit<}
use Rattle.std.specs.Prelude.{◌==◌, ◌&&◌, ◌||◌, not, nat_lt, nat_le, codes, decimal}
use Rattle.std.specs.List.{AllByRecursion, list_any, list_all}
use Rattle.std.proofs.lemmas.Bool.{leb-true, or_from, not_from_true, and_parts, le-ltb, lt-ltb, ne_eqb, cond-false, cond-true, and_left}
use Rattle.std.proofs.lemmas.Bool.Decides.{nat_tests}
use Rattle.std.proofs.Math.Bool.{and-false}
use Rattle.lx_types.specs.declared.entry.EntryKey.{EntryKey}
use Rattle.lx_types.specs.declared.entry.EntryKey.TheVariants.{Ordinal, Named}
use Rattle.load_model.specs.declared.commands.Place.{Place}
use Rattle.load_model.specs.declared.commands.Command.{Command}
use Rattle.load_model.specs.declared.commands.Command.TheVariants.{Start, Load, Free, Touch, Peek, Shared, Write, Debug, Query, GetRes, Exit}
use Rattle.session_model.specs.declared.sessions.ModLine.TheVariants.{Take, Build}
use Rattle.session_model.specs.declared.sessions.SessionKind.TheVariants as kinds
use Rattle.session_model.specs.Lines.{number_in}
use Rattle.session_model.specs.Statements.{Statement, gives, fails, process, command, says, or_wrong, place_of, length_in, place_in, begins_with_at, key_in, process_in, word_in, hex_in, write_of, word_count, is_long, failing_of, by_count, of_words, reading_of}
use Rattle.session_model.specs.declared.limits.TheConstants.{MAX_BYTES, MAX_WORD}
use Rattle.lx_types.specs.declared.limits.TheConstants.{MAX_PROCESSES}
use Rattle.session_model.specs.Bounds.{IsWord, IsPlace, IsReadable, IsWritten, IsKey, IsCommand, IsModLine, IsFailingLine}
use Rattle.session_model.specs.Text.{words, bytes_word}
use Rattle.session_model.specs.Transcript.{key_text, command_words}
use Rattle.session_read.proofs.ArgumentLaws.{counted, three-short}
use Rattle.session_model.specs.Spelling.{module_words, failing_words, process_words}
use Rattle.session_text.specs.Writable.{IsVisible, IsPlain, HasPlainKey, IsByte, IsPlainCommand, IsPlainModule, IsPlainFailing}
use Rattle.session_text.proofs.PlainWords.{words-read, words-allowed}
use Rattle.session_text.proofs.NumberTexts.{number-read, number-short, number-plain, ordinal-plain, ordinal-short, hex-read, hex-plain}

abbrev pub statement_words : Statement → List (List ℕ)
statement_words (gives m) = module_words m
statement_words (fails f) = failing_words f
statement_words (process n) = process_words n
statement_words (command c) = command_words c

-- a statement within bounds, whose names are plain
abbrev pub IsSayable : Statement → Type 0
IsSayable (gives m) = IsModLine m × IsPlainModule m
IsSayable (fails f) = IsFailingLine f × IsPlainFailing f
IsSayable (process n) = n < 2 ^ 32
IsSayable (command c) = IsCommand c × IsPlainCommand c

-- ---- literals

all-visible : (w : List ℕ) → list_all (λ b. nat_le 0x21 b && nat_le b 0x7E) w ≡ true → AllByRecursion IsVisible w
all-visible [] h = tt
all-visible (b ∷ w) h =
    let here : nat_le 0x21 b && nat_le b 0x7E ≡ true = (and_parts _ _ h).0 in
    ((leb-true 0x21 b (and_parts _ _ here).0, leb-true b 0x7E (and_parts _ _ here).1), all-visible w (and_parts (nat_le 0x21 b && nat_le b 0x7E) _ h).1)

literal : (w : List ℕ) → 0 < length w → list_all (λ b. nat_le 0x21 b && nat_le b 0x7E) w ≡ true → IsPlain w
literal w some h = record { some = some; visible = all-visible w h }

-- ---- plain words

key-plain : (key : EntryKey) → IsKey key → HasPlainKey key → IsPlain (key_text key)
key-plain (Ordinal n) h p = ordinal-plain n h
key-plain (Named name) h p = p.plain

span-plain : (w : List ℕ) (p : Place) → IsPlain w → IsPlace p → IsPlain p.«module» → AllByRecursion IsPlain (w ∷ p.«module» ∷ decimal p.object ∷ decimal p.offset ∷ decimal p.len ∷ [])
span-plain w p verb h name = (verb, (name, (number-plain p.object h.object, (number-plain p.offset h.offset, (number-plain p.len h.length, tt)))))

written-plain : (w : List ℕ) (p : Place) (bs : List ℕ) → IsPlain w → IsWritten p bs → IsPlain p.«module»
    → AllByRecursion IsPlain (w ∷ p.«module» ∷ decimal p.object ∷ decimal p.offset ∷ bytes_word bs ∷ [])
written-plain w p bs verb h name =
    let some : 1 ≤ length bs = omega (arith, h.fit, h.place.place.some) in
    (verb, (name, (number-plain p.object h.place.place.object, (number-plain p.offset h.place.place.offset, (hex-plain bs some, tt)))))

command-plain : (c : Command) → IsCommand c → IsPlainCommand c → AllByRecursion IsPlain (command_words c)
command-plain (Start name) h p = (literal (codes "start") (lit< tt) refl, (p, tt))
command-plain (Load name) h p = (literal (codes "load") (lit< tt) refl, (p, tt))
command-plain (Free name) h p = (literal (codes "free") (lit< tt) refl, (p, tt))
command-plain (Touch q) h p = span-plain (codes "touch") q (literal (codes "touch") (lit< tt) refl) h p
command-plain (Peek q) h p = span-plain (codes "peek") q (literal (codes "peek") (lit< tt) refl) h.place p
command-plain (Shared q) h p = span-plain (codes "shared") q (literal (codes "shared") (lit< tt) refl) h.place p
command-plain (Write q bs) h p = written-plain (codes "write") q bs (literal (codes "write") (lit< tt) refl) h p.0
command-plain (Debug q bs) h p = written-plain (codes "debug") q bs (literal (codes "debug") (lit< tt) refl) h p.0
command-plain (Query name key) h p = (literal (codes "query") (lit< tt) refl, (p.0, (key-plain key h.1 p.1, tt)))
command-plain (GetRes name ty id) h p =
    (literal (codes "getres") (lit< tt) refl, (p, (number-plain ty (omega (arith, h.1)), (number-plain id (omega (arith, h.2)), tt))))
command-plain Exit h p = (literal (codes "exit") (lit< tt) refl, tt)

pub statement-plain : (st : Statement) → IsSayable st → AllByRecursion IsPlain (statement_words st)
statement-plain (gives (Take file)) h = (literal (codes "take") (lit< tt) refl, (h.1, tt))
statement-plain (gives (Build stem def files)) h = (literal (codes "build") (lit< tt) refl, (h.1.0, (h.1.1, h.1.2)))
statement-plain (fails f) h =
    (literal (codes "failing") (lit< tt) refl, (h.1, (number-plain f.pid (omega (arith, h.0.most)), tt)))
statement-plain (process n) h = (literal (codes "process") (lit< tt) refl, (number-plain n h, tt))
statement-plain (command c) h = command-plain c h.0 h.1

-- ---- what they say

short : (w : List ℕ) → IsWord w → is_long w ≡ false
short w h = le-ltb MAX_WORD (length w) h

one-short : (a : List ℕ) → is_long a ≡ false → list_any is_long (a ∷ []) ≡ false
one-short a h = or_from (is_long a) false h refl

place-short : (a b c d : List ℕ) → is_long a ≡ false → is_long b ≡ false → is_long c ≡ false → is_long d ≡ false
    → list_any is_long (a ∷ b ∷ c ∷ []) || (is_long d && true) ≡ false
place-short a b c d h k l m =
    or_from (list_any is_long (a ∷ b ∷ c ∷ [])) (is_long d && true) (or_from (is_long a) _ h (three-short b c k l)) (and_left (is_long d) true m)

bytes-short : (a b c d : List ℕ) → is_long a ≡ false → is_long b ≡ false → is_long c ≡ false → list_any is_long (a ∷ b ∷ c ∷ []) || (is_long d && false) ≡ false
bytes-short a b c d h k l =
    or_from (list_any is_long (a ∷ b ∷ c ∷ [])) (is_long d && false) (or_from (is_long a) _ h (three-short b c k l)) (and-false (is_long d))

length-any : (n : ℕ) → n < 2 ^ 32 → 1 ≤ n → length_in None (decimal n) ≡ Some n
length-any n small some =
    ap (λ o. option_and_then (λ n. cond (n == 0) None (Some n)) o) (number-read n small) ∙ cond-false (n == 0) _ _ (ne_eqb n 0 (λ z. omega (arith, some, z)))

length-few : (n : ℕ) → n < 2 ^ 32 → 1 ≤ n → n ≤ MAX_BYTES → length_in (Some MAX_BYTES) (decimal n) ≡ Some n
length-few n small some few =
    ap (λ o. option_and_then (λ n. cond ((n == 0) || nat_lt MAX_BYTES n) None (Some n)) o) (number-read n small)
    ∙ cond-false _ _ _ (or_from (n == 0) (nat_lt MAX_BYTES n) (ne_eqb n 0 (λ z. omega (arith, some, z))) (le-ltb MAX_BYTES n few))

place-said : (most : Option ℕ) (p : Place) → IsPlace p → length_in most (decimal p.len) ≡ Some p.len
    → place_in most p.«module» (decimal p.object) (decimal p.offset) (decimal p.len) ≡ Some p
place-said most p h len =
    ap (λ o. option_and_then (λ o. option_and_then (λ x. option_map (place_of p.«module» o x) (length_in most (decimal p.len))) (number_in (decimal p.offset))) o) (number-read p.object h.object)
    ∙ ap (λ o. option_and_then (λ x. option_map (place_of p.«module» p.object x) (length_in most (decimal p.len))) o) (number-read p.offset h.offset)
    ∙ ap (λ o. option_map (place_of p.«module» p.object p.offset) o) len

any-said : (p : Place) → IsPlace p → place_in None p.«module» (decimal p.object) (decimal p.offset) (decimal p.len) ≡ Some p
any-said p h = place-said None p h (length-any p.len h.length h.some)

few-said : (p : Place) → IsReadable p → place_in (Some MAX_BYTES) p.«module» (decimal p.object) (decimal p.offset) (decimal p.len) ≡ Some p
few-said p h = place-said (Some MAX_BYTES) p h.place (length-few p.len h.place.length h.place.some h.few)

write-said : (kind : Place → List ℕ → Command) (p : Place) (bs : List ℕ) → IsWritten p bs → AllByRecursion IsByte bs
    → write_of kind p.«module» (number_in (decimal p.object)) (number_in (decimal p.offset)) (hex_in (bytes_word bs)) ≡ says (command (kind p bs))
write-said kind p bs h all =
    let some : 1 ≤ length bs = omega (arith, h.fit, h.place.place.some) in
    let few : length bs ≤ MAX_BYTES = omega (arith, h.fit, h.place.few) in
    ap (λ o. write_of kind p.«module» o (number_in (decimal p.offset)) (hex_in (bytes_word bs))) (number-read p.object h.place.place.object)
    ∙ ap (λ o. write_of kind p.«module» (Some p.object) o (hex_in (bytes_word bs))) (number-read p.offset h.place.place.offset)
    ∙ ap (λ o. write_of kind p.«module» (Some p.object) (Some p.offset) o) (hex-read bs all some few)
    ∙ ap (λ n. says (command (kind (place_of p.«module» p.object p.offset n) bs))) h.fit

key-said : (key : EntryKey) → IsKey key → HasPlainKey key → key_in (key_text key) ≡ Some key
key-said (Ordinal n) h p = ap (λ o. option_map Ordinal o) (number-read n h)
key-said (Named name) h p = cond-false (begins_with_at name) _ _ p.named

key-short : (key : EntryKey) → IsKey key → is_long (key_text key) ≡ false
key-short (Ordinal n) h = ordinal-short n h
key-short (Named name) h = short name h

word-said : (n : ℕ) → n < 2 ^ 16 → word_in (decimal n) ≡ Some n
word-said n h =
    ap (λ o. option_and_then (λ n. cond (nat_lt n 0x1_0000) (Some n) None) o) (number-read n (omega (arith, h))) ∙ cond-true _ _ _ (lt-ltb n 0x1_0000 h)

getres-said : (name : List ℕ) (ty id : ℕ) → is_long name ≡ false → ty < 2 ^ 16 → id < 2 ^ 16
    → by_count (word_count (codes "getres")) (codes "getres" ∷ name ∷ decimal ty ∷ decimal id ∷ []) ≡ says (command (GetRes name ty id))
getres-said name ty id s h k =
    counted (list_any is_long (name ∷ decimal ty ∷ decimal id ∷ [])) _ _
    (or_from (is_long name) _ s (three-short (decimal ty) (decimal id) (number-short ty (omega (arith, h))) (number-short id (omega (arith, k)))))
    ∙ ap (λ o. or_wrong kinds.Number (option_and_then (λ ty. option_map (λ id. command (GetRes name ty id)) (word_in (decimal id))) o)) (word-said ty h)
    ∙ ap (λ o. or_wrong kinds.Number (option_map (λ id. command (GetRes name ty id)) o)) (word-said id k)

process-said : (n : ℕ) → 1 ≤ n → n ≤ MAX_PROCESSES → process_in (decimal n) ≡ Some n
process-said n some few =
    ap (λ o. option_and_then (λ n. cond (nat_le 1 n && nat_le n MAX_PROCESSES) (Some n) None) o) (number-read n (omega (arith, few)))
    ∙ cond-true _ _ _ (both n some few)
  where
    both : (n : ℕ) → 1 ≤ n → n ≤ MAX_PROCESSES → nat_le 1 n && nat_le n MAX_PROCESSES ≡ true
    both n some few = grind (arith, nat_tests)

all-short : (ws : List (List ℕ)) → AllByRecursion IsWord ws → list_any is_long ws ≡ false
all-short [] h = refl
all-short (w ∷ ws) h = or_from (is_long w) (list_any is_long ws) (short w h.0) (all-short ws h.1)

-- how long a list of words is that goes on
at-least : (n : ℕ) → nat_le 4 (suc (suc (suc (suc (suc n))))) ≡ true
at-least n = grind (arith, nat_tests)

long-none : (a b c d e : Bool) (n : ℕ) → a ≡ false → b ≡ false → c ≡ false → d ≡ false → e ≡ false
    → not (nat_le 4 (suc (suc (suc (suc (suc n)))))) || ((a || (b || (c || d))) || (e && true)) ≡ false
long-none a b c d e n ha hb hc hd he = rw (at-least n, ha, hb, hc, hd, he) refl

build-said : (stem def : List ℕ) (files : List (List ℕ)) → IsWord stem → IsWord def → 1 ≤ length files → AllByRecursion IsWord files
    → by_count (word_count (codes "build")) (codes "build" ∷ stem ∷ def ∷ files) ≡ says (gives (Build stem def files))
build-said stem def [] s d some h = absurd (omega arith)
build-said stem def (f ∷ []) s d some h =
    counted (list_any is_long (stem ∷ def ∷ f ∷ [])) _ _ (or_from (is_long stem) _ (short stem s) (three-short def f (short def d) (short f h.0)))
build-said stem def (f ∷ g ∷ files) s d some h =
    counted _ _ _ (long-none (is_long stem) (is_long def) (is_long f) (list_any is_long files) (is_long g) (length files)
    (short stem s) (short def d) (short f h.0) (all-short files h.1.1) (short g h.1.0))

command-said : (c : Command) → IsCommand c → IsPlainCommand c → of_words (command_words c) ≡ says (command c)
command-said (Start name) h p = counted (list_any is_long (name ∷ [])) _ _ (one-short name (short name h))
command-said (Load name) h p = counted (list_any is_long (name ∷ [])) _ _ (one-short name (short name h))
command-said (Free name) h p = counted (list_any is_long (name ∷ [])) _ _ (one-short name (short name h))
command-said (Touch q) h p =
    counted _ _ _ (place-short q.«module» (decimal q.object) (decimal q.offset) (decimal q.len) (short q.«module» h.name) (number-short q.object h.object)
    (number-short q.offset h.offset) (number-short q.len h.length))
    ∙ ap (λ o. or_wrong kinds.Number (option_map (λ p. command (Touch p)) o)) (any-said q h)
command-said (Peek q) h p =
    counted _ _ _ (place-short q.«module» (decimal q.object) (decimal q.offset) (decimal q.len) (short q.«module» h.place.name) (number-short q.object h.place.object)
    (number-short q.offset h.place.offset) (number-short q.len h.place.length))
    ∙ ap (λ o. or_wrong kinds.Number (option_map (λ p. command (Peek p)) o)) (few-said q h)
command-said (Shared q) h p =
    counted _ _ _ (place-short q.«module» (decimal q.object) (decimal q.offset) (decimal q.len) (short q.«module» h.place.name) (number-short q.object h.place.object)
    (number-short q.offset h.place.offset) (number-short q.len h.place.length))
    ∙ ap (λ o. or_wrong kinds.Number (option_map (λ p. command (Shared p)) o)) (few-said q h)
command-said (Write q bs) h p =
    counted _ _ _ (bytes-short q.«module» (decimal q.object) (decimal q.offset) (bytes_word bs) (short q.«module» h.place.place.name)
    (number-short q.object h.place.place.object) (number-short q.offset h.place.place.offset))
    ∙ write-said Write q bs h p.1
command-said (Debug q bs) h p =
    counted _ _ _ (bytes-short q.«module» (decimal q.object) (decimal q.offset) (bytes_word bs) (short q.«module» h.place.place.name)
    (number-short q.object h.place.place.object) (number-short q.offset h.place.place.offset))
    ∙ write-said Debug q bs h p.1
command-said (Query name key) h p =
    counted (list_any is_long (name ∷ key_text key ∷ [])) _ _ (three-short name (key_text key) (short name h.0) (key-short key h.1))
    ∙ ap (λ o. or_wrong kinds.Number (option_map (λ k. command (Query name k)) o)) (key-said key h.1 p.1)
command-said (GetRes name ty id) h p = getres-said name ty id (short name h.0) h.1 h.2
command-said Exit h p = refl

words-said : (st : Statement) → IsSayable st → of_words (statement_words st) ≡ says st
words-said (gives (Take file)) h = counted (list_any is_long (file ∷ [])) _ _ (one-short file (short file h.0))
words-said (gives (Build stem def files)) h = build-said stem def files h.0.0 h.0.1 h.0.2 h.0.3
words-said (fails f) h =
    counted (list_any is_long (f.«module» ∷ decimal f.pid ∷ [])) _ _
    (three-short f.«module» (decimal f.pid) (short f.«module» h.0.name) (number-short f.pid (omega (arith, h.0.most))))
    ∙ ap (λ o. or_wrong kinds.Number (option_map (failing_of f.«module») o)) (process-said f.pid h.0.least h.0.most)
words-said (process n) h =
    counted (list_any is_long (decimal n ∷ [])) _ _ (one-short (decimal n) (number-short n h)) ∙ ap (λ o. or_wrong kinds.Number (option_map process o)) (number-read n h)
words-said (command c) h = command-said c h.0 h.1

-- A line of its words says the statement.
pub statement-read : (st : Statement) → IsSayable st → reading_of (words (statement_words st)) ≡ says st
unfolding reading_of
statement-read st h =
    let plain = statement-plain st h in
    cond-false _ _ _ (not_from_true _ (words-allowed (statement_words st) plain)) ∙ ap of_words (words-read (statement_words st) plain) ∙ words-said st h
