-- What a line says is within bounds.
use Rattle.std.proofs.Common.{◌≡◌, ℕ, ◌≤◌, ◌<◌, ◌^◌, ◌==◌, Bool, true, false, if◌then◌else◌, not, ◌&&◌, ◌||◌, List, [], ◌∷◌, length, Option, Some, None, option_map, option_and_then, refl, ap, subst, arith}
use Rattle.std.specs.Prelude.{codes, nat_lt, nat_le, drop}
use Rattle.std.specs.List.{list_any, list_all, AllByRecursion}
use Rattle.std.proofs.lemmas.Bool.{ltb-true, ltb-false, leb-true, eqb-false, and_parts, or_parts}
use Rattle.std.proofs.lemmas.Slice.Eq.{bytes_eq-Decides}
use Rattle.std.proofs.lemmas.Option.{same_Some}
use Rattle.lx_types.specs.declared.entry.EntryKey.{EntryKey}
use Rattle.lx_types.specs.declared.entry.EntryKey.TheVariants.{Ordinal, Named}
use Rattle.load_model.specs.declared.commands.Place.{Place}
use Rattle.load_model.specs.declared.commands.Command.{Command}
use Rattle.load_model.specs.declared.commands.Command.TheVariants.{Start, Load, Free, Touch, Peek, Shared, Write, Debug, Query, GetRes, Exit}
use Rattle.session_model.specs.declared.sessions.ModLine.TheVariants.{Take, Build}
use Rattle.session_model.specs.declared.sessions.SessionKind.{SessionKind}
use Rattle.session_model.specs.declared.sessions.SessionKind.TheVariants as kinds
use Rattle.session_model.specs.Lines.{is_allowed, words_in, any_number, below, number_in, hex_bytes}
use Rattle.session_model.specs.Statements.{Statement, gives, fails, process, command, Reading, nothing, says, wrong, or_wrong, place_of, length_in, place_in, begins_with_at, key_in, process_in, word_in, hex_in, write_of, is_word, has_bytes, word_count, is_long, has_long, is_within, two_words, failing_of, three_words, four_words, five_words, statement_of, by_count, is_comment, of_words, reading_of}
use Rattle.session_model.specs.declared.limits.TheConstants.{MAX_BYTES, MAX_WORD}
use Rattle.lx_types.specs.declared.limits.TheConstants.{MAX_PROCESSES}
use Rattle.session_model.specs.Bounds.{IsWord, IsNumber, IsPlace, IsReadable, IsWritten, IsKey, IsCommand, IsModLine, IsFailingLine}

-- a statement within bounds
abbrev pub IsStatement : Statement → Type 0
IsStatement (gives m) = IsModLine m
IsStatement (fails f) = IsFailingLine f
IsStatement (process n) = Unit {0}
IsStatement (command c) = IsCommand c

-- ---- options and tests

pub record Found {A B : Type 0} (f : A → Option B) (o : Option A) (y : B) : Type 0 where
  pub it : A
  pub there : o ≡ Some it
  pub gives : f it ≡ Some y

bind_some : {A B : Type 0} (f : A → Option B) (o : Option A) (y : B) → option_and_then f o ≡ Some y → Found f o y
bind_some f None y h = cc
bind_some f (Some x) y h = record { it = x; there = refl; gives = h }

map_some : {A B : Type 0} (f : A → B) (o : Option A) (y : B) → option_map f o ≡ Some y → Found (λ x. Some (f x)) o y
map_some f None y h = cc
map_some f (Some x) y h = record { it = x; there = refl; gives = h }

unless_some : {A : Type 0} (b : Bool) (x y : A) → (if b then None else Some x) ≡ Some y → (b ≡ false) × (x ≡ y)
unless_some true x y h = cc
unless_some false x y h = (let same : x ≡ y = cc in (refl, same))

where_some : {A : Type 0} (b : Bool) (x y : A) → (if b then Some x else None) ≡ Some y → (b ≡ true) × (x ≡ y)
where_some false x y h = cc
where_some true x y h = (let same : x ≡ y = cc in (refl, same))

pub said : (kind : SessionKind) (o : Option Statement) (st : Statement) → or_wrong kind o ≡ says st → o ≡ Some st
said kind None st h = cc
said kind (Some x) st h = (let same : x ≡ st = cc in ap Some same)

pub said_is : (x st : Statement) → says x ≡ says st → x ≡ st
said_is x st h = cc

-- ---- numbers

number_fits : (word : List ℕ) (n : ℕ) → number_in word ≡ Some n → IsNumber n
unfolding number_in
number_fits word n h =
    let f = bind_some (below (2 ^ 32)) (any_number word) n h in
    let it : (nat_lt f.it (2 ^ 32) ≡ true) × (f.it ≡ n) = where_some (nat_lt f.it (2 ^ 32)) f.it n f.gives in
    subst IsNumber it.1 (ltb-true f.it (2 ^ 32) it.0)

one_at_least : (n : ℕ) → (n == 0) ≡ false → 1 ≤ n
one_at_least n h = (let apart : n ≡ 0 → ⊥ = eqb-false n 0 h in omega (arith, apart))

pub record Length (most n : ℕ) : Type 0 where
  pub some : 1 ≤ n
  pub number : IsNumber n
  pub few : n ≤ most

any_length : (word : List ℕ) (n : ℕ) → length_in None word ≡ Some n → (1 ≤ n) × IsNumber n
any_length word n h =
    let f = bind_some (λ k. if k == 0 then None else Some k) (number_in word) n h in
    let it : ((f.it == 0) ≡ false) × (f.it ≡ n) = unless_some (f.it == 0) f.it n f.gives in
    (subst (λ k. 1 ≤ k) it.1 (one_at_least f.it it.0), subst IsNumber it.1 (number_fits word f.it f.there))

short_length : (most : ℕ) (word : List ℕ) (n : ℕ) → length_in (Some most) word ≡ Some n → Length most n
short_length most word n h =
    let f = bind_some (λ k. if (k == 0) || nat_lt most k then None else Some k) (number_in word) n h in
    let it : ((f.it == 0) || nat_lt most f.it ≡ false) × (f.it ≡ n) = unless_some ((f.it == 0) || nat_lt most f.it) f.it n f.gives in
    record {
      some = subst (λ k. 1 ≤ k) it.1 (one_at_least f.it (or_parts _ _ it.0).0);
      number = subst IsNumber it.1 (number_fits word f.it f.there);
      few = subst (λ k. k ≤ most) it.1 (ltb-false most f.it (or_parts _ _ it.0).1);
    }

pub record Parts (most : Option ℕ) (name object offset len : List ℕ) (p : Place) : Type 0 where
  pub o : ℕ
  pub x : ℕ
  pub n : ℕ
  pub object_is : number_in object ≡ Some o
  pub offset_is : number_in offset ≡ Some x
  pub length_is : length_in most len ≡ Some n
  pub is : place_of name o x n ≡ p

parts_of_place : (most : Option ℕ) (name object offset len : List ℕ) (p : Place) → place_in most name object offset len ≡ Some p → Parts most name object offset len p
parts_of_place most name object offset len p h =
    let f = bind_some (λ o. option_and_then (λ x. option_map (place_of name o x) (length_in most len)) (number_in offset)) (number_in object) p h in
    let g = bind_some (λ x. option_map (place_of name f.it x) (length_in most len)) (number_in offset) p f.gives in
    let k = map_some (place_of name f.it g.it) (length_in most len) p g.gives in
    record {
      o = f.it;
      x = g.it;
      n = k.it;
      object_is = f.there;
      offset_is = g.there;
      length_is = k.there;
      is = same_Some (place_of name f.it g.it k.it) p k.gives;
    }

any_place : (name object offset len : List ℕ) (p : Place) → IsWord name → place_in None name object offset len ≡ Some p → IsPlace p
any_place name object offset len p word h =
    let q = parts_of_place None name object offset len p h in
    let l = any_length len q.n q.length_is in
    subst IsPlace q.is (record {
      name = word;
      object = number_fits object q.o q.object_is;
      offset = number_fits offset q.x q.offset_is;
      some = l.0;
      length = l.1;
    })

short_place : (name object offset len : List ℕ) (p : Place) → IsWord name → place_in (Some MAX_BYTES) name object offset len ≡ Some p → IsReadable p
short_place name object offset len p word h =
    let q = parts_of_place (Some MAX_BYTES) name object offset len p h in
    let l = short_length MAX_BYTES len q.n q.length_is in
    subst IsReadable q.is (record {
      place = record {
        name = word;
        object = number_fits object q.o q.object_is;
        offset = number_fits offset q.x q.offset_is;
        some = l.some;
        length = l.number;
      };
      few = l.few;
    })

bytes_fit : (word bytes : List ℕ) → hex_in word ≡ Some bytes → (1 ≤ length bytes) × (length bytes ≤ MAX_BYTES)
bytes_fit word bytes h =
    let f = bind_some (λ bs. if (length bs == 0) || nat_lt MAX_BYTES (length bs) then None else Some bs) (hex_bytes word) bytes h in
    let it : ((length f.it == 0) || nat_lt MAX_BYTES (length f.it) ≡ false) × (f.it ≡ bytes) =
    unless_some ((length f.it == 0) || nat_lt MAX_BYTES (length f.it)) f.it bytes f.gives in (
      subst (λ bs. 1 ≤ length bs) it.1 (one_at_least (length f.it) (or_parts _ _ it.0).0),
      subst (λ bs. length bs ≤ MAX_BYTES) it.1 (ltb-false MAX_BYTES (length f.it) (or_parts _ _ it.0).1),
    )

number_16 : (word : List ℕ) (n : ℕ) → word_in word ≡ Some n → n < 2 ^ 16
number_16 word n h =
    let f = bind_some (λ k. if nat_lt k 0x1_0000 then Some k else None) (number_in word) n h in
    let it : (nat_lt f.it 0x1_0000 ≡ true) × (f.it ≡ n) = where_some (nat_lt f.it 0x1_0000) f.it n f.gives in
    subst (λ k. k < 2 ^ 16) it.1 (ltb-true f.it 0x1_0000 it.0)

process_fits : (word : List ℕ) (n : ℕ) → process_in word ≡ Some n → (1 ≤ n) × (n ≤ MAX_PROCESSES)
process_fits word n h =
    let f = bind_some (λ k. if nat_le 1 k && nat_le k MAX_PROCESSES then Some k else None) (number_in word) n h in
    let it : (nat_le 1 f.it && nat_le f.it MAX_PROCESSES ≡ true) × (f.it ≡ n) = where_some (nat_le 1 f.it && nat_le f.it MAX_PROCESSES) f.it n f.gives in
    (subst (λ k. 1 ≤ k) it.1 (leb-true 1 f.it (and_parts _ _ it.0).0), subst (λ k. k ≤ MAX_PROCESSES) it.1 (leb-true f.it MAX_PROCESSES (and_parts _ _ it.0).1))

key_fits : (word : List ℕ) (key : EntryKey) → IsWord word → key_in word ≡ Some key → IsKey key
key_fits word key short h = step (begins_with_at word) h
  where
    step : (b : Bool) → (if b then option_map Ordinal (number_in (drop 1 word)) else Some (Named word)) ≡ Some key → IsKey key
    step true h =
        let f = map_some Ordinal (number_in (drop 1 word)) key h in
        subst IsKey (same_Some (Ordinal f.it) key f.gives) (number_fits (drop 1 word) f.it f.there)
    step false h = subst IsKey (same_Some (Named word) key h) short

-- ---- words

word_short : (w : List ℕ) → is_long w ≡ false → IsWord w
word_short w h = ltb-false MAX_WORD (length w) h

all_short : (ws : List (List ℕ)) → list_any is_long ws ≡ false → AllByRecursion IsWord ws
all_short [] h = tt
all_short (w ∷ ws) h = (word_short w (or_parts _ _ h).0, all_short ws (or_parts _ _ h).1)

-- ---- statements

is_said : (x st : Statement) → IsStatement x → says x ≡ says st → IsStatement st
is_said x st good h = subst IsStatement (said_is x st h) good

two_good : (w a : List ℕ) (st : Statement) → IsWord a → two_words w a ≡ says st → IsStatement st
two_good w a st short h = one (is_word w (codes "take")) (is_word w (codes "start")) (is_word w (codes "load")) (is_word w (codes "free")) h
  where
    number : or_wrong kinds.Number (option_map process (number_in a)) ≡ says st → IsStatement st
    number h =
        let f = map_some process (number_in a) st (said kinds.Number (option_map process (number_in a)) st h) in
        subst IsStatement (same_Some (process f.it) st f.gives) tt

    one : (t s l f : Bool) →
        (if t then says (gives (Take a)) else if s then says (command (Start a)) else if l then says (command (Load a)) else if f then says (command (Free a))
        else or_wrong kinds.Number (option_map process (number_in a))) ≡ says st → IsStatement st
    one true s l f h = is_said (gives (Take a)) st short h
    one false true l f h = is_said (command (Start a)) st short h
    one false false true f h = is_said (command (Load a)) st short h
    one false false false true h = is_said (command (Free a)) st short h
    one false false false false h = number h

three_good : (w a b : List ℕ) (st : Statement) → IsWord a → IsWord b → three_words w a b ≡ says st → IsStatement st
three_good w a b st short_a short_b h = step (is_word w (codes "failing")) h
  where
    step : (f : Bool) →
        (if f then or_wrong kinds.Number (option_map (failing_of a) (process_in b)) else or_wrong kinds.Number (option_map (λ k. command (Query a k)) (key_in b))) ≡ says st →
        IsStatement st
    step true h =
        let f = map_some (failing_of a) (process_in b) st (said kinds.Number (option_map (failing_of a) (process_in b)) st h) in
        let it = process_fits b f.it f.there in
        subst IsStatement (same_Some (failing_of a f.it) st f.gives) (record { name = short_a; least = it.0; most = it.1 })
    step false h =
        let f = map_some (λ k. command (Query a k)) (key_in b) st (said kinds.Number (option_map (λ k. command (Query a k)) (key_in b)) st h) in
        subst IsStatement (same_Some (command (Query a f.it)) st f.gives) (short_a, key_fits b f.it short_b f.there)

four_good : (w a b c : List ℕ) (st : Statement) → IsWord a → IsWord b → IsWord c → four_words w a b c ≡ says st → IsStatement st
four_good w a b c st short_a short_b short_c h = step (is_word w (codes "getres")) h
  where
    step : (g : Bool) →
        (if g then or_wrong kinds.Number (option_and_then (λ ty. option_map (λ id. command (GetRes a ty id)) (word_in c)) (word_in b)) else says (gives (Build a b (c ∷ [])))) ≡ says st →
        IsStatement st
    step true h =
        let f = bind_some (λ ty. option_map (λ id. command (GetRes a ty id)) (word_in c)) (word_in b) st
        (said kinds.Number (option_and_then (λ ty. option_map (λ id. command (GetRes a ty id)) (word_in c)) (word_in b)) st h) in
        let g = map_some (λ id. command (GetRes a f.it id)) (word_in c) st f.gives in
        subst IsStatement (same_Some (command (GetRes a f.it g.it)) st g.gives) (short_a, number_16 b f.it f.there, number_16 c g.it g.there)
    step false h = is_said (gives (Build a b (c ∷ []))) st (short_a, short_b, omega arith, (short_c, tt)) h

written_good : (kind : Place → List ℕ → Command) (name object offset hex : List ℕ) (st : Statement) → IsWord name →
    ((p : Place) (bytes : List ℕ) → IsWritten p bytes → IsCommand (kind p bytes)) →
    write_of kind name (number_in object) (number_in offset) (hex_in hex) ≡ says st → IsStatement st
written_good kind name object offset hex st short good h = step (number_in object) refl (number_in offset) refl (hex_in hex) refl h
  where
    step : (o : Option ℕ) → number_in object ≡ o → (x : Option ℕ) → number_in offset ≡ x → (bs : Option (List ℕ)) → hex_in hex ≡ bs →
        write_of kind name o x bs ≡ says st → IsStatement st
    step None o_is x x_is bs bs_is h = cc
    step (Some o) o_is None x_is bs bs_is h = cc
    step (Some o) o_is (Some x) x_is None bs_is h = cc
    step (Some o) o_is (Some x) x_is (Some bytes) bs_is h =
        let fits : (1 ≤ length bytes) × (length bytes ≤ MAX_BYTES) = bytes_fit hex bytes bs_is in
        let some : 1 ≤ length bytes = fits.0 in
        let few : length bytes ≤ MAX_BYTES = fits.1 in
        let small : IsNumber (length bytes) = omega arith in
        is_said (command (kind (place_of name o x (length bytes)) bytes)) st
        (good (place_of name o x (length bytes)) bytes (record {
          place = record {
            place = record { name = short; object = number_fits object o o_is; offset = number_fits offset x x_is; some = some; length = small };
            few = few;
          };
          fit = refl;
        })) h

five_good : (w a b c d : List ℕ) (st : Statement) → IsWord a → five_words w a b c d ≡ says st → IsStatement st
five_good w a b c d st short h = one (is_word w (codes "touch")) (is_word w (codes "peek")) (is_word w (codes "shared")) (is_word w (codes "debug")) h
  where
    one : (t p s g : Bool) →
        (if t then or_wrong kinds.Number (option_map (λ q. command (Touch q)) (place_in None a b c d))
        else if p then or_wrong kinds.Number (option_map (λ q. command (Peek q)) (place_in (Some MAX_BYTES) a b c d))
        else if s then or_wrong kinds.Number (option_map (λ q. command (Shared q)) (place_in (Some MAX_BYTES) a b c d))
        else if g then write_of Debug a (number_in b) (number_in c) (hex_in d)
        else write_of Write a (number_in b) (number_in c) (hex_in d)) ≡ says st → IsStatement st
    one true p s g h =
        let f = map_some (λ q. command (Touch q)) (place_in None a b c d) st (said kinds.Number (option_map (λ q. command (Touch q)) (place_in None a b c d)) st h) in
        subst IsStatement (same_Some (command (Touch f.it)) st f.gives) (any_place a b c d f.it short f.there)
    one false true s g h =
        let f = map_some (λ q. command (Peek q)) (place_in (Some MAX_BYTES) a b c d) st (said kinds.Number (option_map (λ q. command (Peek q)) (place_in (Some MAX_BYTES) a b c d)) st h) in
        subst IsStatement (same_Some (command (Peek f.it)) st f.gives) (short_place a b c d f.it short f.there)
    one false false true g h =
        let f = map_some (λ q. command (Shared q)) (place_in (Some MAX_BYTES) a b c d) st (said kinds.Number (option_map (λ q. command (Shared q)) (place_in (Some MAX_BYTES) a b c d)) st h) in
        subst IsStatement (same_Some (command (Shared f.it)) st f.gives) (short_place a b c d f.it short f.there)
    one false false false true h = written_good Debug a b c d st short (λ p bytes good. good) h
    one false false false false h = written_good Write a b c d st short (λ p bytes good. good) h

no_bytes : (w : List ℕ) → is_word w (codes "build") ≡ true → has_bytes w ≡ false
no_bytes w is = (let same : w ≡ codes "build" = (bytes_eq-Decides w (codes "build")).0 is in ap has_bytes same)

pub words_good : (ws : List (List ℕ)) (st : Statement) → has_long ws ≡ false → statement_of ws ≡ says st → IsStatement st
words_good [] st short h = cc
words_good (w ∷ []) st short h = is_said (command Exit) st tt h
words_good (w ∷ a ∷ []) st short h = two_good w a st (word_short a (or_parts _ _ (or_parts _ _ short).1).0) h
words_good (w ∷ a ∷ b ∷ []) st short h =
    three_good w a b st (word_short a (or_parts _ _ (or_parts _ _ short).1).0) (word_short b (or_parts _ _ (or_parts _ _ (or_parts _ _ short).1).1).0) h
words_good (w ∷ a ∷ b ∷ c ∷ []) st short h =
    let all : AllByRecursion IsWord (w ∷ a ∷ b ∷ c ∷ []) = all_short (w ∷ a ∷ b ∷ c ∷ []) short in
    four_good w a b c st all.1.0 all.1.1.0 all.1.1.1.0 h
words_good (w ∷ a ∷ b ∷ c ∷ d ∷ ws) st short h =
    let all : AllByRecursion IsWord (w ∷ a ∷ b ∷ c ∷ ws) = all_short (w ∷ a ∷ b ∷ c ∷ ws) (or_parts _ _ short).0 in
    step (is_word w (codes "build")) refl all h
  where
    last : (x y : Bool) → x && not y ≡ false → y ≡ false → x ≡ false
    last x true h n = cc
    last true false h n = h
    last false false h n = refl

    step : (g : Bool) → is_word w (codes "build") ≡ g → AllByRecursion IsWord (w ∷ a ∷ b ∷ c ∷ ws) →
        (if g then says (gives (Build a b (c ∷ d ∷ ws))) else five_words w a b c d) ≡ says st → IsStatement st
    step true is all h =
        is_said (gives (Build a b (c ∷ d ∷ ws))) st
        (all.1.0, all.1.1.0, omega arith, (all.1.1.1.0, (word_short d (last (is_long d) (has_bytes w) (or_parts _ _ short).1 (no_bytes w is)), all.1.1.1.1))) h
    step false is all h = five_good w a b c d st all.1.0 h

-- ---- lines

pub not_wrong : (b : Bool) (kind : SessionKind) (r : Reading) (st : Statement) → (if b then wrong kind else r) ≡ says st → (b ≡ false) × (r ≡ says st)
not_wrong true kind r st h = cc
not_wrong false kind r st h = (refl, h)

pub not_nothing : (b : Bool) (r : Reading) (st : Statement) → (if b then nothing else r) ≡ says st → r ≡ says st
not_nothing true r st h = cc
not_nothing false r st h = h

counted : (counts : Option (ℕ × Option ℕ)) (ws : List (List ℕ)) (st : Statement) → by_count counts ws ≡ says st → IsStatement st
counted None ws st h = cc
counted (Some counts) ws st h =
    let it : (not (is_within (length ws) counts) || has_long ws ≡ false) × (statement_of ws ≡ says st) =
    not_wrong (not (is_within (length ws) counts) || has_long ws) kinds.Count (statement_of ws) st h in
    words_good ws st (or_parts _ _ it.0).1 it.1

said_by_words : (ws : List (List ℕ)) (st : Statement) → of_words ws ≡ says st → IsStatement st
said_by_words [] st h = cc
said_by_words (w ∷ ws) st h = counted (word_count w) (w ∷ ws) st (not_nothing (is_comment w) (by_count (word_count w) (w ∷ ws)) st h)

pub read_good : (line : List ℕ) (st : Statement) → reading_of line ≡ says st → IsStatement st
unfolding reading_of
read_good line st h = said_by_words (words_in line) st (not_wrong (not (list_all is_allowed line)) kinds.Byte (of_words (words_in line)) st h).1
