-- The words of numbers, modules, addresses and bytes: they have no breaks, and each tells what it is the word of.
use Rattle.std.proofs.Common.{◌≡◌, ℕ, ◌+◌, ◌*◌, ◌-◌, ◌^◌, ◌<◌, ◌≤◌, ◌⊎◌, inl, inr, ◌==◌, Bool, true, false, if◌then◌else◌, length, List, [], ◌∷◌, ◌++◌, map, refl, sym, ◌∙◌, ap, arith, append-nil}
use Rattle.std.specs.Prelude.{decimal}
use Rattle.std.specs.List.{AllByRecursion, list_all, fold}
use Rattle.std.proofs.lemmas.Bool.{cases_Bool, and_from, and_parts}
use Rattle.std.proofs.lemmas.Bool.Decides.{nat_tests}
use Rattle.std.proofs.lemmas.Fmt.{decimal_injective, decimal_nonempty, digits_decimal}
use Rattle.std.proofs.lemmas.Str.Parse.{IsNumeralModel, IsDigitsTest, FoldsDigits, numerals_by_fold}
use Rattle.lx_types.specs.Escaped.{hex_byte, hex_address, is_plain, escaped_byte, escaped}
use Rattle.load_model.specs.Modules.{Library, name_of}
use Rattle.session_model.specs.Lines.{is_digit}
use Rattle.session_model.specs.Transcript.{module_text}
use Rattle.dump_model.specs.Words.{IsWord}
use Rattle.dump_model.proofs.NumberLaws.{count-word}
use Rattle.dump_model.proofs.FlagLaws.{byte-one, address-one, address-word, digits-word, digits-of-byte}
use Rattle.dump_model.proofs.EscapeLaws.{plain-text, escape-text, escaped-word, front-names}
use Rattle.check_model.specs.Told.{IsByte, Has32, Has64, IsModuleOf}
use Rattle.transcript_laws.specs.TellsOne.{HasNames}
use Rattle.transcript_laws.proofs.RowKinds.{kind, map_one}

-- ---- numbers

pub number_one : (m n : ℕ) → Has64 m → Has64 n → decimal m ≡ decimal n → m ≡ n
number_one m n hm hn is = decimal_injective m n hm hn is

pub numbers_one : (ms ns : List ℕ) → AllByRecursion Has64 ms → AllByRecursion Has64 ns → map decimal ms ≡ map decimal ns → ms ≡ ns
numbers_one ms ns hm hn is = map_one decimal Has64 number_one ms ns hm hn is

digit-in : (c : ℕ) → is_digit c ≡ true → (48 ≤ c) × (c ≤ 57)
digit-in c h = (grind (arith, nat_tests), grind (arith, nat_tests))

digit-is : (c : ℕ) → (48 ≤ c) × (c ≤ 57) → is_digit c ≡ true
digit-is c h = grind (arith, nat_tests)

our-digits : IsDigitsTest (λ ds. list_all is_digit ds ≡ true)
our-digits = record {
  empty = refl;
  parts = λ c cs h. (digit-in c (and_parts (is_digit c) (list_all is_digit cs) h).0, (and_parts (is_digit c) (list_all is_digit cs) h).1);
  more = λ c cs h k. and_from (is_digit c) (list_all is_digit cs) (digit-is c h) k;
}

abbrev value_of : ℕ → List ℕ → ℕ
value_of n ds = fold (λ v d. v * 10 + (d - 48)) n ds

our-value : FoldsDigits (λ start ds. value_of start ds)
our-value = record { empty = λ n. refl; more = λ n c cs h. refl }

our-numerals : IsNumeralModel (λ ds. list_all is_digit ds ≡ true) (value_of 0)
our-numerals = numerals_by_fold _ our-digits _ our-value

-- a line that begins with a number
pub number_kind : (n : ℕ) (ws : List (List ℕ)) → Has64 n → kind (decimal n ∷ ws) ≡ 4
number_kind n ws small = of (decimal n) (decimal_nonempty n small) (digits_decimal our-numerals n small)
  where
    of : (ds : List ℕ) → 0 < length ds → list_all is_digit ds ≡ true → kind (ds ∷ ws) ≡ 4
    of [] some h = absurd (let none : ⊥ = omega arith in none)
    of (d ∷ ds) some h = ap (λ (b : Bool). if b then 4 else if d == 0x70 then 5 else 6) (and_parts (is_digit d) (list_all is_digit ds) h).0

-- ---- modules

none_escaped : (c : ℕ) (more : List ℕ) → [] ≡ escaped (c ∷ more) → ⊥
none_escaped c more is = by_cases (cases_Bool (is_plain c))
  where
    by_cases : (is_plain c ≡ true) ⊎ (is_plain c ≡ false) → ⊥
    by_cases (inl p) = let no : [] ≡ c ∷ escaped more = is ∙ ap (λ x. x ++ escaped more) (plain-text c p) in cc (no)
    by_cases (inr p) = let no : [] ≡ 0x25 ∷ (hex_byte c ++ escaped more) = is ∙ ap (λ x. x ++ escaped more) (escape-text c p) in cc (no)

escaped_one : (a b : List ℕ) → AllByRecursion IsByte a → AllByRecursion IsByte b → escaped a ≡ escaped b → a ≡ b
escaped_one a b ha hb is =
    let more = front-names b a [] [] hb ha (inr refl) (is ∙ sym (append-nil (escaped b)) ∙ sym (append-nil (escaped b ++ []))) in
    only more.0 more.3 more.2
  where
    only : (more : List ℕ) → [] ≡ escaped more → a ≡ b ++ more → a ≡ b
    only [] none same = same ∙ append-nil b
    only (c ∷ more) none same = absurd (none_escaped c more none)

pub module_one : (lib : Library) → HasNames lib → (m n : ℕ) → IsModuleOf lib m → IsModuleOf lib n → module_text lib m ≡ module_text lib n → m ≡ n
module_one lib names m n hm hn is = names.apart m n hm hn (escaped_one (name_of lib m) (name_of lib n) (names.bytes m hm) (names.bytes n hn) is)

pub modules_one : (lib : Library) → HasNames lib → (ms ns : List ℕ) → AllByRecursion (IsModuleOf lib) ms → AllByRecursion (IsModuleOf lib) ns →
    map (module_text lib) ms ≡ map (module_text lib) ns → ms ≡ ns
modules_one lib names ms ns hm hn is = map_one (module_text lib) (IsModuleOf lib) (module_one lib names) ms ns hm hn is

pub module_word : (lib : Library) (m : ℕ) → IsWord (module_text lib m)
module_word lib m = escaped-word (name_of lib m)

-- ---- addresses and bytes

pub addresses_one : (ms ns : List ℕ) → AllByRecursion Has32 ms → AllByRecursion Has32 ns → map hex_address ms ≡ map hex_address ns → ms ≡ ns
addresses_one ms ns hm hn is = map_one hex_address Has32 address-one ms ns hm hn is

pub bytes_one : (ms ns : List ℕ) → AllByRecursion IsByte ms → AllByRecursion IsByte ns → map hex_byte ms ≡ map hex_byte ns → ms ≡ ns
bytes_one ms ns hm hn is = map_one hex_byte IsByte (λ a b ha hb same. (byte-one a b ha hb [] [] same).0) ms ns hm hn is

pub addresses_words : (ms : List ℕ) → AllByRecursion IsWord (map hex_address ms)
addresses_words [] = tt
addresses_words (m ∷ ms) = (address-word m, addresses_words ms)

pub bytes_are_words : (bs : List ℕ) → AllByRecursion IsWord (map hex_byte bs)
bytes_are_words [] = tt
bytes_are_words (b ∷ bs) = (digits-word (hex_byte b) (digits-of-byte b), bytes_are_words bs)

pub numbers_words : (ms : List ℕ) → AllByRecursion Has64 ms → AllByRecursion IsWord (map decimal ms)
numbers_words [] h = tt
numbers_words (m ∷ ms) h = (count-word m h.0, numbers_words ms h.1)
