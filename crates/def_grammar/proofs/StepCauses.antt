-- Why a token is refused, by what else would be taken.
use Rattle.std.proofs.Common.{◌≡◌, ℕ, ◌<◌, List, [], ◌∷◌, length, Result, Ok, Err, refl, arith, sym, subst, cond, Bool, true, false, nat_lt, ◌&&◌, nat_le, ◌⊎◌, inr}
use Rattle.std.specs.Prelude.{◌==◌, ◌%◌, Option, Some, None, not, is_some}
use Rattle.std.proofs.lemmas.Bool.Decides.{nat_tests}
use Rattle.def_model.specs.declared.keyword.Keyword.{Keyword}
use Rattle.def_model.specs.declared.keyword.Pair.{Pair}
use Rattle.def_model.specs.declared.keyword.Pair.TheVariants as pairs
use Rattle.def_model.specs.Lexemes.{Lexeme, number, keyword, ending, name_of_lexeme, number_of_lexeme}
use Rattle.lx_types.specs.Answers.{◌>>=◌}
use Rattle.def_model.specs.declared.refusal.DefKind.{DefKind}
use Rattle.def_model.specs.declared.refusal.DefKind.TheVariants as kinds
use Rattle.def_model.specs.declared.draft.Words.{Words}
use Rattle.def_model.specs.declared.draft.Reading.{Reading}
use Rattle.def_model.specs.Attributes.{agreed, with_word}
use Rattle.def_model.specs.TokenMeaning.{name_of, text_of, within, base_of}
use Rattle.def_grammar.specs.Statements.{Statement, statements_then}
use Rattle.def_grammar.specs.Rules.{AreStatements, stands}
use Rattle.def_grammar.specs.Faults.{Value, alike, begins_statement, is_pair_word, HasBytes}
use Rattle.def_grammar.proofs.Answered.{good, refusal}
use Rattle.def_grammar.proofs.After.{answer_at}

-- ---- causes

-- The token is taken.
pub record Takes (r : Reading) (t : Lexeme) : Type 0 where
  pub reading : Reading
  pub is : answer_at r t ≡ Ok reading

pub record TakesAnother (r : Reading) (t : Lexeme) : Type 0 where
  pub value : Value
  pub takes : Takes r (alike t value)

abbrev pub TakesNone : Reading → Lexeme → Type 0
TakesNone r t = (v : Value) → Takes r (alike t v) → ⊥

pub record StandsIn (before : List Lexeme → List Lexeme) (t : Lexeme) : Type 0 where
  pub begun : Keyword
  pub is : t ≡ keyword begun
  pub statements : List Statement
  pub allowed : AreStatements statements
  pub spelled : before [] ≡ statements_then statements []
  pub again : stands begun statements ≡ true

abbrev pub StepCause : Reading → (List Lexeme → List Lexeme) → Lexeme → DefKind → Type 0
StepCause r before t kinds.Token = ⊥
StepCause r before t kinds.Statement = Takes r ending × (begins_statement t ≡ false) × TakesNone r t
StepCause r before t kinds.Expected =
    ((Takes r ending → ⊥) × TakesNone r t) ⊎ (HasBytes t (λ bytes. bytes ≡ []) × TakesAnother r t)
StepCause r before t kinds.Number = (is_some (number_of_lexeme t) ≡ true) × TakesAnother r t
StepCause r before t kinds.Conflict = (is_pair_word t ≡ true) × TakesAnother r t
StepCause r before t kinds.Twice = Takes r ending × StandsIn before t
StepCause r before t kinds.TooLong = HasBytes t (λ bytes. 255 < length bytes) × TakesAnother r t

pub kind_is : (j k : DefKind) → refusal j ≡ Err k → j ≡ k
kind_is j k h = cc

pub caused : (r : Reading) (before : List Lexeme → List Lexeme) (t : Lexeme) (j k : DefKind) → refusal j ≡ Err k → StepCause r before t j → StepCause r before t k
caused r before t j k h cause = subst (StepCause r before t) (kind_is j k h) cause

good_refused : (r : Reading) (k : DefKind) → good r ≡ Err k → ⊥
good_refused r k h = cc

pub good_not : {C : Type 0} (r : Reading) (k : DefKind) → good r ≡ Err k → C
good_not r k h = absurd (good_refused r k h)

-- ---- answers that are refused

pub data NameFault (bytes : List ℕ) (k : DefKind) : Type 0 where
  empty : bytes ≡ [] → k ≡ kinds.Expected → NameFault bytes k
  long : 255 < length bytes → k ≡ kinds.TooLong → NameFault bytes k

zero_of : (n : ℕ) → (n == 0) ≡ true → n ≡ 0
zero_of n h = grind (arith, nat_tests, h)

none_of : (bytes : List ℕ) → (length bytes == 0) ≡ true → bytes ≡ []
none_of [] h = refl
none_of (b ∷ bytes) h = absurd (omega (arith, zero_of (length (b ∷ bytes)) h))

text_refused : (bytes : List ℕ) (go : List ℕ → Reading) (k : DefKind) (c : Bool) → nat_lt 255 (length bytes) ≡ c
    → (cond c (Err kinds.TooLong) (Ok bytes) >>= (λ n. Ok (go n))) ≡ Err k → NameFault bytes k
text_refused bytes go k true is h = long (grind (arith, nat_tests, is)) (sym (kind_is kinds.TooLong k h))
text_refused bytes go k false is h = good_not (go bytes) k h

pub text_fault : (bytes : List ℕ) (go : List ℕ → Reading) (k : DefKind) → (text_of bytes >>= (λ n. Ok (go n))) ≡ Err k → NameFault bytes k
text_fault bytes go k h = text_refused bytes go k (nat_lt 255 (length bytes)) refl h

name_refused : (bytes : List ℕ) (go : List ℕ → Reading) (k : DefKind) (b : Bool) → (length bytes == 0) ≡ b
    → (cond b (Err kinds.Expected) (text_of bytes) >>= (λ n. Ok (go n))) ≡ Err k → NameFault bytes k
name_refused bytes go k true is h = empty (none_of bytes is) (sym (kind_is kinds.Expected k h))
name_refused bytes go k false is h = text_fault bytes go k h

pub name_fault : (bytes : List ℕ) (go : List ℕ → Reading) (k : DefKind) → (name_of bytes >>= (λ n. Ok (go n))) ≡ Err k → NameFault bytes k
name_fault bytes go k h = name_refused bytes go k (length bytes == 0) refl h

-- A name or text that is refused, where another is taken.
pub of_name : (r : Reading) (before : List Lexeme → List Lexeme) (t : Lexeme) (bytes : List ℕ) (k : DefKind) → name_of_lexeme t ≡ Some bytes → TakesAnother r t → NameFault bytes k
    → StepCause r before t k
of_name r before t bytes k is another (empty none kind) =
    subst (StepCause r before t) (sym kind) (inr (record { bytes = bytes; is = is; holds = none }, another))
of_name r before t bytes k is another (long more kind) =
    subst (StepCause r before t) (sym kind) (record { bytes = bytes; is = is; holds = more }, another)

within_refused : (low high n : ℕ) (go : ℕ → Reading) (k : DefKind) (b : Bool) → (cond b (Ok n) (Err kinds.Number) >>= (λ m. Ok (go m))) ≡ Err k → kinds.Number ≡ k
within_refused low high n go k true h = good_not (go n) k h
within_refused low high n go k false h = kind_is kinds.Number k h

pub number_fault : (low high : ℕ) (value : Option ℕ) (go : ℕ → Reading) (k : DefKind) → (within low high value >>= (λ n. Ok (go n))) ≡ Err k → kinds.Number ≡ k
number_fault low high None go k h = kind_is kinds.Number k h
number_fault low high (Some n) go k h = within_refused low high n go k (nat_le low n && nat_le n high) h

base_refused : (n : ℕ) (go : ℕ → Reading) (k : DefKind) (a : Bool)
    → ((cond a (Ok n) (Err kinds.Number) >>= (λ m. cond (m % 65536 == 0) (Ok m) (Err kinds.Number))) >>= (λ m. Ok (go m))) ≡ Err k → kinds.Number ≡ k
base_refused n go k true h = within_refused 0 0 n go k (n % 65536 == 0) h
base_refused n go k false h = kind_is kinds.Number k h

pub base_fault : (value : Option ℕ) (go : ℕ → Reading) (k : DefKind) → (base_of value >>= (λ n. Ok (go n))) ≡ Err k → kinds.Number ≡ k
base_fault None go k h = kind_is kinds.Number k h
base_fault (Some n) go k h = base_refused n go k (nat_le 0x10000 n && nat_le n 0x1FFF0000) h

pub of_number : (r : Reading) (before : List Lexeme → List Lexeme) (value : Option ℕ) (k : DefKind) → TakesAnother r (number value) → kinds.Number ≡ k → StepCause r before (number value) k
of_number r before value k another is = subst (StepCause r before (number value)) is (refl, another)

-- A word beside the other one of its pair: the kind, and that its other word would be taken.
pub record PairFault (x : Option Bool) (on : Bool) (k : DefKind) : Type 0 where
  pub kind : kinds.Conflict ≡ k
  pub other : agreed x (not on) ≡ Ok (Some (not on))

pub pair_fault : (x : Option Bool) (on : Bool) (go : Option Bool → Reading) (k : DefKind) → (agreed x on >>= (λ y. Ok (go y))) ≡ Err k → PairFault x on k
pair_fault None on go k h = good_not (go (Some on)) k h
pair_fault (Some true) true go k h = good_not (go (Some true)) k h
pair_fault (Some true) false go k h = record { kind = kind_is kinds.Conflict k h; other = refl }
pair_fault (Some false) true go k h = record { kind = kind_is kinds.Conflict k h; other = refl }
pair_fault (Some false) false go k h = good_not (go (Some false)) k h

pub record WordFault (w : Words) (p : Pair) (on : Bool) (k : DefKind) : Type 0 where
  pub kind : kinds.Conflict ≡ k
  pub words : Words
  pub other : with_word w p (not on) ≡ Ok words

record SetFault (x : Option Bool) (on : Bool) (set : Option Bool → Words) (k : DefKind) : Type 0 where
  pub kind : kinds.Conflict ≡ k
  pub other : (agreed x (not on) >>= (λ y. Ok (set y))) ≡ Ok (set (Some (not on)))

abbrev answered_words : Words → Result Words DefKind
answered_words w = Ok w

set_fault : (x : Option Bool) (on : Bool) (set : Option Bool → Words) (go : Words → Reading) (k : DefKind) → ((agreed x on >>= (λ y. answered_words (set y))) >>= (λ m. Ok (go m))) ≡ Err k
    → SetFault x on set k
set_fault None on set go k h = good_not (go (set (Some on))) k h
set_fault (Some true) true set go k h = good_not (go (set (Some true))) k h
set_fault (Some true) false set go k h = record { kind = kind_is kinds.Conflict k h; other = refl }
set_fault (Some false) true set go k h = record { kind = kind_is kinds.Conflict k h; other = refl }
set_fault (Some false) false set go k h = good_not (go (set (Some false))) k h

pub word_fault : (w : Words) (p : Pair) (on : Bool) (go : Words → Reading) (k : DefKind) → (with_word w p on >>= (λ m. Ok (go m))) ≡ Err k → WordFault w p on k
unfolding with_word
word_fault w pairs.Write on go k h = let f = set_fault w.write on (λ x. record w { write = x }) go k h in record { kind = f.kind; words = _; other = f.other }
word_fault w pairs.Read on go k h = let f = set_fault w.read on (λ x. record w { read = x }) go k h in record { kind = f.kind; words = _; other = f.other }
word_fault w pairs.Shared on go k h = let f = set_fault w.shared on (λ x. record w { shared = x }) go k h in record { kind = f.kind; words = _; other = f.other }
word_fault w pairs.Preload on go k h = let f = set_fault w.preload on (λ x. record w { preload = x }) go k h in record { kind = f.kind; words = _; other = f.other }
word_fault w pairs.Conforming on go k h = let f = set_fault w.conforming on (λ x. record w { conforming = x }) go k h in record { kind = f.kind; words = _; other = f.other }
word_fault w pairs.Iopl on go k h = let f = set_fault w.iopl on (λ x. record w { iopl = x }) go k h in record { kind = f.kind; words = _; other = f.other }

pub of_pair : (r : Reading) (before : List Lexeme → List Lexeme) (t : Lexeme) (k : DefKind) → is_pair_word t ≡ true → TakesAnother r t → kinds.Conflict ≡ k → StepCause r before t k
of_pair r before t k is another kind = subst (StepCause r before t) kind (is, another)
