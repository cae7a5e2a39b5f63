-- Words of attributes and of calls: a word is taken exactly where the other word of its pair does not stand.
use Rattle.std.proofs.Common.{◌≡◌, List, [], ◌∷◌, Result, Ok, Err, refl, ap, sym, subst, ◌∙◌, cond, Bool, true, false, ◌&&◌, ◌||◌}
use Rattle.std.specs.Prelude.{Option, Some, not}
use Rattle.std.specs.List.{list_any}
use Rattle.def_model.specs.declared.keyword.Pair.{Pair}
use Rattle.def_model.specs.declared.keyword.Pair.TheVariants as pairs
use Rattle.lx_types.specs.Answers.{◌>>=◌}
use Rattle.def_model.specs.declared.refusal.DefKind.{DefKind}
use Rattle.def_model.specs.declared.refusal.DefKind.TheVariants as kinds
use Rattle.def_model.specs.declared.draft.Words.{Words}
use Rattle.def_model.specs.Attributes.{agreed, with_word}
use Rattle.def_grammar.specs.Statements.{AttributeWord, sets, idle, CallWord, initial, terminal}
use Rattle.def_grammar.specs.Rules.{same_pair, other_attribute, other_call, AttributesAgree, CallsAgree}
use Rattle.def_grammar.specs.Sayings.{setting, words_of, initially, finally}
use Rattle.def_grammar.proofs.Answered.{bound_either}

pair_is : (p q : Pair) → same_pair p q ≡ true → p ≡ q
pair_is pairs.Write pairs.Write h = refl
pair_is pairs.Write q h = absurd cc
pair_is pairs.Read pairs.Read h = refl
pair_is pairs.Read q h = absurd cc
pair_is pairs.Shared pairs.Shared h = refl
pair_is pairs.Shared q h = absurd cc
pair_is pairs.Preload pairs.Preload h = refl
pair_is pairs.Preload q h = absurd cc
pair_is pairs.Conforming pairs.Conforming h = refl
pair_is pairs.Conforming q h = absurd cc
pair_is pairs.Iopl pairs.Iopl h = refl
pair_is pairs.Iopl q h = absurd cc

-- The answer to a word, where the other word of its pair stands or does not.
abbrev pub answer : Bool → Bool → Result (Option Bool) DefKind
answer other on = cond other (Err kinds.Conflict) (Ok (Some on))

-- One word more before it: s, that it is of the pair.
set_on : (s b : Bool) (before : Option Bool) (others : Bool) → (s ≡ true → b ≡ true → others ≡ false) → agreed before true ≡ answer others true
    → agreed (cond s (Some b) before) true ≡ answer (s && not b || others) true
set_on true true before others none h = ap (λ o. answer o true) (sym (none refl refl))
set_on true false before others none h = refl
set_on false b before others none h = h

set_off : (s b : Bool) (before : Option Bool) (others : Bool) → (s ≡ true → b ≡ false → others ≡ false) → agreed before false ≡ answer others false
    → agreed (cond s (Some b) before) false ≡ answer (s && b || others) false
set_off true true before others none h = refl
set_off true false before others none h = ap (λ o. answer o false) (sym (none refl refl))
set_off false b before others none h = h

pub agreed_is : (words : List AttributeWord) (p : Pair) (on : Bool) → AttributesAgree words → agreed (setting words p) on ≡ answer (list_any (other_attribute (sets p on)) words) on
agreed_is [] p true h = refl
agreed_is [] p false h = refl
agreed_is (idle ∷ before) p true h = agreed_is before p true h.1
agreed_is (idle ∷ before) p false h = agreed_is before p false h.1
agreed_is (sets q b ∷ before) p true h =
    set_on (same_pair q p) b (setting before p) (list_any (other_attribute (sets p true)) before)
    (λ same on. subst (λ (w : AttributeWord). list_any (other_attribute w) before ≡ false) (ap (λ r. sets r b) (pair_is q p same) ∙ ap (sets p) on) h.0)
    (agreed_is before p true h.1)
agreed_is (sets q b ∷ before) p false h =
    set_off (same_pair q p) b (setting before p) (list_any (other_attribute (sets p false)) before)
    (λ same on. subst (λ (w : AttributeWord). list_any (other_attribute w) before ≡ false) (ap (λ r. sets r b) (pair_is q p same) ∙ ap (sets p) on) h.0)
    (agreed_is before p false h.1)

-- The words with one more.
abbrev pub one_more : List AttributeWord → Pair → Bool → Result Words DefKind
one_more words p on = cond (list_any (other_attribute (sets p on)) words) (Err kinds.Conflict) (Ok (words_of (sets p on ∷ words)))

pub word_taken : (words : List AttributeWord) (p : Pair) (on : Bool) → AttributesAgree words → with_word (words_of words) p on ≡ one_more words p on
unfolding with_word
word_taken words pairs.Write on h =
    ap (λ a. a >>= (λ x. Ok (record (words_of words) { write = x }))) (agreed_is words pairs.Write on h) ∙ bound_either (list_any (other_attribute (sets pairs.Write on)) words) _ _ _
word_taken words pairs.Read on h =
    ap (λ a. a >>= (λ x. Ok (record (words_of words) { read = x }))) (agreed_is words pairs.Read on h) ∙ bound_either (list_any (other_attribute (sets pairs.Read on)) words) _ _ _
word_taken words pairs.Shared on h =
    ap (λ a. a >>= (λ x. Ok (record (words_of words) { shared = x }))) (agreed_is words pairs.Shared on h) ∙ bound_either (list_any (other_attribute (sets pairs.Shared on)) words) _ _ _
word_taken words pairs.Preload on h =
    ap (λ a. a >>= (λ x. Ok (record (words_of words) { preload = x }))) (agreed_is words pairs.Preload on h) ∙ bound_either (list_any (other_attribute (sets pairs.Preload on)) words) _ _ _
word_taken words pairs.Conforming on h =
    ap (λ a. a >>= (λ x. Ok (record (words_of words) { conforming = x }))) (agreed_is words pairs.Conforming on h) ∙ bound_either
    (list_any (other_attribute (sets pairs.Conforming on)) words) _ _ _
word_taken words pairs.Iopl on h =
    ap (λ a. a >>= (λ x. Ok (record (words_of words) { iopl = x }))) (agreed_is words pairs.Iopl on h) ∙ bound_either (list_any (other_attribute (sets pairs.Iopl on)) words) _ _ _

-- ---- calls

pub initially_is : (calls : List CallWord) (each : Bool) → CallsAgree calls → agreed (initially calls) each ≡ answer (list_any (other_call (initial each)) calls) each
initially_is [] true h = refl
initially_is [] false h = refl
initially_is (terminal b ∷ before) true h = initially_is before true h.1
initially_is (terminal b ∷ before) false h = initially_is before false h.1
initially_is (initial true ∷ before) true h = ap (λ o. answer o true) (sym h.0)
initially_is (initial false ∷ before) true h = refl
initially_is (initial true ∷ before) false h = refl
initially_is (initial false ∷ before) false h = ap (λ o. answer o false) (sym h.0)

pub finally_is : (calls : List CallWord) (each : Bool) → CallsAgree calls → agreed (finally calls) each ≡ answer (list_any (other_call (terminal each)) calls) each
finally_is [] true h = refl
finally_is [] false h = refl
finally_is (initial b ∷ before) true h = finally_is before true h.1
finally_is (initial b ∷ before) false h = finally_is before false h.1
finally_is (terminal true ∷ before) true h = ap (λ o. answer o true) (sym h.0)
finally_is (terminal false ∷ before) true h = refl
finally_is (terminal true ∷ before) false h = refl
finally_is (terminal false ∷ before) false h = ap (λ o. answer o false) (sym h.0)

-- A word that changes nothing is the other word of none.
pub none_other : (words : List AttributeWord) → list_any (other_attribute idle) words ≡ false
none_other [] = refl
none_other (w ∷ words) = none_other words
