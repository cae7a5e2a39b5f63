-- Readings after whole statements and whole items: what they answer to a token that may follow.
use Rattle.std.proofs.Common.{◌≡◌, ℕ, List, ◌∷◌, Result, Err, refl, ap, ◌∙◌, cond, Bool, true, false}
use Rattle.std.specs.Prelude.{Some, None, is_some}
use Rattle.def_model.specs.declared.keyword.Keyword.{Keyword}
use Rattle.def_model.specs.declared.keyword.Keyword.TheVariants as kw
use Rattle.def_model.specs.Lexemes.{Lexeme, text, word, keyword, ending, is_stray, keyword_of_lexeme}
use Rattle.lx_types.specs.Answers.{◌>>=◌}
use Rattle.def_model.specs.declared.refusal.DefKind.{DefKind}
use Rattle.def_model.specs.declared.refusal.DefKind.TheVariants as kinds
use Rattle.def_model.specs.declared.draft.Draft.{Draft}
use Rattle.def_model.specs.declared.draft.Owner.{Owner}
use Rattle.def_model.specs.declared.draft.Owner.TheVariants as owners
use Rattle.def_model.specs.declared.draft.Words.{Words}
use Rattle.def_model.specs.declared.draft.Place.{Place}
use Rattle.def_model.specs.declared.draft.Reading.{Reading}
use Rattle.def_model.specs.Draft.{no_words}
use Rattle.def_model.specs.Reading.{step, token_at}
use Rattle.def_model.specs.Statements.{begun_by, is_second, statement, keyword_statement, window_word, library_word}
use Rattle.def_model.specs.Segments.{attribute, attributes, after_list, class_word}
use Rattle.def_file.proofs.SaysLaws.{says}
use Rattle.def_tokens.proofs.TokenLaws.{if-second}
use Rattle.def_grammar.specs.Statements.{Statement}
use Rattle.def_grammar.specs.Rules.{stands}
use Rattle.def_grammar.specs.Sayings.{said}
use Rattle.def_grammar.proofs.Standing.{second_is}

-- ---- tokens

-- It begins a statement, or is the file's end.
abbrev pub starts : Lexeme → Bool
starts ending = true
starts (keyword k) = is_some (begun_by k)
starts _ = false

-- It begins a statement or an item, or is the file's end.
abbrev pub follows : Lexeme → Bool
follows (text bytes) = true
follows (word bytes) = true
follows t = starts t

abbrev pub answer_at : Reading → Lexeme → Result Reading DefKind
answer_at r t = token_at r.draft r.place t

-- A token that is none of stray bytes.
pub answered : (r : Reading) (t : Lexeme) (ts : List Lexeme) (answer : Result Reading DefKind) → is_stray t ≡ false → answer_at r t ≡ answer
    → says r (t ∷ ts) ≡ (answer >>= (λ next. says next ts))
unfolding step
answered r t ts answer sound is = ap (λ a. a >>= (λ next. says next ts)) (if-second (is_stray t) _ _ sound ∙ is)

-- Two readings that answer a token alike go on alike.
pub answered_alike : (r q : Reading) (t : Lexeme) (ts : List Lexeme) → answer_at r t ≡ answer_at q t → says r (t ∷ ts) ≡ says q (t ∷ ts)
unfolding step
answered_alike r q t ts is = ap (λ a. cond (is_stray t) (Err kinds.Token) a >>= (λ next. says next ts)) is

-- ---- after statements

-- Whatever may follow is judged as after whole statements that say this.
abbrev pub IsAfter : Draft → Reading → Type 0
IsAfter d r = (t : Lexeme) → starts t ≡ true → answer_at r t ≡ statement d t

-- After a keyword that begins a statement.
pub begun : (ss : List Statement) (r : Reading) (k : Keyword) (p : Place) (ts : List Lexeme) → IsAfter (said ss) r → begun_by k ≡ Some p → stands k ss ≡ false
    → says r (keyword k ∷ ts) ≡ says (record { draft = said ss; place = p }) ts
unfolding step statement keyword_statement
begun ss r k p ts after is first =
    let some : is_some (begun_by k) ≡ true = ap is_some is in
    let not_second : is_second (said ss) k ≡ false = second_is ss k ∙ first in
    ap (λ a. a >>= (λ next. says next ts)) (after (keyword k) some)
    ∙ rw (is, not_second) refl

-- ---- which tokens are no words of a statement

pub no_window : (d : Draft) (t : Lexeme) → starts t ≡ true → window_word d (keyword_of_lexeme t) t ≡ statement d t
no_window d (keyword kw.Window) h = absurd cc
no_window d t h = refl

pub no_call : (d : Draft) (t : Lexeme) → starts t ≡ true → library_word d (keyword_of_lexeme t) t ≡ statement d t
no_call d (keyword (kw.Init each)) h = absurd cc
no_call d (keyword (kw.Term each)) h = absurd cc
no_call d t h = refl

pub no_attribute : (d : Draft) (list : Owner) (t : Lexeme) (w : Words) → follows t ≡ true → attribute d list w (keyword_of_lexeme t) t ≡ after_list d list w t
no_attribute d list (keyword (kw.Attribute pair on)) w h = absurd cc
no_attribute d list (keyword kw.NoEffect) w h = absurd cc
no_attribute d list t w h = refl

pub no_class : (d : Draft) (name : List ℕ) (t : Lexeme) → follows t ≡ true → class_word d name (keyword_of_lexeme t) t ≡ attributes d (owners.Segment name None) no_words t
no_class d name (keyword kw.Class) h = absurd cc
no_class d name t h = refl

pub starts_follows : (t : Lexeme) → starts t ≡ true → follows t ≡ true
starts_follows (text bytes) h = refl
starts_follows (word bytes) h = refl
starts_follows t h = h
