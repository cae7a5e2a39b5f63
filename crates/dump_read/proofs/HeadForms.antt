-- The line of the module, as it is read.
use Rattle.std.proofs.Common.{◌≡◌, ℕ, zero, suc, ◌≤◌, ◌<◌, Bool, true, false, List, [], ◌∷◌, ◌++◌, length, Option, Some, None, refl, sym, subst, ap, ◌∙◌, arith, append_assoc, append-nil, inl, inr, ◌⊎◌}
use Rattle.std.specs.Prelude.{codes, decimal, ◌==◌}
use Rattle.lx_types.specs.Escaped.{hex_address}
use Rattle.dump_model.specs.Bounds.{Has32, IsPair, IsListedName}
use Rattle.dump_model.specs.Lines.{name_word, kind_word, start_words}
use Rattle.dump_read.specs.declared.head.ModuleHead.{ModuleHead}
use Rattle.dump_model.specs.Words.{no_break}
use Rattle.dump_read.specs.Taken.{IsPiece, State, Reads, shut, Takes}
use Rattle.dump_read.specs.Settled.{IsNext, ended_by, piece_at, TakesOne}
use Rattle.dump_read.specs.Parts.{Any, start_text, IsStart, IsModuleHead, module_head_line}
use Rattle.dump_read.proofs.Fronts.{is-front, append-same}
use Rattle.dump_read.proofs.After.{reads-after}
use Rattle.dump_read.proofs.Forms.{IsCode, IsView, code-form, code-piece, code-word, code-then, code-pair, code-as, code-one, read-then, read-pair, read-as, same-words, front-broken, nothing-reads}
use Rattle.dump_read.proofs.Lists.{read-else, next-stays}
use Rattle.dump_read.proofs.Steps.{ArePieces, pieces-test, piece-test}
use Rattle.dump_read.proofs.NameLaws.{name-words}
use Rattle.dump_model.proofs.NumberLaws.{number-word}
use Rattle.dump_model.proofs.FlagLaws.{flags-words}
use Rattle.dump_read.proofs.LineTexts.{lead-words, blank-broken, two, code-two, read-two, two-line}

-- ---- where the module starts

abbrev pub none_text : List ℕ
none_text = codes "none" ++ 0x0A ∷ []

none-piece : IsPiece none_text
none-piece = piece-test none_text refl

-- no number is `none`
none-other : (p : ℕ × ℕ) (r s : List ℕ) → IsPair p → none_text ++ r ≡ two 0x0A p ++ s → ⊥
none-other p r s h is =
    let same = same-words (codes "none") (decimal p.0) r ((decimal p.1 ++ 0x0A ∷ []) ++ s) 0x0A 0x20 refl (number-word p.0 h.0) refl refl
    (is ∙ regroup (decimal p.0) (decimal p.1 ++ 0x0A ∷ []) s) in
    omega (arith, same.1)
  where
    regroup : (a b c : List ℕ) → ((a ++ 0x20 ∷ []) ++ b) ++ c ≡ a ++ 0x20 ∷ (b ++ c)
    regroup a b c = append_assoc (a ++ 0x20 ∷ []) b c ∙ append_assoc a (0x20 ∷ []) (b ++ c)

start-one : (a b : Option (ℕ × ℕ)) (r s : List ℕ) → IsStart a → IsStart b → start_text a ++ r ≡ start_text b ++ s → (a ≡ b) × (r ≡ s)
start-one None None r s ha hb is = (refl, append-same none_text r s is)
start-one None (Some p) r s ha hb is = absurd (none-other p r s hb (is ∙ ap (λ x. x ++ s) (two-line p.0 p.1)))
start-one (Some p) None r s ha hb is = absurd (none-other p s r ha (sym is ∙ ap (λ x. x ++ r) (two-line p.0 p.1)))
start-one (Some p) (Some q) r s ha hb is =
    let same = (code-two 0x0A refl).one p q r s ha hb (ap (λ x. x ++ r) (sym (two-line p.0 p.1)) ∙ is ∙ ap (λ x. x ++ s) (two-line q.0 q.1)) in
    (ap Some same.0, same.1)

start-ended : (a : Option (ℕ × ℕ)) → IsStart a → no_break (start_text a) ≡ false
start-ended None h = refl
start-ended (Some p) h = ap no_break (two-line p.0 p.1) ∙ front-broken (decimal p.0 ++ 0x20 ∷ []) (decimal p.1 ++ 0x0A ∷ []) (blank-broken (decimal p.0))

code-start : IsCode start_text IsStart
code-start = record { some = None; inside = tt; one = start-one; ended = start-ended }

-- `none` stands next, and is taken
pub none-reads : (old mid new : State) → IsNext none_text true old mid → Takes none_text mid new → Reads start_text IsStart shut None old new
none-reads old mid new next takes =
    let first : Takes none_text old new = subst (λ s. Takes none_text s new) next.0 takes in
    let front = is-front none_text old.left next.2 in
    reads-after {A = Unit {0}} {B = Unit {0}} (λ _. none_text) (λ _. Unit {0}) shut (λ _. []) (λ _. Unit {0}) shut start_text IsStart shut tt tt (λ _. None) old new new
    (code-form {A = Unit {0}} (λ _. none_text) (λ _. Unit {0}) (code-piece none_text refl)) (λ _ _ _. refl)
    (record {
      into = λ _ _ _. tt;
      text = λ _ _ _. refl;
      opens = λ _ _ _. refl;
      back = λ c r s _ h _ _ is. back c r s h is;
      starts = λ _ _. (None, [], tt, refl);
      begins = λ c u x r s h _ left is.
          let there = next-stays none_text old.left front.0 u x r none-piece front.1 left in (tt, there.0, tt, tt, sym is ∙ there.1);
    })
    first (nothing-reads new)
  where
    back : (c : Option (ℕ × ℕ)) (r s : List ℕ) → IsStart c → none_text ++ r ≡ start_text c ++ s → (u : Unit {0}) × Unit {0} × (c ≡ None)
    back None r s h is = (tt, tt, refl)
    back (Some p) r s h is = absurd (none-other p r s h (is ∙ ap (λ x. x ++ s) (two-line p.0 p.1)))

pub some-reads : (m n : ℕ) (old mid next new : State) → IsNext none_text false old mid → Reads (ended_by 0x20 decimal) Has32 shut m mid next
    → Reads (ended_by 0x0A decimal) Has32 shut n next new → Reads start_text IsStart shut (Some (m, n)) old new
some-reads m n old mid next new other first second =
    read-else none_text (two 0x0A) IsPair start_text IsStart Some (m, n) old mid new none-piece
    (record {
      into = λ p h. h;
      text = λ p h. two-line p.0 p.1;
      back = back;
      some = (None, [], tt, sym (append-nil none_text));
      ended = λ p h. front-broken (decimal p.0 ++ 0x20 ∷ []) (decimal p.1 ++ 0x0A ∷ []) (blank-broken (decimal p.0));
    })
    other (read-two 0x0A m n mid next new refl first second)
  where
    back : (c : Option (ℕ × ℕ)) → IsStart c → ((p : ℕ × ℕ) × IsPair p × (c ≡ Some p)) ⊎ ((rest : List ℕ) × (start_text c ≡ none_text ++ rest))
    back None h = inr ([], sym (append-nil none_text))
    back (Some p) h = inl (p, h, refl)

-- ---- whether it is a library

abbrev pub kind_pieces : List (List ℕ)
kind_pieces = codes "program " ∷ codes "library " ∷ []

kind-pieces : ArePieces kind_pieces
kind-pieces = pieces-test kind_pieces refl

kind-view : IsView (piece_at kind_pieces) (λ k. k < 2) (ended_by 0x20 kind_word) Any (λ k. k == 1)
kind-view = record { into = λ _ _. tt; text = text; back = λ b _. back b }
  where
    text : (k : ℕ) → k < 2 → kind_word (k == 1) ++ 0x20 ∷ [] ≡ piece_at kind_pieces k
    text zero lt = refl
    text (suc zero) lt = refl
    text (suc (suc k)) lt = absurd (omega arith)

    back : (b : Bool) → (k : ℕ) × (k < 2) × (b ≡ (k == 1))
    back true = (1, omega arith, refl)
    back false = (0, omega arith, refl)

pub kind-reads : (k : ℕ) (old new : State) → TakesOne kind_pieces k old new → Reads (ended_by 0x20 kind_word) Any shut (k == 1) old new
kind-reads k old new takes = read-as (piece_at kind_pieces) (λ j. j < length kind_pieces) (ended_by 0x20 kind_word) Any (λ j. j == 1) k old new kind-view takes

code-kind : IsCode (ended_by 0x20 kind_word) Any
code-kind =
    code-as (piece_at kind_pieces) (λ k. k < length kind_pieces) (ended_by 0x20 kind_word) Any (λ k. k == 1)
    (code-one kind_pieces kind-pieces.all kind-pieces.distinct kind-pieces.any) kind-view

-- ---- the line

abbrev M1 : Type 0
M1 = ℕ × Option (ℕ × ℕ)

abbrev M2 : Type 0
M2 = Bool × M1

abbrev M3 : Type 0
M3 = List ℕ × M2

abbrev flag_text : ℕ → List ℕ
flag_text n = ended_by 0x20 hex_address n

abbrev mod1 : Option (ℕ × ℕ) → List ℕ
mod1 s = codes "start " ++ start_text s

abbrev mod2 : M1 → List ℕ
mod2 p = flag_text p.0 ++ mod1 p.1

abbrev mod3 : M1 → List ℕ
mod3 p = codes "flags " ++ mod2 p

abbrev mod4 : M2 → List ℕ
mod4 p = ended_by 0x20 kind_word p.0 ++ mod3 p.1

abbrev mod5 : M3 → List ℕ
mod5 p = ended_by 0x20 name_word p.0 ++ mod4 p.1

abbrev mod6 : M3 → List ℕ
mod6 p = codes "module " ++ mod5 p

abbrev In1 : M1 → Type 0
In1 p = Has32 p.0 × IsStart p.1

abbrev In2 : M2 → Type 0
In2 p = Unit {0} × In1 p.1

abbrev In3 : M3 → Type 0
In3 p = IsListedName p.0 × In2 p.1

code-flags : IsCode flag_text Has32
code-flags = code-word hex_address Has32 0x20 flags-words refl

mcode1 : IsCode mod1 IsStart
mcode1 = code-then (codes "start ") start_text IsStart refl code-start

mcode2 : IsCode mod2 In1
mcode2 = code-pair flag_text Has32 mod1 IsStart code-flags mcode1

mcode3 : IsCode mod3 In1
mcode3 = code-then (codes "flags ") mod2 In1 refl mcode2

mcode4 : IsCode mod4 In2
mcode4 = code-pair (ended_by 0x20 kind_word) Any mod3 In1 code-kind mcode3

code-name : IsCode (ended_by 0x20 name_word) IsListedName
code-name = code-word name_word IsListedName 0x20 name-words refl

mcode5 : IsCode mod5 In3
mcode5 = code-pair (ended_by 0x20 name_word) IsListedName mod4 In2 code-name mcode4

abbrev head_of : M3 → ModuleHead
head_of p = record { name = p.0; library = p.1.0; flags = p.1.1.0; start = p.1.1.1 }

some-start : (s : Option (ℕ × ℕ)) → 1 ≤ length (start_words s)
some-start None = omega arith
some-start (Some p) = omega arith

module-text : (p : M3) → module_head_line (head_of p) ≡ mod6 p
module-text p =
    let h = head_of p in
    lead-words (codes "module" ∷ name_word h.name ∷ kind_word h.library ∷ codes "flags" ∷ hex_address h.flags ∷ codes "start" ∷ []) (start_words h.start) (some-start h.start)
    ∙ regroup (codes "module ") (name_word h.name ++ 0x20 ∷ []) (kind_word h.library ++ 0x20 ∷ []) (codes "flags ") (hex_address h.flags ++ 0x20 ∷ []) (codes "start ")
    (start_text h.start)
  where
    regroup : (a b c d e f n : List ℕ) → (a ++ (b ++ (c ++ (d ++ (e ++ (f ++ [])))))) ++ n ≡ a ++ (b ++ (c ++ (d ++ (e ++ (f ++ n)))))
    regroup a b c d e f n = simp (append_assoc, append-nil)

module-view : IsView mod6 In3 module_head_line IsModuleHead head_of
module-view = record {
  into = λ p h. record { name = h.0; flags = h.1.1.0; start = h.1.1.1 };
  text = λ p h. module-text p;
  back = λ h range. ((h.name, (h.library, (h.flags, h.start))), (range.name, (tt, (range.flags, range.start))), refl);
}

pub code-module : IsCode module_head_line IsModuleHead
code-module = code-as mod6 In3 module_head_line IsModuleHead head_of (code-then (codes "module ") mod5 In3 refl mcode5) module-view

pub module-reads : (h : ModuleHead) (s0 s1 s2 s3 s4 s5 s6 s7 : State) → Takes (codes "module ") s0 s1 → Reads (ended_by 0x20 name_word) IsListedName shut h.name s1 s2
    → Reads (ended_by 0x20 kind_word) Any shut h.library s2 s3 → Takes (codes "flags ") s3 s4 → Reads (ended_by 0x20 hex_address) Has32 shut h.flags s4 s5
    → Takes (codes "start ") s5 s6 → Reads start_text IsStart shut h.start s6 s7 → Reads module_head_line IsModuleHead shut h s0 s7
module-reads h s0 s1 s2 s3 s4 s5 s6 s7 module-word name kind flags-word flags start-word start =
    read-as mod6 In3 module_head_line IsModuleHead head_of (h.name, (h.library, (h.flags, h.start))) s0 s7 module-view
    (read-then (codes "module ") mod5 In3 _ s0 s1 s7 refl mcode5 module-word
    (read-pair (ended_by 0x20 name_word) IsListedName mod4 In2 h.name _ s1 s2 s7 code-name mcode4 name
    (read-pair (ended_by 0x20 kind_word) Any mod3 In1 h.library _ s2 s3 s7 code-kind mcode3 kind
    (read-then (codes "flags ") mod2 In1 _ s3 s4 s7 refl mcode2 flags-word
    (read-pair flag_text Has32 mod1 IsStart h.flags h.start s4 s5 s7 code-flags mcode1 flags
    (read-then (codes "start ") start_text IsStart h.start s5 s6 s7 refl code-start start-word start))))))

pub module-front : (h : ModuleHead) → (rest : List ℕ) × (module_head_line h ≡ codes "module " ++ rest)
module-front h = let p : M3 = (h.name, (h.library, (h.flags, h.start))) in (mod5 p, module-text p)
