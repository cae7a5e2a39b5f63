-- The lines of fixups, as they are read.
use Rattle.std.proofs.Common.{◌≡◌, ℕ, zero, suc, ◌≤◌, ◌<◌, Bool, true, false, List, [], ◌∷◌, ◌++◌, length, refl, sym, subst, ap, ◌∙◌, arith, append_assoc, append-nil}
use Rattle.std.specs.Prelude.{codes, decimal, ℤ, cond}
use Rattle.std.specs.Fmt.{signed_decimal}
use Rattle.session_model.specs.Text.{line_of}
use Rattle.lx_types.specs.declared.fix.Source.{Source}
use Rattle.lx_types.specs.declared.fix.Source.TheVariants as sources
use Rattle.lx_types.specs.declared.fix.FixTarget.{FixTarget}
use Rattle.lx_types.specs.declared.fix.FixTarget.TheVariants as targets
use Rattle.lx_types.specs.declared.fix.Fix.{Fix}
use Rattle.dump_model.specs.Bounds.{Has32, HasSigned32, IsPair, IsTarget, IsFix}
use Rattle.dump_model.specs.Lines.{source_word, alias_words, target_words, fix_line}
use Rattle.dump_model.specs.Words.{no_break}
use Rattle.dump_read.specs.Taken.{State, Reads, shut, Takes}
use Rattle.dump_read.specs.Settled.{ended_by, piece_at, TakesOne}
use Rattle.dump_read.specs.Parts.{Any, leading, source_at, source_pieces, target_tag, target_pieces, target_text, target_rest, IsTargetOf, aliased_pieces, aliased_text, IsAliased}
use Rattle.dump_read.proofs.Forms.{IsCode, IsView, IsChoice, IsArm, code-form, code-word, code-then, code-pair, code-as, code-one, code-choice, read-then, read-pair, read-as, read-arm, read-choice, view-arm, arm-one, front-broken}
use Rattle.dump_read.proofs.Steps.{ArePieces, pieces-test}
use Rattle.dump_model.proofs.NumberLaws.{signed-words}
use Rattle.dump_read.proofs.LineTexts.{lead-words, some-more, blank-broken, code-number, two, code-two, read-two, two-leading, one-leading}

-- ---- what is written at the source

source-pieces : ArePieces source_pieces
source-pieces = pieces-test source_pieces refl

source-text : (k : ℕ) → k < 7 → source_word (source_at k) ++ 0x20 ∷ [] ≡ piece_at source_pieces k
source-text zero lt = refl
source-text (suc zero) lt = refl
source-text (suc (suc zero)) lt = refl
source-text (suc (suc (suc zero))) lt = refl
source-text (suc (suc (suc (suc zero)))) lt = refl
source-text (suc (suc (suc (suc (suc zero))))) lt = refl
source-text (suc (suc (suc (suc (suc (suc zero)))))) lt = refl
source-text (suc (suc (suc (suc (suc (suc (suc k))))))) lt = absurd (omega arith)

source-back : (s : Source) → (k : ℕ) × (k < 7) × (s ≡ source_at k)
source-back sources.Byte = (0, omega arith, refl)
source-back sources.Sel = (1, omega arith, refl)
source-back sources.Far16 = (2, omega arith, refl)
source-back sources.Off16 = (3, omega arith, refl)
source-back sources.Far32 = (4, omega arith, refl)
source-back sources.Off32 = (5, omega arith, refl)
source-back sources.Self32 = (6, omega arith, refl)

source-view : IsView (piece_at source_pieces) (λ k. k < length source_pieces) (ended_by 0x20 source_word) Any source_at
source-view = record { into = λ _ _. tt; text = source-text; back = λ s _. source-back s }

code-source : IsCode (ended_by 0x20 source_word) Any
code-source =
    code-as (piece_at source_pieces) (λ k. k < length source_pieces) (ended_by 0x20 source_word) Any source_at
    (code-one source_pieces source-pieces.all source-pieces.distinct source-pieces.any) source-view

pub source-reads : (k : ℕ) (old new : State) → TakesOne source_pieces k old new → Reads (ended_by 0x20 source_word) Any shut (source_at k) old new
source-reads k old new takes = read-as (piece_at source_pieces) (λ j. j < length source_pieces) (ended_by 0x20 source_word) Any source_at k old new source-view takes

-- ---- targets

target-pieces : ArePieces target_pieces
target-pieces = pieces-test target_pieces refl

internal-view : IsView (two 0x20) IsPair target_rest (IsTargetOf 0) (λ p. targets.Internal p.0 p.1)
internal-view = record { into = λ p h. (h, refl); text = λ p h. two-leading p.0 p.1; back = back }
  where
    back : (t : FixTarget) → IsTargetOf 0 t → (p : ℕ × ℕ) × IsPair p × (t ≡ targets.Internal p.0 p.1)
    back (targets.Internal object offset) h = ((object, offset), h.0, refl)
    back (targets.Ordinal import ordinal) h = absurd (omega (arith, h.1))
    back (targets.Named import name_at) h = absurd (omega (arith, h.1))
    back (targets.Own ordinal) h = absurd (omega (arith, h.1))

ordinal-view : IsView (two 0x20) IsPair target_rest (IsTargetOf 1) (λ p. targets.Ordinal p.0 p.1)
ordinal-view = record { into = λ p h. (h, refl); text = λ p h. two-leading p.0 p.1; back = back }
  where
    back : (t : FixTarget) → IsTargetOf 1 t → (p : ℕ × ℕ) × IsPair p × (t ≡ targets.Ordinal p.0 p.1)
    back (targets.Internal object offset) h = absurd (omega (arith, h.1))
    back (targets.Ordinal import ordinal) h = ((import, ordinal), h.0, refl)
    back (targets.Named import name_at) h = absurd (omega (arith, h.1))
    back (targets.Own ordinal) h = absurd (omega (arith, h.1))

named-view : IsView (two 0x20) IsPair target_rest (IsTargetOf 2) (λ p. targets.Named p.0 p.1)
named-view = record { into = λ p h. (h, refl); text = λ p h. two-leading p.0 p.1; back = back }
  where
    back : (t : FixTarget) → IsTargetOf 2 t → (p : ℕ × ℕ) × IsPair p × (t ≡ targets.Named p.0 p.1)
    back (targets.Internal object offset) h = absurd (omega (arith, h.1))
    back (targets.Ordinal import ordinal) h = absurd (omega (arith, h.1))
    back (targets.Named import name_at) h = ((import, name_at), h.0, refl)
    back (targets.Own ordinal) h = absurd (omega (arith, h.1))

own-view : IsView (ended_by 0x20 decimal) Has32 target_rest (IsTargetOf 3) targets.Own
own-view = record { into = λ n h. (h, refl); text = λ n h. one-leading n; back = back }
  where
    back : (t : FixTarget) → IsTargetOf 3 t → (n : ℕ) × Has32 n × (t ≡ targets.Own n)
    back (targets.Internal object offset) h = absurd (omega (arith, h.1))
    back (targets.Ordinal import ordinal) h = absurd (omega (arith, h.1))
    back (targets.Named import name_at) h = absurd (omega (arith, h.1))
    back (targets.Own ordinal) h = (ordinal, h.0, refl)

pub internal-reads : (k m n : ℕ) (old mid new : State) → k ≡ 0 → Reads (ended_by 0x20 decimal) Has32 shut m old mid → Reads (ended_by 0x20 decimal) Has32 shut n mid new
    → Reads target_rest (IsTargetOf k) shut (targets.Internal m n) old new
internal-reads k m n old mid new is first second =
    subst (λ i. Reads target_rest (IsTargetOf i) shut (targets.Internal m n) old new) (sym is)
    (read-as (two 0x20) IsPair target_rest (IsTargetOf 0) (λ p. targets.Internal p.0 p.1) (m, n) old new internal-view (read-two 0x20 m n old mid new refl first second))

pub ordinal-reads : (k m n : ℕ) (old mid new : State) → k ≡ 1 → Reads (ended_by 0x20 decimal) Has32 shut m old mid → Reads (ended_by 0x20 decimal) Has32 shut n mid new
    → Reads target_rest (IsTargetOf k) shut (targets.Ordinal m n) old new
ordinal-reads k m n old mid new is first second =
    subst (λ i. Reads target_rest (IsTargetOf i) shut (targets.Ordinal m n) old new) (sym is)
    (read-as (two 0x20) IsPair target_rest (IsTargetOf 1) (λ p. targets.Ordinal p.0 p.1) (m, n) old new ordinal-view (read-two 0x20 m n old mid new refl first second))

pub named-reads : (k m n : ℕ) (old mid new : State) → k ≡ 2 → Reads (ended_by 0x20 decimal) Has32 shut m old mid → Reads (ended_by 0x20 decimal) Has32 shut n mid new
    → Reads target_rest (IsTargetOf k) shut (targets.Named m n) old new
named-reads k m n old mid new is first second =
    subst (λ i. Reads target_rest (IsTargetOf i) shut (targets.Named m n) old new) (sym is)
    (read-as (two 0x20) IsPair target_rest (IsTargetOf 2) (λ p. targets.Named p.0 p.1) (m, n) old new named-view (read-two 0x20 m n old mid new refl first second))

pub own-reads : (k n : ℕ) (old new : State) → k ≡ 3 → Reads (ended_by 0x20 decimal) Has32 shut n old new → Reads target_rest (IsTargetOf k) shut (targets.Own n) old new
own-reads k n old new is reads =
    subst (λ j. Reads target_rest (IsTargetOf j) shut (targets.Own n) old new) (sym is)
    (read-as (ended_by 0x20 decimal) Has32 target_rest (IsTargetOf 3) targets.Own n old new own-view reads)

target-choice : IsChoice target_pieces target_text IsTarget target_tag target_rest
target-choice = record { all = target-pieces.all; distinct = target-pieces.distinct; tagged = tagged; some = some }
  where
    tagged : (t : FixTarget) → IsTarget t → (target_tag t < 4) × (target_text t ≡ piece_at target_pieces (target_tag t) ++ target_rest t)
    tagged (targets.Internal object offset) h = (omega arith, refl)
    tagged (targets.Ordinal import ordinal) h = (omega arith, refl)
    tagged (targets.Named import name_at) h = (omega arith, refl)
    tagged (targets.Own ordinal) h = (omega arith, refl)

    some : (k : ℕ) → k < 4 → (t : FixTarget) × IsTarget t × (target_tag t ≡ k)
    some zero lt = (targets.Internal 0 0, (omega arith, omega arith), refl)
    some (suc zero) lt = (targets.Ordinal 0 0, (omega arith, omega arith), refl)
    some (suc (suc zero)) lt = (targets.Named 0 0, (omega arith, omega arith), refl)
    some (suc (suc (suc zero))) lt = (targets.Own 0, omega arith, refl)
    some (suc (suc (suc (suc k)))) lt = absurd (omega arith)

-- the k-th arm of targets
rest-one : (k : ℕ) → k < 4 → (c d : FixTarget) (r s : List ℕ) → IsTarget c → IsTarget d → target_tag c ≡ k → target_tag d ≡ k → target_rest c ++ r ≡ target_rest d ++ s
    → (c ≡ d) × (r ≡ s)
rest-one zero lt =
    arm-one 0 (two 0x20) IsPair IsTarget target_tag target_rest (λ p. targets.Internal p.0 p.1) (code-two 0x20 refl)
    (view-arm 0 (two 0x20) IsPair IsTarget target_tag target_rest (λ p. targets.Internal p.0 p.1) internal-view)
rest-one (suc zero) lt =
    arm-one 1 (two 0x20) IsPair IsTarget target_tag target_rest (λ p. targets.Ordinal p.0 p.1) (code-two 0x20 refl)
    (view-arm 1 (two 0x20) IsPair IsTarget target_tag target_rest (λ p. targets.Ordinal p.0 p.1) ordinal-view)
rest-one (suc (suc zero)) lt =
    arm-one 2 (two 0x20) IsPair IsTarget target_tag target_rest (λ p. targets.Named p.0 p.1) (code-two 0x20 refl)
    (view-arm 2 (two 0x20) IsPair IsTarget target_tag target_rest (λ p. targets.Named p.0 p.1) named-view)
rest-one (suc (suc (suc zero))) lt =
    arm-one 3 (ended_by 0x20 decimal) Has32 IsTarget target_tag target_rest targets.Own (code-number 0x20 refl)
    (view-arm 3 (ended_by 0x20 decimal) Has32 IsTarget target_tag target_rest targets.Own own-view)
rest-one (suc (suc (suc (suc k)))) lt = absurd (omega arith)

code-target : IsCode target_text IsTarget
code-target = code-choice target_pieces target_text IsTarget target_tag target_rest target-choice target-pieces.any rest-one

rest-broken : (t : FixTarget) → no_break (target_rest t) ≡ false
rest-broken (targets.Internal object offset) = front-broken (decimal object ++ 0x20 ∷ []) (leading (decimal offset ∷ [])) (blank-broken (decimal object))
rest-broken (targets.Ordinal import ordinal) = front-broken (decimal import ++ 0x20 ∷ []) (leading (decimal ordinal ∷ [])) (blank-broken (decimal import))
rest-broken (targets.Named import name_at) = front-broken (decimal import ++ 0x20 ∷ []) (leading (decimal name_at ∷ [])) (blank-broken (decimal import))
rest-broken (targets.Own ordinal) = front-broken (decimal ordinal ++ 0x20 ∷ []) [] (blank-broken (decimal ordinal))

-- ---- the alias in front of the target

abbrev with_alias : Bool → FixTarget → Bool × FixTarget
with_alias a t = (a, t)

abbrev aliased_tag : Bool × FixTarget → ℕ
aliased_tag p = cond p.0 4 (target_tag p.1)

abbrev aliased_rest : Bool × FixTarget → List ℕ
aliased_rest p = cond p.0 (target_text p.1) (target_rest p.1)

aliased-pieces : ArePieces aliased_pieces
aliased-pieces = pieces-test aliased_pieces refl

aliased-choice : IsChoice aliased_pieces aliased_text IsAliased aliased_tag aliased_rest
aliased-choice = record { all = aliased-pieces.all; distinct = aliased-pieces.distinct; tagged = λ p h. tagged p.0 p.1 h; some = some }
  where
    tagged : (a : Bool) (t : FixTarget) → IsTarget t → (aliased_tag (a, t) < 5) × (aliased_text (a, t) ≡ piece_at aliased_pieces (aliased_tag (a, t)) ++ aliased_rest (a, t))
    tagged true t h = (omega arith, refl)
    tagged false (targets.Internal object offset) h = (omega arith, refl)
    tagged false (targets.Ordinal import ordinal) h = (omega arith, refl)
    tagged false (targets.Named import name_at) h = (omega arith, refl)
    tagged false (targets.Own ordinal) h = (omega arith, refl)

    some : (k : ℕ) → k < 5 → (p : Bool × FixTarget) × IsAliased p × (aliased_tag p ≡ k)
    some zero lt = ((false, targets.Internal 0 0), (omega arith, omega arith), refl)
    some (suc zero) lt = ((false, targets.Ordinal 0 0), (omega arith, omega arith), refl)
    some (suc (suc zero)) lt = ((false, targets.Named 0 0), (omega arith, omega arith), refl)
    some (suc (suc (suc zero))) lt = ((false, targets.Own 0), omega arith, refl)
    some (suc (suc (suc (suc zero)))) lt = ((true, targets.Own 0), omega arith, refl)
    some (suc (suc (suc (suc (suc k))))) lt = absurd (omega arith)

small-tag : (t : FixTarget) → target_tag t < 4
small-tag (targets.Internal object offset) = omega arith
small-tag (targets.Ordinal import ordinal) = omega arith
small-tag (targets.Named import name_at) = omega arith
small-tag (targets.Own ordinal) = omega arith

plain-arm : (k : ℕ) → k < 4 → IsArm k target_rest (IsTargetOf k) IsAliased aliased_tag aliased_rest (λ t. (false, t))
plain-arm k lt = record { into = λ t h. h.0; tagged = λ t h. (h.1, refl); back = λ p h e. back p.0 p.1 h e }
  where
    back : (a : Bool) (t : FixTarget) → IsTarget t → aliased_tag (a, t) ≡ k → (u : FixTarget) × IsTargetOf k u × (with_alias a t ≡ with_alias false u)
    back true t h e = absurd (omega (arith, lt, e))
    back false t h e = (t, (h, e), refl)

alias-arm : IsArm 4 target_text IsTarget IsAliased aliased_tag aliased_rest (λ t. (true, t))
alias-arm = record { into = λ t h. h; tagged = λ t h. (refl, refl); back = λ p h e. back p.0 p.1 h e }
  where
    back : (a : Bool) (t : FixTarget) → IsTarget t → aliased_tag (a, t) ≡ 4 → (u : FixTarget) × IsTarget u × (with_alias a t ≡ with_alias true u)
    back true t h e = (t, h, refl)
    back false t h e = absurd (omega (arith, small-tag t, e))

pub plain-reads : (k : ℕ) (t : FixTarget) (old mid new : State) → k < 4 → TakesOne aliased_pieces k old mid → Reads target_rest (IsTargetOf k) shut t mid new
    → Reads aliased_text IsAliased shut (false, t) old new
plain-reads k t old mid new lt takes reads =
    read-arm aliased_pieces aliased_text IsAliased aliased_tag aliased_rest k target_rest (IsTargetOf k) (λ u. (false, u)) t old mid new aliased-choice (plain-arm k lt)
    (λ u _ whole. absurd (broken u whole)) aliased-pieces.any takes reads
  where
    broken : (u : FixTarget) → no_break (target_rest u) ≡ true → ⊥
    broken u whole = let no = rest-broken u in absurd cc

pub alias-reads : (k j : ℕ) (t : FixTarget) (old mid next new : State) → 4 ≤ k → k < 5 → TakesOne aliased_pieces k old mid → TakesOne target_pieces j mid next
    → Reads target_rest (IsTargetOf j) shut t next new → Reads aliased_text IsAliased shut (true, t) old new
alias-reads k j t old mid next new ge lt takes one reads =
    let is : k ≡ 4 = omega (arith, ge, lt) in
    read-arm aliased_pieces aliased_text IsAliased aliased_tag aliased_rest 4 target_text IsTarget (λ u. (true, u)) t old mid new aliased-choice alias-arm
    (code-form target_text IsTarget code-target).broken aliased-pieces.any (subst (λ i. TakesOne aliased_pieces i old mid) is takes)
    (read-choice target_pieces target_text IsTarget target_tag target_rest j t mid next new target-choice (λ u whole. absurd (broken u whole)) target-pieces.any one reads)
  where
    broken : (u : FixTarget) → no_break (target_rest u) ≡ true → ⊥
    broken u whole = let no = rest-broken u in absurd cc

code-aliased : IsCode aliased_text IsAliased
code-aliased = code-choice aliased_pieces aliased_text IsAliased aliased_tag aliased_rest aliased-choice aliased-pieces.any (λ k lt c d r s hc hd ec ed is. one c.0 c.1 d.0 d.1 k r s hc hd ec ed is)
  where
    one : (a : Bool) (t : FixTarget) (b : Bool) (u : FixTarget) (k : ℕ) (r s : List ℕ) → IsTarget t → IsTarget u → aliased_tag (a, t) ≡ k → aliased_tag (b, u) ≡ k
        → aliased_rest (a, t) ++ r ≡ aliased_rest (b, u) ++ s → (with_alias a t ≡ with_alias b u) × (r ≡ s)
    one true t true u k r s ht hu et eu is = let same = code-target.one t u r s ht hu is in (ap (with_alias true) same.0, same.1)
    one true t false u k r s ht hu et eu is = absurd (omega (arith, small-tag u, et, eu))
    one false t true u k r s ht hu et eu is = absurd (omega (arith, small-tag t, et, eu))
    one false t false u k r s ht hu et eu is =
        let same = rest-one k (omega (arith, small-tag t, et)) t u r s ht hu et eu is in (ap (with_alias false) same.0, same.1)

-- ---- the line

abbrev A1 : Type 0
A1 = (Bool × FixTarget) × ℕ

abbrev A2 : Type 0
A2 = Source × A1

abbrev A3 : Type 0
A3 = ℤ × A2

abbrev add_text : ℕ → List ℕ
add_text n = codes "add " ++ ended_by 0x0A decimal n

abbrev text1 : A1 → List ℕ
text1 p = aliased_text p.0 ++ add_text p.1

abbrev In1 : A1 → Type 0
In1 p = IsAliased p.0 × Has32 p.1

abbrev text2 : A2 → List ℕ
text2 p = ended_by 0x20 source_word p.0 ++ text1 p.1

abbrev In2 : A2 → Type 0
In2 p = Unit {0} × In1 p.1

abbrev text3 : A3 → List ℕ
text3 p = ended_by 0x20 signed_decimal p.0 ++ text2 p.1

abbrev In3 : A3 → Type 0
In3 p = HasSigned32 p.0 × In2 p.1

abbrev text4 : ℕ → A3 → List ℕ
text4 i p = (decimal i ++ 0x20 ∷ []) ++ text3 p

abbrev text5 : ℕ → ℕ → A3 → List ℕ
text5 k i p = (decimal k ++ 0x20 ∷ []) ++ text4 i p

abbrev text6 : ℕ → ℕ → A3 → List ℕ
text6 k i p = codes "fix " ++ text5 k i p

code0 : IsCode add_text Has32
code0 = code-then (codes "add ") (ended_by 0x0A decimal) Has32 refl (code-number 0x0A refl)

code1 : IsCode text1 In1
code1 = code-pair aliased_text IsAliased add_text Has32 code-aliased code0

code2 : IsCode text2 In2
code2 = code-pair (ended_by 0x20 source_word) Any text1 In1 code-source code1

code3 : IsCode text3 In3
code3 = code-pair (ended_by 0x20 signed_decimal) HasSigned32 text2 In2 (code-word signed_decimal HasSigned32 0x20 signed-words refl) code2

code4 : (i : ℕ) → IsCode (text4 i) In3
code4 i = code-then (decimal i ++ 0x20 ∷ []) text3 In3 (blank-broken (decimal i)) code3

code5 : (k i : ℕ) → IsCode (text5 k i) In3
code5 k i = code-then (decimal k ++ 0x20 ∷ []) (text4 i) In3 (blank-broken (decimal k)) (code4 i)

code6 : (k i : ℕ) → IsCode (text6 k i) In3
code6 k i = code-then (codes "fix ") (text5 k i) In3 refl (code5 k i)

abbrev fix_of : A3 → Fix
fix_of p = record { source = p.1.0; alias = p.1.1.0.0; offset = p.0; target = p.1.1.0.1; additive = p.1.1.1 }

fix-text : (k i : ℕ) (p : A3) → fix_line k i (fix_of p) ≡ text6 k i p
unfolding fix_line
fix-text k i p =
    let f = fix_of p in
    let last = codes "add" ∷ decimal f.additive ∷ [] in
    let us = alias_words f.alias ++ (target_words f.target ++ last) in
    let ws = codes "fix" ∷ decimal k ∷ decimal i ∷ signed_decimal f.offset ∷ source_word f.source ∷ [] in
    lead-words ws us (some-more (alias_words f.alias) (target_words f.target ++ last) (some-more (target_words f.target) last (omega arith)))
    ∙ ap (λ x. leading ws ++ x)
    (ap line_of (sym (append_assoc (alias_words f.alias) (target_words f.target) last)) ∙ lead-words (alias_words f.alias ++ target_words f.target) last (omega arith)
    ∙ ap (λ x. leading (alias_words f.alias ++ target_words f.target) ++ x) (lead-words (codes "add" ∷ []) (decimal f.additive ∷ []) (omega arith)))
    ∙ regroup (codes "fix ") (decimal k ++ 0x20 ∷ []) (decimal i ++ 0x20 ∷ []) (signed_decimal f.offset ++ 0x20 ∷ []) (source_word f.source ++ 0x20 ∷ [])
    (leading (alias_words f.alias ++ target_words f.target)) (codes "add ") (decimal f.additive ++ 0x0A ∷ [])
  where
    regroup : (a b c d e g h n : List ℕ) → (a ++ (b ++ (c ++ (d ++ (e ++ []))))) ++ (g ++ ((h ++ []) ++ n)) ≡ a ++ (b ++ (c ++ (d ++ (e ++ (g ++ (h ++ n))))))
    regroup a b c d e g h n = simp (append_assoc, append-nil)

fix-view : (k i : ℕ) → IsView (text6 k i) In3 (fix_line k i) IsFix fix_of
fix-view k i = record {
  into = λ p h. record { offset = h.0; target = h.1.1.0; additive = h.1.1.1 };
  text = λ p h. fix-text k i p;
  back = λ f h. ((f.offset, (f.source, ((f.alias, f.target), f.additive))), (h.offset, (tt, (h.target, h.additive))), refl);
}

pub code-fix : (k i : ℕ) → IsCode (fix_line k i) IsFix
code-fix k i = code-as (text6 k i) In3 (fix_line k i) IsFix fix_of (code6 k i) (fix-view k i)

pub fix-reads : (k i : ℕ) (f : Fix) (s0 s1 s2 s3 s4 s5 s6 s7 s8 : State) → Takes (codes "fix ") s0 s1 → Takes (decimal k ++ 0x20 ∷ []) s1 s2 → Takes (decimal i ++ 0x20 ∷ []) s2 s3
    → Reads (ended_by 0x20 signed_decimal) HasSigned32 shut f.offset s3 s4 → Reads (ended_by 0x20 source_word) Any shut f.source s4 s5
    → Reads aliased_text IsAliased shut (f.alias, f.target) s5 s6 → Takes (codes "add ") s6 s7 → Reads (ended_by 0x0A decimal) Has32 shut f.additive s7 s8
    → Reads (fix_line k i) IsFix shut f s0 s8
fix-reads k i f s0 s1 s2 s3 s4 s5 s6 s7 s8 fix object page offset source aliased add additive =
    read-as (text6 k i) In3 (fix_line k i) IsFix fix_of (f.offset, (f.source, ((f.alias, f.target), f.additive))) s0 s8 (fix-view k i)
    (read-then (codes "fix ") (text5 k i) In3 _ s0 s1 s8 refl (code5 k i) fix
    (read-then (decimal k ++ 0x20 ∷ []) (text4 i) In3 _ s1 s2 s8 (blank-broken (decimal k)) (code4 i) object
    (read-then (decimal i ++ 0x20 ∷ []) text3 In3 _ s2 s3 s8 (blank-broken (decimal i)) code3 page
    (read-pair (ended_by 0x20 signed_decimal) HasSigned32 text2 In2 f.offset _ s3 s4 s8 (code-word signed_decimal HasSigned32 0x20 signed-words refl) code2 offset
    (read-pair (ended_by 0x20 source_word) Any text1 In1 f.source _ s4 s5 s8 code-source code1 source
    (read-pair aliased_text IsAliased add_text Has32 (f.alias, f.target) f.additive s5 s6 s8 code-aliased code0 aliased
    (read-then (codes "add ") (ended_by 0x0A decimal) Has32 f.additive s6 s7 s8 refl (code-number 0x0A refl) add additive)))))))

pub fix-front : (k i : ℕ) (f : Fix) → (rest : List ℕ) × (fix_line k i f ≡ codes "fix " ++ rest)
fix-front k i f = let p : A3 = (f.offset, (f.source, ((f.alias, f.target), f.additive))) in (text5 k i p, fix-text k i p)

abbrev pub fix_with : Source → Bool → FixTarget → ℕ → ℤ → Fix
fix_with source alias target additive offset = record { source = source; alias = alias; offset = offset; target = target; additive = additive }
