-- Lines, by their first words and their last ones, and pairs of numbers.
use Rattle.std.proofs.Common.{◌≡◌, ℕ, ◌≤◌, Bool, true, false, List, [], ◌∷◌, ◌++◌, length, refl, sym, ap, ◌∙◌, arith, append_assoc, append-nil}
use Rattle.std.specs.Prelude.{◌&&◌, decimal}
use Rattle.session_model.specs.Text.{line_of}
use Rattle.dump_model.proofs.LineLaws.{line-cons}
use Rattle.dump_model.specs.Bounds.{Has32, IsPair}
use Rattle.dump_model.specs.Words.{no_break, IsAfter}
use Rattle.dump_read.specs.Taken.{State, Reads, shut}
use Rattle.dump_read.specs.Settled.{ended_by}
use Rattle.dump_read.specs.Parts.{leading}
use Rattle.dump_model.proofs.WordLaws.{no_break-append}
use Rattle.dump_read.proofs.Forms.{IsCode, code-word, code-pair, read-pair}
use Rattle.dump_model.proofs.NumberLaws.{decimal-words}

-- ---- lines

-- the first words of a line, and its others
pub lead-words : (ws us : List (List ℕ)) → 1 ≤ length us → line_of (ws ++ us) ≡ leading ws ++ line_of us
lead-words ws [] some = absurd (omega arith)
lead-words [] (v ∷ vs) some = refl
lead-words (w ∷ []) (v ∷ vs) some =
    line-cons w v vs ∙ sym (append_assoc w (0x20 ∷ []) (line_of (v ∷ vs))) ∙ ap (λ x. x ++ line_of (v ∷ vs)) (sym (append-nil (w ++ 0x20 ∷ [])))
lead-words (w ∷ u ∷ ws) (v ∷ vs) some =
    line-cons w u (ws ++ v ∷ vs) ∙ ap (λ rest. w ++ 0x20 ∷ rest) (lead-words (u ∷ ws) (v ∷ vs) some)
    ∙ sym (append_assoc w (0x20 ∷ []) (leading (u ∷ ws) ++ line_of (v ∷ vs)))
    ∙ sym (append_assoc (w ++ 0x20 ∷ []) (leading (u ∷ ws)) (line_of (v ∷ vs)))

pub lead-word : (w v : List ℕ) (ws : List (List ℕ)) → line_of (w ∷ v ∷ ws) ≡ (w ++ 0x20 ∷ []) ++ line_of (v ∷ ws)
lead-word w v ws = line-cons w v ws ∙ sym (append_assoc w (0x20 ∷ []) (line_of (v ∷ ws)))

pub some-more : (ws us : List (List ℕ)) → 1 ≤ length us → 1 ≤ length (ws ++ us)
some-more [] us some = some
some-more (w ∷ ws) us some = omega arith

-- ---- a word ends

ends-broken : (w : List ℕ) (b : ℕ) → IsAfter b → no_break (w ++ b ∷ []) ≡ false
ends-broken w b ends = no_break-append w (b ∷ []) ∙ ap (λ t. no_break w && (t && true)) ends ∙ by (no_break w)
  where
    by : (a : Bool) → a && (false && true) ≡ false
    by true = refl
    by false = refl

pub blank-broken : (w : List ℕ) → no_break (w ++ 0x20 ∷ []) ≡ false
blank-broken w = ends-broken w 0x20 refl

pub line-broken : (w : List ℕ) → no_break (w ++ 0x0A ∷ []) ≡ false
line-broken w = ends-broken w 0x0A refl

-- ---- numbers

pub code-number : (b : ℕ) → IsAfter b → IsCode (ended_by b decimal) Has32
code-number b ends = code-word decimal Has32 b decimal-words ends

-- two numbers
abbrev pub two : ℕ → ℕ × ℕ → List ℕ
two b p = ended_by 0x20 decimal p.0 ++ ended_by b decimal p.1

pub code-two : (b : ℕ) → IsAfter b → IsCode (two b) IsPair
code-two b ends = code-pair (ended_by 0x20 decimal) Has32 (ended_by b decimal) Has32 (code-number 0x20 refl) (code-number b ends)

pub read-two : (b m n : ℕ) (old mid new : State) → IsAfter b → Reads (ended_by 0x20 decimal) Has32 shut m old mid → Reads (ended_by b decimal) Has32 shut n mid new
    → Reads (two b) IsPair shut (m, n) old new
read-two b m n old mid new ends first second =
    read-pair (ended_by 0x20 decimal) Has32 (ended_by b decimal) Has32 m n old mid new (code-number 0x20 refl) (code-number b ends) first second

pub two-leading : (m n : ℕ) → leading (decimal m ∷ decimal n ∷ []) ≡ two 0x20 (m, n)
two-leading m n = ap (λ x. (decimal m ++ 0x20 ∷ []) ++ x) (append-nil (decimal n ++ 0x20 ∷ []))

pub two-line : (m n : ℕ) → line_of (decimal m ∷ decimal n ∷ []) ≡ two 0x0A (m, n)
two-line m n = lead-word (decimal m) (decimal n) []

pub one-leading : (n : ℕ) → leading (decimal n ∷ []) ≡ ended_by 0x20 decimal n
one-leading n = append-nil (decimal n ++ 0x20 ∷ [])
