-- The line at which no text goes on.
use Rattle.std.proofs.Common.{◌≡◌, ℕ, ◌+◌, ◌-◌, ◌<◌, ◌≤◌, ◌^◌, List, [], ◌∷◌, ◌++◌, length, Some, None, refl, sym, ◌∙◌, ap, subst, arith, append_assoc, append-nil}
use Rattle.std.specs.Prelude.{count_by}
use Rattle.std.proofs.lemmas.List.{length-append}
use Rattle.std.proofs.lemmas.List.Sums.{count_by-le-length}
use Rattle.lx_types.proofs.Lists.{all_joined}
use Rattle.load_model.specs.Modules.{Library}
use Rattle.session_model.specs.Kept.{AreLines}
use Rattle.check_model.specs.Told.{Told, told_text, IsTold}
use Rattle.check_model.specs.TextFault.{is_line_end, Begins, TextFault}
use Rattle.transcript_lines.specs.declared.lines.TranscriptLine.{TranscriptLine}
use Rattle.transcript_lines.specs.Lines.{told_line, IsLineOf}
use Rattle.transcript_lines.specs.LinesOf.{lines_of}
use Rattle.transcript_lines.specs.Following.{Place, Start, End, place_after}
use Rattle.transcript_lines.proofs.LinesInTurn.{texts_are_lines}
use Rattle.transcript_lines.proofs.Endings.{lines_follow, lines_begin}
use Rattle.transcript_whole.specs.Cutting.{HasNoEnd, IsFirstLine}
use Rattle.transcript_whole.specs.Readings.{IsTextOf, AreFirst}
use Rattle.transcript_whole.proofs.LineCuts.{ends_front, ends_joined}
use Rattle.transcript_whole.proofs.Texts.{AreApart, text_of, All, text_joined, lines_joined, one_line, first_lines, goes_on, begins_with, none_left}

-- ---- the text of what is told, as lines

text_is : (lib : Library) (t : Told) → told_text lib t ≡ text_of lib (lines_of t)
text_is lib t = texts_are_lines.text lib t

-- ---- the first lines of bytes

pub nothing_first : (lib : Library) (bytes : List ℕ) → AreFirst lib bytes bytes 0 []
nothing_first lib bytes = record { all = refl; whole = tt; count = refl; range = tt; many = refl }

-- the text with a line more
longer : (lib : Library) (ls : List TranscriptLine) (l : TranscriptLine) (line : List ℕ) → IsTextOf lib l line → text_of lib (ls ++ l ∷ []) ≡ text_of lib ls ++ (line ++ 0x0A ∷ [])
longer lib ls l line is = text_joined lib ls (l ∷ []) ∙ ap (λ x. text_of lib ls ++ x) (append-nil (told_line lib l) ∙ sym is.text)

regroup : (a line after : List ℕ) → a ++ (line ++ 0x0A ∷ after) ≡ (a ++ (line ++ 0x0A ∷ [])) ++ after
regroup a line after = ap (λ x. a ++ x) (sym (append_assoc line (0x0A ∷ []) after)) ∙ sym (append_assoc a (line ++ 0x0A ∷ []) after)

one_end : (a line : List ℕ) → HasNoEnd line → count_by is_line_end (a ++ (line ++ 0x0A ∷ [])) ≡ count_by is_line_end a + 1
one_end a line inside = omega (arith, ends_joined a (line ++ 0x0A ∷ []), ends_joined line (0x0A ∷ []), ends_front 0x0A [], inside)

pub one_more : (lib : Library) (bytes left line after : List ℕ) (n : ℕ) (ls : List TranscriptLine) (l : TranscriptLine) → AreFirst lib bytes left n ls → IsFirstLine left line after → IsTextOf lib l line
    → AreFirst lib bytes after (n + 1) (ls ++ l ∷ [])
one_more lib bytes left line after n ls l f cut is =
    let text = longer lib ls l line is in
    record {
      all = f.all ∙ ap (λ x. text_of lib ls ++ x) cut.all ∙ regroup (text_of lib ls) line after ∙ ap (λ x. x ++ after) (sym text);
      whole = subst AreLines (sym text) (lines_joined (text_of lib ls) (line ++ 0x0A ∷ []) f.whole (one_line line));
      count = ap (count_by is_line_end) text ∙ one_end (text_of lib ls) line cut.inside ∙ ap (λ k. k + 1) f.count;
      range = all_joined (IsLineOf lib) ls (l ∷ []) f.range (is.range, tt);
      many = length-append ls (l ∷ []) ∙ ap (λ k. k + 1) f.many;
    }

-- ---- a text begins with them

-- there are numbers for lines, up to the end of the shortest text
abbrev pub HasRoom : List ℕ → Type 0
HasRoom bytes = length bytes + 18 < 2 ^ 64

pub few_lines : (lib : Library) (bytes left : List ℕ) (n : ℕ) (ls : List TranscriptLine) → AreFirst lib bytes left n ls → n ≤ length bytes
few_lines lib bytes left n ls f =
    omega (arith, f.count, count_by-le-length is_line_end (text_of lib ls), ap length f.all, length-append (text_of lib ls) left)

above : (lib : Library) (bytes left : List ℕ) (n : ℕ) (ls : List TranscriptLine) (s : Place) → HasRoom bytes → AreFirst lib bytes left n ls → place_after Start ls ≡ Some s → Begins lib bytes n
above lib bytes left n ls s room f place =
    let it = lines_begin.on lib ls s (omega (arith, room, few_lines lib bytes left n ls f, f.many)) f.range place in
    let goes = it.1 in
    record {
      lines = text_of lib ls;
      first = record { rest = left; all = f.all; whole = f.whole; count = f.count };
      told = goes.told;
      is_told = goes.is_told;
      after = text_of lib it.0;
      text = text_is lib goes.told ∙ ap (text_of lib) goes.lines ∙ text_joined lib ls it.0;
    }

-- ---- no text goes on with the next line

-- what may not stand there
abbrev pub MayNot : Library → List TranscriptLine → List ℕ → Type 0
MayNot lib ls line = (l : TranscriptLine) → IsTextOf lib l line → place_after Start (ls ++ l ∷ []) ≡ None

no_text : (lib : Library) → AreApart lib → (ls : List TranscriptLine) (line after : List ℕ) (t : Told) → All lib ls → HasNoEnd line → MayNot lib ls line → IsTold lib t
    → told_text lib t ≡ text_of lib ls ++ (line ++ 0x0A ∷ after) → ⊥
no_text lib apart ls line after t range inside none told is =
    let goes = goes_on lib apart ls (lines_of t) (line ++ 0x0A ∷ after) range (texts_are_lines.range lib t told) (sym is ∙ text_is lib t) in
    let next = begins_with lib apart goes.more line after goes.range inside goes.left in
    let lines : lines_of t ≡ (ls ++ next.front ∷ []) ++ next.others =
    goes.lines ∙ ap (λ (m : List TranscriptLine). ls ++ m) next.lines ∙ sym (append_assoc ls (next.front ∷ []) next.others) in
    lines_begin.none lib (ls ++ next.front ∷ []) next.others (record { told = t; is_told = told; lines = lines }) (none next.front next.is_text)

less_one : (n : ℕ) → (n + 1) - 1 ≡ n
less_one n = omega arith

pub refused_line : (lib : Library) → AreApart lib → (bytes left line after : List ℕ) (n : ℕ) (ls : List TranscriptLine) (s : Place) → HasRoom bytes → AreFirst lib bytes left n ls
    → place_after Start ls ≡ Some s → IsFirstLine left line after → MayNot lib ls line → TextFault lib bytes (n + 1)
refused_line lib apart bytes left line after n ls s room f place cut none =
    let all : bytes ≡ text_of lib ls ++ (line ++ 0x0A ∷ after) = f.all ∙ ap (λ x. text_of lib ls ++ x) cut.all in
    record {
      none = λ t told is. no_text lib apart ls line after t f.range cut.inside none told (sym is ∙ all);
      from_one = omega arith;
      above = subst (Begins lib bytes) (sym (less_one n)) (above lib bytes left n ls s room f place);
      first = λ b.
          let mine : List ℕ = text_of lib ls ++ (line ++ 0x0A ∷ []) in
          let same : b.lines ≡ mine =
          first_lines b.lines mine b.first.rest after (sym b.first.all ∙ all ∙ regroup (text_of lib ls) line after) b.first.whole
          (lines_joined (text_of lib ls) (line ++ 0x0A ∷ []) f.whole (one_line line)) (b.first.count ∙ sym (one_end (text_of lib ls) line cut.inside ∙ ap (λ k. k + 1) f.count)) in
          no_text lib apart ls line b.after b.told f.range cut.inside none b.is_told (b.text ∙ ap (λ x. x ++ b.after) same ∙ sym (regroup (text_of lib ls) line b.after));
    }

-- ---- no text ends there

pub refused_end : (lib : Library) → AreApart lib → (bytes left : List ℕ) (n : ℕ) (ls : List TranscriptLine) (s : Place) → HasRoom bytes → AreFirst lib bytes left n ls
    → place_after Start ls ≡ Some s → HasNoEnd left → (left ≡ [] → s ≡ End → ⊥) → TextFault lib bytes (n + 1)
refused_end lib apart bytes left n ls s room f place unended more = record {
  none = λ t told is.
      let goes = goes_on lib apart ls (lines_of t) left f.range (texts_are_lines.range lib t told) (sym f.all ∙ is ∙ text_is lib t) in
      let no_more : goes.more ≡ [] = none_left lib apart goes.more goes.range (ap (count_by is_line_end) (sym goes.left) ∙ unended) in
      let lines : lines_of t ≡ ls = goes.lines ∙ ap (λ (m : List TranscriptLine). ls ++ m) no_more ∙ append-nil ls in
      let end : place_after Start ls ≡ Some End = ap (place_after Start) (sym lines) ∙ lines_follow.whole lib t told in
      let at_end : s ≡ End = cc (place, end) in
      more (goes.left ∙ ap (text_of lib) no_more) at_end;
  from_one = omega arith;
  above = subst (Begins lib bytes) (sym (less_one n)) (above lib bytes left n ls s room f place);
  first = λ b.
      let ends : count_by is_line_end (b.lines ++ b.first.rest) ≡ count_by is_line_end (text_of lib ls ++ left) = ap (count_by is_line_end) (sym b.first.all ∙ f.all) in
      let none : ⊥ = omega (arith, ends, ends_joined b.lines b.first.rest, ends_joined (text_of lib ls) left, b.first.count, f.count, unended) in
      none;
}
