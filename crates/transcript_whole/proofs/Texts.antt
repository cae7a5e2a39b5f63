-- Bytes that begin with the text of lines: the lines are theirs.
use Rattle.std.proofs.Common.{◌≡◌, ℕ, ◌≤◌, cond, List, [], ◌∷◌, ◌++◌, length, flat_map, refl, sym, ◌∙◌, ap, arith, append_assoc}
use Rattle.std.specs.Prelude.{◌==◌, count_by}
use Rattle.std.specs.List.{AllByRecursion}
use Rattle.std.proofs.lemmas.List.{length-append}
use Rattle.load_model.specs.Modules.{Library}
use Rattle.session_model.specs.Kept.{AreLines}
use Rattle.check_model.specs.TextFault.{is_line_end}
use Rattle.transcript_lines.specs.declared.lines.TranscriptLine.{TranscriptLine}
use Rattle.transcript_lines.specs.Lines.{told_line, IsLineOf}
use Rattle.transcript_whole.specs.Cutting.{HasNoEnd}
use Rattle.transcript_whole.specs.Readings.{IsTextOf}
use Rattle.transcript_whole.proofs.LineCuts.{ends_front, ends_joined, cut_one}

-- ---- whole lines

lines_left : (b : ℕ) (bytes : List ℕ) → AreLines (b ∷ bytes) → AreLines bytes
lines_left b [] h = tt
lines_left b (c ∷ bytes) h = h

some_end : (b : ℕ) (bytes : List ℕ) → AreLines (b ∷ bytes) → 1 ≤ count_by is_line_end (b ∷ bytes)
some_end b [] h = omega (arith, ends_front b [], ap {B = ℕ} (λ (c : ℕ). cond (c == 0x0A) 1 0) h)
some_end b (c ∷ bytes) h = let more = some_end c bytes h in omega (arith, ends_front b (c ∷ bytes), more)

pub lines_joined : (a b : List ℕ) → AreLines a → AreLines b → AreLines (a ++ b)
lines_joined [] b ha hb = hb
lines_joined (x ∷ []) [] ha hb = ha
lines_joined (x ∷ []) (y ∷ b) ha hb = hb
lines_joined (x ∷ y ∷ a) b ha hb = lines_joined (y ∷ a) b ha hb

pub one_line : (line : List ℕ) → AreLines (line ++ 0x0A ∷ [])
one_line [] = refl
one_line (b ∷ []) = refl
one_line (b ∷ c ∷ line) = one_line (c ∷ line)

-- so many lines that stand first are the same bytes
pub first_lines : (a b r q : List ℕ) → a ++ r ≡ b ++ q → AreLines a → AreLines b → count_by is_line_end a ≡ count_by is_line_end b → a ≡ b
first_lines [] [] r q is ha hb same = refl
first_lines [] (y ∷ b) r q is ha hb same = absurd (let some = some_end y b hb in let none : ⊥ = omega (arith, some, same) in none)
first_lines (x ∷ a) [] r q is ha hb same = absurd (let some = some_end x a ha in let none : ⊥ = omega (arith, some, same) in none)
first_lines (x ∷ a) (y ∷ b) r q is ha hb same =
    let here : x ≡ y = cc (is) in
    let rest : a ++ r ≡ b ++ q = cc (is) in
    let ends : count_by is_line_end a ≡ count_by is_line_end b = omega (arith, same, ends_front x a, ends_front y b, ap {B = ℕ} (λ (c : ℕ). cond (c == 0x0A) 1 0) here) in
    let more = first_lines a b r q rest (lines_left x a ha) (lines_left y b hb) ends in
    λ i. here i ∷ more i

-- ---- lines of a transcript

-- the text of a line has one end, and is that of no other line
pub record AreApart (lib : Library) : Type 0 where
  pub cut : (l : TranscriptLine) → IsLineOf lib l → (line : List ℕ) × (line ++ 0x0A ∷ [] ≡ told_line lib l) × HasNoEnd line
  pub one : (l m : TranscriptLine) → IsLineOf lib l → IsLineOf lib m → told_line lib l ≡ told_line lib m → l ≡ m

abbrev pub text_of : Library → List TranscriptLine → List ℕ
text_of lib ls = flat_map (told_line lib) ls

abbrev pub All : Library → List TranscriptLine → Type 0
All lib ls = AllByRecursion (IsLineOf lib) ls

pub text_joined : (lib : Library) (a b : List TranscriptLine) → text_of lib (a ++ b) ≡ text_of lib a ++ text_of lib b
text_joined lib [] b = refl
text_joined lib (l ∷ a) b = ap (λ x. told_line lib l ++ x) (text_joined lib a b) ∙ sym (append_assoc (told_line lib l) (text_of lib a) (text_of lib b))

front_text : (lib : Library) → AreApart lib → (m : TranscriptLine) (line r q : List ℕ) → IsLineOf lib m → HasNoEnd line → line ++ 0x0A ∷ r ≡ told_line lib m ++ q
    → (line ++ 0x0A ∷ [] ≡ told_line lib m) × (r ≡ q)
front_text lib apart m line r q hm inside is =
    let b = apart.cut m hm in
    let whole : line ++ 0x0A ∷ r ≡ b.0 ++ 0x0A ∷ q = is ∙ ap (λ t. t ++ q) (sym b.1) ∙ append_assoc b.0 (0x0A ∷ []) q in
    let one = cut_one line b.0 r q inside b.2 whole in
    (ap (λ t. t ++ 0x0A ∷ []) one.0 ∙ b.1, one.1)

front_one : (lib : Library) → AreApart lib → (l m : TranscriptLine) (r q : List ℕ) → IsLineOf lib l → IsLineOf lib m → told_line lib l ++ r ≡ told_line lib m ++ q → (l ≡ m) × (r ≡ q)
front_one lib apart l m r q hl hm is =
    let a = apart.cut l hl in
    let whole : a.0 ++ 0x0A ∷ r ≡ told_line lib m ++ q = sym (append_assoc a.0 (0x0A ∷ []) r) ∙ ap (λ t. t ++ r) a.1 ∙ is in
    let one = front_text lib apart m a.0 r q hm a.2 whole in
    (apart.one l m hl hm (sym a.1 ∙ one.0), one.1)

-- a line is no empty text
pub some_text : (lib : Library) → AreApart lib → (l : TranscriptLine) (r : List ℕ) → IsLineOf lib l → told_line lib l ++ r ≡ [] → ⊥
some_text lib apart l r hl is =
    let a = apart.cut l hl in
    let long : length (told_line lib l ++ r) ≡ 0 = ap length is in
    omega (arith, long, length-append (told_line lib l) r, ap length (sym a.1), length-append a.0 (0x0A ∷ []))

-- the lines of a text that begins with the text of others
pub record Goes (lib : Library) (ls ms : List TranscriptLine) (rest : List ℕ) : Type 0 where
  pub more : List TranscriptLine
  pub range : All lib more
  pub lines : ms ≡ ls ++ more
  pub left : rest ≡ text_of lib more

pub goes_on : (lib : Library) → AreApart lib → (ls ms : List TranscriptLine) (rest : List ℕ) → All lib ls → All lib ms → text_of lib ls ++ rest ≡ text_of lib ms → Goes lib ls ms rest
goes_on lib apart [] ms rest hl hm is = record { more = ms; range = hm; lines = refl; left = is }
goes_on lib apart (l ∷ ls) [] rest hl hm is =
    absurd (some_text lib apart l (text_of lib ls ++ rest) hl.0 (sym (append_assoc (told_line lib l) (text_of lib ls) rest) ∙ is))
goes_on lib apart (l ∷ ls) (m ∷ ms) rest hl hm is =
    let one = front_one lib apart l m (text_of lib ls ++ rest) (text_of lib ms) hl.0 hm.0 (sym (append_assoc (told_line lib l) (text_of lib ls) rest) ∙ is) in
    let it = goes_on lib apart ls ms rest hl.1 hm.1 one.1 in
    record { more = it.more; range = it.range; lines = λ i. sym one.0 i ∷ it.lines i; left = it.left }

-- the first of some lines, by the text in front
pub record Begun (lib : Library) (ls : List TranscriptLine) (line : List ℕ) : Type 0 where
  pub front : TranscriptLine
  pub is_text : IsTextOf lib front line
  pub others : List TranscriptLine
  pub lines : ls ≡ front ∷ others

pub begins_with : (lib : Library) → AreApart lib → (ls : List TranscriptLine) (line after : List ℕ) → All lib ls → HasNoEnd line → line ++ 0x0A ∷ after ≡ text_of lib ls → Begun lib ls line
begins_with lib apart [] line after h inside is =
    absurd (let none : length (line ++ 0x0A ∷ after) ≡ 0 = ap length is in let no_room : ⊥ = omega (arith, none, length-append line (0x0A ∷ after)) in no_room)
begins_with lib apart (m ∷ ms) line after h inside is =
    let one = front_text lib apart m line after (text_of lib ms) h.0 inside is in
    record { front = m; is_text = record { range = h.0; text = one.0 }; others = ms; lines = refl }

-- where no line ends there are no lines
pub none_left : (lib : Library) → AreApart lib → (ls : List TranscriptLine) → All lib ls → HasNoEnd (text_of lib ls) → ls ≡ []
none_left lib apart [] h none = refl
none_left lib apart (l ∷ ls) h none =
    let a = apart.cut l h.0 in
    let front : count_by is_line_end (told_line lib l) ≡ count_by is_line_end (a.0 ++ 0x0A ∷ []) = ap (count_by is_line_end) (sym a.1) in
    absurd (let no_line : ⊥ = omega (arith, none, ends_joined (told_line lib l) (text_of lib ls), front, ends_joined a.0 (0x0A ∷ []), ends_front 0x0A []) in no_line)
