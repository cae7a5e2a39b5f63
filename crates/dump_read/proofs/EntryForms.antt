-- The lines of import modules, entries and names, as they are read.
use Rattle.std.proofs.Common.{◌≡◌, ℕ, zero, suc, ◌≤◌, ◌<◌, Bool, true, false, List, [], ◌∷◌, ◌++◌, length, refl, sym, subst, ap, ◌∙◌, arith, append_assoc, append-nil}
use Rattle.std.specs.Prelude.{codes, decimal}
use Rattle.session_model.specs.Text.{line_of}
use Rattle.lx_types.specs.declared.entry.EntryHead.{EntryHead}
use Rattle.lx_types.specs.declared.entry.EntryHead.TheVariants as heads
use Rattle.lx_types.specs.declared.entry.FwdKey.{FwdKey}
use Rattle.lx_types.specs.declared.entry.FwdKey.TheVariants as keys
use Rattle.dump_model.specs.Bounds.{Has32, IsPair, IsKey, IsHead, IsEntry, IsListedName, IsNamed}
use Rattle.dump_model.specs.Lines.{name_word, key_words, head_words, import_line, entry_line, name_line}
use Rattle.std.specs.Prelude.{◌&&◌}
use Rattle.dump_model.specs.Words.{is_in_word, no_break}
use Rattle.dump_read.specs.Taken.{State, Reads, shut, Takes}
use Rattle.dump_read.specs.Settled.{ended_by, piece_at, TakesOne}
use Rattle.dump_read.specs.Parts.{key_text, head_tag, head_pieces, head_text, head_rest, IsHeadOf}
use Rattle.dump_read.proofs.Forms.{IsCode, IsView, IsChoice, IsArm, code-word, code-then, code-pair, code-as, code-choice, read-then, read-pair, read-as, read-arm, read-choice, view-arm, arm-one, front-broken}
use Rattle.dump_read.proofs.Steps.{ArePieces, pieces-test}
use Rattle.dump_read.proofs.NameLaws.{name-words}
use Rattle.dump_read.proofs.LineTexts.{lead-words, lead-word, blank-broken, line-broken, code-number, two, code-two, read-two, two-line}

-- ---- what a forwarder names

abbrev pub key_pieces : List (List ℕ)
key_pieces = codes "ordinal " ∷ codes "name " ∷ []

abbrev key_tag : FwdKey → ℕ
key_tag (keys.Ordinal n) = 0
key_tag (keys.NameAt at) = 1

abbrev key_rest : FwdKey → List ℕ
key_rest (keys.Ordinal n) = ended_by 0x0A decimal n
key_rest (keys.NameAt at) = ended_by 0x0A decimal at

key-pieces : ArePieces key_pieces
key-pieces = pieces-test key_pieces refl

key-choice : IsChoice key_pieces key_text IsKey key_tag key_rest
key-choice = record { all = key-pieces.all; distinct = key-pieces.distinct; tagged = tagged; some = some }
  where
    tagged : (key : FwdKey) → IsKey key → (key_tag key < 2) × (key_text key ≡ piece_at key_pieces (key_tag key) ++ key_rest key)
    tagged (keys.Ordinal n) h = (omega arith, lead-word (codes "ordinal") (decimal n) [])
    tagged (keys.NameAt at) h = (omega arith, lead-word (codes "name") (decimal at) [])

    some : (k : ℕ) → k < 2 → (key : FwdKey) × IsKey key × (key_tag key ≡ k)
    some zero lt = (keys.Ordinal 0, omega arith, refl)
    some (suc zero) lt = (keys.NameAt 0, omega arith, refl)
    some (suc (suc k)) lt = absurd (omega arith)

ordinal-arm : IsArm 0 (ended_by 0x0A decimal) Has32 IsKey key_tag key_rest keys.Ordinal
ordinal-arm = record { into = λ n h. h; tagged = λ n h. (refl, refl); back = back }
  where
    back : (key : FwdKey) → IsKey key → key_tag key ≡ 0 → (n : ℕ) × Has32 n × (key ≡ keys.Ordinal n)
    back (keys.Ordinal n) h e = (n, h, refl)
    back (keys.NameAt at) h e = absurd (omega (arith, e))

name-arm : IsArm 1 (ended_by 0x0A decimal) Has32 IsKey key_tag key_rest keys.NameAt
name-arm = record { into = λ n h. h; tagged = λ n h. (refl, refl); back = back }
  where
    back : (key : FwdKey) → IsKey key → key_tag key ≡ 1 → (n : ℕ) × Has32 n × (key ≡ keys.NameAt n)
    back (keys.Ordinal n) h e = absurd (omega (arith, e))
    back (keys.NameAt at) h e = (at, h, refl)

number-broken : (n : ℕ) → Has32 n → no_break (ended_by 0x0A decimal n) ≡ true → ended_by 0x0A decimal n ≡ []
number-broken n h whole = let no = line-broken (decimal n) in absurd cc

pub ordinal-key-reads : (k n : ℕ) (old mid new : State) → k ≡ 0 → TakesOne key_pieces k old mid → Reads (ended_by 0x0A decimal) Has32 shut n mid new
    → Reads key_text IsKey shut (keys.Ordinal n) old new
ordinal-key-reads k n old mid new is takes reads =
    read-arm key_pieces key_text IsKey key_tag key_rest 0 (ended_by 0x0A decimal) Has32 keys.Ordinal n old mid new key-choice ordinal-arm number-broken key-pieces.any
    (subst (λ i. TakesOne key_pieces i old mid) is takes) reads

pub name-key-reads : (k n : ℕ) (old mid new : State) → k ≡ 1 → TakesOne key_pieces k old mid → Reads (ended_by 0x0A decimal) Has32 shut n mid new
    → Reads key_text IsKey shut (keys.NameAt n) old new
name-key-reads k n old mid new is takes reads =
    read-arm key_pieces key_text IsKey key_tag key_rest 1 (ended_by 0x0A decimal) Has32 keys.NameAt n old mid new key-choice name-arm number-broken key-pieces.any
    (subst (λ i. TakesOne key_pieces i old mid) is takes) reads

code-key : IsCode key_text IsKey
code-key = code-choice key_pieces key_text IsKey key_tag key_rest key-choice key-pieces.any one
  where
    one : (k : ℕ) → k < 2 → (c d : FwdKey) (r s : List ℕ) → IsKey c → IsKey d → key_tag c ≡ k → key_tag d ≡ k → key_rest c ++ r ≡ key_rest d ++ s → (c ≡ d) × (r ≡ s)
    one zero lt = arm-one 0 (ended_by 0x0A decimal) Has32 IsKey key_tag key_rest keys.Ordinal (code-number 0x0A refl) ordinal-arm
    one (suc zero) lt = arm-one 1 (ended_by 0x0A decimal) Has32 IsKey key_tag key_rest keys.NameAt (code-number 0x0A refl) name-arm
    one (suc (suc k)) lt = absurd (omega arith)

-- ---- what an entry is

head-pieces : ArePieces head_pieces
head-pieces = pieces-test head_pieces refl

abbrev forward_text : ℕ × FwdKey → List ℕ
forward_text p = ended_by 0x20 decimal p.0 ++ key_text p.1

abbrev IsForward : ℕ × FwdKey → Type 0
IsForward p = Has32 p.0 × IsKey p.1

code-forward : IsCode forward_text IsForward
code-forward = code-pair (ended_by 0x20 decimal) Has32 key_text IsKey (code-number 0x20 refl) code-key

some-key : (key : FwdKey) → 1 ≤ length (key_words key)
some-key (keys.Ordinal n) = omega arith
some-key (keys.NameAt at) = omega arith

forward-line : (n : ℕ) (key : FwdKey) → line_of (decimal n ∷ key_words key) ≡ forward_text (n, key)
forward-line n key = lead-words (decimal n ∷ []) (key_words key) (some-key key) ∙ ap (λ x. x ++ key_text key) (append-nil (decimal n ++ 0x20 ∷ []))

at-view : IsView (two 0x0A) IsPair head_rest (IsHeadOf 0) (λ p. heads.At p.0 p.1)
at-view = record { into = λ p h. (h, refl); text = λ p h. two-line p.0 p.1; back = back }
  where
    back : (h : EntryHead) → IsHeadOf 0 h → (p : ℕ × ℕ) × IsPair p × (h ≡ heads.At p.0 p.1)
    back (heads.At object offset) h = ((object, offset), h.0, refl)
    back (heads.Gate286 object offset) h = absurd (omega (arith, h.1))
    back (heads.Forward import key) h = absurd (omega (arith, h.1))

gate-view : IsView (two 0x0A) IsPair head_rest (IsHeadOf 1) (λ p. heads.Gate286 p.0 p.1)
gate-view = record { into = λ p h. (h, refl); text = λ p h. two-line p.0 p.1; back = back }
  where
    back : (h : EntryHead) → IsHeadOf 1 h → (p : ℕ × ℕ) × IsPair p × (h ≡ heads.Gate286 p.0 p.1)
    back (heads.At object offset) h = absurd (omega (arith, h.1))
    back (heads.Gate286 object offset) h = ((object, offset), h.0, refl)
    back (heads.Forward import key) h = absurd (omega (arith, h.1))

forward-view : IsView forward_text IsForward head_rest (IsHeadOf 2) (λ p. heads.Forward p.0 p.1)
forward-view = record { into = λ p h. (h, refl); text = λ p h. forward-line p.0 p.1; back = back }
  where
    back : (h : EntryHead) → IsHeadOf 2 h → (p : ℕ × FwdKey) × IsForward p × (h ≡ heads.Forward p.0 p.1)
    back (heads.At object offset) h = absurd (omega (arith, h.1))
    back (heads.Gate286 object offset) h = absurd (omega (arith, h.1))
    back (heads.Forward import key) h = ((import, key), h.0, refl)

pub at-reads : (k m n : ℕ) (old mid new : State) → k ≡ 0 → Reads (ended_by 0x20 decimal) Has32 shut m old mid → Reads (ended_by 0x0A decimal) Has32 shut n mid new
    → Reads head_rest (IsHeadOf k) shut (heads.At m n) old new
at-reads k m n old mid new is first second =
    subst (λ i. Reads head_rest (IsHeadOf i) shut (heads.At m n) old new) (sym is)
    (read-as (two 0x0A) IsPair head_rest (IsHeadOf 0) (λ p. heads.At p.0 p.1) (m, n) old new at-view (read-two 0x0A m n old mid new refl first second))

pub gate-reads : (k m n : ℕ) (old mid new : State) → k ≡ 1 → Reads (ended_by 0x20 decimal) Has32 shut m old mid → Reads (ended_by 0x0A decimal) Has32 shut n mid new
    → Reads head_rest (IsHeadOf k) shut (heads.Gate286 m n) old new
gate-reads k m n old mid new is first second =
    subst (λ i. Reads head_rest (IsHeadOf i) shut (heads.Gate286 m n) old new) (sym is)
    (read-as (two 0x0A) IsPair head_rest (IsHeadOf 1) (λ p. heads.Gate286 p.0 p.1) (m, n) old new gate-view (read-two 0x0A m n old mid new refl first second))

pub forward-reads : (k n : ℕ) (key : FwdKey) (old mid new : State) → k ≡ 2 → Reads (ended_by 0x20 decimal) Has32 shut n old mid → Reads key_text IsKey shut key mid new
    → Reads head_rest (IsHeadOf k) shut (heads.Forward n key) old new
forward-reads k n key old mid new is first second =
    subst (λ i. Reads head_rest (IsHeadOf i) shut (heads.Forward n key) old new) (sym is)
    (read-as forward_text IsForward head_rest (IsHeadOf 2) (λ p. heads.Forward p.0 p.1) (n, key) old new forward-view
    (read-pair (ended_by 0x20 decimal) Has32 key_text IsKey n key old mid new (code-number 0x20 refl) code-key first second))

head-choice : IsChoice head_pieces head_text IsHead head_tag head_rest
head-choice = record { all = head-pieces.all; distinct = head-pieces.distinct; tagged = tagged; some = some }
  where
    tagged : (h : EntryHead) → IsHead h → (head_tag h < 3) × (head_text h ≡ piece_at head_pieces (head_tag h) ++ head_rest h)
    tagged (heads.At object offset) h = (omega arith, lead-word (codes "at") (decimal object) (decimal offset ∷ []))
    tagged (heads.Gate286 object offset) h = (omega arith, lead-word (codes "gate") (decimal object) (decimal offset ∷ []))
    tagged (heads.Forward import key) h = (omega arith, lead-word (codes "forward") (decimal import) (key_words key))

    some : (k : ℕ) → k < 3 → (h : EntryHead) × IsHead h × (head_tag h ≡ k)
    some zero lt = (heads.At 0 0, (omega arith, omega arith), refl)
    some (suc zero) lt = (heads.Gate286 0 0, (omega arith, omega arith), refl)
    some (suc (suc zero)) lt = (heads.Forward 0 (keys.Ordinal 0), (omega arith, omega arith), refl)
    some (suc (suc (suc k))) lt = absurd (omega arith)

rest-one : (k : ℕ) → k < 3 → (c d : EntryHead) (r s : List ℕ) → IsHead c → IsHead d → head_tag c ≡ k → head_tag d ≡ k → head_rest c ++ r ≡ head_rest d ++ s → (c ≡ d) × (r ≡ s)
rest-one zero lt =
    arm-one 0 (two 0x0A) IsPair IsHead head_tag head_rest (λ p. heads.At p.0 p.1) (code-two 0x0A refl)
    (view-arm 0 (two 0x0A) IsPair IsHead head_tag head_rest (λ p. heads.At p.0 p.1) at-view)
rest-one (suc zero) lt =
    arm-one 1 (two 0x0A) IsPair IsHead head_tag head_rest (λ p. heads.Gate286 p.0 p.1) (code-two 0x0A refl)
    (view-arm 1 (two 0x0A) IsPair IsHead head_tag head_rest (λ p. heads.Gate286 p.0 p.1) gate-view)
rest-one (suc (suc zero)) lt =
    arm-one 2 forward_text IsForward IsHead head_tag head_rest (λ p. heads.Forward p.0 p.1) code-forward
    (view-arm 2 forward_text IsForward IsHead head_tag head_rest (λ p. heads.Forward p.0 p.1) forward-view)
rest-one (suc (suc (suc k))) lt = absurd (omega arith)

code-head : IsCode head_text IsHead
code-head = code-choice head_pieces head_text IsHead head_tag head_rest head-choice head-pieces.any rest-one

rest-broken : (h : EntryHead) → no_break (head_rest h) ≡ false
rest-broken (heads.At object offset) = ap no_break (two-line object offset) ∙ front-broken (decimal object ++ 0x20 ∷ []) (decimal offset ++ 0x0A ∷ []) (blank-broken (decimal object))
rest-broken (heads.Gate286 object offset) =
    ap no_break (two-line object offset) ∙ front-broken (decimal object ++ 0x20 ∷ []) (decimal offset ++ 0x0A ∷ []) (blank-broken (decimal object))
rest-broken (heads.Forward import key) = ap no_break (forward-line import key) ∙ front-broken (decimal import ++ 0x20 ∷ []) (key_text key) (blank-broken (decimal import))

pub head-reads : (k : ℕ) (h : EntryHead) (old mid new : State) → TakesOne head_pieces k old mid → Reads head_rest (IsHeadOf k) shut h mid new → Reads head_text IsHead shut h old new
head-reads k h old mid new takes reads =
    read-choice head_pieces head_text IsHead head_tag head_rest k h old mid new head-choice (λ x whole. absurd (no x whole)) head-pieces.any takes reads
  where
    no : (x : EntryHead) → no_break (head_rest x) ≡ true → ⊥
    no x whole = let broken = rest-broken x in absurd cc

-- ---- the line of an entry

abbrev entry1 : ℕ × EntryHead → List ℕ
entry1 e = ended_by 0x20 decimal e.0 ++ head_text e.1

abbrev entry2 : ℕ × EntryHead → List ℕ
entry2 e = codes "entry " ++ entry1 e

code-entry1 : IsCode entry1 IsEntry
code-entry1 = code-pair (ended_by 0x20 decimal) Has32 head_text IsHead (code-number 0x20 refl) code-head

some-head : (h : EntryHead) → 1 ≤ length (head_words h)
some-head (heads.At object offset) = omega arith
some-head (heads.Gate286 object offset) = omega arith
some-head (heads.Forward import key) = omega arith

entry-text : (e : ℕ × EntryHead) → entry_line e ≡ entry2 e
unfolding entry_line
entry-text e =
    lead-words (codes "entry" ∷ decimal e.0 ∷ []) (head_words e.1) (some-head e.1) ∙ regroup (codes "entry ") (decimal e.0 ++ 0x20 ∷ []) (head_text e.1)
  where
    regroup : (a b c : List ℕ) → (a ++ (b ++ [])) ++ c ≡ a ++ (b ++ c)
    regroup a b c = simp (append_assoc, append-nil)

entry-view : IsView entry2 IsEntry entry_line IsEntry (λ e. e)
entry-view = record { into = λ e h. h; text = λ e h. entry-text e; back = λ e h. (e, h, refl) }

pub code-entry : IsCode entry_line IsEntry
code-entry = code-as entry2 IsEntry entry_line IsEntry (λ e. e) (code-then (codes "entry ") entry1 IsEntry refl code-entry1) entry-view

pub entry-reads : (n : ℕ) (h : EntryHead) (s0 s1 s2 s3 : State) → Takes (codes "entry ") s0 s1 → Reads (ended_by 0x20 decimal) Has32 shut n s1 s2 → Reads head_text IsHead shut h s2 s3
    → Reads entry_line IsEntry shut (n, h) s0 s3
entry-reads n h s0 s1 s2 s3 entry number head =
    read-as entry2 IsEntry entry_line IsEntry (λ e. e) (n, h) s0 s3 entry-view
    (read-then (codes "entry ") entry1 IsEntry (n, h) s0 s1 s3 refl code-entry1 entry
    (read-pair (ended_by 0x20 decimal) Has32 head_text IsHead n h s1 s2 s3 (code-number 0x20 refl) code-head number head))

pub entry-front : (e : ℕ × EntryHead) → (rest : List ℕ) × (entry_line e ≡ codes "entry " ++ rest)
entry-front e = (entry1 e, entry-text e)

-- ---- the line of an import module

code-name : (b : ℕ) → no_break (b ∷ []) ≡ false → IsCode (ended_by b name_word) IsListedName
code-name b h = code-word name_word IsListedName b name-words (by b h)
  where
    by : (b : ℕ) → no_break (b ∷ []) ≡ false → is_in_word b ≡ false
    by b h = one (is_in_word b) h
      where
        one : (a : Bool) → a && true ≡ false → a ≡ false
        one true h = absurd cc
        one false h = refl

abbrev import1 : ℕ → List ℕ → List ℕ
import1 k name = (decimal k ++ 0x20 ∷ []) ++ ended_by 0x0A name_word name

abbrev import2 : ℕ → List ℕ → List ℕ
import2 k name = codes "import " ++ import1 k name

import-text : (k : ℕ) (name : List ℕ) → import_line k name ≡ import2 k name
unfolding import_line
import-text k name =
    lead-words (codes "import" ∷ decimal k ∷ []) (name_word name ∷ []) (omega arith) ∙ regroup (codes "import ") (decimal k ++ 0x20 ∷ []) (name_word name ++ 0x0A ∷ [])
  where
    regroup : (a b c : List ℕ) → (a ++ (b ++ [])) ++ c ≡ a ++ (b ++ c)
    regroup a b c = simp (append_assoc, append-nil)

import-view : (k : ℕ) → IsView (import2 k) IsListedName (import_line k) IsListedName (λ n. n)
import-view k = record { into = λ n h. h; text = λ n h. import-text k n; back = λ n h. (n, h, refl) }

code-import1 : (k : ℕ) → IsCode (import1 k) IsListedName
code-import1 k = code-then (decimal k ++ 0x20 ∷ []) (ended_by 0x0A name_word) IsListedName (blank-broken (decimal k)) (code-name 0x0A refl)

pub code-import : (k : ℕ) → IsCode (import_line k) IsListedName
code-import k = code-as (import2 k) IsListedName (import_line k) IsListedName (λ n. n) (code-then (codes "import ") (import1 k) IsListedName refl (code-import1 k)) (import-view k)

pub import-reads : (k : ℕ) (name : List ℕ) (s0 s1 s2 s3 : State) → Takes (codes "import ") s0 s1 → Takes (decimal k ++ 0x20 ∷ []) s1 s2
    → Reads (ended_by 0x0A name_word) IsListedName shut name s2 s3 → Reads (import_line k) IsListedName shut name s0 s3
import-reads k name s0 s1 s2 s3 import number reads =
    read-as (import2 k) IsListedName (import_line k) IsListedName (λ n. n) name s0 s3 (import-view k)
    (read-then (codes "import ") (import1 k) IsListedName name s0 s1 s3 refl (code-import1 k) import
    (read-then (decimal k ++ 0x20 ∷ []) (ended_by 0x0A name_word) IsListedName name s1 s2 s3 (blank-broken (decimal k)) (code-name 0x0A refl) number reads))

pub import-front : (k : ℕ) (name : List ℕ) → (rest : List ℕ) × (import_line k name ≡ codes "import " ++ rest)
import-front k name = (import1 k name, import-text k name)

-- ---- the line of a name

abbrev name1 : List ℕ × ℕ → List ℕ
name1 n = ended_by 0x20 name_word n.0 ++ ended_by 0x0A decimal n.1

abbrev name2 : List ℕ × ℕ → List ℕ
name2 n = codes "name " ++ name1 n

code-name1 : IsCode name1 IsNamed
code-name1 = code-pair (ended_by 0x20 name_word) IsListedName (ended_by 0x0A decimal) Has32 (code-name 0x20 refl) (code-number 0x0A refl)

name-text : (n : List ℕ × ℕ) → name_line n ≡ name2 n
unfolding name_line
name-text n =
    lead-words (codes "name" ∷ name_word n.0 ∷ []) (decimal n.1 ∷ []) (omega arith) ∙ regroup (codes "name ") (name_word n.0 ++ 0x20 ∷ []) (decimal n.1 ++ 0x0A ∷ [])
  where
    regroup : (a b c : List ℕ) → (a ++ (b ++ [])) ++ c ≡ a ++ (b ++ c)
    regroup a b c = simp (append_assoc, append-nil)

name-view : IsView name2 IsNamed name_line IsNamed (λ n. n)
name-view = record { into = λ n h. h; text = λ n h. name-text n; back = λ n h. (n, h, refl) }

pub code-named : IsCode name_line IsNamed
code-named = code-as name2 IsNamed name_line IsNamed (λ n. n) (code-then (codes "name ") name1 IsNamed refl code-name1) name-view

pub name-reads : (name : List ℕ) (n : ℕ) (s0 s1 s2 s3 : State) → Takes (codes "name ") s0 s1 → Reads (ended_by 0x20 name_word) IsListedName shut name s1 s2
    → Reads (ended_by 0x0A decimal) Has32 shut n s2 s3 → Reads name_line IsNamed shut (name, n) s0 s3
name-reads name n s0 s1 s2 s3 word told number =
    read-as name2 IsNamed name_line IsNamed (λ x. x) (name, n) s0 s3 name-view
    (read-then (codes "name ") name1 IsNamed (name, n) s0 s1 s3 refl code-name1 word
    (read-pair (ended_by 0x20 name_word) IsListedName (ended_by 0x0A decimal) Has32 name n s1 s2 s3 (code-name 0x20 refl) (code-number 0x0A refl) told number))

pub name-front : (n : List ℕ × ℕ) → (rest : List ℕ) × (name_line n ≡ codes "name " ++ rest)
name-front n = (name1 n, name-text n)
