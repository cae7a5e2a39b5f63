-- The lines of objects and pages, as they are read.
use Rattle.std.proofs.Common.{◌≡◌, ℕ, zero, suc, ◌≤◌, ◌<◌, true, List, [], ◌∷◌, ◌++◌, length, refl, sym, subst, ap, ◌∙◌, arith, append_assoc, append-nil}
use Rattle.std.specs.Prelude.{codes, decimal}
use Rattle.lx_types.specs.Escaped.{hex_address}
use Rattle.session_model.specs.Text.{line_of}
use Rattle.lx_types.specs.declared.object.PageKind.{PageKind}
use Rattle.lx_types.specs.declared.object.PageKind.TheVariants as kinds
use Rattle.lx_types.specs.declared.object.PageHead.{PageHead}
use Rattle.dump_model.specs.Bounds.{Has32, HasData, IsPair}
use Rattle.dump_model.specs.Lines.{data_words}
use Rattle.dump_read.specs.declared.objects.ObjectHead.{ObjectHead}
use Rattle.dump_model.specs.Words.{no_break}
use Rattle.dump_read.specs.Taken.{State, Reads, shut, Takes}
use Rattle.dump_read.specs.Settled.{ended_by, piece_at, TakesOne}
use Rattle.dump_read.specs.Parts.{HasHeadData, kind_tag, data_pieces, data_text, place_rest, data_rest, IsDataOf, page_head_line, IsObjectHead, object_head_line}
use Rattle.dump_read.proofs.Forms.{IsCode, IsView, IsChoice, code-word, code-then, code-pair, code-as, code-choice, read-then, read-pair, read-as, read-choice, view-arm, arm-one, front-broken, nothing-reads}
use Rattle.dump_read.proofs.Steps.{ArePieces, pieces-test}
use Rattle.dump_model.proofs.FlagLaws.{flags-words}
use Rattle.dump_read.proofs.LineTexts.{lead-words, lead-word, blank-broken, code-number, two, code-two, read-two, two-line}

-- ---- the data of a page

data-pieces : ArePieces data_pieces
data-pieces = pieces-test data_pieces refl

abbrev place : PageKind → ℕ → ℕ → PageHead
place kind at len = record { kind = kind; at = at; len = len }

abbrev kind-of : PageHead → ℕ
kind-of h = kind_tag h.kind

plain-view : IsView (two 0x0A) IsPair data_rest (IsDataOf 0) (λ p. place kinds.Plain p.0 p.1)
plain-view = record { into = λ p h. (h, refl); text = λ p h. two-line p.0 p.1; back = λ h in-range. back h.kind h.at h.len in-range.0 in-range.1 }
  where
    back : (kind : PageKind) (at len : ℕ) → HasData kind at len → kind_tag kind ≡ 0 → (p : ℕ × ℕ) × IsPair p × (place kind at len ≡ place kinds.Plain p.0 p.1)
    back kinds.Plain at len h e = ((at, len), h, refl)
    back kinds.Iterated at len h e = absurd (omega (arith, e))
    back kinds.Invalid at len h e = absurd (omega (arith, e))
    back kinds.Zero at len h e = absurd (omega (arith, e))

iterated-view : IsView (two 0x0A) IsPair data_rest (IsDataOf 1) (λ p. place kinds.Iterated p.0 p.1)
iterated-view = record { into = λ p h. (h, refl); text = λ p h. two-line p.0 p.1; back = λ h in-range. back h.kind h.at h.len in-range.0 in-range.1 }
  where
    back : (kind : PageKind) (at len : ℕ) → HasData kind at len → kind_tag kind ≡ 1 → (p : ℕ × ℕ) × IsPair p × (place kind at len ≡ place kinds.Iterated p.0 p.1)
    back kinds.Plain at len h e = absurd (omega (arith, e))
    back kinds.Iterated at len h e = ((at, len), h, refl)
    back kinds.Invalid at len h e = absurd (omega (arith, e))
    back kinds.Zero at len h e = absurd (omega (arith, e))

no-place : (kind : PageKind) (at len : ℕ) → (at ≡ 0) × (len ≡ 0) → place kind at len ≡ place kind 0 0
no-place kind at len h = ap (λ n. place kind n len) h.0 ∙ ap (λ n. place kind 0 n) h.1

invalid-view : IsView {B = Unit {0}} (λ _. []) (λ _. Unit {0}) data_rest (IsDataOf 2) (λ _. place kinds.Invalid 0 0)
invalid-view = record { into = λ _ _. ((refl, refl), refl); text = λ _ _. refl; back = λ h in-range. back h.kind h.at h.len in-range.0 in-range.1 }
  where
    back : (kind : PageKind) (at len : ℕ) → HasData kind at len → kind_tag kind ≡ 2 → (u : Unit {0}) × Unit {0} × (place kind at len ≡ place kinds.Invalid 0 0)
    back kinds.Plain at len h e = absurd (omega (arith, e))
    back kinds.Iterated at len h e = absurd (omega (arith, e))
    back kinds.Invalid at len h e = (tt, tt, no-place kinds.Invalid at len h)
    back kinds.Zero at len h e = absurd (omega (arith, e))

zero-view : IsView {B = Unit {0}} (λ _. []) (λ _. Unit {0}) data_rest (IsDataOf 3) (λ _. place kinds.Zero 0 0)
zero-view = record { into = λ _ _. ((refl, refl), refl); text = λ _ _. refl; back = λ h in-range. back h.kind h.at h.len in-range.0 in-range.1 }
  where
    back : (kind : PageKind) (at len : ℕ) → HasData kind at len → kind_tag kind ≡ 3 → (u : Unit {0}) × Unit {0} × (place kind at len ≡ place kinds.Zero 0 0)
    back kinds.Plain at len h e = absurd (omega (arith, e))
    back kinds.Iterated at len h e = absurd (omega (arith, e))
    back kinds.Invalid at len h e = absurd (omega (arith, e))
    back kinds.Zero at len h e = (tt, tt, no-place kinds.Zero at len h)

pub plain-reads : (k m n : ℕ) (old mid new : State) → k ≡ 0 → Reads (ended_by 0x20 decimal) Has32 shut m old mid → Reads (ended_by 0x0A decimal) Has32 shut n mid new
    → Reads data_rest (IsDataOf k) shut (place kinds.Plain m n) old new
plain-reads k m n old mid new is first second =
    subst (λ i. Reads data_rest (IsDataOf i) shut (place kinds.Plain m n) old new) (sym is)
    (read-as (two 0x0A) IsPair data_rest (IsDataOf 0) (λ p. place kinds.Plain p.0 p.1) (m, n) old new plain-view (read-two 0x0A m n old mid new refl first second))

pub iterated-reads : (k m n : ℕ) (old mid new : State) → k ≡ 1 → Reads (ended_by 0x20 decimal) Has32 shut m old mid → Reads (ended_by 0x0A decimal) Has32 shut n mid new
    → Reads data_rest (IsDataOf k) shut (place kinds.Iterated m n) old new
iterated-reads k m n old mid new is first second =
    subst (λ i. Reads data_rest (IsDataOf i) shut (place kinds.Iterated m n) old new) (sym is)
    (read-as (two 0x0A) IsPair data_rest (IsDataOf 1) (λ p. place kinds.Iterated p.0 p.1) (m, n) old new iterated-view (read-two 0x0A m n old mid new refl first second))

pub invalid-reads : (k : ℕ) (s : State) → k ≡ 2 → Reads data_rest (IsDataOf k) shut (place kinds.Invalid 0 0) s s
invalid-reads k s is =
    subst (λ i. Reads data_rest (IsDataOf i) shut (place kinds.Invalid 0 0) s s) (sym is)
    (read-as {B = Unit {0}} (λ _. []) (λ _. Unit {0}) data_rest (IsDataOf 2) (λ _. place kinds.Invalid 0 0) tt s s invalid-view (nothing-reads s))

pub zero-reads : (k : ℕ) (s : State) → k ≡ 3 → Reads data_rest (IsDataOf k) shut (place kinds.Zero 0 0) s s
zero-reads k s is =
    subst (λ i. Reads data_rest (IsDataOf i) shut (place kinds.Zero 0 0) s s) (sym is)
    (read-as {B = Unit {0}} (λ _. []) (λ _. Unit {0}) data_rest (IsDataOf 3) (λ _. place kinds.Zero 0 0) tt s s zero-view (nothing-reads s))

data-choice : IsChoice data_pieces data_text HasHeadData kind-of data_rest
data-choice = record { all = data-pieces.all; distinct = data-pieces.distinct; tagged = λ h range. tagged h.kind h.at h.len; some = some }
  where
    tagged : (kind : PageKind) (at len : ℕ) → (kind_tag kind < 4) × (line_of (data_words kind at len) ≡ piece_at data_pieces (kind_tag kind) ++ place_rest kind at len)
    tagged kinds.Plain at len = (omega arith, lead-word (codes "plain") (decimal at) (decimal len ∷ []))
    tagged kinds.Iterated at len = (omega arith, lead-word (codes "iterated") (decimal at) (decimal len ∷ []))
    tagged kinds.Invalid at len = (omega arith, refl)
    tagged kinds.Zero at len = (omega arith, refl)

    some : (k : ℕ) → k < 4 → (h : PageHead) × HasHeadData h × (kind-of h ≡ k)
    some zero lt = (place kinds.Plain 0 0, (omega arith, omega arith), refl)
    some (suc zero) lt = (place kinds.Iterated 0 0, (omega arith, omega arith), refl)
    some (suc (suc zero)) lt = (place kinds.Invalid 0 0, (refl, refl), refl)
    some (suc (suc (suc zero))) lt = (place kinds.Zero 0 0, (refl, refl), refl)
    some (suc (suc (suc (suc k)))) lt = absurd (omega arith)

rest-broken : (kind : PageKind) (at len : ℕ) → no_break (place_rest kind at len) ≡ true → place_rest kind at len ≡ []
rest-broken kinds.Plain at len whole = absurd (numbers at len whole)
  where
    numbers : (at len : ℕ) → no_break (line_of (decimal at ∷ decimal len ∷ [])) ≡ true → ⊥
    numbers at len whole =
        let no = ap no_break (two-line at len) ∙ front-broken (decimal at ++ 0x20 ∷ []) (decimal len ++ 0x0A ∷ []) (blank-broken (decimal at)) in absurd cc
rest-broken kinds.Iterated at len whole = absurd (numbers at len whole)
  where
    numbers : (at len : ℕ) → no_break (line_of (decimal at ∷ decimal len ∷ [])) ≡ true → ⊥
    numbers at len whole =
        let no = ap no_break (two-line at len) ∙ front-broken (decimal at ++ 0x20 ∷ []) (decimal len ++ 0x0A ∷ []) (blank-broken (decimal at)) in absurd cc
rest-broken kinds.Invalid at len whole = refl
rest-broken kinds.Zero at len whole = refl

pub data-reads : (k : ℕ) (h : PageHead) (old mid new : State) → TakesOne data_pieces k old mid → Reads data_rest (IsDataOf k) shut h mid new
    → Reads data_text HasHeadData shut h old new
data-reads k h old mid new takes reads =
    read-choice data_pieces data_text HasHeadData kind-of data_rest k h old mid new data-choice (λ x whole. rest-broken x.kind x.at x.len whole) data-pieces.any takes reads

rest-one : (k : ℕ) → k < 4 → (c d : PageHead) (r s : List ℕ) → HasHeadData c → HasHeadData d → kind-of c ≡ k → kind-of d ≡ k → data_rest c ++ r ≡ data_rest d ++ s
    → (c ≡ d) × (r ≡ s)
rest-one zero lt =
    arm-one 0 (two 0x0A) IsPair HasHeadData kind-of data_rest (λ p. place kinds.Plain p.0 p.1) (code-two 0x0A refl)
    (view-arm 0 (two 0x0A) IsPair HasHeadData kind-of data_rest (λ p. place kinds.Plain p.0 p.1) plain-view)
rest-one (suc zero) lt =
    arm-one 1 (two 0x0A) IsPair HasHeadData kind-of data_rest (λ p. place kinds.Iterated p.0 p.1) (code-two 0x0A refl)
    (view-arm 1 (two 0x0A) IsPair HasHeadData kind-of data_rest (λ p. place kinds.Iterated p.0 p.1) iterated-view)
rest-one (suc (suc zero)) lt = λ c d r s hc hd ec ed is.
    let a = invalid-view.back c (hc, ec) in
    let b = invalid-view.back d (hd, ed) in
    (a.2 ∙ sym b.2, ap (λ xs. xs ++ r) (sym (ap data_rest a.2)) ∙ is ∙ ap (λ xs. xs ++ s) (ap data_rest b.2))
rest-one (suc (suc (suc zero))) lt = λ c d r s hc hd ec ed is.
    let a = zero-view.back c (hc, ec) in
    let b = zero-view.back d (hd, ed) in
    (a.2 ∙ sym b.2, ap (λ xs. xs ++ r) (sym (ap data_rest a.2)) ∙ is ∙ ap (λ xs. xs ++ s) (ap data_rest b.2))
rest-one (suc (suc (suc (suc k)))) lt = absurd (omega arith)

code-data : IsCode data_text HasHeadData
code-data = code-choice data_pieces data_text HasHeadData kind-of data_rest data-choice data-pieces.any rest-one

-- ---- the line of a page

abbrev page1 : ℕ → PageHead → List ℕ
page1 i h = (decimal i ++ 0x20 ∷ []) ++ data_text h

abbrev page2 : ℕ → ℕ → PageHead → List ℕ
page2 k i h = (decimal k ++ 0x20 ∷ []) ++ page1 i h

abbrev page3 : ℕ → ℕ → PageHead → List ℕ
page3 k i h = codes "page " ++ page2 k i h

some-data : (kind : PageKind) (at len : ℕ) → 1 ≤ length (data_words kind at len)
some-data kinds.Plain at len = omega arith
some-data kinds.Iterated at len = omega arith
some-data kinds.Invalid at len = omega arith
some-data kinds.Zero at len = omega arith

page-text : (k i : ℕ) (h : PageHead) → page_head_line k i h ≡ page3 k i h
page-text k i h =
    lead-words (codes "page" ∷ decimal k ∷ decimal i ∷ []) (data_words h.kind h.at h.len) (some-data h.kind h.at h.len)
    ∙ regroup (codes "page ") (decimal k ++ 0x20 ∷ []) (decimal i ++ 0x20 ∷ []) (data_text h)
  where
    regroup : (a b c d : List ℕ) → (a ++ (b ++ (c ++ []))) ++ d ≡ a ++ (b ++ (c ++ d))
    regroup a b c d = simp (append_assoc, append-nil)

page-view : (k i : ℕ) → IsView (page3 k i) HasHeadData (page_head_line k i) HasHeadData (λ h. h)
page-view k i = record { into = λ h range. range; text = λ h range. page-text k i h; back = λ h range. (h, range, refl) }

pub code-page : (k i : ℕ) → IsCode (page_head_line k i) HasHeadData
code-page k i =
    code-as (page3 k i) HasHeadData (page_head_line k i) HasHeadData (λ h. h)
    (code-then (codes "page ") (page2 k i) HasHeadData refl
    (code-then (decimal k ++ 0x20 ∷ []) (page1 i) HasHeadData (blank-broken (decimal k)) (code-then (decimal i ++ 0x20 ∷ []) data_text HasHeadData (blank-broken (decimal i)) code-data)))
    (page-view k i)

pub page-reads : (k i : ℕ) (h : PageHead) (s0 s1 s2 s3 s4 : State) → Takes (codes "page ") s0 s1 → Takes (decimal k ++ 0x20 ∷ []) s1 s2 → Takes (decimal i ++ 0x20 ∷ []) s2 s3
    → Reads data_text HasHeadData shut h s3 s4 → Reads (page_head_line k i) HasHeadData shut h s0 s4
page-reads k i h s0 s1 s2 s3 s4 page object number where-it-is =
    let last = code-then (decimal i ++ 0x20 ∷ []) data_text HasHeadData (blank-broken (decimal i)) code-data in
    read-as (page3 k i) HasHeadData (page_head_line k i) HasHeadData (λ x. x) h s0 s4 (page-view k i)
    (read-then (codes "page ") (page2 k i) HasHeadData h s0 s1 s4 refl (code-then (decimal k ++ 0x20 ∷ []) (page1 i) HasHeadData (blank-broken (decimal k)) last) page
    (read-then (decimal k ++ 0x20 ∷ []) (page1 i) HasHeadData h s1 s2 s4 (blank-broken (decimal k)) last object
    (read-then (decimal i ++ 0x20 ∷ []) data_text HasHeadData h s2 s3 s4 (blank-broken (decimal i)) code-data number where-it-is)))

pub page-front : (k i : ℕ) (h : PageHead) → (rest : List ℕ) × (page_head_line k i h ≡ codes "page " ++ rest)
page-front k i h = (page2 k i h, page-text k i h)

-- ---- the line of an object

abbrev O1 : Type 0
O1 = ℕ × ℕ

abbrev O2 : Type 0
O2 = ℕ × O1

abbrev O3 : Type 0
O3 = ℕ × O2

abbrev flag_text : ℕ → List ℕ
flag_text n = ended_by 0x20 hex_address n

abbrev object1 : ℕ → List ℕ
object1 n = codes "pages " ++ ended_by 0x0A decimal n

abbrev object2 : O1 → List ℕ
object2 p = flag_text p.0 ++ object1 p.1

abbrev object3 : O1 → List ℕ
object3 p = codes "flags " ++ object2 p

abbrev object4 : O2 → List ℕ
object4 p = flag_text p.0 ++ object3 p.1

abbrev object5 : O2 → List ℕ
object5 p = codes "base " ++ object4 p

abbrev object6 : O3 → List ℕ
object6 p = ended_by 0x20 decimal p.0 ++ object5 p.1

abbrev object7 : O3 → List ℕ
object7 p = codes "size " ++ object6 p

abbrev object8 : ℕ → O3 → List ℕ
object8 k p = (decimal k ++ 0x20 ∷ []) ++ object7 p

abbrev object9 : ℕ → O3 → List ℕ
object9 k p = codes "object " ++ object8 k p

abbrev In1 : O1 → Type 0
In1 p = Has32 p.0 × Has32 p.1

abbrev In2 : O2 → Type 0
In2 p = Has32 p.0 × In1 p.1

abbrev In3 : O3 → Type 0
In3 p = Has32 p.0 × In2 p.1

code-flags : IsCode flag_text Has32
code-flags = code-word hex_address Has32 0x20 flags-words refl

ocode1 : IsCode object1 Has32
ocode1 = code-then (codes "pages ") (ended_by 0x0A decimal) Has32 refl (code-number 0x0A refl)

ocode2 : IsCode object2 In1
ocode2 = code-pair flag_text Has32 object1 Has32 code-flags ocode1

ocode3 : IsCode object3 In1
ocode3 = code-then (codes "flags ") object2 In1 refl ocode2

ocode4 : IsCode object4 In2
ocode4 = code-pair flag_text Has32 object3 In1 code-flags ocode3

ocode5 : IsCode object5 In2
ocode5 = code-then (codes "base ") object4 In2 refl ocode4

ocode6 : IsCode object6 In3
ocode6 = code-pair (ended_by 0x20 decimal) Has32 object5 In2 (code-number 0x20 refl) ocode5

ocode7 : IsCode object7 In3
ocode7 = code-then (codes "size ") object6 In3 refl ocode6

ocode8 : (k : ℕ) → IsCode (object8 k) In3
ocode8 k = code-then (decimal k ++ 0x20 ∷ []) object7 In3 (blank-broken (decimal k)) ocode7

abbrev head_of : O3 → ObjectHead
head_of p = record { size = p.0; base = p.1.0; flags = p.1.1.0; count = p.1.1.1 }

object-text : (k : ℕ) (p : O3) → object_head_line k (head_of p) ≡ object9 k p
object-text k p =
    let o = head_of p in
    lead-words
    (codes "object" ∷ decimal k ∷ codes "size" ∷ decimal o.size ∷ codes "base" ∷ hex_address o.base ∷ codes "flags" ∷ hex_address o.flags ∷ codes "pages" ∷ [])
    (decimal o.count ∷ []) (omega arith)
    ∙ regroup (codes "object ") (decimal k ++ 0x20 ∷ []) (codes "size ") (decimal o.size ++ 0x20 ∷ []) (codes "base ") (hex_address o.base ++ 0x20 ∷ []) (codes "flags ")
    (hex_address o.flags ++ 0x20 ∷ []) (codes "pages ") (decimal o.count ++ 0x0A ∷ [])
  where
    regroup : (a b c d e f g h i n : List ℕ) → (a ++ (b ++ (c ++ (d ++ (e ++ (f ++ (g ++ (h ++ (i ++ []))))))))) ++ n ≡ a ++ (b ++ (c ++ (d ++ (e ++ (f ++ (g ++ (h ++ (i ++ n))))))))
    regroup a b c d e f g h i n = simp (append_assoc, append-nil)

object-view : (k : ℕ) → IsView (object9 k) In3 (object_head_line k) IsObjectHead head_of
object-view k = record {
  into = λ p h. record { size = h.0; base = h.1.0; flags = h.1.1.0; count = h.1.1.1 };
  text = λ p h. object-text k p;
  back = λ o h. ((o.size, (o.base, (o.flags, o.count))), (h.size, (h.base, (h.flags, h.count))), refl);
}

pub code-object : (k : ℕ) → IsCode (object_head_line k) IsObjectHead
code-object k = code-as (object9 k) In3 (object_head_line k) IsObjectHead head_of (code-then (codes "object ") (object8 k) In3 refl (ocode8 k)) (object-view k)

pub object-reads : (k : ℕ) (o : ObjectHead) (s0 s1 s2 s3 s4 s5 s6 s7 s8 s9 s10 : State) → Takes (codes "object ") s0 s1 → Takes (decimal k ++ 0x20 ∷ []) s1 s2
    → Takes (codes "size ") s2 s3 → Reads (ended_by 0x20 decimal) Has32 shut o.size s3 s4 → Takes (codes "base ") s4 s5 → Reads (ended_by 0x20 hex_address) Has32 shut o.base s5 s6
    → Takes (codes "flags ") s6 s7 → Reads (ended_by 0x20 hex_address) Has32 shut o.flags s7 s8 → Takes (codes "pages ") s8 s9
    → Reads (ended_by 0x0A decimal) Has32 shut o.count s9 s10 → Reads (object_head_line k) IsObjectHead shut o s0 s10
object-reads k o s0 s1 s2 s3 s4 s5 s6 s7 s8 s9 s10 object number size-word size base-word base flags-word flags pages-word count =
    read-as (object9 k) In3 (object_head_line k) IsObjectHead head_of (o.size, (o.base, (o.flags, o.count))) s0 s10 (object-view k)
    (read-then (codes "object ") (object8 k) In3 _ s0 s1 s10 refl (ocode8 k) object
    (read-then (decimal k ++ 0x20 ∷ []) object7 In3 _ s1 s2 s10 (blank-broken (decimal k)) ocode7 number
    (read-then (codes "size ") object6 In3 _ s2 s3 s10 refl ocode6 size-word
    (read-pair (ended_by 0x20 decimal) Has32 object5 In2 o.size _ s3 s4 s10 (code-number 0x20 refl) ocode5 size
    (read-then (codes "base ") object4 In2 _ s4 s5 s10 refl ocode4 base-word
    (read-pair flag_text Has32 object3 In1 o.base _ s5 s6 s10 code-flags ocode3 base
    (read-then (codes "flags ") object2 In1 _ s6 s7 s10 refl ocode2 flags-word
    (read-pair flag_text Has32 object1 Has32 o.flags o.count s7 s8 s10 code-flags ocode1 flags
    (read-then (codes "pages ") (ended_by 0x0A decimal) Has32 o.count s8 s9 s10 refl (code-number 0x0A refl) pages-word count)))))))))

pub object-front : (k : ℕ) (o : ObjectHead) → (rest : List ℕ) × (object_head_line k o ≡ codes "object " ++ rest)
object-front k o = let p : O3 = (o.size, (o.base, (o.flags, o.count))) in (object8 k p, object-text k p)
