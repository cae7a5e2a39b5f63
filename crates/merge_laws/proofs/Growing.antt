-- A process's own items grow at their end: by one entry more, and by one line more at the end of the history.
use Rattle.std.proofs.Common.{◌≡◌, ℕ, suc, ◌+◌, ◌<◌, ◌≤◌, ◌==◌, if◌then◌else◌, List, [], ◌∷◌, ◌++◌, length, map, filter, flat_map, refl, sym, ◌∙◌, ap, subst, arith, append_assoc, append-nil, ne_eqb, eq-eqb}
use Rattle.std.specs.List.{enumerate_from}
use Rattle.std.proofs.lemmas.List.Elements.{filter-append}
use Rattle.load_model.specs.declared.deeds.Entry.{Entry}
use Rattle.session_model.specs.declared.sessions.Line.{Line}
use Rattle.session_model.specs.Merging.{Item, entry, line, FrontsFrom, AllPlaces}
use Rattle.merge_laws.specs.Accounts.{Claim, lines_after, own_items}

-- ---- one entry more

none_at : (low high front : ℕ) (lines : List Line) → FrontsFrom low high lines → high < front → filter (λ (l : Line). l.front == front) lines ≡ []
none_at low high front [] rise over = refl
none_at low high front (l ∷ lines) rise over =
    let most : l.front ≤ high = rise.1 in
    ap (λ b. if b then l ∷ filter (λ (x : Line). x.front == front) lines else filter (λ (x : Line). x.front == front) lines) (ne_eqb l.front front (λ e. omega arith))
    ∙ none_at l.front high front lines rise.2 over

flat_end : {A : Type 0} (f : ℕ × A → List Item) (n : ℕ) (xs : List A) (x : A) →
    flat_map f (enumerate_from n (xs ++ x ∷ [])) ≡ flat_map f (enumerate_from n xs) ++ f (n + length xs, x)
flat_end f n [] x = append-nil (f (n, x)) ∙ ap (λ (k : ℕ). f (k, x)) (omega arith)
flat_end f n (y ∷ xs) x =
    let more : (n + 1) + length xs ≡ n + suc (length xs) = omega arith in
    ap (λ l. f (n, y) ++ l) (flat_end f (n + 1) xs x ∙ ap (λ (k : ℕ). flat_map f (enumerate_from (n + 1) xs) ++ f (k, x)) more)
    ∙ sym (append_assoc (f (n, y)) (flat_map f (enumerate_from (n + 1) xs)) (f (n + suc (length xs), x)))

pub items_entry : (k : ℕ) (h : List Entry) (x : Entry) (lines : List Line) → FrontsFrom 0 (length h) lines →
    own_items k (h ++ x ∷ []) lines ≡ own_items k h lines ++ entry x ∷ []
unfolding own_items
items_entry k h x lines rise =
    let f : ℕ × Entry → List Item = λ e. entry e.1 ∷ lines_after k lines e.0 in
    ap (λ l. lines_after k lines 0 ++ l)
    (flat_end f 1 h x ∙ ap (λ ls. flat_map f (enumerate_from 1 h) ++ entry x ∷ map (line k) ls) (none_at 0 (length h) (1 + length h) lines rise (omega arith)))
    ∙ sym (append_assoc (lines_after k lines 0) (flat_map f (enumerate_from 1 h)) (entry x ∷ []))

-- ---- one line more

map-append_one : (k : ℕ) (xs : List Line) (l : Line) → map (line k) (xs ++ l ∷ []) ≡ map (line k) xs ++ line k l ∷ []
map-append_one k [] l = refl
map-append_one k (x ∷ xs) l = ap (λ ys. line k x ∷ ys) (map-append_one k xs l)

at_last : (k n : ℕ) (lines : List Line) (l : Line) → l.front ≡ n → lines_after k (lines ++ l ∷ []) n ≡ lines_after k lines n ++ line k l ∷ []
at_last k n lines l is =
    ap (map (line k)) (filter-append (λ (x : Line). x.front == n) lines (l ∷ []) ∙ ap (λ b. filter (λ (x : Line). x.front == n) lines ++ (if b then l ∷ [] else [])) (eq-eqb l.front n is))
    ∙ map-append_one k (filter (λ (x : Line). x.front == n) lines) l

at_else : (k n : ℕ) (lines : List Line) (l : Line) → (l.front ≡ n → ⊥) → lines_after k (lines ++ l ∷ []) n ≡ lines_after k lines n
at_else k n lines l ne =
    ap (map (line k)) (filter-append (λ (x : Line). x.front == n) lines (l ∷ []) ∙ (ap (λ b. filter (λ (x : Line). x.front == n) lines ++ (if b then l ∷ [] else [])) (ne_eqb l.front n ne) ∙ append-nil (filter (λ (x : Line). x.front == n) lines)))

line_end : (k n : ℕ) (h : List Entry) (lines : List Line) (l : Line) → l.front ≡ n + length h →
    lines_after k (lines ++ l ∷ []) n ++ flat_map (λ (e : ℕ × Entry). entry e.1 ∷ lines_after k (lines ++ l ∷ []) e.0) (enumerate_from (n + 1) h)
    ≡ (lines_after k lines n ++ flat_map (λ (e : ℕ × Entry). entry e.1 ∷ lines_after k lines e.0) (enumerate_from (n + 1) h)) ++ line k l ∷ []
line_end k n [] lines l is =
    append-nil (lines_after k (lines ++ l ∷ []) n) ∙ (at_last k n lines l (omega arith) ∙ ap (λ xs. xs ++ line k l ∷ []) (sym (append-nil (lines_after k lines n))))
line_end k n (x ∷ h) lines l is =
    let rest = line_end k (n + 1) h lines l (omega arith) in
    let f : ℕ × Entry → List Item = λ e. entry e.1 ∷ lines_after k lines e.0 in
    ap (λ xs. xs ++ flat_map (λ (e : ℕ × Entry). entry e.1 ∷ lines_after k (lines ++ l ∷ []) e.0) (enumerate_from (n + 1) (x ∷ h))) (at_else k n lines l (λ e. omega arith))
    ∙ (ap (λ xs. lines_after k lines n ++ entry x ∷ xs) rest
    ∙ sym (append_assoc (lines_after k lines n) (flat_map f (enumerate_from (n + 1) (x ∷ h))) (line k l ∷ [])))

pub items_line : (k : ℕ) (h : List Entry) (lines : List Line) (l : Line) → l.front ≡ length h → own_items k h (lines ++ l ∷ []) ≡ own_items k h lines ++ line k l ∷ []
unfolding own_items
items_line k h lines l is = line_end k 0 h lines l (omega arith)

-- ---- what holds of each item, with one item more at the end

pub places_end : (P Q : Claim) (before items : List Item) (z : Item) →
    ((b : List Item) (i : Item) (bh : List Item) → P b i bh → Q b i (bh ++ z ∷ [])) →
    AllPlaces P before items → Q (before ++ items) z [] → AllPlaces Q before (items ++ z ∷ [])
places_end P Q before [] z keep all last = (subst (λ b. Q b z []) (append-nil before) last, tt)
places_end P Q before (i ∷ items) z keep all last =
    (keep before i items all.0, places_end P Q (before ++ i ∷ []) items z keep all.1 (subst (λ b. Q b z []) (sym (append_assoc before (i ∷ []) items)) last))
