-- Data at its place, and the fields over it.
use Rattle.std.specs.Prelude.{◌≡◌, ℕ, ◌+◌, ◌-◌, ◌<◌, ◌≤◌, Bool, true, false, cond, ◌&&◌, ◌==◌, nat_le, nat_lt, List, [], ◌∷◌, ◌++◌, Option, Some, reverse, map, take, drop, length, find, slice_index, refl}
use Rattle.std.specs.Option.{option_map_or}
use Rattle.std.specs.List.{enumerate_from, range_with_len}
use Rattle.std.proofs.Common.{ap, sym, ◌∙◌, arith, get_or}
use Rattle.std.proofs.lemmas.Bool.{and_parts}
use Rattle.std.proofs.lemmas.Bool.Decides.{nat_tests}
use Rattle.std.proofs.lemmas.List.{drop_more, get_or-take, length-take-le, map-append, reverse-append, take_more}
use Rattle.obj_types.specs.Location.{location_len}
use Rattle.link_model.specs.Link.{Link}
use Rattle.link_model.specs.Fixups as rules
use Rattle.link_model.specs.Mean.{PlacedPiece as Placed, piece_covers, fixup_covers}
use Rattle.link_model.specs.Patches.{patch_at}
use Rattle.link_fix.specs.declared.fixup.Fixup.{Fixup}
use Rattle.link_fix.specs.declared.painting.PlacedPiece.{PlacedPiece}
use Rattle.link_fix.specs.declared.images.Images.{Images}
use Rattle.link_fix.specs.Images.{byte_of, byte_after, is_painted}
use Rattle.link_fix.specs.Pieces.{of_placed}
use Rattle.link_fix.specs.Shown.{shown, piece_shown}
use Rattle.link_fix.specs.Values.{field_byte, with_fields}
use Rattle.link_fix.proofs.NumberedLists.{numbered-more}
use Rattle.link_model.specs.declared.symbols.LaidObject.{LaidObject}

-- ---- data

covered_by : (b : Bool) (p : Placed) (o : Option Placed) (x : ℕ) → option_map_or (λ p. slice_index p.bytes (x - p.offset)) (cond b (Some p) o) 0 ≡ cond b (slice_index p.bytes (x - p.offset)) (option_map_or (λ p. slice_index p.bytes (x - p.offset)) o 0)
covered_by true p o x = refl
covered_by false p o x = refl

shown-more : (ps : List PlacedPiece) (i : ℕ) (p : PlacedPiece) → i < length ps → p ≡ get_or ps i p → map piece_shown (take (i + 1) ps) ≡ map piece_shown (take i ps) ++ piece_shown p ∷ []
shown-more ps i p h is = ap (map piece_shown) (take_more ps i p h ∙ ap (λ y. take i ps ++ y ∷ []) (sym is)) ∙ map-append piece_shown (take i ps) (p ∷ [])

-- A piece is painted over those before it.
pub placed-more : (old new : Images) (ps : List PlacedPiece) (i : ℕ) (p : PlacedPiece) → i < length ps → p ≡ get_or ps i p → ((n : ℕ) (x : ℕ) → byte_of old n x ≡ of_placed (map piece_shown (take i ps)) n x) → ((n : ℕ) (x : ℕ) → byte_of new n x ≡ byte_after old p.object p.offset p.bytes.now n x)
    → (n : ℕ) (x : ℕ) → byte_of new n x ≡ of_placed (map piece_shown (take (i + 1) ps)) n x
placed-more old new ps i p h is before painted = λ n x.
    let q : Placed = piece_shown p in
    let firsts : List Placed = map piece_shown (take i ps) in
    painted n x
    ∙ ap (cond (piece_covers n x q) (slice_index q.bytes (x - q.offset))) (before n x)
    ∙ sym (covered_by (piece_covers n x q) q (find (piece_covers n x) (reverse firsts)) x)
    ∙ ap (λ (ls : List Placed). option_map_or (λ p. slice_index p.bytes (x - p.offset)) (find (piece_covers n x) ls) 0) (sym (ap reverse (shown-more ps i p h is) ∙ reverse-append firsts (q ∷ [])))

-- ---- fields

fielded_by : (b : Bool) (l : Link) (x : ℕ) (q : rules.Fixup) (o : Option rules.Fixup) (v : ℕ) → option_map_or (patch_at l x) (cond b (Some q) o) v ≡ cond b (patch_at l x q) (option_map_or (patch_at l x) o v)
fielded_by true l x q o v = refl
fielded_by false l x q o v = refl

-- One more field, before those that are painted.
pub fields-more :
    (below : ℕ → ℕ → ℕ) (old new : Images) (qs : List Fixup) (left : ℕ) (d : Fixup) → 0 < left → left ≤ length qs
    → ((l : Link) (n : ℕ) (x : ℕ) → byte_of old n x ≡ with_fields l (map shown (drop left qs)) below n x)
    → ((l : Link) (n : ℕ) (x : ℕ) → byte_of new n x ≡ cond (fixup_covers n x (shown (get_or qs (left - 1) d))) (field_byte l (shown (get_or qs (left - 1) d)) (x - (get_or qs (left - 1) d).offset)) (byte_of old n x))
    → (l : Link) (n : ℕ) (x : ℕ) → byte_of new n x ≡ with_fields l (map shown (drop (left - 1) qs)) below n x
fields-more below old new qs left d some within before painted = λ l n x.
    let i : ℕ = left - 1 in
    let q : Fixup = get_or qs i d in
    let next : left ≡ i + 1 = omega arith in
    let front : q ∷ drop left qs ≡ drop i qs = ap (λ (k : ℕ). q ∷ drop k qs) next ∙ sym (drop_more qs i d (omega arith)) in
    painted l n x
    ∙ ap (cond (fixup_covers n x (shown q)) (patch_at l x (shown q))) (before l n x)
    ∙ sym (fielded_by (fixup_covers n x (shown q)) l x (shown q) (find (fixup_covers n x) (map shown (drop left qs))) (below n x))
    ∙ ap (λ (ls : List Fixup). with_fields l (map shown ls) below n x) front

in_field : (a b c : Bool) (x at len : ℕ) → c ≡ nat_lt x (at + len) → b ≡ nat_le at x → (a && b && c) ≡ true → x - at < len
in_field a b c x at len ec eb e =
    let last : nat_lt x (at + len) ≡ true = sym ec ∙ (and_parts (a && b) c e).1 in
    let first : nat_le at x ≡ true = sym eb ∙ (and_parts a b ((and_parts (a && b) c e).0)).1 in
    grind (arith, nat_tests)

field_by : (b : Bool) (v w o : ℕ) → (b ≡ true → v ≡ w) → cond b v o ≡ cond b w o
field_by true v w o e = e refl
field_by false v w o e = refl

-- A field is painted.
pub field-painted :
    (old new : Images) (q : Fixup) (field : List ℕ) → ((l : Link) (k : ℕ) → k < location_len q.loc → slice_index field k ≡ field_byte l (shown q) k) → location_len q.loc ≤ length field
    → ((n : ℕ) (x : ℕ) → byte_of new n x ≡ byte_after old q.object q.offset (take (location_len q.loc) field) n x)
    → (l : Link) (n : ℕ) (x : ℕ) → byte_of new n x ≡ cond (fixup_covers n x (shown q)) (field_byte l (shown q) (x - q.offset)) (byte_of old n x)
field-painted old new q field value room painted = λ l n x.
    let len : ℕ = location_len q.loc in
    painted n x
    ∙ ap (λ (k : ℕ). cond (is_painted q.object q.offset k n x) (slice_index (take len field) (x - q.offset)) (byte_of old n x)) (length-take-le len field room)
    ∙ field_by (is_painted q.object q.offset len n x) (slice_index (take len field) (x - q.offset)) (field_byte l (shown q) (x - q.offset)) (byte_of old n x)
    (λ e. let k : x - q.offset < len = in_field (q.object == n) (nat_le q.offset x) (nat_lt x (q.offset + len)) x q.offset len refl refl e in
    get_or-take len field (x - q.offset) 0 k ∙ value l (x - q.offset) k)

-- One more object's row.
pub rows-more : (rows : Images) (objects : List LaidObject) (i number : ℕ) (o : LaidObject) (all new : List (List ℕ)) (row : List ℕ) → i < length objects → o ≡ get_or objects i o → number ≡ i + 1
    → all ≡ map (λ q. map (byte_of rows q.0) (range_with_len 0 q.1.size)) (enumerate_from 1 (take i objects)) → row ≡ map (byte_of rows number) (range_with_len 0 o.size) → new ≡ all ++ row ∷ []
    → new ≡ map (λ q. map (byte_of rows q.0) (range_with_len 0 q.1.size)) (enumerate_from 1 (take (i + 1) objects))
rows-more rows objects i number o all new row h is counted before here made =
    let f : ℕ × LaidObject → List ℕ = λ q. map (byte_of rows q.0) (range_with_len 0 q.1.size) in
    let place : number ≡ 1 + i = omega arith in
    made
    ∙ ap (λ (r : List ℕ). all ++ r ∷ []) (here ∙ ap (λ (n : ℕ). f (n, o)) place ∙ ap (λ (x : LaidObject). f (1 + i, x)) is)
    ∙ ap (λ (rs : List (List ℕ)). rs ++ f (1 + i, get_or objects i o) ∷ []) before
    ∙ sym (numbered-more f 1 i objects o h)
