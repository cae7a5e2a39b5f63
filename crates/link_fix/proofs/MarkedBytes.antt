-- Marks say which fixups share a byte with one.
use Rattle.std.specs.Prelude.{◌≡◌, ℕ, zero, suc, ◌+◌, ◌-◌, ◌<◌, ◌≤◌, Bool, true, false, cond, not, ◌&&◌, ◌||◌, ◌==◌, nat_le, nat_lt, List, [], ◌∷◌, map, take, drop, set, length, replicate, slice_index, refl}
use Rattle.std.specs.List.{list_any, All}
use Rattle.std.proofs.Common.{ap, sym, ◌∙◌, arith, get_or, subst}
use Rattle.std.proofs.lemmas.Bool.{and_parts}
use Rattle.std.proofs.lemmas.Bool.Decides.{nat_tests}
use Rattle.std.proofs.lemmas.List.{drop_more, drop_all, drop-set, take-take, take-set-le, length-set, get_or-take, get_or_default, get_or-replicate, length-replicate}
use Rattle.std.proofs.lemmas.List.Elements.{All-head, All-tail, All-drop}
use Rattle.obj_types.specs.Location.{location_len}
use Rattle.link_model.specs.Fixups as rules
use Rattle.link_model.specs.Mean.{overlap, live, fixup_covers, fixup_end}
use Rattle.link_fix.specs.declared.fixup.Fixup.{Fixup}
use Rattle.link_fix.specs.declared.images.Images.{Images}
use Rattle.link_fix.specs.Images.{byte_of, byte_after, is_painted}
use Rattle.link_fix.specs.Shown.{shown}
use Rattle.link_fix.specs.Marks.{any_mark, AreMarked, HasBytes}

-- ---- some byte of a run

abbrev any_where : (ℕ → Bool) → ℕ → ℕ → Bool
any_where test x zero = false
any_where test x (suc n) = test x || any_where test (x + 1) n

not_zero : (b : Bool) → not (cond b 1 0 == 0) ≡ b
not_zero true = refl
not_zero false = refl

marks-test : (mark : ℕ → ℕ) (test : ℕ → Bool) → ((y : ℕ) → mark y ≡ cond (test y) 1 0) → (x n : ℕ) → any_mark mark x n ≡ any_where test x n
marks-test mark test are x zero = refl
marks-test mark test are x (suc n) =
    ap (λ (v : ℕ). not (v == 0) || any_mark mark (x + 1) n) (are x)
    ∙ ap (λ (b : Bool). b || any_mark mark (x + 1) n) (not_zero (test x))
    ∙ ap (λ (b : Bool). test x || b) (marks-test mark test are (x + 1) n)

shuffled : (a b c d : Bool) → ((a || b) || (c || d)) ≡ ((a || c) || (b || d))
shuffled true b c d = refl
shuffled false b true d = elim b as (λ v. (v || true) ≡ true) [ true ↦ refl | false ↦ refl ]
shuffled false b false d = refl

where-none : (x n : ℕ) → any_where (λ y. false) x n ≡ false
where-none x zero = refl
where-none x (suc n) = where-none (x + 1) n

where-or : (f g : ℕ → Bool) (x n : ℕ) → any_where (λ y. f y || g y) x n ≡ (any_where f x n || any_where g x n)
where-or f g x zero = refl
where-or f g x (suc n) =
    ap (λ (b : Bool). (f x || g x) || b) (where-or f g (x + 1) n) ∙ shuffled (f x) (g x) (any_where f (x + 1) n) (any_where g (x + 1) n)

run_once : (s e x : ℕ) (b : Bool) → s < e → ((b && nat_le s x && nat_lt x e) || false) ≡ (b && nat_lt x e && nat_lt s (x + 1))
run_once s e x true h = grind (arith, nat_tests)
run_once s e x false h = refl

run_more : (s e x n : ℕ) (b : Bool) → s < e → ((b && nat_le s x && nat_lt x e) || (b && nat_lt (x + 1) e && nat_lt s (x + 1 + suc n))) ≡ (b && nat_lt x e && nat_lt s (x + suc (suc n)))
run_more s e x n true h = grind (arith, nat_tests)
run_more s e x n false h = refl

-- Two runs, each of a byte or more, share one.
where-run : (s e x n : ℕ) (b : Bool) → s < e → any_where (λ y. b && nat_le s y && nat_lt y e) x (suc n) ≡ (b && nat_lt x e && nat_lt s (x + suc n))
where-run s e x zero b h = run_once s e x b h
where-run s e x (suc n) b h =
    ap (λ (c : Bool). (b && nat_le s x && nat_lt x e) || c) (where-run s e (x + 1) n b h) ∙ run_more s e x n b h

swapped : (a b : ℕ) → (a == b) ≡ (b == a)
swapped a b = grind (arith, nat_tests)

where-overlap : (q r : rules.Fixup) → 0 < location_len q.fix.loc → 0 < location_len r.fix.loc → any_where (λ y. fixup_covers q.object y r) q.offset (location_len q.fix.loc) ≡ overlap q r
where-overlap q r hq hr =
    let len : suc (location_len q.fix.loc - 1) ≡ location_len q.fix.loc = omega (arith, hq) in
    let P : ℕ → Type 0 = λ n. any_where (λ y. fixup_covers q.object y r) q.offset n ≡ (r.object == q.object && nat_lt q.offset (fixup_end r) && nat_lt r.offset (q.offset + n)) in
    let run : P (location_len q.fix.loc) = rw (← len) (where-run r.offset (fixup_end r) q.offset (location_len q.fix.loc - 1) (r.object == q.object) (omega (arith, hr))) in
    run ∙ ap (λ (b : Bool). b && nat_lt q.offset (fixup_end r) && nat_lt r.offset (fixup_end q)) (swapped r.object q.object)

where-overlaps : (q : Fixup) (rs : List Fixup) → HasBytes q → All HasBytes rs → any_where (λ y. list_any (fixup_covers q.object y) (map shown rs)) q.offset (location_len q.loc) ≡ list_any (overlap (shown q)) (map shown rs)
where-overlaps q [] hq hrs = where-none q.offset (location_len q.loc)
where-overlaps q (r ∷ rs) hq hrs =
    where-or (λ y. fixup_covers q.object y (shown r)) (λ y. list_any (fixup_covers q.object y) (map shown rs)) q.offset (location_len q.loc)
    ∙ ap (λ (b : Bool). b || any_where (λ y. list_any (fixup_covers q.object y) (map shown rs)) q.offset (location_len q.loc)) (where-overlap (shown q) (shown r) hq (All-head HasBytes r rs hrs))
    ∙ ap (λ (b : Bool). overlap (shown q) (shown r) || b) (where-overlaps q rs hq (All-tail HasBytes r rs hrs))

-- A byte of a fixup has a mark exactly where one of the marked fixups shares a byte with it.
pub marked-overlaps : (marks : Images) (q : Fixup) (rs : List Fixup) → AreMarked marks rs → HasBytes q → All HasBytes rs → any_mark (byte_of marks q.object) q.offset (location_len q.loc) ≡ list_any (overlap (shown q)) (map shown rs)
marked-overlaps marks q rs are hq hrs =
    marks-test (byte_of marks q.object) (λ y. list_any (fixup_covers q.object y) (map shown rs)) (are q.object) q.offset (location_len q.loc)
    ∙ where-overlaps q rs hq hrs

-- ---- one more fixup

mark_by : (b c : Bool) (v w : ℕ) → (b ≡ true → v ≡ 1) → w ≡ cond c 1 0 → cond b v w ≡ cond (b || c) 1 0
mark_by true c v w one rest = one refl
mark_by false c v w one rest = rest

in_run : (object offset n x len : ℕ) (o : ℕ) → (o == n && nat_le offset x && nat_lt x (offset + len)) ≡ true → x - offset < len
in_run object offset n x len o e =
    let last : nat_lt x (offset + len) ≡ true = (and_parts (o == n && nat_le offset x) (nat_lt x (offset + len)) e).1 in
    let first : nat_le offset x ≡ true = (and_parts (o == n) (nat_le offset x) ((and_parts (o == n && nat_le offset x) (nat_lt x (offset + len)) e).0)).1 in
    grind (arith, nat_tests)

pub mark-more : (old new : Images) (q : Fixup) (rs : List Fixup) → AreMarked old rs → ((n : ℕ) (x : ℕ) → byte_of new n x ≡ byte_after old q.object q.offset (replicate (location_len q.loc) 1) n x) → AreMarked new (q ∷ rs)
mark-more old new q rs are painted = λ n x.
    let len : ℕ = location_len q.loc in
    painted n x
    ∙ ap (λ (k : ℕ). cond (is_painted q.object q.offset k n x) (slice_index (replicate len 1) (x - q.offset)) (byte_of old n x)) (length-replicate {A = ℕ} len 1)
    ∙ mark_by (is_painted q.object q.offset len n x) (list_any (fixup_covers n x) (map shown rs)) (slice_index (replicate len 1) (x - q.offset)) (byte_of old n x)
    (λ e. get_or-replicate len (x - q.offset) 1 0 (in_run q.object q.offset n x len q.object e)) (are n x)

-- ---- the live ones, from the last on

-- The live ones of the fixups from a place on stand at the end, and those before the place are not touched.
pub record LiveAfter (qs now : List Fixup) (left first : ℕ) : Type 0 where
  pub count : length now ≡ length qs
  pub before : left ≤ first
  pub within : first ≤ length qs
  pub untouched : take left now ≡ take left qs
  pub live_is : map shown (drop first now) ≡ live (map shown (drop left qs))

pub after-all : (qs : List Fixup) → LiveAfter qs qs (length qs) (length qs)
after-all qs =
    let none : drop (length qs) qs ≡ [] = drop_all (length qs) qs (omega arith) in
    record {
      count = refl;
      before = omega arith;
      within = omega arith;
      untouched = refl;
      live_is = ap (map shown) none ∙ sym (ap (λ (ls : List Fixup). live (map shown ls)) none);
    }

pub all-live : (qs now : List Fixup) (left first : ℕ) → LiveAfter qs now left first → left ≡ 0 → map shown (drop first now) ≡ live (map shown qs)
all-live qs now left first is none = is.live_is ∙ ap (λ (n : ℕ). live (map shown (drop n qs))) none

module _ (marks marked : Images) (qs now : List Fixup) (i first : ℕ) (q : Fixup) (all : All HasBytes qs) (are : AreMarked marks (drop (i + 1) qs)) (is : LiveAfter qs now (i + 1) first) (at : q ≡ get_or now i q) where
  here : i < length qs
  here = let a = is.before in let b = is.within in omega (arith, a, b)

  read : q ≡ get_or qs i q
  read = at ∙ sym (get_or-take (i + 1) now i q (omega arith)) ∙ ap (λ (ls : List Fixup). get_or ls i q) is.untouched ∙ get_or-take (i + 1) qs i q (omega arith)

  front : drop i qs ≡ q ∷ drop (i + 1) qs
  front = drop_more qs i q here ∙ ap (λ r. r ∷ drop (i + 1) qs) (sym read)

  overlaps : any_mark (byte_of marks q.object) q.offset (location_len q.loc) ≡ list_any (overlap (shown q)) (map shown (drop (i + 1) qs))
  overlaps =
      let bytes : All HasBytes (q ∷ drop (i + 1) qs) = subst (λ (ls : List Fixup). All HasBytes ls) front (All-drop HasBytes i qs all) in
      marked-overlaps marks q (drop (i + 1) qs) are (All-head HasBytes q (drop (i + 1) qs) bytes) (All-tail HasBytes q (drop (i + 1) qs) bytes)

  live_now : (b : Bool) → any_mark (byte_of marks q.object) q.offset (location_len q.loc) ≡ b → live (map shown (drop i qs)) ≡ cond b (live (map shown (drop (i + 1) qs))) (shown q ∷ live (map shown (drop (i + 1) qs)))
  live_now b e =
      ap (λ (ls : List Fixup). live (map shown ls)) front
      ∙ ap (λ (c : Bool). cond c (live (map shown (drop (i + 1) qs))) (shown q ∷ live (map shown (drop (i + 1) qs)))) (sym overlaps ∙ e)

  still : take i now ≡ take i qs
  still = sym (take-take i (i + 1) now (omega arith)) ∙ ap (take i) is.untouched ∙ take-take i (i + 1) qs (omega arith)

  after-more : (new : List Fixup) (after : ℕ) (b : Bool) → any_mark (byte_of marks q.object) q.offset (location_len q.loc) ≡ b → after ≡ cond b first (first - 1) → new ≡ cond b now (set now (first - 1) q) → LiveAfter qs new i after
  after-more new after true e stays same =
      let before : i + 1 ≤ first = is.before in
      let within : first ≤ length qs = is.within in
      record {
        count = ap length same ∙ is.count;
        before = omega arith;
        within = omega arith;
        untouched = ap (take i) same ∙ still;
        live_is = ap (λ (n : ℕ). map shown (drop n new)) stays ∙ ap (λ (ls : List Fixup). map shown (drop first ls)) same ∙ is.live_is ∙ sym (live_now true e);
      }
  after-more new after false e stays same =
      let before : i + 1 ≤ first = is.before in
      let within : first ≤ length qs = is.within in
      let count : length now ≡ length qs = is.count in
      let next : first - 1 + 1 ≡ first = omega arith in
      record {
        count = ap length same ∙ length-set now (first - 1) q ∙ is.count;
        before = omega arith;
        within = omega arith;
        untouched = ap (take i) same ∙ take-set-le i now (first - 1) q (omega arith) ∙ still;
        live_is = ap (λ (n : ℕ). map shown (drop n new)) stays ∙ ap (λ (ls : List Fixup). map shown (drop (first - 1) ls)) same
            ∙ ap (map shown) (drop-set now (first - 1) q (omega arith) ∙ ap (λ (n : ℕ). q ∷ drop n now) next)
            ∙ ap (λ ls. shown q ∷ ls) is.live_is ∙ sym (live_now false e);
      }

  marked-more : ((n : ℕ) (x : ℕ) → byte_of marked n x ≡ byte_after marks q.object q.offset (replicate (location_len q.loc) 1) n x) → AreMarked marked (drop i qs)
  marked-more painted = subst (λ (ls : List Fixup). AreMarked marked ls) (sym front) (mark-more marks marked q (drop (i + 1) qs) are painted)

-- One fixup more, by the number of those that are left.
pub after-step :
    (marks marked : Images) (qs now new : List Fixup) (left first after : ℕ) (d : Fixup) → 0 < left → All HasBytes qs → AreMarked marks (drop left qs) → LiveAfter qs now left first
    → after ≡ cond (any_mark (byte_of marks (get_or now (left - 1) d).object) (get_or now (left - 1) d).offset (location_len (get_or now (left - 1) d).loc)) first (first - 1)
    → new ≡ cond (any_mark (byte_of marks (get_or now (left - 1) d).object) (get_or now (left - 1) d).offset (location_len (get_or now (left - 1) d).loc)) now (set now (first - 1) (get_or now (left - 1) d))
    → ((n : ℕ) (x : ℕ) → byte_of marked n x ≡ byte_after marks (get_or now (left - 1) d).object (get_or now (left - 1) d).offset (replicate (location_len (get_or now (left - 1) d).loc) 1) n x)
    → AreMarked marked (drop (left - 1) qs) × LiveAfter qs new (left - 1) after
after-step marks marked qs now new left first after d some all are is stays same painted =
    let i : ℕ = left - 1 in
    let q : Fixup = get_or now i d in
    let next : left ≡ i + 1 = omega arith in
    let are_next : AreMarked marks (drop (i + 1) qs) = subst (λ (n : ℕ). AreMarked marks (drop n qs)) next are in
    let is_next : LiveAfter qs now (i + 1) first = subst (λ (n : ℕ). LiveAfter qs now n first) next is in
    let count : length now ≡ length qs = is.count in
    let before : left ≤ first = is.before in
    let within : first ≤ length qs = is.within in
    let at : q ≡ get_or now i q = get_or_default now i d q (omega arith) in
    (marked-more marks marked qs now i first q all are_next is_next at painted, after-more marks marked qs now i first q all are_next is_next at new after _ refl stays same)

-- A byte without mark, and those after it.
pub marks-step : (mark : ℕ → ℕ) (x n : ℕ) → 0 < n → mark x ≡ 0 → any_mark mark (x + 1) (n - 1) ≡ any_mark mark x n
marks-step mark x zero h none = absurd (omega arith)
marks-step mark x (suc n) h none =
    let less : suc n - 1 ≡ n = omega arith in
    ap (any_mark mark (x + 1)) less ∙ sym (ap (λ (v : ℕ). not (v == 0) || any_mark mark (x + 1) n) none)
