-- The lists of a page have its sources: those that join a source, and those that cross an end of the page.
use Rattle.std.proofs.Common.{◌≡◌, ℕ, zero, suc, ◌+◌, ◌-◌, ◌<◌, ◌%◌, ◌==◌, Bool, true, false, cond, List, [], ◌∷◌, ◌++◌, length, map, take, drop, refl, sym, ap, ◌∙◌, arith, length-append, take-append-drop}
use Rattle.std.specs.Prelude.{filter}
use Rattle.std.specs.List.{flat_map, AllByRecursion as Each}
use Rattle.std.proofs.lemmas.Bool.Decides.{nat_tests}
use Rattle.std.proofs.lemmas.List.Elements.{filter-append, filter_agree}
use Rattle.std.proofs.lemmas.Bool.{eq-eqb}
use Rattle.lx_fixrec.proofs.Grouping.{joined_none}
use Rattle.lx_types.proofs.Lists.{all_weaker}
use Rattle.lx_types.specs.declared.fix.Fix.{Fix}
use Rattle.lx_model.specs.Sources.{code_of}
use Rattle.lx_model.specs.RecordSpelling.{fixes_written}
use Rattle.lx_model.specs.JoinedRecords.{crosses, joins, begins, Listed, listed_after, record_of}
use Rattle.lx_fixrec.proofs.Filters.{dropped, passed, none_pass, all_pass, filter_passes, each_take}
use Rattle.lx_fixrec.proofs.Joined.{joined, same_fix, joins_alike, joined_alike}
use Rattle.lx_fixrec.proofs.Shared.{alias_self, target_self}

-- ---- a record's sources

abbrev pub members : Listed → List Fix
members r = r.first ∷ r.others

-- all sources of lists
abbrev pub all_listed : List Fix → List Fix → List Fix
all_listed earlier fs = flat_map members (listed_after earlier fs)

others_written : (f : Fix) (gs : List Fix) → Each (λ g. joins f g ≡ true) gs →
    map (λ offset. record { source = f.source; alias = f.alias; offset = offset; target = f.target; additive = f.additive }) (map (λ g. g.offset) gs) ≡ gs
others_written f [] each = refl
others_written f (g ∷ gs) each =
    ap (λ (x : Fix). x ∷ map (λ offset. record { source = f.source; alias = f.alias; offset = offset; target = f.target; additive = f.additive }) (map (λ h. h.offset) gs)) (same_fix f g (joined f g each.0))
    ∙ ap (λ (xs : List Fix). g ∷ xs) (others_written f gs each.1)

member_written : (r : Listed) → Each (λ g. joins r.first g ≡ true) r.others → fixes_written (record_of r) ≡ members r
member_written r each = ap (λ (xs : List Fix). r.first ∷ xs) (others_written r.first r.others each)

all_written : (rs : List Listed) → Each (λ r. Each (λ g. joins r.first g ≡ true) r.others) rs → flat_map fixes_written (map record_of rs) ≡ flat_map members rs
all_written [] each = refl
all_written (r ∷ rs) each =
    ap (λ (xs : List Fix). xs ++ flat_map fixes_written (map record_of rs)) (member_written r each.0) ∙ ap (λ (xs : List Fix). members r ++ xs) (all_written rs each.1)

others_of : Fix → List Fix → List Fix
others_of f fs = take 254 (filter (joins f) fs)

others_join : (f : Fix) (fs : List Fix) → Each (λ g. joins f g ≡ true) (take 254 (filter (joins f) fs))
others_join f fs = each_take (λ g. joins f g ≡ true) 254 (filter (joins f) fs) (filter_passes (joins f) fs)

lists_join : (earlier fs : List Fix) → Each (λ r. Each (λ g. joins r.first g ≡ true) r.others) (listed_after earlier fs)
lists_join earlier [] = tt
lists_join earlier (f ∷ fs) = by (begins earlier f) (lists_join (earlier ++ f ∷ []) fs)
  where
    rest : List Listed
    rest = listed_after (earlier ++ f ∷ []) fs

    by : (b : Bool) → Each (λ r. Each (λ g. joins r.first g ≡ true) r.others) rest → Each (λ r. Each (λ g. joins r.first g ≡ true) r.others) (cond b (record { first = f; others = take 254 (filter (joins f) fs) } ∷ rest) rest)
    by true others = (others_join f fs, others)
    by false others = others

pub written_are : (earlier fs : List Fix) → flat_map fixes_written (map record_of (listed_after earlier fs)) ≡ all_listed earlier fs
written_are earlier fs = all_written (listed_after earlier fs) (lists_join earlier fs)

-- the sources of the lists that begin after others, by the first one
all_more : (earlier : List Fix) (f : Fix) (fs : List Fix) → all_listed earlier (f ∷ fs) ≡ cond (begins earlier f) (f ∷ (take 254 (filter (joins f) fs) ++ all_listed (earlier ++ f ∷ []) fs)) (all_listed (earlier ++ f ∷ []) fs)
all_more earlier f fs = by (begins earlier f)
  where
    rest : List Listed
    rest = listed_after (earlier ++ f ∷ []) fs

    one : Listed
    one = record { first = f; others = take 254 (filter (joins f) fs) }

    by : (b : Bool) → flat_map members (cond b (one ∷ rest) rest) ≡ cond b (f ∷ (take 254 (filter (joins f) fs) ++ flat_map members rest)) (flat_map members rest)
    by true = refl
    by false = refl

-- ---- the sources that join one

pub joins_itself : (f : Fix) → crosses f ≡ false → joins f f ≡ true
joins_itself f within = rw (eq-eqb (code_of f.source) (code_of f.source) refl, alias_self f.alias, target_self f.target, eq-eqb f.additive f.additive refl, within) refl

abbrev count : Fix → List Fix → ℕ
count f fs = length (filter (joins f) fs)

-- how many of those that come stand in records that began before
abbrev owed : ℕ → ℕ
owed n = (255 - n % 255) % 255

count_joined : (f g : Fix) (e : List Fix) → joins f g ≡ true → count f (e ++ g ∷ []) ≡ count f e + 1
count_joined f g e is = ap length (filter-append (joins f) e (g ∷ []) ∙ ap (λ (xs : List Fix). filter (joins f) e ++ xs) (passed (joins f) g [] is)) ∙ length-append (filter (joins f) e) (g ∷ [])

count_other : (f g : Fix) (e : List Fix) → joins f g ≡ false → count f (e ++ g ∷ []) ≡ count f e
count_other f g e is =
    let total = length-append (filter (joins f) e) [] in
    ap length (filter-append (joins f) e (g ∷ []) ∙ ap (λ (xs : List Fix). filter (joins f) e ++ xs) (dropped (joins f) g [] is)) ∙ (let none : length (filter (joins f) e ++ []) ≡ length (filter (joins f) e) = omega (arith, total) in none)

first_owed : (n : ℕ) → (n % 255 == 0) ≡ true → (owed n ≡ 0) × (owed (n + 1) ≡ 254)
first_owed n is =
    let at : n % 255 ≡ 0 = grind (arith, nat_tests) in
    let next : (n + 1) % 255 ≡ 1 = omega (arith, at) in
    ((rw at refl), (rw next refl))

one_owed : (n : ℕ) → (n % 255 == 0) ≡ false → owed n ≡ suc (owed (n + 1))
one_owed n is =
    let at : 0 < n % 255 = grind (arith, nat_tests) in
    omega (arith, at)

-- what the first of those that come does to the lists
abbrev next_list : Fix → Bool → Fix → List Fix → List Fix → List Fix
next_list f b g gs rest = cond b (g ∷ (take 254 (filter (joins g) gs) ++ rest)) rest

-- a source that is of another list, or of none
next_other : (f g : Fix) (gs rest : List Fix) (b : Bool) → joins f g ≡ false → filter (joins f) (next_list f b g gs rest) ≡ filter (joins f) rest
next_other f g gs rest false is = refl
next_other f g gs rest true is =
    let others = take 254 (filter (joins g) gs) in
    let none : filter (joins f) others ≡ [] = none_pass (joins f) others
    (all_weaker (λ h. joins g h ≡ true) (λ h. joins f h ≡ false) (λ h j. sym (joined_alike g h f (joined g h j)) ∙ is) others (others_join g gs)) in
    dropped (joins f) g (others ++ rest) is ∙ filter-append (joins f) others rest ∙ ap (λ (xs : List Fix). xs ++ filter (joins f) rest) none

next_first : (f g : Fix) (gs rest : List Fix) → joins f g ≡ true → filter (joins f) rest ≡ drop 254 (filter (joins f) gs) → filter (joins f) (next_list f true g gs rest) ≡ g ∷ filter (joins f) gs
next_first f g gs rest is again =
    let others = take 254 (filter (joins g) gs) in
    let same : filter (joins g) gs ≡ filter (joins f) gs = filter_agree (joins g) (joins f) (λ x. sym (joins_alike f g x (joined f g is))) gs in
    let all : filter (joins f) others ≡ others = all_pass (joins f) others
    (all_weaker (λ h. joins g h ≡ true) (λ h. joins f h ≡ true) (λ h j. joins_alike f g h (joined f g is) ∙ j) others (others_join g gs)) in
    passed (joins f) g (others ++ rest) is
    ∙ ap (λ (xs : List Fix). g ∷ xs) (filter-append (joins f) others rest ∙ ap (λ (xs : List Fix). xs ++ filter (joins f) rest) all ∙ ap (λ (xs : List Fix). others ++ xs) again
    ∙ ap (λ (xs : List Fix). take 254 xs ++ drop 254 (filter (joins f) gs)) same ∙ take-append-drop 254 (filter (joins f) gs))

-- the list of g has as many sources before as that of f
begins_alike : (f g : Fix) (e : List Fix) → joins f g ≡ true → begins e g ≡ (count f e % 255 == 0)
begins_alike f g e is = ap (λ (xs : List Fix). length xs % 255 == 0) (filter_agree (joins g) (joins f) (λ x. sym (joins_alike f g x (joined f g is))) e)

kept_next : (f g : Fix) (e gs rest : List Fix) (t b : Bool) → joins f g ≡ t → begins e g ≡ b → filter (joins f) rest ≡ drop (owed (count f (e ++ g ∷ []))) (filter (joins f) gs) →
    filter (joins f) (next_list f b g gs rest) ≡ drop (owed (count f e)) (filter (joins f) (g ∷ gs))
kept_next f g e gs rest false b is at again =
    next_other f g gs rest b is ∙ again ∙ ap (λ (n : ℕ). drop (owed n) (filter (joins f) gs)) (count_other f g e is) ∙ ap (drop (owed (count f e))) (sym (dropped (joins f) g gs is))
kept_next f g e gs rest true true is at again =
    let owes = first_owed (count f e) (sym (begins_alike f g e is) ∙ at) in
    next_first f g gs rest is (again ∙ ap (λ (n : ℕ). drop (owed n) (filter (joins f) gs)) (count_joined f g e is) ∙ ap (λ (n : ℕ). drop n (filter (joins f) gs)) owes.1)
    ∙ sym (passed (joins f) g gs is) ∙ ap (λ (n : ℕ). drop n (filter (joins f) (g ∷ gs))) (sym owes.0)
kept_next f g e gs rest true false is at again =
    let owes = one_owed (count f e) (sym (begins_alike f g e is) ∙ at) in
    again ∙ ap (λ (n : ℕ). drop (owed n) (filter (joins f) gs)) (count_joined f g e is)
    ∙ sym (ap (λ (xs : List Fix). drop (suc (owed (count f e + 1))) xs) (passed (joins f) g gs is)) ∙ ap (λ (n : ℕ). drop n (filter (joins f) (g ∷ gs))) (sym owes)

drop_nothing : (n : ℕ) → ◌≡◌ {A = List Fix} [] (drop n [])
drop_nothing zero = refl
drop_nothing (suc n) = refl

kept : (f : Fix) (e fs : List Fix) → filter (joins f) (all_listed e fs) ≡ drop (owed (count f e)) (filter (joins f) fs)
kept f e [] = drop_nothing (owed (count f e))
kept f e (g ∷ gs) =
    ap (filter (joins f)) (all_more e g gs)
    ∙ kept_next f g e gs (all_listed (e ++ g ∷ []) gs) (joins f g) (begins e g) refl refl (kept f (e ++ g ∷ []) gs)

-- The sources that join one are those of its lists.
pub joined_kept : (f : Fix) (fs : List Fix) → filter (joins f) (all_listed [] fs) ≡ filter (joins f) fs
joined_kept f fs = kept f [] fs

-- ---- the sources that cross an end of the page

pub none_joins : (f g : Fix) → crosses g ≡ true → joins f g ≡ false
none_joins f g crossing = by (joins f g) refl
  where
    by : (b : Bool) → joins f g ≡ b → joins f g ≡ false
    by false e = e
    by true e = absurd (let h = (joined f g e).within in cc)

crossing_next : (g : Fix) (e gs rest : List Fix) (c b : Bool) → crosses g ≡ c → begins e g ≡ b → filter crosses rest ≡ filter crosses gs → filter crosses (next_list g b g gs rest) ≡ filter crosses (g ∷ gs)
crossing_next g e gs rest true true is at again =
    ap (λ (xs : List Fix). filter crosses (g ∷ (take 254 xs ++ rest))) (joined_none g gs is) ∙ passed crosses g rest is ∙ ap (λ (xs : List Fix). g ∷ xs) again ∙ sym (passed crosses g gs is)
crossing_next g e gs rest true false is at again =
    absurd (let none : begins e g ≡ true = ap (λ (xs : List Fix). length xs % 255 == 0) (joined_none g e is) in cc)
crossing_next g e gs rest false true is at again =
    let others = take 254 (filter (joins g) gs) in
    let none : filter crosses others ≡ [] = none_pass crosses others (all_weaker (λ h. joins g h ≡ true) (λ h. crosses h ≡ false) (λ h j. (joined g h j).within) others (others_join g gs)) in
    dropped crosses g (others ++ rest) is ∙ filter-append crosses others rest ∙ ap (λ (xs : List Fix). xs ++ filter crosses rest) none ∙ again ∙ sym (dropped crosses g gs is)
crossing_next g e gs rest false false is at again = again ∙ sym (dropped crosses g gs is)

pub crossing_kept : (e fs : List Fix) → filter crosses (all_listed e fs) ≡ filter crosses fs
crossing_kept e [] = refl
crossing_kept e (g ∷ gs) =
    ap (filter crosses) (all_more e g gs) ∙ crossing_next g e gs (all_listed (e ++ g ∷ []) gs) (crosses g) (begins e g) refl refl (crossing_kept (e ++ g ∷ []) gs)
