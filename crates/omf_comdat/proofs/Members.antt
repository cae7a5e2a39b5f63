-- Members put into groups, one at a time.
use Rattle.std.proofs.Common.{◌≡◌, ◌≢◌, ℕ, zero, suc, ◌+◌, ◌<◌, ◌≤◌, Bool, true, false, cond, eqb, List, [], ◌∷◌, ◌++◌, length, map, get_or, set, refl, sym, ap, ◌∙◌, arith, inl, inr, append_assoc}
use Rattle.std.specs.Prelude.{bytes_eq, codes}
use Rattle.std.specs.List.{enumerate_from, filter}
use Rattle.std.proofs.lemmas.Bool.{eq-eqb}
use Rattle.std.proofs.lemmas.List.{append-nil, map-append}
use Rattle.std.proofs.lemmas.List.Elements.{filter-append}
use Rattle.std.proofs.Math.Bool.{and-true, and-false}
use Rattle.obj_types.specs.declared.object.Group.{Group}
use Rattle.obj_types.specs.declared.parts.BegunComdat.{BegunComdat}
use Rattle.omf_model.specs.Finished.{numbered, group_for}
use Rattle.omf_model.proofs.DataLaws.{bool_cases}
use Rattle.omf_model.proofs.NumberLaws.{not-equal, enumerate-snoc}
use Rattle.omf_comdat.specs.Finishing.{with_member}

abbrev is_flat : Group → Bool
is_flat g = bytes_eq g.name (codes "FLAT")

-- ---- one member

other-group : (group seg n : ℕ) (g : Group) → group ≢ n → g ≡ with_member group seg (n, g)
other-group group seg n g other = rw (not-equal group n other) refl

flat-group : (group seg n : ℕ) (g : Group) → is_flat g ≡ true → g ≡ with_member group seg (n, g)
flat-group group seg n g flat = rw (flat, and-false (eqb group n)) refl

pub members-none : (group seg n : ℕ) (gs : List Group) → ((k : ℕ) → n ≤ k → k < n + length gs → group ≢ k) → gs ≡ map (with_member group seg) (enumerate_from n gs)
members-none group seg n [] other = refl
members-none group seg n (g ∷ gs) other =
    let first = other-group group seg n g (other n (omega arith) (omega arith)) in
    let rest = members-none group seg (n + 1) gs (λ k low high. other k (omega (arith, low)) (omega (arith, high))) in
    λ i. first i ∷ rest i

after : (group seg n : ℕ) (gs : List Group) → group < n → gs ≡ map (with_member group seg) (enumerate_from n gs)
after group seg n gs less = members-none group seg n gs (λ k low high same. omega (arith, less, low, same))

-- group k from n on is FLAT
pub members-flat : (group seg k n : ℕ) (gs : List Group) (d : Group) → group ≡ n + k → k < length gs → is_flat (get_or gs k d) ≡ true → gs ≡ map (with_member group seg) (enumerate_from n gs)
members-flat group seg k n [] d at lt flat = absurd (omega (arith, lt))
members-flat group seg zero n (g ∷ gs) d at lt flat =
    let first = flat-group group seg n g flat in
    let rest = after group seg (n + 1) gs (omega (arith, at)) in
    λ i. first i ∷ rest i
members-flat group seg (suc k) n (g ∷ gs) d at lt flat =
    let first = other-group group seg n g (λ same. omega (arith, same, at)) in
    let rest = members-flat group seg k (n + 1) gs d (omega (arith, at)) (omega (arith, lt)) flat in
    λ i. first i ∷ rest i

abbrev pub more_of : Group → ℕ → Group
more_of g seg = record g { members = g.members ++ seg ∷ [] }

pub members-set : (group seg k n : ℕ) (gs : List Group) (d : Group) → group ≡ n + k → k < length gs → is_flat (get_or gs k d) ≡ false → set gs k (more_of (get_or gs k d) seg) ≡ map (with_member group seg) (enumerate_from n gs)
members-set group seg k n [] d at lt named = absurd (omega (arith, lt))
members-set group seg zero n (g ∷ gs) d at lt named =
    let here : group ≡ n = omega (arith, at) in
    let first : more_of g seg ≡ with_member group seg (n, g) = rw (named, eq-eqb group n here) refl in
    let rest = after group seg (n + 1) gs (omega (arith, at)) in
    λ i. first i ∷ rest i
members-set group seg (suc k) n (g ∷ gs) d at lt named =
    let first = other-group group seg n g (λ same. omega (arith, same, at)) in
    let rest = members-set group seg k (n + 1) gs d (omega (arith, at)) (omega (arith, lt)) named in
    λ i. first i ∷ rest i

-- ---- those of all COMDATs so far, and of one more

abbrev members_for : ℕ → ℕ → List BegunComdat → List ℕ
members_for segs m xs = map (λ b. b.0) (filter (λ b. eqb b.1.group m) (numbered segs xs))

members-more : (segs m seg : ℕ) (xs : List BegunComdat) (x : BegunComdat) → seg ≡ segs + 1 + length xs → members_for segs m (xs ++ x ∷ []) ≡ members_for segs m xs ++ cond (eqb x.group m) (seg ∷ []) []
members-more segs m seg xs x at =
    let own : ℕ × BegunComdat → Bool = λ b. eqb b.1.group m in
    ap (λ (qs : List (ℕ × BegunComdat)). map (λ b. b.0) (filter own qs)) (enumerate-snoc (segs + 1) seg xs x at)
    ∙ ap (λ (qs : List (ℕ × BegunComdat)). map (λ b. b.0) qs) (filter-append own (numbered segs xs) ((seg, x) ∷ []))
    ∙ map-append (λ b. b.0) (filter own (numbered segs xs)) (filter own ((seg, x) ∷ []))
    ∙ ap (λ (ys : List ℕ). members_for segs m xs ++ ys) (last (eqb x.group m))
  where
    last : (b : Bool) → map (λ (q : ℕ × BegunComdat). q.0) (cond b ((seg, x) ∷ []) []) ≡ cond b (seg ∷ []) []
    last true = refl
    last false = refl

-- a group that is not FLAT, by whether the member is its own
put-one : (g : Group) (old own : List ℕ) (seg : ℕ) (b : Bool) → own ≡ old ++ cond b (seg ∷ []) [] → cond b (record g { members = g.members ++ old ++ seg ∷ [] }) (record g { members = g.members ++ old }) ≡ record g { members = g.members ++ own }
put-one g old own seg true is = λ i. record g { members = (append_assoc g.members old (seg ∷ []) ∙ ap (λ (ys : List ℕ). g.members ++ ys) (sym is)) i }
put-one g old own seg false is = λ i. record g { members = (ap (λ (ys : List ℕ). g.members ++ ys) (sym (append-nil old) ∙ sym is)) i }

group-more : (segs seg m : ℕ) (xs : List BegunComdat) (x : BegunComdat) (g : Group) → seg ≡ segs + 1 + length xs → with_member x.group seg (m, group_for segs xs (m, g)) ≡ group_for segs (xs ++ x ∷ []) (m, g)
group-more segs seg m xs x g at =
    elim (bool_cases (is_flat g)) [
      | inl flat ↦ rw (flat, flat, and-false (eqb x.group m)) refl
      | inr named ↦ rw (named, named, and-true (eqb x.group m)) (put-one g (members_for segs m xs) (members_for segs m (xs ++ x ∷ [])) seg (eqb x.group m) (members-more segs m seg xs x at))
    ]

pub groups-more : (segs seg m : ℕ) (xs : List BegunComdat) (x : BegunComdat) (gs : List Group) → seg ≡ segs + 1 + length xs
    → map (with_member x.group seg) (enumerate_from m (map (group_for segs xs) (enumerate_from m gs))) ≡ map (group_for segs (xs ++ x ∷ [])) (enumerate_from m gs)
groups-more segs seg m xs x [] at = refl
groups-more segs seg m xs x (g ∷ gs) at = λ i. group-more segs seg m xs x g at i ∷ groups-more segs seg (m + 1) xs x gs at i

-- where there are none
pub groups-none : (segs m : ℕ) (gs : List Group) → gs ≡ map (group_for segs []) (enumerate_from m gs)
groups-none segs m [] = refl
groups-none segs m (g ∷ gs) = λ i. none (is_flat g) i ∷ groups-none segs (m + 1) gs i
  where
    none : (flat : Bool) → g ≡ cond flat g (record g { members = g.members ++ [] })
    none true = refl
    none false = λ i. record g { members = sym (append-nil g.members) i }
