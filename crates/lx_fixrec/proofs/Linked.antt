-- The next source of a list, from the first ones of those after a source.
use Rattle.std.proofs.Common.{◌≡◌, ℕ, ◌+◌, ◌-◌, ◌<◌, ◌≤◌, ◌⊎◌, inl, inr, Bool, true, false, ◌&&◌, not, List, [], ◌∷◌, length, drop, get_or, set, slice_index, get_or-set_same, get_or-set_other, Option, None, Some, slice_get, unwrap_or, refl, sym, subst, ap, ◌∙◌, arith}
use Rattle.std.specs.Prelude.{filter}
use Rattle.std.proofs.lemmas.Bool.{cases_eq}
use Rattle.std.proofs.lemmas.List.{drop_more, drop_all}
use Rattle.std.proofs.lemmas.Option.{slice_get_within, get_or_from_slice_get}
use Rattle.std.proofs.Math.Bool.{and-false}
use Rattle.lx_types.specs.declared.fix.Fix.{Fix}
use Rattle.lx_model.specs.JoinedRecords.{crosses, joins}
use Rattle.lx_fixrec.specs.declared.lists.Firsts.{Firsts}
use Rattle.lx_fixrec.specs.declared.lists.Shared.{Shared}
use Rattle.lx_fixrec.specs.Lists.{shared_of, same_shared, is_with, first_in, Puts}
use Rattle.lx_fixrec.specs.Links.{HeadPasses, LeadsTo, IsNext, IsFirst, AreFirsts}
use Rattle.lx_fixrec.proofs.Filters.{dropped}
use Rattle.lx_fixrec.proofs.Grouping.{joins_with, joined_none}
use Rattle.lx_fixrec.proofs.Shared.{shared_is, shared_turned}

pub front : (s : List Fix) (i : ℕ) (f : Fix) → slice_get s i ≡ Some f → drop i s ≡ f ∷ drop (i + 1) s
front s i f at = drop_more s i f (slice_get_within s i f at) ∙ ap (λ g. g ∷ drop (i + 1) s) (get_or_from_slice_get s i f f at)

pub crossing_at : (s : List Fix) (i : ℕ) (d f : Fix) (b : Bool) → slice_get s i ≡ Some f → crosses (get_or s i d) ≡ b → crosses f ≡ b
crossing_at s i d f b at is = ap crosses (sym (get_or_from_slice_get s i f d at)) ∙ is

-- ---- the next source

-- after all sources there is none
at_end : (s : List Fix) (p : Fix → Bool) (all : List Fix) → filter p all ≡ [] → LeadsTo p all (drop (length s) s)
at_end s p all none = subst (LeadsTo p all) (sym (drop_all (length s) s (omega arith))) (record { same = none; head = tt })

pub next_crossing : (s : List Fix) (f : Fix) (place : ℕ) → place < length s → crosses f ≡ true → IsNext s f place (length s)
next_crossing s f place lt crossing = record { after = lt; leads = at_end s (joins f) (drop (place + 1) s) (joined_none f (drop (place + 1) s) crossing) }

same_test : (f : Fix) → crosses f ≡ false → joins f ≡ is_with (shared_of f)
same_test f within = λ i g. joins_with f g within i

next_is : (s : List Fix) (f : Fix) (place : ℕ) (first : Option ℕ) → place < length s → crosses f ≡ false → IsFirst s (is_with (shared_of f)) (place + 1) first → IsNext s f place (unwrap_or first (length s))
next_is s f place None lt within none =
    record { after = lt; leads = at_end s (joins f) (drop (place + 1) s) (ap (λ (t : Fix → Bool). filter t (drop (place + 1) s)) (same_test f within) ∙ none) }
next_is s f place (Some first) lt within h =
    let later : place + 1 ≤ first = h.0 in
    record { after = omega arith; leads = subst (λ (t : Fix → Bool). LeadsTo t (drop (place + 1) s) (drop first s)) (sym (same_test f within)) h.1 }

-- the same, of what a call put and answers
pub next_put : (s : List Fix) (place : ℕ) (d f : Fix) (shared : Shared) (old new : Firsts) (before : Option ℕ) → place < length s → slice_get s place ≡ Some f → crosses (get_or s place d) ≡ false →
    shared ≡ shared_of (get_or s place d) → Puts old shared place before new → AreFirsts s (place + 1) old → IsNext s f place (unwrap_or before (length s))
next_put s place d f shared old new before lt at within is puts h =
    let read : get_or s place d ≡ f = get_or_from_slice_get s place f d at in
    let same : shared ≡ shared_of f = is ∙ ap shared_of read in
    next_is s f place before lt (crossing_at s place d f false at within)
    (subst (IsFirst s (is_with (shared_of f)) (place + 1)) (sym (puts.before_is ∙ ap (first_in old) same)) (h (shared_of f)))

-- ---- the first sources

skipped : (s : List Fix) (p : Fix → Bool) (place : ℕ) (f : Fix) (first : Option ℕ) → drop place s ≡ f ∷ drop (place + 1) s → p f ≡ false → IsFirst s p (place + 1) first → IsFirst s p place first
skipped s p place f None stands fails h = ap (filter p) stands ∙ dropped p f (drop (place + 1) s) fails ∙ h
skipped s p place f (Some first) stands fails h =
    let later : place + 1 ≤ first = h.0 in
    (omega arith, record { same = ap (filter p) stands ∙ dropped p f (drop (place + 1) s) fails ∙ h.1.same; head = h.1.head })

here : (s : List Fix) (p : Fix → Bool) (place : ℕ) (f : Fix) → drop place s ≡ f ∷ drop (place + 1) s → p f ≡ true → IsFirst s p place (Some place)
here s p place f stands holds = (omega arith, record { same = refl; head = subst (HeadPasses p) (sym stands) holds })

pub firsts_crossing : (s : List Fix) (place : ℕ) (f : Fix) (firsts : Firsts) → slice_get s place ≡ Some f → crosses f ≡ true → AreFirsts s (place + 1) firsts → AreFirsts s place firsts
firsts_crossing s place f firsts at crossing h k =
    skipped s (is_with k) place f (first_in firsts k) (front s place f at) (ap (λ (b : Bool). same_shared k (shared_of f) && not b) crossing ∙ and-false (same_shared k (shared_of f))) (h k)

pub firsts_put : (s : List Fix) (place : ℕ) (f : Fix) (shared : Shared) (old new : Firsts) (before : Option ℕ) → slice_get s place ≡ Some f → crosses f ≡ false → shared ≡ shared_of f → Puts old shared place before new →
    AreFirsts s (place + 1) old → AreFirsts s place new
firsts_put s place f shared old new before at within is given h k = by (same_shared k (shared_of f)) refl
  where
    puts : Puts old (shared_of f) place before new
    puts = subst (λ (q : Shared). Puts old q place before new) is given

    by : (b : Bool) → same_shared k (shared_of f) ≡ b → IsFirst s (is_with k) place (first_in new k)
    by true e =
        subst (IsFirst s (is_with k) place) (sym (ap (first_in new) (shared_is k (shared_of f) e) ∙ puts.put))
        (here s (is_with k) place f (front s place f at) (ap (λ (b : Bool). b && not (crosses f)) e ∙ ap not within))
    by false e =
        subst (IsFirst s (is_with k) place) (sym (puts.others k (shared_turned k (shared_of f) false e)))
        (skipped s (is_with k) place f (first_in old k) (front s place f at) (ap (λ (b : Bool). b && not (crosses f)) e) (h k))

-- after all sources there are none
pub no_firsts : (s : List Fix) (firsts : Firsts) → ((k : Shared) → first_in firsts k ≡ None) → AreFirsts s (length s) firsts
no_firsts s firsts none k = subst (IsFirst s (is_with k) (length s)) (sym (none k)) (ap (filter (is_with k)) (drop_all (length s) s (omega arith)))

-- one link more
pub links_more : (s : List Fix) (links : List ℕ) (left next : ℕ) → 0 < left → left ≤ length s → length links ≡ length s → ((i : ℕ) (f : Fix) → left ≤ i → slice_get s i ≡ Some f → IsNext s f i (slice_index links i)) →
    ((f : Fix) → slice_get s (left - 1) ≡ Some f → IsNext s f (left - 1) next) → (i : ℕ) (f : Fix) → left - 1 ≤ i → slice_get s i ≡ Some f → IsNext s f i (slice_index (set links (left - 1) next) i)
links_more s links left next some within many each here_is i f from at = by (cases_eq i (left - 1))
  where
    by : (i ≡ left - 1) ⊎ (i ≡ left - 1 → ⊥) → IsNext s f i (slice_index (set links (left - 1) next) i)
    by (inl e) =
        let written : slice_index (set links (left - 1) next) i ≡ next = ap (slice_index (set links (left - 1) next)) e ∙ get_or-set_same links (left - 1) next 0 (omega arith) in
        let own : IsNext s f i next = subst (λ (n : ℕ). IsNext s f n next) (sym e) (here_is f (ap (slice_get s) (sym e) ∙ at)) in
        subst (IsNext s f i) (sym written) own
    by (inr other) = subst (IsNext s f i) (sym (get_or-set_other links (left - 1) i next 0 other)) (each i f (omega (arith, other)) at)
