-- What a view keeps of a process in any state: its counts, the residences that it reaches, and the bytes of a page.
use Rattle.std.proofs.Common.{◌≡◌, ◌∙◌, ℕ, ◌+◌, ◌*◌, ◌<◌, ◌==◌, Bool, true, false, List, [], ◌∷◌, length, map, filter, find, Option, Some, None, cond, refl, sym, ap, arith}
use Rattle.std.specs.Prelude.{◌/◌, ◌%◌, option_map, slice_index, if◌then◌else◌}
use Rattle.std.specs.List.{range_with_len}
use Rattle.std.proofs.lemmas.Bool.{eqb-true, true≢false}
use Rattle.std.proofs.lemmas.List.FromFn.{get_or-map-range_with_len, length-map-range_with_len}
use Rattle.lx_types.specs.Object.{class_of}
use Rattle.lx_types.specs.declared.object.PageId.{PageId}
use Rattle.lx_types.specs.declared.object.TheConstants.{PAGE_SIZE}
use Rattle.load_model.specs.declared.deeds.Fresh.{Fresh}
use Rattle.load_model.specs.Modules.{Library, Held, object_at}
use Rattle.load_model.specs.State.{Residence, Process, Eager, count_of, reaches, residence_of, attached_residence}
use Rattle.load_model.specs.ProcessCounts.{ProcessCounts, AreCountsOf, reach_count}
use Rattle.load_model.specs.Views.{Mapped, fresh_of, lying_byte, IsMapped}

-- ---- counts

from_zero : (m : ℕ) → 0 + m ≡ m
from_zero m = omega arith

abbrev pub counts_of : Library → Process → ProcessCounts
counts_of lib p = record {
  started = p.started;
  loads = map (count_of p) (range_with_len 0 (length lib));
  reached = map (reach_count lib p) (range_with_len 0 (length lib));
  attached = p.attached;
}

pub counts_are : (lib : Library) (p : Process) → AreCountsOf lib p (counts_of lib p)
counts_are lib p = record {
  started = refl;
  attached = refl;
  loads_are = length-map-range_with_len (count_of p) 0 (length lib);
  loads = λ m within. get_or-map-range_with_len (count_of p) 0 (length lib) m m 0 within (from_zero m);
  reached_are = length-map-range_with_len (reach_count lib p) 0 (length lib);
  reached = λ m within. get_or-map-range_with_len (reach_count lib p) 0 (length lib) m m 0 within (from_zero m);
}

-- ---- residences

abbrev pub residences_of : Library → Eager → ℕ → List Fresh
residences_of lib e pid = map fresh_of (filter (λ (r : Residence). reaches lib (e.processes pid) r.«module») e.residences)

abbrev at_module : ℕ → Residence → Bool
at_module k r = r.«module» == k

abbrev kept_by : (ℕ → Bool) → Residence → Bool
kept_by keeps r = keeps r.«module»

found_kept : (keeps : ℕ → Bool) (k : ℕ) (rs : List Residence) →
    find (at_module k) (filter (kept_by keeps) rs) ≡ (if keeps k then find (at_module k) rs else None)
found_kept keeps k [] = none (keeps k) None
  where
    none : (b : Bool) (o : Option Residence) → o ≡ (if b then o else o)
    none true o = refl
    none false o = refl
found_kept keeps k (r ∷ rs) = step (keeps r.«module») refl (r.«module» == k) refl (keeps k) refl (found_kept keeps k rs)
  where
    step : (b : Bool) → keeps r.«module» ≡ b → (c : Bool) → (r.«module» == k) ≡ c → (d : Bool) → keeps k ≡ d →
        find (at_module k) (filter (kept_by keeps) rs) ≡ (if keeps k then find (at_module k) rs else None) →
        find (at_module k) (cond b (r ∷ filter (kept_by keeps) rs) (filter (kept_by keeps) rs)) ≡ (if d then cond c (Some r) (find (at_module k) rs) else None)
    step true kept true is true keeps_k later = ap (λ (x : Bool). cond x (Some r) (find (at_module k) (filter (kept_by keeps) rs))) is
    step true kept true is false keeps_k later = absurd (true≢false (sym kept ∙ (ap keeps (eqb-true r.«module» k is) ∙ keeps_k)))
    step true kept false is true keeps_k later =
        ap (λ (x : Bool). cond x (Some r) (find (at_module k) (filter (kept_by keeps) rs))) is ∙ (later ∙ ap (λ (x : Bool). if x then find (at_module k) rs else None) keeps_k)
    step true kept false is false keeps_k later =
        ap (λ (x : Bool). cond x (Some r) (find (at_module k) (filter (kept_by keeps) rs))) is ∙ (later ∙ ap (λ (x : Bool). if x then find (at_module k) rs else None) keeps_k)
    step false kept true is true keeps_k later = absurd (true≢false (sym keeps_k ∙ (ap keeps (sym (eqb-true r.«module» k is)) ∙ kept)))
    step false kept true is false keeps_k later = later ∙ ap (λ (x : Bool). if x then find (at_module k) rs else None) keeps_k
    step false kept false is d keeps_k later = later ∙ ap (λ (x : Bool). if x then find (at_module k) rs else None) keeps_k

found_fresh : (k : ℕ) (rs : List Residence) → find (λ (s : Fresh). s.«module» == k) (map fresh_of rs) ≡ option_map fresh_of (find (at_module k) rs)
found_fresh k [] = refl
found_fresh k (r ∷ rs) = step (r.«module» == k) (found_fresh k rs)
  where
    step : (b : Bool) → find (λ (s : Fresh). s.«module» == k) (map fresh_of rs) ≡ option_map fresh_of (find (at_module k) rs) →
        cond b (Some (fresh_of r)) (find (λ (s : Fresh). s.«module» == k) (map fresh_of rs)) ≡ option_map fresh_of (cond b (Some r) (find (at_module k) rs))
    step true later = refl
    step false later = later

pub residences_are : (lib : Library) (e : Eager) (pid k : ℕ) →
    find (λ (s : Fresh). s.«module» == k) (residences_of lib e pid) ≡ option_map fresh_of (attached_residence lib e pid k)
unfolding attached_residence residence_of
residences_are lib e pid k =
    found_fresh k (filter (kept_by (reaches lib (e.processes pid))) e.residences)
    ∙ ap (option_map fresh_of) (found_kept (reaches lib (e.processes pid)) k e.residences)

-- ---- a page

-- its bytes as they lie there, up to the page's end
abbrev pub page_seen : Library → Held → Eager → ℕ → Residence → PageId → Mapped
page_seen lib contents e pid r p = record {
  of = record { serial = r.serial; page = p };
  bytes =
      map (λ i. lying_byte (class_of (object_at lib r.«module» p.object)) lib contents e pid r p.object (p.page * PAGE_SIZE + i)) (range_with_len 0 PAGE_SIZE);
}

below : (x : ℕ) → x % PAGE_SIZE < PAGE_SIZE
below x = omega arith

whole : (x page : ℕ) → x / PAGE_SIZE ≡ page → page * PAGE_SIZE + x % PAGE_SIZE ≡ x
whole x page is = omega (arith, is)

pub page_is_seen : (lib : Library) (contents : Held) (e : Eager) (pid : ℕ) (r : Residence) (p : PageId) → attached_residence lib e pid r.«module» ≡ Some r →
    IsMapped lib contents e pid (page_seen lib contents e pid r p)
page_is_seen lib contents e pid r p there =
    let lies : ℕ → ℕ = lying_byte (class_of (object_at lib r.«module» p.object)) lib contents e pid r p.object in
    record {
      residence = r;
      there = there;
      serial = refl;
      bytes = λ x in_it within.
          get_or-map-range_with_len (λ i. lies (p.page * PAGE_SIZE + i)) 0 PAGE_SIZE (x % PAGE_SIZE) (x % PAGE_SIZE) 0 (below x) (from_zero (x % PAGE_SIZE)) ∙ ap lies (whole x p.page in_it);
    }
