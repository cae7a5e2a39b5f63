-- The parts of a faultless file fit each other: the references of its records.
use Rattle.std.proofs.Common.{◌≡◌, ℕ, ◌+◌, Bool, true, false, cond, not, List, [], ◌∷◌, map, Some, None, refl, arith}
use Rattle.std.specs.Prelude.{All, is_some}
use Rattle.std.specs.List.{range_with_len, AllByRecursion as Each}
use Rattle.std.proofs.lemmas.Bool.Decides.{nat_tests}
use Rattle.std.proofs.lemmas.List.Elements.{All-from_recursion}
use Rattle.std.proofs.lemmas.Bool.{and_parts}
use Rattle.lx_types.specs.declared.refusal.LxRefusal.{LxRefusal}
use Rattle.lx_types.specs.declared.refusal.LxKind.TheVariants.{BadTarget}
use Rattle.lx_types.specs.declared.fix.FixTarget.{FixTarget}
use Rattle.lx_types.specs.declared.fix.FixTarget.TheVariants.{Internal, Ordinal, Named, Own}
use Rattle.lx_types.specs.Parts.{name_at}
use Rattle.lx_types.specs.Sound.{RefFits, IsNumberOf}
use Rattle.lx_model.specs.Reading.{fault, first, first_of, Many, fault_of}
use Rattle.lx_model.specs.Header.{page_count, import_count}
use Rattle.lx_model.specs.EntryTable.{names_one_of}
use Rattle.lx_model.specs.Records.{Record, fixes_of}
use Rattle.lx_model.specs.Module.{page_records, targets_of, same_target, is_reference, once, refs_of, Targets, targets_in, is_target, target_fault, records_fault, page_records_fault}
use Rattle.lx_model.proofs.Firsts.{then_none, each_none}
use Rattle.lx_model.proofs.Each.{each_flat_map, each_map, each_more, each_filter, each_first, each_in_range}

abbrev IsThere : Targets → FixTarget → Type 0
IsThere m t = is_target m t ≡ true

there : (m : Targets) (t : FixTarget) (e : LxRefusal) → cond (is_target m t) None (Some e) ≡ None → IsThere m t
there m t e h = by_test (is_target m t) h
  where
    by_test : (b : Bool) → cond b None (Some e) ≡ None → b ≡ true
    by_test true h' = refl
    by_test false h' = absurd cc

record_there : (m : Targets) (r : Record) → target_fault m r ≡ None → Each (λ f. IsThere m f.target) r.fixes
record_there m r h =
    each_more (λ f. cond (is_target m f.target) None (Some (fault BadTarget r.at)) ≡ None) (λ f. IsThere m f.target) r.fixes
    (λ f e. there m f.target (fault BadTarget r.at) e)
    (each_first (λ f. cond (is_target m f.target) None (Some (fault BadTarget r.at))) r.fixes h)

pub records_there : (m : Targets) (rs : Many Record) → records_fault m rs ≡ None → Each (λ f. IsThere m f.target) (fixes_of rs)
records_there m rs h =
    let good = then_none (first (map (target_fault m) rs.items)) (fault_of rs.end) h in
    each_flat_map (λ f. IsThere m f.target) (λ r. r.fixes) rs.items
    (each_more (λ r. target_fault m r ≡ None) (λ r. Each (λ f. IsThere m f.target) r.fixes) rs.items (record_there m) (each_first (target_fault m) rs.items good.0))

pub targets_there : (file : List ℕ) → first_of (page_count file) (page_records_fault file) ≡ None → Each (IsThere (targets_in file)) (targets_of file)
targets_there file h =
    each_flat_map (IsThere (targets_in file)) (λ k. map (λ f. f.target) (fixes_of (page_records file k))) (range_with_len 0 (page_count file))
    (each_in_range _ 0 (page_count file) (λ k low lt.
    each_map (IsThere (targets_in file)) (λ f. f.target) (fixes_of (page_records file k))
    (records_there (targets_in file) (page_records file k) (each_none (page_count file) (page_records_fault file) k h (omega arith)))))

pub each_once : (P : FixTarget → Type 0) (ts : List FixTarget) → Each P ts → Each P (once ts)
each_once P [] h = tt
each_once P (t ∷ ts) h = (h.0, each_more (λ u. P u × (not (same_target t u) ≡ true)) P _ (λ u p. p.0) (each_filter P (λ u. not (same_target t u)) (once ts) (each_once P ts h.1)))

pub numbered : (count number : ℕ) → names_one_of count number ≡ true → IsNumberOf number count
numbered count number e = (grind (arith, nat_tests), grind (arith, nat_tests))

fits : (m : Targets) (t : FixTarget) → IsThere m t → is_reference t ≡ true → RefFits m.imports t
fits m (Internal o x) h r = absurd cc
fits m (Ordinal i x) h r = numbered m.imports i h
fits m (Named i x) h r = numbered m.imports i (and_parts (names_one_of m.imports i) (is_some (name_at m.file (m.procs_at + x))) h).0
fits m (Own x) h r = tt

pub refs_fit : (file : List ℕ) → first_of (page_count file) (page_records_fault file) ≡ None → All (RefFits (import_count file)) (refs_of file)
unfolding refs_of
refs_fit file h = All-from_recursion _ _
    (each_once _ _ (each_more _ _ _ (λ t p. fits (targets_in file) t p.0 p.1) (each_filter (IsThere (targets_in file)) is_reference (targets_of file) (targets_there file h))))
