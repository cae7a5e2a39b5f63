-- One more pair in the import tables.
use Rattle.std.specs.Prelude.{◌≡◌, ℕ, ◌+◌, ◌<◌, List, Bool, true, false, cond, not, ◌&&◌, ◌||◌, ◌==◌, [], ◌∷◌, ◌++◌, Option, None, map, take, length, bytes_eq, option_to_list, refl}
use Rattle.std.specs.List.{filter_map, cons_option}
use Rattle.std.proofs.Common.{ap, sym, ◌∙◌, subst, get_or, arith, true≢false}
use Rattle.std.proofs.lemmas.List.{map-append, take_more, get_or_default}
use Rattle.std.proofs.lemmas.List.Elements.{filter_map-append}
use Rattle.link_fix.proofs.PagedFixes.{one_option}
use Rattle.lx_types.specs.Names.{uppercase}
use Rattle.obj_types.specs.declared.symbol.Imp.{Imp}
use Rattle.link_model.specs.Appearance.{firsts}
use Rattle.link_model.specs.ImportTables.{proc_name}
use Rattle.link_model.specs.Fixups as rules
use Rattle.link_model.specs.Goals.{Target, Internal, Constant, Entry, object_of_target}
use Rattle.link_model.specs.Words.{option_any}
use Rattle.link_model.specs.Patches.{is_patched}
use Rattle.link_fix.specs.declared.fixup.Fixup.{Fixup}
use Rattle.link_fix.specs.declared.tables.FirstNames.{FirstNames}
use Rattle.link_fix.specs.declared.tables.ImportTables.{ImportTables}
use Rattle.link_fix.specs.Shown.{shown, target_shown}
use Rattle.link_fix.specs.Tables.{AreFirst, ArePairs, pair_among, pairs_among}
use Rattle.link_fix.specs.Paging.{recorded_in}

pub pairs-push :
    (old new : ImportTables) (mid : FirstNames) (pairs : List Imp) (pair : Imp) (name : List ℕ) → name ≡ uppercase pair.module → ArePairs old pairs
    → ((pushed : List (List ℕ)) → AreFirst old.modules (firsts bytes_eq pushed) → AreFirst mid (firsts bytes_eq (pushed ++ name ∷ []))) → new.modules ≡ mid
    → ((pushed : List (List ℕ)) → AreFirst old.procs (firsts bytes_eq pushed) → AreFirst new.procs (firsts bytes_eq (pushed ++ option_to_list (proc_name pair.entry))))
    → ArePairs new (pairs ++ pair ∷ [])
pairs-push old new mid pairs pair name upper are modules same procs =
    let up : Imp → List ℕ = λ p. uppercase p.module in
    let proc : Imp → Option (List ℕ) = λ p. proc_name p.entry in
    let named : map up pairs ++ name ∷ [] ≡ map up (pairs ++ pair ∷ []) = ap (λ (n : List ℕ). map up pairs ++ n ∷ []) upper ∙ sym (map-append up pairs (pair ∷ [])) in
    let called : filter_map proc pairs ++ option_to_list (proc pair) ≡ filter_map proc (pairs ++ pair ∷ []) = ap (λ ns. filter_map proc pairs ++ ns) (sym (one_option (proc pair))) ∙ sym (filter_map-append proc pairs (pair ∷ [])) in
    let of_mid : AreFirst mid (firsts bytes_eq (map up (pairs ++ pair ∷ []))) = subst (λ (ns : List (List ℕ)). AreFirst mid (firsts bytes_eq ns)) named (modules (map up pairs) are.modules) in
    record {
      modules = subst (λ (t : FirstNames). AreFirst t (firsts bytes_eq (map up (pairs ++ pair ∷ [])))) (sym same) of_mid;
      procs = subst (λ (ns : List (List ℕ)). AreFirst new.procs (firsts bytes_eq ns)) called (procs (filter_map proc pairs) are.procs);
    }

-- The pairs of one more fixup.
pub pairs-more : (imports : List Imp) (qs : List Fixup) (i : ℕ) (q : Fixup) → i < length qs → q ≡ get_or qs i q →
    pairs_among imports (map shown (take i qs)) ++ option_to_list (pair_among imports (target_shown q.target)) ≡ pairs_among imports (map shown (take (i + 1) qs))
pairs-more imports qs i q h is =
    let pair : rules.Fixup → Option Imp = λ r. pair_among imports r.target in
    let firsts : List rules.Fixup = map shown (take i qs) in
    let more : firsts ++ shown q ∷ [] ≡ map shown (take (i + 1) qs) = sym (map-append shown (take i qs) (q ∷ [])) ∙ ap (map shown) (ap (λ y. take i qs ++ y ∷ []) is ∙ sym (take_more qs i q h)) in
    ap (λ ps. filter_map pair firsts ++ ps) (sym (one_option (pair (shown q)))) ∙ sym (filter_map-append pair firsts (shown q ∷ [])) ∙ ap (filter_map pair) more

pub tables-more : (tables : ImportTables) (imports : List Imp) (qs : List Fixup) (i : ℕ) (d : Fixup) → i < length qs → ArePairs tables (pairs_among imports (map shown (take i qs)) ++ option_to_list (pair_among imports (target_shown (get_or qs i d).target)))
    → ArePairs tables (pairs_among imports (map shown (take (i + 1) qs)))
tables-more tables imports qs i d h are =
    subst (λ (pairs : List Imp). ArePairs tables pairs) (pairs-more imports qs i (get_or qs i d) h (get_or_default qs i d (get_or qs i d) h)) are

-- No pair is named where the link has none.
no_pair : (t : Target) → pair_among [] t ≡ None
no_pair (Internal object offset) = refl
no_pair (Constant value) = refl
no_pair (Entry slot) = refl

no-pairs : (qs : List rules.Fixup) → pairs_among [] qs ≡ []
no-pairs [] = refl
no-pairs (q ∷ qs) = ap (λ (o : Option Imp). cons_option o (pairs_among [] qs)) (no_pair q.target) ∙ no-pairs qs

-- A fixup that is patched names no pair, so those that get records name the same pairs as all.
patched_pair : (imports : List Imp) (t : Target) (selfrel : Bool) (object : ℕ) → (rules.is_constant t || selfrel && option_any (λ o. o == object) (object_of_target t)) ≡ true → pair_among imports t ≡ None
patched_pair imports (Internal o offset) selfrel object patched = refl
patched_pair imports (Constant value) selfrel object patched = refl
patched_pair imports (Entry slot) true object patched = absurd (true≢false (sym patched))
patched_pair imports (Entry slot) false object patched = absurd (true≢false (sym patched))

pub pairs-recorded : (imports : List Imp) (qs : List rules.Fixup) → pairs_among imports (recorded_in qs) ≡ pairs_among imports qs
pairs-recorded imports [] = refl
pairs-recorded imports (q ∷ qs) = by (is_patched q) (patched_pair imports q.target q.fix.selfrel q.object) (pairs-recorded imports qs)
  where
    own : Option Imp
    own = pair_among imports q.target

    by : (b : Bool) → (b ≡ true → own ≡ None) → pairs_among imports (recorded_in qs) ≡ pairs_among imports qs → pairs_among imports (cond (not b) (q ∷ recorded_in qs) (recorded_in qs)) ≡ cons_option own (pairs_among imports qs)
    by true none rest = rest ∙ ap (λ (o : Option Imp). cons_option o (pairs_among imports qs)) (sym (none refl))
    by false none rest = ap (cons_option own) rest

-- Where the link has no pairs, empty tables are those of all fixups.
pub none-named : (tables : ImportTables) (imports : List Imp) (qs : List Fixup) → length imports ≡ 0 → ArePairs tables [] → ArePairs tables (pairs_among imports (map shown qs))
none-named tables [] qs none are = subst (λ (pairs : List Imp). ArePairs tables pairs) (sym (no-pairs (map shown qs))) are
none-named tables (pair ∷ imports) qs none are = absurd (omega (arith, none))
