-- The order from listed imports is the library's.
use Rattle.std.proofs.Common.{◌≡◌, ℕ, suc, zero, ◌∙◌, List, [], ◌∷◌, fold, length, map, get_or, if◌then◌else◌, refl, sym, ap, arith, inl, inr}
use Rattle.std.proofs.lemmas.Bool.{cases_lt}
use Rattle.std.proofs.lemmas.List.{get_or_past}
use Rattle.std.proofs.lemmas.List.FromFn.{get_or-map-range_with_len, length-map-range_with_len}
use Rattle.std.specs.List.{range_with_len, filter_map}
use Rattle.lx_types.specs.declared.parts.Parts.{Parts}
use Rattle.lx_model.specs.Library.{no_module, library_named}
use Rattle.lx_model.specs.Reach.{Visits, is_among, imports_of, visit, Order}
use Rattle.mod_graph.specs.Visiting.{visit_in, order_in}
use Rattle.mod_graph.proofs.Lists.{marked, closed}

-- the imports of each module, listed; a module that is not there imports nothing
pub imports_listed : (lib : List Parts) (graph : List (List ℕ)) → graph ≡ map (imports_of lib) (range_with_len 0 (length lib)) → (m : ℕ) → get_or graph m [] ≡ imports_of lib m
imports_listed lib graph is m = ap (λ g. get_or g m []) is ∙ elim (cases_lt m (length lib)) [
  | inl there ↦ get_or-map-range_with_len (imports_of lib) 0 (length lib) m m [] there (omega arith)
  | inr past ↦ get_or_past (map (imports_of lib) (range_with_len 0 (length lib))) m [] (omega (arith, past, length-map-range_with_len (imports_of lib) 0 (length lib)))
      ∙ ap (λ (p : Parts). filter_map (library_named lib) p.imports) (sym (get_or_past lib m no_module past))
]

fold_same : {A B : Type 0} (f g : B → A → B) → ((b : B) (x : A) → f b x ≡ g b x) → (b : B) (xs : List A) → fold f b xs ≡ fold g b xs
fold_same f g same b [] = refl
fold_same f g same b (x ∷ xs) = ap (λ c. fold f c xs) (same b x) ∙ fold_same f g same (g b x) xs

pub visits_same : (lib : List Parts) (graph : List (List ℕ)) → ((m : ℕ) → get_or graph m [] ≡ imports_of lib m) → (n : ℕ) (before : Visits) (m : ℕ) → visit_in n graph before m ≡ visit n lib before m
unfolding visit_in visit
visits_same lib graph listed zero before m = refl
visits_same lib graph listed (suc n) before m =
    ap (λ (after : Visits). if is_among before.visited m then before else closed after m)
    (fold_same (visit_in n graph) (visit n lib) (visits_same lib graph listed n) (marked before m) (get_or graph m []) ∙ ap (fold (visit n lib) (marked before m)) (listed m))

pub order_in-is : (lib : List Parts) (graph : List (List ℕ)) → graph ≡ map (imports_of lib) (range_with_len 0 (length lib)) → (m : ℕ) → order_in graph m ≡ Order lib m
unfolding Order
order_in-is lib graph is m =
    ap (λ g. (visit_in (suc (length g)) graph (record { visited = []; order = [] }) m).order) is
    ∙ ap (λ n. (visit_in (suc n) graph (record { visited = []; order = [] }) m).order) (length-map-range_with_len (imports_of lib) 0 (length lib))
    ∙ ap (λ (v : Visits). v.order) (visits_same lib graph (imports_listed lib graph is) (suc (length lib)) (record { visited = []; order = [] }) m)
