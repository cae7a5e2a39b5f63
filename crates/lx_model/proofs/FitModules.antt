-- The sources of a fit module have spots, and its iterated pages give bytes.
use Rattle.std.proofs.Common.{◌≡◌, ℕ, ◌+◌, ◌-◌, ◌||◌, Bool, true, false, cond, ltb, leb, List, [], ◌∷◌, map, length, get_or, Option, Some, None, Result, Ok, Err, refl, sym, subst, ap, ◌∙◌, inl, inr}
use Rattle.std.specs.Prelude.{All, Contains, unwrap_or, position, option_map, is_none}
use Rattle.std.specs.List.{list_any, AllByRecursion as Each}
use Rattle.std.proofs.lemmas.Bool.{cases_lt, or_parts}
use Rattle.std.proofs.lemmas.List.{get_or_past}
use Rattle.std.proofs.lemmas.List.Elements.{All-from_recursion}
use Rattle.lx_types.specs.declared.refusal.LxRefusal.{LxRefusal}
use Rattle.lx_types.specs.declared.refusal.LxKind.TheVariants.{PageData}
use Rattle.lx_types.specs.declared.fix.FixTarget.{FixTarget}
use Rattle.lx_types.specs.declared.fix.FixTarget.TheVariants.{Internal, Ordinal, Named, Own}
use Rattle.lx_types.specs.declared.object.PageHead.{PageHead}
use Rattle.lx_types.specs.declared.object.PageKind.{PageKind}
use Rattle.lx_types.specs.declared.object.PageKind.TheVariants.{Plain, Iterated, Invalid, Zero}
use Rattle.lx_types.specs.declared.parts.Parts.{Parts}
use Rattle.lx_types.specs.Object.{zero_page}
use Rattle.lx_types.specs.Parts.{span, object_of}
use Rattle.lx_model.specs.declared.library.EntryFault.{EntryFault}
use Rattle.lx_model.specs.declared.library.EntryFault.TheVariants as faults
use Rattle.lx_model.specs.declared.library.Health.{Health}
use Rattle.lx_model.specs.declared.library.Health.TheVariants.{Fit, NoModule, NoEntry, ForwardLoop, Gate286}
use Rattle.lx_model.specs.declared.library.Spot.{Spot}
use Rattle.lx_model.specs.Reading.{fault, number_at, first, ◌then◌, placed, fault_of}
use Rattle.lx_model.specs.Header.{page_count}
use Rattle.lx_model.specs.Iterated.{expansion}
use Rattle.lx_model.specs.Tables.{page_kind, page_of_kind, page_or_zero, page_entry, page_place, page_data, page_fault, page_heads, pages_fault, data_fault}
use Rattle.lx_model.specs.Module.{same_target, is_reference, parts_of, IsRead}
use Rattle.lx_model.specs.Library.{no_module, module_of, library_named}
use Rattle.lx_model.specs.Entries.{target_spot}
use Rattle.lx_model.specs.Reach.{itself, Order, lost_import, ends_in, target_of_fault, HealthOf}
use Rattle.lx_model.specs.Fixed.{sources_of}
use Rattle.lx_model.specs.ModuleLaws.{DataExpands, HasSpot, FitHasSpots}
use Rattle.lx_model.proofs.Each.{each_more, each_first}
use Rattle.lx_model.proofs.Firsts.{each_none, each_entry}
use Rattle.lx_model.proofs.Meaning.{judged}
use Rattle.lx_model.proofs.Once.{same_is, among}
use Rattle.lx_model.proofs.ReadModules.{references_listed}
use Rattle.lx_model.proofs.Soundness.{page_is_whole}
use Rattle.lx_model.proofs.Visits.{reached_is_ordered}

-- ---- health

pub spot_of : (r : Result Spot EntryFault) → ends_in faults.NoEntry r ≡ false → ends_in faults.ForwardLoop r ≡ false → ends_in faults.Gate286 r ≡ false → (s : Spot) × (r ≡ Ok s)
spot_of (Ok s) a b c = (s, refl)
spot_of (Err faults.NoEntry) a b c = absurd cc
spot_of (Err faults.Gate286) a b c = absurd cc
spot_of (Err faults.ForwardLoop) a b c = absurd cc

-- an answer is no fit
abbrev pub Unfit : Option Health → Type 0
Unfit o = (h : Health) → o ≡ Some h → h ≡ Fit → ⊥

pub unfit_first : (f : ℕ → Option Health) → ((by : ℕ) → Unfit (f by)) → (ms : List ℕ) → Unfit (first (map f ms))
unfit_first f bad [] h e fit = absurd cc
unfit_first f bad (m ∷ ms) h e fit = by_head (f m) refl (unfit_first f bad ms) e
  where
    by_head : (o : Option Health) → f m ≡ o → Unfit (first (map f ms)) → first (o ∷ map f ms) ≡ Some h → ⊥
    by_head (Some y) is again e' = bad m h (is ∙ e') fit
    by_head None is again e' = again h e' fit

pub unfit_lost : (lib : List Parts) (m : ℕ) → Unfit (lost_import lib m)
unfit_lost lib m = by_place (position (λ name. is_none (library_named lib name)) (module_of lib m).imports)
  where
    by_place : (o : Option ℕ) → Unfit (option_map (λ k. NoModule m (k + 1)) o)
    by_place (Some k) h e fit = absurd cc
    by_place None h e fit = absurd cc

pub unfit_if : (b : Bool) (kind : Health) → (kind ≡ Fit → ⊥) → Unfit (cond b (Some kind) None)
unfit_if true kind bad h e fit = let same : kind ≡ h = cc in bad (same ∙ fit)
unfit_if false kind bad h e fit = absurd cc

pub not_first : (o rest : Option Health) → Unfit o → unwrap_or (o then rest) Fit ≡ Fit → (o ≡ None) × (unwrap_or rest Fit ≡ Fit)
not_first (Some h) rest bad e = absurd (bad h refl e)
not_first None rest bad e = (refl, e)

pub not_last : (o : Option Health) → Unfit o → unwrap_or o Fit ≡ Fit → o ≡ None
not_last (Some h) bad e = absurd (bad h refl e)
not_last None bad e = refl

each_at : (P : ℕ → Type 0) (xs : List ℕ) (x : ℕ) → Each P xs → Contains xs x → P x
each_at P xs x h c = subst P c.2 (All-from_recursion P xs h c.0 x c.1)

pub if_none : (b : Bool) (kind : Health) → cond b (Some kind) None ≡ None → b ≡ false
if_none true kind e = absurd cc
if_none false kind e = refl

-- no reference of a fit module ends in a fault
record Sure (lib : List Parts) (m : ℕ) : Type 0 where
  no_entry : list_any (λ t. ends_in faults.NoEntry (target_spot lib m t)) (module_of lib m).refs ≡ false
  no_loop : list_any (λ t. ends_in faults.ForwardLoop (target_spot lib m t)) (module_of lib m).refs ≡ false
  no_gate : list_any (λ t. ends_in faults.Gate286 (target_spot lib m t)) (module_of lib m).refs ≡ false

fit_is_sure : (lib : List Parts) (m : ℕ) → HealthOf lib m ≡ Fit → Sure lib m
unfolding HealthOf
fit_is_sure lib m e =
    let members = Order lib m in
    let c = first (map (λ by. target_of_fault faults.NoEntry (NoEntry by) lib by) members) in
    let d = first (map (λ by. target_of_fault faults.ForwardLoop (ForwardLoop by) lib by) members) in
    let g = first (map (λ by. target_of_fault faults.Gate286 (Gate286 by) lib by) members) in
    let two = not_first (first (map (lost_import lib) members)) (c then d then g) (unfit_first (lost_import lib) (unfit_lost lib) members) e in
    let three = not_first c (d then g)
    (unfit_first (λ by. target_of_fault faults.NoEntry (NoEntry by) lib by) (λ by. unfit_if
    (list_any (λ t. ends_in faults.NoEntry (target_spot lib by t)) (module_of lib by).refs) (NoEntry by) (λ (x : NoEntry by ≡ Fit). absurd cc)) members) two.1 in
    let four = not_first d g
    (unfit_first (λ by. target_of_fault faults.ForwardLoop (ForwardLoop by) lib by) (λ by. unfit_if
    (list_any (λ t. ends_in faults.ForwardLoop (target_spot lib by t)) (module_of lib by).refs) (ForwardLoop by) (λ (x : ForwardLoop by ≡ Fit). absurd cc)) members) three.1 in
    let five = not_last g
    (unfit_first (λ by. target_of_fault faults.Gate286 (Gate286 by) lib by) (λ by. unfit_if
    (list_any (λ t. ends_in faults.Gate286 (target_spot lib by t)) (module_of lib by).refs) (Gate286 by) (λ (x : Gate286 by ≡ Fit). absurd cc)) members) four.1 in
    let here = reached_is_ordered lib m m itself in
    record {
      no_entry = if_none _ (NoEntry m) (each_at (λ by. target_of_fault faults.NoEntry (NoEntry by) lib by ≡ None) members m (each_first (λ by. target_of_fault faults.NoEntry (NoEntry by) lib by) members three.0) here);
      no_loop = if_none _ (ForwardLoop m) (each_at (λ by. target_of_fault faults.ForwardLoop (ForwardLoop by) lib by ≡ None) members m
          (each_first (λ by. target_of_fault faults.ForwardLoop (ForwardLoop by) lib by) members four.0) here);
      no_gate = if_none _ (Gate286 m) (each_at (λ by. target_of_fault faults.Gate286 (Gate286 by) lib by ≡ None) members m (each_first (λ by. target_of_fault faults.Gate286 (Gate286 by) lib by) members five) here);
    }

-- ---- spots

any_by : (p : FixTarget → Bool) (u t : FixTarget) (ts : List FixTarget) → (list_any p ts ≡ false → among t ts ≡ true → p t ≡ false) →
    (b : Bool) → same_target u t ≡ b → (p u || list_any p ts) ≡ false → (same_target u t || among t ts) ≡ true → p t ≡ false
any_by p u t ts again true is none h = subst (λ (x : FixTarget). p x ≡ false) (same_is u t is) (or_parts (p u) (list_any p ts) none).0
any_by p u t ts again false is none h = again (or_parts (p u) (list_any p ts) none).1 (rw is at h)

any_at : (p : FixTarget → Bool) (ts : List FixTarget) (t : FixTarget) → list_any p ts ≡ false → among t ts ≡ true → p t ≡ false
any_at p [] t none h = absurd cc
any_at p (u ∷ ts) t none h = any_by p u t ts (any_at p ts t) (same_target u t) refl none h

reference_spot : (lib : List Parts) (m : ℕ) (t : FixTarget) → Sure lib m → among t (module_of lib m).refs ≡ true → (s : Spot) × (target_spot lib m t ≡ Ok s)
reference_spot lib m t sure h =
    let refs = (module_of lib m).refs in
    spot_of (target_spot lib m t) (any_at (λ u. ends_in faults.NoEntry (target_spot lib m u)) refs t sure.no_entry h) (any_at (λ u. ends_in faults.ForwardLoop (target_spot lib m u)) refs t sure.no_loop h)
    (any_at (λ u. ends_in faults.Gate286 (target_spot lib m u)) refs t sure.no_gate h)

spot_by : (lib : List Parts) (m : ℕ) (t : FixTarget) → Sure lib m → (is_reference t ≡ true → among t (module_of lib m).refs ≡ true) → (s : Spot) × (target_spot lib m t ≡ Ok s)
spot_by lib m (Internal o x) sure listed = (record { «module» = m; object = o; offset = x }, refl)
spot_by lib m (Ordinal i x) sure listed = reference_spot lib m (Ordinal i x) sure (listed refl)
spot_by lib m (Named i x) sure listed = reference_spot lib m (Named i x) sure (listed refl)
spot_by lib m (Own x) sure listed = reference_spot lib m (Own x) sure (listed refl)

pub fit_has_spots : FitHasSpots
fit_has_spots lib m p library lt fit =
    let sure = fit_is_sure lib m fit in
    let own = library.read m no_module lt in
    All-from_recursion _ _ (each_more _ (HasSpot lib m) (sources_of (module_of lib m) p) (λ f listed. spot_by lib m f.target sure listed) (references_listed (module_of lib m) p own))

-- ---- iterated pages

abbrev PageGood : List ℕ → PageHead → Type 0
PageGood file page = page.kind ≡ Iterated → (given : List ℕ) × (expansion (span file page.at (page.at + page.len)) ≡ Ok given)

expands : (at : ℕ) (r : Result (List ℕ) LxRefusal) → fault_of (placed at r) ≡ None → (given : List ℕ) × (r ≡ Ok given)
expands at (Ok x) e = (x, refl)
expands at (Err f) e = absurd cc

if_there : (b : Bool) (o : Option LxRefusal) (e : LxRefusal) → cond b o (Some e) ≡ None → o ≡ None
if_there true o e h = h
if_there false o e h = absurd cc

kind_good : (file : List ℕ) (at : ℕ) (kind : PageKind) → data_fault file at (Some (page_data file at kind)) ≡ None → PageGood file (page_data file at kind)
kind_good file at Plain e is = absurd cc
kind_good file at Iterated e is =
    let page = page_data file at Iterated in
    let read = expansion (span file page.at (page.at + page.len)) in
    expands page.at read (if_there (leb (page.at + page.len) (length file)) (fault_of (placed page.at read)) (fault PageData at) e)
kind_good file at Invalid e is = absurd cc
kind_good file at Zero e is = absurd cc

page_good : (file : List ℕ) (at : ℕ) (kind : Option PageKind) → data_fault file at (page_of_kind file at kind) ≡ None → PageGood file (page_or_zero (page_of_kind file at kind))
page_good file at (Some kind) e = kind_good file at kind e
page_good file at None e = absurd cc

zero_good : (file : List ℕ) → PageGood file zero_page
zero_good file is = absurd cc

at_index : (file : List ℕ) (pages : List PageHead) (i : ℕ) → All (PageGood file) pages → PageGood file (get_or pages i zero_page)
at_index file pages i good = elim (cases_lt i (length pages)) [
  | inl lt ↦ good i zero_page lt
  | inr ge ↦ subst (PageGood file) (sym (get_or_past pages i zero_page ge)) (zero_good file)
]

at_page : (file : List ℕ) (pages : List PageHead) (i : ℕ) (there : Bool) → All (PageGood file) pages → PageGood file (cond there (get_or pages i zero_page) zero_page)
at_page file pages i true good = at_index file pages i good
at_page file pages i false good = zero_good file

pages_good : (m : Parts) → IsRead m → All (PageGood m.file) m.pages
unfolding page_heads parts_of pages_fault
pages_good m read =
    let file = m.file in
    let j = judged file read.means.faultless in
    let all = each_entry (PageGood file) (λ k. page_or_zero (page_entry file (page_place file k))) (page_count file)
    (λ k lt. page_good file (page_place file k) (page_kind (number_at 2 file (page_place file k + 6))) (page_is_whole file k (each_none (page_count file) (page_fault file) k j.pages lt))) in
    let same : page_heads file ≡ m.pages = sym (ap (λ (x : Parts). x.pages) read.means.parts) in
    subst (λ (pages : List PageHead). All (PageGood file) pages) same all

pub data_expands : DataExpands
data_expands m p read is = let o = object_of m p.object in at_page m.file m.pages (o.first - 1 + p.page) (ltb p.page o.count) (pages_good m read) is
