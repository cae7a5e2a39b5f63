-- What a module imports: it refers to the export of the module before it, by that export's ordinal, and to nothing else.
use Rattle.std.specs.Prelude.{◌≡◌, ℕ, ◌-◌, Bool, true, false, List, [], ◌∷◌, Some, bytes_eq, refl}
use Rattle.std.specs.List.{filter_map, cons_option}
use Rattle.std.proofs.Common.{ap, ◌∙◌, subst, inl, inr}
use Rattle.lx_types.specs.declared.entry.EntryKey.{EntryKey}
use Rattle.lx_types.specs.declared.entry.EntryKey.TheVariants as keys
use Rattle.obj_types.specs.declared.symbol.Imp.{Imp}
use Rattle.link_model.specs.Appearance.{firsts}
use Rattle.link_model.specs.Exports.{Export, Out}
use Rattle.link_model.specs.Fixups.{Fixup}
use Rattle.link_model.specs.Goals.{Target, Internal, Constant, Entry}
use Rattle.link_model.specs.ImportTables.{forwarded, link_pairs, pair_used, proc_name, procs_in, used_pairs}
use Rattle.link_model.specs.Link.{Link}
use Rattle.link_model.specs.Patches.{recorded}
use Rattle.link_model.specs.Symbols.{imports}
use Rattle.link_model.proofs.Members.{In, here, there, in_at, in_either}
use Rattle.image_model.proofs.TargetsThere.{from_filter_map}
use Rattle.gen_model.specs.Modules.{module_name, refers}
use Rattle.gen_laws.proofs.FirstShape.{gen_link, imports_if, its_exports, its_imports, names_of}

-- ---- its pairs

-- A pair that a module of this number knows: it refers to the export of the module before it.
pub record IsPair (k : ℕ) (pair : Imp) : Type 0 where
  pub refers : refers k ≡ true
  pub «module» : pair.module ≡ module_name (k - 1)
  pub entry : pair.entry ≡ keys.Ordinal 1

pair_by : (k : ℕ) (b : Bool) (pair : Imp) → refers k ≡ b → In pair (imports_if b (names_of k)) → IsPair k pair
pair_by k true pair is here = record { refers = is; «module» = refl; entry = refl }
pair_by k true pair is (there i) = elim i [ ]
pair_by k false pair is i = elim i [ ]

pub pair_is : (k : ℕ) (l : Link) (pair : Imp) → l ≡ gen_link k → In pair (imports l) → IsPair k pair
pair_is k l pair is i =
    pair_by k (refers k) pair refl (subst (λ (ps : List Imp). In pair ps) (ap imports is ∙ its_imports k) i)

used_is : (k : ℕ) (l : Link) (pair : Imp) → l ≡ gen_link k → In pair (used_pairs l) → IsPair k pair
unfolding used_pairs
used_is k l pair is i =
    let r = from_filter_map (λ (q : Fixup). pair_used l q.target) (recorded l) i in
    by r.item.target r.gives
  where
    by : (t : Target) → pair_used l t ≡ Some pair → IsPair k pair
    by (Internal o offset) e = cc
    by (Constant value) e = cc
    by (Entry slot) e = pair_is k l pair is (in_at (imports l) slot pair e)

none_forwarded : (k : ℕ) (l : Link) → l ≡ gen_link k → filter_map (λ (x : Export). forwarded x.target) (Out l) ≡ []
none_forwarded k l is = ap (filter_map (λ (x : Export). forwarded x.target)) (ap Out is ∙ its_exports k)

pub linked_is : (k : ℕ) (l : Link) (pair : Imp) → l ≡ gen_link k → In pair (link_pairs l) → IsPair k pair
unfolding link_pairs
linked_is k l pair is i =
    elim (in_either (used_pairs l) (filter_map (λ (x : Export). forwarded x.target) (Out l)) i) as (λ s. IsPair k pair) [
      | inl j ↦ used_is k l pair is j
      | inr j ↦ nowhere (subst (λ (ps : List Imp). In pair ps) (none_forwarded k l is) j)
    ]
  where
    nowhere : In pair [] → IsPair k pair
    nowhere j = elim j [ ]

-- ---- none of them has a name

none_named : (pairs : List Imp) → ((pair : Imp) → In pair pairs → pair.entry ≡ keys.Ordinal 1) → filter_map (λ (pair : Imp). proc_name pair.entry) pairs ≡ []
none_named [] each = refl
none_named (pair ∷ pairs) each =
    ap (λ (e : EntryKey). cons_option (proc_name e) (filter_map (λ (p : Imp). proc_name p.entry) pairs)) (each pair here)
    ∙ none_named pairs (λ p i. each p (there i))

pub no_procs : (k : ℕ) (l : Link) → l ≡ gen_link k → procs_in (link_pairs l) ≡ []
no_procs k l is = ap (firsts bytes_eq) (none_named (link_pairs l) (λ pair i. (linked_is k l pair is i).entry))
