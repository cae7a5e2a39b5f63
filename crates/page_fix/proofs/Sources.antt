-- The sources that are left of a page's records are those of the page.
use Rattle.std.proofs.Common.{◌<◌, subst, ◌≡◌, ℕ, List, [], ◌∷◌, map, length, refl, sym, ◌∙◌, ap, arith}
use Rattle.std.specs.Prelude.{slice_index}
use Rattle.std.proofs.lemmas.List.{length-map}
use Rattle.std.proofs.lemmas.List.FromFn.{get_or-map-range_with_len, length-map-range_with_len}
use Rattle.std.proofs.lemmas.Grind.{same_number_lists}
use Rattle.lx_model.specs.ModuleBytes.{fixed_page}
use Rattle.lx_types.specs.declared.bases.Bases.{Bases}
use Rattle.lx_types.specs.declared.object.PageId.{PageId}
use Rattle.lx_types.specs.declared.parts.Parts.{Parts}
use Rattle.lx_types.specs.Parts.{fix_span_at, fixes_at}
use Rattle.lx_model.specs.Library.{module_of}
use Rattle.lx_model.specs.Fixed.{Patch, patch_of, sources_of, records_of_page, Raw, Fixed}
use Rattle.lx_fixrec.specs.Left.{Left, Placed, left_in}
use Rattle.lx_fixrec.proofs.PageRead.{of_all}
use Rattle.page_fix.specs.Laid.{laid, patches_left}

through : {A B C : Type 0} (f : A → B) (g : B → C) (xs : List A) → map (λ x. g (f x)) xs ≡ map g (map f xs)
through f g [] = refl
through {A} {B} {C} f g (x ∷ xs) = ap (λ (ys : List C). g (f x) ∷ ys) (through f g xs)

abbrev pub left_of_page : Parts → PageId → Left
left_of_page owner p = left_in (fix_span_at owner p).0 (fixes_at owner p)

fixes_left : (owner : Parts) (p : PageId) → map (λ (s : Placed). s.1) (left_of_page owner p).items ≡ sources_of owner p
unfolding sources_of
fixes_left owner p = of_all (records_of_page owner p).items

pub as_many : (owner : Parts) (p : PageId) → length (left_of_page owner p).items ≡ length (sources_of owner p)
as_many owner p = sym (length-map (left_of_page owner p).items (λ (s : Placed). s.1)) ∙ ap length (fixes_left owner p)

pub fixed_is : (lib : List Parts) (m : ℕ) (bases : Bases) (p : PageId) (i : ℕ) →
    laid (patches_left lib m bases p (left_of_page (module_of lib m) p)) i (Raw (module_of lib m) p i) ≡ Fixed lib m bases p i
unfolding Fixed
fixed_is lib m bases p i =
    ap (λ (qs : List Patch). laid qs i (Raw (module_of lib m) p i))
    (through (λ (s : Placed). s.1) (patch_of lib m bases p) (left_of_page (module_of lib m) p).items ∙ ap (map (patch_of lib m bases p)) (fixes_left (module_of lib m) p))

pub page_is : (lib : List Parts) (m : ℕ) (bases : Bases) (p : PageId) (page : List ℕ) → length page ≡ 4096 →
    ((i : ℕ) → i < 4096 → slice_index page i ≡ Fixed lib m bases p i) → page ≡ fixed_page lib m bases p
page_is lib m bases p page long same = same_number_lists page (fixed_page lib m bases p)
    (long ∙ sym (length-map-range_with_len (Fixed lib m bases p) 0 4096))
    (λ k below. same k (subst (λ (n : ℕ). k < n) long below) ∙ sym (get_or-map-range_with_len (Fixed lib m bases p) 0 4096 k k 0 (subst (λ (n : ℕ). k < n) long below) (omega arith)))
