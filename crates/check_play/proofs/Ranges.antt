-- Tests of all numbers from one up to before another; and modules that a library has not.
use Rattle.std.proofs.Common.{◌≡◌, ℕ, suc, ◌+◌, ◌-◌, ◌<◌, ◌≤◌, ◌&&◌, ◌||◌, not, Bool, true, false, List, [], ◌∷◌, length, refl, ap, ◌∙◌, arith}
use Rattle.std.specs.Prelude.{nat_lt, nat_le}
use Rattle.std.specs.List.{list_all, range_with_len}
use Rattle.std.proofs.lemmas.Bool.Decides.{nat_tests}
use Rattle.std.proofs.lemmas.List.{get_or_past}
use Rattle.lx_types.specs.Object.{class_of, pages_of}
use Rattle.lx_types.specs.Parts.{object_of, page_at}
use Rattle.lx_types.specs.declared.object.PageId.{PageId}
use Rattle.lx_types.specs.declared.parts.Parts.{Parts}
use Rattle.lx_model.specs.Library.{no_module, module_of}
use Rattle.lx_model.specs.ModuleBytes.{is_invalid}
use Rattle.page_fix.specs.Fixable.{has_shared_pages, is_fixable}

one_first : (a end : ℕ) → a < end → range_with_len a (end - a) ≡ a ∷ range_with_len (a + 1) (end - (a + 1))
one_first a end u = let it : end - a ≡ suc (end - (a + 1)) = omega arith in ap (range_with_len a) it

pub none_left : (a end : ℕ) → end ≤ a → range_with_len a (end - a) ≡ []
none_left a end u = let it : end - a ≡ 0 = omega arith in ap (range_with_len a) it

-- the first is tried, and the others come after it
pub all_first : (p : ℕ → Bool) (a end : ℕ) (b : Bool) → a < end → p a ≡ b → list_all p (range_with_len a (end - a)) ≡ b && list_all p (range_with_len (a + 1) (end - (a + 1)))
all_first p a end b u is = ap (list_all p) (one_first a end u) ∙ ap (λ c. c && list_all p (range_with_len (a + 1) (end - (a + 1)))) is

pub all_own : (own : Bool) (f : ℕ → Bool) (ns : List ℕ) → own ≡ true → list_all (λ n. own || f n) ns ≡ true
all_own own f [] e = refl
all_own own f (n ∷ ns) e = ap (λ b. (b || f n) && list_all (λ k. own || f k) ns) e ∙ all_own own f ns e

none_between : (n : ℕ) → nat_lt 0 n && nat_le n 0 ≡ false
none_between n = grind (arith, nat_tests)

no_page : (p : PageId) → is_fixable no_module p ≡ false
unfolding is_fixable
no_page p =
    ap
    (λ b. ((b && nat_lt p.page (pages_of (object_of no_module p.object))) && has_shared_pages (class_of (object_of no_module p.object)))
    && not (is_invalid (page_at no_module p).kind))
    (none_between p.object)

-- a module that a library has not has no page
pub beyond : (lib : List Parts) (m : ℕ) (p : PageId) → length lib ≤ m → is_fixable (module_of lib m) p ≡ false
beyond lib m p past = ap (λ (x : Parts). is_fixable x p) (get_or_past lib m no_module past) ∙ no_page p
