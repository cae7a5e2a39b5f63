-- No page of a module that was built is invalid.
use Rattle.std.proofs.Common.{◌≡◌, ℕ, zero, suc, ◌+◌, ◌-◌, Bool, true, false, cond, List, [], ◌∷◌, length, map, refl, ◌∙◌, ap, slice_index_or}
use Rattle.std.specs.Prelude.{nat_lt}
use Rattle.std.specs.List.{AllByRecursion}
use Rattle.lx_types.specs.Object.{page_of, zero_page}
use Rattle.lx_types.specs.Parts.{object_of, page_at}
use Rattle.lx_types.specs.declared.object.ObjHead.{ObjHead}
use Rattle.lx_types.specs.declared.object.PageHead.{PageHead}
use Rattle.lx_types.specs.declared.object.PageId.{PageId}
use Rattle.lx_types.specs.declared.parts.Parts.{Parts}
use Rattle.lx_model.specs.Library.{module_of}
use Rattle.lx_model.specs.ModuleBytes as bytes
use Rattle.image_model.specs.Image.{Image, PageForm, plain, iterated, zeros}
use Rattle.image_model.specs.PageTables.{form_data, page_heads_from}
use Rattle.image_model.specs.ReadBack.{parts_of_image, placed_page}
use Rattle.image_model.specs.Sections.{data_at, sections}
use Rattle.load_model.specs.Modules.{Library, is_invalid}

abbrev IsThere : PageHead → Type 0
IsThere page = bytes.is_invalid page.kind ≡ false

all_there : (from at : ℕ) (forms : List PageForm) → AllByRecursion IsThere (map (placed_page from) (page_heads_from at forms))
all_there from at [] = tt
all_there from at (plain bytes ∷ forms) = (refl, all_there from (at + length (form_data (plain bytes))) forms)
all_there from at (iterated groups ∷ forms) = (refl, all_there from (at + length (form_data (iterated groups))) forms)
all_there from at (zeros ∷ forms) = (refl, all_there from (at + length (form_data zeros)) forms)

one_there : (pages : List PageHead) (k : ℕ) → AllByRecursion IsThere pages → IsThere (slice_index_or pages k zero_page)
one_there [] k all = refl
one_there (page ∷ pages) zero all = all.0
one_there (page ∷ pages) (suc k) all = one_there pages k all.1

either_there : (b : Bool) (page : PageHead) → IsThere page → IsThere (cond b page zero_page)
either_there true page is = is
either_there false page is = refl

of_object : (pages : List PageHead) (o : ObjHead) (i : ℕ) → AllByRecursion IsThere pages → IsThere (page_of pages o i)
of_object pages o i all = either_there (nat_lt i o.count) (slice_index_or pages (o.first - 1 + i) zero_page) (one_there pages (o.first - 1 + i) all)

of_image : (m : Image) (p : PageId) → IsThere (page_at (parts_of_image m) p)
unfolding parts_of_image
of_image m p = of_object (map (placed_page (data_at (sections m))) (page_heads_from 0 m.pages)) (object_of (parts_of_image m) p.object) p.page (all_there (data_at (sections m)) 0 m.pages)

pub pages_there : (lib : Library) (k : ℕ) (m : Image) → module_of lib k ≡ parts_of_image m → (p : PageId) → is_invalid lib k p ≡ false
unfolding is_invalid
pages_there lib k m is p = ap (λ (parts : Parts). bytes.is_invalid (page_at parts p).kind) is ∙ of_image m p
