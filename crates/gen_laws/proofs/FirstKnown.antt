-- What is known of each of the first modules: its link, and that a library of them holds what its file means.
use Rattle.std.specs.Prelude.{◌≡◌, ℕ, zero, suc, ◌+◌, ◌<◌, ◌≤◌, List, [], ◌∷◌, Some, None, length, slice_get, refl}
use Rattle.std.specs.List.{All, AllByRecursion}
use Rattle.std.proofs.Common.{ap, ◌∙◌, arith, subst}
use Rattle.std.proofs.lemmas.List.Elements.{All-from_recursion}
use Rattle.lx_types.specs.declared.parts.Parts.{Parts}
use Rattle.link_model.specs.Link.{Link, IsLinkOf}
use Rattle.link_model.specs.Refusal.{link_refusal}
use Rattle.lx_model.specs.Module.{parts_of, IsRead}
use Rattle.image_model.specs.File.{file_of}
use Rattle.image_model.specs.Linked.{image_of}
use Rattle.image_model.proofs.PartsRead.{parts_read}
use Rattle.layer_laws.specs.LinkedImages.{Links}
use Rattle.layer_laws.specs.LoadedBytes.{Holds}
use Rattle.layer_laws.proofs.Given.{given}
use Rattle.layer_laws.proofs.ImagesFit.{images_fit, linked_read}
use Rattle.layer_laws.proofs.LoadedPages.{Loaded}
use Rattle.gen_model.specs.Modules.{gen_input}
use Rattle.gen_model.specs.Sums.{AreLinked, library_of}
use Rattle.gen_laws.specs.Laws.{AreFirst, InputsAreWhole, IsShort}
use Rattle.gen_laws.proofs.FirstRanges.{input_ranged}
use Rattle.gen_laws.proofs.FirstShape.{gen_link, link_is}
use Rattle.gen_laws.proofs.ShortFiles.{files_short}

-- ---- one link

pub record Known (k : ℕ) (l : Link) : Type 0 where
  pub links : Links (gen_input k) l
  pub short : IsShort l
  pub is : l ≡ gen_link k

-- The link at a place, with its number.
pub record At (links : List Link) (i k : ℕ) : Type 0 where
  pub link : Link
  pub is : slice_get links i ≡ Some link
  pub known : Known k link

known_from : (whole : InputsAreWhole) (k : ℕ) (l : Link) → 1 ≤ k → k ≤ 64 → IsLinkOf (gen_input k) l → link_refusal l ≡ None → Known k l
known_from whole k l low high of_input accepted = record {
  links = record { whole = whole k (low, high); range = input_ranged k high; of_input = of_input; accepted = accepted };
  short = files_short whole k l (low, high) of_input;
  is = link_is k l of_input;
}

at_from : (whole : InputsAreWhole) (k : ℕ) (links : List Link) (i : ℕ) → 1 ≤ k → k + length links ≤ 65 → AreLinked k links → i < length links → At links i (k + i)
at_from whole k [] i low high linked lt = absurd (omega (arith, lt))
at_from whole k (l ∷ links) zero low high linked lt =
    let number : k ≡ k + 0 = omega arith in
    record { link = l; is = refl; known = subst (λ (n : ℕ). Known n l) number (known_from whole k l low (omega (arith, high)) linked.0 linked.1) }
at_from whole k (l ∷ links) (suc i) low high linked lt =
    let r = at_from whole (suc k) links i (omega arith) (omega (arith, high)) linked.2 (omega (arith, lt)) in
    let number : suc k + i ≡ k + suc i = omega arith in
    record { link = r.link; is = r.is; known = subst (λ (n : ℕ). Known n r.link) number r.known }

pub at : (whole : InputsAreWhole) (links : List Link) (i : ℕ) → AreFirst links → i < length links → At links i (1 + i)
at whole links i first lt = at_from whole 1 links i (omega arith) (let few = first.few in omega (arith, few)) first.linked lt

-- ---- in a library

pub library_long : (links : List Link) → length (library_of links) ≡ length links
library_long [] = refl
library_long (l ∷ links) = ap suc (library_long links)

pub library_holds : (links : List Link) (i : ℕ) (l : Link) → slice_get links i ≡ Some l → Holds (library_of links) i l
library_holds [] i l e = cc
library_holds (x ∷ links) zero l e = let same : x ≡ l = cc in ap (λ (y : Link). parts_of (file_of (image_of y))) same
library_holds (x ∷ links) (suc i) l e = library_holds links i l e

pub is_loaded : (k : ℕ) (l : Link) (lib : List Parts) (m : ℕ) → Known k l → Holds lib m l → Loaded l lib m
is_loaded k l lib m known holds =
    let fits = images_fit (gen_input k) l known.links known.short in
    record { known = given (gen_input k) l known.links; fits = fits; is = holds ∙ parts_read (image_of l) fits }

-- ---- each was read

is_read : (k : ℕ) (l : Link) → Known k l → IsRead (parts_of (file_of (image_of l)))
unfolding parts_of
is_read k l known =
    let again = linked_read (gen_input k) l known.links known.short in
    record { short = known.short; means = record { faultless = again.means.faultless; parts = refl } }

read_from : (whole : InputsAreWhole) (k : ℕ) (links : List Link) → 1 ≤ k → k + length links ≤ 65 → AreLinked k links → AllByRecursion IsRead (library_of links)
read_from whole k [] low high linked = tt
read_from whole k (l ∷ links) low high linked =
    (is_read k l (known_from whole k l low (omega (arith, high)) linked.0 linked.1), read_from whole (suc k) links (omega arith) (omega (arith, high)) linked.2)

pub all_read : (whole : InputsAreWhole) (links : List Link) → AreFirst links → All IsRead (library_of links)
all_read whole links first =
    All-from_recursion IsRead (library_of links) (read_from whole 1 links (omega arith) (let few = first.few in omega (arith, few)) first.linked)
