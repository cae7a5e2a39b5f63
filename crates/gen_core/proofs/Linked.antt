-- One module more is linked, after those before it.
use Rattle.std.specs.Prelude.{◌≡◌, ℕ, suc, ◌+◌, ◌^◌, ◌<◌, ◌≤◌, List, [], ◌∷◌, ◌++◌, length, sum_by, None, is_some, refl}
use Rattle.std.proofs.Common.{ap, sym, ◌∙◌, arith, subst, length-append, true≢false}
use Rattle.std.proofs.lemmas.List.Sums.{sum_by-append, sum_by-cons}
use Rattle.lx_types.specs.declared.parts.Parts.{Parts}
use Rattle.link_model.specs.declared.refusals.LinkRefusal.{LinkRefusal}
use Rattle.link_model.specs.Link.{Link, IsLinkOf}
use Rattle.link_model.specs.Refusal.{link_refusal}
use Rattle.link_core.specs.Links.{IsLinked, RefusesLink}
use Rattle.link_core.specs.declared.linking.Linked.{Linked}
use Rattle.lx_model.specs.Module.{Lx, parts_of}
use Rattle.image_model.specs.File.{file_of}
use Rattle.image_model.specs.Linked.{image_of, page_forms, page_fixes}
use Rattle.layer_laws.specs.LinkedFiles.{LinkedFilesMeanTheirLinks}
use Rattle.gen_model.specs.Modules.{gen_input}
use Rattle.gen_model.specs.Sums.{AreLinked, library_of}
use Rattle.gen_laws.specs.Laws.{InputsAreWhole, InputsLink}
use Rattle.gen_laws.proofs.FirstRanges.{input_ranged}
use Rattle.gen_core.specs.Linking.{HasLinked, pages_of, sources_of}
use Rattle.gen_core.specs.declared.linking.Linking.{Linking}

-- ---- the file of a link means a module

pub file_means : InputsAreWhole → LinkedFilesMeanTheirLinks → (k : ℕ) (linked : Linked) → 1 ≤ k → k ≤ 64 → IsLinked (gen_input k) linked → length linked.file < 2 ^ 32 → Lx linked.file (parts_of linked.file)
file_means whole mean k linked low high is short =
    (mean (gen_input k) linked.file (whole k (low, high)) (input_ranged k high) (record { link = is.link; of_input = is.of_input; accepted = is.accepted; file = is.file }) short).read

-- ---- no link is refused

pub not_refused : InputsLink → (k : ℕ) (refusal : LinkRefusal) → 1 ≤ k → k ≤ 64 → RefusesLink (gen_input k) refusal → ⊥
not_refused accepted k refusal low high refuses =
    true≢false (ap is_some (sym refuses.refused ∙ accepted k refuses.link (low, high) refuses.of_input))

-- ---- one link more

links_more : (k : ℕ) (links : List Link) (l : Link) → AreLinked k links → IsLinkOf (gen_input (k + length links)) l → link_refusal l ≡ None → AreLinked k (links ++ l ∷ [])
links_more k [] l linked of_input accepted =
    let number : k + 0 ≡ k = omega arith in (subst (λ (n : ℕ). IsLinkOf (gen_input n) l) number of_input, accepted, tt)
links_more k (m ∷ links) l linked of_input accepted =
    let number : k + suc (length links) ≡ suc k + length links = omega arith in
    (linked.0, linked.1, links_more (suc k) links l linked.2 (subst (λ (n : ℕ). IsLinkOf (gen_input n) l) number of_input) accepted)

library_more : (links : List Link) (l : Link) → library_of (links ++ l ∷ []) ≡ library_of links ++ parts_of (file_of (image_of l)) ∷ []
library_more [] l = refl
library_more (m ∷ links) l = ap (λ (ps : List Parts). parts_of (file_of (image_of m)) ∷ ps) (library_more links l)

sum_by-one : (f : Link → ℕ) (l : Link) → sum_by f (l ∷ []) ≡ f l
sum_by-one f l = sum_by-cons f l [] ∙ at (f l)
  where
    at : (n : ℕ) → n + 0 ≡ n
    at n = omega arith

pages_more : (links : List Link) (l : Link) → pages_of (links ++ l ∷ []) ≡ pages_of links + length (page_forms l)
pages_more links l = sum_by-append (λ (m : Link). length (page_forms m)) links (l ∷ []) ∙ ap (λ (n : ℕ). pages_of links + n) (sum_by-one (λ (m : Link). length (page_forms m)) l)

sources_more : (links : List Link) (l : Link) → sources_of (links ++ l ∷ []) ≡ sources_of links + sum_by length (page_fixes l)
sources_more links l = sum_by-append (λ (m : Link). sum_by length (page_fixes m)) links (l ∷ []) ∙ ap (λ (n : ℕ). sources_of links + n) (sum_by-one (λ (m : Link). sum_by length (page_fixes m)) l)

-- What was linked so far, with one module after it.
pub record IsMore (before now : Linking) (parts : Parts) (linked : Linked) : Type 0 where
  pub «modules» : now.«modules».items ≡ before.«modules».items ++ parts ∷ []
  pub is : parts ≡ parts_of linked.file
  pub pages : now.pages ≡ before.pages + linked.pages
  pub sources : now.sources ≡ before.sources + linked.sources
  pub few_pages : linked.pages < 2 ^ 32
  pub few_sources : linked.sources < 2 ^ 32

pub linked_more : (count : ℕ) (before now : Linking) (parts : Parts) (linked : Linked) → count < 64 → HasLinked count before → IsLinked (gen_input (count + 1)) linked → IsMore before now parts linked → HasLinked (count + 1) now
linked_more count before now parts linked few has is more =
    let links = has.links in
    let l = is.link in
    let number : count + 1 ≡ 1 + length links = (let each = has.each in omega (arith, each)) in
    let long = length-append links (l ∷ []) in
    record {
      links = links ++ l ∷ [];
      each = long ∙ ap (λ (n : ℕ). n + 1) has.each;
      first = record {
        linked = links_more 1 links l has.first.linked (subst (λ (n : ℕ). IsLinkOf (gen_input n) l) number is.of_input) is.accepted;
        few = (let each = has.each in omega (arith, long, each, few));
      };
      «modules» = more.modules ∙ ap (λ (ps : List Parts). ps ++ parts ∷ []) has.modules ∙ ap (λ (p : Parts). library_of links ++ p ∷ []) (more.is ∙ ap parts_of is.file) ∙ sym (library_more links l);
      pages = more.pages ∙ ap (λ (n : ℕ). n + linked.pages) has.pages ∙ ap (λ (n : ℕ). pages_of links + n) is.pages ∙ sym (pages_more links l);
      sources = more.sources ∙ ap (λ (n : ℕ). n + linked.sources) has.sources ∙ ap (λ (n : ℕ). sources_of links + n) is.sources ∙ sym (sources_more links l);
      few_pages = (let a = more.pages in let b = more.few_pages in let c = has.few_pages in omega (arith, a, b, c));
      few_sources = (let a = more.sources in let b = more.few_sources in let c = has.few_sources in omega (arith, a, b, c));
    }

pub none_linked : (linking : Linking) → linking.«modules».items ≡ [] → linking.pages ≡ 0 → linking.sources ≡ 0 → HasLinked 0 linking
none_linked linking nothing pages sources = record {
  links = [];
  each = refl;
  first = record { linked = tt; few = omega arith };
  «modules» = nothing;
  pages = pages;
  sources = sources;
  few_pages = omega (arith, pages);
  few_sources = omega (arith, sources);
}
