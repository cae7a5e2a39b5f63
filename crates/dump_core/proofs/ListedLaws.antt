-- A page as it is listed, from what its module has for it.
use Rattle.std.proofs.Common.{◌≡◌, ℕ, List, [], ◌∷◌, ◌++◌, map, refl, ap, ◌∙◌}
use Rattle.std.specs.List.{flat_map}
use Rattle.lx_types.specs.declared.fix.Fix.{Fix}
use Rattle.lx_types.specs.declared.object.PageHead.{PageHead}
use Rattle.lx_types.specs.declared.object.PageId.{PageId}
use Rattle.lx_types.specs.declared.parts.Parts.{Parts}
use Rattle.lx_types.specs.Parts.{span, page_at, fix_span_at}
use Rattle.lx_model.specs.Records.{Record, records_at, fixes_of}
use Rattle.lx_model.specs.Fixed.{sources_of}
use Rattle.lx_fixrec.specs.Left as left
use Rattle.lx_fixrec.specs.Left.{left_in, Placed}
use Rattle.dump_model.specs.declared.listing.ListedPage.{ListedPage}
use Rattle.dump_model.specs.Listings.{listed_page}
use Rattle.dump_core.specs.Entries.{fixes_left}

placed-fixes : (at : ℕ) (fs : List Fix) (rest : List Placed) → map (λ (s : Placed). s.1) (map (λ f. (at, f)) fs ++ rest) ≡ fs ++ map (λ (s : Placed). s.1) rest
placed-fixes at [] rest = refl
placed-fixes at (f ∷ fs) rest = ap (λ others. f ∷ others) (placed-fixes at fs rest)

records-fixes : (rs : List Record) → map (λ (s : Placed). s.1) (flat_map left.sources_of rs) ≡ flat_map (λ (r : Record). r.fixes) rs
records-fixes [] = refl
records-fixes (r ∷ rs) = placed-fixes r.at r.fixes (flat_map left.sources_of rs) ∙ ap (λ others. r.fixes ++ others) (records-fixes rs)

-- the fixups that a reader gives of some records
left-fixes : (at : ℕ) (bytes : List ℕ) → fixes_left (left_in at bytes) ≡ fixes_of (records_at at bytes)
left-fixes at bytes = records-fixes (records_at at bytes).items

pub page-listed : (m : Parts) (p : PageId) (head : PageHead) (s : ℕ × ℕ) (fixes : List Fix) → head ≡ page_at m p → s ≡ fix_span_at m p
    → fixes ≡ fixes_left (left_in s.0 (span m.file s.0 s.1))
    → record { kind = head.kind; at = head.at; len = head.len; fixes = fixes } ≡ listed_page m p
unfolding sources_of
page-listed m p head s fixes head-is span-is fixes-are =
    let all : fixes ≡ sources_of m p =
    fixes-are ∙ left-fixes s.0 (span m.file s.0 s.1) ∙ ap (λ (t : ℕ × ℕ). fixes_of (records_at t.0 (span m.file t.0 t.1))) span-is in
    let with : PageHead → List Fix → ListedPage = λ h fs. record { kind = h.kind; at = h.at; len = h.len; fixes = fs } in
    ap (λ h. with h fixes) head-is ∙ ap (λ fs. with (page_at m p) fs) all
