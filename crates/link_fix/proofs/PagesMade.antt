-- The pages of a link are made.
use Rattle.std.specs.Prelude.{◌≡◌, ℕ, List, map, filter, not}
use Rattle.std.specs.List.{range_with_len, enumerate_from, All}
use Rattle.std.proofs.Common.{ap, sym, ◌∙◌, subst}
use Rattle.lx_types.specs.declared.fix.Fix.{Fix}
use Rattle.obj_types.specs.declared.symbol.Imp.{Imp}
use Rattle.link_model.specs.declared.symbols.LaidObject.{LaidObject}
use Rattle.link_model.specs.Link.{Link}
use Rattle.link_model.specs.Symbols as symbols
use Rattle.link_model.specs.Fixups as rules
use Rattle.link_model.specs.Mean as mean
use Rattle.link_model.specs.Patches.{is_patched, recorded}
use Rattle.link_model.specs.ImportTables.{used_pairs, modules_in, procs_in}
use Rattle.link_model.specs.Records.{page_count}
use Rattle.link_fix.specs.declared.fixup.Fixup.{Fixup}
use Rattle.link_fix.specs.declared.painting.PlacedPiece.{PlacedPiece}
use Rattle.link_fix.specs.declared.paging.PageFixes.{PageFixes}
use Rattle.link_fix.specs.declared.tables.ImportTables.{ImportTables}
use Rattle.link_fix.specs.Bare.{bare}
use Rattle.link_fix.specs.Shown.{shown, piece_shown}
use Rattle.link_fix.specs.Values.{IsAccepted}
use Rattle.link_fix.specs.Tables.{ArePairs, pairs_among}
use Rattle.link_fix.specs.Paging.{records_among, recorded_in, fixes_of}
use Rattle.link_fix.specs.Placed.{AreOfLink, ArePages, bytes_with}
use Rattle.link_fix.proofs.LinkPages.{Accepts, accepts, all-unmapped, live-accepted, bytes-are, pairs-are, records-are, recorded-are}
use Rattle.link_fix.proofs.PairTables.{pairs-recorded}
use Rattle.link_fix.proofs.BareFixups.{BareAccepts, live-bare, recorded-bare, recorded-selectors, bytes-bare, pairs-bare, records-bare}

pub pages-are :
    (l : Link) (pieces : List PlacedPiece) (fixups : List Fixup) (objects : List LaidObject) (imports : List Imp) (live : List Fixup) (tables : ImportTables) (pages : PageFixes) (fixes : List (List (List Fix))) (bytes names procs : List (List ℕ))
    → AreOfLink l pieces fixups objects imports → All IsAccepted fixups → map shown live ≡ mean.live (map shown fixups)
    → ArePairs tables (pairs_among imports (map shown live))
    → ((pairs : List Imp) → ArePairs tables pairs → (n : ℕ) (k : ℕ) → fixes_of pages n k ≡ records_among imports pairs (recorded_in (map shown live)) n k)
    → fixes ≡ map (λ q. map (fixes_of pages q.0) (range_with_len 0 (page_count q.1.size))) (enumerate_from 1 objects)
    → ((k : Link) → bytes ≡ bytes_with k (map shown live) (map piece_shown pieces) objects)
    → ((pairs : List Imp) → ArePairs tables pairs → (names ≡ modules_in pairs) × (procs ≡ procs_in pairs))
    → ArePages l (record { bytes = bytes; fixes = fixes; imports = names; procs = procs })
pages-are l pieces fixups objects imports live tables pages fixes bytes names procs of accepted is_live are_all paged listed painted named =
    let lives : map shown live ≡ map bare (mean.live (rules.fixups l)) = is_live ∙ ap mean.live of.all_fixups ∙ live-bare (rules.fixups l) in
    let recs : List rules.Fixup = recorded_in (map shown live) in
    let recorded_is : recs ≡ map bare (recorded l) = ap (filter (λ q. not (is_patched q))) lives ∙ recorded-bare (mean.live (rules.fixups l)) ∙ ap (map bare) (sym (recorded-are l)) in
    let all : All BareAccepts (mean.live (rules.fixups l)) =
    all-unmapped bare Accepts (mean.live (rules.fixups l))
    (subst (λ (qs : List rules.Fixup). All Accepts qs) lives (accepts live (live-accepted fixups live accepted is_live))) in
    let pairs : List Imp = pairs_among imports recs in
    let are_pairs : ArePairs tables pairs = subst (λ (ps : List Imp). ArePairs tables ps) (sym (pairs-recorded imports (map shown live))) are_all in
    let paired : pairs_among (symbols.imports l) (map bare (recorded l)) ≡ pairs_among (symbols.imports l) (recorded l) = pairs-bare (symbols.imports l) (recorded l) in
    let same : pairs ≡ used_pairs l = ap (λ (xs : List Imp). pairs_among xs recs) of.all_imports ∙ ap (pairs_among (symbols.imports l)) recorded_is ∙ paired ∙ sym (pairs-are l) in
    record {
      bytes = painted l
          ∙ ap (λ (qs : List rules.Fixup). bytes_with l qs (map piece_shown pieces) objects) lives
          ∙ bytes-bare l (mean.live (rules.fixups l)) (map piece_shown pieces) objects all
          ∙ ap (λ (ps : List mean.PlacedPiece). bytes_with l (mean.live (rules.fixups l)) ps objects) of.all_pieces
          ∙ ap (λ (os : List LaidObject). bytes_with l (mean.live (rules.fixups l)) (mean.pieces l) os) of.all_objects
          ∙ bytes-are l;
      fixes = records-are l pages fixes
          (λ n k. paged pairs are_pairs n k
          ∙ ap (λ (xs : List Imp). records_among xs (pairs_among xs recs) recs n k) of.all_imports
          ∙ ap (λ (rs : List rules.Fixup). records_among (symbols.imports l) (pairs_among (symbols.imports l) rs) rs n k) recorded_is
          ∙ ap (λ (ps : List Imp). records_among (symbols.imports l) ps (map bare (recorded l)) n k) paired
          ∙ records-bare (symbols.imports l) (pairs_among (symbols.imports l) (recorded l)) (recorded l) n k (recorded-selectors l))
          (listed ∙ ap (λ (os : List LaidObject). map (λ q. map (fixes_of pages q.0) (range_with_len 0 (page_count q.1.size))) (enumerate_from 1 os)) of.all_objects);
      imports = (named pairs are_pairs).0 ∙ ap modules_in same;
      procs = (named pairs are_pairs).1 ∙ ap procs_in same;
    }
