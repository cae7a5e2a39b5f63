-- Where locations end tells that none of them is touched.
use Rattle.std.proofs.Common.{◌≡◌, ℕ, ◌+◌, ◌≤◌, true, false, List, ◌++◌, sym, ap, ◌∙◌, arith, inl, inr, true≢false, length-append}
use Rattle.std.specs.Prelude.{take, length, ◌&&◌, ◌==◌, nat_lt}
use Rattle.std.specs.List.{list_any}
use Rattle.std.proofs.lemmas.Bool.{and_from}
use Rattle.std.proofs.lemmas.List.{take-append-le}
use Rattle.std.proofs.Math.Seq.{take-length}
use Rattle.obj_types.specs.declared.object.FixAt.{FixAt}
use Rattle.obj_types.specs.Location.{end_of}
use Rattle.omf_model.specs.Fixups.{touches}
use Rattle.omf_model.proofs.DataLaws.{bool_cases}
use Rattle.omf_model.proofs.FixLaws.{and_true}
use Rattle.omf_data.specs.declared.ends.FixEnds.{FixEnds}
use Rattle.omf_data.specs.Ends.{HaveEnds, end_in, ends_after}
use Rattle.omf_data.proofs.Touched.{found}

-- more after them
pub ends-more : (e : FixEnds) (xs ys : List FixAt) → HaveEnds e xs → HaveEnds e (xs ++ ys)
ends-more e xs ys have = record {
  seen = omega (arith, have.seen, length-append xs ys);
  ends = λ seg start past. ap (list_any (ends_after seg start)) (take-append-le e.seen xs ys have.seen) ∙ have.ends seg start past;
}

-- past all locations of a segment none is touched
pub none-touched : (e : FixEnds) (fixes : List FixAt) (seg start len : ℕ) → HaveEnds e fixes → e.seen ≡ length fixes → end_in e seg ≤ start → list_any (touches seg start len) fixes ≡ false
none-touched e fixes seg start len have all past =
    elim (bool_cases (list_any (touches seg start len) fixes)) [
      | inl on ↦
          let w = found (touches seg start len) fixes on in
          let outer = and_true (w.0.seg == seg && nat_lt 0 len && nat_lt w.0.offset (start + len)) (nat_lt start (end_of w.0)) w.1 in
          let own : (w.0.seg == seg) ≡ true = (and_true (w.0.seg == seg) (nat_lt 0 len) (and_true (w.0.seg == seg && nat_lt 0 len) (nat_lt w.0.offset (start + len)) outer.0).0).0 in
          let after = w.2 (ends_after seg start) (and_from (w.0.seg == seg) (nat_lt start (end_of w.0)) own outer.1) in
          absurd (true≢false (sym after ∙ sym none))
      | inr off ↦ off
    ]
  where
    none : false ≡ list_any (ends_after seg start) fixes
    none = sym (have.ends seg start past) ∙ ap (λ (i : ℕ). list_any (ends_after seg start) (take i fixes)) all ∙ ap (list_any (ends_after seg start)) (take-length fixes)
