use Rattle.std.proofs.Common.{◌≡◌, ◌∙◌, ◌∷◌, [], ap, sym, map, ℕ, List, Option}
use Rattle.std.proofs.Math.ListN.{get_or}
use Rattle.std.proofs.lemmas.List.{map-append, get_or_default}
use Rattle.link_model.specs.declared.keys.SegmentKey.{SegmentKey}
use Rattle.seg_parts.proofs.Lists.{added, passed}
use Rattle.seg_parts.specs.Members.{member_shown, listed_at}
use Rattle.seg_parts.proofs.members.add_listed.Goals as goal
use Rattle.seg_parts.proofs.members.add_listed.Goals.{in-Some+in_ok-push, in_default}

pub loop-index-preserved : goal.loop-index-preserved
loop-index-preserved c =
    let xs : List ℕ = c.as_slice-index-items.result.now in
    let i : ℕ = c.loop-index.index-index in
    let x : ℕ = get_or xs i 0 in
    let is : x ≡ get_or xs i x = get_or_default xs i 0 x c.loop-index-test.true in
    let h : ℕ → Option (List ℕ × SegmentKey) = listed_at c.args.module c.args.object.now c.args.group.now in
    elim c.match-member_at.branch [
      | in-Some+in_ok-push w ↦
          added h (map member_shown c.args.found.now.items) (map member_shown c.loop-index.found.items) (map member_shown c.match-member_at.found.items) xs i x (member_shown w.in-Some.member) c.loop-index-test.true is
          (sym w.in-Some.ensures) c.loop-index.invariant
          (ap (λ v. map member_shown v.items) w.found-is ∙ ap (map member_shown) w.in_ok-push.ensures.items ∙ map-append member_shown c.loop-index.found.items (w.in-Some.member ∷ []))
      | in_default w ↦
          ap (λ v. map member_shown v.items) w.found-is
          ∙ passed h (map member_shown c.args.found.now.items) (map member_shown c.loop-index.found.items) xs i x c.loop-index-test.true is (sym w.in_default.ensures) c.loop-index.invariant
    ]
