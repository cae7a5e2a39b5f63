use Rattle.std.proofs.Common.{◌≡◌, ◌∙◌, ◌++◌, ap, map, not, cond, true, Bool, List, ℕ}
use Rattle.std.specs.List.{enumerate_from, list_any}
use Rattle.obj_types.specs.declared.symbol.Common.{Common}
use Rattle.link_model.specs.Link.{Link}
use Rattle.link_model.specs.Communals.{parts, near_wide, far_wide}
use Rattle.link_model.specs.Groups.{has_near, is_near_bss}
use Rattle.link_model.specs.Parts.{Part, contributions}
use Rattle.link_types.specs.Links.{link_with}
use Rattle.seg_parts.specs.declared.logical_segments.SegmentName.{SegmentName}
use Rattle.seg_parts.specs.Communals.{communal_of, followed, far_followed}
use Rattle.seg_parts.specs.Parts.{shown}
use Rattle.seg_parts.proofs.GroupMembers.{communals_of_members}
use Rattle.seg_parts.proofs.all_parts.parts_of.Goals as goal

pub returns : goal.returns
unfolding parts
returns c =
    let l : Link = link_with c.args.input.now c.args.modules.now in
    let keys : List SegmentName = c.in_ok-dgroup.dgroup.keys in
    let follows = communals_of_members l keys c.in_ok-dgroup.ensures in
    let found : map shown c.as_slice.result.now ≡ contributions l = ap (map shown) c.as_slice.ensures.value ∙ c.in_ok-found.ensures in
    let is_near : c.has_near-near.result ≡ has_near l = c.has_near-near.ensures ∙ ap (list_any (λ q. not q.1.far)) c.requires.commons in
    let near : c.widths_of-widths.result.near ≡ near_wide l =
    c.widths_of-widths.ensures.near ∙ ap (λ (ps : List Part). followed keys is_near_bss ps true) found ∙ follows.near in
    let far : c.widths_of-widths.result.far ≡ far_wide l =
    c.widths_of-widths.ensures.far
    ∙ ap (λ (ps : List Part). far_followed keys ps (cond c.has_near-near.result c.widths_of-widths.result.near true)) found
    ∙ ap (λ (b : Bool). far_followed keys (contributions l) (cond b c.widths_of-widths.result.near true)) is_near
    ∙ ap (λ (b : Bool). far_followed keys (contributions l) (cond (has_near l) b true)) near
    ∙ follows.far in
    let of : Bool → Bool → List (List ℕ × Common) → List Part = λ wide far cs. map (λ q. communal_of wide far q.0 q.1.1) (enumerate_from 0 cs) in
    c.in_ok-add_communals.ensures
    ∙ ap (λ (ps : List Part). ps ++ of c.widths_of-widths.result.near c.widths_of-widths.result.far c.args.commons.now) c.in_ok-found.ensures
    ∙ ap (λ (b : Bool). contributions l ++ of b c.widths_of-widths.result.far c.args.commons.now) near
    ∙ ap (λ (b : Bool). contributions l ++ of (near_wide l) b c.args.commons.now) far
    ∙ ap (λ (cs : List (List ℕ × Common)). contributions l ++ of (near_wide l) (far_wide l) cs) c.requires.commons
