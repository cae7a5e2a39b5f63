use Rattle.std.proofs.Common.{◌≡◌, ◌-◌, ◌<◌, true, false, List, length, get_or, set, sym, ap, ◌∙◌, arith}
use Rattle.std.specs.Prelude.{bytes_eq, codes}
use Rattle.std.proofs.lemmas.List.{get_or_default}
use Rattle.obj_types.specs.declared.object.Group.{Group}
use Rattle.omf_comdat.proofs.Members.{more_of, members-none, members-flat, members-set}
use Rattle.omf_comdat.proofs.finish.add_member.Goals.{then-group-eq0-via-then-group-eq0, then-group-eq0-via-else-group-eq0+then-len-group}
use Rattle.omf_comdat.proofs.finish.add_member.Goals as goal

pub returns-then-group-eq0 : goal.returns-then-group-eq0
returns-then-group-eq0 c =
    c.from_vec.ensures ∙ c.into_vec-all.ensures ∙ members-none c.args.group c.args.seg 1 c.args.groups λ k low high same.
    elim c.then-group-eq0.branch [
      | then-group-eq0-via-then-group-eq0 w ↦ omega (arith, w.if-group-eq0.true, same, low)
      | then-group-eq0-via-else-group-eq0+then-len-group w ↦
          omega (arith, w.if-len-group.true, w.len.ensures, c.into_vec-all.result.ok.0, ap (λ (gs : List Group). length gs) c.into_vec-all.ensures, same, high)
    ]

pub returns-then-eq : goal.returns-then-eq
returns-then-eq c =
    let long = ap (λ (gs : List Group). length gs) c.into_vec-all.ensures in
    let item : c.index.result.now ≡ get_or c.args.groups (c.args.group - 1) c.index.result.now = c.index.ensures ∙ ap (λ (gs : List Group). get_or gs (c.args.group - 1) c.index.result.now) c.into_vec-all.ensures in
    let flat : bytes_eq (get_or c.args.groups (c.args.group - 1) c.index.result.now).name (codes "FLAT") ≡ true =
    ap (λ (g : Group). bytes_eq g.name (codes "FLAT")) (sym item) ∙ sym (c.if-eq.ensures ∙ (λ i. bytes_eq (c.bytes.ensures.same i) (c.as_slice.ensures i))) in
    c.from_vec-then-eq.ensures ∙ c.into_vec-all.ensures
    ∙ members-flat c.args.group c.args.seg (c.args.group - 1) 1 c.args.groups c.index.result.now (omega (arith, c.if-group-eq0.false)) (omega (arith, c.if-group-eq0.false, c.if-len-group.false, c.len.ensures, c.into_vec-all.result.ok.0, long)) flat

pub returns : goal.returns
returns c =
    let g : Group = c.index_mut.result.now in
    let long = ap (λ (gs : List Group). length gs) c.into_vec-all.ensures in
    let item : g ≡ get_or c.args.groups (c.args.group - 1) g = c.index_mut.ensures.value ∙ ap (λ (gs : List Group). get_or gs (c.args.group - 1) g) c.into_vec-all.ensures in
    let lt : c.args.group - 1 < length c.args.groups = omega (arith, c.if-group-eq0.false, c.if-len-group.false, c.len.ensures, c.into_vec-all.result.ok.0, long) in
    let seen : c.index.result.now ≡ get_or c.args.groups (c.args.group - 1) c.index.result.now = c.index.ensures ∙ ap (λ (gs : List Group). get_or gs (c.args.group - 1) c.index.result.now) c.into_vec-all.ensures in
    let same : c.index.result.now ≡ get_or c.args.groups (c.args.group - 1) g = seen ∙ get_or_default c.args.groups (c.args.group - 1) c.index.result.now g lt in
    let named : bytes_eq (get_or c.args.groups (c.args.group - 1) g).name (codes "FLAT") ≡ false =
    ap (λ (x : Group). bytes_eq x.name (codes "FLAT")) (sym same) ∙ sym (c.if-eq.ensures ∙ (λ i. bytes_eq (c.bytes.ensures.same i) (c.as_slice.ensures i))) in
    let more : (let x : Group = record { name = g.name; members = c.push.new.self } in x) ≡ more_of (get_or c.args.groups (c.args.group - 1) g) c.args.seg =
    (λ i. record { name = g.name; members = c.in_ok-push.ensures i }) ∙ ap (λ (x : Group). more_of x c.args.seg) item in
    c.from_vec-2.ensures
    ∙ (λ i. set (c.into_vec-all.ensures i) (c.args.group - 1) (more i))
    ∙ members-set c.args.group c.args.seg (c.args.group - 1) 1 c.args.groups g (omega (arith, c.if-group-eq0.false)) lt named
