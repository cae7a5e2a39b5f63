use Rattle.std.proofs.Common.{◌≡◌, ◌+◌, ◌++◌, ◌∷◌, ◌∙◌, [], ℕ, List, arith, ap, rules, subst, sym}
use Rattle.lx_types.specs.declared.parts.Parts.{Parts}
use Rattle.lx_model.specs.Module.{Lx, parts_of}
use Rattle.gen_core.proofs.Linked.{file_means, linked_more}
use Rattle.gen_core.proofs.linking.Linking.push.Goals as goal

pub read_faultless-requires-clause-means : goal.read_faultless-requires-clause-means
read_faultless-requires-clause-means c =
    let few = c.requires.few in
    subst (λ (file : List ℕ). Lx file (parts_of file)) (sym c.into_vec.ensures)
    (file_means c.inputs_are_whole.ensures c.linked_files_mean_their_links.ensures (c.args.count + 1) c.args.linked (omega arith) (omega (arith, few)) c.requires.linked c.requires.short)

pub returns-clause-linked : goal.returns-clause-linked
returns-clause-linked c =
    let before = c.args.self.now in
    let parts : Parts = c.in_ok-read_faultless.field-0 in
    let pushed : c.push.new.self.items ≡ before.«modules».items ++ parts ∷ [] = search rules in
    linked_more c.args.count before (record { «modules» = c.push.new.self; pages = before.pages + c.from.result; sources = before.sources + c.from-2.result }) parts c.args.linked c.requires.few c.requires.before c.requires.linked
    (record {
      «modules» = pushed;
      is = c.in_ok-read_faultless.ensures.parts ∙ ap parts_of c.into_vec.ensures;
      pages = ap (λ (n : ℕ). before.pages + n) c.from.ensures;
      sources = ap (λ (n : ℕ). before.sources + n) c.from-2.ensures;
      few_pages = search rules;
      few_sources = search rules;
    })
