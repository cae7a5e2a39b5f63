use Rattle.std.proofs.Common.{◌≡◌, ◌+◌, ◌++◌, length, subst, sym, ap, ◌∙◌}
use Rattle.lx_types.specs.Escaped.{escaped}
use Rattle.load_model.specs.Modules.{name_of}
use Rattle.session_model.specs.Transcript.{module_text}
use Rattle.transcript_read.specs.Modules.{NamesFirst}
use Rattle.transcript_read.proofs.ModuleTables.{names_more}
use Rattle.transcript_read.proofs.modules.with_module.Goals as goal

pub returns : goal.returns
returns c =
    let name : c.bytes.result.now ≡ name_of c.args.lib.now c.args.m = c.bytes.ensures.same ∙ c.name.ensures ∙ ap (λ m. m.name) c.module.ensures in
    let text : c.deref.result.now ≡ module_text c.args.lib.now c.args.m =
    c.deref.ensures.value ∙ c.in_ok-push_escaped.ensures ∙ ap (λ xs. xs ++ escaped c.bytes.result.now) c.new-name.ensures.items ∙ ap escaped name in
    subst (λ t. NamesFirst c.args.lib.now (c.args.m + 1) t) (sym c.in_ok-push.ensures.entries)
    (names_more (module_text c.args.lib.now) (length c.args.lib.now) c.args.m c.deref.result.now c.args.table c.requires.within text c.requires.so_far)
