use Rattle.std.proofs.Common.{◌≡◌, ℕ, List, ◌∙◌, ap, subst}
use Rattle.std.specs.Prelude.{Option, None}
use Rattle.show_model.specs.Shows.{IsShown}
use Rattle.show_model.specs.declared.fault.ShowFault.{ShowFault}
use Rattle.file_commands.proofs.Shown.{shown_whole}
use Rattle.file_commands.proofs.show.shown.Goals as goal

pub returns-in-None : goal.returns-in-None
returns-in-None c =
    let own = c.in_ok-text.field-0 in
    let text_is = c.in_ok-text.text-is in
    let fault_is = c.in_ok-text.fault-is in
    let none_is = c.in-None.is in
    let vec_is = c.from_vec.ensures in
    let none : own.fault ≡ None = cc in
    let texts : c.from_vec.result ≡ own.text.items = cc in
    let P : List ℕ → Type 0 = λ file. IsShown file own.text.items own.fault in
    let Q : Option ShowFault → Type 0 = λ fault. IsShown c.args.bytes.items own.text.items fault in
    shown_whole c.args.name.now c.args.bytes.items own.text.items c.done.result.said (subst Q none (subst P c.deref.ensures.value c.in_ok-text.ensures))
    (c.done.ensures ∙ ap (λ (text : List ℕ). record { status = 0; text = text }) texts)
