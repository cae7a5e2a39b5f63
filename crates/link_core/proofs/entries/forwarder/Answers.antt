use Rattle.std.proofs.Common.{◌∙◌, ◌<◌, ap, sym, subst, true≢false, length, Option, ℕ}
use Rattle.std.specs.Prelude.{is_some}
use Rattle.std.specs.Option.{option_map}
use Rattle.lx_types.specs.declared.fix.FixTarget.{FixTarget}
use Rattle.lx_types.specs.declared.entry.EntryHead.TheVariants as heads
use Rattle.lx_types.specs.declared.entry.FwdKey.TheVariants as fwd
use Rattle.link_model.specs.ImportTables.{with_offset}
use Rattle.image_model.specs.Exported.{forwarder_to}
use Rattle.lx_write.specs.Offsets.{NameIsThere}
use Rattle.link_core.proofs.Steps.{offset-at}
use Rattle.link_core.proofs.entries.forwarder.Goals as goal

pub returns-in-None : goal.returns-in-None
returns-in-None c = λ names is there.
    let h : c.in-Named.name_at < length names = subst (λ (t : FixTarget). NameIsThere (length names) t) c.in-Named.is there in
    absurd (true≢false (sym (ap is_some (sym c.in-None.is ∙ c.offset_at.ensures ∙ offset-at names c.args.offsets.now c.in-Named.name_at is h))))

pub returns-in-Some : goal.returns-in-Some
returns-in-Some c = λ names is there.
    let h : c.in-Named.name_at < length names = subst (λ (t : FixTarget). NameIsThere (length names) t) c.in-Named.is there in
    ap (λ (o : Option ℕ). option_map (λ n. heads.Forward c.in-Named.import (fwd.NameAt n)) o) (sym c.in-Some.is ∙ c.offset_at.ensures ∙ offset-at names c.args.offsets.now c.in-Named.name_at is h)
    ∙ ap (λ (t : FixTarget). forwarder_to (with_offset names t)) (sym c.in-Named.is)
