use Rattle.std.proofs.Common.{[], ◌∷◌, ◌++◌, map, ap, ◌∙◌}
use Rattle.std.specs.Prelude.{codes, decimal}
use Rattle.lx_types.specs.Escaped.{hex_address}
use Rattle.session_model.specs.Text.{words}
use Rattle.session_model.specs.Transcript.{module_text}
use Rattle.line_words.specs.Words.{spaced}
use Rattle.session_text.proofs.SpacedLaws.{inner-pushed}
use Rattle.session_text.proofs.entries.push_new.Goals as goal

pub returns : goal.returns
returns c =
    let fresh = c.args.fresh.now in
    inner-pushed c.args.out.now.items c.extend_from_slice.new.self.items c.push_joined.new.out.items c.push_addresses.new.out.items c.push.new.self.items
    (codes "new") (decimal fresh.serial ∷ module_text c.args.lib.now fresh.«module» ∷ []) (map hex_address fresh.bases)
    c.in_ok-extend_from_slice.ensures.items
    (c.in_ok-push_joined.ensures
    ∙ ap (λ w. c.extend_from_slice.new.self.items ++ words (codes "new" ∷ decimal fresh.serial ∷ w ∷ [])) c.module_word-module.ensures)
    (c.in_ok-push_addresses.ensures ∙ ap (λ bases. c.push_joined.new.out.items ++ spaced (map hex_address bases)) c.as_slice.ensures)
    c.in_ok-push.ensures.items
