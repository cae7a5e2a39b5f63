use Rattle.std.proofs.Common.{◌∙◌, ap, ℕ, List, map, not, bytes_eq}
use Rattle.std.specs.Prelude.{◌==◌}
use Rattle.std.specs.List.{list_any, range_with_len}
use Rattle.link_model.specs.Clash as rules
use Rattle.comdat_core.specs.Taking.{shown}
use Rattle.comdat_core.proofs.Clashes.{other_bytes}
use Rattle.comdat_core.proofs.compare.has_other_byte.Goals as goal

pub returns : goal.returns
returns c = λ modules has at_first at_second.
    let f : ℕ → ℕ = rules.byte_of (shown c.args.first.now.own) in
    let g : ℕ → ℕ = rules.byte_of (shown c.args.second.now.own) in
    let offsets = range_with_len 0 c.len_of-len.result in
    let one = c.in_ok-own.ensures modules has at_first in
    let two = c.in_ok-other.ensures modules one.1 at_second in (
      c.ne.ensures
          ∙ ap (λ (xs : List ℕ). not (bytes_eq xs c.as_slice-2.result.now)) (c.as_slice.ensures.value ∙ one.0)
          ∙ ap (λ (ys : List ℕ). not (bytes_eq (map f offsets) ys)) (c.as_slice-2.ensures.value ∙ two.0)
          ∙ other_bytes f g offsets
          ∙ ap (λ (n : ℕ). list_any (λ x. not (f x == g x)) (range_with_len 0 n)) c.len_of-len.ensures,
      two.1,
    )
