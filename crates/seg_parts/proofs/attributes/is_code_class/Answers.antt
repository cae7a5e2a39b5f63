use Rattle.std.proofs.Common.{◌∙◌, ◌-◌, ap, bytes_eq, drop, codes, length, ℕ, List}
use Rattle.std.proofs.lemmas.List.{length-map}
use Rattle.lx_types.specs.Names.{uppercase}
use Rattle.std.specs.Char.{to_ascii_uppercase}
use Rattle.seg_parts.proofs.attributes.is_code_class.Goals as goal

pub returns : goal.returns
returns c =
    c.ends_in_code.ensures
    ∙ ap (λ (n : List ℕ). bytes_eq (drop (length n - 4) n) (codes "CODE")) c.in_ok-upper.ensures.letters
    ∙ ap (λ (n : ℕ). bytes_eq (drop (n - 4) (uppercase c.args.class.now)) (codes "CODE")) (length-map c.args.class.now to_ascii_uppercase)
