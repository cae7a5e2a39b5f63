use Rattle.std.proofs.Common.{refl}
use Rattle.gen_model.specs.Modules.{gen_object}
use Rattle.gen_core.proofs.Parts.{same_parts}
use Rattle.gen_core.proofs.objects.object_module.Goals as goal

pub returns : goal.returns
unfolding gen_object
returns c =
    same_parts
    (gen_object c.args.k)
    c.in_ok-public_name.ensures
    c.in_ok-segments.ensures
    c.in_ok-groups.ensures
    c.in_ok-publics.ensures
    c.in_ok-externals.ensures
    c.in_ok-pieces.ensures
    c.in_ok-references.ensures
    c.in_ok-imports.ensures
    c.in_ok-exports.ensures
    c.new.ensures
    c.new-2.ensures
    refl
