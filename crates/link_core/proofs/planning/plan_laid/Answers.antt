use Rattle.std.proofs.Common.{refl}
use Rattle.link_place.proofs.AnswersMapped.{answers-value}
use Rattle.link_core.proofs.Assembled.{planned}
use Rattle.link_core.proofs.planning.plan_laid.Goals as goal

pub returns-in_ok-image_of-in-Ok : goal.returns-in_ok-image_of-in-Ok
returns-in_ok-image_of-in-Ok c =
    planned c.args.input.now c.args.syms.now c.args.layout c.in-Ok.parts c.in_ok-image_of-in-Ok.field-0.image c.requires.whole c.requires.bound c.requires.laid c.requires.lay
    (answers-value c.parts_of.result c.in-Ok.parts _ _ c.in-Ok.is c.parts_of.ensures) c.in_ok-image_of-in-Ok.ensures.image _ c.in_ok-image_of-in-Ok.ensures.layout refl
