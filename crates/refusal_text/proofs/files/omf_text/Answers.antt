use Rattle.std.proofs.Common.{◌≡◌, sym, subst}
use Rattle.std.specs.Prelude.{IfOk, string_bytes}
use Rattle.obj_types.specs.declared.refusal.OmfRefusal.{OmfRefusal}
use Rattle.answer_model.specs.FileRefusals.{omf_text}
use Rattle.refusal_text.proofs.files.omf_text.Goals as goal

pub returns-in-FixOverlap : goal.returns-in-FixOverlap
returns-in-FixOverlap c = subst (λ (r : OmfRefusal). IfOk c.placed-in-FixOverlap.result (λ text. string_bytes text ≡ omf_text r)) (sym c.in-FixOverlap.is) c.placed-in-FixOverlap.ensures

pub returns-in-DataOverFix : goal.returns-in-DataOverFix
returns-in-DataOverFix c = subst (λ (r : OmfRefusal). IfOk c.placed-in-DataOverFix.result (λ text. string_bytes text ≡ omf_text r)) (sym c.in-DataOverFix.is) c.placed-in-DataOverFix.ensures

pub returns-in-BadChecksum : goal.returns-in-BadChecksum
returns-in-BadChecksum c = subst (λ (r : OmfRefusal). IfOk c.placed_with.result (λ text. string_bytes text ≡ omf_text r)) (sym c.in-BadChecksum.is) c.placed_with.ensures

pub returns-in-UnknownType : goal.returns-in-UnknownType
returns-in-UnknownType c =
    subst (λ (r : OmfRefusal). IfOk c.placed_with-in-UnknownType.result (λ text. string_bytes text ≡ omf_text r)) (sym c.in-UnknownType.is)
    c.placed_with-in-UnknownType.ensures
