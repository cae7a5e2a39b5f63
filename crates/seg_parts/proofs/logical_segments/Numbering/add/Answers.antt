use Rattle.std.proofs.Common.{◌≡◌, ◌⊎◌, inl, inr, ◌∙◌, ap, not, cond, Bool, true, false, ◌++◌, ◌∷◌, [], List, refl}
use Rattle.std.specs.List.{list_any}
use Rattle.seg_parts.specs.declared.parts.Part.{Part}
use Rattle.seg_parts.specs.contracts.logical_segments.SegmentNamePartialEq.TheImpl.{eq-value}
use Rattle.seg_parts.proofs.Names.{names-shown}
use Rattle.seg_parts.proofs.Tables.{parts-push, moved}
use Rattle.seg_parts.proofs.logical_segments.Numbering.add.Goals as goal

choose : (b : Bool) (n : Bool) (hs : List Part) (p : Part) (now : List Part) → n ≡ not b → ((n ≡ true) × (now ≡ hs ++ p ∷ [])) ⊎ ((n ≡ false) × (now ≡ hs)) → now ≡ cond b hs (hs ++ p ∷ [])
choose true n hs p now e (inl h) = cc
choose true n hs p now e (inr h) = h.1
choose false n hs p now e (inl h) = h.1
choose false n hs p now e (inr h) = cc

pub returns-in_ok-push-2 : goal.returns-in_ok-push-2
returns-in_ok-push-2 c =
    λ ps old.
    let heads = choose (list_any (eq-value.it c.name_of.result) c.args.self.now.names.keys) c.in_ok-number.is_new c.args.self.now.heads.items c.args.part.now c.push-then-is_new.new.self.items c.in_ok-number.ensures.added
    (inl (c.if-is_new.true, c.in_ok-push-2.ensures.items)) in
    moved _ _ _ _ _ _ _ _ c.in_ok-number.ensures.keys refl heads
    (c.in_ok-push.ensures.items ∙ ap (λ n. c.args.self.now.numbers.items ++ n ∷ []) c.in_ok-number.ensures.index)
    (parts-push eq-value.it names-shown c.args.self.now.names.keys ps c.args.self.now.heads.items c.args.self.now.numbers.items c.args.part.now c.name_of.result old c.name_of.ensures)

pub returns-else-is_new : goal.returns-else-is_new
returns-else-is_new c =
    λ ps old.
    let heads = choose (list_any (eq-value.it c.name_of.result) c.args.self.now.names.keys) c.in_ok-number.is_new c.args.self.now.heads.items c.args.part.now c.args.self.now.heads.items c.in_ok-number.ensures.added
    (inr (c.if-is_new.false, refl)) in
    moved _ _ _ _ _ _ _ _ c.in_ok-number.ensures.keys refl heads
    (c.in_ok-push.ensures.items ∙ ap (λ n. c.args.self.now.numbers.items ++ n ∷ []) c.in_ok-number.ensures.index)
    (parts-push eq-value.it names-shown c.args.self.now.names.keys ps c.args.self.now.heads.items c.args.self.now.numbers.items c.args.part.now c.name_of.result old c.name_of.ensures)
