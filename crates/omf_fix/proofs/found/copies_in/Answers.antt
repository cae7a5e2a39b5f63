use Rattle.std.proofs.Common.{arith, ℕ, List, sym, ap, subst, ◌∙◌}
use Rattle.lx_bytes.specs.LittleEndian.{AreBytes}
use Rattle.omf_model.specs.Blocks.{Blocks, origins, contents}
use Rattle.omf_model.specs.Fixups.{places_of}
use Rattle.omf_fix.specs.Found.{Found, blocks_found, found_in}
use Rattle.omf_fix.proofs.BlockFound.{blocks_are, none_are, refusal_given}
use Rattle.omf_fix.proofs.found.copies_in.Goals as goal

pub find_blocks-requires : goal.find_blocks-requires
find_blocks-requires c = record { after = omega (arith, c.of-fields.ensures.place); bytes = subst (λ (bs : List ℕ). AreBytes bs) c.rest-all.ensures.read c.rest-all.ensures.bytes }

pub returns-in-Ok-clause-places : goal.returns-in-Ok-clause-places
returns-in-Ok-clause-places c = (blocks_are c.args.number c.args.wide c.args.body.now c.of-fields.result c.of-fields.ensures.bytes c.of-fields.ensures.place (subst (λ (bs : List ℕ). AreBytes bs) c.rest-all.ensures.read c.rest-all.ensures.bytes) (found_in c.find_blocks.new.found) (ap (λ (w : Found). blocks_found c.args.number c.args.wide w c.of-fields.result) (λ i. (0, sym c.new.ensures.items i, sym c.new-2.ensures.items i)) ∙ c.in-Ok.ensures)).0

pub returns-in-Ok-clause-contents : goal.returns-in-Ok-clause-contents
returns-in-Ok-clause-contents c = (blocks_are c.args.number c.args.wide c.args.body.now c.of-fields.result c.of-fields.ensures.bytes c.of-fields.ensures.place (subst (λ (bs : List ℕ). AreBytes bs) c.rest-all.ensures.read c.rest-all.ensures.bytes) (found_in c.find_blocks.new.found) (ap (λ (w : Found). blocks_found c.args.number c.args.wide w c.of-fields.result) (λ i. (0, sym c.new.ensures.items i, sym c.new-2.ensures.items i)) ∙ c.in-Ok.ensures)).1

pub returns-clause-places : goal.returns-clause-places
returns-clause-places c =
    c.new-in-Err-Said.ensures.items
    ∙ sym (ap (λ (b : Blocks). places_of c.args.number (origins c.args.wide 0 b)) (none_are c.args.number c.args.wide c.args.body.now c.of-fields.result c.of-fields.ensures.bytes c.of-fields.ensures.place (subst (λ (bs : List ℕ). AreBytes bs) c.rest-all.ensures.read c.rest-all.ensures.bytes) c.in-Err-Said.field-0-0
    (ap (λ (w : Found). blocks_found c.args.number c.args.wide w c.of-fields.result) (λ i. (0, sym c.new.ensures.items i, sym c.new-2.ensures.items i)) ∙ refusal_given {A = Unit {0}} {B = Found} (λ u. found_in c.find_blocks.new.found) c.in-Err-Said.field-0 c.in-Err-Said.field-0-0 (blocks_found c.args.number c.args.wide (0, c.new.result.items, c.new-2.result.items) c.of-fields.result) c.in-Err-Said.ensures (let q = c.in-Err-Said.field-0-is in cc))))

pub returns-clause-contents : goal.returns-clause-contents
returns-clause-contents c =
    c.new-in-Err-Said-2.ensures.items
    ∙ sym (ap (λ (b : Blocks). contents c.args.wide 0 b) (none_are c.args.number c.args.wide c.args.body.now c.of-fields.result c.of-fields.ensures.bytes c.of-fields.ensures.place (subst (λ (bs : List ℕ). AreBytes bs) c.rest-all.ensures.read c.rest-all.ensures.bytes) c.in-Err-Said.field-0-0
    (ap (λ (w : Found). blocks_found c.args.number c.args.wide w c.of-fields.result) (λ i. (0, sym c.new.ensures.items i, sym c.new-2.ensures.items i)) ∙ refusal_given {A = Unit {0}} {B = Found} (λ u. found_in c.find_blocks.new.found) c.in-Err-Said.field-0 c.in-Err-Said.field-0-0 (blocks_found c.args.number c.args.wide (0, c.new.result.items, c.new-2.result.items) c.of-fields.result) c.in-Err-Said.ensures (let q = c.in-Err-Said.field-0-is in cc))))
