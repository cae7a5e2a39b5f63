use Rattle.std.proofs.Common.{◌≡◌, ◌∙◌, ap, arith, rules, ℕ, ◌≤◌, length, take}
use Rattle.obj_types.specs.Location.{location_len}
use Rattle.link_fix.specs.Images.{byte_after}
use Rattle.link_fix.proofs.PaintedFields.{field-painted}
use Rattle.link_fix.proofs.painting.paint_field.Goals as goal

pub returns : goal.returns
returns c =
    let q = c.args.q.now in
    let field = c.field_of-field.result in
    let len : c.from-len.result ≡ location_len q.loc = cc in
    let six : length field ≡ 6 = search rules in
    let room : location_len q.loc ≤ length field = omega (arith, six, c.location_len.ensures.small, c.location_len.ensures.value) in
    field-painted c.args.rows.now c.paint.new.self q field c.field_of-field.ensures room
    (λ n x. c.in_ok-paint.ensures n x ∙ ap (λ (k : ℕ). byte_after c.args.rows.now q.object q.offset (take k field) n x) len)
