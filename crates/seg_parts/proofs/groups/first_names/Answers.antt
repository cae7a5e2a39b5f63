use Rattle.std.proofs.Common.{◌≡◌, ◌∙◌, ◌∷◌, [], ap, sym, map, take, length, arith}
use Rattle.std.specs.List.{position_or_len}
use Rattle.std.proofs.lemmas.List.{length-map, map-append}
use Rattle.name_table.specs.Entries.{is_named, with_entry}
use Rattle.link_types.proofs.Lists.{map-more}
use Rattle.seg_parts.proofs.NameLists.{new_name, old_name, same_names}
use Rattle.seg_parts.proofs.groups.first_names.Goals as goal
use Rattle.seg_parts.proofs.groups.first_names.Goals.{then-place-len+in_ok-push, else-place-len}

pub loop-name-preserved : goal.loop-name-preserved
loop-name-preserved c =
    let x = c.name-item.result in
    let ks = map (λ n. n.now) (take c.loop-name.name-index c.args.all.now) in
    let list = map (λ n. n.now) c.loop-name.names.items in
    let more = map-more (λ n. n.now) c.args.all.now c.loop-name.name-index x c.loop-name-test.true c.name-item.is in
    let at : c.in_ok-place.place ≡ position_or_len (is_named {V = Unit {0}} x.now) c.loop-name.places =
    c.in_ok-place.ensures.place ∙ ap (λ n. position_or_len (is_named {V = Unit {0}} n) c.loop-name.places) c.bytes.ensures.same in
    let entries : c.push.new.self ≡ with_entry c.loop-name.places x.now tt =
    c.in_ok-place.ensures.entries ∙ ap (λ n. with_entry c.loop-name.places n tt) c.bytes.ensures.same in
    let len : length list ≡ length c.loop-name.names.items = length-map c.loop-name.names.items (λ n. n.now) in
    let count : c.len.result ≡ length list = omega (arith, c.len.ensures, len, c.loop-name.names.ok) in
    elim c.if-place-len.branch [
      | then-place-len+in_ok-push w ↦
          same_names more
          (ap (λ v. map (λ n. n.now) v.items) w.names-is ∙ ap (map (λ n. n.now)) w.in_ok-push.ensures.items ∙ map-append (λ n. n.now) c.loop-name.names.items (x ∷ []))
          entries
          (new_name ks list c.loop-name.places x.now c.in_ok-place.place c.loop-name.invariant at (w.if-place-len.true ∙ count))
      | else-place-len w ↦
          same_names more (ap (λ v. map (λ n. n.now) v.items) w.names-is) entries
          (old_name ks list c.loop-name.places x.now c.in_ok-place.place c.loop-name.invariant at (λ e. w.if-place-len.false (e ∙ sym count)))
    ]
