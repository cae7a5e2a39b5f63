use Rattle.std.proofs.Common.{◌≡◌, ◌+◌, ◌∙◌, ◌++◌, ◌∷◌, [], ap, sym, map, take, bytes_eq, List, ℕ}
use Rattle.std.specs.List.{position_or_len}
use Rattle.std.specs.Cmp.Lexicographic.{nat_list_eq_equiv}
use Rattle.std.proofs.lemmas.List.{map-append}
use Rattle.link_model.specs.Appearance.{firsts}
use Rattle.name_table.specs.Entries.{is_named, with_entry}
use Rattle.link_types.proofs.Lists.{map-more}
use Rattle.seg_parts.specs.Groups.{name_entries}
use Rattle.seg_parts.specs.Parts.{shown}
use Rattle.seg_parts.specs.LogicalSegments.{places}
use Rattle.seg_parts.proofs.NameLists.{entries-push, place-entries}
use Rattle.seg_parts.proofs.Tables.{places-push}
use Rattle.seg_parts.proofs.order.classes_of.Goals as goal

pub loop-head-preserved : goal.loop-head-preserved
loop-head-preserved c =
    let x = c.head-item.result in
    let class : List ℕ = x.class.now in
    let ks : List (List ℕ) = map (λ s. s.class) (map shown (take c.loop-head.head-index c.args.heads.now)) in
    let more : map (λ s. s.class) (map shown (take (c.loop-head.head-index + 1) c.args.heads.now)) ≡ ks ++ class ∷ [] =
    ap (map (λ s. s.class)) (map-more shown c.args.heads.now c.loop-head.head-index x c.loop-head-test.true c.head-item.is)
    ∙ map-append (λ s. s.class) (map shown (take c.loop-head.head-index c.args.heads.now)) (shown x ∷ []) in
    let entries : c.push.new.self ≡ with_entry c.loop-head.names class tt =
    c.in_ok-push.ensures.entries ∙ ap (λ n. with_entry c.loop-head.names n tt) c.bytes.ensures.same in
    let at : c.in_ok-push.field-0 ≡ position_or_len (bytes_eq class) (firsts bytes_eq ks) =
    c.in_ok-push.ensures.place ∙ ap (λ n. position_or_len (is_named {V = Unit {0}} n) c.loop-head.names) c.bytes.ensures.same
    ∙ ap (position_or_len (is_named {V = Unit {0}} class)) c.loop-head.invariant.0 ∙ place-entries class (firsts bytes_eq ks) in (
      entries ∙ ap (λ t. with_entry t class tt) c.loop-head.invariant.0 ∙ entries-push ks class ∙ ap (λ t. name_entries (firsts bytes_eq t)) (sym more),
      c.in_ok-push-2.ensures.items ∙ ap (λ n. c.loop-head.numbers.items ++ n ∷ []) at
          ∙ ap (λ t. t ++ position_or_len (bytes_eq class) (firsts bytes_eq ks) ∷ []) c.loop-head.invariant.1
          ∙ sym (places-push bytes_eq nat_list_eq_equiv ks class)
          ∙ ap (places bytes_eq) (sym more),
    )
