use Rattle.std.proofs.Common.{◌≡◌, ◌∙◌, ◌++◌, ap, sym, append_assoc, List, ℕ, map, drop, take, slice_index_or}
use Rattle.std.specs.List.{flat_map}
use Rattle.std.proofs.lemmas.Result.{on_ok_weaker}
use Rattle.lx_model.specs.Bundles.{bundle_spelling}
use Rattle.lx_exports.specs.declared.slots.Slot.TheVariants.{Empty}
use Rattle.lx_exports.specs.Slots.{shown, bundles_of, entry_bytes, head_bytes}
use Rattle.lx_exports.proofs.BundleFront.{bundle_written}
use Rattle.lx_exports.proofs.bundle_writing.push_bundle.Goals as goal

pub returns : goal.returns
returns c =
    let slots = c.args.slots.now in
    let len = c.args.len in
    let head = head_bytes len (slice_index_or slots 0 Empty) in
    let entries = flat_map entry_bytes (take len slots) in
    let rest = flat_map bundle_spelling (bundles_of (map shown (drop len slots))) in
    let before = c.args.out.now.items in
    on_ok_weaker c.push_entries.result (λ pushed.
    ap (λ xs. xs ++ rest) (pushed ∙ ap (λ xs. xs ++ entries) (c.in_ok-push_head.ensures))
    ∙ append_assoc (before ++ head) entries rest
    ∙ append_assoc before head (entries ++ rest)
    ∙ ap (λ xs. before ++ xs) (sym (append_assoc head entries rest) ∙ bundle_written slots len c.requires))
    c.push_entries.ensures
