-- The bytes that a link means, where no fixup is left to the loader and where one is.
use Rattle.std.specs.Prelude.{◌≡◌, ℕ, suc, ◌-◌, Bool, true, false, cond, not, ◌&&◌, ◌==◌, nat_lt, nat_le, List, [], ◌∷◌, ◌++◌, Option, Some, None, map, find, is_some, unwrap_or, slice_index, refl}
use Rattle.std.specs.List.{list_any, AllPairs, AllByRecursion}
use Rattle.std.specs.Option.{option_map, option_map_or, option_and_then}
use Rattle.std.proofs.Common.{ap, sym, ◌∙◌, arith, true≢false}
use Rattle.std.proofs.lemmas.Bool.{eqb-true, eq-eqb, ltb-true, lt-ltb, leb-true, and_parts, and_from}
use Rattle.std.proofs.lemmas.List.Elements.{recursion_from_All}
use Rattle.std.proofs.lemmas.Option.{same_Some}
use Rattle.link_model.specs.Words.{first_of}
use Rattle.link_model.specs.Link.{Link}
use Rattle.link_model.specs.Fixups.{Fixup, fixups, fix_refusal}
use Rattle.link_model.specs.Start.{start_outside}
use Rattle.link_model.specs.Value.{World, value_bytes, Value}
use Rattle.link_model.specs.Mean.{fixup_end, overlap, live_fixups, fixup_covers, live_at, data_at, value_at, Mean}
use Rattle.link_model.specs.Patches.{is_patched, recorded, linked_world, patch_at, page_byte}
use Rattle.link_model.specs.Refusal.{place_refusal}
use Rattle.link_model.proofs.Members.{In, here, there, any_in, in_filter, each_in, found_as}
use Rattle.link_model.proofs.ExternalsMean.{neither}
use Rattle.link_model.proofs.LiveFixups.{live_apart, patches_stand}
use Rattle.link_model.proofs.LiveMeans.{is_live}
use Rattle.link_model.proofs.LiveMeans.{only, none_refused}

-- ---- one live fixup at most covers a byte

-- A live fixup that covers a byte is the one that is found there.
pub found-there : (l : Link) (n x : ℕ) (q : Fixup) → In q (live_fixups l) → fixup_covers n x q ≡ true → live_at l n x ≡ Some q
unfolding live_fixups
found-there l n x q i covers = only n x (live_fixups l) i covers (live_apart (fixups l))

-- ---- values

pub accepted : (l : Link) (q : Fixup) → place_refusal l ≡ None → In q (live_fixups l) → fix_refusal q ≡ None
unfolding place_refusal live_fixups
accepted l q none i =
    each_in (λ (t : Fixup). fix_refusal t ≡ None) (fixups l) (none_refused fix_refusal (fixups l) (start_outside l ∷ []) none) (is_live (fixups l) i)

pub value-is : (l : Link) (w : World) (q : Fixup) → place_refusal l ≡ None → In q (live_fixups l) → Value l w q ≡ Some (value_bytes l w q)
unfolding Value
value-is l w q none i = ap (λ o. cond (is_some o) None (Some (value_bytes l w q))) (accepted l q none i)

-- A patch has the same bytes at all bases.
patch_same : (l : Link) (w : World) (q : Fixup) → place_refusal l ≡ None → In q (live_fixups l) → is_patched q ≡ true → value_bytes l (linked_world l) q ≡ value_bytes l w q
patch_same l w q none i patched =
    same_Some (value_bytes l (linked_world l) q) (value_bytes l w q) (sym (value-is l (linked_world l) q none i) ∙ patches_stand l (linked_world l) w q patched ∙ value-is l w q none i)

-- ---- bytes

-- The byte of a live fixup.
pub mean-of : (l : Link) (w : World) (n x : ℕ) (q : Fixup) → place_refusal l ≡ None → In q (live_fixups l) → live_at l n x ≡ Some q → Mean l w n x ≡ slice_index (value_bytes l w q) (x - q.offset)
unfolding Mean
mean-of l w n x q none i at =
    ap (λ (o : Option Fixup). unwrap_or (option_and_then (value_at l w x) o) (data_at l n x)) at
    ∙ ap (λ (o : Option (List ℕ)). unwrap_or (option_map (λ bytes. slice_index bytes (x - q.offset)) o) (data_at l n x)) (value-is l w q none i)

-- No fixup that is left to the loader covers the byte.
abbrev pub NoneLeft : Link → ℕ → ℕ → Type 0
NoneLeft l n x = list_any (fixup_covers n x) (recorded l) ≡ false

kept_by : (b : Bool) (l : Link) (q : Fixup) (n x : ℕ) → is_patched q ≡ b → In q (live_fixups l) → fixup_covers n x q ≡ true → NoneLeft l n x → is_patched q ≡ true
unfolding recorded
kept_by true l q n x is i covers left = is
kept_by false l q n x is i covers left =
    absurd (true≢false (sym (any_in (fixup_covers n x) (in_filter (λ (t : Fixup). not (is_patched t)) i (ap not is)) covers) ∙ left))

by_live : (l : Link) (w : World) (n x : ℕ) (o : Option Fixup) → place_refusal l ≡ None → NoneLeft l n x → live_at l n x ≡ o → page_byte l n x ≡ Mean l w n x
unfolding page_byte Mean
by_live l w n x None none left at =
    ap (λ (o : Option Fixup). option_map_or (patch_at l x) o (data_at l n x)) at
    ∙ sym (ap (λ (o : Option Fixup). unwrap_or (option_and_then (value_at l w x) o) (data_at l n x)) at)
by_live l w n x (Some q) none left at =
    let found = found_as (fixup_covers n x) (live_fixups l) q at in
    let patched = kept_by (is_patched q) l q n x refl found.inside found.passes left in
    ap (λ (o : Option Fixup). option_map_or (patch_at l x) o (data_at l n x)) at
    ∙ ap (λ (b : Bool). cond b (slice_index (value_bytes l (linked_world l) q) (x - q.offset)) 0) patched
    ∙ ap (λ (bytes : List ℕ). slice_index bytes (x - q.offset)) (patch_same l w q none found.inside patched)
    ∙ sym (mean-of l w n x q none found.inside at)

-- There the byte before the loader is the one that the link means.
pub mean-before : (l : Link) (w : World) (n x : ℕ) → place_refusal l ≡ None → NoneLeft l n x → page_byte l n x ≡ Mean l w n x
mean-before l w n x none left = by_live l w n x (live_at l n x) none left refl
