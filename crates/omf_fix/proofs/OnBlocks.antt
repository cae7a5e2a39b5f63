-- A fixup on the blocks of an LIDATA record, by what was found in them.
use Rattle.std.proofs.Common.{◌≡◌, ℕ, zero, suc, ◌+◌, ◌<◌, ◌≤◌, Bool, false, leb, inl, inr, List, [], ◌∷◌, length, map, refl, sym, ap, subst, ◌∙◌, arith}
use Rattle.std.specs.Prelude.{◌&&◌, ◌==◌, not, slice_index, IsSomeAnd, Option, Some, None}
use Rattle.std.specs.List.{All, AllByRecursion, filter, list_any, range_with_len}
use Rattle.obj_types.specs.declared.object.FixAt.{FixAt}
use Rattle.obj_types.specs.declared.object.Seg.{Seg}
use Rattle.obj_types.specs.declared.parts.LastData.{LastData}
use Rattle.obj_types.specs.declared.parts.LastData.TheVariants as datas
use Rattle.obj_types.specs.declared.parts.ObjParts.{ObjParts}
use Rattle.obj_types.specs.Items.{item}
use Rattle.obj_types.specs.Location.{location_len, meets}
use Rattle.omf_model.specs.Begun.{LastFits, IsWholeSoFar}
use Rattle.omf_model.specs.Blocks.{origins, contents, expanded_len}
use Rattle.omf_model.specs.Fixups.{has_data, fixes_by, are_apart, places_of}
use Rattle.omf_model.specs.ReadBlocks.{blocks_in}
use Rattle.omf_model.specs.Record.{FixData, fixup, location_of, offset_of}
use Rattle.std.proofs.lemmas.List.Elements.{All-from_recursion}
use Rattle.lx_types.proofs.Lists.{all_weaker}
use Rattle.omf_model.proofs.DataLaws.{bool_cases}
use Rattle.omf_model.proofs.CopyLaws.{length-origins}
use Rattle.omf_fix.specs.declared.place.FixPlace.{FixPlace}
use Rattle.omf_fix.specs.FixData.{meant}
use Rattle.omf_fix.specs.Placed.{fix_of}
use Rattle.omf_fix.proofs.CopiesFound.{any-map}
use Rattle.omf_fix.proofs.Judged.{OnData, News}

-- ---- places

range-below : (a n z : ℕ) → a + n ≤ z → AllByRecursion (λ x. x < z) (range_with_len a n)
range-below a zero z fits = tt
range-below a (suc n) z fits = (omega (arith, fits), range-below (a + 1) n z (omega (arith, fits)))

filter-all : (P : ℕ → Type 0) (q : ℕ → Bool) (xs : List ℕ) → AllByRecursion P xs → AllByRecursion P (filter q xs)
filter-all P q [] each = tt
filter-all P q (x ∷ xs) each =
    elim (bool_cases (q x)) [
      | inl kept ↦ rw kept (each.0, filter-all P q xs each.1)
      | inr dropped ↦ rw dropped (filter-all P q xs each.1)
    ]

-- a place of a list is below its length
places-below : (n : ℕ) (xs : List ℕ) → AllByRecursion (λ x. x < length xs) (places_of n xs)
places-below n xs = filter-all (λ x. x < length xs) (λ x. slice_index xs x == n) (range_with_len 0 (length xs)) (range-below 0 (length xs) (length xs) (omega arith))

module _ (p : ObjParts) (place : FixPlace) (seg start : ℕ) (wide : Bool) (body : List ℕ) (last : p.last ≡ datas.Blocks seg start wide body) where
  pub blocks-on : (low size : ℕ) (blocks : List (ℕ × ℕ)) (b : Bool) → low ≡ offset_of place.high place.low → size ≡ location_len (location_of place.high) → blocks ≡ contents wide 0 (blocks_in wide body)
      → b ≡ list_any (λ (block : ℕ × ℕ). leb block.0 low && leb (low + size) block.1) blocks → OnData p place ≡ b
  blocks-on low size blocks b at_low long are is =
      ap (λ (l : LastData). has_data l (offset_of place.high place.low) (location_len (location_of place.high))) last
      ∙ (λ i. list_any (λ (block : ℕ × ℕ). leb block.0 (sym at_low i) && leb (sym at_low i + sym long i) block.1) (sym are i))
      ∙ sym is

  pub blocks-news : (d : FixData) (low : ℕ) (places copies : List ℕ) → low ≡ offset_of place.high place.low → places ≡ places_of low (origins wide 0 (blocks_in wide body)) → copies ≡ map (λ x. start + x) places
      → News p place d ≡ map (λ x. fix_of seg x place.high (meant p.threads d)) copies
  blocks-news d low places copies at_low are is =
      ap (λ (l : LastData). fixes_by l p.threads (fixup place.high place.low d)) last ∙ each
      ∙ ap (λ (xs : List ℕ). map (λ x. fix_of seg x place.high (meant p.threads d)) xs) ((λ i. map (λ x. start + x) (places_of (sym at_low i) (origins wide 0 (blocks_in wide body)))) ∙ ap (map (λ x. start + x)) (sym are) ∙ sym is)
    where
      each : fixes_by (datas.Blocks seg start wide body) p.threads (fixup place.high place.low d) ≡ map (λ x. fix_of seg x place.high (meant p.threads d)) (map (λ x. start + x) (places_of (offset_of place.high place.low) (origins wide 0 (blocks_in wide body))))
      each = unfold fixes_by in refl

  pub blocks-lie : IsWholeSoFar p → (low : ℕ) (places : List ℕ) → places ≡ places_of low (origins wide 0 (blocks_in wide body)) → (segs : List Seg) → segs ≡ p.module.segs → IsSomeAnd (item segs seg) (λ (s : Seg). All (λ x. start + x ≤ s.len) places)
  blocks-lie whole low places are segs same =
      fits (item segs seg) (subst (λ (xs : List Seg). IsSomeAnd (item xs seg) (λ (s : Seg). (s.debug ≡ false) × (start + expanded_len (blocks_in wide body) ≤ s.len))) (sym same) (let fits : LastFits p (datas.Blocks seg start wide body) = subst (LastFits p) last whole.last in fits.1))
    where
      own : List ℕ
      own = origins wide 0 (blocks_in wide body)

      long : length own ≡ expanded_len (blocks_in wide body)
      long = length-origins wide 0 (blocks_in wide body)

      fits : (o : Option Seg) → IsSomeAnd o (λ (s : Seg). (s.debug ≡ false) × (start + expanded_len (blocks_in wide body) ≤ s.len)) → IsSomeAnd o (λ (s : Seg). All (λ x. start + x ≤ s.len) places)
      fits None h = absurd h
      fits (Some s) h =
          subst (All (λ x. start + x ≤ s.len)) (sym are)
          (All-from_recursion (λ x. start + x ≤ s.len) (places_of low own) (all_weaker (λ x. x < length own) (λ x. start + x ≤ s.len) (λ x lt. omega (arith, h.1, long, lt)) (places_of low own) (places-below low own)))

pub copies-apart : (fixes : List FixAt) (f : ℕ → FixAt) (copies : List ℕ) (b : Bool) → b ≡ list_any (λ x. list_any (λ g. meets g (f x)) fixes) copies → are_apart fixes (map f copies) ≡ not b
copies-apart fixes f copies b e = ap not (any-map f copies (λ g. list_any (λ h. meets h g) fixes) copies ∙ sym e)
