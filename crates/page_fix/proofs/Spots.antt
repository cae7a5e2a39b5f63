-- What a source puts, by its target's spot.
use Rattle.std.proofs.Common.{◌≡◌, ℕ, List, Ok, Err, refl, sym, ◌∙◌, ap}
use Rattle.std.specs.Prelude.{unwrap_or, Result}
use Rattle.lx_types.specs.declared.bases.Bases.{Bases}
use Rattle.lx_types.specs.declared.fix.Fix.{Fix}
use Rattle.lx_types.specs.declared.object.PageId.{PageId}
use Rattle.lx_types.specs.declared.parts.Parts.{Parts}
use Rattle.lx_model.specs.declared.library.EntryFault.{EntryFault}
use Rattle.lx_model.specs.declared.library.Spot.{Spot}
use Rattle.lx_model.specs.Entries.{target_spot}
use Rattle.lx_model.specs.Fixed.{patched, patch_of, bytes_if, bytes_for}
use Rattle.page_fix.proofs.Covering.{nothing_put}

module _ (lib : List Parts) (m : ℕ) (bases : Bases) (p : PageId) (f : Fix) (i old : ℕ) where
  -- a byte, once a source put what a look-up of its target gives
  abbrev put_by : Result Spot EntryFault → ℕ
  put_by found = unwrap_or (patched (record { offset = f.offset; bytes = bytes_if lib m bases p f found }) i) old

  put_is : put_by (target_spot lib m f.target) ≡ unwrap_or (patched (patch_of lib m bases p f) i) old
  unfolding patch_of
  put_is = refl

  pub no_spot_puts : (e : EntryFault) → target_spot lib m f.target ≡ Err e → old ≡ unwrap_or (patched (patch_of lib m bases p f) i) old
  no_spot_puts e is = sym (sym put_is ∙ ap put_by is ∙ ap (λ o. unwrap_or o old) (nothing_put f.offset i))

  pub spot_puts : (s : Spot) (bytes : List ℕ) → target_spot lib m f.target ≡ Ok s → bytes ≡ bytes_for lib m bases p f s →
      unwrap_or (patched (record { offset = f.offset; bytes = bytes }) i) old ≡ unwrap_or (patched (patch_of lib m bases p f) i) old
  spot_puts s bytes is same =
      ap (λ (bs : List ℕ). unwrap_or (patched (record { offset = f.offset; bytes = bs }) i) old) same ∙ sym (sym put_is ∙ ap put_by is)
