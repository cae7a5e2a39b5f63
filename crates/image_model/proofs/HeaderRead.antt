-- The header of a file has the fields that were written.
use Rattle.std.proofs.Common.{ℕ, ◌<◌, ◌^◌, length, Option, Some, None, refl, arith}
use Rattle.std.specs.Prelude.{IfSome}
use Rattle.lx_types.specs.Sound.{IsNumberOf}
use Rattle.lx_model.specs.TableSpelling.{HeaderFits}
use Rattle.lx_model.proofs.PlacesRead.{header_again}
use Rattle.image_model.specs.Image.{Image}
use Rattle.image_model.specs.Sections.{sections}
use Rattle.image_model.specs.File.{object_field, offset_field, header_fields_of, sections_bytes, file_of}
use Rattle.image_model.specs.ReadBack.{PlaceFits, ImageFits, FieldsReadBack}
use Rattle.image_model.proofs.Places.{file_long}

start_fits : (count : ℕ) (start : Option (ℕ × ℕ)) → count < 2 ^ 32 → IfSome start (λ place. IsNumberOf place.0 count × (place.1 < 2 ^ 32)) → (object_field start < 2 ^ 32) × (offset_field start < 2 ^ 32)
start_fits count None few fits = (omega arith, omega arith)
start_fits count (Some place) few fits = (omega (arith, few, fits.0.1), fits.1)

stack_fits : (stack : Option (ℕ × ℕ)) → IfSome stack PlaceFits → (object_field stack < 2 ^ 32) × (offset_field stack < 2 ^ 32)
stack_fits None fits = (omega arith, omega arith)
stack_fits (Some place) fits = (fits.0, fits.1)

fields_fit : (m : Image) → ImageFits m → HeaderFits (header_fields_of m (sections m))
unfolding header_fields_of
fields_fit m fits =
    let s = sections m in
    let short = fits.short in
    let long = file_long m in
    let few_objects = fits.few_objects in
    let few_pages = fits.few_pages in
    let few_imports = fits.few_imports in
    let start = start_fits (length m.objects) m.start (omega (arith, few_objects)) fits.start in
    let stack = stack_fits m.stack fits.stack in
    record {
      others = _;
      signature = refl;
      count = refl;
      fit = (omega arith, (omega arith, (omega arith, (omega arith, (fits.flags, (omega (arith, few_pages), (start.0, (start.1, (stack.0, (stack.1, (omega arith, (omega arith, (omega (arith, long, short), (omega arith, (omega (arith, long, short), (omega arith, (omega (arith, long, short), (omega (arith, few_objects), (omega (arith, long, short), (omega (arith, long, short), (omega arith, (omega arith, (omega (arith, long, short), (omega (arith, long, short), (omega arith, (omega arith, (omega (arith, long, short), (omega (arith, long, short), (omega (arith, long, short), (omega (arith, few_imports), (omega (arith, long, short), (omega arith, (omega (arith, long, short), (omega arith, (omega (arith, long, short), (omega (arith, long, short), (omega arith, (fits.auto, (omega arith, (omega arith, (omega arith, (omega arith, (fits.heap, tt)))))))))))))))))))))))))))))))))))))))))));
    }

pub fields_read : FieldsReadBack
unfolding file_of
fields_read m fits = header_again (header_fields_of m (sections m)) (sections_bytes (sections m)) (fields_fit m fits)
