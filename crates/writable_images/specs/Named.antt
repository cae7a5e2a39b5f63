-- What is asked of an image, part by part.
use Rattle.std.specs.Prelude.{◌≡◌, ℕ, ◌<◌, ◌==◌, true, false, List, length, map, All, IfSome, slice_index_or}
use Rattle.std.specs.List.{list_any, AllByRecursion}
use Rattle.lx_types.specs.Sound.{IsNumberOf}
use Rattle.lx_types.specs.declared.fix.Fix.{Fix}
use Rattle.lx_types.specs.declared.fix.FixTarget.{FixTarget}
use Rattle.lx_types.specs.declared.fix.FixTarget.TheVariants.{Internal, Ordinal, Named as ByName, Own}
use Rattle.link_model.specs.Records.{page_count}
use Rattle.lx_exports.specs.Exports.{ExportFits, exported_of}
use Rattle.lx_fixrec.specs.Writable.{MayBeWritten}
use Rattle.lx_write.specs.declared.image.Image.{Image}
use Rattle.writable_images.specs.declared.images.Named.{Named}

-- These are the objects, imports and ordinals of the image.
pub record AreNamed (m : Image) (n : Named) : Type 0 where
  pub objects : n.objects ≡ length m.objects
  pub imports : n.imports ≡ length m.imports
  pub procs : n.procs ≡ length m.procs
  pub ordinals : (k : ℕ) → slice_index_or n.ordinals.items k false ≡ list_any (λ x. x.ordinal == k) (exported_of m.exports)

-- A target names one of these.
abbrev pub NamesOne : Named → FixTarget → Type 0
NamesOne n (Internal object offset) = IsNumberOf object n.objects
NamesOne n (Ordinal import ordinal) = IsNumberOf import n.imports
NamesOne n (ByName import k) = IsNumberOf import n.imports × (k < n.procs)
NamesOne n (Own ordinal) = slice_index_or n.ordinals.items ordinal false ≡ true

pub record PageFits (n : Named) (fixes : List Fix) : Type 0 where
  pub records : MayBeWritten fixes
  pub targets : All (λ f. NamesOne n f.target) fixes

-- What is asked beside the fixups.
pub record PartsFit (m : Image) : Type 0 where
  pub sizes : map length m.bytes ≡ map (λ o. o.size) m.objects
  pub pages : map length m.fixes ≡ map (λ o. page_count o.size) m.objects
  pub start : IfSome m.start (λ place. IsNumberOf place.0 (length m.objects))
  pub stack : IfSome m.stack (λ place. IsNumberOf place.0 (length m.objects))
  pub named : 0 < length m.name
  pub exports : AllByRecursion ExportFits m.exports
