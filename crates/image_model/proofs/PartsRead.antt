-- The parts of a written file are those of its image.
use Rattle.std.proofs.Common.{◌≡◌, ℕ, ◌<◌, ◌^◌, List, [], length, filter, Option, Some, None, Result, refl, ap, ◌∙◌, arith}
use Rattle.std.specs.Prelude.{◌==◌, ◌++◌, IfSome, Bool, if◌then◌else◌}
use Rattle.lx_types.specs.declared.fix.FixTarget.{FixTarget}
use Rattle.lx_types.specs.declared.object.ObjHead.{ObjHead}
use Rattle.lx_types.specs.declared.object.PageHead.{PageHead}
use Rattle.lx_types.specs.declared.parts.Parts.{Parts}
use Rattle.lx_types.specs.declared.refusal.LxRefusal.{LxRefusal}
use Rattle.lx_types.specs.Sound.{IsNumberOf}
use Rattle.lx_model.specs.declared.header_fields.TheConstants.{EIP}
use Rattle.lx_model.specs.Reading.{value_or}
use Rattle.lx_model.specs.Header.{field, start_of}
use Rattle.lx_model.specs.EntryTable.{Numbered}
use Rattle.lx_model.specs.Module.{once, is_reference, refs_of, parts_of}
use Rattle.lx_model.specs.NameTables.{Named, first_name, names_after_first, other_names}
use Rattle.lx_model.proofs.NamesRead.{not_zero}
use Rattle.image_model.specs.Image.{Image}
use Rattle.image_model.specs.File.{file_of, object_field, offset_field}
use Rattle.image_model.specs.ReadBack.{ImageFits, parts_of_image}
use Rattle.image_model.proofs.Fields.{tables}
use Rattle.image_model.proofs.RecordsRead.{targets_read}
use Rattle.image_model.proofs.SectionsRead.{sections_read}

start_by : ℕ → ℕ → Option (ℕ × ℕ)
start_by object offset = if object == 0 then None else Some (object, offset)

started : (count : ℕ) (start : Option (ℕ × ℕ)) → IfSome start (λ place. IsNumberOf place.0 count × (place.1 < 2 ^ 32)) → start_by (object_field start) (offset_field start) ≡ start
unfolding start_by
started count None fits = refl
started count (Some place) fits = ap (λ (b : Bool). if b then None else Some place) (not_zero place.0 (omega (arith, fits.0.0)))

start_read : (m : Image) → ImageFits m → start_of (file_of m) ≡ m.start
unfolding start_by
start_read m fits =
    let t = tables m fits in
    ap (λ (n : ℕ). start_by n (field (file_of m) EIP)) t.start_object
    ∙ ap (λ (n : ℕ). start_by (object_field m.start) n) t.start_offset
    ∙ started (length m.objects) m.start fits.start

abbrev parts : List ℕ → List ℕ → ℕ → Option (ℕ × ℕ) → List ObjHead → List PageHead → List (ℕ × ℕ) → List (List ℕ) → ℕ → List Numbered → List Named → List FixTarget → Parts
parts file name flags start objects pages spans imports procs_at entries names refs = record {
  file = file;
  name = name;
  flags = flags;
  start = start;
  objects = objects;
  pages = pages;
  fix_spans = spans;
  imports = imports;
  procs_at = procs_at;
  entries = entries;
  names = names;
  refs = refs;
}

same : {file name name' : List ℕ} {flags flags' : ℕ} {start start' : Option (ℕ × ℕ)} {objects objects' : List ObjHead} {pages pages' : List PageHead} {spans spans' : List (ℕ × ℕ)} {imports imports' : List (List ℕ)} {procs_at procs_at' : ℕ} {entries entries' : List Numbered} {names names' : List Named} {refs refs' : List FixTarget}
    → name ≡ name' → flags ≡ flags' → start ≡ start' → objects ≡ objects' → pages ≡ pages' → spans ≡ spans' → imports ≡ imports' → procs_at ≡ procs_at' → entries ≡ entries' → names ≡ names' → refs ≡ refs'
    → parts file name flags start objects pages spans imports procs_at entries names refs ≡ parts file name' flags' start' objects' pages' spans' imports' procs_at' entries' names' refs'
same a b c d e f g h i j k = cc

pub parts_read : (m : Image) → ImageFits m → parts_of (file_of m) ≡ parts_of_image m
unfolding parts_of parts_of_image refs_of
parts_read m fits =
    let t = tables m fits in
    let s = sections_read m fits in
    let file = file_of m in
    same
    (ap (λ (r : Result (List Named) LxRefusal). first_name (value_or [] r)) s.residents)
    t.flags
    (start_read m fits)
    s.objects
    s.pages
    s.spans
    (ap (λ (r : Result (List (List ℕ)) LxRefusal). value_or [] r) s.imports)
    t.procs
    (ap (λ (r : Result (List Numbered) LxRefusal). value_or [] r) s.entries)
    (ap (λ (r : Result (List Named) LxRefusal). names_after_first (value_or [] r) ++ names_after_first (value_or [] (other_names file))) s.residents
    ∙ ap (λ (r : Result (List Named) LxRefusal). names_after_first m.residents ++ names_after_first (value_or [] r)) s.others)
    (ap (λ (ts : List FixTarget). once (filter is_reference ts)) (targets_read m fits))
