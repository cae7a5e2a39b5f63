-- The image of a link fits the format, so that its file is read again.
use Rattle.std.specs.Prelude.{◌≡◌, ◌≢◌, ℕ, ◌<◌, ◌^◌, List, [], ◌∷◌, IfSome, length}
use Rattle.std.specs.List.{AllByRecursion}
use Rattle.std.proofs.Common.{ap, sym, arith, subst}
use Rattle.lx_types.specs.Sound.{IsNumberOf}
use Rattle.link_model.specs.Link.{Link}
use Rattle.link_model.specs.Layout.{objects}
use Rattle.link_model.specs.Start.{Start}
use Rattle.link_model.specs.ImportTables.{link_pairs, modules_in, procs_in, name_table}
use Rattle.lx_model.specs.Bundles.{BundleFits}
use Rattle.lx_model.specs.JoinedEntries.{bundles_for}
use Rattle.lx_model.specs.NameTables.{Named}
use Rattle.image_model.specs.Exported.{exported_of}
use Rattle.image_model.specs.File.{file_of}
use Rattle.image_model.specs.Image.{Image}
use Rattle.image_model.specs.Linked.{image_of}
use Rattle.image_model.specs.ObjectTable.{object_heads_from}
use Rattle.image_model.specs.ReadBack.{ImageFits}
use Rattle.image_model.specs.Sections.{sections}
use Rattle.image_model.proofs.FilesRead.{files_read}
use Rattle.image_model.proofs.LinksRead.{links_read}
use Rattle.image_model.proofs.LinkTables.{tables_fit}
use Rattle.image_model.proofs.Places.{file_long}
use Rattle.image_model.proofs.FewImports.{few-modules}
use Rattle.layer_laws.specs.LinkedImages.{LinkedImagesFit, LinkedFilesRead}
use Rattle.layer_laws.proofs.Given.{Given, given}
use Rattle.layer_laws.proofs.Sizes.{few-objects}
use Rattle.layer_laws.proofs.Objects.{objects-fit, few-pages}
use Rattle.layer_laws.proofs.Forms.{forms-fit}
use Rattle.layer_laws.proofs.Exports.{exports-fit}
use Rattle.layer_laws.proofs.Names.{residents-fit, others-fit, modules-fit}
use Rattle.layer_laws.proofs.Entries.{bundles-fit, ordinals-few}
use Rattle.layer_laws.proofs.Records.{records-fit}
use Rattle.layer_laws.proofs.Targets.{objects-counted, targets-there}
use Rattle.layer_laws.proofs.Places.{start-fits, stack-fits, auto-fits, flags-fit}

procs_short : (m : Image) → length (file_of m) < 2 ^ 32 → length (name_table m.procs) < 2 ^ 32
unfolding sections
procs_short m short = let long = file_long m in omega (arith, long, short)

not_empty : (n : Named) (ns : List Named) → n ∷ ns ≢ []
not_empty n ns e = let none : length (n ∷ ns) ≡ 0 = ap length e in absurd (omega (arith, none))

image_fits : (l : Link) → Given l → length (file_of (image_of l)) < 2 ^ 32 → length (name_table (procs_in (link_pairs l))) < 2 ^ 32 → ImageFits (image_of l)
unfolding image_of
image_fits l g short names =
    let counted : length (object_heads_from 1 (objects l)) ≡ length (objects l) = objects-counted (objects l) 1 in
    let exports = exports-fit l g names in
    let few = few-modules l g.sym_none in
    let tables = tables_fit l in
    let objects_few = few-objects l g.lay_none in
    record {
      short = short;
      flags = flags-fit l.def;
      kind = tables.kind;
      start = subst (λ (n : ℕ). IfSome (Start l) (λ place. IsNumberOf place.0 n × (place.1 < 2 ^ 32))) (sym counted) (start-fits l);
      stack = stack-fits l g.lay_none;
      auto = auto-fits l g.lay_none;
      heap = g.def_range.heap;
      few_objects = omega (arith, counted, objects_few);
      objects = objects-fit l g.lay_none g.def;
      own_pages = tables.own_pages;
      few_pages = few-pages l g.lay_none;
      pages = forms-fit l;
      each = tables.each;
      records = records-fit l g names;
      targets = targets-there l g;
      named = not_empty _ _;
      residents = residents-fit l g (exported_of l) exports;
      others = others-fit l g (exported_of l) exports;
      entries = subst (λ (n : ℕ). AllByRecursion (BundleFits n (length (modules_in (link_pairs l)))) (bundles_for (exported_of l))) (sym counted) (bundles-fit l (exported_of l) few exports);
      ordinals = ordinals-few l (exported_of l) exports;
      few_imports = omega (arith, few);
      imports = modules-fit l g;
    }

procs_of : (l : Link) → length (file_of (image_of l)) < 2 ^ 32 → length (name_table (procs_in (link_pairs l))) < 2 ^ 32
unfolding image_of
procs_of l short = procs_short (image_of l) short

pub images_fit : LinkedImagesFit
images_fit input l links short = image_fits l (given input l links) short (procs_of l short)

pub linked_read : LinkedFilesRead
linked_read input l links short =
    let fits = images_fit input l links short in record { means = files_read (image_of l) fits; linked = links_read l fits }
