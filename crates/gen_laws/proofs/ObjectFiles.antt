-- The names and numbers of an object module have room in their fields, so that it has an object file.
use Rattle.std.specs.Prelude.{ℕ, ◌-◌, ◌≤◌, map}
use Rattle.std.specs.List.{AllByRecursion, range_with_len}
use Rattle.std.proofs.Common.{arith, subst, sym}
use Rattle.implib_model.specs.ImportModule.{NamesFit}
use Rattle.omf_write.specs.ObjectFits.{ExtFits, FixFits, ObjectFits, PieceFits}
use Rattle.omf_write.specs.Written.{WritableModulesHaveFiles}
use Rattle.gen_model.specs.Modules.{externals_of, external_before, gen_object, import_before, imports_of, reference, refers, zero_piece}
use Rattle.gen_laws.specs.Laws.{ObjectsHaveFiles}
use Rattle.gen_laws.proofs.FirstNames.{module_name_fits, public_name_fits}
use Rattle.gen_laws.proofs.FirstShape.{module_is, names_of, shape}
use Rattle.gen_laws.proofs.WritableModules.{objects_written, of_either}
use Rattle.gen_laws.proofs.WritableRanges.{each_of_numbers}

externals_fit : (k : ℕ) → k ≤ 64 → AllByRecursion ExtFits (externals_of k)
externals_fit k few = of_either ExtFits (refers k) (external_before k) (public_name_fits (k - 1) (omega (arith, few)))

imports_fit : (k : ℕ) → k ≤ 64 → AllByRecursion NamesFit (imports_of k)
imports_fit k few =
    of_either NamesFit (refers k) (import_before k)
    (record { internal = public_name_fits (k - 1) (omega (arith, few)); from = module_name_fits (k - 1) (omega (arith, few)); entry = tt })

-- With so many pieces of data, and so many references.
fits : (k pieces references : ℕ) → k ≤ 64 → pieces ≤ 8 → references ≤ 2048
    → ObjectFits (shape (refers k) (names_of k) (map zero_piece (range_with_len 0 pieces)) (map (reference k) (range_with_len 0 references)))
fits k pieces references few few_pieces few_references =
    let own = public_name_fits k few in
    record {
      name = own;
      segments = record { segs = (record { name = omega arith; class = omega arith; len = omega arith }, tt); groups = (omega arith, tt) };
      symbols = record {
        exts = externals_fit k few;
        pubs = (record { name = own; place = omega arith }, tt);
        imports = imports_fit k few;
        exports = (record { name = own; internal = own; ordinal = omega arith }, tt);
        deflibs = tt;
      };
      pieces = each_of_numbers PieceFits zero_piece 0 pieces (λ j low high. omega (arith, high, few_pieces));
      fixes = each_of_numbers FixFits (reference k) 0 references (λ i low high. omega (arith, high, few_references));
      start = tt;
    }

pub objects_read : WritableModulesHaveFiles → ObjectsHaveFiles
objects_read written k one =
    written (gen_object k) (objects_written k one) (subst ObjectFits (sym (module_is k)) (fits k 8 2048 one.1 (omega arith) (omega arith)))
