-- The names and numbers of what a module is linked from have room in their fields.
use Rattle.std.specs.Prelude.{ℕ, ◌-◌, ◌≤◌, Bool, true, false, [], ◌∷◌, if◌then◌else◌}
use Rattle.std.specs.List.{AllByRecursion}
use Rattle.std.proofs.Common.{arith}
use Rattle.std.proofs.lemmas.List.Elements.{All-from_recursion}
use Rattle.layer_laws.specs.Ranges.{ExportInRange, ImportInRange, InputInRange, ModuleInRange}
use Rattle.gen_model.specs.Modules.{gen_input, gen_object, import_before, imports_of, own_export, refers}
use Rattle.gen_laws.proofs.FirstNames.{module_name_fits, public_name_fits}

imports_ranged : (k : ℕ) (b : Bool) → k ≤ 64 → AllByRecursion ImportInRange (if b then import_before k ∷ [] else [])
imports_ranged k true h = (record { «module» = module_name_fits (k - 1) (omega arith); entry = omega arith }, tt)
imports_ranged k false h = tt

module_ranged : (k : ℕ) → k ≤ 64 → ModuleInRange (gen_object k)
unfolding gen_object
module_ranged k h = record {
  imports = All-from_recursion ImportInRange (imports_of k) (imports_ranged k (refers k) h);
  exports = All-from_recursion ExportInRange (own_export k ∷ []) (public_name_fits k h, tt);
}

pub input_ranged : (k : ℕ) → k ≤ 64 → InputInRange (gen_input k)
input_ranged k h = record {
  objects = All-from_recursion ModuleInRange (gen_object k ∷ []) (module_ranged k h, tt);
  libs = All-from_recursion ModuleInRange [] tt;
  def = record { name = module_name_fits k h; about = omega arith; heap = omega arith; imports = All-from_recursion ImportInRange [] tt; exports = All-from_recursion ExportInRange [] tt };
  stem = module_name_fits k h;
}
