-- How the logic stores calls: as a number for the kind and its fault, and two lists of bytes.
use Rattle.std.specs.Prelude.{◌≡◌, ℕ, List, [], cond, ◌==◌, Ok, Err, refl}
use Rattle.std.specs.Coded.{Coded, code_by, coded×, coded_ℕ, coded_list}
use Rattle.lx_ports.specs.declared.files.LoadFault.TheVariants as load_fault
use Rattle.lx_ports.specs.declared.files.SaveFault.TheVariants as save_fault
use Rattle.lx_ports.specs.Calls.{Call, load, save}

abbrev Parts : Type 0
Parts = ℕ × (List ℕ × List ℕ)

abbrev to_parts : Call → Parts
to_parts (load name (Ok bytes)) = (0, (name, bytes))
to_parts (load name (Err load_fault.Absent)) = (1, (name, []))
to_parts (load name (Err load_fault.TooLong)) = (2, (name, []))
to_parts (load name (Err load_fault.Failed)) = (3, (name, []))
to_parts (load name (Err load_fault.NoMemory)) = (4, (name, []))
to_parts (save name bytes (Ok _)) = (5, (name, bytes))
to_parts (save name bytes (Err _)) = (6, (name, bytes))

abbrev from_parts : Parts → Call
from_parts p =
    cond (p.0 == 0) (load p.1.0 (Ok p.1.1)) (cond (p.0 == 1) (load p.1.0 (Err load_fault.Absent))
    (cond (p.0 == 2) (load p.1.0 (Err load_fault.TooLong)) (cond (p.0 == 3) (load p.1.0 (Err load_fault.Failed))
    (cond (p.0 == 4) (load p.1.0 (Err load_fault.NoMemory)) (cond (p.0 == 5) (save p.1.0 p.1.1 (Ok tt))
    (save p.1.0 p.1.1 (Err save_fault.Failed)))))))

pub from_parts-to_parts : (c : Call) → from_parts (to_parts c) ≡ c
from_parts-to_parts (load name (Ok bytes)) = refl
from_parts-to_parts (load name (Err load_fault.Absent)) = refl
from_parts-to_parts (load name (Err load_fault.TooLong)) = refl
from_parts-to_parts (load name (Err load_fault.Failed)) = refl
from_parts-to_parts (load name (Err load_fault.NoMemory)) = refl
from_parts-to_parts (save name bytes (Ok _)) = refl
from_parts-to_parts (save name bytes (Err save_fault.Failed)) = refl

abbrev pub calls_code : Coded (List Call)
calls_code =
    let bytes = coded_list coded_ℕ in
    coded_list (code_by Parts (coded× coded_ℕ (coded× bytes bytes)) to_parts from_parts from_parts-to_parts)
