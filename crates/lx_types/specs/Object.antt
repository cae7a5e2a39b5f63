-- What an object's entry says of it, and which of its pages are there.
use Rattle.std.specs.Prelude.{ℕ, ◌+◌, ◌-◌, ◌/◌, ◌==◌, nat_lt, List, if◌then◌else◌, bit_and, slice_index_or}
use Rattle.lx_types.specs.declared.object.ObjHead.{ObjHead}
use Rattle.lx_types.specs.declared.object.PageHead.{PageHead}
use Rattle.lx_types.specs.declared.object.PageKind.TheVariants.{Zero}
use Rattle.lx_types.specs.declared.object.Class.{Class}
use Rattle.lx_types.specs.declared.object.Class.TheVariants.{Code, Private, Shared}
use Rattle.lx_types.specs.declared.object.TheConstants.{OBJECT_WRITABLE, OBJECT_SHARED, PAGE_SIZE}

-- not writable is code; what is writable is each process's own, or shared by all
abbrev pub class_of : ObjHead → Class
class_of o =
    if bit_and o.flags OBJECT_WRITABLE == 0 then Code
    else if bit_and o.flags OBJECT_SHARED == 0 then Private else Shared

-- how many pages an object of this size has; its last page may be cut off by the size
abbrev pub pages_of : ObjHead → ℕ
pages_of o = (o.size + (PAGE_SIZE - 1)) / PAGE_SIZE

-- a page without data
abbrev pub zero_page : PageHead
zero_page = record { kind = Zero; at = 0; len = 0 }

-- Page i of an object, from 0: an entry of the page table, which the object's first page names from 1.
-- Past the object's page count it is a page of zeros.
abbrev pub page_of : List PageHead → ObjHead → ℕ → PageHead
page_of pages o i = if nat_lt i o.count then slice_index_or pages (o.first - 1 + i) zero_page else zero_page
