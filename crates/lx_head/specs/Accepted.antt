-- Which header fields the format accepts, as doublewords.
-- "32-bit Linear eXecutable Module Format": "LX Header".
use Rattle.std.specs.Prelude.{◌≡◌, ℕ, ◌/◌, ◌%◌, ◌^◌, ◌≤◌, List, IsTrue, slice_index}
use Rattle.lx_types.specs.declared.object.TheConstants.{PAGE_SIZE}
use Rattle.lx_types.specs.declared.limits.TheConstants.{MAX_PAGES, MAX_OBJECTS}
use Rattle.lx_model.specs.declared.header_fields.TheConstants.{SIGNATURE, FORMAT_LEVEL, CPU_TYPE, MODULE_FLAGS, MODULE_PAGES, PAGE_SIZE_FIELD, PAGE_OFFSET_SHIFT, OBJECT_COUNT, LX_SIGNATURE}
use Rattle.lx_model.specs.Header.{is_module_flags}

-- the doubleword at an offset of the header
abbrev pub doubleword : List ℕ → ℕ → ℕ
doubleword fields offset = slice_index fields (offset / 4)

-- the two words of a doubleword
abbrev pub low_word : ℕ → ℕ
low_word n = n % 2 ^ 16

abbrev pub high_word : ℕ → ℕ
high_word n = n / 2 ^ 16

pub record Accepted (fields : List ℕ) : Type 0 where
  -- `LX`, with little-endian bytes and words
  pub signature : doubleword fields SIGNATURE ≡ LX_SIGNATURE
  pub level : doubleword fields FORMAT_LEVEL ≡ 0
  -- the CPU: 80286, 80386 or 80486; the system: OS/2
  pub cpu : (1 ≤ low_word (doubleword fields CPU_TYPE)) × (low_word (doubleword fields CPU_TYPE) ≤ 3)
  pub system : high_word (doubleword fields CPU_TYPE) ≡ 1
  pub flags : IsTrue (is_module_flags (doubleword fields MODULE_FLAGS))
  pub pages : doubleword fields MODULE_PAGES ≤ MAX_PAGES
  pub page_size : doubleword fields PAGE_SIZE_FIELD ≡ PAGE_SIZE
  pub page_shift : doubleword fields PAGE_OFFSET_SHIFT ≤ 12
  pub objects : doubleword fields OBJECT_COUNT ≤ MAX_OBJECTS
