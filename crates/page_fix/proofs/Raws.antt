-- The bytes of a page by its kind, and pages that are filled up with zeros.
use Rattle.std.proofs.Common.{length-take, ◌≡◌, ℕ, ◌-◌, ◌<◌, ◌≤◌, List, [], length, min, take, replicate, refl, sym, ◌∙◌, ap, ⊎_elim, subst, arith}
use Rattle.std.specs.Prelude.{slice_index}
use Rattle.std.proofs.lemmas.List.{length-replicate, get_or-take, get_or_append_left, get_or-append_right, get_or-replicate, get_or_past}
use Rattle.std.proofs.lemmas.Bool.{cases_lt}
use Rattle.lx_types.specs.declared.object.PageId.{PageId}
use Rattle.lx_types.specs.declared.object.PageKind.{PageKind}
use Rattle.lx_types.specs.declared.parts.Parts.{Parts}
use Rattle.lx_types.specs.Parts.{page_at, data_at}
use Rattle.lx_model.specs.Packed.{filled}
use Rattle.std.specs.Prelude.{Result, Ok, Err, is_err, true}
use Rattle.lx_model.specs.Reading.{value_or}
use Rattle.lx_model.specs.Iterated.{expansion}
use Rattle.lx_iter.specs.Expansion.{Expands}
use Rattle.lx_iter.specs.declared.refusal.IterRefusal.{IterRefusal}
use Rattle.lx_model.specs.Fixed.{Raw, kind_bytes, page_bytes}

pub raw_by_kind : (m : Parts) (p : PageId) (kind : PageKind) (i : ℕ) → (page_at m p).kind ≡ kind → slice_index (kind_bytes kind (data_at m p)) i ≡ Raw m p i
unfolding Raw page_bytes
raw_by_kind m p kind i is = ap (λ (k : PageKind). slice_index (kind_bytes k (data_at m p)) i) (sym is)

zeros_are_zero : (n i : ℕ) → slice_index (replicate n 0) i ≡ 0
zeros_are_zero n i = ⊎_elim (λ (h : i < n). get_or-replicate n i 0 0 h) (λ (h : n ≤ i). get_or_past (replicate n 0) i 0 (subst (λ (k : ℕ). k ≤ i) (sym (length-replicate n 0)) h)) (cases_lt i n)

pub filled_at : (bytes : List ℕ) (i : ℕ) → slice_index (filled bytes) i ≡ slice_index bytes i
filled_at bytes i = ⊎_elim
    (λ (h : i < length bytes). get_or_append_left bytes (replicate (4096 - length bytes) 0) 0 i h)
    (λ (h : length bytes ≤ i).
    get_or-append_right bytes (replicate (4096 - length bytes) 0) (length bytes) i 0 refl h
    ∙ zeros_are_zero (4096 - length bytes) (i - length bytes)
    ∙ sym (get_or_past bytes i 0 h))
    (cases_lt i (length bytes))

-- a page takes no more than its bytes
pub cut_at : (bytes : List ℕ) (n i : ℕ) → n ≡ min (length bytes) 4096 → i < 4096 → slice_index (take n bytes) i ≡ slice_index bytes i
cut_at bytes n i is below = ⊎_elim
    (λ (h : i < n). get_or-take n bytes i 0 h)
    (λ (h : n ≤ i). get_or_past (take n bytes) i 0 (omega (arith, length-take n bytes)) ∙ sym (get_or_past bytes i 0 (omega arith)))
    (cases_lt i n)

-- groups that have a fault give nothing
pub faulty_is_empty : (r : Result (Unit {0}) IterRefusal) (bytes page : List ℕ) → is_err r ≡ true → Expands r bytes page → value_or [] (expansion bytes) ≡ []
faulty_is_empty (Ok done) bytes page wrong expands = cc
faulty_is_empty (Err refusal) bytes page wrong expands = ap (value_or []) expands
