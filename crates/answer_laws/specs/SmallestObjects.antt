-- What `image` says of an object file with one 32-bit code segment whose fixups are 32-bit references to the segment itself.
use Rattle.std.specs.Prelude.{◌≡◌, ℕ, ◌≤◌, List, [], ◌∷◌, length, map, codes, Some}
use Rattle.std.specs.List.{range_with_len}
use Rattle.lx_ports.specs.Files.{Contents}
use Rattle.omf_model.specs.Object.{Obj}
use Rattle.link_model.specs.OneSegment.{IsOneSegment, one_segment, one_segment_mean}
use Rattle.answer_model.specs.Answer.{Answer}
use Rattle.answer_model.specs.ImageText.{image_text}
use Rattle.answer_model.specs.Loading.{file_limit}
use Rattle.answer_model.specs.Words.{base_of}
use Rattle.answer_model.specs.declared.said.Said.{Said}

-- The bytes of the segment at its base, printed.
abbrev pub shown_segment : ℕ → List ℕ → List ℕ → Said
shown_segment base bytes places =
    record {
      status = 0;
      text = image_text base (map (one_segment_mean base bytes places) (range_with_len 0 (length bytes)));
    }

-- `image FILE BASE`, where FILE has such an object file.
abbrev pub ShowsSmallestObjects : Type 0
ShowsSmallestObjects =
    (contents : Contents) (file word object name bytes places : List ℕ) (base : ℕ)
    → base_of word ≡ Some base → contents file ≡ Some object → length object ≤ file_limit
    → Obj object (one_segment name bytes places) → IsOneSegment bytes places
    → Answer (codes "image" ∷ file ∷ word ∷ []) contents [] (shown_segment base bytes places)
