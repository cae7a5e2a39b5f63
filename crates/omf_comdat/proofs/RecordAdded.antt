-- What a COMDAT record adds, in one step or in two.
use Rattle.std.proofs.Common.{◌≡◌, ℕ, true, false, [], ◌∷◌, ◌++◌, refl, sym}
use Rattle.std.proofs.lemmas.List.{append-nil}
use Rattle.obj_types.specs.declared.parts.ObjParts.{ObjParts}
use Rattle.omf_model.specs.Add.{add_comdat}
use Rattle.omf_model.specs.Comdat.{ComDat, is_continued, piece_with, data_with}
use Rattle.omf_model.specs.ReadComdat.{number_so_far}
use Rattle.omf_comdat.specs.Turns.{with_begun, with_data}

pub goes_on : (p : ObjParts) (d : ComDat) (number : ℕ) → number ≡ number_so_far p d → is_continued d.flags ≡ true → with_data p number d ≡ add_comdat p d
unfolding add_comdat
goes_on p d number same on =
    rw (same, on) (λ i. record p {
      «module» = record p.module { pubs = sym (append-nil p.module.pubs) i; pieces = p.module.pieces ++ piece_with (number_so_far p d) d ∷ [] };
      last = data_with (number_so_far p d) d;
      comdats = sym (append-nil p.comdats) i;
    })

pub begins : (p : ObjParts) (d : ComDat) (number : ℕ) → number ≡ number_so_far p d → is_continued d.flags ≡ false → with_data (with_begun p number d) number d ≡ add_comdat p d
unfolding add_comdat
begins p d number same first = rw (same, first) refl
