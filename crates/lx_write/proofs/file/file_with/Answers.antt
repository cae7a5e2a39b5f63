use Rattle.std.proofs.Common.{◌≡◌, ◌<◌, ◌^◌, List, ℕ, length, ◌++◌, arith}
use Rattle.lx_types.proofs.Options.{ok_weaker}
use Rattle.image_model.specs.File.{file_of, sections_bytes}
use Rattle.lx_model.specs.TableSpelling.{header_spelling}
use Rattle.lx_write.specs.Value.{image_value}
use Rattle.lx_write.specs.Sections.{sections_value}
use Rattle.lx_write.proofs.Fields.{file_is, file_ends}
use Rattle.lx_write.proofs.file.file_with.Goals as goal

pub returns : goal.returns
returns c =
    let m = image_value c.args.image.now in
    let s = sections_value c.args.s.now in
    let same : (file : List ℕ) → file ≡ header_spelling c.in-Some-fields_of.fields ++ sections_bytes s → file ≡ file_of m = λ file. file_is m s c.in-Some-fields_of.fields file c.in-Some-fields_of.ensures c.requires.sections in
    let ends = c.in-Some.ensures in
    record {
      same = ok_weaker (λ file. file.items ≡ header_spelling c.in-Some-fields_of.fields ++ sections_bytes s) (λ file. file.items ≡ file_of m) c.join.result (λ file is. same file.items is) c.join.ensures;
      short = ok_weaker (λ file. file.items ≡ header_spelling c.in-Some-fields_of.fields ++ sections_bytes s) (λ file. length file.items < 2 ^ 32) c.join.result
          (λ file is. let long = file_ends m s file.items c.in-Some.places.end c.requires.sections (same file.items is) ends.places.end in let below = ends.short in omega (arith, long, below)) c.join.ensures;
    }
