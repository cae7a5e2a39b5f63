-- The first words of statements.
use Rattle.std.specs.Prelude.{ℕ, List, codes}
use Rattle.session_read.specs.declared.keyword.Keyword.{Keyword}
use Rattle.session_read.specs.declared.keyword.Keyword.TheVariants.{Exit, One, Two, GetRes, Place, Bytes, Build}
use Rattle.session_read.specs.declared.keyword.OneWord.{OneWord}
use Rattle.session_read.specs.declared.keyword.OneWord.TheVariants as one
use Rattle.session_read.specs.declared.keyword.TwoWords.{TwoWords}
use Rattle.session_read.specs.declared.keyword.TwoWords.TheVariants as two
use Rattle.session_read.specs.declared.keyword.PlaceWord.{PlaceWord}
use Rattle.session_read.specs.declared.keyword.PlaceWord.TheVariants as place
use Rattle.session_read.specs.declared.keyword.BytesWord.{BytesWord}
use Rattle.session_read.specs.declared.keyword.BytesWord.TheVariants as bytes

abbrev pub one_spelled : OneWord → List ℕ
one_spelled one.Take = codes "take"
one_spelled one.Process = codes "process"
one_spelled one.Start = codes "start"
one_spelled one.Load = codes "load"
one_spelled one.Free = codes "free"

abbrev pub two_spelled : TwoWords → List ℕ
two_spelled two.Failing = codes "failing"
two_spelled two.Query = codes "query"

abbrev pub place_spelled : PlaceWord → List ℕ
place_spelled place.Touch = codes "touch"
place_spelled place.Peek = codes "peek"
place_spelled place.Shared = codes "shared"

abbrev pub bytes_spelled : BytesWord → List ℕ
bytes_spelled bytes.Write = codes "write"
bytes_spelled bytes.Debug = codes "debug"

abbrev pub spelled : Keyword → List ℕ
spelled Exit = codes "exit"
spelled (One w) = one_spelled w
spelled (Two w) = two_spelled w
spelled GetRes = codes "getres"
spelled (Place w) = place_spelled w
spelled (Bytes w) = bytes_spelled w
spelled Build = codes "build"
