-- The items of the lists take a byte at least.
use Rattle.std.proofs.Common.{Bool}
use Rattle.obj_types.specs.declared.parts.ObjParts.{ObjParts}
use Rattle.omf_fields.specs.Taking.{TakesBytes}
use Rattle.omf_fields.proofs.ItemLaws.{takes-form}
use Rattle.omf_model.specs.Spelling.{ext_form, pub_form, com_form, member_form}
use Rattle.omf_model.specs.ReadNames.{ext_at, pub_at, com_at, member_at}
use Rattle.omf_model.proofs.NameLaws.{NoType, ext_sound, NoPubType, pub_sound, GoodCom, com_sound, MemberIn, member_sound, ext_one, pub_one, member_one, com_one}

pub ext-takes : TakesBytes ext_at
ext-takes = takes-form ext_at ext_form NoType ext_sound ext_one

pub pub-takes : (wide : Bool) → TakesBytes (pub_at wide)
pub-takes wide = takes-form (pub_at wide) (pub_form wide) NoPubType (pub_sound wide) (pub_one wide)

pub com-takes : TakesBytes com_at
com-takes = takes-form com_at com_form GoodCom com_sound com_one

pub member-takes : (flat : Bool) (p : ObjParts) → TakesBytes (member_at flat p)
member-takes flat p = takes-form (member_at flat p) member_form (MemberIn p flat) (member_sound p flat) member_one
