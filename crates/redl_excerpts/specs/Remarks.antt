-- The comments on a revision, as a listing shows them: the first ones, and how many there are (our own rule).
use Rattle.std.specs.Prelude.{ℕ, List, [], IfSome}
use Rattle.std.specs.Str.{IsUtf8}
use Rattle.redl_stamp.specs.Moment.{IsMoment}
use Rattle.redl_excerpts.specs.declared.remark.Remark.{Remark}

pub record Remarks : Type 0 where
  pub first : List Remark
  pub count : ℕ

abbrev pub no_remarks : Remarks
no_remarks = record { first = []; count = 0 }

-- what a comment keeps: its texts are UTF-8, and its moment lies in the years 0000 to 9999
pub record IsRemark (remark : Remark) : Type 0 where
  pub author : IsUtf8 remark.author
  pub moment : IfSome remark.seconds IsMoment
  pub id : IsUtf8 remark.id
  pub reply_to : IfSome remark.reply_to IsUtf8
  pub text : IsUtf8 remark.text
