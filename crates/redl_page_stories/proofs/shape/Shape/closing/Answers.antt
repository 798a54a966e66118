-- The tags that close a shape are those of its definition: an answer for each shape, by its name.
use Rattle.std.proofs.Common.{refl}
use Rattle.redl_page_stories.proofs.shape.Shape.closing.Goals as goal

pub returns-in-Nothing : goal.returns-in-Nothing
returns-in-Nothing c = rw c.in-Nothing.is refl

pub returns-in-Paragraph : goal.returns-in-Paragraph
returns-in-Paragraph c = rw c.in-Paragraph.is refl

pub returns-in-Division : goal.returns-in-Division
returns-in-Division c = rw c.in-Division.is refl

pub returns-in-Table : goal.returns-in-Table
returns-in-Table c = rw c.in-Table.is refl

pub returns-in-Row : goal.returns-in-Row
returns-in-Row c = rw c.in-Row.is refl

pub returns-in-Cell : goal.returns-in-Cell
returns-in-Cell c = rw c.in-Cell.is refl

pub returns-in-TextBox : goal.returns-in-TextBox
returns-in-TextBox c = rw c.in-TextBox.is refl

pub returns-in-Tab : goal.returns-in-Tab
returns-in-Tab c = rw c.in-Tab.is refl

pub returns-in-Break : goal.returns-in-Break
returns-in-Break c = rw c.in-Break.is refl

pub returns-in-Hyphen : goal.returns-in-Hyphen
returns-in-Hyphen c = rw c.in-Hyphen.is refl

pub returns-in-SoftHyphen : goal.returns-in-SoftHyphen
returns-in-SoftHyphen c = rw c.in-SoftHyphen.is refl

pub returns-in-Picture : goal.returns-in-Picture
returns-in-Picture c = rw c.in-Picture.is refl

pub returns-in-OtherForm : goal.returns-in-OtherForm
returns-in-OtherForm c = rw c.in-OtherForm.is refl

pub returns-in-Bold : goal.returns-in-Bold
returns-in-Bold c = rw c.in-Bold.is refl

pub returns-in-Italic : goal.returns-in-Italic
returns-in-Italic c = rw c.in-Italic.is refl

pub returns-in-BoldItalic : goal.returns-in-BoldItalic
returns-in-BoldItalic c = rw c.in-BoldItalic.is refl

pub returns-in-Hidden : goal.returns-in-Hidden
returns-in-Hidden c = rw c.in-Hidden.is refl

pub returns-in-HiddenBold : goal.returns-in-HiddenBold
returns-in-HiddenBold c = rw c.in-HiddenBold.is refl

pub returns-in-HiddenItalic : goal.returns-in-HiddenItalic
returns-in-HiddenItalic c = rw c.in-HiddenItalic.is refl

pub returns-in-HiddenBoldItalic : goal.returns-in-HiddenBoldItalic
returns-in-HiddenBoldItalic c = rw c.in-HiddenBoldItalic.is refl

pub returns-in-Footnote : goal.returns-in-Footnote
returns-in-Footnote c = rw c.in-Footnote.is refl

pub returns-in-Endnote : goal.returns-in-Endnote
returns-in-Endnote c = rw c.in-Endnote.is refl

pub returns-in-Remark : goal.returns-in-Remark
returns-in-Remark c = rw c.in-Remark.is refl

pub returns-in-Symbol : goal.returns-in-Symbol
returns-in-Symbol c = rw c.in-Symbol.is refl

pub returns-in-FootnoteReference : goal.returns-in-FootnoteReference
returns-in-FootnoteReference c = rw c.in-FootnoteReference.is refl

pub returns-in-EndnoteReference : goal.returns-in-EndnoteReference
returns-in-EndnoteReference c = rw c.in-EndnoteReference.is refl

pub returns-in-RemarkStart : goal.returns-in-RemarkStart
returns-in-RemarkStart c = rw c.in-RemarkStart.is refl

pub returns-in-RemarkEnd : goal.returns-in-RemarkEnd
returns-in-RemarkEnd c = rw c.in-RemarkEnd.is refl

pub returns-in-RemarkReference : goal.returns-in-RemarkReference
returns-in-RemarkReference c = rw c.in-RemarkReference.is refl

pub returns-in-Blocks : goal.returns-in-Blocks
returns-in-Blocks c = rw c.in-Blocks.is refl

pub returns-in-Foreign : goal.returns-in-Foreign
returns-in-Foreign c = rw c.in-Foreign.is refl

pub returns-in-Equation : goal.returns-in-Equation
returns-in-Equation c = rw c.in-Equation.is refl

pub returns-in-Argument : goal.returns-in-Argument
returns-in-Argument c = rw c.in-Argument.is refl

pub returns-in-Divisor : goal.returns-in-Divisor
returns-in-Divisor c = rw c.in-Divisor.is refl

pub returns-in-Below : goal.returns-in-Below
returns-in-Below c = rw c.in-Below.is refl

pub returns-in-Above : goal.returns-in-Above
returns-in-Above c = rw c.in-Above.is refl

pub returns-in-Bracketed : goal.returns-in-Bracketed
returns-in-Bracketed c = rw c.in-Bracketed.is refl

pub returns-in-Root : goal.returns-in-Root
returns-in-Root c = rw c.in-Root.is refl

pub returns-in-Operator : goal.returns-in-Operator
returns-in-Operator c = rw c.in-Operator.is refl

pub returns-in-Accent : goal.returns-in-Accent
returns-in-Accent c = rw c.in-Accent.is refl

pub returns-in-Delimiters : goal.returns-in-Delimiters
returns-in-Delimiters c = rw c.in-Delimiters.is refl
