-- The error of this crate for an error of the crate below.
use Rattle.redl_markup.specs.declared.error.MarkupError.{MarkupError}
use Rattle.redl_markup.specs.declared.error.MarkupError.TheVariants as markup
use Rattle.redl_xml.specs.declared.error.XmlError.{XmlError}
use Rattle.redl_xml.specs.declared.error.XmlError.TheVariants.{Unreadable, NoMemory}

abbrev pub error_of : MarkupError → XmlError
error_of markup.Unreadable = Unreadable
error_of markup.NoMemory = NoMemory
