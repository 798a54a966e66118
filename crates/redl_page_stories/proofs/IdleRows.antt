-- Worked rows: what is shown of elements that a list keeps as text.
use Rattle.std.proofs.Common.{◌≡◌, ℕ, List, [], Some, None, bytes_eq, codes, false, refl, if◌then◌else◌}
use Rattle.std.specs.Fmt.{digits}
use Rattle.redl_markup.specs.Attributes.{attributes_of}
use Rattle.redl_grammar.specs.Characters.{is_name_start, is_name_character, is_space}
use Rattle.redl_grammar.specs.Names.{may_start, may_follow}
use Rattle.redl_grammar.specs.ScanNames.{name_at, word_at, char_at, name_end, name_step}
use Rattle.redl_grammar.specs.ScanTags.{attribute_in, attribute_at, equated_at, quoted_at, quote_at, is_value}
use Rattle.redl_reading.specs.Lists.{field_at}
use Rattle.redl_tree.specs.Model.Nodes.{Nodes, ◌⊕◌}
use Rattle.redl_tree.proofs.Model.Build.{opened, closed, words}
use Rattle.redl_idle.specs.Shows.{shows}
use Rattle.redl_page_stories.specs.Inside.Emphasis.{emphasis_rule}
use Rattle.redl_hidden.specs.Styles.{longest_chain}
use Rattle.redl_html.specs.Pieces.{pieces_text}
use Rattle.redl_places.specs.declared.sign.NoteSign.TheVariants.{Count}
use Rattle.redl_shown.specs.Shown.{shown}
use Rattle.redl_page_stories.specs.Document.{in_story, nodes_pieces}
use Rattle.redl_page_stories.specs.Facts.{Facts}
use Rattle.redl_page_stories.specs.declared.emphasis.Level.TheVariants.{Kids}

-- footnote 3 is the first one; no style hides
abbrev facts : Facts
facts = record {
  revisions = [];
  signs = record { footnote = λ id. if bytes_eq id (codes "3") then Some (Count 1) else None; endnote = λ id. None };
  hidden = record { styles = []; document = false };
}

-- what is shown of them, which is what they show by themselves (`IdleLaws`)
abbrev written : Nodes → List ℕ
written nodes = pieces_text (nodes_pieces shown facts in_story nodes)

-- the same where an ancestor holds properties
abbrev silent : Nodes → List ℕ
silent nodes = pieces_text (nodes_pieces shown facts (record { loud = false; shows = false; hides = false }) nodes)

-- bold, and not italic, with a note
price : Nodes
price = opened "rPr" (closed "b" "" ⊕ closed "i" " w:val=\"0\"") ⊕ opened "t" (words "Price") ⊕ closed "footnoteReference" " w:id=\"3\""

emphasis : shows emphasis_rule Kids price ≡ codes "b"
unfolding price attributes_of attribute_in attribute_at name_at word_at char_at name_end name_step may_start may_follow is_name_start is_name_character is_space equated_at quoted_at field_at quote_at is_value longest_chain
emphasis = refl

run : written (opened "r" price) ≡ codes "<b>Price<sup>1</sup></b>"
unfolding price digits attributes_of attribute_in attribute_at name_at word_at char_at name_end name_step may_start may_follow is_name_start is_name_character is_space equated_at quoted_at field_at quote_at is_value longest_chain
run = refl

-- nothing of it where an ancestor holds properties
in_properties : silent (opened "r" price) ≡ []
unfolding price longest_chain
in_properties = refl

-- hidden and italic, and one that its text says is not hidden
secret : Nodes
secret =
    opened "r" (opened "rPr" (closed "i" "" ⊕ closed "vanish" "") ⊕ opened "t" (words "and costs"))
    ⊕ opened "r" (opened "rPr" (closed "vanish" " w:val=\"false\"") ⊕ opened "t" (words "."))

hidden : written secret ≡ codes "<span class=\"hidden\"><i>and costs</i></span>."
unfolding secret attributes_of attribute_in attribute_at name_at word_at char_at name_end name_step may_start may_follow is_name_start is_name_character is_space equated_at quoted_at field_at quote_at is_value longest_chain
hidden = refl

-- a page ends, and a line; between them a hyphen that a line may break at
breaks : Nodes
breaks = opened "r" (closed "br" " w:type=\"page\"" ⊕ opened "t" (words "co") ⊕ closed "softHyphen" "" ⊕ opened "t" (words "op") ⊕ closed "br" " w:type=\"textWrapping\"" ⊕ closed "cr" "")

shown_breaks : written breaks ≡ codes "<br><span class=\"page-end\"></span>co&#173;op<br><br>"
unfolding breaks attributes_of attribute_in attribute_at name_at word_at char_at name_end name_step may_start may_follow is_name_start is_name_character is_space equated_at quoted_at field_at quote_at is_value longest_chain
shown_breaks = refl
