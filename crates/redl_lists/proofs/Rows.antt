-- Worked rows: what levels, lists, nums and styles say, by computing (ECMA-376 Part 1, 17.9 and 17.7.4).
use Prim.Native.String.{String}
use Rattle.std.proofs.Common.{◌≡◌, [], ◌∷◌, codes, Some, None, true, false, refl}
use Rattle.std.specs.Fmt.{digits}
use Rattle.redl_tree.specs.Model.Nodes.{Nodes, End, ◌⊕◌}
use Rattle.redl_tree.specs.Model.View.{Element}
use Rattle.redl_tree.specs.declared.kinds.Space.TheVariants.{W}
use Rattle.redl_tree.proofs.Model.Build.{tag_in, opened, opened_with, closed}
use Rattle.redl_markup.specs.Attributes.{attributes_of}
use Rattle.redl_grammar.specs.Characters.{is_name_start, is_name_character, is_space}
use Rattle.redl_grammar.specs.Names.{may_start, may_follow}
use Rattle.redl_grammar.specs.ScanNames.{name_at, word_at, char_at, name_end, name_step}
use Rattle.redl_grammar.specs.ScanTags.{attribute_in, attribute_at, equated_at, quoted_at, quote_at, is_value}
use Rattle.redl_reading.specs.Lists.{field_at}
use Rattle.redl_numerals.specs.declared.format.Format.TheVariants.{Decimal, Padded, LowerRoman}
use Rattle.redl_numerals.specs.declared.number.Number.TheVariants.{Plus}
use Rattle.redl_lists.specs.Levels.{level_of}
use Rattle.redl_lists.specs.Tables.{num_of, style_of, abstract_of}

-- an element of W with these attributes and kids
element_with : String → String → Nodes → Element
element_with name tail kids = record { tag = tag_in W "w" name tail (End []); kids = kids }

-- each property of a level
level_row : level_of (element_with "lvl" "" (closed "start" " w:val=\"3\"" ⊕ closed "numFmt" " w:val=\"lowerRoman\"" ⊕ closed "lvlRestart" " w:val=\"1\"" ⊕ closed "pStyle" " w:val=\"H1\""
    ⊕ closed "isLgl" "" ⊕ closed "lvlText" " w:val=\"(%1)\"" ⊕ closed "start" " w:val=\"4\""))
    ≡ record { start = Some (Plus 3); restart = Some (Plus 1); format = LowerRoman; is_legal = true; text = codes "(%1)"; style = Some (codes "H1"); has_picture = false }
unfolding element_with attributes_of attribute_in attribute_at name_at word_at char_at name_end name_step may_start may_follow is_name_start is_name_character is_space equated_at quoted_at field_at quote_at is_value
level_row = refl

-- nothing is said, or what can't be read
bare_row : level_of (element_with "lvl" "" (closed "start" " w:val=\"a\"" ⊕ closed "isLgl" " w:val=\"off\"" ⊕ closed "lvlText" " w:val=\"x\" w:null=\"1\"" ⊕ closed "lvlPicBulletId" ""))
    ≡ record { start = None; restart = None; format = Decimal; is_legal = false; text = []; style = None; has_picture = true }
unfolding element_with attributes_of attribute_in attribute_at name_at word_at char_at name_end name_step may_start may_follow is_name_start is_name_character is_space equated_at quoted_at field_at quote_at is_value
bare_row = refl

-- the form of the first choice
choice_row : (level_of (element_with "lvl" "" (opened "AlternateContent" (opened "Choice" (closed "numFmt" " w:val=\"custom\" w:format=\"001, ...\"") ⊕ opened "Fallback" (closed "numFmt" " w:val=\"decimal\""))))).format ≡ Padded 3
unfolding element_with attributes_of attribute_in attribute_at name_at word_at char_at name_end name_step may_start may_follow is_name_start is_name_character is_space equated_at quoted_at field_at quote_at is_value
choice_row = refl

-- a num with an override of its second level; ids are numbers
num_row : num_of (element_with "num" " w:numId=\"07\"" (closed "abstractNumId" " w:val=\"2\"" ⊕ opened_with "lvlOverride" " w:ilvl=\"1\"" (closed "startOverride" " w:val=\"5\"")))
    ≡ record { id = Some (codes "7"); list = Some (codes "2"); overrides = None ∷ Some (record { start = Some (Plus 5); level = None }) ∷ None ∷ None ∷ None ∷ None ∷ None ∷ None ∷ None ∷ [] }
unfolding element_with digits attributes_of attribute_in attribute_at name_at word_at char_at name_end name_step may_start may_follow is_name_start is_name_character is_space equated_at quoted_at field_at quote_at is_value
num_row = refl

-- a list that another one takes the place of
abstract_row : abstract_of (element_with "abstractNum" " w:abstractNumId=\"1\"" (closed "numStyleLink" " w:val=\"S\"")) ≡ record { id = Some (codes "1"); link = Some (codes "S"); style = None; levels = [] }
unfolding element_with digits attributes_of attribute_in attribute_at name_at word_at char_at name_end name_step may_start may_follow is_name_start is_name_character is_space equated_at quoted_at field_at quote_at is_value
abstract_row = refl

-- a style with a num and a level, which is the default one
style_row : style_of (element_with "style" " w:type=\"paragraph\" w:default=\"1\" w:styleId=\"N\""
    (closed "basedOn" " w:val=\"B\"" ⊕ opened "pPr" (opened "numPr" (closed "ilvl" " w:val=\"1\"" ⊕ closed "numId" " w:val=\"3\""))))
    ≡ record { id = Some (codes "N"); based_on = Some (codes "B"); is_default = true; num = Some (codes "3"); level = Some (Plus 1) }
unfolding element_with digits attributes_of attribute_in attribute_at name_at word_at char_at name_end name_step may_start may_follow is_name_start is_name_character is_space equated_at quoted_at field_at quote_at is_value
style_row = refl
