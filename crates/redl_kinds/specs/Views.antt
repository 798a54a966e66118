-- The code's selections as plain data.
use Rattle.redl_kinds.specs.declared.selection.Selection as code
use Rattle.redl_kinds.specs.declared.selection.Selection.TheVariants as variants
use Rattle.redl_kinds.specs.Selections.{Selection, all, numbers, author, span, kind, group, edits}

-- a selection of the code as plain data
abbrev pub selection_of : code.Selection → Selection
selection_of variants.All = all
selection_of (variants.Numbers listed) = numbers listed.items
selection_of (variants.Author name) = author name
selection_of (variants.Span start end) = span start end
selection_of (variants.Kind of_kind) = kind of_kind
selection_of (variants.Group of_group) = group of_group
selection_of (variants.Edits listed) = edits listed.items
