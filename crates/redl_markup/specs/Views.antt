-- The code's names and attributes as plain data.
use Rattle.std.specs.Prelude.{ℕ, List}
use Rattle.redl_markup.specs.declared.name.Name as code_name
use Rattle.redl_markup.specs.declared.attribute.Attribute as code_attribute
use Rattle.redl_grammar.specs.Names.{Name}

-- a name of the code as plain data
abbrev pub name_view : code_name.Name → Name
name_view n = record { prefix = n.prefix.now; local = n.local.now }

-- the name and the value of an attribute of the code as plain data
abbrev pub attribute_view : code_attribute.Attribute → Name × List ℕ
attribute_view a = (name_view a.name, a.value.now)
