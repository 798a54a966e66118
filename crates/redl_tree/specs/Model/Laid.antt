-- Nodes that are the reading of a text of one space: their tags' form, and their stretches. Nothing is said of scopes.
use Rattle.std.specs.Prelude.{◌≡◌, ℕ, Bool, true, false, List}
use Rattle.redl_tree.specs.Model.Nodes.{Tag, Nodes, no_nodes, bytes, element, Close, Empty, End}
use Rattle.redl_tree.specs.declared.kinds.Space.{Space}
use Rattle.redl_tree.specs.declared.kinds.Kind.TheVariants.{Plain}
use Rattle.redl_grammar.specs.declared.section.Section.TheVariants.{InElement}
use Rattle.redl_grammar.specs.Names.{Name, IsName}
use Rattle.redl_grammar.specs.Tails.{IsSpace, IsTail}
use Rattle.redl_grammar.specs.Stretches.{IsStretch, ends_stretch}
use Rattle.redl_tree.specs.Model.Shapes.{begins_with_bytes}

-- the name of an element, with its prefix
abbrev pub name_of : Tag → Name
name_of tag = record { prefix = tag.prefix; local = tag.local }

-- An element closed by `Empty` has no kids. An end tag has optional white space after its name.
abbrev pub ClosesBy : Close → Nodes → Type 0
ClosesBy Empty kids = kids ≡ no_nodes
ClosesBy (End space) kids = IsSpace space

-- a tag as it is read: its name and its tail have the form that XML asks for, and it is in no revision
pub record IsLaidTag (space : Space) (tag : Tag) : Type 0 where
  pub name : IsName (name_of tag)
  pub tail : IsTail tag.tail
  pub of_space : tag.space ≡ space
  pub kind : tag.kind ≡ Plain
  pub rev : tag.rev ≡ 0

-- nodes as they are read: their tags and bytes have the form that XML asks for, and no bytes stand right beside other bytes
abbrev pub AreLaid : Space → Nodes → Type 0
AreLaid space no_nodes = Unit {0}
AreLaid space (bytes b rest) = IsStretch InElement b × (begins_with_bytes rest ≡ false) × AreLaid space rest
AreLaid space (element tag kids rest) = IsLaidTag space tag × ClosesBy tag.close kids × AreLaid space kids × AreLaid space rest

-- the last node is bytes; of no nodes this is the answer `t`
abbrev pub last_is_bytes : Bool → Nodes → Bool
last_is_bytes t no_nodes = t
last_is_bytes t (bytes b rest) = last_is_bytes true rest
last_is_bytes t (element tag kids rest) = last_is_bytes false rest

-- the last node is bytes
abbrev pub ends_with_bytes : Nodes → Bool
ends_with_bytes x = last_is_bytes false x

-- before what follows nodes, the stretch at their end may end
abbrev pub Fits : Nodes → List ℕ → Type 0
Fits x y = ends_with_bytes x ≡ true → ends_stretch y ≡ true
