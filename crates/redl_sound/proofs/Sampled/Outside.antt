-- The package, its part and its document around the blocks of the sample.
use lib.Utf8.{encode}
use Rattle.std.proofs.Common.{◌≡◌, ℕ, Bool, true, false, List, [], ◌∷◌, map, inl, inr, Some, None, codes, refl, sym, subst}
use Rattle.std.specs.List.{list_all, AllByRecursion}
use Rattle.redl_markup.proofs.Listing.{tail_lists}
use Rattle.redl_markup.specs.Attributes.{attributes_of}
use Rattle.redl_grammar.specs.Characters.{is_space, is_name_start, is_name_character}
use Rattle.redl_grammar.specs.Names.{are_distinct, may_follow, may_start}
use Rattle.redl_grammar.specs.Stretches.{IsStretch, IsSetting, is_version}
use Rattle.redl_grammar.specs.Tails.{Attribute, IsAttribute, IsTail, attributes_then, named_value}
use Rattle.redl_grammar.specs.declared.section.Section.TheVariants.{BeforeRoot}
use Rattle.redl_sound.proofs.Sampled.Legal.{all_weaker, body_scope, is_safe, is_word, no_quote, no_tag, safe_references, w_word, word_of}
use Rattle.redl_tree.specs.Model.Nodes.{Tag, Nodes, no_nodes, element, End}
use Rattle.redl_tree.specs.declared.kinds.Kind.TheVariants.{Plain}
use Rattle.redl_tree.specs.declared.kinds.Space.{Space}
use Rattle.redl_tree.specs.declared.kinds.Space.TheVariants.{W, Pkg}
use Rattle.redl_xml.specs.Readings.{AreLegal, IsTag}
use Rattle.redl_xml.specs.Scopes.{Scope, scope_in, is_known, is_xml_prefix, is_xmlns, may_declare, space_named}

-- ---- attributes

abbrev attribute : List ℕ → List ℕ → List ℕ → Attribute
attribute prefix local value = record {
  gap = 32 ∷ [];
  name = record { prefix = prefix; local = local };
  left = [];
  right = [];
  quote = 34;
  value = value;
}

legal : (prefix local value : List ℕ) → is_word prefix ≡ true → is_word local ≡ true → list_all is_safe value ≡ true → IsAttribute (attribute prefix local value)
unfolding is_space
legal prefix local value p l v = record {
  gap = (λ e. cc e, refl);
  name = record { prefix = inr (word_of prefix p); local = word_of local l };
  left = refl;
  right = refl;
  quote = inl refl;
  no_quote = all_weaker is_safe _ no_quote value v;
  no_tag = all_weaker is_safe _ no_tag value v;
  references = safe_references value v;
}

abbrev pkg : List ℕ
pkg = codes "pkg"

abbrev package_attributes : List Attribute
package_attributes = attribute (codes "xmlns") pkg (codes "http://schemas.microsoft.com/office/2006/xmlPackage") ∷ []

abbrev part_attributes : List Attribute
part_attributes =
    attribute pkg (codes "name") (codes "/word/document.xml")
    ∷ attribute pkg (codes "contentType") (codes "application/vnd.openxmlformats-officedocument.wordprocessingml.document.main+xml") ∷ []

abbrev document_attributes : List Attribute
document_attributes = attribute (codes "xmlns") (119 ∷ []) (codes "http://schemas.openxmlformats.org/wordprocessingml/2006/main") ∷ []

-- ---- tags

abbrev pub outer_tag : Space → List ℕ → List ℕ → List Attribute → Tag
outer_tag space prefix local attributes = record {
  prefix = prefix;
  local = local;
  space = space;
  tail = attributes_then attributes [];
  close = End [];
  kind = Plain;
  rev = 0;
}

abbrev pub package_tag : Tag
package_tag = outer_tag Pkg pkg (codes "package") package_attributes

abbrev pub part_tag : Tag
part_tag = outer_tag Pkg pkg (codes "part") part_attributes

abbrev pub data_tag : Tag
data_tag = outer_tag Pkg pkg (codes "xmlData") []

abbrev pub document_tag : Tag
document_tag = outer_tag W (119 ∷ []) (codes "document") document_attributes

abbrev pub body_tag : Tag
body_tag = outer_tag W (119 ∷ []) (codes "body") []

abbrev tail_is : (attributes : List Attribute) → AllByRecursion IsAttribute attributes → are_distinct (map (λ (a : Attribute). a.name) attributes) ≡ true → IsTail (attributes_then attributes [])
tail_is attributes each distinct = record { attributes = attributes; space = []; each = each; is_space = refl; distinct = distinct; whole = refl }

pub package_tail : IsTail package_tag.tail
unfolding may_start may_follow is_name_start is_name_character encode are_distinct
package_tail = tail_is package_attributes (legal _ _ _ refl refl refl, tt) refl

pub part_tail : IsTail part_tag.tail
unfolding may_start may_follow is_name_start is_name_character encode are_distinct
part_tail = tail_is part_attributes (legal _ _ _ refl refl refl, (legal _ _ _ refl refl refl, tt)) refl

pub document_tail : IsTail document_tag.tail
unfolding may_start may_follow is_name_start is_name_character encode are_distinct
document_tail = tail_is document_attributes (legal _ _ _ refl refl refl, tt) refl

pub no_tail : IsTail []
unfolding are_distinct
no_tail = tail_is [] tt refl

pub package_listed : attributes_of package_tag.tail ≡ map named_value package_attributes
unfolding package_tail
package_listed = tail_lists package_tag.tail package_tail

pub part_listed : attributes_of part_tag.tail ≡ map named_value part_attributes
unfolding part_tail
part_listed = tail_lists part_tag.tail part_tail

pub document_listed : attributes_of document_tag.tail ≡ map named_value document_attributes
unfolding document_tail
document_listed = tail_lists document_tag.tail document_tail

pub nothing_listed : attributes_of [] ≡ []
unfolding no_tail
nothing_listed = tail_lists [] no_tail

-- the declarations in scope in the package
abbrev pub package_scope : Scope
package_scope = (pkg, Pkg) ∷ []

package_scope_is : scope_in package_tag.tail [] ≡ package_scope
unfolding is_xmlns space_named is_space
package_scope_is = rw package_listed refl

part_scope_is : scope_in part_tag.tail package_scope ≡ package_scope
unfolding is_xmlns
part_scope_is = rw part_listed refl

document_scope_is : scope_in document_tag.tail package_scope ≡ body_scope
unfolding is_xmlns space_named is_space
document_scope_is = rw document_listed refl

same_scope : (scope : Scope) → scope_in [] scope ≡ scope
same_scope scope = rw nothing_listed refl

package_is : IsTag [] package_tag
unfolding may_start may_follow is_name_start is_name_character encode is_xmlns may_declare is_xml_prefix is_known
package_is = record {
  name = record { prefix = inr (word_of pkg refl); local = word_of (codes "package") refl };
  tail = package_tail;
  declarations = rw package_listed refl;
  prefix = rw package_scope_is refl;
  prefixes = rw (package_scope_is, package_listed) refl;
  space = rw package_scope_is refl;
  kind = refl;
  rev = refl;
}

part_is : IsTag package_scope part_tag
unfolding may_start may_follow is_name_start is_name_character encode is_xmlns may_declare is_xml_prefix is_known
part_is = record {
  name = record { prefix = inr (word_of pkg refl); local = word_of (codes "part") refl };
  tail = part_tail;
  declarations = rw part_listed refl;
  prefix = rw part_scope_is refl;
  prefixes = rw (part_scope_is, part_listed) refl;
  space = rw part_scope_is refl;
  kind = refl;
  rev = refl;
}

data_is : IsTag package_scope data_tag
unfolding may_start may_follow is_name_start is_name_character encode is_xmlns is_xml_prefix is_known
data_is = record {
  name = record { prefix = inr (word_of pkg refl); local = word_of (codes "xmlData") refl };
  tail = no_tail;
  declarations = rw nothing_listed refl;
  prefix = rw (same_scope package_scope) refl;
  prefixes = rw nothing_listed refl;
  space = rw (same_scope package_scope) refl;
  kind = refl;
  rev = refl;
}

document_is : IsTag package_scope document_tag
unfolding may_start may_follow is_name_start is_name_character encode is_xmlns may_declare is_xml_prefix is_known
document_is = record {
  name = record { prefix = inr w_word; local = word_of (codes "document") refl };
  tail = document_tail;
  declarations = rw document_listed refl;
  prefix = rw document_scope_is refl;
  prefixes = rw (document_scope_is, document_listed) refl;
  space = rw document_scope_is refl;
  kind = refl;
  rev = refl;
}

body_is : IsTag body_scope body_tag
unfolding may_start may_follow is_name_start is_name_character encode is_xmlns is_xml_prefix is_known
body_is = record {
  name = record { prefix = inr w_word; local = word_of (codes "body") refl };
  tail = no_tail;
  declarations = rw nothing_listed refl;
  prefix = rw (same_scope body_scope) refl;
  prefixes = rw nothing_listed refl;
  space = rw (same_scope body_scope) refl;
  kind = refl;
  rev = refl;
}

-- ---- the root

-- the body with these kids, and the elements around it
abbrev pub document : Nodes → Nodes
document kids = element document_tag (element body_tag kids no_nodes) no_nodes

abbrev pub parts : Nodes → Nodes
parts kids = element part_tag (element data_tag (document kids) no_nodes) no_nodes

abbrev pub root : Nodes → Nodes
root kids = element package_tag (parts kids) no_nodes

inside : (tail : List ℕ) (outer inner : Scope) (kids : Nodes) → scope_in tail outer ≡ inner → AreLegal inner kids → AreLegal (scope_in tail outer) kids
inside tail outer inner kids is legal = subst (λ scope. AreLegal scope kids) (sym is) legal

pub legal_root : (kids : Nodes) → AreLegal body_scope kids → AreLegal [] (root kids)
legal_root kids legal = (
  package_is,
  refl,
  inside package_tag.tail [] package_scope (parts kids) package_scope_is (
    part_is,
    refl,
    inside part_tag.tail package_scope package_scope (element data_tag (document kids) no_nodes) part_scope_is (
      data_is,
      refl,
      inside [] package_scope package_scope (document kids) (same_scope package_scope) (
        document_is,
        refl,
        inside document_tag.tail package_scope body_scope (element body_tag kids no_nodes) document_scope_is
            (body_is, refl, inside [] body_scope body_scope kids (same_scope body_scope) legal, tt),
        tt,
      ),
      tt,
    ),
    tt,
  ),
  tt,
)

-- ---- the declaration before it

abbrev setting : List ℕ → List ℕ → Attribute
setting word value = record {
  gap = 32 ∷ [];
  name = record { prefix = []; local = word };
  left = [];
  right = [];
  quote = 34;
  value = value;
}

is_setting : (word value : List ℕ) (fits : List ℕ → Bool) → list_all is_safe value ≡ true → fits value ≡ true → IsSetting word fits (setting word value)
unfolding is_space
is_setting word value fits safe fit = record {
  gap = (λ e. cc e, refl);
  name = refl;
  left = refl;
  right = refl;
  quote = inl refl;
  no_quote = all_weaker is_safe _ no_quote value safe;
  value = fit;
}

abbrev pub declaration : List ℕ
declaration = codes "<?xml version=\"1.0\" encoding=\"UTF-8\"?>"

pub declared : IsStretch BeforeRoot declaration
unfolding is_version
declared = record {
  head = record {
    marked = false;
    declaration = Some (record {
      version = setting (codes "version") (codes "1.0");
      encoding = Some (setting (codes "encoding") (codes "UTF-8"));
      standalone = None;
      space = [];
    });
  };
  first = [];
  more = [];
  is_head = record {
    version = is_setting (codes "version") (codes "1.0") _ refl refl;
    encoding = is_setting (codes "encoding") (codes "UTF-8") _ refl refl;
    standalone = tt;
    space = refl;
  };
  first_run = record { no_tag = refl; allowed = refl };
  each = tt;
  whole = refl;
  filled = λ e. cc e;
}
