-- What the space of an element that declares nothing tells of its prefix.
use Rattle.std.proofs.Common.{◌≡◌, true, [], Some, ap}
use Rattle.std.specs.Prelude.{◌&&◌}
use Rattle.std.proofs.lemmas.Bool.{and_parts}
use Rattle.std.proofs.lemmas.Option.{cond_some}
use Rattle.redl_tree.specs.declared.kinds.Space.{Space}
use Rattle.redl_grammar.specs.Names.{Name}
use Rattle.redl_xml.specs.Scopes.{Scope, space_of, is_element_prefix}
use Rattle.redl_xml.specs.Inside.Elements.{known}

pub known_is : (scope : Scope) (name : Name) (own : Space) → known name [] scope ≡ Some (own, scope) → (is_element_prefix scope name.prefix ≡ true) × (space_of scope name.prefix ≡ own)
unfolding known
known_is scope name own e =
    let c = cond_some (is_element_prefix scope name.prefix && true) (space_of scope name.prefix, scope) (own, scope) e in
    ((and_parts (is_element_prefix scope name.prefix) true c.0).0, ap (λ (x : Space × Scope). x.0) c.1)
