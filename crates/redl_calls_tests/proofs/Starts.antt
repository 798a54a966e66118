-- A package that was read, checked and numbered is one that a session starts with.
use Rattle.std.proofs.Common.{◌≡◌, ℕ, Option, None, Some, Ok, refl, sym, ap, ◌∙◌}
use Rattle.redl_index.proofs.AgainLaws.{revisions-numbered}
use Rattle.redl_index.specs.Numbers.{numbered_package}
use Rattle.redl_index.specs.Revisions.{revisions_of}
use Rattle.redl_rules.specs.Answers.{answer_of}
use Rattle.redl_rules.specs.Attributes.{broken_rule, declares, has_id}
use Rattle.redl_stamp.specs.Attribute.{attribute_value}
use Rattle.redl_tree.proofs.Revisions.NumberLaws.{broken-numbered, numbered-indexed}
use Rattle.redl_tree.specs.Model.Nodes.{Nodes}

pub unbroken : (rule : Option ℕ) → Ok tt ≡ answer_of rule → rule ≡ None
unbroken None is = refl
unbroken (Some number) is = absurd (cc is)

pub numbered_again : (read made : Nodes) → made ≡ numbered_package read → numbered_package made ≡ made
numbered_again read made is = ap numbered_package is ∙ numbered-indexed attribute_value read ∙ sym is

pub revisions_again : (read made : Nodes) → made ≡ numbered_package read → revisions_of read ≡ revisions_of made
revisions_again read made is = sym (ap revisions_of is ∙ revisions-numbered read)

pub rules_again : (read made : Nodes) → made ≡ numbered_package read → broken_rule read ≡ None → broken_rule made ≡ None
rules_again read made is none = ap broken_rule is ∙ broken-numbered attribute_value has_id declares read ∙ none
