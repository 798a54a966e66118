-- Why a call ends, for each error of a call below.
use Rattle.redl_opc.specs.declared.error.OpcError.{OpcError}
use Rattle.redl_opc.specs.declared.error.OpcError.TheVariants as opc
use Rattle.redl_rules.specs.declared.soundness.RuleError.{RuleError}
use Rattle.redl_rules.specs.declared.soundness.RuleError.TheVariants as rules
use Rattle.redl_xml.specs.declared.error.XmlError.{XmlError}
use Rattle.redl_xml.specs.declared.error.XmlError.TheVariants as xml
use Rattle.redl_lines.specs.Failures.{Failure, caused, no_memory, no_package, over}
use Rattle.redl_lines.specs.declared.failure.Limit.TheVariants.{Depth, Nodes as TooManyNodes}
use Rattle.redl_lines.specs.declared.failure.PackageFault.TheVariants.{NotReadable, NotPackage, PartShape, NoDocument, Rule}

-- why a text was not read as a tree
abbrev pub xml_failure : XmlError → Failure
xml_failure xml.Unreadable = caused (no_package NotReadable)
xml_failure xml.Depth = caused (over Depth)
xml_failure xml.Nodes = caused (over TooManyNodes)
xml_failure xml.NoMemory = no_memory

-- why nodes are no package
abbrev pub shape_failure : OpcError → Failure
shape_failure opc.NotPackage = caused (no_package NotPackage)
shape_failure opc.PartShape = caused (no_package PartShape)
shape_failure opc.NoDocument = caused (no_package NoDocument)
shape_failure opc.NoMemory = no_memory

-- why a package is not sound
abbrev pub rule_failure : RuleError → Failure
rule_failure (rules.Broken rule) = caused (no_package (Rule rule))
rule_failure rules.NoMemory = no_memory
