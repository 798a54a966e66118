use Rattle.std.proofs.Common.{◌≡◌, ◌++◌, filter, codes}
use Rattle.std.specs.List.{flat_map}
use Rattle.redl_opc.specs.Stories.{stories_from}
use Rattle.redl_order.specs.Order.{document_references, has_name}
use Rattle.redl_order.specs.References.{references}
use Rattle.redl_order.proofs.order.document_references.Given as goal

-- the references so far, and then those of the parts that are left
abbrev pub invariant-loop-part : goal.invariant-loop-part
invariant-loop-part l =
    l.seen.references.items ++ flat_map (λ root. references root.kids) (filter (has_name (codes "document")) (stories_from l.part l.pkg)) ≡ document_references l.pkg
