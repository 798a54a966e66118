use Rattle.std.proofs.Common.{◌<◌, ◌≤◌, subst, rules, arith}
use Rattle.std.proofs.lemmas.Result.{err_from_is_err_and}
use Rattle.redl_tree.specs.Model.View.{nodes_of}
use Rattle.redl_grammar.specs.Characters.{IsText}
use Rattle.redl_markup.specs.Reading.{Fails}
use Rattle.redl_markup.specs.declared.error.MarkupError.{MarkupError}
use Rattle.redl_xml.specs.Inside.Documents.{sizes_at}
use Rattle.redl_xml.proofs.Documents.{has_sizes, no_sizes, reading_of_document, no_document}
use Rattle.redl_xml.proofs.Answered.{too_deep, too_many, is_within, is_tree, error_was}
use Rattle.redl_xml.proofs.document.read_within.Goals as goal

pub returns-in_err-document-clause-unreadable : goal.returns-in_err-document-clause-unreadable
returns-in_err-document-clause-unreadable c = λ h.
    let limit = c.args.limits.nodes in
    let p = err_from_is_err_and c.from_residual.result c.from_residual.ensures.1 in
    let P : MarkupError → Type 0 = λ f. Fails f (sizes_at limit c.args.bytes.now) in
    no_document c.args.bytes.now (no_sizes limit c.args.bytes.now (subst P (error_was c.from_residual.result p.0 c.in_err-document.field-0.0 p.1 p.2 h) c.in_err-document.ensures.sizes))

pub returns-then-document-limits-clause-too_deep : goal.returns-then-document-limits-clause-too_deep
returns-then-document-limits-clause-too_deep c = λ _.
    let t : IsText c.args.bytes.now = c.is_text.ensures.0 (search rules) in
    let s = c.in_ok-document.document.sizes in
    too_deep c.args.limits.nodes c.args.limits.depth c.args.bytes.now (s.deepest, s.nodes) (has_sizes c.args.limits.nodes c.args.bytes.now (s.deepest, s.nodes) t c.in_ok-document.ensures.sizes) c.if-document-limits.true

pub returns-then-document-from-clause-too_many : goal.returns-then-document-from-clause-too_many
returns-then-document-from-clause-too_many c = λ _.
    let t : IsText c.args.bytes.now = c.is_text.ensures.0 (search rules) in
    let s = c.in_ok-document.document.sizes in
    let over : c.args.limits.nodes < s.nodes = omega (arith, c.from.ensures, c.if-document-from.true) in
    too_many c.args.limits.nodes c.args.limits.depth c.args.bytes.now (s.deepest, s.nodes) (has_sizes c.args.limits.nodes c.args.bytes.now (s.deepest, s.nodes) t c.in_ok-document.ensures.sizes) c.if-document-limits.false over

pub returns-clause-found : goal.returns-clause-found
returns-clause-found c =
    let t : IsText c.args.bytes.now = c.is_text.ensures.0 (search rules) in
    let few : c.in_ok-document.document.sizes.nodes ≤ c.args.limits.nodes = omega (arith, c.from.ensures, c.if-document-from.false) in
    reading_of_document c.args.bytes.now (nodes_of c.in_ok-document.document.nodes.items) t (c.in_ok-document.ensures.nodes c.if-document-limits.false few)

pub returns-clause-within : goal.returns-clause-within
returns-clause-within c =
    let t : IsText c.args.bytes.now = c.is_text.ensures.0 (search rules) in
    let s = c.in_ok-document.document.sizes in
    let few : s.nodes ≤ c.args.limits.nodes = omega (arith, c.from.ensures, c.if-document-from.false) in
    is_within c.args.limits.nodes c.args.limits.depth c.args.bytes.now (s.deepest, s.nodes) (nodes_of c.in_ok-document.document.nodes.items) (has_sizes c.args.limits.nodes c.args.bytes.now (s.deepest, s.nodes) t c.in_ok-document.ensures.sizes) c.if-document-limits.false few (c.in_ok-document.ensures.nodes c.if-document-limits.false few)

pub returns-clause-tree : goal.returns-clause-tree
returns-clause-tree c =
    let t : IsText c.args.bytes.now = c.is_text.ensures.0 (search rules) in
    let s = c.in_ok-document.document.sizes in
    let few : s.nodes ≤ c.args.limits.nodes = omega (arith, c.from.ensures, c.if-document-from.false) in
    let nodes = nodes_of c.in_ok-document.document.nodes.items in
    let read = c.in_ok-document.ensures.nodes c.if-document-limits.false few in
    let within = is_within c.args.limits.nodes c.args.limits.depth c.args.bytes.now (s.deepest, s.nodes) nodes (has_sizes c.args.limits.nodes c.args.bytes.now (s.deepest, s.nodes) t c.in_ok-document.ensures.sizes) c.if-document-limits.false few read in
    is_tree c.args.bytes.now nodes (reading_of_document c.args.bytes.now nodes t read) (omega (arith, within.1))
