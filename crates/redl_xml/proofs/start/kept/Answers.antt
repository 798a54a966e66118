use Rattle.std.proofs.Common.{◌≡◌, ◌∙◌, ap, ℕ, length, arith, length-append}
use Rattle.redl_tree.specs.Model.Starts.{start_in}
use Rattle.redl_grammar.specs.Names.{Name, name_text}
use Rattle.redl_tree.proofs.Reading.Starts.{start_is}
use Rattle.redl_xml.proofs.start.kept.Goals as goal

pub returns : goal.returns
returns c =
    let tag = c.args.tag.now in
    let text = c.text-text.result.now in
    let space = c.args.space in
    let prefix : c.in-Ok.prefix ≡ length tag.name.prefix = omega (arith, c.in-Ok.ensures, ap (λ (n : Name). length n.prefix) c.name.ensures) in
    let name : c.in-Ok-try_from.name ≡ length (name_text tag.name) = omega (arith, c.in-Ok-try_from.ensures, ap length c.text-text.ensures, length-append (name_text tag.name) tag.tail, ap length c.tail.ensures) in
    c.new.ensures
    ∙ ap (λ (p : ℕ). start_in text p c.in-Ok-try_from.name space) prefix
    ∙ ap (λ (n : ℕ). start_in text (length tag.name.prefix) n space) name
    ∙ start_is tag.name tag.tail text space c.text-text.ensures
