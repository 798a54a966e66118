use Rattle.std.proofs.Common.{◌≡◌, ◌∙◌, ap, ℕ, length, arith, length-append}
use Rattle.redl_tree.specs.Model.Starts.{start_in}
use Rattle.redl_tree.specs.declared.kinds.Space.TheVariants.{W}
use Rattle.redl_grammar.specs.Names.{Name, name_text}
use Rattle.redl_tree.proofs.Reading.Starts.{start_is}
use Rattle.redl_laid.proofs.laid.plain_tag.Goals as goal

pub returns : goal.returns
returns c =
    let tag = c.args.tag.now in
    let text = c.text-text.result.now in
    let prefix : c.small-prefix.result ≡ length tag.name.prefix = omega (arith, c.small-prefix.ensures, ap (λ (n : Name). length n.prefix) c.name.ensures) in
    let name : c.small-name.result ≡ length (name_text tag.name) = omega (arith, c.small-name.ensures, ap length c.text-text.ensures, length-append (name_text tag.name) tag.tail, ap length c.tail.ensures) in
    c.new.ensures
    ∙ ap (λ (p : ℕ). start_in text p c.small-name.result W) prefix
    ∙ ap (λ (n : ℕ). start_in text (length tag.name.prefix) n W) name
    ∙ start_is tag.name tag.tail text W c.text-text.ensures
