-- A name that is too short is that of no reference.
use Rattle.std.proofs.Common.{◌≡◌, ◌<◌, ◌∙◌, ap, sym, refl, arith, codes, length, true, List, ℕ}
use Rattle.redl_stamp.specs.Attribute.{attribute_value}
use Rattle.redl_tree.specs.Model.View.{tag_of, kids_of}
use Rattle.redl_left.specs.Finds.{Find, found, found_value, value_or_nothing}
use Rattle.redl_left.specs.Lines.{naming, noted_all}
use Rattle.redl_left.specs.Named.{named_in}
use Rattle.redl_left.specs.Seen.{tables_of}
use Rattle.redl_left.specs.declared.fact.Fact.TheVariants.{Name}
use Rattle.redl_left.proofs.AlikeLaws.{alike, alike_author, alike_then}
use Rattle.redl_left.proofs.NamingLaws.{author_row, short_names_author}
use Rattle.redl_left.proofs.gather.names_known.Goals as goal

pub returns-then-local-lt-SHORTEST : goal.returns-then-local-lt-SHORTEST
returns-then-local-lt-SHORTEST c = λ known. λ part. λ parent.
    let tag = tag_of c.args.elem.now in
    let kids = kids_of c.args.elem.now in
    let tables = tables_of c.args.seen.now in
    let short : length tag.local < 7 = omega (arith, ap length c.local.ensures) in
    let author : List ℕ → List ℕ = λ tail. value_or_nothing (attribute_value tail (codes "author")) in
    let named : named_in tables Name (author tag.tail) ≡ true =
    ap (λ (tail : List ℕ). named_in tables Name (author tail)) (sym c.tail.ensures) ∙ c.has_known_author.ensures known in
    let own = found_value part author_row (author tag.tail) in
    let all = found naming part parent tag kids in
    alike_then tables (noted_all tables own) (noted_all tables all) (alike_author tables part author_row (author tag.tail) refl named)
    (alike (noted_all tables own) (noted_all tables all) (ap (λ (f : List Find). noted_all tables f) (sym (short_names_author part parent tag kids (sym c.space.ensures ∙ c.in-W.is) short))))
