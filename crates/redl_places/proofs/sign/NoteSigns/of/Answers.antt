-- Kind by kind.
use Rattle.std.proofs.Common.{◌≡◌, ◌∙◌, ap, List}
use Rattle.std.proofs.Math.Path.{fun_ext}
use Rattle.redl_order.specs.declared.reference.Named.TheVariants as named
use Rattle.redl_order.specs.declared.reference.Reference.{Reference}
use Rattle.redl_order.specs.Order.{document_references}
use Rattle.redl_places.specs.Signs.{sign_of}
use Rattle.redl_places.specs.Views.{sign_at}
use Rattle.redl_places.proofs.sign.NoteSigns.of.Goals as goal

pub returns : goal.returns
returns c =
    let pkg = c.args.pkg.now in
    let footnotes : sign_at c.in_ok-footnotes.footnotes ≡ sign_of named.Footnote (document_references pkg) =
    fun_ext (λ id. c.in_ok-footnotes.ensures id ∙ ap (λ (rs : List Reference). sign_of named.Footnote rs id) (c.deref.ensures.value ∙ c.in_ok-references.ensures)) in
    let endnotes : sign_at c.in_ok-endnotes.endnotes ≡ sign_of named.Endnote (document_references pkg) =
    fun_ext (λ id. c.in_ok-endnotes.ensures id ∙ ap (λ (rs : List Reference). sign_of named.Endnote rs id) (c.deref-2.ensures.value ∙ c.in_ok-references.ensures)) in
    ap (λ f. record { footnote = f; endnote = sign_at c.in_ok-endnotes.endnotes }) footnotes
    ∙ ap (λ f. record { footnote = sign_of named.Footnote (document_references pkg); endnote = f }) endnotes
