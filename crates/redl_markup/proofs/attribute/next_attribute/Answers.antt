use Rattle.redl_markup.specs.Views.{attribute_view}
use Rattle.redl_markup.proofs.Listing.{is_first, is_last, is_shorter}
use Rattle.redl_markup.proofs.Utf8.{first_is_utf8}
use Rattle.redl_markup.proofs.attribute.next_attribute.Goals as goal

pub returns : goal.returns
returns c =
    record {
      found = is_first (λ x. (attribute_view x.0, x.1.now)) c.args.tail.now c.first_attribute.result c.first_attribute.ensures;
      none = is_last (λ x. (attribute_view x.0, x.1.now)) c.args.tail.now c.first_attribute.result c.first_attribute.ensures;
      shorter = is_shorter (λ x. (attribute_view x.0, x.1.now)) c.args.tail.now c.first_attribute.result c.first_attribute.ensures;
      utf8 = first_is_utf8 (λ x. (attribute_view x.0, x.1.now)) c.args.tail.now c.first_attribute.result c.first_attribute.ensures;
    }
