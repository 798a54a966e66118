-- A row keeps what its revision keeps, and its part is one of the names.
use Rattle.std.proofs.Common.{sym, subst, ◌∙◌}
use Rattle.std.specs.Str.{IsUtf8}
use Rattle.redl_listing.proofs.row.Row.of.Goals as goal

pub returns-clause-row : goal.returns-clause-row
returns-clause-row c =
    let name = c.in_ok-part.ensures ∙ c.index-parts-revision.is in
    record {
      named = c.requires.told.named;
      author = subst IsUtf8 (sym c.in_ok-author.ensures) c.requires.told.author;
      part = subst IsUtf8 (sym name) (c.requires.parts _ _ c.requires.part);
      moment = c.requires.told.moment;
      detail = c.requires.detail;
    }
