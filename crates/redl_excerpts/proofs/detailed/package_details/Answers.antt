-- The excerpts and the places are those of the package, and the words those of the book.
use Rattle.std.proofs.Common.{◌∙◌, ap}
use Rattle.redl_excerpts.specs.Excerpts.{excerpts_of}
use Rattle.redl_join.specs.LastWords.{last_words, words_on}
use Rattle.redl_places.specs.Places.{place_on}
use Rattle.redl_places.specs.Views.{place_at}
use Rattle.redl_excerpts.specs.Details.{details_of}
use Rattle.redl_excerpts.proofs.DetailLaws.{details_from-same}
use Rattle.redl_excerpts.proofs.detailed.package_details.Goals as goal

pub returns-clause-value : goal.returns-clause-value
returns-clause-value c =
    c.in_ok-details.ensures.value ∙ ap (λ xs. details_of xs (place_at c.in_ok-places.places) (words_on c.in_ok-words.words)) c.in_ok-excerpts.ensures
    ∙ details_from-same 1 (excerpts_of c.args.pkg.now c.args.index.now c.args.wanted.now) (place_at c.in_ok-places.places) (place_on c.args.pkg.now) (words_on c.in_ok-words.words) (last_words c.args.book.now)
    c.in_ok-places.ensures c.in_ok-words.ensures
