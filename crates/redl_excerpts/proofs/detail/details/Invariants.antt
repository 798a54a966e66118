use Rattle.std.proofs.Common.{◌≡◌, ◌+◌, ◌<◌, ◌^◌, ◌++◌, length, All}
use Rattle.std.specs.Vec.Iter.{into_iter_items}
use Rattle.redl_join.specs.LastWords.{words_on}
use Rattle.redl_places.specs.Views.{place_at}
use Rattle.redl_excerpts.specs.Details.{IsDetail, details_from, details_of}
use Rattle.redl_excerpts.proofs.detail.details.Given as goal

-- the details so far, and those of the excerpts that are left
abbrev pub invariant-loop-excerpt : goal.invariant-loop-excerpt
invariant-loop-excerpt l = record {
  all : l.details.items ++ details_from (length l.details.items + 1) (into_iter_items l.excerpt-iterator) (place_at l.places) (words_on l.words) ≡ details_of l.fn.excerpts.items (place_at l.places) (words_on l.words);
  utf8 : All IsDetail l.details.items;
  within : length l.details.items + length (into_iter_items l.excerpt-iterator) < 2 ^ 32;
}
