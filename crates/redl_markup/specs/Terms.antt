-- The words of what is read of a piece in one place, for readers; those of the grammar are in `redl_grammar`.
pub use Rattle.redl_markup.specs.Attributes.{attributes_of, names_in}
pub use Rattle.redl_markup.specs.Decoding.{decoded_value}
pub use Rattle.redl_markup.specs.Views.{name_view, attribute_view}
pub use Rattle.redl_markup.specs.PieceViews.{piece_view}
