-- Values of attributes, as they are written.
pub use Rattle.redl_relations.specs.Values.{value_in}
