use Rattle.std.proofs.Common.{◌≡◌, length}
use Rattle.std.specs.Prelude.{codes, IfSome}
use Rattle.std.specs.Option.{option_map, option_or}
use Rattle.std.specs.Str.{IsUtf8}
use Rattle.redl_stamp.specs.Attribute.{written_value}
use Rattle.redl_stamp.proofs.stamp_values.Written.read.Given as goal

-- each value found so far, or else the one in the attributes that are left, is the one in the tail
abbrev pub invariant-loop-attribute : goal.invariant-loop-attribute
invariant-loop-attribute l = record {
  author : option_or (option_map (λ value. value.now) l.written.author) (written_value l.left (codes "author")) ≡ written_value l.tail (codes "author");
  date : option_or (option_map (λ value. value.now) l.written.date) (written_value l.left (codes "date")) ≡ written_value l.tail (codes "date");
  name : option_or (option_map (λ value. value.now) l.written.name) (written_value l.left (codes "name")) ≡ written_value l.tail (codes "name");
  id : option_or (option_map (λ value. value.now) l.written.id) (written_value l.left (codes "id")) ≡ written_value l.tail (codes "id");
  utf8 : IsUtf8 l.tail → IsUtf8 l.left × IfSome l.written.author (λ value. IsUtf8 value.now);
  utf8_name : IsUtf8 l.tail → IfSome l.written.name (λ value. IsUtf8 value.now);
  utf8_id : IsUtf8 l.tail → IfSome l.written.id (λ value. IsUtf8 value.now);
}

abbrev pub decreases-loop-attribute : goal.decreases-loop-attribute
decreases-loop-attribute l = length l.left
