-- How far a block is plain.
use Rattle.std.specs.Prelude.{ℕ, List}
use Rattle.redl_reading.specs.Lists.{is_none_of}
use Rattle.std.specs.List.{prefix_len}

-- how many bytes come before the first of three bytes
abbrev pub plain_in : ℕ → ℕ → ℕ → List ℕ → ℕ
plain_in a b c bs = prefix_len (is_none_of a b c) bs
