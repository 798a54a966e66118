-- Bytes that are kept as text.
use Rattle.std.specs.Prelude.{ℕ, List, [], if◌then◌else◌}
use Rattle.std.specs.Str.{is_utf8}

-- The bytes, where they are UTF-8, and else nothing. What is read of a package is UTF-8.
abbrev pub text_or_nothing : List ℕ → List ℕ
text_or_nothing bytes = if is_utf8 bytes then bytes else []
