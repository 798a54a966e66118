use Rattle.std.proofs.Common.{◌≡◌, take, All, IsUtf8}
use Rattle.redl_commands_shown.specs.List.{part_names}
use Rattle.redl_commands_list.proofs.list.part_names.Given as goal

-- the names so far
abbrev pub invariant-loop-part : goal.invariant-loop-part
invariant-loop-part l = record {
  names : l.names.items ≡ take l.part (part_names l.pkg);
  utf8 : All IsUtf8 l.names.items;
}
