use Rattle.std.proofs.Common.{◌≡◌, ◌++◌, take, drop}
use Rattle.redl_formats.specs.Formats.{first_named, without_named}
use Rattle.redl_listing.proofs.named.take_named.Given as goal

-- the first format with the name is among the rest, and only from there one goes
abbrev pub invariant-loop-place : goal.invariant-loop-place
invariant-loop-place g l = record {
  same : l.formats.items ≡ l.fn.formats.items;
  first : first_named g.F.Named.name_of l.name (drop l.place l.formats.items)
      ≡ first_named g.F.Named.name_of l.name l.fn.formats.items;
  rest : take l.place l.formats.items ++ without_named g.F.Named.name_of l.name (drop l.place l.formats.items)
      ≡ without_named g.F.Named.name_of l.name l.fn.formats.items;
}
