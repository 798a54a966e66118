-- The model of a start tag.
use Rattle.std.specs.Prelude.{ℕ, List, ◌+◌, ◌==◌, take, drop, if◌then◌else◌}
use Rattle.redl_tree.specs.declared.kinds.Space.{Space}
use Rattle.redl_tree.specs.declared.kinds.Kind.{Kind}
use Rattle.redl_tree.specs.declared.kinds.Kind.TheVariants.{Plain}

-- all of an element but its kids and its end
pub record Start : Type 0 where
  pub prefix : List ℕ
  pub local : List ℕ
  pub space : Space
  pub tail : List ℕ
  pub kind : Kind
  pub rev : ℕ

-- how many bytes come before the local name, where the prefix has `prefix` bytes: these and its colon
abbrev pub before_local : ℕ → ℕ
before_local prefix = if prefix == 0 then 0 else prefix + 1

-- the local name in a start tag, where the prefix has `prefix` bytes and the name `name` bytes
abbrev pub local_in : List ℕ → ℕ → ℕ → List ℕ
local_in text prefix name = drop (before_local prefix) (take name text)

-- the start tag with this text, of an element that is in no revision
abbrev pub start_in : List ℕ → ℕ → ℕ → Space → Start
start_in text prefix name space = record {
  prefix = take prefix text;
  local = local_in text prefix name;
  space = space;
  tail = drop name text;
  kind = Plain;
  rev = 0;
}
