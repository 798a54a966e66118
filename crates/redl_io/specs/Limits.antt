-- What a call may take in (our own rule). The program's constants are equal to these, and its lines print them.
use Rattle.std.specs.Prelude.{ℕ}

-- the bytes of a package
abbrev pub package_bytes : ℕ
package_bytes = 134217728

-- the bytes of all journals of a call together
abbrev pub journal_bytes : ℕ
journal_bytes = 67108864

-- how deep elements may be nested, the root being at depth 1
abbrev pub depth : ℕ
depth = 512

-- how many nodes a package may have
abbrev pub nodes : ℕ
nodes = 2097152
