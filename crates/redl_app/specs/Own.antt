-- What the program tells of itself: its help, the help of one command, or its version (our own rule).
use Rattle.std.specs.Prelude.{ℕ, Bool, List, [], ◌∷◌, Option, None, Some, codes, if◌then◌else◌, ◌||◌}
use Rattle.std.specs.Str.{bytes_eq}
use Rattle.redl_lines.specs.Lines.{unwritten_line}
use Rattle.redl_lines.specs.declared.status.Status.{Status}
use Rattle.redl_lines.specs.declared.status.Status.TheVariants as status
use Rattle.redl_app.specs.declared.own.Own.{Own}
use Rattle.redl_app.specs.declared.own.Own.TheVariants.{Help, Command, Version}
use Rattle.redl_app.specs.declared.own.Part.{Part}
use Rattle.redl_app.specs.declared.own.Texts.{Texts}

-- a word that asks for help
abbrev pub is_help : List ℕ → Bool
is_help word = bytes_eq word (codes "--help") || bytes_eq word (codes "-h") || bytes_eq word (codes "help")

-- a word that asks for the version
abbrev pub is_version : List ℕ → Bool
is_version word = bytes_eq word (codes "--version") || bytes_eq word (codes "-v") || bytes_eq word (codes "version")

-- A single word asks for the version or for help, and `--help` after one word for the help of a command. Without words there is help too.
abbrev pub own_of : List (List ℕ) → Option Own
own_of [] = Some Help
own_of (word ∷ []) = if is_version word then Some Version else if is_help word then Some Help else None
own_of (first ∷ word ∷ []) = if bytes_eq word (codes "--help") then Some Command else None
own_of (first ∷ second ∷ third ∷ more) = None

-- the part of the command with this name, or else the whole help
abbrev pub part_in : List Part → List ℕ → List ℕ → List ℕ
part_in [] name whole = whole
part_in (part ∷ parts) name whole = if bytes_eq part.command.now name then part.text.now else part_in parts name whole

abbrev pub first_of : List (List ℕ) → List ℕ
first_of [] = []
first_of (word ∷ words) = word

-- what is told where words ask for it
abbrev pub text_of : Texts → Own → List (List ℕ) → List ℕ
text_of texts Help words = texts.help.now
text_of texts Command words = part_in texts.parts.now (first_of words) texts.help.now
text_of texts Version words = texts.version.now

-- its lines, by how the call ended
abbrev pub own_lines : Status → List ℕ
own_lines status.WriteFault = unwritten_line
own_lines _ = []
