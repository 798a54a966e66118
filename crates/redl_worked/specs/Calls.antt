-- Whole calls, worked out: of words and files, the status, the bytes and the lines. A package has an insertion by Ann and a deletion by
-- Bob; a journal accepts the first and rejects the second (ECMA-376 Part 1, 17.13.5.14 and 17.13.5.18; FIPS 180-4 for the digest).
use Prim.Native.String.{String}
use Rattle.std.specs.Prelude.{◌≡◌, ℕ, List, [], ◌∷◌, ◌++◌, None, Some, codes, map, if◌then◌else◌}
use Rattle.std.specs.Str.{bytes_eq}
use Rattle.redl_commands.specs.Writing.{Outcome}
use Rattle.redl_inputs.specs.Readers.{Reader}
use Rattle.redl_io.specs.Shelf.{Files}
use Rattle.redl_lines.specs.declared.status.Status.{Status}
use Rattle.redl_lines.specs.declared.status.Status.TheVariants as status
use Rattle.redl_outcome.specs.Brought.{Brought}
use Rattle.redl_outcome.specs.Outcome.{outcome}

-- ---- the files

-- what stands before and after the content of the one paragraph
abbrev pub before : List ℕ
before = codes "<p:package xmlns:p='http://schemas.microsoft.com/office/2006/xmlPackage'><p:part p:name='/d' p:contentType='c'><p:xmlData><w:document xmlns:w='http://schemas.openxmlformats.org/wordprocessingml/2006/main'><w:body><w:p>"

abbrev pub after : List ℕ
after = codes "</w:p></w:body></w:document></p:xmlData></p:part></p:package>"

abbrev pub insertion : List ℕ
insertion = codes "<w:ins w:author='Ann'><w:r><w:t>new</w:t></w:r></w:ins>"

abbrev pub deletion : List ℕ
deletion = codes "<w:del w:author='Bob'><w:r><w:delText>old</w:delText></w:r></w:del>"

-- the package whose paragraph holds this
abbrev pub package_with : List ℕ → List ℕ
package_with held = before ++ (held ++ after)

-- lines of ASCII, each with its end
abbrev pub lines : List String → List ℕ
lines [] = []
lines (line ∷ more) = codes line ++ (10 ∷ lines more)

-- a journal of the package
abbrev pub journal : List ℕ
journal = lines ("redline-journal 1" ∷ "document f477bf6411cc8396c587e19cce0fae2118b4c3b50fe2715459a7ab16b891f70e" ∷ "revisions 2" ∷ "1\t1\taccept\tAnn" ∷ "1\t2\treject\tAnn" ∷ [])

-- a journal of another package
abbrev pub other : List ℕ
other = lines ("redline-journal 1" ∷ "document 0000000000000000000000000000000000000000000000000000000000000000" ∷ "revisions 2" ∷ "1\t1\taccept\tAnn" ∷ [])

-- the files that every call has: p, j, k and e
abbrev pub files : Files
files name =
    if bytes_eq name (codes "p") then Some (package_with (insertion ++ deletion))
    else if bytes_eq name (codes "j") then Some journal
    else if bytes_eq name (codes "k") then Some other
    else if bytes_eq name (codes "e") then Some (codes "<empty/>")
    else None

-- ---- what calls come to

-- a call with these words
abbrev pub call : Reader → Brought → List String → Outcome
call reader brought words = outcome reader (map (λ (word : String). codes word) words) files brought

-- a call that is done, with these bytes
abbrev pub done : List ℕ → Outcome
done bytes = record { status = status.Done; bytes = bytes; lines = [] }

-- a call that writes nothing, and says why
abbrev pub refused : Status → String → Outcome
refused ended line = record { status = ended; bytes = []; lines = lines (line ∷ []) }

-- the calls, each with its outcome
pub record AreWorkedOut (reader : Reader) (brought : Brought) : Type 0 where
  -- `settle` takes every revision one way
  pub accepted : call reader brought ("settle" ∷ "accept" ∷ "p" ∷ []) ≡ done (package_with (codes "<w:r><w:t>new</w:t></w:r>"))
  pub rejected : call reader brought ("settle" ∷ "reject" ∷ "p" ∷ []) ≡ done (package_with (codes "<w:r><w:t>old</w:t></w:r>"))
  -- `write` takes each by its verdict; what is open stays marked, and what is locked, with a line for its entry
  pub decided : call reader brought ("write" ∷ "p" ∷ "j" ∷ []) ≡ done (package_with (codes "<w:r><w:t>new</w:t></w:r><w:r><w:t>old</w:t></w:r>"))
  pub undecided : call reader brought ("write" ∷ "p" ∷ []) ≡ done (package_with (insertion ++ deletion))
  pub locked : call reader brought ("write" ∷ "p" ∷ "j" ∷ "--lock" ∷ "Bob" ∷ []) ≡ record { status = status.Refused; bytes = package_with (codes "<w:r><w:t>new</w:t></w:r>" ++ deletion); lines = lines ("redline: refused 1 2 reject Ann: locked author" ∷ []) }
  -- `check`, `text` and `join`
  pub sound : call reader brought ("check" ∷ "p" ∷ []) ≡ done (lines ("sound 2 revisions" ∷ []))
  pub final : call reader brought ("text" ∷ "p" ∷ []) ≡ done (lines ("new" ∷ []))
  pub original : call reader brought ("text" ∷ "p" ∷ "--view" ∷ "original" ∷ []) ≡ done (lines ("old" ∷ []))
  pub joined : call reader brought ("join" ∷ "j" ∷ []) ≡ done journal
  pub joined_again : call reader brought ("join" ∷ "j" ∷ "j" ∷ []) ≡ done journal
  -- each cause has its status and its line
  pub no_words : call reader brought [] ≡ refused status.Usage "redline: cannot read the command line"
  pub few_words : call reader brought ("settle" ∷ "p" ∷ []) ≡ refused status.Usage "redline: cannot read the command line"
  pub unreadable : call reader brought ("check" ∷ "j" ∷ []) ≡ refused status.Package "redline: package: not readable"
  pub no_package : call reader brought ("check" ∷ "e" ∷ []) ≡ refused status.Package "redline: package: not a package"
  pub malformed : call reader brought ("write" ∷ "p" ∷ "p" ∷ []) ≡ refused status.Journal "redline: journal p: malformed"
  pub of_another : call reader brought ("write" ∷ "p" ∷ "k" ∷ []) ≡ refused status.Journal "redline: journal k: document 0000000000000000000000000000000000000000000000000000000000000000, expected f477bf6411cc8396c587e19cce0fae2118b4c3b50fe2715459a7ab16b891f70e"
  pub unjoined : call reader brought ("join" ∷ "j" ∷ "k" ∷ []) ≡ refused status.Journal "redline: journal k: document 0000000000000000000000000000000000000000000000000000000000000000, expected f477bf6411cc8396c587e19cce0fae2118b4c3b50fe2715459a7ab16b891f70e"
  pub missing : call reader brought ("check" ∷ "q" ∷ []) ≡ refused status.ReadFault "redline: cannot read q"
  pub missing_journal : call reader brought ("write" ∷ "p" ∷ "j" ∷ "q" ∷ []) ≡ refused status.ReadFault "redline: cannot read q"
  pub over_limit : call reader brought ("sample" ∷ "20001" ∷ []) ≡ refused status.Limit "redline: limit sample 20000"
