-- The files that a command names, and how much it asks for of each.
use Rattle.std.specs.Prelude.{ℕ, List, [], ◌∷◌, ◌++◌, Option, None, Some, Result, Ok, Err}
use Rattle.redl_inputs.specs.Asking.{files_within}
use Rattle.redl_io.specs.Limits.{journal_bytes, package_bytes}
use Rattle.redl_io.specs.declared.shelf.Request.{Request}
use Rattle.redl_outcome.specs.Brought.{Brought}
use Rattle.redl_outcome.specs.Plans.{Plan, has_asked, package_of, plan}
use Rattle.redl_lines.specs.Failures.{Failure}
use Rattle.redl_words.specs.Commands.{Command}

-- a name, if there is one
abbrev pub if_named : Option (List ℕ) → List (List ℕ)
if_named None = []
if_named (Some name) = name ∷ []

-- the request for a package, if there is one: up to one byte over its limit
abbrev pub package_requests : Option (List ℕ) → List Request
package_requests name = files_within package_bytes (if_named name)

-- the requests for these journals: up to one byte over the limit of all of them together
abbrev pub journal_requests : List (List ℕ) → List Request
journal_requests names = files_within journal_bytes names

-- the files of a command besides its package, in the order in which they are asked for
abbrev pub other_files : Plan → List Request
other_files plan = journal_requests plan.firsts ++ (package_requests plan.second ++ journal_requests plan.journals)

-- all files of a command: its package first, if it has one
abbrev pub all_files : Plan → List Request
all_files plan = package_requests (package_of plan.makes) ++ other_files plan

-- these files, where the first step of a call went well
abbrev pub where_ok : Result (Unit {0}) Failure → List Request → List Request
where_ok (Ok there) wanted = wanted
where_ok (Err failure) wanted = []

-- the files that a command asks for; none where the format that it asks for isn't there
abbrev pub files_of : Brought → Plan → List Request
files_of brought plan = where_ok (has_asked brought plan) (all_files plan)

-- the files that words ask for, where they are this command or none
abbrev pub asked_by : Brought → Option Command → List Request
asked_by brought None = []
asked_by brought (Some command) = files_of brought (plan command)
