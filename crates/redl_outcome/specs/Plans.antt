-- The plan of each command: what it makes and of which package, its journals and locks, its format, and what it decides.
use Rattle.std.specs.Prelude.{ℕ, Bool, List, [], Option, None, Some, Result, Err}
use Rattle.redl_commands.specs.Check.{checked}
use Rattle.redl_commands.specs.Decide.{chosen_journal}
use Rattle.redl_commands.specs.Join.{joined}
use Rattle.redl_commands_shown.specs.List.{listed}
use Rattle.redl_commands_shown.specs.Page.{paged}
use Rattle.redl_page.specs.Page.{heading_with}
use Rattle.redl_commands_shown.specs.Report.{reported}
use Rattle.redl_commands_shown.specs.Resume.{resumed}
use Rattle.redl_commands.specs.Sample.{sampled}
use Rattle.redl_commands.specs.Settle.{settled}
use Rattle.redl_commands_shown.specs.Text.{viewed}
use Rattle.redl_commands.specs.Write.{written}
use Rattle.redl_outcome.specs.Brought.{Brought}
use Rattle.redl_commands_shown.specs.Formats.{has_format}
use Rattle.redl_commands.specs.Writing.{Writing}
use Rattle.redl_inputs.specs.Packages.{package_file}
use Rattle.redl_inputs.specs.Readers.{Reader}
use Rattle.redl_inputs.specs.Steps.{◌>>=◌}
use Rattle.redl_io.specs.Limits.{journal_bytes}
use Rattle.redl_io.specs.Shelf.{Files}
use Rattle.redl_lines.specs.Failures.{Failure, no_memory}
use Rattle.redl_kinds.specs.declared.lock.Lock.{Lock}
use Rattle.redl_words.specs.Commands.{Command, settle, view_text, list, report, page, write, decide, resume, join, check, sample}

-- what a command makes
pub data Making : Type 0 where
  -- what is made of the text of the package of this name
  of_package : List ℕ → (Reader → Files → Brought → List ℕ → Result Writing Failure) → Making
  -- what is made without a package
  of_no_package : (Reader → Files → Result Writing Failure) → Making

-- what a command decides on the revisions of its package
pub data Deciding : Type 0 where
  nothing : Deciding
  -- accept for all, or else reject for all
  all_of_them : Bool → Deciding
  -- the verdicts of its journals, with its locks
  by_verdicts : Deciding

-- what a command makes and of which package; where there are two sittings, the journals of the first one and the second package; its
-- journals and locks, the name of the format of listings or of reports that it asks for, and what it decides
pub record Plan : Type 0 where
  pub makes : Making
  pub firsts : List (List ℕ)
  pub second : Option (List ℕ)
  pub journals : List (List ℕ)
  pub locks : List Lock
  pub format : Option (List ℕ)
  pub report : Option (List ℕ)
  pub decides : Deciding

-- a command that has no more than this
abbrev pub only : Making → Plan
only making = record { makes = making; firsts = []; second = None; journals = []; locks = []; format = None; report = None; decides = nothing }

-- the plan of each command
abbrev pub plan : Command → Plan
plan (settle accept p) = record (only (of_package p (λ reader files brought whole. settled reader accept whole))) {
  decides = all_of_them accept;
}
plan (view_text p view) = only (of_package p (λ reader files brought whole. viewed reader view whole))
plan (list p name locks journals wanted) = record (only (of_package p (λ reader files brought whole. listed reader files brought.formats name locks journals wanted whole))) {
  journals = journals;
  locks = locks;
  format = Some name;
}
plan (report p name by_kind locks journals) = record (only (of_package p (λ reader files brought whole. reported reader files brought.reports name by_kind locks journals whole))) {
  journals = journals;
  locks = locks;
  report = Some name;
}
plan (page p title rank pictures locks journals) = record (only (of_package p (λ reader files brought whole. paged reader files brought.skin (heading_with title rank pictures) locks journals whole))) {
  journals = journals;
  locks = locks;
}
plan (write p locks journals) = record (only (of_package p (λ reader files brought whole. written reader files locks journals whole))) {
  journals = journals;
  locks = locks;
  decides = by_verdicts;
}
plan (decide p reviewer journals locks choices rank) =
    record (only (of_package p (λ reader files brought whole. chosen_journal reader files reviewer rank locks journals choices whole))) {
      journals = journals;
      locks = locks;
    }
plan (resume p q firsts journals) = record (only (of_package p (λ reader files brought whole. resumed reader files q firsts journals whole))) {
  firsts = firsts;
  second = Some q;
  journals = journals;
}
plan (join journals) = record (only (of_no_package (λ reader files. joined reader files journal_bytes journals))) {
  journals = journals;
}
plan (check p) = only (of_package p (λ reader files brought whole. checked reader whole))
plan (sample number) = only (of_no_package (λ reader files. sampled reader number))

-- ---- the format

-- whether there is the format that a command asks for, if it asks for one
abbrev pub has_asked : Brought → Plan → Result (Unit {0}) Failure
has_asked brought plan = has_format brought.formats plan.format >>= λ there. has_format brought.reports plan.report

-- ---- the package

-- the name of the package of which something is made
abbrev pub package_of : Making → Option (List ℕ)
package_of (of_package p make) = Some p
package_of (of_no_package make) = None

-- what is made: first the package's text is read, if there is a package
abbrev pub made_by : Reader → Files → Brought → Making → Result Writing Failure
made_by reader files brought (of_package p make) = package_file files p >>= make reader files brought
made_by reader files brought (of_no_package make) = make reader files

-- the package's text is there exactly if there is a package
abbrev pub IsTextFor : Making → Option (List ℕ) → Type 0
IsTextFor (of_package p make) (Some whole) = Unit {0}
IsTextFor (of_package p make) None = ⊥
IsTextFor (of_no_package make) (Some whole) = ⊥
IsTextFor (of_no_package make) None = Unit {0}

-- what is made where the package has this text; a text that is missing makes nothing
abbrev pub made_with : Reader → Files → Brought → Making → Option (List ℕ) → Result Writing Failure
made_with reader files brought (of_package p make) (Some whole) = make reader files brought whole
made_with reader files brought (of_package p make) None = Err no_memory
made_with reader files brought (of_no_package make) text = make reader files
