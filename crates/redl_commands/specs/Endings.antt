-- How a call ends, by what it made: all of it went out, a prefix of it, or nothing was made.
use Rattle.std.specs.Prelude.{◌≡◌, ◌⊎◌, ℕ, List, Option, Result, Ok, Err}
use Rattle.std.specs.Io.KnownBytes.{append_known}
use Rattle.redl_io.specs.Faults.{Rose}
use Rattle.redl_io.specs.Sink.{GrowsByFront}
use Rattle.redl_inputs.specs.Readers.{Reader}
use Rattle.redl_inputs.specs.Reading.{Reads, ReadsFiles}
use Rattle.redl_commands.specs.Writing.{Writing}
use Rattle.redl_io.specs.Shelf.{Files}
use Rattle.redl_io.specs.declared.shelf.Request.{Request}
use Rattle.redl_lines.specs.Ends.{End, written, unwritten, failed}
use Rattle.redl_lines.specs.Failures.{Failure}

-- all of the text went out
pub record WritesAll {K : Type 0} (told : K → Option (List ℕ)) (faults : K → ℕ) (old new : K) (text : List ℕ) : Type 0 where
  pub bytes : told new ≡ append_known (told old) text
  pub stands : faults new ≡ faults old

-- the output failed, and a prefix of the text went out
pub record WritesFront {K : Type 0} (told : K → Option (List ℕ)) (faults : K → ℕ) (old new : K) (text : List ℕ) : Type 0 where
  pub bytes : GrowsByFront (told old) (told new) text
  pub rose : Rose (faults old) (faults new)

-- what was made was written, or the output failed, or nothing was made
abbrev pub Finishes : {K : Type 0} → (K → Option (List ℕ)) → (K → ℕ) → K → K → Result Writing Failure → End → Type 0
Finishes told faults old new (Ok writing) end =
    ((end ≡ written writing.remarks) × WritesAll told faults old new writing.bytes)
    ⊎ ((end ≡ unwritten writing.remarks) × WritesFront told faults old new writing.bytes)
Finishes told faults old new (Err failure) end = (end ≡ failed failure) × (told new ≡ told old) × (faults new ≡ faults old)

-- a call took these files from a shelf, in their order and within their caps, made what was due or failed, and put what it made on the output
pub record Ends {S K : Type 0} (holds : S → Option Files) (misses : S → ℕ) (asked : S → Option (List Request)) (shelf shelf_new : S) (told : K → Option (List ℕ)) (faults : K → ℕ) (out out_new : K)
    (wanted : List Request) (due : Reader → Files → Result Writing Failure) (end : End) : Type 0 where
  pub made : Result Writing Failure
  pub reads : ReadsFiles holds misses asked shelf shelf_new wanted made due
  pub finishes : Finishes told faults out out_new made end

-- what was due was made without files of a shelf, or memory ran out, and with this the call ended
pub record EndsAlone {K : Type 0} (told : K → Option (List ℕ)) (faults : K → ℕ) (out out_new : K) (due : Reader → Result Writing Failure) (end : End) : Type 0 where
  pub made : Result Writing Failure
  pub reads : Reads made due
  pub finishes : Finishes told faults out out_new made end
