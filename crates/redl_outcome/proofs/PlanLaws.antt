-- What a command makes, by its plan: with its package's text, or without a package.
use Rattle.std.proofs.Common.{◌≡◌, ℕ, List, [], ◌∷◌, ◌++◌, Option, None, Some, IsSome, Result, Ok, Err, refl, subst}
use Rattle.std.specs.Option.{option_map}
use Rattle.redl_outcome.specs.Files.{package_requests}
use Rattle.redl_outcome.specs.Brought.{Brought}
use Rattle.redl_outcome.specs.Plans.{Making, of_package, of_no_package, package_of, made_by, made_with, IsTextFor}
use Rattle.redl_commands.specs.Writing.{Writing}
use Rattle.redl_inputs.proofs.ReadLaws.{reads_before, reads_then, reads_stops}
use Rattle.redl_inputs.specs.Asking.{file_within}
use Rattle.redl_inputs.specs.Packages.{package_file}
use Rattle.redl_inputs.specs.Readers.{Reader}
use Rattle.redl_inputs.specs.Reading.{ReadsFiles}
use Rattle.redl_io.specs.Limits.{package_bytes}
use Rattle.redl_io.specs.Shelf.{Files}
use Rattle.redl_io.specs.declared.shelf.Request.{Request}
use Rattle.redl_lines.specs.Failures.{Failure}

-- ---- the text

-- where something is made of a package, its text is there
pub text_is_there : {T : Type 0} (view : T → List ℕ) (name : List ℕ) (make : Reader → Files → Brought → List ℕ → Result Writing Failure) (text : Option T)
    → IsTextFor (of_package name make) (option_map view text) → IsSome text
text_is_there view name make None given = absurd given
text_is_there view name make (Some whole) given = refl

-- without a package there is no text
pub no_text : (makes : Making) → package_of makes ≡ None → IsTextFor makes None
no_text (of_package name make) none = absurd (cc none)
no_text (of_no_package make) none = tt

-- with a package there is one
pub some_text : (makes : Making) (name whole : List ℕ) → package_of makes ≡ Some name → IsTextFor makes (Some whole)
some_text (of_package other make) name whole some = tt
some_text (of_no_package make) name whole some = absurd (cc some)

-- ---- the files

-- what was made without a package
pub reads_alone : {S : Type 0} {told : S → Option Files} {faults : S → ℕ} {asked : S → Option (List Request)} {old new : S} {made : Result Writing Failure} (brought : Brought) (makes : Making) (others : List Request)
    → package_of makes ≡ None → ReadsFiles told faults asked old new others made (λ reader files. made_with reader files brought makes None)
    → ReadsFiles told faults asked old new (package_requests (package_of makes) ++ others) made (λ reader files. made_by reader files brought makes)
reads_alone brought (of_package name make) others none step = absurd (cc none)
reads_alone brought (of_no_package make) others none step = step

same_name : {X : Type 0} {x y : X} → let given : Option X = Some x in given ≡ Some y → y ≡ x
same_name is = cc

-- what was made of a package's text that was fetched
pub reads_package : {S : Type 0} {told : S → Option Files} {faults : S → ℕ} {asked : S → Option (List Request)} {old mid new : S} {made : Result Writing Failure} (brought : Brought) (makes : Making) (others : List Request) (name whole : List ℕ)
    → package_of makes ≡ Some name → ReadsFiles told faults asked old mid (file_within package_bytes name ∷ []) (Ok whole) (λ reader files. package_file files name)
    → ReadsFiles told faults asked mid new others made (λ reader files. made_with reader files brought makes (Some whole))
    → ReadsFiles told faults asked old new (package_requests (package_of makes) ++ others) made (λ reader files. made_by reader files brought makes)
reads_package {told = told} {faults = faults} {asked = asked} {old = old} {mid = mid} brought (of_package other make) others name whole some first rest =
    let same : name ≡ other = same_name some in
    reads_then (λ bytes reader files. make reader files brought bytes)
    (subst (λ n. ReadsFiles told faults asked old mid (file_within package_bytes n ∷ []) (Ok whole) (λ reader files. package_file files n)) same first) rest
reads_package brought (of_no_package make) others name whole some first rest = absurd (cc some)

-- a package that was not fetched
pub reads_no_package : {S : Type 0} {told : S → Option Files} {faults : S → ℕ} {asked : S → Option (List Request)} {old new : S} {failure : Failure} (brought : Brought) (makes : Making) (others : List Request) (name : List ℕ)
    → package_of makes ≡ Some name → ReadsFiles {Y = List ℕ} told faults asked old new (file_within package_bytes name ∷ []) (Err failure) (λ reader files. package_file files name)
    → ReadsFiles {Y = Writing} told faults asked old new (package_requests (package_of makes) ++ others) (Err failure) (λ reader files. made_by reader files brought makes)
reads_no_package {told = told} {faults = faults} {asked = asked} {old = old} {new = new} {failure = failure} brought (of_package other make) others name some first =
    let same : name ≡ other = same_name some in
    reads_before others
    (reads_stops (λ bytes reader files. make reader files brought bytes)
    (subst (λ n. ReadsFiles {Y = List ℕ} told faults asked old new (file_within package_bytes n ∷ []) (Err failure) (λ reader files. package_file files n)) same first))
reads_no_package brought (of_no_package make) others name some first = absurd (cc some)
