-- What a later call takes of what a call wrote: what was left of the package, exactly unless there was something to tell.
use Rattle.std.proofs.Common.{◌≡◌, ◌≢◌, ◌∙◌, refl, sym, ap, subst, arith, ℕ, nat_lt, List, [], ◌++◌, length, Bool, true, false, not, true≢false, Option, None, Some, Result, Ok, Err, if◌then◌else◌}
use Rattle.std.specs.Prelude.{IsErr}
use Rattle.std.proofs.lemmas.Bool.{cond-true, ltb-false, not-false, not-true}
use Rattle.redl_commands.specs.Check.{checked, counted}
use Rattle.redl_commands.specs.Notes.{again_notes, noted_if}
use Rattle.redl_inputs.proofs.StepLaws.{both_ok}
use Rattle.redl_inputs.specs.Packages.{limited, package_file, package_in, shaped, sound, tree_in}
use Rattle.redl_inputs.specs.Readers.{Reader, IsReader, IsTreeOf}
use Rattle.redl_inputs.specs.Steps.{◌>>=◌, held as held_as, within}
use Rattle.redl_io.specs.Limits.{depth as depth_limit, package_bytes}
use Rattle.redl_io.specs.Shelf.{Files}
use Rattle.redl_lines.specs.Failures.{Failure, caused, no_package, over}
use Rattle.redl_lines.specs.declared.failure.Limit.TheVariants.{PackageBytes, Depth}
use Rattle.redl_lines.specs.declared.failure.PackageFault.TheVariants.{NotReadable}
use Rattle.redl_lines.specs.declared.note.Obstacle.TheVariants as obstacle
use Rattle.redl_outcome.proofs.LeftLaws.{is_made, sound_package}
use Rattle.redl_outcome.specs.Answers.{IsWritten}
use Rattle.redl_outcome.specs.Brought.{Brought}
use Rattle.redl_outcome.specs.Left.{IsLeft, left_of}
use Rattle.redl_outcome.specs.Outcome.{outcome, writing_of}
use Rattle.redl_outcome.specs.Plans.{Plan}
use Rattle.redl_reread_sound.proofs.Again.{reread, unread}
use Rattle.redl_reread_sound.proofs.TogetherLaws.{depth-together}
use Rattle.redl_reread_sound.specs.Again.{again}
use Rattle.redl_reread_sound.specs.Together.{together, meet_well}
use Rattle.redl_rounds_sound.proofs.OneFile.{reads_file}
use Rattle.redl_rounds_sound.proofs.Packages.{reads_package}
use Rattle.redl_rounds_sound.proofs.Second.{depth-bare, left-again}
use Rattle.redl_rounds_sound.specs.Told.{IsNoPackage, taken_again}
use Rattle.redl_tree.specs.Model.Nodes.{Nodes}
use Rattle.redl_tree.specs.Model.Shapes.{depth_of}
use Rattle.redl_tree.specs.Model.Text.{text}
use Rattle.redl_words.specs.Commands.{check}
use Rattle.redl_xml.proofs.Documents.{one_tree}
use Rattle.redl_xml.specs.Readings.{IsReading, HasNoReading}

-- ---- the tree of a text

tree-none : (whole : List ℕ) (found : Option Nodes) → IsTreeOf whole found → HasNoReading whole → found ≡ None
tree-none whole None is none = refl
tree-none whole (Some nodes) is none = absurd (none nodes is)

tree-some : (whole : List ℕ) (nodes : Nodes) (found : Option Nodes) → IsTreeOf whole found → IsReading whole nodes → found ≡ Some nodes
tree-some whole nodes None none is = absurd (none nodes is)
tree-some whole nodes (Some other) read is = ap Some (one_tree whole other nodes read is)

-- ---- the limits

within-long : (whole : List ℕ) → nat_lt package_bytes (length whole) ≡ true → within package_bytes PackageBytes whole ≡ Err (caused (over PackageBytes))
within-long whole long = cond-true (nat_lt package_bytes (length whole)) _ _ long

limited-deep : (nodes : Nodes) → nat_lt depth_limit (depth_of nodes) ≡ true → limited nodes ≡ Err (caused (over Depth))
limited-deep nodes deep = cond-true (nat_lt depth_limit (depth_of nodes)) _ _ deep

-- ---- the tests, one after the other

abbrev taken_by : Bool → Bool → Bool → Nodes → Result Nodes Failure
taken_by long badly deep nodes =
    if long then Err (caused (over PackageBytes))
    else if badly then Err (caused (no_package NotReadable))
    else if deep then Err (caused (over Depth))
    else Ok (again nodes)

told-refused : (long badly deep : Bool) (nodes : Nodes) → noted_if deep obstacle.Depth ++ (noted_if long obstacle.Bytes ++ noted_if badly obstacle.Meeting) ≢ []
    → IsErr (taken_by long badly deep nodes)
told-refused true badly deep nodes told = refl
told-refused false true deep nodes told = refl
told-refused false false true nodes told = refl
told-refused false false false nodes told = absurd (told refl)

module _ (reader : Reader) (files : Files) (made : Plan) (p name wrote : List ℕ) (is : IsReader reader) (l : IsLeft reader files made p wrote) (held : files name ≡ Some wrote) where
  nodes : Nodes
  nodes = left_of l.says l.nodes

  too-long : nat_lt package_bytes (length (text nodes)) ≡ true → package_file files name >>= package_in reader ≡ Err (caused (over PackageBytes))
  unfolding nodes
  too-long long =
      let all_of_it : nat_lt package_bytes (length wrote) ≡ true = ap (λ (z : List ℕ). nat_lt package_bytes (length z)) l.written ∙ long in
      ap (λ (found : Option (List ℕ)). (held_as name found >>= within package_bytes PackageBytes) >>= package_in reader) held
      ∙ ap (λ (file : Result (List ℕ) Failure). file >>= package_in reader) (within-long wrote all_of_it)

  file-read : nat_lt package_bytes (length (text nodes)) ≡ false → package_file files name >>= package_in reader ≡ package_in reader wrote
  unfolding nodes
  file-read short =
      let fits = ltb-false package_bytes (length (text nodes)) short in
      ap (λ (file : Result (List ℕ) Failure). file >>= package_in reader)
      (reads_file files name wrote package_bytes PackageBytes held (omega (arith, ap length l.written, fits)))

  no-tree : not (meet_well nodes) ≡ true → package_in reader wrote ≡ Err (caused (no_package NotReadable))
  unfolding nodes
  no-tree badly =
      let none : HasNoReading wrote =
      subst (λ (z : List ℕ). HasNoReading z) (sym l.written)
      (unread l.whole l.nodes l.says (reads_package reader l.whole l.nodes is l.original) (sound_package reader l.whole l.nodes l.original) (not-true (meet_well nodes) badly)) in
      ap (λ (found : Option Nodes). tree_in found >>= (λ tree. shaped tree >>= (λ package_. sound package_))) (tree-none wrote (reader.tree wrote) (is.trees wrote) none)

  too-deep : not (meet_well nodes) ≡ false → nat_lt depth_limit (depth_of nodes) ≡ true → package_in reader wrote ≡ Err (caused (over Depth))
  unfolding nodes
  too-deep well deep =
      let it = reread l.whole l.nodes l.says (reads_package reader l.whole l.nodes is l.original) (sound_package reader l.whole l.nodes l.original) (not-false (meet_well nodes) well) in
      let reads : IsReading wrote (again nodes) = subst (λ (z : List ℕ). IsReading z (again nodes)) (sym l.written) it.reading in
      let below : nat_lt depth_limit (depth_of (again nodes)) ≡ true = ap (nat_lt depth_limit) (depth-bare (together nodes) ∙ depth-together nodes) ∙ deep in
      ap (λ (found : Option Nodes). tree_in found >>= (λ tree. shaped tree >>= (λ package_. sound package_))) (tree-some wrote (again nodes) (reader.tree wrote) (is.trees wrote) reads)
      ∙ ap (λ (tree : Result Nodes Failure). tree >>= (λ tree. shaped tree >>= (λ package_. sound package_))) (limited-deep (again nodes) below)

  by-tests : (long badly deep : Bool) → nat_lt package_bytes (length (text nodes)) ≡ long → not (meet_well nodes) ≡ badly → nat_lt depth_limit (depth_of nodes) ≡ deep
      → package_file files name >>= package_in reader ≡ taken_by long badly deep nodes
  unfolding nodes
  by-tests true badly deep a b c = too-long a
  by-tests false true deep a b c = file-read a ∙ no-tree b
  by-tests false false true a b c = file-read a ∙ too-deep b c
  by-tests false false false a b c =
      file-read a ∙ left-again reader files made p wrote is l (record { meet = not-false (meet_well nodes) b; shallow = ltb-false depth_limit (depth_of nodes) c })

  -- what a later call takes of the file
  pub takes-again : package_file files name >>= package_in reader ≡ taken_again (left_of l.says l.nodes)
  unfolding nodes
  takes-again = by-tests (nat_lt package_bytes (length (text nodes))) (not (meet_well nodes)) (nat_lt depth_limit (depth_of nodes)) refl refl refl

  -- nothing, where there was something to tell
  pub refuses-told : (brought : Brought) → again_notes (left_of l.says l.nodes) ≢ [] → IsNoPackage reader files brought name
  unfolding nodes
  refuses-told brought told = record { package_ = fails; checked = unwritten }
    where
      fails : IsErr (package_file files name >>= package_in reader)
      fails =
          subst (λ (r : Result Nodes Failure). IsErr r) (sym takes-again)
          (told-refused (nat_lt package_bytes (length (text nodes))) (not (meet_well nodes)) (nat_lt depth_limit (depth_of nodes)) nodes told)

      unwritten : (words : List (List ℕ)) → reader.command words ≡ Some (check name) → ¬ IsWritten (outcome reader words files brought).status
      unwritten words is_check done =
          let call = is_made (writing_of reader files brought (reader.command words)) done in
          let checks : package_file files name >>= checked reader ≡ Ok call.0 = ap (writing_of reader files brought) (sym is_check) ∙ call.1 in
          let file = both_ok (package_file files name) (checked reader) call.0 checks in
          let read = both_ok (package_in reader file.x) (λ nodes. Ok (counted nodes)) call.0 file.second in
          let taken : package_file files name >>= package_in reader ≡ Ok read.x =
          ap (λ (made : Result (List ℕ) Failure). made >>= package_in reader) file.first ∙ read.first in
          true≢false (sym (subst (λ (r : Result Nodes Failure). IsErr r) taken fails))
