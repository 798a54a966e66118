-- What a call left of a package is a package again.
use Rattle.std.proofs.Common.{◌≡◌, ◌≤◌, ◌∙◌, ◌+◌, max, refl, sym, ap, subst, arith, ℕ, List, [], ◌∷◌, Bool, true, false, length, Option, None, Some, Result, Ok, if◌then◌else◌}
use Rattle.std.specs.List.{list_all}
use Rattle.std.proofs.lemmas.Bool.{and_parts}
use Rattle.redl_commands.specs.Check.{checked, counted, sound_text}
use Rattle.redl_commands.specs.Writing.{Writing, outcome_of}
use Rattle.redl_index.specs.Numbers.{package_revisions}
use Rattle.redl_inputs.proofs.PackageLaws.{tree_read}
use Rattle.redl_inputs.specs.Packages.{package_file, package_in, shaped, shaped_unless, sound, sound_unless}
use Rattle.redl_inputs.specs.Readers.{Reader, IsReader}
use Rattle.redl_inputs.specs.Steps.{◌>>=◌}
use Rattle.redl_io.specs.Limits.{depth as depth_limit, nodes as node_limit, package_bytes}
use Rattle.redl_io.specs.Shelf.{Files}
use Rattle.redl_lines.specs.Failures.{Failure}
use Rattle.redl_lines.specs.declared.failure.Limit.TheVariants.{PackageBytes}
use Rattle.redl_opc.specs.Shape.{refusal}
use Rattle.redl_opc.specs.declared.error.OpcError.{OpcError}
use Rattle.redl_outcome.proofs.LeftLaws.{leaves_sound, sound_package}
use Rattle.redl_outcome.specs.Brought.{Brought}
use Rattle.redl_outcome.specs.Left.{IsLeft, left_of}
use Rattle.redl_outcome.specs.Outcome.{outcome, writing_of}
use Rattle.redl_outcome.specs.Plans.{Plan, plan}
use Rattle.redl_reread_sound.proofs.Again.{reread}
use Rattle.redl_reread_sound.proofs.TogetherLaws.{depth-together}
use Rattle.redl_reread_sound.specs.Again.{again}
use Rattle.redl_reread_sound.specs.Together.{together}
use Rattle.redl_rounds_sound.proofs.OneFile.{reads_file}
use Rattle.redl_rounds_sound.proofs.Packages.{nodes-few, reads_package}
use Rattle.redl_rounds_sound.specs.Second.{CanBeRead, IsSecond, IsTakenAgain, LeftIsTakenAgain}
use Rattle.redl_rules.specs.Attributes.{broken_rule, rules}
use Rattle.redl_sound.proofs.Locked.Opened.{shape-read}
use Rattle.redl_tree.specs.Decisions.Packages.{stories}
use Rattle.redl_tree.specs.Model.Count.{count}
use Rattle.redl_tree.specs.Model.Nodes.{Nodes, no_nodes, bytes, element}
use Rattle.redl_tree.specs.Model.Shapes.{depth_of}
use Rattle.redl_tree.specs.Model.View.{Element}
use Rattle.redl_tree.specs.Revisions.Labels.{unlabelled}
use Rattle.redl_tree.specs.Rules.Sound.{first_broken, holds, is_sound}
use Rattle.redl_tree.specs.Rules.Tests.{Test}
use Rattle.redl_words.specs.Commands.{check}
use Rattle.redl_xml.specs.Readings.{IsReading}

-- where all rules hold, none is broken
none_broken : (number : ℕ) (tests : List Test) (parts : List Element) → list_all (λ test. holds test parts) tests ≡ true → first_broken number tests parts ≡ None
none_broken number [] parts all = refl
none_broken number (test ∷ later) parts all =
    let both = and_parts (holds test parts) (list_all (λ other. holds other parts) later) all in
    ap (λ (b : Bool). if b then first_broken (number + 1) later parts else Some number) both.0 ∙ none_broken (number + 1) later parts both.1

-- labels leave the depth as it is
pub depth-bare : (nodes : Nodes) → depth_of (unlabelled nodes) ≡ depth_of nodes
depth-bare no_nodes = refl
depth-bare (bytes b rest) = depth-bare rest
depth-bare (element tag kids rest) =
    ap (λ n. max (n + 1) (depth_of (unlabelled rest))) (depth-bare kids) ∙ ap (λ n. max (depth_of kids + 1) n) (depth-bare rest)

-- the text of nodes within the limits that have the shape of a package, and keep the rules, is a package
is-package : (reader : Reader) (text : List ℕ) (nodes : Nodes) → IsReader reader → IsReading text nodes → depth_of nodes ≤ depth_limit → count nodes ≤ node_limit
    → refusal nodes ≡ None → is_sound rules nodes ≡ true → package_in reader text ≡ Ok nodes
is-package reader text nodes is reading shallow few shape keeps =
    ap (λ (tree : Result Nodes Failure). tree >>= (λ tree. shaped tree >>= (λ package_. sound package_))) (tree_read reader text nodes is reading shallow few)
    ∙ ap (λ (o : Option OpcError). shaped_unless o nodes >>= (λ package_. sound package_)) shape
    ∙ ap (λ (o : Option ℕ). sound_unless o nodes) (none_broken 1 rules (stories nodes) keeps)

-- what is left of a package that was read, where it can be read again
pub left-again : (reader : Reader) (files : Files) (made : Plan) (p wrote : List ℕ) → IsReader reader → (l : IsLeft reader files made p wrote) → CanBeRead (left_of l.says l.nodes)
    → package_in reader wrote ≡ Ok (again (left_of l.says l.nodes))
left-again reader files made p wrote is l can =
    let reading = reads_package reader l.whole l.nodes is l.original in
    let it = reread l.whole l.nodes l.says reading (sound_package reader l.whole l.nodes l.original) can.meet in
    let nodes = again (left_of l.says l.nodes) in
    let same : depth_of nodes ≡ depth_of (left_of l.says l.nodes) = depth-bare (together (left_of l.says l.nodes)) ∙ depth-together (left_of l.says l.nodes) in
    is-package reader wrote nodes is
    (subst (λ (text : List ℕ). IsReading text nodes) (sym l.written) it.reading)
    (omega (arith, same, can.shallow))
    (omega (arith, it.few, nodes-few reader l.whole l.nodes l.original))
    (it.shape ∙ shape-read reader l.whole l.nodes l.original) it.sound

-- ---- the calls

checks : (reader : Reader) (files : Files) (brought : Brought) (name text : List ℕ) (nodes : Nodes) (words : List (List ℕ)) → package_file files name ≡ Ok text
    → package_in reader text ≡ Ok nodes → reader.command words ≡ Some (check name) → writing_of reader files brought (reader.command words) ≡ Ok (counted nodes)
checks reader files brought name text nodes words file read is_check =
    ap (writing_of reader files brought) is_check
    ∙ ap (λ (made : Result (List ℕ) Failure). made >>= checked reader) file
    ∙ ap (λ (made : Result Nodes Failure). made >>= (λ nodes. let r : Result Writing Failure = Ok (counted nodes) in r)) read

pub is-second : (reader : Reader) (files : Files) (brought : Brought) (name text : List ℕ) (nodes : Nodes) → package_file files name ≡ Ok text → package_in reader text ≡ Ok nodes
    → IsSecond reader files brought name nodes
is-second reader files brought name text nodes file read = record {
  package_ = ap (λ (made : Result (List ℕ) Failure). made >>= package_in reader) file ∙ read;
  checked = λ words is_check.
      let made = checks reader files brought name text nodes words file read is_check in record {
        done = ap (λ (m : Result Writing Failure). (outcome_of m).status) made;
        same = ap (λ (m : Result Writing Failure). (outcome_of m).bytes) made;
      };
}

pub left_is_taken_again : (reader : Reader) → IsReader reader → (files : Files) (brought : Brought) → LeftIsTakenAgain reader files brought
left_is_taken_again reader is files brought words command p name is_command decides file =
    let wrote = (outcome reader words files brought).bytes in
    let l = leaves_sound reader words files brought command p is_command decides file.done in
    record {
      left = l;
      second = λ can.
          is-second reader files brought name wrote (again (left_of l.says l.nodes)) (reads_file files name wrote package_bytes PackageBytes file.held file.short)
          (left-again reader files (plan command) p wrote is l can);
    }
