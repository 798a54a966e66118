-- A sample is written.
use Rattle.std.proofs.Common.{◌≡◌, ◌≤◌, ℕ, nat_lt, false, List, Option, Result, Ok, ap, ◌∙◌, refl}
use Rattle.std.proofs.lemmas.Bool.{le-ltb}
use Rattle.redl_outcome.specs.Brought.{Brought}
use Rattle.redl_outcome.specs.Outcome.{outcome, writing_of}
use Rattle.redl_commands.specs.Writing.{outcome_of}
use Rattle.redl_inputs.proofs.PackageLaws.{tree_read}
use Rattle.redl_inputs.proofs.ReaderLaws.{reads_command}
use Rattle.redl_inputs.specs.Packages.{package_in, shaped, sound}
use Rattle.redl_inputs.specs.Readers.{Reader, IsReader}
use Rattle.redl_inputs.specs.Steps.{◌>>=◌}
use Rattle.redl_io.specs.Shelf.{Files}
use Rattle.redl_lines.specs.Failures.{Failure}
use Rattle.redl_lines.specs.Lines.{sample_paragraphs}
use Rattle.redl_lines.specs.declared.status.Status.TheVariants as status
use Rattle.redl_sample.specs.Packages.{package_text}
use Rattle.redl_sound.proofs.Sampled.Samples.{sound_sample}
use Rattle.redl_tree.specs.Model.Nodes.{Nodes}
use Rattle.redl_words.specs.Commands.{Command, IsCommand, sample}

-- a sample within the limit is a package
sample_is_package : (reader : Reader) → IsReader reader → (number : ℕ) → number ≤ sample_paragraphs → (nodes : Nodes) × (package_in reader (package_text number) ≡ Ok nodes)
sample_is_package reader is number few =
    let it = sound_sample number few in
    let read = tree_read reader (package_text number) it.nodes is it.reading it.shallow it.few in
    (it.nodes, ap (λ (tree : Result Nodes Failure). tree >>= (λ nodes. shaped nodes >>= sound)) read ∙ rw (it.shape, it.sound) refl)

pub sample_is_written : (reader : Reader) → IsReader reader → (words : List (List ℕ)) (files : Files) (brought : Brought) (number : ℕ)
    → IsCommand words (sample number) → number ≤ sample_paragraphs → (outcome reader words files brought).status ≡ status.Done
sample_is_written reader is words files brought number command few =
    let package_ = sample_is_package reader is number few in
    let within : nat_lt sample_paragraphs number ≡ false = le-ltb sample_paragraphs number few in
    ap (λ (c : Option Command). (outcome_of (writing_of reader files brought c)).status) (reads_command reader words (sample number) is command)
    ∙ rw (within, package_.1) refl
