-- A package that was read: its tree, how many revisions it has, and its digest.
use Rattle.std.proofs.Common.{◌≡◌, ◌<◌, ◌≤◌, ℕ, zero, suc, List, [], ◌∷◌, ◌++◌, get_or, nat_lt, Bool, true, false, Option, None, Some, Result, Ok, Err, refl, ap, ◌∙◌, subst, arith, if◌then◌else◌}
use Rattle.std.proofs.lemmas.Bool.{ltb-false}
use Rattle.std.specs.Int.{byte_at, bytes_high_first, byte_len, to_be_bytes, w32}
use Rattle.sha2.specs.Sha256.{digest_bytes, final_hash, initial_hash_256, sha256}
use Rattle.hex.specs.Hex.{IsBytes}
use Rattle.redl_inputs.proofs.StepLaws.{both_ok, same_ok}
use Rattle.redl_inputs.specs.Packages.{package_in, shaped, shaped_unless, sound, tree_in}
use Rattle.redl_inputs.specs.Readers.{Reader, IsReader, IsTreeOf}
use Rattle.redl_inputs.specs.Steps.{◌>>=◌}
use Rattle.redl_io.specs.Limits.{depth as depth_limit, nodes as node_limit}
use Rattle.redl_index.specs.Numbers.{package_revisions}
use Rattle.redl_lines.specs.Failures.{Failure}
use Rattle.redl_sound.proofs.Locked.Opened.{shape-read, sound-same}
use Rattle.redl_opc.specs.Shape.{refusal}
use Rattle.redl_opc.specs.declared.error.OpcError.{OpcError}
use Rattle.redl_rounds_sound.proofs.Bounds.{revisions-counted}
use Rattle.redl_rules.specs.Attributes.{broken_rule}
use Rattle.redl_tree.specs.Model.Count.{count}
use Rattle.redl_tree.specs.Model.Nodes.{Nodes}
use Rattle.redl_xml.specs.Readings.{IsReading}
use Rattle.redl_xml.specs.Shapes.{depth_of}

-- ---- the tree

-- a tree within the limits, with the fact of its nodes
within_limits : (deep many : Bool) (one two : Failure) (nodes tree : Nodes)
    → (let made : Result Nodes Failure = if deep then Err one else if many then Err two else Ok nodes in made ≡ Ok tree) → (nodes ≡ tree) × (many ≡ false)
within_limits true many one two nodes tree is = absurd (cc is)
within_limits false true one two nodes tree is = absurd (cc is)
within_limits false false one two nodes tree is = (same_ok is, refl)

-- what was read: the tree, whose nodes are within their limit
record WasRead (found : Option Nodes) (tree : Nodes) : Type 0 where
  pub found_is : found ≡ Some tree
  pub few : count tree ≤ node_limit

was_read : (found : Option Nodes) (tree : Nodes) → tree_in found ≡ Ok tree → WasRead found tree
was_read None tree is = absurd (cc is)
was_read (Some nodes) tree is =
    let both = within_limits (nat_lt depth_limit (depth_of nodes)) (nat_lt node_limit (count nodes)) _ _ nodes tree is in
    record { found_is = ap Some both.0; few = subst (λ (n : Nodes). count n ≤ node_limit) both.0 (ltb-false node_limit (count nodes) both.1) }

shaped-same : (o : Option OpcError) (tree nodes : Nodes) → shaped_unless o tree ≡ Ok nodes → tree ≡ nodes
shaped-same None tree nodes is = same_ok is
shaped-same (Some error) tree nodes is = absurd (cc is)

package-read : (reader : Reader) (whole : List ℕ) (nodes : Nodes) → package_in reader whole ≡ Ok nodes → WasRead (reader.tree whole) nodes
package-read reader whole nodes made =
    let tree = both_ok (tree_in (reader.tree whole)) (λ tree. shaped tree >>= (λ package_. sound package_)) nodes made in
    let shape = both_ok (shaped tree.x) (λ package_. sound package_) nodes tree.second in
    let same : tree.x ≡ nodes = shaped-same (refusal tree.x) tree.x shape.x shape.first ∙ sound-same (broken_rule shape.x) shape.x nodes shape.second in
    subst (λ (n : Nodes). WasRead (reader.tree whole) n) same (was_read (reader.tree whole) tree.x tree.first)

-- the text of a package that was read is that of its nodes
pub reads_package : (reader : Reader) (whole : List ℕ) (nodes : Nodes) → IsReader reader → package_in reader whole ≡ Ok nodes → IsReading whole nodes
reads_package reader whole nodes is made = subst (λ o. IsTreeOf whole o) (package-read reader whole nodes made).found_is (is.trees whole)

-- it has no more nodes than a package may have
pub nodes-few : (reader : Reader) (whole : List ℕ) (nodes : Nodes) → package_in reader whole ≡ Ok nodes → count nodes ≤ node_limit
nodes-few reader whole nodes made = (package-read reader whole nodes made).few

-- its revisions have numbers of 32 bits
pub revisions-few : (reader : Reader) (whole : List ℕ) (nodes : Nodes) → IsReader reader → package_in reader whole ≡ Ok nodes → package_revisions nodes < 4294967295
revisions-few reader whole nodes is made =
    let counted = revisions-counted whole nodes (reads_package reader whole nodes is made) (shape-read reader whole nodes made) in
    let few = (package-read reader whole nodes made).few in
    omega (arith, counted, few)

-- ---- the digest

byte-below : (k n : ℕ) → byte_at k n < 256
byte-below zero n = omega arith
byte-below (suc k) n = omega arith

bytes-none : IsBytes []
bytes-none i = omega arith

bytes-cons : (b : ℕ) (bs : List ℕ) → b < 256 → IsBytes bs → IsBytes (b ∷ bs)
bytes-cons b bs here later zero = here
bytes-cons b bs here later (suc i) = later i

bytes-high : (n x : ℕ) → IsBytes (bytes_high_first n x)
bytes-high zero x = bytes-none
bytes-high (suc n) x = bytes-cons (byte_at n x) (bytes_high_first n x) (byte-below n x) (bytes-high n x)

bytes-append : (xs ys : List ℕ) → IsBytes xs → IsBytes ys → IsBytes (xs ++ ys)
bytes-append [] ys h g = g
bytes-append (x ∷ xs) ys h g = bytes-cons x (xs ++ ys) (h zero) (bytes-append xs ys (λ k. h (suc k)) g)

digest-bytes : (h : List ℕ) (n : ℕ) → IsBytes (digest_bytes h n)
unfolding digest_bytes
digest-bytes h zero = bytes-none
digest-bytes h (suc n) = bytes-append (digest_bytes h n) (to_be_bytes w32 (get_or h n 0)) (digest-bytes h n) (bytes-high (byte_len w32) (get_or h n 0))

-- a digest is bytes
pub sha256-bytes : (m : List ℕ) → IsBytes (sha256 m)
unfolding sha256
sha256-bytes m = digest-bytes (final_hash initial_hash_256 m) 8
