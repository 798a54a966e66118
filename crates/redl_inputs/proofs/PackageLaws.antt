-- The package of a text, by what the code read.
use Rattle.std.proofs.Common.{◌≡◌, ◌<◌, ◌≤◌, ℕ, List, nat_lt, Option, None, Some, Result, Err, Ok, IsErrAnd, IsErrOf, subst, refl, sym, ap, ◌∙◌}
use Rattle.std.proofs.lemmas.Bool.{lt-ltb, le-ltb, cond-true, cond-false}
use Rattle.redl_inputs.proofs.StepLaws.{same_ok}
use Rattle.redl_inputs.specs.Packages.{limited, sound_unless, tree_in}
use Rattle.redl_inputs.specs.Readers.{Reader, IsReader, IsTreeOf}
use Rattle.redl_inputs.specs.Reading.{IsMade, IsOfNoFile, Reads}
use Rattle.redl_inputs.specs.Views.{result_view}
use Rattle.redl_io.specs.Limits.{depth as depth_limit, nodes as node_limit}
use Rattle.redl_lines.specs.Causes.{xml_failure}
use Rattle.redl_lines.specs.Failures.{Failure, failure_view, caused, over, no_package}
use Rattle.redl_lines.specs.declared.failure.Failure.{Failure as Declared}
use Rattle.redl_lines.specs.declared.failure.Limit.TheVariants.{Depth, Nodes as TooManyNodes}
use Rattle.redl_lines.specs.declared.failure.PackageFault.TheVariants.{NotReadable}
use Rattle.redl_tree.specs.Model.Count.{count}
use Rattle.redl_tree.specs.Model.Nodes.{Nodes}
use Rattle.redl_xml.proofs.Documents.{one_tree}
use Rattle.redl_xml.specs.Readings.{IsReading, HasReading, HasNoReading}
use Rattle.redl_xml.specs.Shapes.{depth_of}
use Rattle.redl_xml.specs.declared.error.XmlError.{XmlError}
use Rattle.redl_xml.specs.declared.error.XmlError.TheVariants as xml

-- ---- what a reader reads

tree_by : (text : List ℕ) (nodes : Nodes) (read : Option Nodes) → IsTreeOf text read → IsReading text nodes → read ≡ Some nodes
tree_by text nodes None none is = absurd (none nodes is)
tree_by text nodes (Some other) read is = ap Some (one_tree text other nodes read is)

reads_tree : (reader : Reader) (text : List ℕ) (nodes : Nodes) → IsReader reader → IsReading text nodes → reader.tree text ≡ Some nodes
reads_tree reader text nodes is found = tree_by text nodes (reader.tree text) (is.trees text) found

no_tree_by : (text : List ℕ) (read : Option Nodes) → IsTreeOf text read → HasNoReading text → read ≡ None
no_tree_by text None is none = refl
no_tree_by text (Some other) is none = absurd (none other is)

reads_no_tree : (reader : Reader) (text : List ℕ) → IsReader reader → HasNoReading text → reader.tree text ≡ None
reads_no_tree reader text is none = no_tree_by text (reader.tree text) (is.trees text) none

-- ---- the tree of a text within the limits

limited_ok : (nodes : Nodes) → depth_of nodes ≤ depth_limit → count nodes ≤ node_limit → limited nodes ≡ Ok nodes
limited_ok nodes shallow few =
    cond-false (nat_lt depth_limit (depth_of nodes)) _ _ (le-ltb depth_limit (depth_of nodes) shallow)
    ∙ cond-false (nat_lt node_limit (count nodes)) _ _ (le-ltb node_limit (count nodes) few)

limited_depth : (nodes : Nodes) → depth_limit < depth_of nodes → limited nodes ≡ Err (caused (over Depth))
limited_depth nodes deep = cond-true (nat_lt depth_limit (depth_of nodes)) _ _ (lt-ltb depth_limit (depth_of nodes) deep)

limited_nodes : (nodes : Nodes) → depth_of nodes ≤ depth_limit → node_limit < count nodes → limited nodes ≡ Err (caused (over TooManyNodes))
limited_nodes nodes shallow many =
    cond-false (nat_lt depth_limit (depth_of nodes)) _ _ (le-ltb depth_limit (depth_of nodes) shallow)
    ∙ cond-true (nat_lt node_limit (count nodes)) _ _ (lt-ltb node_limit (count nodes) many)

-- a readable text within the limits of depth and nodes gives its nodes
pub tree_read : (reader : Reader) (text : List ℕ) (nodes : Nodes) → IsReader reader → IsReading text nodes
    → depth_of nodes ≤ depth_limit → count nodes ≤ node_limit → tree_in (reader.tree text) ≡ Ok nodes
tree_read reader text nodes is found shallow few = ap tree_in (reads_tree reader text nodes is found) ∙ limited_ok nodes shallow few

tree_unreadable : (reader : Reader) (text : List ℕ) → IsReader reader → HasNoReading text
    → tree_in (reader.tree text) ≡ Err (caused (no_package NotReadable))
tree_unreadable reader text is none = ap tree_in (reads_no_tree reader text is none)

tree_too_deep : (reader : Reader) (text : List ℕ) → IsReader reader
    → HasReading text (λ nodes. depth_limit < depth_of nodes) → tree_in (reader.tree text) ≡ Err (caused (over Depth))
tree_too_deep reader text is found =
    ap tree_in (reads_tree reader text found.nodes is found.reading) ∙ limited_depth found.nodes found.fits

tree_too_large : (reader : Reader) (text : List ℕ) → IsReader reader
    → HasReading text (λ nodes. (depth_of nodes ≤ depth_limit) × (node_limit < count nodes)) → tree_in (reader.tree text) ≡ Err (caused (over TooManyNodes))
tree_too_large reader text is found =
    ap tree_in (reads_tree reader text found.nodes is found.reading) ∙ limited_nodes found.nodes found.fits.0 found.fits.1

-- why a text was not read is why it has no tree within the limits
pub tree_failed : {X : Type 0} (reader : Reader) (text : List ℕ) (error : XmlError) → IsReader reader
    → (IsErrOf {T = X} (Err error) xml.Unreadable → HasNoReading text)
    → (IsErrOf {T = X} (Err error) xml.Depth → HasReading text (λ nodes. depth_limit < depth_of nodes))
    → (IsErrOf {T = X} (Err error) xml.Nodes → HasReading text (λ nodes. (depth_of nodes ≤ depth_limit) × (node_limit < count nodes)))
    → IsMade {Y = Nodes} (Err (xml_failure error)) (tree_in (reader.tree text)) ⊥
tree_failed reader text xml.Unreadable is unreadable deep many = tree_unreadable reader text is (unreadable refl)
tree_failed reader text xml.Depth is unreadable deep many = tree_too_deep reader text is (deep refl)
tree_failed reader text xml.Nodes is unreadable deep many = tree_too_large reader text is (many refl)
tree_failed reader text xml.NoMemory is unreadable deep many = tt

xml_is_read : (error : XmlError) → IsOfNoFile {Y = Nodes} None (Err (xml_failure error))
xml_is_read xml.Unreadable = tt
xml_is_read xml.Depth = tt
xml_is_read xml.Nodes = tt
xml_is_read xml.NoMemory = tt

-- a failure that was made of an error is due where that of the error is
pub failed_as : {X Y : Type 0} (view : X → Y) (made : Result X Declared) (failure : Failure) (due : Reader → Result Y Failure) → IsErrAnd made (λ f. failure_view f ≡ failure)
    → Reads {Y = Y} (Err failure) due → Reads (result_view view made) due
failed_as view (Ok x) failure due is h = absurd is
failed_as {Y = Y} view (Err f) failure due is h = subst (λ one. Reads {Y = Y} (Err one) due) (sym is) h

-- a text has no tree within the limits
pub tree_fails : {X : Type 0} (text : List ℕ) (error : XmlError)
    → (IsErrOf {T = X} (Err error) xml.Unreadable → HasNoReading text)
    → (IsErrOf {T = X} (Err error) xml.Depth → HasReading text (λ nodes. depth_limit < depth_of nodes))
    → (IsErrOf {T = X} (Err error) xml.Nodes → HasReading text (λ nodes. (depth_of nodes ≤ depth_limit) × (node_limit < count nodes)))
    → Reads {Y = Nodes} (Err (xml_failure error)) (λ reader. tree_in (reader.tree text))
tree_fails {X} text error unreadable deep many = record {
  as_due = λ reader is. tree_failed {X = X} reader text error is unreadable deep many;
  of_no_file = xml_is_read error;
}

-- ---- a sound package

-- what passed the rules breaks none, and is the same
pub sound_of : (broken : Option ℕ) (nodes made : Nodes) → sound_unless broken nodes ≡ Ok made → (broken ≡ None) × (made ≡ nodes)
sound_of None nodes made is = (refl, sym (same_ok is))
sound_of (Some rule) nodes made is = absurd (cc is)
