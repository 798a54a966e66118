-- What an editor keeps, and the package that it was taken from.
use Rattle.std.proofs.Common.{◌≡◌, ◌∙◌, ℕ, zero, suc, List, [], ◌∷◌, map, slice_get, None, Result, Ok, Err, Bool, true, false, All, replicate, refl, sym, ap, subst, if◌then◌else◌}
use Rattle.std.proofs.lemmas.List.Elements.{All-head, All-tail}
use Rattle.std.specs.Result.{OnErr, OnOk}
use Rattle.redl_laws.proofs.Leaves.Members as members
use Rattle.redl_laws.proofs.Leaves.Members.{package-unheld}
use Rattle.redl_laws.proofs.Leaves.Originals.{original-slots}
use Rattle.redl_laws.proofs.Leaves.Shown.{IsBlind, changed-blind, shown-blind, package-shows}
use Rattle.redl_laws.proofs.Leaves.Stories.{package-shown}
use Rattle.redl_opc.specs.Shape.{refusal}
use Rattle.redl_tree.proofs.Decisions.StoryLaws.{Agree, changed_in-agree}
use Rattle.redl_tree.specs.Decisions.Packages.{is_root, roots_are_plain, stories, StoryRule, changed_in, changed_package, pass_package}
use Rattle.redl_tree.specs.Leaves.Containers.{opens}
use Rattle.redl_tree.specs.Leaves.Rebuilt.{original}
use Rattle.redl_tree.specs.Leaves.Settings.{Setting, set_each}
use Rattle.redl_tree.specs.Leaves.Shown.{AreStatesOfEach, ShowsStory, shown_rule}
use Rattle.redl_tree.specs.Model.Nodes.{Tag, Nodes, no_nodes, bytes, element}
use Rattle.redl_tree.specs.Model.View.{Element, nodes_of}
use Rattle.redl_tree.specs.declared.kinds.Say.{Say}
use Rattle.redl_tree.specs.declared.kinds.Say.TheVariants.{Keep}
use Rattle.redl_tree.specs.declared.node.Node.{Node}
use Rattle.redl_editor.proofs.KeptLaws.{kept-slots}
use Rattle.redl_editor.specs.Inside.Begun.{AreBegun}
use Rattle.redl_editor.specs.Changes.{is_changed}
use Rattle.redl_editor.specs.Documents.{Document, IsNumbered, IsConsistent, leaf_of}
use Rattle.redl_editor.specs.Kept.{AreKept, AreUnheld, AreTables, lent_story}
use Rattle.redl_editor.specs.Parts.{story_parts}
use Rattle.redl_editor.specs.Stories.{empty_rule, original_rule, states_kept, slots_kept, original_package}
use Rattle.redl_editor.specs.declared.story.Story.{Story}
use Rattle.redl_editor.specs.declared.table.Table.{Table}

-- ---- a change that changes nothing

abbrev same_rule : StoryRule (Unit {0})
same_rule = record { kids = λ left tag kids. kids; left = λ left tag kids. left }

changed-same : (given : Unit {0}) (ancestors : List Tag) (nodes : Nodes) → changed_in same_rule given ancestors nodes ≡ nodes
changed-same given ancestors no_nodes = refl
changed-same given ancestors (bytes b rest) = ap (bytes b) (changed-same given ancestors rest)
changed-same given ancestors (element tag kids rest) =
    ap (λ xs. element tag xs (changed_in same_rule tt ancestors rest)) (at (is_root ancestors tag) (changed-same given (tag ∷ ancestors) kids))
    ∙ ap (element tag kids) (changed-same tt ancestors rest)
  where
    at : (b : Bool) → changed_in same_rule given (tag ∷ ancestors) kids ≡ kids → (if b then kids else changed_in same_rule given (tag ∷ ancestors) kids) ≡ kids
    at true below = refl
    at false below = below

-- ---- the package that the stories were taken from

original-blind : IsBlind original_rule
original-blind = record { kids = λ given tag xs ys. refl; left = λ given tag xs ys. refl }

begun-agree : (parts : List Element) (kept : List Story) → AreBegun parts kept → Agree original_rule same_rule (map slots_kept kept) tt parts
begun-agree [] kept begun = tt
begun-agree (part ∷ parts) [] begun = absurd begun
begun-agree (part ∷ parts) (story ∷ kept) begun = (
  ap original (begun.0.states 0).split ∙ original-slots opens (part.tag ∷ []) part.kids,
  begun-agree parts kept begun.1,
)

pub original-taken : (nodes emptied : Nodes) (left : List Node) (kept : List Story) → emptied ≡ changed_package empty_rule tt nodes → nodes_of left ≡ emptied
    → AreBegun (stories nodes) kept → original_package left kept ≡ nodes
original-taken nodes emptied left kept taken is begun =
    ap (changed_package original_rule (map slots_kept kept)) (is ∙ taken)
    ∙ changed-blind original_rule original-blind empty_rule (map slots_kept kept) tt [] nodes
    ∙ changed_in-agree original_rule same_rule (map slots_kept kept) tt [] nodes (begun-agree (stories nodes) kept begun)
    ∙ changed-same tt [] nodes

-- and what is kept of it where nothing is decided
pub begun-kept : (revisions : ℕ) (parts : List Element) (kept : List Story) (tables : List Table) → AreBegun parts kept → AreTables kept tables
    → AreKept (replicate revisions Keep) parts kept tables
begun-kept revisions [] [] [] begun known = tt
begun-kept revisions [] [] (table ∷ tables) begun known = absurd known
begun-kept revisions [] (story ∷ kept) tables begun known = absurd begun
begun-kept revisions (part ∷ parts) [] tables begun known = absurd begun
begun-kept revisions (part ∷ parts) (story ∷ kept) [] begun known = absurd known
begun-kept revisions (part ∷ parts) (story ∷ kept) (table ∷ tables) begun known = (
  record { spot = begun.0.spot; table = known.0; states = begun.0.states revisions },
  begun-kept revisions parts kept tables begun.1 known.1,
)

pub begun-consistent : (revisions : ℕ) (nodes : Nodes) (left : List Node) (kept : List Story) (tables : List Table) → refusal nodes ≡ None → IsNumbered nodes → roots_are_plain [] nodes ≡ true
    → original_package left kept ≡ nodes → AreBegun (stories nodes) kept → AreTables kept tables
    → IsConsistent left kept tables (replicate revisions Keep) (story_parts nodes)
begun-consistent revisions nodes left kept tables shape numbered plain is begun known = record {
  shape = ap refusal is ∙ shape;
  numbered = subst (λ (ns : Nodes). IsNumbered ns) (sym is) numbered;
  plain = ap (roots_are_plain []) is ∙ plain;
  kept = subst (λ (ns : Nodes). AreKept (replicate revisions Keep) (stories ns) kept tables) (sym is) (begun-kept revisions (stories nodes) kept tables begun known);
  parts = ap story_parts (sym is);
}

-- ---- what is written

kept-states : (says : List Say) (parts : List Element) (kept : List Story) (tables : List Table) → AreKept says parts kept tables
    → AreStatesOfEach opens says parts (map states_kept kept)
kept-states says [] [] [] are = tt
kept-states says [] [] (table ∷ tables) are = absurd are
kept-states says [] (story ∷ kept) tables are = absurd are
kept-states says (part ∷ parts) [] tables are = absurd are
kept-states says (part ∷ parts) (story ∷ kept) [] are = absurd are
kept-states says (part ∷ parts) (story ∷ kept) (table ∷ tables) are = (are.0.states, kept-states says parts kept tables are.1)

pub kept-written : {numbers : List ℕ} (nodes : List Node) (kept : List Story) (tables : List Table) (says : List Say) → IsConsistent nodes kept tables says numbers
    → changed_package shown_rule (map states_kept kept) (nodes_of nodes) ≡ pass_package says (original_package nodes kept)
kept-written nodes kept tables says is =
    sym (changed-blind shown_rule shown-blind original_rule (map states_kept kept) (map slots_kept kept) [] (nodes_of nodes))
    ∙ package-shows is.numbered.value says (original_package nodes kept) (map states_kept kept) is.plain is.numbered.indexed
    (kept-states says (stories (original_package nodes kept)) kept tables is.kept)

-- ---- what is lent

shown-lent : (says : List Say) (parts : List Element) (kept : List Story) (tables : List Table) → AreKept says parts kept tables → All (ShowsStory opens says) parts
    → (k place : ℕ) → lent_story (slice_get kept k) place ≡ leaf_of says (slice_get parts k) place
shown-lent says [] [] [] are shows k place = refl
shown-lent says [] [] (table ∷ tables) are shows k place = absurd are
shown-lent says [] (story ∷ kept) tables are shows k place = absurd are
shown-lent says (part ∷ parts) [] tables are shows k place = absurd are
shown-lent says (part ∷ parts) (story ∷ kept) [] are shows k place = absurd are
shown-lent says (part ∷ parts) (story ∷ kept) (table ∷ tables) are shows zero place =
    ap (λ xs. slice_get xs place) ((All-head (ShowsStory opens says) part parts shows).leaves (states_kept story) are.0.states)
shown-lent says (part ∷ parts) (story ∷ kept) (table ∷ tables) are shows (suc k) place =
    shown-lent says parts kept tables are.1 (All-tail (ShowsStory opens says) part parts shows) k place

pub kept-lent : {numbers : List ℕ} (nodes : List Node) (kept : List Story) (tables : List Table) (says : List Say) → IsConsistent nodes kept tables says numbers → (story place : ℕ)
    → lent_story (slice_get kept story) place ≡ leaf_of says (slice_get (stories (original_package nodes kept)) story) place
kept-lent nodes kept tables says is =
    shown-lent says (stories (original_package nodes kept)) kept tables is.kept
    (package-shown is.numbered.value says (original_package nodes kept) is.plain is.numbered.indexed)

-- ---- says that are set

unheld : (is_set : ℕ → Bool) (parts : List Element) → members.AreUnheld opens is_set parts → AreUnheld is_set parts
unheld is_set [] h = tt
unheld is_set (part ∷ parts) h = (h.0, unheld is_set parts h.1)

pub numbered-unheld : (nodes : Nodes) → IsNumbered nodes → (is_set : ℕ → Bool) → is_set 0 ≡ false → AreUnheld is_set (stories nodes)
numbered-unheld nodes numbered is_set none = unheld is_set (stories nodes) (package-unheld numbered.value nodes numbered.indexed is_set none)

-- where the slots stay, so does the original
pub original-stays : (nodes : List Node) (kept now : List Story) → map slots_kept kept ≡ map slots_kept now → original_package nodes now ≡ original_package nodes kept
original-stays nodes kept now same = ap (λ slots. changed_package original_rule slots (nodes_of nodes)) (sym same)

pub set-consistent : {numbers : List ℕ} (nodes : List Node) (kept now : List Story) (tables : List Table) (old new : List Say) → IsConsistent nodes kept tables old numbers
    → map slots_kept kept ≡ map slots_kept now → AreKept new (stories (original_package nodes kept)) now tables → IsConsistent nodes now tables new numbers
set-consistent nodes kept now tables old new is same are =
    let stays = original-stays nodes kept now same in record {
      shape = ap refusal stays ∙ is.shape;
      numbered = subst (λ (ns : Nodes). IsNumbered ns) (sym stays) is.numbered;
      plain = ap (roots_are_plain []) stays ∙ is.plain;
      kept = subst (λ (ns : Nodes). AreKept new (stories ns) now tables) (sym stays) are;
      parts = is.parts ∙ ap story_parts (sym stays);
    }

-- after a call that sets them, or runs out of memory
pub set-either : {E : Type 0} {numbers : List ℕ} (nodes : List Node) (kept now : List Story) (tables : List Table) (old new : List Say) (settings : List Setting) (result : Result (Unit {0}) E)
    → IsConsistent nodes kept tables old numbers
    → OnOk result (new ≡ set_each old settings)
    → OnOk result ((parts : List Element) → AreUnheld (is_changed old (set_each old settings)) parts → AreKept old parts kept tables → AreKept new parts now tables)
    → OnErr result (new ≡ old) → OnErr result (now ≡ kept) → IsConsistent nodes now tables new numbers
set-either {E} {numbers} nodes kept now tables old new settings (Ok done) is says keeps said untouched =
    let parts = stories (original_package nodes kept) in
    let are = keeps parts (numbered-unheld (original_package nodes kept) is.numbered (is_changed old (set_each old settings)) refl) is.kept in
    set-consistent nodes kept now tables old new is (kept-slots old new parts kept now tables tables is.kept are) are
set-either {E} {numbers} nodes kept now tables old new settings (Err error) is says keeps said untouched =
    subst (λ (s : List Story). IsConsistent nodes s tables new numbers) (sym untouched)
    (subst (λ (s : List Say). IsConsistent nodes kept tables s numbers) (sym said) is)

pub set-document : {E : Type 0} {numbers : List ℕ} (nodes : List Node) (kept now : List Story) (tables : List Table) (old new : List Say) (settings : List Setting) (result : Result (Unit {0}) E)
    → IsConsistent nodes kept tables old numbers
    → OnOk result (new ≡ set_each old settings)
    → OnOk result ((parts : List Element) → AreUnheld (is_changed old (set_each old settings)) parts → AreKept old parts kept tables → AreKept new parts now tables)
    → OnOk result (◌≡◌ {A = Document} (record { nodes = original_package nodes now; says = new }) (record { nodes = original_package nodes kept; says = set_each old settings }))
set-document nodes kept now tables old new settings (Ok done) is says keeps =
    let parts = stories (original_package nodes kept) in
    let are = keeps parts (numbered-unheld (original_package nodes kept) is.numbered (is_changed old (set_each old settings)) refl) is.kept in
    let stays = original-stays nodes kept now (kept-slots old new parts kept now tables tables is.kept are) in
    ap (λ (ns : Nodes). record { nodes = ns; says = new }) stays ∙ ap (λ (s : List Say). record { nodes = original_package nodes kept; says = s }) says
set-document nodes kept now tables old new settings (Err error) is says keeps = tt
