-- A start tag as the tree keeps it: its text, and where the prefix and the name end in it.
use Rattle.std.proofs.Common.{◌≡◌, ℕ, List, ◌++◌, length, sym, subst}
use Rattle.redl_tree.specs.Model.Starts.{start_in}
use Rattle.redl_tree.specs.Model.Cuts.{IsCut}
use Rattle.redl_tree.specs.declared.kinds.Space.{Space}
use Rattle.redl_tree.proofs.Reading.Cuts.{text_is_cut, start_of_text}
use Rattle.redl_grammar.specs.Names.{Name, name_text}
use Rattle.redl_tree.specs.Model.Folds.{plain_start}
use Rattle.redl_tree.proofs.Model.TreeTexts.{same_name_text}

-- in the text of a start tag, the lengths of prefix and name say where they end
pub is_cut : (name : Name) (tail text : List ℕ) → text ≡ name_text name ++ tail → IsCut text (length name.prefix) (length (name_text name))
is_cut name tail text e =
    let Whole : List ℕ → Type 0 = λ t. IsCut t (length name.prefix) (length (name_text name)) in
    let Named : List ℕ → Type 0 = λ n. IsCut (n ++ tail) (length name.prefix) (length n) in
    subst Whole (sym e) (subst Named (same_name_text name.prefix name.local) (text_is_cut name.prefix name.local tail))

-- the start tag that is kept as its text and two lengths is the one with this name and tail
pub start_is : (name : Name) (tail text : List ℕ) (space : Space) → text ≡ name_text name ++ tail → start_in text (length name.prefix) (length (name_text name)) space ≡ plain_start name space tail
start_is name tail text space e =
    let Whole : List ℕ → Type 0 = λ t. start_in t (length name.prefix) (length (name_text name)) space ≡ plain_start name space tail in
    let Named : List ℕ → Type 0 = λ n. start_in (n ++ tail) (length name.prefix) (length n) space ≡ plain_start name space tail in
    subst Whole (sym e) (subst Named (same_name_text name.prefix name.local) (start_of_text name.prefix name.local tail space))
