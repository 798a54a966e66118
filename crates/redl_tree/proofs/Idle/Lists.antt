-- What is asked of a list of nodes is answered by those after the idle ones in front.
use Prim.Native.String.{String}
use Rattle.std.proofs.Common.{◌≡◌, ◌≢◌, ◌∙◌, refl, sym, ap, ℕ, List, [], ◌∷◌, ◌++◌, Bool, true, false, true≢false, ◌&&◌, ◌||◌, not, Option, None, codes, bytes_eq, if◌then◌else◌}
use Rattle.std.proofs.lemmas.Bool.{and_parts, or_from, not-true, eqb-true}
use Rattle.std.proofs.Math.Bool.{and-false}
use Rattle.redl_tree.specs.Model.Nodes.{Tag, Nodes, no_nodes, bytes, element, ◌⊕◌}
use Rattle.redl_tree.specs.Model.Elements.{elements}
use Rattle.redl_tree.specs.Model.Kids.{some_element, has_element, only, without, kids_of_all}
use Rattle.redl_tree.specs.Roles.Names.{named, is, is_any, is_w, is_m}
use Rattle.redl_tree.specs.Roles.Lists.{into, is_direct, is_thick}
use Rattle.redl_tree.specs.Roles.Idle.{is_idle_number, is_idle_name, is_idle_in}
use Rattle.redl_tree.specs.Roles.Words.{name_of, number, number_in}
use Rattle.redl_tree.specs.declared.word.Word.{Word}
use Rattle.redl_tree.specs.declared.kinds.Space.TheVariants.{W}
use Rattle.redl_tree.specs.Decisions.Tables.{own, has_own}
use Rattle.redl_tree.specs.Rules.Tests.{at_most_one, only_first, only_last}
use Rattle.redl_tree.specs.Rules.CellEnds.{end_of_one, end_of_two, end_of}
use Rattle.redl_tree.specs.Leaves.Settings.{has_member}
use Rattle.redl_tree.specs.declared.lists.Reach.{Reach}
use Rattle.redl_tree.specs.declared.lists.Reach.TheVariants.{Direct, Control, Beyond}
use Rattle.redl_tree.proofs.Reading.SameBytes.{same_bytes}
use Rattle.redl_tree.proofs.Roles.WordLaws.{apart}
use Rattle.redl_tree.proofs.Roles.EndLaws.{two_none}
use Rattle.redl_tree.proofs.Idle.Tags.{Idle, idle_parts, has-not}

-- Tests that no idle element passes

-- no idle element passes the test
abbrev pub NoneIs : Bool → (Tag → Bool) → Type 0
NoneIs in_run test = (tag : Tag) → Idle in_run tag → test tag ≡ false

-- an idle element has none of the names that are asked for
pub name_none : (name : String) (in_run : Bool) → is_idle_name in_run (codes name) ≡ false → NoneIs in_run (is name)
name_none name in_run e tag i = has-not name in_run tag i e

-- the same by the number of a word
pub word_none : (word : Word) (in_run : Bool) → is_idle_number in_run (number word) ≡ false → NoneIs in_run (named (name_of word))
word_none word in_run e tag i = ap (λ b. is_w tag.space && b) (by_case (bytes_eq tag.local (name_of word)) refl) ∙ and-false (is_w tag.space) where
  by_case : (b : Bool) → bytes_eq tag.local (name_of word) ≡ b → b ≡ false
  by_case true same =
      absurd (true≢false (sym i.name ∙ ap (is_idle_name in_run) (same_bytes tag.local (name_of word) same)
      ∙ ap (is_idle_number in_run) (eqb-true (number_in W (name_of word)) (number word) (apart word).found) ∙ e))
  by_case false other = refl

-- none of these names is one that an idle element may have
abbrev pub are_asked : Bool → List String → Bool
are_asked in_run [] = true
are_asked in_run (name ∷ names) = not (is_idle_name in_run (codes name)) && are_asked in_run names

-- the same of several names
pub names_none : (names : List String) (in_run : Bool) → are_asked in_run names ≡ true → NoneIs in_run (is_any names)
names_none [] in_run e tag i = refl
names_none (name ∷ names) in_run e tag i =
    let both = and_parts (not (is_idle_name in_run (codes name))) (are_asked in_run names) e in
    or_from (is name tag) (is_any names tag) (has-not name in_run tag i (not-true (is_idle_name in_run (codes name)) both.0)) (names_none names in_run both.1 tag i)

-- no idle element is a block by itself
pub thick_none : (in_run : Bool) → NoneIs in_run is_thick
thick_none in_run tag i =
    or_from (is_any ("p" ∷ "tbl" ∷ "sdt" ∷ "customXml" ∷ "altChunk" ∷ []) tag) (not (is_w tag.space || is_m tag.space))
    (names_none ("p" ∷ "tbl" ∷ "sdt" ∷ "customXml" ∷ "altChunk" ∷ []) in_run refl tag i)
    (ap (λ w. not (w || is_m tag.space)) i.space)

-- Elements with such tags

-- whether some element passes such a test does not depend on idle nodes in front
pub some_past : (in_run : Bool) (test : Tag → Bool) → NoneIs in_run test → (x y : Nodes) → is_idle_in in_run x ≡ true → some_element test (x ⊕ y) ≡ some_element test y
some_past in_run test none no_nodes y h = refl
some_past in_run test none (bytes b rest) y h = some_past in_run test none rest y h
some_past in_run test none (element tag kids rest) y h =
    let p = idle_parts in_run tag kids rest h in
    rw (none tag p.own) (some_past in_run test none rest y p.later)

pub only_past : (in_run : Bool) (test : Tag → Bool) → NoneIs in_run test → (x y : Nodes) → is_idle_in in_run x ≡ true → only test (x ⊕ y) ≡ only test y
only_past in_run test none no_nodes y h = refl
only_past in_run test none (bytes b rest) y h = only_past in_run test none rest y h
only_past in_run test none (element tag kids rest) y h =
    let p = idle_parts in_run tag kids rest h in
    rw (none tag p.own) (only_past in_run test none rest y p.later)

-- idle nodes in front stay where such elements are left out
pub without_past : (in_run : Bool) (test : Tag → Bool) → NoneIs in_run test → (x y : Nodes) → is_idle_in in_run x ≡ true → without test (x ⊕ y) ≡ x ⊕ without test y
without_past in_run test none no_nodes y h = refl
without_past in_run test none (bytes b rest) y h = ap (bytes b) (without_past in_run test none rest y h)
without_past in_run test none (element tag kids rest) y h =
    let p = idle_parts in_run tag kids rest h in
    rw (none tag p.own) (ap (element tag kids) (without_past in_run test none rest y p.later))

-- idle nodes in front add no kids to those of all elements with a name
pub kids_of_all_past : (in_run : Bool) (name : String) → NoneIs in_run (is name) → (x y : Nodes) → is_idle_in in_run x ≡ true → kids_of_all name (x ⊕ y) ≡ kids_of_all name y
kids_of_all_past in_run name none no_nodes y h = refl
kids_of_all_past in_run name none (bytes b rest) y h = kids_of_all_past in_run name none rest y h
kids_of_all_past in_run name none (element tag kids rest) y h =
    let p = idle_parts in_run tag kids rest h in
    ap (λ b. if b then kids ⊕ kids_of_all name (rest ⊕ y) else kids_of_all name (rest ⊕ y)) (none tag p.own)
    ∙ kids_of_all_past in_run name none rest y p.later

-- whether at most one element passes such a test does not depend on idle nodes in front
pub few_past : (in_run : Bool) (test : Tag → Bool) → NoneIs in_run test → (x y : Nodes) → is_idle_in in_run x ≡ true → at_most_one test (x ⊕ y) ≡ at_most_one test y
few_past in_run test none no_nodes y h = refl
few_past in_run test none (bytes b rest) y h = few_past in_run test none rest y h
few_past in_run test none (element tag kids rest) y h =
    let p = idle_parts in_run tag kids rest h in
    rw (none tag p.own) (few_past in_run test none rest y p.later)

-- whether only the last element passes such a test does not depend on idle nodes in front
pub last_past : (in_run : Bool) (test : Tag → Bool) → NoneIs in_run test → (x y : Nodes) → is_idle_in in_run x ≡ true → only_last test (x ⊕ y) ≡ only_last test y
last_past in_run test none no_nodes y h = refl
last_past in_run test none (bytes b rest) y h = last_past in_run test none rest y h
last_past in_run test none (element tag kids rest) y h =
    let p = idle_parts in_run tag kids rest h in
    rw (none tag p.own) (last_past in_run test none rest y p.later)

-- among idle nodes alone no element but the last one passes such a test
pub last_idle : (in_run : Bool) (test : Tag → Bool) → NoneIs in_run test → (nodes : Nodes) → is_idle_in in_run nodes ≡ true → only_last test nodes ≡ true
last_idle in_run test none no_nodes h = refl
last_idle in_run test none (bytes b rest) h = last_idle in_run test none rest h
last_idle in_run test none (element tag kids rest) h =
    let p = idle_parts in_run tag kids rest h in
    rw (none tag p.own) (last_idle in_run test none rest p.later)

-- Idle nodes count as an element where they hold one

pub element_there : (x : Nodes) → (elements x ≢ 0) → has_element x ≡ true
element_there no_nodes h = absurd (h refl)
element_there (bytes b rest) h = element_there rest h
element_there (element tag kids rest) h = refl

pub has_past : (x y : Nodes) → has_element x ≡ true → has_element (x ⊕ y) ≡ true
has_past no_nodes y h = absurd (true≢false (sym h))
has_past (bytes b rest) y h = has_past rest y h
has_past (element tag kids rest) y h = refl

-- after idle nodes with an element among them, only the first element passes such a test exactly if none does
pub first_past : (in_run : Bool) (test : Tag → Bool) → NoneIs in_run test → (x y : Nodes) → is_idle_in in_run x ≡ true → has_element x ≡ true → only_first test (x ⊕ y) ≡ not (some_element test y)
first_past in_run test none no_nodes y h there = absurd (true≢false (sym there))
first_past in_run test none (bytes b rest) y h there = first_past in_run test none rest y h there
first_past in_run test none (element tag kids rest) y h there =
    let p = idle_parts in_run tag kids rest h in
    ap not (some_past in_run test none rest y p.later)

-- Own rows and cells, and how a cell ends

pub own_idle : (name : String) → ((in_run : Bool) → NoneIs in_run (is name)) → (in_run : Bool) (reach : Reach) (nodes : Nodes) → is_idle_in in_run nodes ≡ true → own name reach nodes ≡ []
own_idle name none in_run reach no_nodes h = refl
own_idle name none in_run reach (bytes b rest) h = own_idle name none in_run reach rest h
own_idle name none in_run reach (element tag kids rest) h =
    let p = idle_parts in_run tag kids rest h in
    ap (λ b. (if is_direct reach && b then kids ∷ [] else own name (into reach tag) kids) ++ own name reach rest) (none in_run tag p.own)
    ∙ ap (λ b. (if b then kids ∷ [] else own name (into reach tag) kids) ++ own name reach rest) (and-false (is_direct reach))
    ∙ ap (λ (found : List Nodes). found ++ own name reach rest) (own_idle name none (is "r" tag) (into reach tag) kids p.below)
    ∙ own_idle name none in_run reach rest p.later

-- idle nodes in front hold none of a list's rows or cells
pub own_past : (name : String) → ((in_run : Bool) → NoneIs in_run (is name)) → (in_run : Bool) (reach : Reach) (x y : Nodes) → is_idle_in in_run x ≡ true → own name reach (x ⊕ y) ≡ own name reach y
own_past name none in_run reach no_nodes y h = refl
own_past name none in_run reach (bytes b rest) y h = own_past name none in_run reach rest y h
own_past name none in_run reach (element tag kids rest) y h =
    let p = idle_parts in_run tag kids rest h in
    ap (λ b. (if is_direct reach && b then kids ∷ [] else own name (into reach tag) kids) ++ own name reach (rest ⊕ y)) (none in_run tag p.own)
    ∙ ap (λ b. (if b then kids ∷ [] else own name (into reach tag) kids) ++ own name reach (rest ⊕ y)) (and-false (is_direct reach))
    ∙ ap (λ (found : List Nodes). found ++ own name reach (rest ⊕ y)) (own_idle name none (is "r" tag) (into reach tag) kids p.below)
    ∙ own_past name none in_run reach rest y p.later

pub has_own_idle : (name : String) → ((in_run : Bool) → NoneIs in_run (is name)) → (in_run : Bool) (reach : Reach) (nodes : Nodes) → is_idle_in in_run nodes ≡ true → has_own name reach nodes ≡ false
has_own_idle name none in_run reach no_nodes h = refl
has_own_idle name none in_run reach (bytes b rest) h = has_own_idle name none in_run reach rest h
has_own_idle name none in_run reach (element tag kids rest) h =
    let p = idle_parts in_run tag kids rest h in
    ap (λ b. (if is_direct reach && b then true else has_own name (into reach tag) kids) || has_own name reach rest) (none in_run tag p.own)
    ∙ ap (λ b. (if b then true else has_own name (into reach tag) kids) || has_own name reach rest) (and-false (is_direct reach))
    ∙ or_from (has_own name (into reach tag) kids) (has_own name reach rest) (has_own_idle name none (is "r" tag) (into reach tag) kids p.below) (has_own_idle name none in_run reach rest p.later)

-- whether a list has rows or cells of its own does not depend on idle nodes in front
pub has_own_past : (name : String) → ((in_run : Bool) → NoneIs in_run (is name)) → (in_run : Bool) (reach : Reach) (x y : Nodes) → is_idle_in in_run x ≡ true → has_own name reach (x ⊕ y) ≡ has_own name reach y
has_own_past name none in_run reach no_nodes y h = refl
has_own_past name none in_run reach (bytes b rest) y h = has_own_past name none in_run reach rest y h
has_own_past name none in_run reach (element tag kids rest) y h =
    let p = idle_parts in_run tag kids rest h in
    ap (λ b. (if is_direct reach && b then true else has_own name (into reach tag) kids) || has_own name reach (rest ⊕ y)) (none in_run tag p.own)
    ∙ ap (λ b. (if b then true else has_own name (into reach tag) kids) || has_own name reach (rest ⊕ y)) (and-false (is_direct reach))
    ∙ ap (λ b. b || has_own name reach (rest ⊕ y)) (has_own_idle name none (is "r" tag) (into reach tag) kids p.below)
    ∙ has_own_past name none in_run reach rest y p.later

end_one_none : (in_run : Bool) (reach : Reach) (tag : Tag) (inner : Option Bool) → Idle in_run tag → end_of_one reach tag inner ≡ None
end_one_none in_run Direct tag inner i =
    rw (has-not "p" in_run tag i refl, has-not "sdt" in_run tag i refl, has-not "customXml" in_run tag i refl, has-not "tbl" in_run tag i refl, has-not "altChunk" in_run tag i refl, i.space) refl
end_one_none in_run Control tag inner i = rw (has-not "sdtContent" in_run tag i refl) refl
end_one_none in_run Beyond tag inner i = refl

-- how a list of blocks ends does not depend on idle nodes in front
pub end_past : (in_run : Bool) (reach : Reach) (x y : Nodes) → is_idle_in in_run x ≡ true → end_of reach (x ⊕ y) ≡ end_of reach y
end_past in_run reach no_nodes y h = refl
end_past in_run reach (bytes b rest) y h = end_past in_run reach rest y h
end_past in_run reach (element tag kids rest) y h =
    let p = idle_parts in_run tag kids rest h in
    ap (λ (ends : Option Bool). end_of_two reach ends (end_of reach (rest ⊕ y))) (end_one_none in_run reach tag (end_of (into reach tag) kids) p.own)
    ∙ two_none reach (end_of reach (rest ⊕ y))
    ∙ end_past in_run reach rest y p.later

-- Members of revisions, which have numbers from 1

-- idle nodes hold no member of a revision
pub no_member : (is_set : ℕ → Bool) → is_set 0 ≡ false → (in_run : Bool) (nodes : Nodes) → is_idle_in in_run nodes ≡ true → has_member is_set nodes ≡ false
no_member is_set none in_run no_nodes h = refl
no_member is_set none in_run (bytes b rest) h = no_member is_set none in_run rest h
no_member is_set none in_run (element tag kids rest) h =
    let p = idle_parts in_run tag kids rest h in
    or_from (is_set tag.rev || has_member is_set kids) (has_member is_set rest)
    (or_from (is_set tag.rev) (has_member is_set kids) (ap is_set p.own.rev ∙ none) (no_member is_set none (is "r" tag) kids p.below))
    (no_member is_set none in_run rest p.later)
