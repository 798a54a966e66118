-- A kept text in which neither `author` nor `Reference` is holds nothing that names a comment, a note or an author.
use Rattle.std.proofs.Common.{◌≡◌, ◌∙◌, refl, sym, ap, subst, List, ℕ, [], ◌∷◌, ◌++◌, Bool, true, false, true≢false, cond, bytes_eq, codes, find, is_some, not, ◌&&◌, Option, None, Some, ◌<◌, ◌≤◌, length, arith, lit≤, append-nil}
use Rattle.std.specs.Prelude.{take, drop}
use Rattle.std.specs.List.{AllByRecursion}
use Rattle.std.proofs.lemmas.Bool.{and_parts}
use Rattle.redl_grammar.specs.ScanTags.{attribute_in}
use Rattle.redl_markup.specs.Attributes.{attributes_of}
use Rattle.redl_pairs.proofs.ElementLaws.{lacking}
use Rattle.redl_pairs.proofs.WordLaws.{lacks-rest}
use Rattle.redl_reading.specs.Lists.{lacks}
use Rattle.redl_stamp.specs.Attribute.{attribute_value}
use Rattle.redl_tree.specs.Model.IdleTexts.{is_idle_text, idle_nodes}
use Rattle.redl_tree.specs.Model.Laid.{AreLaid}
use Rattle.redl_tree.specs.Model.Nodes.{Tag, Nodes, no_nodes, bytes, element}
use Rattle.redl_tree.specs.Model.Text.{text}
use Rattle.redl_tree.specs.Roles.Idle.{is_idle_in, is_idle_name}
use Rattle.redl_tree.specs.Roles.Names.{is}
use Rattle.redl_tree.specs.declared.kinds.Space.{Space}
use Rattle.redl_tree.specs.declared.kinds.Space.TheVariants as spaces
use Rattle.redl_tree.proofs.Idle.Items.{laid_nodes, nodes_are_idle}
use Rattle.redl_tree.proofs.Idle.Tags.{Idle, idle_parts}
use Rattle.redl_tree.proofs.Reading.FoldLaws.{always_laid}
use Rattle.redl_tree.proofs.Reading.SameBytes.{same_bytes}
use Rattle.redl_left.specs.Finds.{Find, asks, first_row, is_normal, found, found_names, found_row, found_value, finds, part_of, value_or_nothing}
use Rattle.redl_left.specs.Lines.{naming}
use Rattle.redl_left.specs.Naming.{lacks_naming}
use Rattle.redl_left.specs.declared.fact.Fact.{Fact}
use Rattle.redl_left.specs.declared.fact.Fact.TheVariants as facts
use Rattle.redl_left.specs.declared.row.Row.{Row}
use Rattle.redl_left.specs.declared.row.Value.TheVariants.{Author}
use Rattle.redl_left.specs.declared.row.When.TheVariants.{Always}
use Rattle.redl_left.specs.declared.row.Where.TheVariants.{AnyWord}
use Rattle.redl_left.specs.declared.rows.TheConstants.{NAMING}
use Rattle.redl_left.proofs.AttributeLaws.{both_false, no_value, other_name}
use Rattle.redl_left.proofs.FindLaws.{is_space_w}
use Rattle.redl_left.proofs.NameLaws.{none_among, none_told}

-- ---- names

-- an idle name is none that is not idle
not_idle : (in_run : Bool) (name local : List ℕ) → is_idle_name in_run local ≡ true → is_idle_name in_run name ≡ false → bytes_eq local name ≡ false
not_idle in_run name local idle other = by (bytes_eq local name) refl
  where
    by : (b : Bool) → bytes_eq local name ≡ b → b ≡ false
    by true e = absurd (true≢false (sym idle ∙ ap (is_idle_name in_run) (same_bytes local name e) ∙ other))
    by false e = refl

-- ---- rows

none_too : (a b : Bool) → b ≡ false → (a && b) ≡ false
none_too true b e = e
none_too false b e = refl

abbrev none : Fact → List ℕ → Bool
none fact value = false

-- the row of authors, which asks for each element of W that none before it asks for
abbrev pub author_row : Row
author_row = record { fact = facts.Name; place = AnyWord; when = Always; value = Author }

-- the rows that don't ask are passed over
pub find_after : (test : Row → Bool) (rows more : List Row) → AllByRecursion (λ row. test row ≡ false) rows → find test (rows ++ more) ≡ find test more
find_after test [] more each = refl
find_after test (row ∷ rows) more each = ap (λ (b : Bool). cond b (Some row) (find test (rows ++ more))) each.0 ∙ find_after test rows more each.1

only_author : (in_run : Bool) (parent local tail : List ℕ) → is_idle_name in_run local ≡ true → lacks (codes "Reference") local ≡ true
    → first_row none NAMING parent spaces.W local tail ≡ Some author_row
only_author in_run parent local tail idle lacking =
    let reference : (name : List ℕ) → lacks (codes "Reference") name ≡ false → bytes_eq local name ≡ false = λ name has. other_name 82 (codes "eference") name local lacking has in
    let part_of_note : (name : List ℕ) → is_idle_name in_run name ≡ false → bytes_eq local name ≡ false = λ name other. not_idle in_run name local idle other in
    find_after (asks none parent spaces.W local tail) (take 5 NAMING) (drop 5 NAMING) (
      both_false _ _ (reference (codes "commentReference") refl),
      (
        both_false _ _ (reference (codes "footnoteReference") refl),
        (both_false _ _ (reference (codes "endnoteReference") refl), (both_false _ _ (part_of_note (codes "footnote") refl), (both_false _ _ (part_of_note (codes "endnote") refl), tt))),
      ),
    )

-- a name is another one than a longer one
longer : (local name : List ℕ) → length local < 7 → 7 ≤ length name → bytes_eq local name ≡ false
longer local name short long = by (bytes_eq local name) refl
  where
    by : (b : Bool) → bytes_eq local name ≡ b → b ≡ false
    by true e = absurd (omega (arith, short, long, ap length (same_bytes local name e)))
    by false e = refl

short_author : (parent local tail : List ℕ) → length local < 7 → first_row none NAMING parent spaces.W local tail ≡ Some author_row
short_author parent local tail short =
    find_after (asks none parent spaces.W local tail) (take 5 NAMING) (drop 5 NAMING) (
      both_false _ _ (longer local (codes "commentReference") short (lit≤ tt)),
      (
        both_false _ _ (longer local (codes "footnoteReference") short (lit≤ tt)),
        (
          both_false _ _ (longer local (codes "endnoteReference") short (lit≤ tt)),
          (both_false _ _ (longer local (codes "footnote") short (lit≤ tt)), (both_false _ _ (longer local (codes "endnote") short (lit≤ tt)), tt)),
        ),
      ),
    )

-- an empty tail has no value
no_attribute : (name : List ℕ) → attribute_value [] name ≡ None
unfolding attributes_of attribute_in
no_attribute name = refl

-- without an attribute no other row asks for an element of W
empty_author : (parent local : List ℕ) → first_row none NAMING parent spaces.W local [] ≡ Some author_row
empty_author parent local =
    let no_id : is_some (attribute_value [] (codes "id")) ≡ false = ap (λ (o : Option (List ℕ)). is_some o) (no_attribute (codes "id")) in
    let no_type : not (is_normal (attribute_value [] (codes "type"))) ≡ false = ap (λ (o : Option (List ℕ)). not (is_normal o)) (no_attribute (codes "type")) in
    find_after (asks none parent spaces.W local []) (take 5 NAMING) (drop 5 NAMING)
    (none_too _ _ no_id, (none_too _ _ no_id, (none_too _ _ no_id, (none_too _ _ no_type, (none_too _ _ no_type, tt)))))

-- ---- nodes

-- an element of W with a short name names its author alone
pub short_names_author : (part parent : List ℕ) (tag : Tag) (kids : Nodes) → tag.space ≡ spaces.W → length tag.local < 7
    → found naming part parent tag kids ≡ found_value part author_row (value_or_nothing (attribute_value tag.tail (codes "author")))
short_names_author part parent tag kids space short =
    let names = found_names naming part tag.tail in
    let own = found_value part author_row (value_or_nothing (attribute_value tag.tail (codes "author"))) in
    ap (λ (s : Space). found_row part s tag.local tag.tail kids (first_row none NAMING parent s tag.local tag.tail) ++ names) space
    ∙ ap (λ (o : Option Row). found_row part spaces.W tag.local tag.tail kids o ++ names) (short_author parent tag.local tag.tail short)
    ∙ ap (λ (f : List Find). own ++ f) (none_among naming (λ value. refl) part (attributes_of tag.tail))
    ∙ append-nil own

-- an element of W whose row is that of authors, and that has none, names nothing
nobody : (part parent : List ℕ) (tag : Tag) (kids : Nodes) → tag.space ≡ spaces.W → first_row none NAMING parent spaces.W tag.local tag.tail ≡ Some author_row
    → lacks (codes "author") tag.tail ≡ true → found naming part parent tag kids ≡ []
nobody part parent tag kids space row lacking =
    let names = found_names naming part tag.tail in
    ap (λ (s : Space). found_row part s tag.local tag.tail kids (first_row none NAMING parent s tag.local tag.tail) ++ names) space
    ∙ ap (λ (o : Option Row). found_row part spaces.W tag.local tag.tail kids o ++ names) row
    ∙ ap (λ (o : Option (List ℕ)). found_value part author_row (value_or_nothing o) ++ names) (no_value (codes "author") tag.tail lacking)
    ∙ none_among naming (λ value. refl) part (attributes_of tag.tail)

-- so does one without an attribute
pub empty_names_nothing : (part parent : List ℕ) (tag : Tag) (kids : Nodes) → tag.space ≡ spaces.W → tag.tail ≡ [] → found naming part parent tag kids ≡ []
empty_names_nothing part parent tag kids space empty =
    nobody part parent tag kids space (ap (λ (tail : List ℕ). first_row none NAMING parent spaces.W tag.local tail) empty ∙ empty_author parent tag.local) (ap (lacks (codes "author")) empty)

-- so does one with a short name
pub short_names_nothing : (part parent : List ℕ) (tag : Tag) (kids : Nodes) → tag.space ≡ spaces.W → length tag.local < 7 → lacks (codes "author") tag.tail ≡ true
    → found naming part parent tag kids ≡ []
short_names_nothing part parent tag kids space short lacking = nobody part parent tag kids space (short_author parent tag.local tag.tail short) lacking

found_none : (part parent : List ℕ) (in_run : Bool) (tag : Tag) (kids : Nodes) → Idle in_run tag
    → lacks (codes "Reference") tag.local ≡ true → lacks (codes "author") tag.tail ≡ true → found naming part parent tag kids ≡ []
found_none part parent in_run tag kids i local tail =
    nobody part parent tag kids (is_space_w tag.space i.space) (only_author in_run parent tag.local tag.tail i.name local) tail

naming_in : (in_run : Bool) (part parent : List ℕ) (x : Nodes) → is_idle_in in_run x ≡ true → AreLaid spaces.W x
    → lacks (codes "author") (text x) ≡ true → lacks (codes "Reference") (text x) ≡ true → finds naming part parent x ≡ []
naming_in in_run part parent no_nodes idle laid author reference = refl
naming_in in_run part parent (bytes b rest) idle laid author reference =
    ap (λ (f : List Find). f ++ finds naming part parent rest) (none_told naming (λ value. refl) part b)
    ∙ naming_in in_run part parent rest idle laid.2 (lacks-rest 97 (codes "uthor") b (text rest) author) (lacks-rest 82 (codes "eference") b (text rest) reference)
naming_in in_run part parent (element tag kids rest) idle laid author reference =
    let p = idle_parts in_run tag kids rest idle in
    let a = lacking 97 (codes "uthor") tag kids rest laid.1 author in
    let r = lacking 82 (codes "eference") tag kids rest laid.1 reference in
    let inside = part_of part tag in
    ap (λ (f : List Find). (f ++ finds naming inside tag.local kids) ++ finds naming part parent rest)
    (found_none inside parent in_run tag kids p.own r.local a.tail)
    ∙ ap (λ (f : List Find). f ++ finds naming part parent rest) (naming_in (is "r" tag) inside tag.local kids p.below laid.2 a.below r.below)
    ∙ naming_in in_run part parent rest p.later laid.3 a.later r.later

pub naming_kept : (t : List ℕ) → is_idle_text t ≡ true → lacks_naming (text (idle_nodes t)) ≡ true → (part parent : List ℕ) → finds naming part parent (idle_nodes t) ≡ []
naming_kept t is h part parent =
    let both = and_parts (lacks (codes "author") (text (idle_nodes t))) (lacks (codes "Reference") (text (idle_nodes t))) h in
    naming_in false part parent (idle_nodes t) (nodes_are_idle t) (subst (AreLaid spaces.W) (laid_nodes t is) (always_laid spaces.W t)) both.0 both.1
