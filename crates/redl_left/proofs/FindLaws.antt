-- What an idle element is found to be, and finds of nodes one after the other.
use Rattle.std.proofs.Common.{◌≡◌, ◌∙◌, refl, sym, ap, ℕ, List, [], ◌∷◌, ◌++◌, append_assoc, Bool, true, false, true≢false, Option, None, Some, ◌&&◌, if◌then◌else◌, codes, ◌<◌, ◌+◌, length, get_or, drop, map}
use Rattle.std.proofs.lemmas.List.{drop_more}
use Rattle.redl_tree.specs.Model.Nodes.{Tag, Nodes, no_nodes, bytes, element, ◌⊕◌}
use Rattle.redl_tree.specs.Roles.Names.{is_w}
use Rattle.redl_tree.specs.Roles.Idle.{is_idle_in}
use Rattle.redl_tree.specs.declared.kinds.Kind.{Kind}
use Rattle.redl_tree.specs.declared.kinds.Kind.TheVariants as kinds
use Rattle.redl_tree.specs.Model.Kids.{has_element}
use Rattle.redl_tree.specs.declared.kinds.Space.{Space}
use Rattle.redl_tree.specs.declared.kinds.Space.TheVariants as spaces
use Rattle.redl_tree.proofs.Idle.Tags.{Idle, idle_parts}
use Rattle.redl_stamp.specs.Attribute.{attribute_value}
use Rattle.redl_left.specs.declared.row.Row.{Row}
use Rattle.redl_left.specs.declared.row.Where.{Where}
use Rattle.redl_left.specs.declared.row.Where.TheVariants.{Word, AnyWord, Inside, Part}
use Rattle.redl_left.specs.declared.row.Value.{Value}
use Rattle.redl_left.specs.declared.row.Value.TheVariants.{Nothing, Attribute, Author, Made, Shown, Held, Lead}
use Rattle.redl_left.specs.Finds.{Find, Table, asks, asks_place, asks_when, first_row, found, found_by, found_idle, found_names, found_plain, found_row, found_text, found_value, inner_shown, kind_in, shown_alone, part_of, is_part_name, value_of, value_or_nothing, finds}
use Rattle.redl_left.specs.Named.{named_of}
use Rattle.redl_left.specs.Search.{is_bare, rows_at, table_of}
use Rattle.redl_left.specs.declared.search.Search.{Search}
use Rattle.redl_left.specs.declared.search.Search.TheVariants.{Naming, Asking}
use Rattle.redl_left.specs.declared.rows.TheConstants.{NAMING, ROWS}
use Rattle.redl_left.specs.declared.fact.Fact.{Fact}

-- ---- of an element of W the parent and the kids do not matter

pub is_space_w : (s : Space) → is_w s ≡ true → s ≡ spaces.W
is_space_w spaces.W h = refl
is_space_w spaces.M h = absurd (true≢false (sym h))
is_space_w spaces.Pkg h = absurd (true≢false (sym h))
is_space_w spaces.Other h = absurd (true≢false (sym h))

place_same : (place : Where) (p q local : List ℕ) → asks_place place p spaces.W local ≡ asks_place place q spaces.W local
place_same (Word name) p q local = refl
place_same AnyWord p q local = refl
place_same (Inside outer name) p q local = refl
place_same Part p q local = refl

row_same : (named : Fact → List ℕ → Bool) (rows : List Row) (p q local tail : List ℕ)
    → first_row named rows p spaces.W local tail ≡ first_row named rows q spaces.W local tail
row_same named [] p q local tail = refl
row_same named (row ∷ rows) p q local tail =
    ap (λ b. if b && asks_when named row.when tail then Some row else first_row named rows p spaces.W local tail) (place_same row.place p q local)
    ∙ ap (λ (o : Option Row). if asks named q spaces.W local tail row then Some row else o) (row_same named rows p q local tail)

value_same : (part : List ℕ) (value : Value) (local tail : List ℕ) (kids : Nodes)
    → value_of part value spaces.W local tail kids ≡ value_of part value spaces.W local tail no_nodes
value_same part Nothing local tail kids = refl
value_same part (Attribute name) local tail kids = refl
value_same part Author local tail kids = refl
value_same part Made local tail kids = refl
value_same part Shown local tail kids = refl
value_same part (Held name) local tail kids = refl
value_same part (Lead name) local tail kids = refl

kids_same : (part local tail : List ℕ) (kids : Nodes) (row : Option Row)
    → found_row part spaces.W local tail kids row ≡ found_row part spaces.W local tail no_nodes row
kids_same part local tail kids None = refl
kids_same part local tail kids (Some row) = ap (found_value part row) (value_same part row.value local tail kids)

plain_same : (search : Search) (part p local tail : List ℕ) (kids : Nodes)
    → found_plain (table_of search) part p spaces.W local tail kids ≡ found_plain (table_of search) part [] spaces.W local tail no_nodes
plain_same Naming part p local tail kids =
    let none : Fact → List ℕ → Bool = λ fact value. false in
    ap (found_row part spaces.W local tail kids) (row_same none NAMING p [] local tail)
    ∙ kids_same part local tail kids (first_row none NAMING [] spaces.W local tail)
plain_same (Asking by_length named) part p local tail kids =
    let rows = rows_at (map (λ own. own.items) by_length.items) ROWS (length local) in
    let unless_bare : Option Row → Option Row = λ row. if is_bare local tail then None else row in
    ap (λ (row : Option Row). found_row part spaces.W local tail kids (unless_bare row)) (row_same (named_of named) rows p [] local tail)
    ∙ kids_same part local tail kids (unless_bare (first_row (named_of named) rows [] spaces.W local tail))

-- the row that asks is the first one
pub row_here : (named : Fact → List ℕ → Bool) (rows : List Row) (i : ℕ) (d : Row) (parent : List ℕ) (space : Space) (local tail : List ℕ) → i < length rows
    → asks named parent space local tail (get_or rows i d) ≡ true → Some (get_or rows i d) ≡ first_row named (drop i rows) parent space local tail
row_here named rows i d parent space local tail within asked =
    sym (ap (λ (l : List Row). first_row named l parent space local tail) (drop_more rows i d within)
    ∙ ap (λ b. if b then Some (get_or rows i d) else first_row named (drop (i + 1) rows) parent space local tail) asked)

-- ---- an idle element

plain_kind : (b : Bool) → (if b then kinds.Plain else kinds.Plain) ≡ kinds.Plain
plain_kind true = refl
plain_kind false = refl

module _ (search : Search) (part parent : List ℕ) (in_run : Bool) (tag : Tag) (kids : Nodes) (i : Idle in_run tag) where
  abbrev table : Table
  table = table_of search

  kind_idle : kind_in table tag.kind ≡ kinds.Plain
  kind_idle = ap (kind_in table) i.kind ∙ plain_kind table.by_kind

  pub found_so : found table part parent tag kids ≡ found_idle table part tag.local tag.tail
  found_so =
      ap (λ (k : Kind). found_by k table part parent tag.space tag.local tag.tail kids ++ found_names table part tag.tail) kind_idle
      ∙ ap (λ (s : Space). found_plain table part parent s tag.local tag.tail kids ++ found_names table part tag.tail) (is_space_w tag.space i.space)
      ∙ ap (λ (f : List Find). f ++ found_names table part tag.tail) (plain_same search part parent tag.local tag.tail kids)

  pub part_idle : part_of part tag ≡ part
  part_idle = ap (λ (s : Space). if is_part_name s tag.local then value_or_nothing (attribute_value tag.tail (codes "name")) else part) (is_space_w tag.space i.space)

-- ---- nodes one after the other

pub finds-⊕ : (table : Table) (part parent : List ℕ) (x y : Nodes) → finds table part parent (x ⊕ y) ≡ finds table part parent x ++ finds table part parent y
finds-⊕ table part parent no_nodes y = refl
finds-⊕ table part parent (bytes b rest) y =
    let own = found_text table part b in
    ap (λ (f : List Find). own ++ f) (finds-⊕ table part parent rest y)
    ∙ sym (append_assoc own (finds table part parent rest) (finds table part parent y))
finds-⊕ table part parent (element tag kids rest) y =
    let own = found table (part_of part tag) parent tag kids ++ finds table (part_of part tag) tag.local kids in
    ap (λ (f : List Find). own ++ f) (finds-⊕ table part parent rest y)
    ∙ sym (append_assoc own (finds table part parent rest) (finds table part parent y))

-- ---- what the first element shows is not told of idle elements

pub inner-idle : (in_run : Bool) (x y : Nodes) → is_idle_in in_run x ≡ true → has_element x ≡ true → inner_shown (x ⊕ y) ≡ []
inner-idle in_run no_nodes y h some = absurd (true≢false (sym some))
inner-idle in_run (bytes b rest) y h some = inner-idle in_run rest y h some
inner-idle in_run (element tag kids rest) y h some =
    ap (λ (s : Space). shown_alone s kids) (is_space_w tag.space (idle_parts in_run tag kids rest h).own.space)
