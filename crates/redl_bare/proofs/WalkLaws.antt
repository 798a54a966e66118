-- The walk goes over a list node by node.
use Rattle.std.proofs.Common.{◌≡◌, ℕ, List, ◌++◌, codes, Bool, true, false, Some, None, refl, sym, ap, ◌∙◌, append_assoc, if◌then◌else◌}
use Rattle.redl_reading.specs.Steps.{or_else}
use Rattle.redl_tree.specs.Model.Nodes.{Tag, Nodes, no_nodes, bytes, element, Item, bytes_item, element_item, idle_item, in_front, ◌⊕◌}
use Rattle.redl_tree.specs.Model.IdleTexts.{idle_nodes}
use Rattle.redl_bare.specs.Marks.{Stamp, Marks, stamp_in, value_in, is_run_change, change_in, run_change, marks_inside}
use Rattle.redl_tree.specs.Roles.Names.{is}
use Rattle.redl_bare.specs.Units.{field_texts, short_texts, start_texts, in_marks, byte_texts, start_units, place_inside, units_in}
use Rattle.redl_bare.specs.Inside.Items.{held_at, ends_at, element_units, item_units, item_change_in, item_change}
use Rattle.redl_bare.specs.declared.place.BarePlace.{BarePlace}
use Rattle.redl_marks.specs.declared.marks.Marks as code_marks
use Rattle.redl_bare.proofs.IdleLaws.{change_in_idle, run_change_idle}

units-⊕ : (place : BarePlace) (marks : Marks) (xs ys : Nodes) → units_in place marks (xs ⊕ ys) ≡ units_in place marks xs ++ units_in place marks ys
units-⊕ place marks no_nodes ys = refl
units-⊕ place marks (bytes b rest) ys =
    ap (λ us. in_marks marks (byte_texts place b) ++ us) (units-⊕ place marks rest ys)
    ∙ sym (append_assoc (in_marks marks (byte_texts place b)) (units_in place marks rest) (units_in place marks ys))
units-⊕ place marks (element tag kids rest) ys =
    ap (λ us. element_units place marks tag kids ++ us) (units-⊕ place marks rest ys)
    ∙ sym (append_assoc (element_units place marks tag kids) (units_in place marks rest) (units_in place marks ys))

pub units-in_front : (place : BarePlace) (marks : Marks) (x : Item) (rest : Nodes) → units_in place marks (in_front x rest) ≡ item_units place marks x ++ units_in place marks rest
units-in_front place marks (bytes_item b) rest = refl
units-in_front place marks (element_item tag kids) rest = refl
units-in_front place marks (idle_item t) rest = units-⊕ place marks (idle_nodes t) rest

-- the units of what an element holds, with its kids and their marks as the code has them
pub held_read : (inside : BarePlace) (marks inner : Marks) (tag : Tag) (kids read : Nodes) → inner ≡ marks_inside marks tag kids → read ≡ kids
    → held_at inside marks tag kids ≡ units_in inside inner read
held_read inside marks inner tag kids read f g = ap (λ m. units_in inside m kids) (sym f) ∙ ap (units_in inside inner) (sym g)

-- the units of an element, with the place of what it holds as the code has it
pub element_at : (place inside : BarePlace) (marks : Marks) (tag : Tag) (kids : Nodes) → inside ≡ place_inside place tag
    → element_units place marks tag kids ≡ start_units place marks tag ++ (held_at inside marks tag kids ++ ends_at inside place marks tag)
element_at place inside marks tag kids e = ap (λ p. start_units place marks tag ++ (held_at p marks tag kids ++ ends_at p place marks tag)) (sym e)

-- marks are told by their list
pub marks_by_items : (m k : code_marks.Marks) → m.list.items ≡ k.list.items → m ≡ k
marks_by_items m k e = ap (λ l. record { list = record { items = l } }) e

pub start_field : (tag : Tag) (b : Bool) (code : List ℕ) → b ≡ is "fldSimple" tag → b ≡ true → code ≡ value_in tag.tail (codes "instr") → start_texts tag ≡ field_texts code
start_field tag b code e f g =
    ap (λ t. if t then field_texts (value_in tag.tail (codes "instr")) else short_texts tag) (sym e ∙ f) ∙ ap field_texts (sym g)

pub start_short : (tag : Tag) (b : Bool) → b ≡ is "fldSimple" tag → b ≡ false → start_texts tag ≡ short_texts tag
start_short tag b e f = ap (λ t. if t then field_texts (value_in tag.tail (codes "instr")) else short_texts tag) (sym e ∙ f)

-- ---- the change of a run

change_in-in_front : (x : Item) (rest : Nodes) → change_in (in_front x rest) ≡ or_else (item_change_in x) (change_in rest)
change_in-in_front (bytes_item b) rest = refl
change_in-in_front (element_item tag kids) rest = at (is_run_change tag.kind)
  where
    at : (b : Bool) → (if b then Some (stamp_in tag.tail) else change_in rest) ≡ or_else (if b then Some (stamp_in tag.tail) else None) (change_in rest)
    at true = refl
    at false = refl
change_in-in_front (idle_item t) rest = change_in_idle t rest

run_change-in_front : (x : Item) (rest : Nodes) → run_change (in_front x rest) ≡ or_else (item_change x) (run_change rest)
run_change-in_front (bytes_item b) rest = refl
run_change-in_front (element_item tag kids) rest = refl
run_change-in_front (idle_item t) rest = run_change_idle t rest

pub change_in-here : (nodes : Nodes) (x : Item) (rest : Nodes) (stamp : Stamp) → nodes ≡ in_front x rest → Some stamp ≡ item_change_in x → Some stamp ≡ change_in nodes
change_in-here nodes x rest stamp e f =
    sym (ap change_in e ∙ change_in-in_front x rest ∙ ap (λ c. or_else c (change_in rest)) (sym f))

pub change_in-later : (nodes : Nodes) (x : Item) (rest : Nodes) → nodes ≡ in_front x rest → None ≡ item_change_in x → change_in rest ≡ change_in nodes
change_in-later nodes x rest e f = sym (ap change_in e ∙ change_in-in_front x rest ∙ ap (λ c. or_else c (change_in rest)) (sym f))

pub run_change-here : (nodes : Nodes) (x : Item) (rest : Nodes) (stamp : Stamp) → nodes ≡ in_front x rest → Some stamp ≡ item_change x → Some stamp ≡ run_change nodes
run_change-here nodes x rest stamp e f =
    sym (ap run_change e ∙ run_change-in_front x rest ∙ ap (λ c. or_else c (run_change rest)) (sym f))

pub run_change-later : (nodes : Nodes) (x : Item) (rest : Nodes) → nodes ≡ in_front x rest → None ≡ item_change x → run_change rest ≡ run_change nodes
run_change-later nodes x rest e f = sym (ap run_change e ∙ run_change-in_front x rest ∙ ap (λ c. or_else c (run_change rest)) (sym f))
