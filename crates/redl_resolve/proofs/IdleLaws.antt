-- Idle elements in the pass: they give themselves, whether as several thin pieces or as one, and none of them goes or is a change.
use Rattle.std.proofs.Common.{◌≡◌, ◌∙◌, ◌+◌, refl, ap, List, ◌∷◌, ◌++◌, Bool, true, false, ◌&&◌, Option, arith, if◌then◌else◌}
use Rattle.redl_resolve.proofs.ChainLaws.{two_thin, none_thin, thin_before}
use Rattle.redl_resolve.specs.Chains.{elem_piece}
use Rattle.redl_resolve.specs.Counts.{visits}
use Rattle.redl_resolve.specs.Inside.Stays.{elem_stays, all_stay}
use Rattle.redl_tree.proofs.Idle.Tags.{Idle, idle_parts, has-not}
use Rattle.redl_tree.proofs.Idle.Lists.{NoneIs, name_none}
use Rattle.redl_tree.proofs.Idle.Pass.{one_pass, thin_piece, pass_idle}
use Rattle.redl_tree.specs.Decisions.Fates.{fate, say_of}
use Rattle.redl_tree.specs.Decisions.Groups.{GroupPiece, thin, paragraph_next, has_thick, grouped_from}
use Rattle.redl_tree.specs.Decisions.Pass.{piece, pieces}
use Rattle.redl_tree.specs.Decisions.Restored.{rejected, former_kids}
use Rattle.redl_tree.specs.Model.Count.{count}
use Rattle.redl_tree.specs.Model.Nodes.{Tag, Nodes, no_nodes, bytes, element, ◌⊕◌}
use Rattle.redl_tree.specs.Roles.Idle.{is_idle_in}
use Rattle.redl_tree.specs.Roles.Kinds.{is_restore}
use Rattle.redl_tree.specs.Roles.Names.{named, is}
use Rattle.redl_tree.specs.Roles.Places.{props_name}
use Rattle.redl_tree.specs.declared.kinds.Prop.{Prop}
use Rattle.redl_tree.specs.declared.kinds.Prop.TheVariants.{Run, Para, Sect, Table, Except, Row, Cell}
use Rattle.redl_tree.specs.declared.kinds.Say.{Say}

-- ---- pieces

idle_piece : (says : List Say) (ancestors : List Tag) (in_run : Bool) (tag : Tag) (kids : Nodes) → Idle in_run tag → is_idle_in (is "r" tag) kids ≡ true
    → elem_piece says ancestors tag kids ≡ thin (element tag kids no_nodes)
idle_piece says ancestors in_run tag kids i h =
    ap (piece says ancestors tag kids) (pass_idle says (tag ∷ ancestors) (is "r" tag) kids h)
    ∙ thin_piece says ancestors in_run tag kids kids i
    ∙ ap thin (one_pass says ancestors in_run tag kids i h)

-- the pieces of idle nodes come to the same as one that gives all of them, whatever comes behind
pub record AsOne (says : List Say) (ancestors : List Tag) (nodes : Nodes) (rest : List GroupPiece) : Type 0 where
  pub next : paragraph_next (pieces says ancestors nodes ++ rest) ≡ paragraph_next rest
  pub heavy : has_thick (pieces says ancestors nodes ++ rest) ≡ has_thick rest
  pub gives : (held : Option Nodes) → grouped_from false held (pieces says ancestors nodes ++ rest) ≡ grouped_from false held (thin nodes ∷ rest)

pub idle_as_one : (says : List Say) (ancestors : List Tag) (in_run : Bool) (nodes : Nodes) (rest : List GroupPiece) → is_idle_in in_run nodes ≡ true → AsOne says ancestors nodes rest
idle_as_one says ancestors in_run no_nodes rest h = record { next = refl; heavy = refl; gives = none_thin rest }
idle_as_one says ancestors in_run (bytes b more) rest h =
    let later = idle_as_one says ancestors in_run more rest h in
    let behind = pieces says ancestors more ++ rest in
    record {
      next = later.next;
      heavy = later.heavy;
      gives = λ held. thin_before (bytes b no_nodes) behind (thin more ∷ rest) later.gives held ∙ two_thin (bytes b no_nodes) more rest held;
    }
idle_as_one says ancestors in_run (element tag kids more) rest h =
    let p = idle_parts in_run tag kids more h in
    let later = idle_as_one says ancestors in_run more rest p.later in
    let behind = pieces says ancestors more ++ rest in
    let own = idle_piece says ancestors in_run tag kids p.own p.below in
    record {
      next = ap (λ (x : GroupPiece). paragraph_next (x ∷ behind)) own ∙ later.next;
      heavy = ap (λ (x : GroupPiece). has_thick (x ∷ behind)) own ∙ later.heavy;
      gives = λ held. ap (λ (x : GroupPiece). grouped_from false held (x ∷ behind)) own
          ∙ thin_before (element tag kids no_nodes) behind (thin more ∷ rest) later.gives held
          ∙ two_thin (element tag kids no_nodes) more rest held;
    }

-- ---- what is looked at

pub idle_visits : (says : List Say) (in_run : Bool) (x y : Nodes) → is_idle_in in_run x ≡ true → visits says (x ⊕ y) ≡ count x + visits says y
idle_visits says in_run no_nodes y h = omega arith
idle_visits says in_run (bytes b rest) y h = omega (arith, idle_visits says in_run rest y h)
idle_visits says in_run (element tag kids rest) y h =
    let p = idle_parts in_run tag kids rest h in
    let whole = ap (λ k. if is_restore (fate k (say_of says tag.rev)) then 0 else count kids) p.own.kind in
    omega (arith, whole, idle_visits says in_run rest y p.later)

-- ---- what stays

idle_elem_stays : (says : List Say) (ancestors : List Tag) (in_run : Bool) (tag : Tag) (kids : Nodes) → Idle in_run tag → elem_stays says ancestors tag kids ≡ true
idle_elem_stays says ancestors in_run tag kids i =
    rw (i.kind, has-not "p" in_run tag i refl, has-not "tc" in_run tag i refl, has-not "tr" in_run tag i refl, has-not "tbl" in_run tag i refl, has-not "sdt" in_run tag i refl, has-not "customXml" in_run tag i refl) refl

pub idle_stay : (says : List Say) (ancestors : List Tag) (in_run : Bool) (x y : Nodes) → is_idle_in in_run x ≡ true → all_stay says ancestors (x ⊕ y) ≡ all_stay says ancestors y
idle_stay says ancestors in_run no_nodes y h = refl
idle_stay says ancestors in_run (bytes b rest) y h = idle_stay says ancestors in_run rest y h
idle_stay says ancestors in_run (element tag kids rest) y h =
    let p = idle_parts in_run tag kids rest h in
    ap (λ b. b && all_stay says ancestors (rest ⊕ y)) (idle_elem_stays says ancestors in_run tag kids p.own)
    ∙ idle_stay says ancestors in_run rest y p.later

-- ---- changes

pub idle_rejected : (says : List Say) (in_run : Bool) (x y : Nodes) → is_idle_in in_run x ≡ true → rejected says (x ⊕ y) ≡ rejected says y
idle_rejected says in_run no_nodes y h = refl
idle_rejected says in_run (bytes b rest) y h = idle_rejected says in_run rest y h
idle_rejected says in_run (element tag kids rest) y h =
    let p = idle_parts in_run tag kids rest h in
    rw p.own.kind (idle_rejected says in_run rest y p.later)

-- no idle element in a change is former properties
no_former : (prop : Prop) → NoneIs false (named (props_name prop))
no_former Run = name_none "rPr" false refl
no_former Para = name_none "pPr" false refl
no_former Sect = name_none "sectPr" false refl
no_former Table = name_none "tblPr" false refl
no_former Except = name_none "tblPrEx" false refl
no_former Row = name_none "trPr" false refl
no_former Cell = name_none "tcPr" false refl

pub idle_former : (prop : Prop) (x y : Nodes) → is_idle_in false x ≡ true → former_kids (props_name prop) (x ⊕ y) ≡ former_kids (props_name prop) y
idle_former prop no_nodes y h = refl
idle_former prop (bytes b rest) y h = idle_former prop rest y h
idle_former prop (element tag kids rest) y h =
    let p = idle_parts false tag kids rest h in
    ap (λ b. if b then kids else former_kids (props_name prop) (rest ⊕ y)) (no_former prop tag p.own) ∙ idle_former prop rest y p.later
