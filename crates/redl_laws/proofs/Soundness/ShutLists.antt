-- Lists in properties and below changes, where nothing is freed: what the pass leaves of them.
use Rattle.std.proofs.Common.{◌≡◌, ℕ, List, [], ◌∷◌, Bool, true, false, ◌&&◌, ◌||◌, inl, inr, Option, Some, None, is_some, option_map, refl, ap, ◌∙◌, true≢false, if◌then◌else◌}
use Rattle.std.proofs.lemmas.Bool.{or_parts, false_from_ne_true, and_right, and_left}
use Rattle.redl_tree.specs.Model.Nodes.{Tag, Nodes, no_nodes, bytes, element, ◌⊕◌}
use Rattle.redl_tree.specs.Roles.Names.{named, is, is_any}
use Rattle.redl_tree.specs.Roles.Places.{is_open, trace_of, row_trace_of, cell_trace_of, prop_of, role, in_mark_props, in_row_props, in_cell_props, placed, first_role, change_at}
use Rattle.redl_tree.specs.Roles.Lists.{is_wrapper, is_shell, in_blocks, in_rows, in_cells, place, nowhere}
use Rattle.redl_tree.specs.Roles.Kinds.{is_content, is_change}
use Rattle.redl_tree.specs.Decisions.Fates.{fate, fate_of, say_of, renamed}
use Rattle.redl_tree.specs.Decisions.Restored.{Rejected, rejected}
use Rattle.redl_tree.specs.Decisions.Tables.{goes_at}
use Rattle.redl_tree.specs.Decisions.Pass.{by_fate, kept_kids, element_pass, pass}
use Rattle.redl_tree.specs.Rules.Tests.{Test}
use Rattle.redl_tree.specs.Rules.Sound.{below_change, former_declares, test_8}
use Rattle.redl_tree.specs.declared.kinds.Trace.{Trace}
use Rattle.redl_tree.specs.declared.kinds.Kind.{Kind}
use Rattle.redl_tree.specs.declared.kinds.Kind.TheVariants.{Plain, Content, Mark, Row, Cell}
use Rattle.redl_tree.specs.declared.kinds.Say.{Say}
use Rattle.redl_tree.specs.declared.kinds.Fate.{Fate}
use Rattle.redl_tree.specs.declared.kinds.Fate.TheVariants.{Leave}
use Rattle.redl_tree.proofs.Decisions.PassLaws.{each, pass-each}
use Rattle.redl_tree.proofs.Roles.Fits.{Fits, true_false}
use Rattle.redl_laws.proofs.Soundness.Ancestors.{by_prop, implies_of, not_to, blocks_open}
use Rattle.redl_laws.proofs.Soundness.Walk.{Ground, rejected_found, change_shut, change_name}

pub shut_blocks : (ancestors : List Tag) → is_open ancestors ≡ false → in_blocks ancestors ≡ false
shut_blocks ancestors e = false_from_ne_true (in_blocks ancestors) (λ b. true_false (is_open ancestors) (blocks_open ancestors b) e)

pub shut_place : (ancestors : List Tag) → is_open ancestors ≡ false → place ancestors ≡ nowhere
shut_place [] e = absurd (true≢false e)
shut_place (tag ∷ ancestors) e = rw e refl

pub shut_shell : (ancestors : List Tag) (tag : Tag) → is_open ancestors ≡ false → is_shell ancestors tag ≡ false
shut_shell ancestors tag e = and_right (is_wrapper tag) (in_rows ancestors || in_cells ancestors) (rw (shut_place ancestors e) refl)

-- a list in properties is passed node by node
pub shut_pass : (says : List Say) (ancestors : List Tag) (nodes : Nodes) → is_open ancestors ≡ false → pass says ancestors nodes ≡ each says ancestors nodes
shut_pass says ancestors nodes e = pass-each says ancestors nodes (shut_blocks ancestors e)

-- Below a change

-- what rule 8 leaves a kid of a change
pub record NoChange (tag : Tag) : Type 0 where
  pub prop : is_some (prop_of tag) ≡ false
  pub names : is_any ("p" ∷ "tbl" ∷ "tr" ∷ "tc" ∷ "txbxContent" ∷ []) tag ≡ false

-- below a change stands no other one and no paragraph, table or text box, by rule 8
pub rule_8_of : (ancestors : List Tag) (tag : Tag) (kids : Nodes) → test_8 ancestors tag kids ≡ true → below_change ancestors ≡ true → NoChange tag
rule_8_of ancestors tag kids h e =
    let both = or_parts (is_some (prop_of tag)) (is_any ("p" ∷ "tbl" ∷ "tr" ∷ "tc" ∷ "txbxContent" ∷ []) tag)
    (false_from_ne_true _ (λ p. not_to (below_change ancestors) (implies_of _ _ h p) e)) in
    record { prop = both.0; names = both.1 }

none_of_some : {X : Type 0} (o : Option X) → is_some o ≡ false → o ≡ None
none_of_some None e = refl
none_of_some (Some x) e = absurd (true≢false e)

-- below a change nothing is rejected
pub below_none_rejected : (ext : Test) → (says : List Say) (ancestors : List Tag) (nodes : Nodes) → below_change ancestors ≡ true → Ground ext ancestors nodes → rejected says nodes ≡ None
below_none_rejected ext says ancestors nodes e g = at (rejected says nodes) refl
  where
    at : (u : Option Rejected) → rejected says nodes ≡ u → u ≡ None
    at None h = refl
    at (Some u) h =
        let f = rejected_found ext says ancestors nodes u g h in
        absurd (true_false (is_some (prop_of f.change)) (change_name ancestors f.change (ap is_change f.role_is)) (rule_8_of ancestors f.change f.kids f.rule_8 e).prop)

plain_role : (o m r c : Bool) (t tr tc : Option Trace) (ch : Option Kind) → o ≡ false → m ≡ false → r ≡ false → c ≡ false → ch ≡ None →
    first_role (placed o (option_map Content t) ∷ placed m (option_map Mark t) ∷ placed r (option_map Row tr) ∷ placed c (option_map Cell tc) ∷ ch ∷ []) ≡ Plain
plain_role o m r c t tr tc ch a b d e f = rw (a, b, d, e, f) refl

-- a kid of a change member has no role
pub change_plain : (ch : Tag) (ancestors : List Tag) (tag : Tag) → is_change (role ancestors ch) ≡ true → is_open (ch ∷ ancestors) ≡ false → NoChange tag →
    role (ch ∷ ancestors) tag ≡ Plain
change_plain ch ancestors tag r o n =
    let p = change_name ancestors ch r in
    plain_role (is_open (ch ∷ ancestors)) (in_mark_props (ch ∷ ancestors)) (in_row_props (ch ∷ ancestors)) (in_cell_props (ch ∷ ancestors)) (trace_of tag) (row_trace_of tag) (cell_trace_of tag) (change_at (ch ∷ ancestors) (prop_of tag)) o
    (and_left (is "rPr" ch) _ (by_prop (λ t. is "rPr" t ≡ false) ch p (refl, (refl, (refl, (refl, (refl, (refl, (refl, tt)))))))))
    (and_left (is "trPr" ch) _ (by_prop (λ t. is "trPr" t ≡ false) ch p (refl, (refl, (refl, (refl, (refl, (refl, (refl, tt)))))))))
    (and_left (is "tcPr" ch) _ (by_prop (λ t. is "tcPr" t ≡ false) ch p (refl, (refl, (refl, (refl, (refl, (refl, (refl, tt)))))))))
    (ap (change_at (ch ∷ ancestors)) (none_of_some (prop_of tag) n.prop))

-- the first name of a list
any_first : (p tbl tr tc t : Bool) → (p || (tbl || (tr || (tc || (t || false))))) ≡ false → (p ≡ false) × (tbl ≡ false) × (tr ≡ false) × (tc ≡ false)
any_first false false false false t e = (refl, refl, refl, refl)
any_first true tbl tr tc t e = absurd (true≢false e)
any_first false true tr tc t e = absurd (true≢false e)
any_first false false true tc t e = absurd (true≢false e)
any_first false false false true t e = absurd (true≢false e)

goes_no : (tc tr tbl shell g : Bool) → tc ≡ false → tr ≡ false → tbl ≡ false → shell ≡ false → ((tc || tr || tbl || shell) && g) ≡ false
goes_no tc tr tbl shell g a b c d = rw (a, b, c, d) refl

-- a kid of a change member stays as it is, with other kids
change_kid : (says : List Say) (ch : Tag) (ancestors : List Tag) (tag : Tag) (kids passed : Nodes) → is_change (role ancestors ch) ≡ true → is_open (ch ∷ ancestors) ≡ false →
    Fits (ch ∷ ancestors) tag → NoChange tag →
    element_pass says (ch ∷ ancestors) tag kids passed ≡ element tag (kept_kids says (ch ∷ ancestors) tag kids passed) no_nodes
change_kid says ch ancestors tag kids passed r o fit n = of_fit fit
  where
    names : (is "p" tag ≡ false) × (is "tbl" tag ≡ false) × (is "tr" tag ≡ false) × (is "tc" tag ≡ false)
    names = any_first (is "p" tag) (is "tbl" tag) (is "tr" tag) (is "tc" tag) (is "txbxContent" tag) n.names

    stays : (f : Fate) (ic g : Bool) (x y : Nodes) → f ≡ Leave → g ≡ false → by_fate f ic x (if g then no_nodes else y) ≡ y
    stays f ic g x y a b = rw (a, b) refl

    same : renamed says (ch ∷ ancestors) tag ≡ tag
    same = rw o refl

    of_kind : tag.kind ≡ Plain → element_pass says (ch ∷ ancestors) tag kids passed ≡ element tag (kept_kids says (ch ∷ ancestors) tag kids passed) no_nodes
    of_kind k =
        stays (fate_of says tag) (is_content tag.kind) (goes_at says (ch ∷ ancestors) tag kids) passed _ (ap (λ x. fate x (say_of says tag.rev)) k)
        (goes_no (is "tc" tag) (is "tr" tag) (is "tbl" tag) (is_shell (ch ∷ ancestors) tag) _ names.3 names.2 names.1 (shut_shell (ch ∷ ancestors) tag o))
        ∙ ap (λ t. element t (kept_kids says (ch ∷ ancestors) tag kids passed) no_nodes) same

    of_fit : Fits (ch ∷ ancestors) tag → element_pass says (ch ∷ ancestors) tag kids passed ≡ element tag (kept_kids says (ch ∷ ancestors) tag kids passed) no_nodes
    of_fit (inl k) = of_kind (k ∙ change_plain ch ancestors tag r o n)
    of_fit (inr m) = absurd (true_false (is_open (ch ∷ ancestors)) m.open_place o)

-- the kids of a change member keep their tags
pub former_pass : (ext : Test) → (declares : List ℕ → Bool) (says : List Say) (ch : Tag) (ancestors : List Tag) (name : List ℕ) (nodes : Nodes) → is_change (role ancestors ch) ≡ true → below_change (ch ∷ ancestors) ≡ true → Ground ext (ch ∷ ancestors) nodes →
    former_declares declares name (each says (ch ∷ ancestors) nodes) ≡ former_declares declares name nodes
former_pass ext declares says ch ancestors name no_nodes r e g = refl
former_pass ext declares says ch ancestors name (bytes b rest) r e g = former_pass ext declares says ch ancestors name rest r e g
former_pass ext declares says ch ancestors name (element tag kids rest) r e g =
    let n = rule_8_of (ch ∷ ancestors) tag kids g.0.rules.rule_8 e in
    let passed = pass says (tag ∷ (ch ∷ ancestors)) kids in
    ap (λ x. former_declares declares name (x ⊕ each says (ch ∷ ancestors) rest))
    (change_kid says ch ancestors tag kids passed r (change_shut (ch ∷ ancestors) e) g.0.fits n)
    ∙ ap (λ x. if named name tag then declares tag.tail else x) (former_pass ext declares says ch ancestors name rest r e g.2)
