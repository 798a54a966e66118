-- A pass leaves idle nodes as they are, whatever is said and wherever they stand.
use Rattle.std.proofs.Common.{◌≡◌, ◌∙◌, refl, ap, List, ◌∷◌, Bool, true, false, ◌&&◌, None, if◌then◌else◌}
use Rattle.redl_tree.specs.Model.Nodes.{Tag, Nodes, no_nodes, bytes, element}
use Rattle.redl_tree.specs.Roles.Names.{is}
use Rattle.redl_tree.specs.Roles.Lists.{in_blocks, is_thick}
use Rattle.redl_tree.specs.Roles.Idle.{is_idle_in}
use Rattle.redl_tree.specs.Roles.Kinds.{is_leave}
use Rattle.redl_tree.specs.Decisions.Fates.{fate_of, live_name, renamed, is_revived}
use Rattle.redl_tree.specs.Decisions.Restored.{rejected}
use Rattle.redl_tree.specs.Decisions.Tables.{goes_at, para_is_cut}
use Rattle.redl_tree.specs.Decisions.Groups.{GroupPiece, para, thin, thick, grouped}
use Rattle.redl_tree.specs.Decisions.Pass.{kept_kids, element_pass, piece, pieces, pass}
use Rattle.redl_tree.specs.declared.kinds.Say.{Say}
use Rattle.redl_tree.proofs.Idle.Tags.{Idle, idle_parts, has-not}
use Rattle.redl_tree.proofs.Idle.Lists.{thick_none}

stays_one : (says : List Say) (ancestors : List Tag) (in_run : Bool) (tag : Tag) (kids : Nodes) → Idle in_run tag → goes_at says ancestors tag kids ≡ false
stays_one says ancestors in_run tag kids i = rw (has-not "tc" in_run tag i refl, has-not "tr" in_run tag i refl, has-not "tbl" in_run tag i refl, has-not "sdt" in_run tag i refl, has-not "customXml" in_run tag i refl) refl

same_name : (says : List Say) (ancestors : List Tag) (in_run : Bool) (tag : Tag) → Idle in_run tag → renamed says ancestors tag ≡ tag
same_name says ancestors in_run tag i = by_case (is_revived says ancestors) where
  live : live_name tag ≡ tag
  live = rw (has-not "delText" in_run tag i refl, has-not "delInstrText" in_run tag i refl) refl

  by_case : (b : Bool) → (if b then live_name tag else tag) ≡ tag
  by_case true = live
  by_case false = refl

none_rejected : (says : List Say) (in_run : Bool) (nodes : Nodes) → is_idle_in in_run nodes ≡ true → rejected says nodes ≡ None
none_rejected says in_run no_nodes h = refl
none_rejected says in_run (bytes b rest) h = none_rejected says in_run rest h
none_rejected says in_run (element tag kids rest) h =
    let p = idle_parts in_run tag kids rest h in
    rw p.own.kind (none_rejected says in_run rest p.later)

-- an idle element with idle kids is passed as it is
pub one_pass : (says : List Say) (ancestors : List Tag) (in_run : Bool) (tag : Tag) (kids : Nodes) → Idle in_run tag → is_idle_in (is "r" tag) kids ≡ true → element_pass says ancestors tag kids kids ≡ element tag kids no_nodes
one_pass says ancestors in_run tag kids i h =
    rw (stays_one says ancestors in_run tag kids i, same_name says ancestors in_run tag i, none_rejected says (is "r" tag) kids h, i.kind) refl

-- an idle element is thin: it stands between blocks and ends no group of paragraphs
pub thin_piece : (says : List Say) (ancestors : List Tag) (in_run : Bool) (tag : Tag) (kids passed : Nodes) → Idle in_run tag → piece says ancestors tag kids passed ≡ thin (element_pass says ancestors tag kids passed)
thin_piece says ancestors in_run tag kids passed i = by_tests (is "p" tag) (has-not "p" in_run tag i refl) (is_thick tag) (thick_none in_run tag i) where
  by_tests : (p : Bool) → p ≡ false → (heavy : Bool) → heavy ≡ false →
      (if p && in_blocks ancestors && is_leave (fate_of says tag) then para (renamed says ancestors tag) (para_is_cut says kids) (kept_kids says ancestors tag kids passed)
      else if heavy then thick (element_pass says ancestors tag kids passed) else thin (element_pass says ancestors tag kids passed))
      ≡ thin (element_pass says ancestors tag kids passed)
  by_tests p e heavy f = rw (e, f) refl

-- idle nodes are passed as they are
pub pass_idle : (says : List Say) (ancestors : List Tag) (in_run : Bool) (nodes : Nodes) → is_idle_in in_run nodes ≡ true → pass says ancestors nodes ≡ nodes
pass_idle says ancestors in_run no_nodes h = refl
pass_idle says ancestors in_run (bytes b rest) h = ap (bytes b) (pass_idle says ancestors in_run rest h)
pass_idle says ancestors in_run (element tag kids rest) h =
    let p = idle_parts in_run tag kids rest h in
    let later : List GroupPiece = pieces says ancestors rest in
    ap (λ (k : Nodes). grouped false (piece says ancestors tag kids k ∷ later)) (pass_idle says (tag ∷ ancestors) (is "r" tag) kids p.below)
    ∙ ap (λ (x : GroupPiece). grouped false (x ∷ later)) (thin_piece says ancestors in_run tag kids kids p.own)
    ∙ ap (λ (n : Nodes). grouped false (thin n ∷ later)) (one_pass says ancestors in_run tag kids p.own p.below)
    ∙ ap (element tag kids) (pass_idle says ancestors in_run rest p.later)
