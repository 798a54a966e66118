-- What becomes of a revision's members under a decision.
use Rattle.std.specs.Prelude.{ℕ, zero, suc, List, Bool, ◌&&◌, not, unwrap_or, slice_get, if◌then◌else◌, codes}
use Rattle.std.specs.List.{list_any}
use Rattle.redl_tree.specs.Model.Nodes.{Tag}
use Rattle.redl_tree.specs.Roles.Names.{is}
use Rattle.redl_tree.specs.Roles.Places.{is_open}
use Rattle.redl_tree.specs.Roles.Kinds.{is_old_content, is_free, is_leave}
use Rattle.redl_tree.specs.declared.kinds.Trace.{Trace}
use Rattle.redl_tree.specs.declared.kinds.Trace.TheVariants.{Ins, Del, From, To}
use Rattle.redl_tree.specs.declared.kinds.Kind.{Kind}
use Rattle.redl_tree.specs.declared.kinds.Kind.TheVariants.{Plain, Content, Mark, Row, Cell, Change, Marker}
use Rattle.redl_tree.specs.declared.kinds.Say.{Say}
use Rattle.redl_tree.specs.declared.kinds.Say.TheVariants.{Keep, Accept, Reject}
use Rattle.redl_tree.specs.declared.kinds.Fate.{Fate}
use Rattle.redl_tree.specs.declared.kinds.Fate.TheVariants.{Leave, Free, Cut, Clear, Restore, Drop}

-- What is new stays by an acceptance and goes by a rejection. What is old goes by an acceptance and stays
-- by a rejection. Undecided, it is left as it is.
abbrev pub trace_fate : Trace → Say → Fate
trace_fate trace Keep = Leave
trace_fate Ins Accept = Free
trace_fate To Accept = Free
trace_fate Del Accept = Cut
trace_fate From Accept = Cut
trace_fate Ins Reject = Cut
trace_fate To Reject = Cut
trace_fate Del Reject = Free
trace_fate From Reject = Free

-- A change is cleared by an acceptance, and the former properties are restored by a rejection.
-- The markers of a decided move are dropped.
abbrev pub fate : Kind → Say → Fate
fate Plain say = Leave
fate (Content trace) say = trace_fate trace say
fate (Mark trace) say = trace_fate trace say
fate (Row trace) say = trace_fate trace say
fate (Cell trace) say = trace_fate trace say
fate (Change prop) Keep = Leave
fate (Change prop) Accept = Clear
fate (Change prop) Reject = Restore
fate Marker Keep = Leave
fate Marker _ = Drop

-- the say of a revision; numbers begin with 1
abbrev pub say_of : List Say → ℕ → Say
say_of says zero = Keep
say_of says (suc n) = unwrap_or (slice_get says n) Keep

-- the fate of an element under these says
abbrev pub fate_of : List Say → Tag → Fate
fate_of says tag = fate tag.kind (say_of says tag.rev)

-- Deleted text is a `delText` and deleted field code a `delInstrText` (17.3.3, 17.16). Either is live text again
-- where some content revision of old matter round it, at any distance, is freed, and none round it is left.
abbrev pub is_revived : List Say → List Tag → Bool
is_revived says ancestors =
    is_open ancestors
    && list_any (λ tag. is_old_content tag.kind && is_free (fate_of says tag)) ancestors
    && not (list_any (λ tag. is_old_content tag.kind && is_leave (fate_of says tag)) ancestors)

-- deleted text as live text, and deleted field code as live field code
abbrev pub live_name : Tag → Tag
live_name tag =
    if is "delText" tag then record tag { local = codes "t" }
    else if is "delInstrText" tag then record tag { local = codes "instrText" }
    else tag

-- the tag of an element after the pass
abbrev pub renamed : List Say → List Tag → Tag → Tag
renamed says ancestors tag = if is_revived says ancestors then live_name tag else tag
