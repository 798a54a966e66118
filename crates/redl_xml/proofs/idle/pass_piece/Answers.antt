use Rattle.std.proofs.Common.{◌≡◌, ◌∙◌, ◌+◌, ◌∷◌, Bool, List, ℕ, Some, max, length, refl, sym, ap, subst, arith}
use Rattle.redl_tree.specs.declared.kinds.Space.TheVariants.{W}
use Rattle.redl_grammar.specs.Names.{Name}
use Rattle.redl_xml.specs.declared.idle.Idle.{Idle}
use Rattle.redl_xml.specs.Inside.Passing.{HoldsOf, IsIdleIn, is_run_open, names_view}
use Rattle.redl_xml.proofs.FoldLoop.{last_popped}
use Rattle.redl_xml.proofs.idle.pass_piece.Goals as goal

pub with_element-requires : goal.with_element-requires
with_element-requires c = c.requires

pub with_element-requires-in-Empty : goal.with_element-requires-in-Empty
with_element-requires-in-Empty c = c.requires

pub returns-in_ok-push-in-Start-clause-passed : goal.returns-in_ok-push-in-Start-clause-passed
returns-in_ok-push-in-Start-clause-passed c =
    let names = c.args.names.now.items in
    let tag = c.in-Start.tag in
    let P : Bool → Type 0 = λ t. HoldsOf (IsIdleIn c.args.scopes.now) t W tag.name tag.tail in
    let run : c.is_run_open.result ≡ is_run_open W (names_view names) = rw c.deref.ensures.value at c.is_run_open.ensures in
    let grown = last_popped c.push.new.self.items names c.name.result c.in_ok-push-in-Start.ensures.items ∙ ap (λ (n : Name). n ∷ names_view names) c.name.ensures in
    let long : c.len-depth.result ≡ length names = omega (arith, c.len-depth.ensures, c.args.names.now.ok.0) in
    rw c.in-Start.is (record {
      passes = record { taken = ap (λ (ns : List Name). Some ns) (sym grown); holds = subst P run (c.is_idle_start.ensures.idle c.if-not-is_idle_start.false) };
      nodes = ap (λ (x : Idle). x.nodes) c.with_element.ensures;
      elems = ap (λ (x : Idle). x.elems) c.with_element.ensures;
      deep = ap (λ (x : Idle). x.deepest) c.with_element.ensures ∙ ap (λ (n : ℕ). max c.args.now.deepest (n + 1)) long;
    })

pub returns-else-not-is_idle_start-2-clause-passed : goal.returns-else-not-is_idle_start-2-clause-passed
returns-else-not-is_idle_start-2-clause-passed c =
    let names = c.args.names.now.items in
    let tag = c.in-Empty.tag in
    let P : Bool → Type 0 = λ t. HoldsOf (IsIdleIn c.args.scopes.now) t W tag.name tag.tail in
    let run : c.is_run_open-in-Empty.result ≡ is_run_open W (names_view names) = rw c.deref-in-Empty.ensures.value at c.is_run_open-in-Empty.ensures in
    let long : c.len-depth.result ≡ length names = omega (arith, c.len-depth.ensures, c.args.names.now.ok.0) in
    rw c.in-Empty.is (record {
      passes = record { taken = refl; holds = subst P run (c.is_idle_start-in-Empty.ensures.idle c.if-not-is_idle_start-2.false) };
      nodes = ap (λ (x : Idle). x.nodes) c.with_element-in-Empty.ensures;
      elems = ap (λ (x : Idle). x.elems) c.with_element-in-Empty.ensures;
      deep = ap (λ (x : Idle). x.deepest) c.with_element-in-Empty.ensures ∙ ap (λ (n : ℕ). max c.args.now.deepest (n + 1)) long;
    })
