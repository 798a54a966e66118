use Rattle.redl_xml.proofs.BareTags.{passes_start, passes_empty}
use Rattle.redl_xml.proofs.letters.pass_bare.Goals as goal
use Rattle.redl_xml.proofs.letters.pass_bare.Goals.{then-opens+in_ok-push, else-opens}

pub returns-clause-passed : goal.returns-clause-passed
returns-clause-passed c =
    let idle = c.is_idle_bare.ensures.idle c.if-not-is_idle_bare.false in
    elim c.if-opens.branch [
      | then-opens+in_ok-push w ↦ rw w.names-is (passes_start c.args.scopes.now c.args.names.now.items w.push.new.self.items c.in-Some.name c.in-Some.opens c.args.bytes.now c.in-Some.rest.now w.if-opens.true c.in-Some.ensures w.in_ok-push.ensures.items idle)
      | else-opens w ↦ rw w.names-is (passes_empty c.args.scopes.now c.args.names.now.items c.in-Some.name c.in-Some.opens c.args.bytes.now c.in-Some.rest.now w.if-opens.false c.in-Some.ensures idle)
    ]
