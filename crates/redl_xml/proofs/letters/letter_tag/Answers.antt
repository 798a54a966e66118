use Rattle.redl_xml.proofs.BareTags.{begun, reads_start, reads_empty}
use Rattle.redl_xml.proofs.letters.letter_tag.Goals as goal

pub returns-in-Some : goal.returns-in-Some
returns-in-Some c =
    let prefix = c.in_ok-prefix.ensures in
    let local = c.in_ok-local.ensures in
    let start = begun c.args.bytes.now c.in_ok-rest.rest.now c.in_ok-prefix.prefix.now c.in_ok-prefix.rest.now c.in_ok-rest-2.rest.now c.in_ok-local.local.now c.in_ok-local.end.now c.in_ok-rest.ensures prefix.0 prefix.1 c.in_ok-rest-2.ensures local.0 local.1 in
    reads_start c.args.bytes.now c.in_ok-prefix.prefix.now c.in_ok-local.local.now c.in_ok-local.end.now c.in-Some.rest.now start c.in-Some.ensures

pub returns : goal.returns
returns c =
    let prefix = c.in_ok-prefix.ensures in
    let local = c.in_ok-local.ensures in
    let start = begun c.args.bytes.now c.in_ok-rest.rest.now c.in_ok-prefix.prefix.now c.in_ok-prefix.rest.now c.in_ok-rest-2.rest.now c.in_ok-local.local.now c.in_ok-local.end.now c.in_ok-rest.ensures prefix.0 prefix.1 c.in_ok-rest-2.ensures local.0 local.1 in
    reads_empty c.args.bytes.now c.in_ok-prefix.prefix.now c.in_ok-local.local.now c.in_ok-local.end.now c.in_ok-rest-3.rest.now start c.in_ok-rest-3.ensures
