use Rattle.std.proofs.Common.{◌+◌, Ok, Err, arith}
use Rattle.std.proofs.lemmas.Result.{err_from_is_err_and}
use Rattle.redl_inputs.proofs.FetchLaws.{front_too_long, front_whole}
use Rattle.redl_inputs.proofs.ReadLaws.{reads_after, reads_stops, fetch_stops}
use Rattle.redl_inputs.specs.Steps.{held, file, within}
use Rattle.redl_lines.specs.Failures.{caused, over}
use Rattle.redl_inputs.proofs.fetch.fetch_file.Goals as goal

pub returns-in_err-bytes-clause-read : goal.returns-in_err-bytes-clause-read
returns-in_err-bytes-clause-read g c =
    let p = err_from_is_err_and c.from_residual.result c.from_residual.ensures.1 in
    let name = c.args.name.now in
    rw (p.1, p.2) (reads_stops (λ whole reader files. within c.args.most c.args.limit whole)
    (fetch_stops (c.args.most + 1) (λ reader files. held name (files name)) c.in_err-bytes.ensures))

pub returns-then-len-most-clause-read : goal.returns-then-len-most-clause-read
returns-then-len-most-clause-read g c =
    let name = c.args.name.now in
    reads_after (Err (caused (over c.args.limit))) (λ reader files. file files name c.args.most c.args.limit) c.in_ok-bytes.ensures tt
    (λ reader files is front. front_too_long c.args.most c.args.limit (held name (files name)) c.in_ok-bytes.bytes.items front (omega arith))

pub returns-clause-read : goal.returns-clause-read
returns-clause-read g c =
    let name = c.args.name.now in
    reads_after (Ok c.in_ok-bytes.bytes.items) (λ reader files. file files name c.args.most c.args.limit) c.in_ok-bytes.ensures tt
    (λ reader files is front. front_whole c.args.most c.args.limit (held name (files name)) c.in_ok-bytes.bytes.items front (omega arith))
