use Rattle.redl_inputs.proofs.FetchLaws.{fetched, fetched_in_vain}
use Rattle.redl_inputs.proofs.fetch.fetch_front.Goals as goal

pub returns-in-Ok : goal.returns-in-Ok
returns-in-Ok g c =
    fetched c.args.name.now c.args.cap c.in-Ok.bytes.items c.in-Ok.ensures.front c.in-Ok.ensures.same c.in-Ok.ensures.cause c.in-Ok.ensures.noted

pub returns-in-Err : goal.returns-in-Err
returns-in-Err g c =
    rw c.unread_file.ensures (fetched_in_vain _ c.args.name.now c.args.cap c.in-Err.error c.in-Err.ensures.missing c.in-Err.ensures.same c.in-Err.ensures.cause c.in-Err.ensures.noted)
