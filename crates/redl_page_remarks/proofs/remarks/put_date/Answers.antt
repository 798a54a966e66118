use Rattle.redl_page_remarks.proofs.remarks.put_date.Goals as goal

pub returns-in-None : goal.returns-in-None
returns-in-None g c = rw c.in-None.is c.put_attribute.ensures
