use Rattle.redl_bare.proofs.stamp_text.put_marks.Goals as goal

pub returns : goal.returns
returns g c = rw c.as_slice.ensures.value at c.put_list.ensures
