-- Where relationships lead by their ids, as a table tells it.
use Rattle.std.specs.Prelude.{ℕ, List, Option, Some, None}
use Rattle.std.specs.BTreeMap.{get_by}
use Rattle.std.specs.Cmp.Lexicographic.{slice_cmp}
use Rattle.std.specs.Ordering.{nat_cmp}
use Rattle.redl_relations.specs.declared.leads.Leads.{Leads}

abbrev pub lead_at : Leads → List ℕ → Option (Option ℕ)
lead_at leads id = get_by (λ k. slice_cmp nat_cmp id k.now) leads.places

abbrev pub lead_or : Option ℕ → Option (Option ℕ) → Option ℕ
lead_or other None = other
lead_or other (Some lead) = lead

-- the part to which the relationship with an id leads
abbrev pub lead : Leads → List ℕ → Option ℕ
lead leads id = lead_or None (lead_at leads id)
